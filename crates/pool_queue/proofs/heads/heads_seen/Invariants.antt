use Rattle.std.proofs.Common.{◌≡◌, drop}
use Rattle.pool_queue.specs.Heads.{candidates_of, heads_of}
use Rattle.pool_queue.proofs.Best.{beside}
use Rattle.pool_queue.proofs.heads.heads_seen.Given as goal

abbrev pub invariant-loop-line : goal.invariant-loop-line
invariant-loop-line g l =
    beside l.candidates (candidates_of l.definitions (g.R.Room.holdings l.room) (heads_of (drop l.line-index l.lines)))
    ≡ candidates_of l.definitions (g.R.Room.holdings l.room) (heads_of l.lines)

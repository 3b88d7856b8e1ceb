-- The heads of the pools, as far as admission asks.
use Rattle.std.specs.Prelude.{ℕ, Bool, ◌&&◌, ◌||◌, not, ◌==◌, List, [], ◌∷◌, Option, Some, None, option_map, if◌then◌else◌}
use Rattle.std.specs.Int.Signed.{lt_z}
use Rattle.rm_base.specs.declared.definitions.Definitions.{Definitions}
use Rattle.rm_rules.specs.declared.state.Judged.{Judged}
use Rattle.rm_rules.specs.Holdings.{Holdings}
use Rattle.rm_rules.specs.Admission.{priority_of, judged_for}
use Rattle.pool_queue.specs.declared.lines.Arrived.{Arrived}
use Rattle.pool_queue.specs.declared.lines.Line.{Line}
use Rattle.pool_queue.specs.declared.heads.Head.{Head}
use Rattle.pool_queue.specs.declared.heads.Candidates.{Candidates}

-- a waiting query as a head
abbrev pub head_of : Definitions → Holdings → Arrived → Head
head_of d h a =
    record { query = a.waiter.query; number = a.number; priority = priority_of d a.waiter; judged = judged_for d h a.waiter }

-- it fits, and needs none of GENERAL's bytes
abbrev pub needs_none : Judged → Bool
needs_none j = j.fits && j.need == 0

-- the first stands before the second in queue order: by priority, falling, and by the numbers of arrival where priorities are equal
abbrev pub stands_before : Head → Head → Bool
stands_before a b = lt_z b.priority a.priority || (not (lt_z a.priority b.priority) && lt_z a.number b.number)

-- the first in queue order of two
abbrev pub first_of : Option Head → Option Head → Option Head
first_of best None = best
first_of None (Some head) = Some head
first_of (Some best) (Some head) = if stands_before head best then Some head else Some best

-- the head, if it passes the test
abbrev pub if_passes : (Judged → Bool) → Head → Option Head
if_passes test head = if test head.judged then Some head else None

-- the candidates among other heads and this one
abbrev pub with_head : Candidates → Head → Candidates
with_head c head = record {
  let_in = first_of c.let_in (if_passes (λ j. j.poolfit) head);
  needs_none = first_of c.needs_none (if_passes needs_none head);
}

-- the first that its pool lets in, if it fits, else the first that fits by its pool alone
abbrev pub entitled : Candidates → Option ℕ
entitled c = elim c.let_in [
  | Some head ↦ if head.judged.fits then Some head.query else option_map (λ h. h.query) c.needs_none
  | None ↦ option_map (λ h. h.query) c.needs_none
]

-- the first of a list before others
abbrev pub with_first : List Arrived → List Arrived → List Arrived
with_first [] others = others
with_first (a ∷ rest) others = a ∷ others

-- the first of each list
abbrev pub heads_of : List Line → List Arrived
heads_of [] = []
heads_of (l ∷ ls) = with_first l.waiters (heads_of ls)

-- the first in queue order of these that passes the test
abbrev pub best_of : Definitions → Holdings → (Judged → Bool) → List Arrived → Option Head
best_of d h test [] = None
best_of d h test (a ∷ rest) = first_of (if_passes test (head_of d h a)) (best_of d h test rest)

-- the candidates among these
abbrev pub candidates_of : Definitions → Holdings → List Arrived → Candidates
candidates_of d h arrived = record { let_in = best_of d h (λ j. j.poolfit) arrived; needs_none = best_of d h needs_none arrived }

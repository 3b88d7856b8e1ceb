use Rattle.std.proofs.Common.{not, List, ap, ◌∙◌}
use Rattle.std.specs.List.{list_all}
use Rattle.rm_rules.specs.declared.state.Waiter.{Waiter}
use Rattle.rm_rules.specs.Sound.{has_pool}
use Rattle.rm_rules.specs.Admission.{first_in_queue}
use Rattle.pool_queue.specs.declared.lines.Arrived.{Arrived}
use Rattle.pool_queue.specs.declared.lines.Line.{Line}
use Rattle.pool_queue.specs.declared.heads.Candidates.{Candidates}
use Rattle.pool_queue.specs.Heads.{entitled, heads_of, candidates_of}
use Rattle.pool_queue.specs.Queue.{is_large, query_of}
use Rattle.pool_queue.proofs.Scan.{entitled-lines, heads-pass, none-passes}
use Rattle.pool_queue.proofs.waiting.Queue.first_entitled.Goals as goal

pub heads_seen-requires-clause-known : goal.heads_seen-requires-clause-known
heads_seen-requires-clause-known g c =
    let d = c.args.definitions.now in
    ap (λ (ls : List Line). list_all (λ (a : Arrived). has_pool d a.waiter.pool) (heads_of ls)) c.deref.ensures.value
    ∙ heads-pass (λ (w : Waiter). has_pool d w.pool) c.self.inside.lines.items c.self.invariant.ordered
    (ap (λ (ws : List Waiter). list_all (λ (w : Waiter). has_pool d w.pool) ws) c.self.view_is ∙ c.requires.known)

pub heads_seen-requires-clause-small : goal.heads_seen-requires-clause-small
heads_seen-requires-clause-small g c =
    let d = c.args.definitions.now in
    ap (λ (ls : List Line). list_all (λ (a : Arrived). not (is_large d a.waiter)) (heads_of ls)) c.deref.ensures.value
    ∙ heads-pass (λ (w : Waiter). not (is_large d w)) c.self.inside.lines.items c.self.invariant.ordered
    (ap (λ (ws : List Waiter). list_all (λ (w : Waiter). not (is_large d w)) ws) c.self.view_is ∙ none-passes (is_large d) c.args.self.now c.requires.small)

pub returns : goal.returns
returns g c =
    let d = c.args.definitions.now in
    let k = g.R.Room.holdings c.args.room.now in
    record {
      value = c.entitled.ensures
          ∙ ap (λ (x : Candidates). entitled x) (c.heads_seen.ensures ∙ ap (λ (ls : List Line). candidates_of d k (heads_of ls)) c.deref.ensures.value)
          ∙ entitled-lines d k c.self.inside.lines.items c.self.invariant.ordered
          ∙ ap (λ (ws : List Waiter). query_of (first_in_queue d k ws)) c.self.view_is;
    }

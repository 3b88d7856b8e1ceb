-- Every pool that is named stays there while queries are admitted and end in the queue.
use Rattle.std.proofs.Common.{◌≡◌, true, eqb, List, refl, subst}
use Rattle.std.specs.List.{list_all}
use Rattle.rm_base.specs.declared.reply.End.{End}
use Rattle.rm_base.specs.Ranges.{passes_if_set}
use Rattle.rm_rules.specs.declared.state.Phase.TheVariants as phase
use Rattle.rm_rules.specs.declared.state.Waiter.{Waiter}
use Rattle.rm_rules.specs.State.{State}
use Rattle.rm_rules.specs.Admission.{admitted, started}
use Rattle.rm_rules.specs.Deadlines.{ended_as}
use Rattle.rm_rules.specs.Sound.{has_pool}
use Rattle.rm_rules.specs.Healthy.{AreThere}
use Rattle.rm_rules.proofs.Taken.{all_without, all_push, all_among}
use Rattle.rm_rules.proofs.Known.{chosen-with}
use Rattle.rm_rules.proofs.Queue.{IsAmong}

-- the pool of a waiting query is there
pub waiting-there : (s : State) (w : Waiter) → IsAmong w s.waiting → AreThere s.definitions s.sessions s.waiting s.running → has_pool s.definitions w.pool ≡ true
waiting-there s w among there =
    all_among (λ x. has_pool s.definitions x.pool) among.front among.rest w
    (subst (λ (l : List Waiter). list_all (λ x. has_pool s.definitions x.pool) l ≡ true) among.split there.waits)

pub pools-ended : (end : End) (s : State) (w : Waiter) → AreThere s.definitions s.sessions s.waiting s.running
    → AreThere s.definitions (ended_as end s w).sessions (ended_as end s w).waiting (ended_as end s w).running
pools-ended end s w there = record {
  runs = there.runs;
  waits = all_without (λ x. has_pool s.definitions x.pool) (λ x. eqb x.session w.session) s.waiting there.waits;
  chosen = chosen-with s.definitions w.session (phase.Ended end) s.sessions there.chosen;
  leaves = there.leaves;
}

pub pools-admitted : (s : State) (w : Waiter) → IsAmong w s.waiting → AreThere s.definitions s.sessions s.waiting s.running
    → AreThere s.definitions (admitted s w).sessions (admitted s w).waiting (admitted s w).running
pools-admitted s w among there = record {
  runs = all_push (λ r. has_pool s.definitions r.pool) s.running (started s w) there.runs (waiting-there s w among there);
  waits = all_without (λ x. has_pool s.definitions x.pool) (λ x. eqb x.session w.session) s.waiting there.waits;
  chosen = chosen-with s.definitions w.session phase.Running s.sessions there.chosen;
  leaves = all_push (λ r. passes_if_set (has_pool s.definitions) r.leaving) s.running (started s w) there.leaves refl;
}

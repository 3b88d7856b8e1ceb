use Rattle.std.proofs.Common.{◌∙◌, List, refl, ap, map, arith}
use Rattle.rm_base.specs.declared.rows.PoolRow.{PoolRow}
use Rattle.rm_rules.specs.State.{none_ended}
use Rattle.machine.proofs.Starting.{tied-start, seen-start}
use Rattle.machine.proofs.machine.Machine.new.Goals as goal

pub invariant_of-result : goal.invariant_of-result
invariant_of-result c =
    tied-start _ c.in_ok-runs.ensures.accounts c.in_ok-runs.ensures.running c.in_ok-lists.ensures.journal refl (omega (arith, c.in_ok-lists.ensures.room))

pub returns : goal.returns
returns c = seen-start _ _ (record {
  accounts = c.in_ok-runs.ensures.accounts;
  in_force = refl;
  actual = refl;
  sessions = c.in_ok-lists.ensures.sessions;
  running = c.in_ok-runs.ensures.running;
  waiting = c.in_ok-lists.ensures.waiting;
  clock = c.of.ensures;
  counters = c.in_ok-counters.ensures ∙ ap (λ (l : List PoolRow). map (λ (_ : PoolRow). none_ended) l) c.rows.ensures.rows;
  moves = c.in_ok-lists.ensures.moves;
  journal = c.in_ok-lists.ensures.journal;
  last_session = refl;
  last_query = refl;
})

use Rattle.std.proofs.Common.{sym, subst, ◌∙◌}
use Rattle.rm_rules.specs.Meaning.{SelectOutcome}
use Rattle.grouping.specs.Ending.{IsGroupedInOrder}
use Rattle.grouping.specs.declared.groups.GroupsEnd.{GroupsEnd}
use Rattle.grouping.specs.declared.groups.GroupsEnd.TheVariants.{Rows}
use Rattle.query_run.specs.Running.{IsEndOf}
use Rattle.query_run.specs.Running.RunOutcome.{Meant}
use Rattle.query_run.proofs.Gathered.{groups_end}
use Rattle.query_run.proofs.gathering.end_of.Goals as goal

pub returns-in-Rows-clause-outcome : goal.returns-in-Rows-clause-outcome
returns-in-Rows-clause-outcome c = λ spec order rows given.
    let rows_of : IsGroupedInOrder spec order rows (Rows c.in-Rows.rows) = subst (λ (x : GroupsEnd). IsGroupedInOrder spec order rows x) c.in-Rows.is given in
    subst (λ (o : SelectOutcome). IsEndOf (Meant o) c.answered.result)
    (sym (groups_end order spec rows c.into_vec.result.items rows_of.0 (c.into_vec.ensures ∙ rows_of.1)))
    c.answered.ensures.outcome

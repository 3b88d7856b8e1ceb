use Rattle.std.proofs.Common.{sym, subst}
use Rattle.rm_rules.specs.Meaning.{SelectOutcome}
use Rattle.query_run.specs.declared.gathering.Gathering.{Gathering}
use Rattle.query_run.specs.Gathering.{Gathers, Groups, spec_of}
use Rattle.query_run.specs.Running.{IsEndOf}
use Rattle.query_run.specs.Running.RunOutcome.{Meant}
use Rattle.query_run.proofs.Gathered.{groups_meant, own_room}
use Rattle.query_run.proofs.gathering.Gathering.finish.Goals as goal

pub returns-in_ok-end-in-Grouped-clause-ok : goal.returns-in_ok-end-in-Grouped-clause-ok
returns-in_ok-end-in-Grouped-clause-ok c = λ room rows few given.
    let have : Groups c.args.select.now room rows c.in-Grouped.groups = subst (λ (x : Gathering). Gathers c.args.select.now room rows x) c.in-Grouped.is given in
    subst (λ (o : SelectOutcome). IsEndOf (Meant o) c.end_of.result) (sym (groups_meant c.args.select.now room rows c.in-Grouped.groups have))
    (c.end_of.ensures.outcome (spec_of c.args.select.now.items have.keys) c.args.select.now.order rows
    (c.in_ok-end-in-Grouped.ensures.ok (spec_of c.args.select.now.items have.keys) rows few (own_room c.args.select.now room rows c.in-Grouped.groups have)))

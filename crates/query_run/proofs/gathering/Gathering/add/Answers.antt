use Rattle.std.proofs.Common.{subst}
use Rattle.tuples.specs.Tuple.{tuple_values}
use Rattle.query_run.specs.declared.gathering.Gathering.{Gathering}
use Rattle.query_run.specs.Gathering.{Gathers}
use Rattle.query_run.proofs.Gathered.{batch_added, groups_added, groups_spilled}
use Rattle.query_run.proofs.gathering.Gathering.add.Goals as goal

pub returns-in-Shown-clause-ok : goal.returns-in-Shown-clause-ok
returns-in-Shown-clause-ok c = λ room rows few given.
    batch_added c.add_shown.result c.args.select.now c.as_slice.result.now room rows (tuple_values c.args.tuple) c.in-Shown.batch c.add_shown.new.self c.as_slice.ensures
    (subst (λ (x : Gathering). Gathers c.args.select.now room rows x) c.in-Shown.is given) c.add_shown.ensures.takes c.add_shown.ensures.room c.add_shown.ensures.fits

pub returns-in-Grouped-clause-ok : goal.returns-in-Grouped-clause-ok
returns-in-Grouped-clause-ok c = λ room rows few given.
    groups_added c.add.result c.args.select.now room rows (tuple_values c.args.tuple) c.in-Grouped.groups c.add.new.self
    (subst (λ (x : Gathering). Gathers c.args.select.now room rows x) c.in-Grouped.is given) c.add.ensures.ok c.add.ensures.fits few

pub returns-in-Grouped-clause-spills : goal.returns-in-Grouped-clause-spills
returns-in-Grouped-clause-spills c = λ room rows given.
    groups_spilled c.add.result c.args.select.now room rows (tuple_values c.args.tuple) c.in-Grouped.groups
    (subst (λ (x : Gathering). Gathers c.args.select.now room rows x) c.in-Grouped.is given) c.add.ensures.spills

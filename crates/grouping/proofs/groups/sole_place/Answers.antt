use Rattle.std.proofs.Common.{rules, ◌∙◌, ap, sym}
use Rattle.rm_base.specs.ValueLaws.{same_row-eq}
use Rattle.rm_base.specs.Values.{same_row}
use Rattle.rm_rules.specs.Comparing.{columns}
use Rattle.tuples.specs.Tuple.{tuple_values}
use Rattle.grouping.proofs.WalkLemmas.{key_at}
use Rattle.grouping.proofs.groups.sole_place.Goals as goal

pub returns-then-has_key-clause-found : goal.returns-then-has_key-clause-found
returns-then-has_key-clause-found c =
    key_at c.args.groups.now 0 c.index-groups-0.result (search rules) c.index-groups-0.is
    ∙ sym (same_row-eq (columns c.args.keys.now (tuple_values c.args.tuple)) c.index-groups-0.result.0
    (ap (λ g. same_row (columns c.args.keys.now (tuple_values c.args.tuple)) g.0) c.index-groups-0.is ∙ sym c.has_key.ensures ∙ c.if-has_key.true))

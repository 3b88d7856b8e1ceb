use Rattle.std.proofs.Common.{arith, rules, ◌≡◌}
use Rattle.rm_rules.specs.Definitions.{reserved}
use Rattle.rm_rules.proofs.Sizes.{reserved_most}
use Rattle.rm_rules.proofs.readings.reserved.Goals as goal

pub sum-requires-clause-fits : goal.sum-requires-clause-fits
sum-requires-clause-fits c =
    let fits = reserved_most c.args.definitions.now c.rows.ensures.room c.requires in
    search rules

pub returns-clause-most : goal.returns-clause-most
returns-clause-most c =
    let fits = reserved_most c.args.definitions.now c.rows.ensures.room c.requires in
    let is : c.sum.result ≡ reserved c.args.definitions.now = search rules in
    omega arith

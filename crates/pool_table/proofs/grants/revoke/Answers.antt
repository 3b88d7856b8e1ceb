use Rattle.std.proofs.Common.{ap, not, List, rules}
use Rattle.std.proofs.lemmas.Fn.{filter_same}
use Rattle.rm_base.specs.declared.definitions.Definitions.{Definitions}
use Rattle.rm_base.specs.declared.rows.GrantRow.{GrantRow}
use Rattle.rm_rules.specs.Sound.{same_grant}
use Rattle.pool_table.proofs.grants.revoke.Goals as goal

pub returns : goal.returns
returns c =
    let kept = filter_same _ (λ g. not (same_grant c.args.grant g)) _ (λ x b f' k. search rules) _ _ c.retain.ensures in
    ap (λ (grants : List GrantRow). let new : Definitions = record c.args.definitions.now { grants = grants } in new) kept

use Rattle.std.proofs.Common.{not, rules}
use Rattle.std.proofs.lemmas.Fn.{filter_same}
use Rattle.rm_base.specs.Name.{same_name}
use Rattle.rm_base.specs.declared.rows.RoleRow.{RoleRow}
use Rattle.rm_rules.specs.UserStatements.{names_role}
use Rattle.pool_table.proofs.roles.drop_role.Goals as goal

pub returns : goal.returns
returns c =
    let roles = filter_same _ (λ (r : RoleRow). not (same_name r.name c.args.name)) _ (λ x b f' k. search rules) _ _ c.retain.ensures in
    let grants = filter_same _ (λ g. not (names_role c.args.name g)) _ (λ x b f' k. search rules) _ _ c.retain-2.ensures in
    cc

use Rattle.std.proofs.Common.{not, rules}
use Rattle.std.proofs.lemmas.Fn.{filter_same}
use Rattle.rm_base.specs.Name.{same_name}
use Rattle.rm_base.specs.declared.rows.UserRow.{UserRow}
use Rattle.rm_rules.specs.UserStatements.{names_user}
use Rattle.pool_table.proofs.users.drop_user.Goals as goal

pub returns : goal.returns
returns c =
    let users = filter_same _ (λ (u : UserRow). not (same_name u.name c.args.name)) _ (λ x b f' k. search rules) _ _ c.retain.ensures in
    let grants = filter_same _ (λ g. not (names_user c.args.name g)) _ (λ x b f' k. search rules) _ _ c.retain-2.ensures in
    cc

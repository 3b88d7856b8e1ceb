use Rattle.std.proofs.Common.{◌∙◌, ap, sym, subst}
use Rattle.rm_base.specs.declared.statement.Statement.{Statement}
use Rattle.rm_rules.specs.Sound.{IsSound}
use Rattle.rm_rules.specs.Acceptance.{left_by}
use Rattle.pool_table.proofs.change.Goals as goal

pub grant_usage-requires : goal.grant_usage-requires
grant_usage-requires c = (subst (λ (s : Statement). IsSound (left_by c.args.definitions.now s)) c.in-GrantUsage.is c.requires.left).grant_count

pub returns-in-GrantUsage : goal.returns-in-GrantUsage
returns-in-GrantUsage c = c.grant_usage.ensures ∙ ap (λ (s : Statement). left_by c.args.definitions.now s) (sym c.in-GrantUsage.is)

pub returns-in-RevokeUsage : goal.returns-in-RevokeUsage
returns-in-RevokeUsage c = c.revoke_usage.ensures ∙ ap (λ (s : Statement). left_by c.args.definitions.now s) (sym c.in-RevokeUsage.is)

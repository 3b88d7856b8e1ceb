use Rattle.std.proofs.Common.{◌++◌, sym, ◌∙◌, ap}
use Rattle.std.specs.String.{string_bytes}
use Rattle.rm_base.specs.declared.statement.Statement.TheVariants as statement
use Rattle.pool_sql.specs.Printed.{pool_settings, settings_text, statement_text}
use Rattle.pool_sql.proofs.Results.{said_as}
use Rattle.pool_sql.proofs.printing.statement_text.Goals as goal

pub returns-in_ok-text-in-CreatePool : goal.returns-in_ok-text-in-CreatePool
returns-in_ok-text-in-CreatePool c =
    let change = c.in-CreatePool.change in
    said_as string_bytes c.with_pool.result (string_bytes c.in_ok-text-in-CreatePool.text ++ settings_text (pool_settings change))
    (statement_text c.args.statement.now)
    (ap (λ l. l ++ settings_text (pool_settings change)) c.in_ok-text-in-CreatePool.ensures.ok ∙ sym (ap statement_text c.in-CreatePool.is))
    c.with_pool.ensures

pub returns-in_ok-text-in-AlterPool : goal.returns-in_ok-text-in-AlterPool
returns-in_ok-text-in-AlterPool c =
    let change = c.in-AlterPool.change in
    said_as string_bytes c.with_pool-in-AlterPool.result (string_bytes c.in_ok-text-in-AlterPool.text ++ settings_text (pool_settings change))
    (statement_text c.args.statement.now)
    (ap (λ l. l ++ settings_text (pool_settings change)) c.in_ok-text-in-AlterPool.ensures.ok ∙ sym (ap statement_text c.in-AlterPool.is))
    c.with_pool-in-AlterPool.ensures

pub returns-in-AlterRole : goal.returns-in-AlterRole
returns-in-AlterRole c =
    said_as string_bytes c.role_text.result (statement_text (statement.AlterRole c.in-AlterRole.name c.in-AlterRole.pool))
    (statement_text c.args.statement.now) (sym (ap statement_text c.in-AlterRole.is)) c.role_text.ensures

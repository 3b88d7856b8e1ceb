use Rattle.std.proofs.Common.{◌++◌, ap, codes}
use Rattle.std.specs.String.{string_bytes}
use Rattle.rm_base.specs.Name.{name_text}
use Rattle.rm_base.specs.declared.statement.Statement.TheVariants as statement
use Rattle.pool_sql.specs.Printed.{statement_text, value_text}
use Rattle.pool_sql.proofs.Results.{said_as}
use Rattle.pool_sql.proofs.printing.role_text.Goals as goal

pub returns : goal.returns
returns c =
    said_as string_bytes c.format.result
    (codes "ALTER ROLE " ++ (name_text c.args.name ++ (codes " RESOURCE POOL " ++ value_text c.name_or_none-pool.result)))
    (statement_text (statement.AlterRole c.args.name c.args.pool))
    (ap (λ v. codes "ALTER ROLE " ++ (name_text c.args.name ++ (codes " RESOURCE POOL " ++ value_text v))) c.name_or_none-pool.ensures)
    c.format.ensures.ok

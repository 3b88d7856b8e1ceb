use Rattle.std.specs.String.{string_bytes}
use Rattle.pool_sql.specs.Printed.{statement_text}
use Rattle.pool_sql.specs.Text.{SpellsText}
use Rattle.pool_sql.proofs.Prints.{well_formed-spells}
use Rattle.pool_sql.proofs.Results.{said_all}
use Rattle.pool_sql.proofs.printing.print_statement.Goals as goal

pub returns-clause-spells : goal.returns-clause-spells
returns-clause-spells c =
    let st = c.args.statement.now in
    said_all (λ text. SpellsText text st) string_bytes c.statement_text.result (statement_text st)
    (well_formed-spells st c.requires) c.statement_text.ensures

use Rattle.std.proofs.Common.{◌++◌, ap}
use Rattle.std.specs.String.{string_bytes}
use Rattle.pool_sql.specs.Printed.{pool_settings, settings_text}
use Rattle.pool_sql.proofs.Results.{said_as}
use Rattle.pool_sql.proofs.printing.with_pool.Goals as goal

pub returns : goal.returns
returns c =
    said_as string_bytes c.with_settings.result (string_bytes c.args.text ++ settings_text c.pool_settings.result)
    (string_bytes c.args.text ++ settings_text (pool_settings c.args.change.now))
    (ap (λ l. string_bytes c.args.text ++ settings_text l) c.pool_settings.ensures) c.with_settings.ensures

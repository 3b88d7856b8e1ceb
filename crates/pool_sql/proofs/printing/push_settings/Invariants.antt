use Rattle.std.proofs.Common.{◌≡◌, ◌++◌, drop}
use Rattle.std.specs.String.{string_bytes}
use Rattle.pool_sql.specs.Printed.{settings_text}
use Rattle.pool_sql.proofs.printing.push_settings.Given as goal

abbrev pub invariant-loop-setting : goal.invariant-loop-setting
invariant-loop-setting l =
    string_bytes l.text ++ settings_text (drop l.setting-index l.settings) ≡ string_bytes l.initial.text ++ settings_text l.settings

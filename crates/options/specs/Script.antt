-- The words of the command `script`.
use Rattle.std.specs.Prelude.{ℕ, true, false, List, [], ◌∷◌, Option, Some, None, codes}
use Rattle.std.specs.Option.{option_and_then}
use Rattle.clap.specs.Words.{Row, Rule, Text}
use Rattle.options.specs.CommandLine.{given, option_rule, read_by}
use Rattle.options.specs.Machine.{memory_of, cores_of}
use Rattle.options.specs.declared.script.ScriptOptions.{ScriptOptions}

abbrev pub SCRIPT : Text
SCRIPT = codes "script"

-- the options of the command: two that must be given, and two that may be
abbrev pub script_rules : List Rule
script_rules =
    option_rule (codes "memory") true ∷ option_rule (codes "cores") true
    ∷ option_rule (codes "store") false ∷ option_rule (codes "spool") false ∷ []

-- the options, where both are read
abbrev pub both_options : Option ℕ → Option ℕ → Option ScriptOptions
both_options None cores = None
both_options (Some memory) None = None
both_options (Some memory) (Some cores) = Some (record { memory = memory; cores = cores })

-- the options, by what is given each of them
abbrev pub options_in : List Row → Option ScriptOptions
options_in rows = both_options (read_by memory_of (codes "memory") rows) (read_by cores_of (codes "cores") rows)

-- what the words of the command line say of the machine
abbrev pub script_options : List Text → Option ScriptOptions
script_options words = option_and_then options_in (given SCRIPT script_rules words)

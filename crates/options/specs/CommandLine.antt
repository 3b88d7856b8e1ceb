-- The words of a command, as the crate `clap` reads those of a simple command.
use Rattle.std.specs.Prelude.{ℕ, Bool, true, false, List, [], ◌∷◌, Option, Some, None, if◌then◌else◌, map}
use Rattle.std.specs.Borrow.{Bor}
use Rattle.std.specs.Option.{option_and_then}
use Rattle.std.specs.Str.{bytes_eq}
use Rattle.clap.specs.Words.{App, Kinds, Row, Rule, Text, fault_of, first_of, matches_of, new_app, new_rule, with_rule}
use Rattle.clap.specs.declared.builder.action.ArgAction.TheVariants.{Set}

-- an option `--id` that takes one value, and may stand once
abbrev pub option_rule : Text → Bool → Rule
option_rule id required = record (new_rule id) { long = Some id; action = Some Set; required = required }

-- a command with no options of its own, and no `--help` either
abbrev pub bare_command : Text → App
bare_command name = let app = new_app name in record app { top = record app.top { disable_help_flag = true } }

-- the rules of options: what each is called, and whether it must be given
abbrev pub rules_of : List (Bor Text × Bool) → List Rule
rules_of options = map (λ option. option_rule option.0.now option.1) options

-- the command with further options
abbrev pub with_rules : App → List Rule → App
with_rules app [] = app
with_rules app (rule ∷ rules) = with_rules (with_rule app rule) rules

-- the command of a name that has these options
abbrev pub simple_command : Text → List Rule → App
simple_command name rules = with_rules (bare_command name) rules

-- the first word is the name
abbrev pub is_named : Text → List Text → Bool
is_named name [] = false
is_named name (word ∷ words) = bytes_eq word name

-- what is given where there is no fault
abbrev pub without_fault : Kinds → List Row → Option (List Row)
without_fault [] rows = Some rows
without_fault (fault ∷ more) rows = None

-- what the words give the options of a command, where it takes them
abbrev pub taken : App → List Text → Option (List Row)
taken app words = without_fault (fault_of app words) (matches_of app words)

-- the same, where the first word is the command's name
abbrev pub given : Text → List Rule → List Text → Option (List Row)
given name rules words = if is_named name words then taken (simple_command name rules) words else None

-- the value that is given an option, as it is read
abbrev pub read_by : (Text → Option ℕ) → Text → List Row → Option ℕ
read_by read id rows = option_and_then read (first_of id rows)

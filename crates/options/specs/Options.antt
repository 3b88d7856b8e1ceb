-- What the words of the command line ask for.
use Rattle.std.specs.Prelude.{◌≡◌, ◌≤◌, ℕ, List, Option, Some, None, IfSome, option_map, codes}
use Rattle.std.specs.Option.{option_and_then}
use Rattle.clap.specs.Words.{Row, Text, first_of}
use Rattle.options.specs.CommandLine.{given}
use Rattle.options.specs.Script.{SCRIPT, script_rules}
use Rattle.options.specs.Script.{options_in as script_options_in}
use Rattle.options.specs.Workload.{WORKLOAD, workload_options, workload_rules}
use Rattle.options.specs.Workload.{options_in as workload_options_in}
use Rattle.options.specs.declared.Command.{Command}
use Rattle.options.specs.declared.Command.TheVariants.{Script, Workload}
use Rattle.options.specs.declared.Options.{Options}

-- what the program makes of the outside for a command
pub record Told : Type 0 where
  pub command : Command
  pub workers : ℕ
  pub store : Option Text
  pub spool : Option Text

abbrev pub told : Options → Told
told options = record {
  command = options.command;
  workers = options.workers;
  store = option_map (λ s. s.now) options.store;
  spool = option_map (λ s. s.now) options.spool;
}

-- what is told of `script`, by what is given its options
abbrev pub script_told : List Row → Option Told
script_told rows =
    option_map (λ _. record { command = Script; workers = 1; store = first_of (codes "store") rows; spool = first_of (codes "spool") rows })
    (script_options_in rows)

-- what is told of `workload`, by what is given its options
abbrev pub workload_told : List Row → Option Told
workload_told rows =
    option_map (λ options. record { command = Workload; workers = options.workers; store = None; spool = first_of (codes "spool") rows })
    (workload_options_in rows)

abbrev pub for_script : List Text → Option Told
for_script words = option_and_then script_told (given SCRIPT script_rules words)

abbrev pub for_workload : List Text → Option Told
for_workload words = option_and_then workload_told (given WORKLOAD workload_rules words)

-- the first of two that is there
abbrev pub one_of : Option Told → Option Told → Option Told
one_of (Some first) second = Some first
one_of None second = second

-- what is told of the command that takes the words
abbrev pub options_of : List Text → Option Told
options_of words = one_of (for_script words) (for_workload words)

-- where the command is `workload`, there are as many workers as the words say
abbrev pub HasWorkers : List Text → Options → Type 0
HasWorkers words options = options.command ≡ Workload → IfSome (workload_options words) (λ workload. workload.workers ≤ options.workers)

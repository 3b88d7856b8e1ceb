use Rattle.std.proofs.Common.{◌≡◌, drop}
use Rattle.clap.specs.Words.{app_of}
use Rattle.options.specs.CommandLine.{rules_of, simple_command, with_rules}
use Rattle.options.proofs.command_line.simple_command.Given as goal

abbrev pub invariant-loop-id : goal.invariant-loop-id
invariant-loop-id l = with_rules (app_of l.command) (rules_of (drop l.id-index l.options)) ≡ simple_command l.name (rules_of l.options)

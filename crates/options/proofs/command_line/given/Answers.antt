use Rattle.std.proofs.Common.{rules, map, string_bytes, option_map, ◌≡◌, ◌∙◌, ap, true, List, ℕ}
use Rattle.clap.specs.Words.{App, app_of, found_of, is_simple_and_free, rows_of}
use Rattle.options.specs.CommandLine.{is_named, rules_of, simple_command, taken}
use Rattle.options.proofs.CommandLineLemmas.{named-given}
use Rattle.options.proofs.command_line.given.Goals as goal

pub taken-requires : goal.taken-requires
taken-requires c = ap is_simple_and_free c.in_ok-simple_command.ensures ∙ c.requires

pub returns : goal.returns
returns c =
    let words : List (List ℕ) = map string_bytes c.args.words.now in
    let is : true ≡ is_named c.args.name.now words = search rules in
    named-given c.taken.result (option_map (λ m. rows_of (found_of m))) (λ (app : App). taken app words) (is_named c.args.name.now words)
    (app_of c.in_ok-simple_command.field-0) (simple_command c.args.name.now (rules_of c.args.options.now)) is c.in_ok-simple_command.ensures c.taken.ensures

use Rattle.std.proofs.Common.{rules, map, string_bytes, ◌≡◌, ◌≢◌, [], List, ℕ}
use Rattle.clap.specs.Words.{app_of, fault_of, found_of, matches_of, rows_of}
use Rattle.options.proofs.CommandLineLemmas.{simple-matches, with-fault, with-no-fault}
use Rattle.options.proofs.command_line.taken.Goals as goal

pub returns-in-Ok : goal.returns-in-Ok
returns-in-Ok c =
    let app = app_of c.args.command in
    let words : List (List ℕ) = map string_bytes c.args.words.now in
    let none : fault_of app words ≡ [] = search rules in
    with-no-fault (fault_of app words) (rows_of (found_of c.in-Ok.matches)) (matches_of app words) none
    (simple-matches app words c.in-Ok.matches c.requires c.in-Ok.ensures.matches)

pub returns : goal.returns
returns c =
    let app = app_of c.args.command in
    let words : List (List ℕ) = map string_bytes c.args.words.now in
    let some : fault_of app words ≢ [] = search rules in
    with-fault (fault_of app words) (matches_of app words) some

use Rattle.std.proofs.Common.{◌∙◌, ap, sym}
use Rattle.std.specs.Prelude.{option_map}
use Rattle.sessions.specs.Commands.{seen_command, command_of}
use Rattle.sessions.specs.World.{seen_shelf, seen_keeper}
use Rattle.sessions.proofs.RunLemmas.{if_err-weaker, command-fault}
use Rattle.sessions.proofs.script.Script.take_line.Goals as goal

pub returns-in-Some-2-clause-fault : goal.returns-in-Some-2-clause-fault
returns-in-Some-2-clause-fault g c =
    let is = ap command_of (sym c.in-Some.ensures.text) ∙ sym c.in_ok-read_command.ensures ∙ ap (option_map seen_command) c.in-Some-2.is in
    if_err-weaker c.take_command.result _ _
    (λ f h. command-fault c.args.line.now (seen_command c.in-Some-2.command) c.args.self.now.machine.definitions (seen_shelf g.H.Shelf c.args.shelf.now) (seen_shelf g.H.Shelf c.take_command.new.shelf)
    (seen_keeper g.K.Keeper c.args.keeper.now) (seen_keeper g.K.Keeper c.take_command.new.keeper) f is h)
    c.take_command.ensures.fault

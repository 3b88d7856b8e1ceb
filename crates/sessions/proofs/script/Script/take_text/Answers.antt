use Rattle.sessions.specs.World.{seen_keeper}
use Rattle.sessions.proofs.RunLemmas.{if_err-weaker, statement-fault}
use Rattle.sessions.proofs.script.Script.take_text.Goals as goal

pub returns-in-Ok-clause-fault : goal.returns-in-Ok-clause-fault
returns-in-Ok-clause-fault g c =
    if_err-weaker c.take_statement.result _ _
    (λ f h. statement-fault c.args.text.now c.args.self.now.machine.definitions c.in-Ok.statement (seen_keeper g.K.Keeper c.args.keeper.now) (seen_keeper g.K.Keeper c.take_statement.new.keeper) f
    c.in-Ok.ensures.read h)
    c.take_statement.ensures.fault

use Rattle.sessions.proofs.TurnLemmas.{finished-did}
use Rattle.sessions.proofs.script.Script.finish.Goals as goal

pub returns-clause-turn : goal.returns-clause-turn
returns-clause-turn g c =
    finished-did c.args.self.now c.finish_query-reply.new.self c.finished.new.self c.args.session c.args.number c.finish_query-reply.result c.finished.result c.finish_query-reply.ensures
    c.finished.ensures.turn

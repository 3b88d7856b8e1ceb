use Rattle.machine.proofs.Rising.{next-newest}
use Rattle.machine.proofs.machine.Machine.open_session.Goals as goal

pub add-requires-clause-newest : goal.add-requires-clause-newest
add-requires-clause-newest c = next-newest c.self.inside c.args.self.now c.self.view_is c.requires.opened

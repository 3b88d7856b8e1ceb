use Rattle.rm_base.proofs.WellFormed.{well_formed-in_range}
use Rattle.machine.proofs.Inside.{sound_inside}
use Rattle.machine.proofs.machine.Machine.define.Goals as goal

pub accept-requires-clause-sound : goal.accept-requires-clause-sound
accept-requires-clause-sound c = sound_inside c.self.inside c.args.self.now c.self.view_is c.requires.healthy.sound

pub accept-requires-clause-formed : goal.accept-requires-clause-formed
accept-requires-clause-formed c = well_formed-in_range c.args.statement.now c.requires.formed

pub take_statement-requires-clause-in_range : goal.take_statement-requires-clause-in_range
take_statement-requires-clause-in_range c = well_formed-in_range c.args.statement.now c.requires.formed

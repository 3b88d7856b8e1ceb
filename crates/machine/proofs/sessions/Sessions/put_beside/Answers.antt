use Rattle.machine.proofs.Rising.{order-beside}
use Rattle.machine.proofs.sessions.Sessions.put_beside.Goals as goal

pub invariant_of-self : goal.invariant_of-self
invariant_of-self c = order-beside c.self.inside c.args.pool c.put_rows_beside.new.rows c.self.invariant c.put_rows_beside.ensures

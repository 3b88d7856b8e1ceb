use Rattle.std.proofs.Common.{not, arith}
use Rattle.std.proofs.lemmas.List.Sums.{count_by-le-length}
use Rattle.rm_rules.specs.declared.state.Session.{Session}
use Rattle.rm_rules.specs.State.{is_idle}
use Rattle.machine.proofs.sessions.Sessions.live.Goals as goal

pub returns-clause-most : goal.returns-clause-most
returns-clause-most c = omega (arith, c.self.invariant.counted, c.self.invariant.few, count_by-le-length (λ (x : Session). not (is_idle x.phase)) c.self.inside.rows)

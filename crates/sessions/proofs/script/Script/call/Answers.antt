use Rattle.std.proofs.Common.{refl}
use Rattle.sessions.specs.Host.{desk_known}
use Rattle.sessions.proofs.HeldLaws.{all-go_on}
use Rattle.sessions.proofs.TurnLemmas.{stepped-state, stepped-reply}
use Rattle.sessions.proofs.script.Script.call.Goals as goal

pub invariant_of-self : goal.invariant_of-self
invariant_of-self c = record {
  plans = c.self.invariant.plans;
  held = all-go_on (desk_known c.self.inside.desk) (desk_known c.call.new.self) c.self.inside.moment c.args.event.now c.call.result c.self.inside.held.items c.call.ensures c.requires.formed c.requires.goes_on c.self.invariant.held;
}

pub returns-clause-reply : goal.returns-clause-reply
returns-clause-reply c = stepped-reply c.self.inside.desk c.call.new.self c.self.inside.held.items c.self.inside.plans c.self.inside.tables c.self.inside.moment c.args.self.now c.args.event.now c.call.result c.self.view_is c.call.ensures

pub returns-clause-state : goal.returns-clause-state
returns-clause-state c =
    stepped-state c.self.inside.desk c.call.new.self c.self.inside.held.items c.self.inside.held.items c.self.inside.plans c.self.inside.tables c.self.inside.moment c.args.self.now c.args.event.now c.call.result c.self.view_is c.call.ensures refl

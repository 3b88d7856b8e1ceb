use Rattle.std.proofs.Common.{ℕ, refl, subst}
use Rattle.rm_base.specs.declared.event.Event.TheVariants.{Check}
use Rattle.sessions.specs.Host.{desk_known, Called}
use Rattle.sessions.proofs.held.Held.checked.Goals as goal

pub check-requires : goal.check-requires
check-requires c = record { own = c.requires.own c.in-Some.grant c.in-Some.is }

pub returns-in-None-clause-call : goal.returns-in-None-clause-call
returns-in-None-clause-call c =
    (c.call.result, subst (λ (m : ℕ). Called (desk_known c.args.desk.now) (desk_known c.call.new.self) c.args.at (Check m) c.call.result) c.number.ensures c.call.ensures, refl)

use Rattle.std.proofs.Common.{true, sym, ap, subst}
use Rattle.sessions.specs.declared.held.Held.{Held}
use Rattle.sessions.specs.Held.{IsHeld, named_session}
use Rattle.sessions.specs.Host.{desk_known}
use Rattle.sessions.proofs.HoldingLaws.{checked-held, turns-none, turns-way}
use Rattle.sessions.proofs.held.Held.check.Goals as goal

pub returns-in-GiveWay-clause-held : goal.returns-in-GiveWay-clause-held
returns-in-GiveWay-clause-held c =
    let h = c.args.self.now in
    let r = c.checked-reply.result in
    let new = desk_known c.checked-reply.new.desk in
    subst (λ (g : Held). let k : Held = record { name = g.name; session = g.session; grant = g.grant; leaving = true } in IsHeld new k) (sym c.checked-reply.ensures.same)
    (checked-held (desk_known c.args.desk.now) new c.args.at h r true c.checked-reply.ensures.call (turns-way h.leaving r c.in-GiveWay.field-0 c.in-GiveWay.is) c.requires)

pub returns-in_default : goal.returns-in_default
returns-in_default c =
    let h = c.args.self.now in
    let r = c.checked-reply.result in
    let new = desk_known c.checked-reply.new.desk in
    record {
      call = c.checked-reply.ensures.call;
      held = subst (λ (g : Held). IsHeld new g) (sym c.checked-reply.ensures.same)
          (checked-held (desk_known c.args.desk.now) new c.args.at h r h.leaving c.checked-reply.ensures.call (turns-none h.leaving r c.in_default.not-GiveWay) c.requires);
      named = ap named_session c.checked-reply.ensures.same;
    }

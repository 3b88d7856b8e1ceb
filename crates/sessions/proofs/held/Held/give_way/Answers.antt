use Rattle.std.proofs.Common.{ℕ, false, Option, ap, sym, ◌∙◌, subst}
use Rattle.rm_base.specs.declared.event.Event.TheVariants.{GiveWay}
use Rattle.sessions.specs.declared.held.Held.{Held}
use Rattle.sessions.specs.Granted.{Granted, SessionState}
use Rattle.sessions.specs.Held.{IsHeld, grant_after, held_back}
use Rattle.sessions.specs.Host.{desk_known, Called}
use Rattle.sessions.specs.Session.{HoldsGrant, CallsOnce, IsTold, is_admitted, IfAdmitted}
use Rattle.sessions.proofs.HoldingLaws.{call-prints, gave-held, given-up, stood-held}
use Rattle.sessions.proofs.held.Held.give_way.Goals as goal

pub give_way-told-requires-clause-own : goal.give_way-told-requires-clause-own
give_way-told-requires-clause-own c =
    let h = c.args.self.now in
    let g = c.in-Some.grant in
    let up = given-up h.leaving h.grant g (sym c.leaving_grant.ensures.grant ∙ c.in-Some.is) in
    subst (λ (m : Held). HoldsGrant (desk_known c.args.desk.now) m.session.number g) (sym c.leaving_grant.ensures.left) (c.requires.own g up.1)

pub returns-in-Some-clause-call : goal.returns-in-Some-clause-call
returns-in-Some-clause-call c =
    let h = c.args.self.now in
    let old = desk_known c.args.desk.now in
    let new = desk_known c.give_way-told.new.host in
    let told = c.give_way-told.result in
    let call = subst (λ (m : Held). CallsOnce old new c.args.at (GiveWay m.session.number) (IsTold m.session.number told)) c.leaving_grant.ensures.left c.give_way-told.ensures.call in
    call-prints old new c.args.at (GiveWay h.session.number) h.session.number told c.printed-reply.result c.printed-reply.ensures call

pub returns-in-Some-clause-held : goal.returns-in-Some-clause-held
returns-in-Some-clause-held c =
    let h = c.args.self.now in
    let old = desk_known c.args.desk.now in
    let new = desk_known c.give_way-told.new.host in
    let told = c.give_way-told.result in
    let mid = c.leaving_grant.new.self in
    let left = c.leaving_grant.ensures.left in
    let up = given-up h.leaving h.grant c.in-Some.grant (sym c.leaving_grant.ensures.grant ∙ c.in-Some.is) in
    let call = subst (λ (m : Held). CallsOnce old new c.args.at (GiveWay m.session.number) (IsTold m.session.number told)) left c.give_way-told.ensures.call in
    let holds = subst (λ (m : Held). IfAdmitted told (HoldsGrant new m.session.number)) left c.give_way-told.ensures.grant in
    subst (λ (g : Held). IsHeld new g) (sym c.keep.ensures)
    (subst (λ (s : SessionState). let g : Held = record { name = mid.name; session = s; grant = grant_after told mid.grant; leaving = mid.leaving } in IsHeld new g) (sym c.give_way-told.ensures.session)
    (subst (λ (m : Held). let g : Held = record { name = m.name; session = record m.session { granted = is_admitted told }; grant = grant_after told m.grant; leaving = m.leaving } in IsHeld new g) (sym left)
    (subst (λ (o : Option Granted). let g : Held = record { name = h.name; session = record h.session { granted = is_admitted told }; grant = grant_after told o; leaving = false } in IsHeld new g)
    (sym (ap (λ b. held_back b h.grant) up.0)) (gave-held old new c.args.at call.0 h told call.1 holds c.requires))))

pub returns-in-None-clause-held : goal.returns-in-None-clause-held
returns-in-None-clause-held c =
    let h = c.args.self.now in
    let old = desk_known c.args.desk.now in
    let new = desk_known c.call.new.self in
    let left = c.leaving_grant.ensures.left in
    let number = c.number.ensures ∙ ap (λ (m : Held). m.session.number) left in
    let called = subst (λ (m : ℕ). Called old new c.args.at (GiveWay m) c.call.result) number c.call.ensures in
    subst (λ (m : Held). let g : Held = record { name = m.name; session = m.session; grant = m.grant; leaving = m.leaving } in IsHeld new g) (sym left)
    (stood-held old new c.args.at c.call.result h called (sym c.leaving_grant.ensures.grant ∙ c.in-None.is) c.requires)

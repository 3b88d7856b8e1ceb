use Rattle.std.proofs.Common.{sym, subst}
use Rattle.rm_base.specs.declared.event.Event.TheVariants.{Submit}
use Rattle.sessions.specs.declared.held.Held.{Held}
use Rattle.sessions.specs.Granted.{SessionState}
use Rattle.sessions.specs.Held.{IsHeld, grant_after}
use Rattle.sessions.specs.Host.{desk_known}
use Rattle.sessions.proofs.HoldingLaws.{call-prints, asked-held}
use Rattle.sessions.proofs.held.Held.ask.Goals as goal

pub returns-clause-call : goal.returns-clause-call
returns-clause-call c =
    call-prints (desk_known c.args.desk.now) (desk_known c.submit-told.new.host) c.args.at (Submit c.args.self.now.session.number c.args.floor) c.args.self.now.session.number c.submit-told.result
    c.printed-reply.result c.printed-reply.ensures c.submit-told.ensures.call

pub returns-clause-held : goal.returns-clause-held
returns-clause-held c =
    let h = c.args.self.now in
    let told = c.submit-told.result in
    let new = desk_known c.submit-told.new.host in
    let call = c.submit-told.ensures.call in
    let asked = asked-held (desk_known c.args.desk.now) new c.args.at (Submit h.session.number c.args.floor) call.0 h told call.1 tt (λ same. cc) (λ same. cc) c.submit-told.ensures.grant c.requires in
    subst (λ (g : Held). IsHeld new g) (sym c.keep.ensures)
    (subst (λ (s : SessionState). let g : Held = record { name = h.name; session = s; grant = grant_after told h.grant; leaving = h.leaving } in IsHeld new g) (sym c.submit-told.ensures.session) asked)

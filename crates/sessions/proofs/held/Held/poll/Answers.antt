use Rattle.std.proofs.Common.{Option, sym, ◌∙◌, subst}
use Rattle.rm_base.specs.declared.event.Event.TheVariants.{Poll}
use Rattle.sessions.specs.declared.held.Held.{Held}
use Rattle.sessions.specs.Granted.{Granted, SessionState}
use Rattle.sessions.specs.Held.{IsHeld, grant_after}
use Rattle.sessions.specs.Host.{desk_known}
use Rattle.sessions.specs.Session.{is_admitted}
use Rattle.sessions.proofs.HoldingLaws.{call-prints, polled-held}
use Rattle.sessions.proofs.held.Held.poll.Goals as goal

pub poll-told-requires-clause-own : goal.poll-told-requires-clause-own
poll-told-requires-clause-own c = λ grant is. c.requires.own grant (sym c.take-grant.ensures.value ∙ is)

pub returns-clause-call : goal.returns-clause-call
returns-clause-call c =
    call-prints (desk_known c.args.desk.now) (desk_known c.poll-told.new.host) c.args.at (Poll c.args.self.now.session.number) c.args.self.now.session.number c.poll-told.result
    c.printed-reply.result c.printed-reply.ensures c.poll-told.ensures.call

pub returns-clause-held : goal.returns-clause-held
returns-clause-held c =
    let h = c.args.self.now in
    let told = c.poll-told.result in
    let new = desk_known c.poll-told.new.host in
    let call = c.poll-told.ensures.call in
    let polled = polled-held (desk_known c.args.desk.now) new c.args.at (Poll h.session.number) call.0 h told call.1 tt (λ same. cc) (λ same. cc) c.poll-told.ensures.grant c.requires in
    subst (λ (g : Held). IsHeld new g) (sym c.keep.ensures)
    (subst (λ (s : SessionState). let g : Held = record { name = h.name; session = s; grant = grant_after told c.take-grant.new.self; leaving = h.leaving } in IsHeld new g) (sym c.poll-told.ensures.session)
    (subst (λ (o : Option Granted). let g : Held = record { name = h.name; session = record h.session { granted = is_admitted told }; grant = grant_after told o; leaving = h.leaving } in IsHeld new g) (sym c.take-grant.ensures.after) polled))

use Rattle.std.proofs.Common.{◌≡◌, ℕ, false, ap, sym, ◌∙◌, subst}
use Rattle.std.specs.Prelude.{is_some}
use Rattle.rm_base.specs.declared.event.Event.TheVariants.{Finish}
use Rattle.sessions.specs.declared.held.Held.{Held}
use Rattle.sessions.specs.Granted.{SessionState}
use Rattle.sessions.specs.Host.{desk_known, Called}
use Rattle.sessions.specs.Session.{SeesOpen, sees_leaving}
use Rattle.sessions.proofs.HoldingLaws.{without-grant}
use Rattle.sessions.proofs.SessionLaws.{open-called, finish-called}
use Rattle.sessions.proofs.held.Held.finish.Goals as goal

pub finish-requires : goal.finish-requires
finish-requires c = record { own = c.requires.own c.in-Some.grant (sym c.take.ensures.value ∙ c.in-Some.is) }

pub returns-in-Some-clause-held : goal.returns-in-Some-clause-held
returns-in-Some-clause-held c =
    let h = c.args.self.now in
    let new = desk_known c.finish.new.host in
    let call = c.finish.ensures.call in
    let n = h.session.number in
    let opened = open-called (desk_known c.args.desk.now) new c.args.at n (Finish n) call.0 call.1 tt (λ same. cc) c.requires.opened in
    let g : Held = record { name = h.name; session = c.finish.new.self; grant = c.take.new.self; leaving = false } in
    without-grant new g c.take.ensures.after (ap (λ (s : SessionState). s.granted) c.finish.ensures.session)
    (subst (λ (s : SessionState). SeesOpen new s.number) (sym c.finish.ensures.session) opened)
    (sym (subst (λ (s : SessionState). sees_leaving new s.number ≡ false) (sym c.finish.ensures.session)
    (finish-called (desk_known c.args.desk.now) new c.args.at n call.0 call.1 c.requires.opened)))

pub returns-in-None-clause-held : goal.returns-in-None-clause-held
returns-in-None-clause-held c =
    let h = c.args.self.now in
    let old = desk_known c.args.desk.now in
    let new = desk_known c.call.new.self in
    let n = h.session.number in
    let called = subst (λ (m : ℕ). Called old new c.args.at (Finish m) c.call.result) c.number.ensures c.call.ensures in
    let g : Held = record { name = h.name; session = h.session; grant = c.take.new.self; leaving = false } in
    without-grant new g c.take.ensures.after (c.requires.told ∙ ap is_some (sym c.take.ensures.value ∙ c.in-None.is)) (open-called old new c.args.at n (Finish n) c.call.result called tt (λ same. cc) c.requires.opened)
    (sym (finish-called old new c.args.at n c.call.result called c.requires.opened))

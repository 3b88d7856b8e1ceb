use Rattle.std.proofs.Common.{◌≡◌, ℕ, refl, ap, sym, ◌∙◌, subst, None}
use Rattle.std.specs.Prelude.{is_some}
use Rattle.rm_base.specs.declared.event.Event.TheVariants.{Close}
use Rattle.sessions.specs.declared.held.Held.{Held}
use Rattle.sessions.specs.Granted.{SessionState}
use Rattle.sessions.specs.Host.{state_of, desk_known, Called}
use Rattle.sessions.specs.Session.{SeesOpen, sees_leaving}
use Rattle.sessions.proofs.HoldingLaws.{without-grant, busy-refused, busy-held}
use Rattle.sessions.proofs.SessionLaws.{query-open, leaving-called}
use Rattle.sessions.proofs.held.Held.close.Goals as goal

pub returns-in-Err-clause-held : goal.returns-in-Err-clause-held
returns-in-Err-clause-held c =
    let h = c.args.self in
    let new = desk_known c.close.new.host in
    let opened = query-open (state_of new) new.seat h.session.number (c.in-Err.ensures.runs.0 refl) in
    let g : Held = record { name = h.name; session = c.in-Err.session; grant = None; leaving = h.leaving } in
    without-grant new g refl (ap (λ (s : SessionState). s.granted) c.in-Err.ensures.back ∙ c.requires.told ∙ ap is_some c.in-None.is)
    (subst (λ (s : SessionState). SeesOpen new s.number) (sym c.in-Err.ensures.back) opened)
    (subst (λ (s : SessionState). h.leaving ≡ sees_leaving new s.number) (sym c.in-Err.ensures.back)
    (c.requires.leaves ∙ sym (leaving-called (desk_known c.args.desk.now) new c.args.at h.session.number (Close h.session.number) c.close.ensures.call.0 c.close.ensures.call.1 (λ same. cc) c.requires.opened)))

pub unreachable-requires : goal.unreachable-requires
unreachable-requires c =
    let old = desk_known c.args.desk.now in
    let new = desk_known c.call.new.self in
    let called = subst (λ (m : ℕ). Called old new c.args.at (Close m) c.call.result) c.number.ensures c.call.ensures in
    busy-refused old new c.args.at c.call.result c.args.self c.in-Some.grant called c.in-Some.is c.requires c.in_default.not-Refused

pub returns-in-Refused-clause-held : goal.returns-in-Refused-clause-held
returns-in-Refused-clause-held c =
    let old = desk_known c.args.desk.now in
    let new = desk_known c.call.new.self in
    let called = subst (λ (m : ℕ). Called old new c.args.at (Close m) c.call.result) c.number.ensures c.call.ensures in
    busy-held old new c.args.at c.call.result c.args.self c.in-Some.grant called c.in-Some.is c.requires

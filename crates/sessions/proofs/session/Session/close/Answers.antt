use Rattle.std.proofs.Common.{refl, ap}
use Rattle.std.proofs.lemmas.Bool.{false≢true}
use Rattle.sessions.specs.Granted.{SessionState}
use Rattle.sessions.specs.Host.{state_of}
use Rattle.sessions.proofs.SessionLaws.{close-reply, query-open}
use Rattle.sessions.proofs.EndingLaws.{close-other, close-closed, close-refused}
use Rattle.sessions.proofs.session.Session.close.Goals as goal

pub unreachable-requires : goal.unreachable-requires
unreachable-requires g c =
    let answers = close-reply _ _ c.args.at _ c.args.self.number c.call.result (ap (λ (s : SessionState). s.number) c.self.view_is) c.call.ensures c.requires.open in
    close-other _ c.args.self.number _ c.call.result.reply answers c.in_default.not-Closed c.in_default.not-Refused

pub returns-in-Closed-clause-closed : goal.returns-in-Closed-clause-closed
returns-in-Closed-clause-closed g c =
    let answers = close-reply _ _ c.args.at _ c.args.self.number c.call.result (ap (λ (s : SessionState). s.number) c.self.view_is) c.call.ensures c.requires.open in
    close-closed _ c.args.self.number (state_of (g.H.Host.known c.call.new.self)) c.call.result.reply answers c.in-Closed.is

pub returns-in-Closed-clause-runs : goal.returns-in-Closed-clause-runs
returns-in-Closed-clause-runs g c =
    let n = c.args.self.number in
    let new = g.H.Host.known c.call.new.self in
    let answers = close-reply _ new c.args.at _ n c.call.result (ap (λ (s : SessionState). s.number) c.self.view_is) c.call.ensures c.requires.open in (
      λ no. absurd (false≢true no),
      λ runs. absurd (close-closed new.seat n (state_of new) c.call.result.reply answers c.in-Closed.is (query-open (state_of new) new.seat n runs)),
    )

pub returns-in-Refused-clause-runs : goal.returns-in-Refused-clause-runs
returns-in-Refused-clause-runs g c =
    let answers = close-reply _ _ c.args.at _ c.args.self.number c.call.result (ap (λ (s : SessionState). s.number) c.self.view_is) c.call.ensures c.requires.open in
    (λ yes. (close-refused _ _ (state_of (g.H.Host.known c.call.new.self)) c.call.result.reply c.in-Refused.refusal answers c.in-Refused.is).1, λ runs. refl)

pub returns-in-Refused-clause-busy : goal.returns-in-Refused-clause-busy
returns-in-Refused-clause-busy g c =
    let answers = close-reply _ _ c.args.at _ c.args.self.number c.call.result (ap (λ (s : SessionState). s.number) c.self.view_is) c.call.ensures c.requires.open in
    (close-refused _ c.args.self.number (state_of (g.H.Host.known c.call.new.self)) c.call.result.reply c.in-Refused.refusal answers c.in-Refused.is).0

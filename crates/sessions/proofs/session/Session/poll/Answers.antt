use Rattle.std.proofs.Common.{Some, refl, sym, ap, subst}
use Rattle.std.specs.Prelude.{IfSome}
use Rattle.rm_base.specs.declared.event.Event.TheVariants.{Poll}
use Rattle.sessions.specs.declared.submitted.Submitted.TheVariants.{Admitted}
use Rattle.sessions.specs.Granted.{Granted, SessionState}
use Rattle.sessions.specs.Host.{Called}
use Rattle.sessions.specs.Session.{ComesBack}
use Rattle.sessions.proofs.SessionLaws.{asking-reply, told-grant, poll-reply, open-called, running-called}
use Rattle.sessions.proofs.session.Session.poll.Goals as goal

pub told-requires : goal.told-requires
told-requires g c = asking-reply _ _ c.args.at _ c.call-answered.result c.call-answered.ensures refl

pub account_of-account-requires : goal.account_of-account-requires
account_of-account-requires g c =
    let called = subst
    (λ (s : SessionState). Called (g.H.Host.known c.args.host.now) (g.H.Host.known c.call-answered.new.self) c.args.at (Poll s.number) c.call-answered.result)
    c.self.view_is c.call-answered.ensures in
    let given = poll-reply _ _ c.args.at c.args.self.now.number c.in-Some.grant c.call-answered.result called (c.requires.own c.in-Some.grant c.in-Some.is) in
    (record { pool = given.pool; own = given.own; borrowed = given.borrowed }, given.is)

pub returns-in-Some-clause-call : goal.returns-in-Some-clause-call
returns-in-Some-clause-call g c = (
  c.call-answered.result,
  subst (λ (s : SessionState). Called (g.H.Host.known c.args.host.now) (g.H.Host.known c.call-answered.new.self) c.args.at (Poll s.number) c.call-answered.result)
      c.self.view_is c.call-answered.ensures,
  ((c.requires.own c.in-Some.grant c.in-Some.is).0, c.account_of-account.ensures),
)

pub returns-in-Some-clause-back : goal.returns-in-Some-clause-back
returns-in-Some-clause-back g c =
    subst (λ o. IfSome o (λ (grant : Granted). ComesBack grant (Admitted c.in-Some.grant c.account_of-account.result))) (sym c.in-Some.is) (c.account_of-account.result, refl)

pub returns-in-Some-clause-grant : goal.returns-in-Some-clause-grant
returns-in-Some-clause-grant g c =
    let own = c.requires.own c.in-Some.grant c.in-Some.is in
    (own.0, running-called _ _ c.args.at c.in-Some.grant _ c.call-answered.result c.call-answered.ensures tt (λ e. cc) (λ e. cc) own.1)

pub returns-in-None-clause-grant : goal.returns-in-None-clause-grant
returns-in-None-clause-grant g c =
    told-grant _ _ c.args.at c.args.self.now.number _ c.call-answered.result c.told.result c.call-answered.ensures
    (ap (λ (s : SessionState). Some s.number) c.self.view_is) c.told.ensures.told

pub returns-in-Some-clause-open : goal.returns-in-Some-clause-open
returns-in-Some-clause-open g c = open-called _ _ c.args.at c.args.self.now.number _ c.call-answered.result c.call-answered.ensures tt (λ e. cc)

pub returns-in-None-clause-open : goal.returns-in-None-clause-open
returns-in-None-clause-open g c = open-called _ _ c.args.at c.args.self.now.number _ c.call-answered.result c.call-answered.ensures tt (λ e. cc)

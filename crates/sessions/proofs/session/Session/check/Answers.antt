use Rattle.std.proofs.Common.{subst}
use Rattle.rm_base.specs.declared.event.Event.TheVariants.{Check}
use Rattle.sessions.specs.Granted.{SessionState}
use Rattle.sessions.specs.Host.{Called}
use Rattle.sessions.specs.Session.{SeesOpen}
use Rattle.sessions.proofs.SessionLaws.{open-called, running-open, running-called, check-told, check-called}
use Rattle.sessions.proofs.session.Session.check.Goals as goal

pub returns-clause-told : goal.returns-clause-told
returns-clause-told g c =
    let called = subst (λ (s : SessionState). Called (g.H.Host.known c.args.host.now) (g.H.Host.known c.call.new.self) c.args.at (Check s.number) c.call.result) c.self.view_is c.call.ensures in
    check-told _ _ c.args.at c.args.self.now.number c.args.grant.now c.call.result called c.requires.own

pub returns-clause-grant : goal.returns-clause-grant
returns-clause-grant g c =
    (c.requires.own.0, running-called _ _ c.args.at c.args.grant.now _ c.call.result c.call.ensures tt (λ e. cc) (λ e. cc) c.requires.own.1)

pub returns-clause-leaving : goal.returns-clause-leaving
returns-clause-leaving g c =
    let called = subst (λ (s : SessionState). Called (g.H.Host.known c.args.host.now) (g.H.Host.known c.call.new.self) c.args.at (Check s.number) c.call.result) c.self.view_is c.call.ensures in
    check-called _ _ c.args.at c.args.self.now.number c.call.result called
    (subst (SeesOpen (g.H.Host.known c.args.host.now)) c.requires.own.0 (running-open (g.H.Host.known c.args.host.now) c.args.grant.now c.requires.own.1))

pub returns-clause-open : goal.returns-clause-open
returns-clause-open g c =
    open-called _ _ c.args.at c.args.self.now.number _ c.call.result c.call.ensures tt (λ e. cc)
    (subst (SeesOpen (g.H.Host.known c.args.host.now)) c.requires.own.0 (running-open (g.H.Host.known c.args.host.now) c.args.grant.now c.requires.own.1))

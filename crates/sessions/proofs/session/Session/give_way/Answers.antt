use Rattle.std.proofs.Common.{Some, refl, ap, subst}
use Rattle.rm_base.specs.declared.event.Event.TheVariants.{GiveWay}
use Rattle.sessions.specs.Granted.{SessionState}
use Rattle.sessions.specs.Host.{Called}
use Rattle.sessions.specs.Session.{SeesOpen, IsTold}
use Rattle.sessions.proofs.SessionLaws.{asking-reply, told-grant, open-called, running-open, way-taken}
use Rattle.sessions.proofs.session.Session.give_way.Goals as goal

pub told-requires : goal.told-requires
told-requires g c = asking-reply _ _ c.args.at _ c.call-answered.result c.call-answered.ensures refl

pub returns-clause-told : goal.returns-clause-told
returns-clause-told g c =
    let called = subst
    (λ (s : SessionState). Called (g.H.Host.known c.args.host.now) (g.H.Host.known c.call-answered.new.self) c.args.at (GiveWay s.number) c.call-answered.result)
    c.self.view_is c.call-answered.ensures in
    way-taken _ _ c.args.at c.args.self.now.number c.args.grant c.call-answered.result c.told.result called
    (subst (λ (s : SessionState). IsTold s.number c.told.result c.call-answered.result.reply) c.self.view_is c.told.ensures.told) c.requires.own c.requires.leaving

pub returns-clause-grant : goal.returns-clause-grant
returns-clause-grant g c =
    told-grant _ _ c.args.at c.args.self.now.number _ c.call-answered.result c.told.result c.call-answered.ensures
    (ap (λ (s : SessionState). Some s.number) c.self.view_is)
    (subst (λ (s : SessionState). IsTold s.number c.told.result c.call-answered.result.reply) c.self.view_is c.told.ensures.told)

pub returns-clause-open : goal.returns-clause-open
returns-clause-open g c =
    open-called _ _ c.args.at c.args.self.now.number _ c.call-answered.result c.call-answered.ensures tt (λ e. cc)
    (subst (SeesOpen (g.H.Host.known c.args.host.now)) c.requires.own.0 (running-open (g.H.Host.known c.args.host.now) c.args.grant c.requires.own.1))

use Rattle.std.proofs.Common.{sym, ap, ◌∙◌, subst}
use Rattle.rm_base.specs.declared.event.Event.TheVariants.{Finish}
use Rattle.rm_base.specs.declared.reply.Reply.TheVariants.{Released}
use Rattle.sessions.specs.Granted.{SessionState}
use Rattle.sessions.specs.Host.{Called}
use Rattle.sessions.specs.Session.{SeesOpen}
use Rattle.sessions.proofs.SessionLaws.{open-called, running-open, finish-reply}
use Rattle.sessions.proofs.session.Session.finish.Goals as goal

pub returns-clause-call : goal.returns-clause-call
returns-clause-call g c =
    let called = subst
    (λ (s : SessionState). Called (g.H.Host.known c.args.host.now) (g.H.Host.known c.call-answered.new.self) c.args.at (Finish s.number) c.call-answered.result)
    c.self.view_is c.call-answered.ensures in (
      c.call-answered.result,
      called,
      finish-reply _ _ c.args.at c.args.self.now.number c.args.grant c.call-answered.result called c.requires.own ∙ ap (λ n. Released n) (sym c.spend.ensures),
    )

pub returns-clause-open : goal.returns-clause-open
returns-clause-open g c =
    open-called _ _ c.args.at c.args.self.now.number _ c.call-answered.result c.call-answered.ensures tt (λ e. cc)
    (subst (SeesOpen (g.H.Host.known c.args.host.now)) c.requires.own.0 (running-open (g.H.Host.known c.args.host.now) c.args.grant c.requires.own.1))

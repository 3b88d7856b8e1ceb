use Rattle.sessions.specs.Host.{state_of}
use Rattle.sessions.proofs.SessionLaws.{open-reply}
use Rattle.sessions.proofs.EndingLaws.{open-opened, open-other}
use Rattle.sessions.proofs.session.Session.open.Goals as goal

pub unreachable-requires : goal.unreachable-requires
unreachable-requires g c = open-other _ _ c.call.result.reply (open-reply _ _ c.args.at c.args.user c.call.result c.call.ensures) c.in_default.not-Opened c.in_default.not-Refused

pub returns-in-Opened-clause-open : goal.returns-in-Opened-clause-open
returns-in-Opened-clause-open g c =
    open-opened (state_of (g.H.Host.known c.call.new.self)) _ c.in-Opened.number c.call.result.reply
    (open-reply _ _ c.args.at c.args.user c.call.result c.call.ensures) c.in-Opened.is

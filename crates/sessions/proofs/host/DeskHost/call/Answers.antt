use Rattle.sessions.proofs.HostLaws.{desk-called}
use Rattle.sessions.proofs.host.DeskHost.call.Goals as goal

pub returns : goal.returns
returns c =
    let kept = c.entries-entries.ensures in
    desk-called c.args.self.now c.apply.new.self c.args.at c.args.event.now c.apply.result c.requires.formed kept.sound kept.legal kept.replays
    c.apply.ensures.state c.apply.ensures.reply c.apply.ensures.entry c.apply.ensures.place

use Rattle.machine.proofs.Entering.{place-answered, healthy-settled}
use Rattle.machine.proofs.machine.Machine.enter.Goals as goal

pub settle-requires : goal.settle-requires
settle-requires c = record { entries = _; statements = _; kept = c.requires }

pub reply_of-reply-requires : goal.reply_of-reply-requires
reply_of-reply-requires c =
    let h = healthy-settled c.args.answer c.args.self.now c.settle.new.self c.settle.ensures c.requires in
    record { in_phase = h.in_phase; numbered = h.numbered }

pub record_entry-requires : goal.record_entry-requires
record_entry-requires c =
    place-answered c.args.answer c.args.self.now c.settle.new.self c.collect.new.self c.settle.ensures c.collect.ensures c.requires

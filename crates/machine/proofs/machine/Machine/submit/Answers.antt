use Rattle.rm_rules.proofs.Answering.{numbers-fit}
use Rattle.machine.proofs.Submitting.{room_waiting, next-absent, submit-refused, submit-accepted}
use Rattle.machine.proofs.machine.Machine.submit.Goals as goal

pub returns-in-Some-clause-err : goal.returns-in-Some-clause-err
returns-in-Some-clause-err c =
    submit-refused c.args.self.now c.args.x.now c.args.floor c.session_pool-pool.result c.in-Some.refusal c.session_pool-pool.ensures c.in-Some.ensures.value

pub enqueue-requires-clause-room : goal.enqueue-requires-clause-room
enqueue-requires-clause-room c =
    room_waiting c.args.self.now c.args.x.now c.requires.healthy.in_phase c.requires.healthy.opened c.requires.open c.in_default.ensures.idle

pub enqueue-requires-clause-absent : goal.enqueue-requires-clause-absent
enqueue-requires-clause-absent c = next-absent c.args.self.now c.requires.healthy.numbered

pub enqueue-requires-clause-numbers : goal.enqueue-requires-clause-numbers
enqueue-requires-clause-numbers c = (numbers-fit c.args.self.now c.requires.healthy).1

pub returns-clause-ok : goal.returns-clause-ok
returns-clause-ok c =
    submit-accepted c.args.self.now c.args.x.now c.args.floor c.session_pool-pool.result c.enqueue.new.self c.changing.result c.session_pool-pool.ensures c.in_default.ensures.value c.enqueue.ensures c.changing.ensures

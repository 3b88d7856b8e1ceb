use Rattle.machine.proofs.Settling.{settling-shuffled}
use Rattle.machine.proofs.machine.Machine.settle.Goals as goal

pub admit_entitled-requires : goal.admit_entitled-requires
admit_entitled-requires c = settling-shuffled c.end_too_large.new.self c.shuffle.new.self c.shuffle.ensures c.end_too_large.ensures.settles c.end_too_large.ensures.small

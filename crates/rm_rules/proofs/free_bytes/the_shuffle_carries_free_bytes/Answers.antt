use Rattle.std.proofs.Common.{sym}
use Rattle.rm_rules.proofs.Shuffling.{carries-all}
use Rattle.rm_rules.proofs.free_bytes.the_shuffle_carries_free_bytes.Goals as goal

pub returns : goal.returns
returns c = λ d h within. sym (carries-all d h within)

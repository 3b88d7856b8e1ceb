use Rattle.std.proofs.Common.{refl, arith}
use Rattle.rm_words.proofs.CutLaws.{cut_stuck}
use Rattle.rm_words.proofs.laws.stuck_without_word.Goals as goal

pub returns : goal.returns
returns c = λ text spans at cut. cut_stuck text 0 text spans at (omega arith) refl cut

use Rattle.std.proofs.Common.{arith, refl}
use Rattle.rm_words.proofs.CutLaws.{cut_are_words}
use Rattle.rm_words.proofs.laws.slices_are_words.Goals as goal

pub returns : goal.returns
returns c = λ text spans stuck cut. cut_are_words text 0 text spans stuck (omega arith) refl cut

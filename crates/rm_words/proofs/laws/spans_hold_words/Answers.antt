use Rattle.std.proofs.Common.{refl, arith}
use Rattle.rm_words.proofs.CutLaws.{cut_words}
use Rattle.rm_words.proofs.laws.spans_hold_words.Goals as goal

pub returns : goal.returns
returns c = λ text spans stuck cut. cut_words text 0 text spans stuck (omega arith) refl cut

use Rattle.std.proofs.Common.{arith}
use Rattle.rm_words.proofs.CutLaws.{cut_rises}
use Rattle.rm_words.proofs.laws.spans_rise.Goals as goal

pub returns : goal.returns
returns c = λ text spans stuck cut. cut_rises 0 0 text spans stuck (omega arith) cut

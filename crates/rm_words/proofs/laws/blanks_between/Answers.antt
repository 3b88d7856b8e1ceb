use Rattle.std.proofs.Common.{refl, arith}
use Rattle.rm_words.proofs.CutLaws.{cut_blanks}
use Rattle.rm_words.proofs.laws.blanks_between.Goals as goal

pub returns : goal.returns
returns c = λ text spans stuck k cut before. cut_blanks text 0 text spans stuck k (omega arith) refl cut (omega arith) before

use Rattle.rm_words.proofs.CutLaws.{same_cut}
use Rattle.rm_words.proofs.laws.one_cut.Goals as goal

pub returns : goal.returns
returns c = λ text spans others stuck other a b. same_cut 0 text spans others stuck other a b

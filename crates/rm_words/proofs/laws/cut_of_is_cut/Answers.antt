use Rattle.rm_words.proofs.CutsOf.{cut_of-cut}
use Rattle.rm_words.proofs.laws.cut_of_is_cut.Goals as goal

pub returns : goal.returns
returns c = cut_of-cut

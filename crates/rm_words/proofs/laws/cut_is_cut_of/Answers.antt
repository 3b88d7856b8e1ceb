use Rattle.rm_words.proofs.CutsOf.{cut_of-words}
use Rattle.rm_words.proofs.laws.cut_is_cut_of.Goals as goal

pub returns : goal.returns
returns c = cut_of-words

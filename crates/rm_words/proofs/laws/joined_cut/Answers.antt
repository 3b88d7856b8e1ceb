use Rattle.std.proofs.Common.{refl}
use Rattle.rm_words.specs.Cut.{joined}
use Rattle.rm_words.proofs.Joins.{joined_is_cut, joined_words}
use Rattle.rm_words.proofs.laws.joined_cut.Goals as goal

pub returns : goal.returns
returns c = λ ws are. (joined_is_cut 0 ws are, joined_words (joined ws) 0 ws refl)

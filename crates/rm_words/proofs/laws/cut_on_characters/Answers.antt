use Rattle.std.proofs.Common.{refl, arith}
use Rattle.std.proofs.lemmas.Str.{IsCharBoundary-start}
use Rattle.rm_words.proofs.Characters.{on_characters}
use Rattle.rm_words.proofs.laws.cut_on_characters.Goals as goal

pub returns : goal.returns
returns c = λ text spans stuck utf8 cut. on_characters text 0 text spans stuck utf8 (IsCharBoundary-start text utf8) (omega arith) refl cut

-- key words
use Rattle.std.proofs.Common.{◌≡◌, ℕ, true, List, ap}
use Rattle.std.proofs.lemmas.Slice.Eq.{bytes_eq-Decides}
use Rattle.rm_words.specs.Token.{Token, Bare, Number, Quoted, Sign, folded, is_key}
use Rattle.rm_words.specs.Names.{key}

pub is_key-eq : (t : Token) (k : List ℕ) → is_key t k ≡ true → t ≡ key k
is_key-eq (Bare word) k h = ap (λ l. Bare l) ((bytes_eq-Decides word (folded k)).0 h)
is_key-eq (Number n) k h = absurd cc
is_key-eq (Quoted text) k h = absurd cc
is_key-eq (Sign s) k h = absurd cc

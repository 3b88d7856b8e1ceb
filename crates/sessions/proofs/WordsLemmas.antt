-- The words of a line that neither begins nor ends with a space.
use Rattle.std.proofs.Common.{◌≡◌, ℕ, false, List, [], cond, nat_lt, not, ◌==◌, arith, sym, ap}
use Rattle.std.proofs.lemmas.Bool.Decides.{nat_tests}
use Rattle.sessions.specs.Words.{has_outer_space, pieces, line_words}

pub line_words-inner : (line : List ℕ) → has_outer_space line ≡ false → pieces line ≡ line_words line
line_words-inner line inner = sym (ap (λ outer. cond outer [] (pieces line)) inner)

-- a list is not empty
pub not_empty : (n : ℕ) → not (n == 0) ≡ nat_lt 0 n
not_empty n = grind (arith, nat_tests)

-- Lists of moments.
use Rattle.std.proofs.Common.{arith, ◌≡◌, refl, ℕ, suc, zero, ◌+◌, ◌-◌, ◌<◌, ◌≤◌, length, min, List, [], ◌∷◌, slice_index_or, nat_lt, Bool, true, false, ltb-true, ltb-false, ap, ◌∙◌}
use Rattle.rm_outside.specs.Clock.{moment_at, NeverFall}

min_zero : (k : ℕ) → min k 0 ≡ 0
min_zero k = omega arith

zero_min : (k : ℕ) → min 0 k ≡ 0
zero_min k = omega arith

below : (n l : ℕ) → min (suc n) (suc (suc l) - 1) ≡ suc (min n (suc l - 1))
below n l = omega arith

positive : (l : ℕ) → 0 < suc l
positive l = omega arith

-- past its end a list hands out its last moment
pub at_end : (ms : List ℕ) (n r : ℕ) → 0 < length ms → slice_index_or ms (min n (length ms - 1)) r ≡ moment_at ms n
at_end [] n r some = omega (arith, some)
at_end (m ∷ []) n r some = ap (λ k. slice_index_or (m ∷ []) k r) (min_zero n)
at_end (m ∷ next ∷ more) zero r some = ap (λ k. slice_index_or (m ∷ next ∷ more) k r) (zero_min (suc (suc (length more)) - 1))
at_end (m ∷ next ∷ more) (suc n) r some =
    ap (λ k. slice_index_or (m ∷ next ∷ more) k r) (below n (length more)) ∙ at_end (next ∷ more) n r (positive (length more))

-- the next asking is not answered by an earlier moment
pub rises : (ms : List ℕ) (n : ℕ) → NeverFall ms → moment_at ms n ≤ moment_at ms (suc n)
rises [] n falls = omega arith
rises (m ∷ []) n falls = omega arith
rises (m ∷ next ∷ []) zero falls = falls.0
rises (m ∷ next ∷ later ∷ more) zero falls = falls.0
rises (m ∷ next ∷ more) (suc n) falls = rises (next ∷ more) n falls.1

-- nor is one whose number stands still at its end
pub goes_on : (ms : List ℕ) (n most k : ℕ) → NeverFall ms → n ≤ most → k ≡ min (n + 1) most → moment_at ms n ≤ moment_at ms k
goes_on ms n most k falls few is = by_test (nat_lt n most) refl where
  still : nat_lt n most ≡ false → k ≡ n
  still e = omega (arith, ltb-false n most e, few, is)

  next : nat_lt n most ≡ true → suc n ≡ k
  next e = omega (arith, ltb-true n most e, is)

  by_test : (b : Bool) → nat_lt n most ≡ b → moment_at ms n ≤ moment_at ms k
  by_test false e = omega (arith, ap (moment_at ms) (still e))
  by_test true e = omega (arith, ap (moment_at ms) (next e), rises ms n falls)

-- Values that are read are within their ranges.
use Rattle.std.proofs.Common.{◌≡◌, ℕ, ◌+◌, ◌-◌, ◌≤◌, ◌<◌, take, Bool, true, false, cond, leb, ltb, List, length, Option, Some, None, refl, arith}
use Rattle.std.proofs.lemmas.Bool.Decides.{nat_tests}
use Rattle.std.specs.Prelude.{slice_index}
use Rattle.std.specs.Option.{option_and_then}
use Rattle.rm_base.specs.declared.limits.TheConstants.{MEMORY_LEAST, MEMORY_MOST, CORES_MOST}
use Rattle.options.specs.Numeral.{below, at_least, in_range, numeral_of, has_leading_zero, number_within}
use Rattle.options.specs.Machine.{unit_of, times, memory_of, cores_of}

below-some : (limit n : ℕ) (o : Option ℕ) → below limit o ≡ Some n → (o ≡ Some n) × (n < limit)
below-some limit n None h = absurd (cc)
below-some limit n (Some m) h =
    let turn : (b : Bool) → ltb m limit ≡ b → cond b (Some m) None ≡ Some n → (Some m ≡ Some n) × (n < limit) =
    λ b. elim b as (λ c. ltb m limit ≡ c → cond c (Some m) None ≡ Some n → (Some m ≡ Some n) × (n < limit)) [
      | true ↦ λ e (k : Some m ≡ Some n). let same : m ≡ n = cc in (k, let lt : m < limit = grind (arith, nat_tests) in omega arith)
      | false ↦ λ e (k : None ≡ Some n). absurd (cc)
    ] in
    turn (ltb m limit) refl h

at_least-some : (least n : ℕ) (o : Option ℕ) → at_least least o ≡ Some n → least ≤ n
at_least-some least n None h = absurd (cc)
at_least-some least n (Some m) h =
    let turn : (b : Bool) → leb least m ≡ b → cond b (Some m) None ≡ Some n → least ≤ n =
    λ b. elim b as (λ c. leb least m ≡ c → cond c (Some m) None ≡ Some n → least ≤ n) [
      | true ↦ λ e (k : Some m ≡ Some n). let same : m ≡ n = cc in let le : least ≤ m = grind (arith, nat_tests) in omega arith
      | false ↦ λ e (k : None ≡ Some n). absurd (cc)
    ] in
    turn (leb least m) refl h

in_range-some : (least most n : ℕ) (o : Option ℕ) → in_range least most o ≡ Some n → (least ≤ n) × (n ≤ most)
in_range-some least most n o h =
    let upper = below-some (most + 1) n (at_least least o) h in
    (at_least-some least n o upper.0, omega (arith, upper.1))

pub within : (least most : ℕ) (word : List ℕ) (n : ℕ) → number_within least most word ≡ Some n → (least ≤ n) × (n ≤ most)
within least most word n h =
    let turn : (b : Bool) → cond b None (in_range least most (numeral_of word)) ≡ Some n → (least ≤ n) × (n ≤ most) =
    λ b. elim b as (λ c. cond c None (in_range least most (numeral_of word)) ≡ Some n → (least ≤ n) × (n ≤ most)) [
      | true ↦ λ (k : None ≡ Some n). absurd (cc)
      | false ↦ λ k. in_range-some least most n (numeral_of word) k
    ] in
    turn (has_leading_zero word) h

pub cores-within : (word : List ℕ) (n : ℕ) → cores_of word ≡ Some n → (1 ≤ n) × (n ≤ CORES_MOST)
cores-within word n h = within 1 CORES_MOST word n h

pub memory-within : (word : List ℕ) (n : ℕ) → memory_of word ≡ Some n → (MEMORY_LEAST ≤ n) × (n ≤ MEMORY_MOST)
memory-within word n h =
    let last = length word - 1 in
    in_range-some MEMORY_LEAST MEMORY_MOST n (times (numeral_of (take last word)) (unit_of (slice_index word last))) h

-- a value that is read by a reading that keeps a range lies in it
pub read-within : (read : List ℕ → Option ℕ) (least most : ℕ) (word : Option (List ℕ)) → ((w : List ℕ) (n : ℕ) → read w ≡ Some n → (least ≤ n) × (n ≤ most))
    → (n : ℕ) → option_and_then read word ≡ Some n → (least ≤ n) × (n ≤ most)
read-within read least most None lies n h = absurd (cc)
read-within read least most (Some w) lies n h = lies w n h

-- The places of numbers in a list, and those of their buckets.
use Rattle.std.specs.Prelude.{◌≡◌, ◌<◌, ◌/◌, ◌%◌, ◌^◌, ℕ, zero, suc, List, [], ◌∷◌, length, map, slice_index, take, nat_eq, if◌then◌else◌}

-- the last place of a number, counted from 1, or 0 where it is not there
abbrev pub last_place : ℕ → List ℕ → ℕ
last_place n [] = 0
last_place n (x ∷ xs) = elim (last_place n xs) [ zero ↦ (if nat_eq x n then 1 else 0) | suc k ↦ suc (suc k) ]

-- the bucket of a number, of so many, by its highest 32 bits
abbrev pub bucket : ℕ → ℕ → ℕ
bucket count n = (n / 2 ^ 32) % count

abbrev pub buckets : ℕ → List ℕ → List ℕ
buckets count numbers = map (bucket count) numbers

-- numbers, and how many buckets there are for them
pub record Placed : Type 0 where
  pub count : ℕ
  pub numbers : List ℕ

-- for each bucket its last place, and behind each place the last one before it of the same bucket
pub record IsLinked (placed last before : List ℕ) : Type 0 where
  pub len : length before ≡ length placed
  pub leads : (b : ℕ) → b < length last → slice_index last b ≡ last_place b placed
  pub behind : (k : ℕ) → k < length placed → slice_index before k ≡ last_place (slice_index placed k) (take k placed)

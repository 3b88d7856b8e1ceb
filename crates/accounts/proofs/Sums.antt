-- Sums of grants.
use Rattle.std.proofs.Common.{◌≤◌, ℕ, Bool, true, false, List, [], ◌∷◌, cond, sum_by, arith}
use Rattle.std.proofs.lemmas.List.Sums.{sum_by-cons, sum_by-le-sum_by}
use Rattle.rm_base.specs.declared.name.Name.{Name}
use Rattle.rm_base.specs.Name.{same_name}
use Rattle.rm_rules.specs.declared.state.Holding.{Holding}
use Rattle.rm_rules.specs.State.{without}
use Rattle.rm_rules.specs.Accounting.{used, held_in}
use Rattle.accounts.specs.Sizes.{held}

some-turn : (b : Bool) (n : ℕ) → cond b n 0 ≤ n
some-turn true n = omega arith
some-turn false n = omega arith

-- a pool's queries hold no more than all
pub used_held : (pool : Name) (grants : List Holding) → used pool grants ≤ held grants
used_held pool grants = sum_by-le-sum_by (held_in pool) (λ g. g.bytes) grants (λ g. some-turn (same_name g.pool pool) g.bytes)

-- a sum is no more without one that is taken out
without-turn : {A : Type 0} (f : A → ℕ) (test : A → Bool) (x : A) (xs : List A) (b : Bool) → sum_by f (without test xs) ≤ sum_by f xs
    → sum_by f (cond b xs (x ∷ without test xs)) ≤ sum_by f (x ∷ xs)
without-turn f test x xs true rest = omega (arith, sum_by-cons f x xs)
without-turn f test x xs false rest = omega (arith, rest, sum_by-cons f x xs, sum_by-cons f x (without test xs))

pub sum_without_le : {A : Type 0} (f : A → ℕ) (test : A → Bool) (xs : List A) → sum_by f (without test xs) ≤ sum_by f xs
sum_without_le f test [] = omega arith
sum_without_le f test (x ∷ xs) = without-turn f test x xs (test x) (sum_without_le f test xs)

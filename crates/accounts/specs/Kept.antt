-- What accounts always are.
use Rattle.std.specs.Prelude.{◌≡◌, ℕ, ◌≤◌, true, ◌∷◌, count_by}
use Rattle.std.specs.List.{list_all}
use Rattle.rm_base.specs.declared.limits.TheConstants.{MEMORY_MOST}
use Rattle.rm_base.specs.Name.{general}
use Rattle.rm_rules.specs.Sound.{are_distinct}
use Rattle.rm_rules.specs.Holdings.{Holdings, reserve_names}
use Rattle.rm_rules.specs.Accounting.{granted, taken_up}
use Rattle.accounts.specs.declared.holdings.Accounts.TheInside.{Inside}
use Rattle.accounts.specs.Accounts.{has_name, is_of}
use Rattle.accounts.specs.Numbers.{numbers_of}

abbrev pub seen_holdings : Inside → Holdings
seen_holdings a = record { in_force = a.in_force; reserves = a.reserves; grants = a.grants }

-- No pool is there twice, and GENERAL reserves nothing. Each query runs once, in a pool that is there. What is reserved
-- and lent, and what is granted, is within the memory in force, and that within the greatest.
pub record IsBalanced (h : Holdings) : Type 0 where
  pub names_distinct : are_distinct (general ∷ reserve_names h.reserves) ≡ true
  pub queries_distinct : (query : ℕ) → count_by (is_of query) h.grants ≤ 1
  pub known : list_all (λ g. has_name h.reserves g.pool) h.grants ≡ true
  pub within : taken_up h ≤ h.in_force
  pub granted : granted h ≤ h.in_force
  pub in_force_most : h.in_force ≤ MEMORY_MOST

-- The numbers kept are those of the reserves and the grants.
pub record AreKept (a : Inside) : Type 0 where
  pub balanced : IsBalanced (seen_holdings a)
  pub numbers : a.kept ≡ numbers_of (seen_holdings a)

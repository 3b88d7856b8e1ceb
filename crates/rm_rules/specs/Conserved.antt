-- The conserved quantity and its companions.
use Rattle.std.specs.Prelude.{◌≡◌, ℕ, ◌+◌, ◌<◌, ◌≤◌, List, [], ◌∷◌, ◌++◌, false, sum_by, if◌then◌else◌}
use Rattle.rm_base.specs.declared.definitions.Definitions.{Definitions}
use Rattle.rm_base.specs.declared.entry.Account.{Account}
use Rattle.rm_base.specs.declared.entry.Entry.{Entry}
use Rattle.rm_base.specs.declared.name.Name.{Name}
use Rattle.rm_base.specs.Name.{same_name, general}
use Rattle.rm_rules.specs.declared.state.Holding.{Holding}
use Rattle.rm_rules.specs.Definitions.{total}
use Rattle.rm_rules.specs.State.{State}
use Rattle.rm_rules.specs.Holdings.{Holdings, holdings_of}
use Rattle.rm_rules.specs.Accounting.{actual_of, own_of, kept_back, granted, unused_reserves, lent, free, general_size, account_behind, accounts}
use Rattle.rm_rules.specs.Step.{step}

-- the own bytes in the accounts of one pool's queries
abbrev pub own_in : Name → Account → ℕ
own_in pool a = if same_name a.pool pool then a.own else 0

-- the bytes of an account that GENERAL lends, or its own queries hold
abbrev pub from_general : Account → ℕ
from_general a = if same_name a.pool general then a.own + a.borrowed else a.borrowed

-- of the bytes under these definitions
pub record AreConserved (d : Definitions) (h : Holdings) : Type 0 where
  -- running grants, unused reservations and GENERAL's free bytes add up to the memory in force
  pub adds_up : granted h + unused_reserves h + free h ≡ h.in_force
  -- what is reserved and lent is there, so that no difference above hides a lack
  pub never_negative : kept_back h.reserves + lent h ≤ h.in_force
  -- each account is its query's grant
  pub accounts_whole : (before rest : List Holding) (g : Holding) → h.grants ≡ before ++ g ∷ rest → (account_behind h before g).own + (account_behind h before g).borrowed ≡ g.bytes
  -- the own bytes of a pool's queries are those that the pool uses, and within its actual size
  pub own_bytes : (pool : Name) → same_name pool general ≡ false → sum_by (own_in pool) (accounts h) ≡ own_of h pool
  pub own_within : (pool : Name) → own_of h pool ≤ actual_of h pool
  -- what is borrowed, and what GENERAL's queries hold, is what GENERAL lends, and within its size
  pub borrowed_bytes : sum_by from_general (accounts h) ≡ lent h
  pub lent_within : lent h ≤ general_size h
  -- the total is in force, and more than it only while nothing is free
  pub total_in_force : total d ≤ h.in_force
  pub full_above_total : total d < h.in_force → free h ≡ 0

abbrev pub IsConserved : State → Type 0
IsConserved s = AreConserved s.definitions (holdings_of s)

-- after each of these entries, from this state on, the quantity is conserved
abbrev pub ConservedAfterEach : State → List Entry → Type 0
ConservedAfterEach s [] = IsConserved s
ConservedAfterEach s (e ∷ es) = IsConserved s × ConservedAfterEach (step s e.seat e.at e.event).state es

-- Use, own bytes, debts, free bytes and accounts.
use Rattle.std.specs.Prelude.{ℕ, ◌+◌, ◌-◌, List, [], ◌∷◌, ◌++◌, Option, Some, None, find, sum_by, count_by, min, if◌then◌else◌}
use Rattle.rm_base.specs.declared.entry.Account.{Account}
use Rattle.rm_base.specs.declared.name.Name.{Name}
use Rattle.rm_base.specs.Name.{same_name, general}
use Rattle.rm_rules.specs.declared.state.Holding.{Holding}
use Rattle.rm_rules.specs.declared.state.Reserve.{Reserve}
use Rattle.rm_rules.specs.Holdings.{Holdings}

-- what a running query holds, if it runs in this pool
abbrev pub held_in : Name → Holding → ℕ
held_in pool g = if same_name g.pool pool then g.bytes else 0

-- what the pool's running queries hold
abbrev pub used : Name → List Holding → ℕ
used pool grants = sum_by (held_in pool) grants

-- how many queries run in the pool
abbrev pub running_in : Name → List Holding → ℕ
running_in pool grants = count_by (λ g. same_name g.pool pool) grants

-- how much of its own bytes a pool uses, what it has borrowed beyond them, and what of them is unused
abbrev pub own : List Holding → Reserve → ℕ
own grants e = min (used e.pool grants) e.size

abbrev pub debt : List Holding → Reserve → ℕ
debt grants e = used e.pool grants - own grants e

abbrev pub unused : List Holding → Reserve → ℕ
unused grants e = e.size - own grants e

-- the pool's reserve; GENERAL has none
abbrev pub reserve_of : Holdings → Name → Option Reserve
reserve_of h pool = find (λ e. same_name e.pool pool) h.reserves

-- what is asked of the pool's reserve; nothing of GENERAL, which has none
abbrev pub of_reserve : (Reserve → ℕ) → Option Reserve → ℕ
of_reserve part found = elim found [ Some e ↦ part e | None ↦ 0 ]

-- the pool's actual size, the own bytes that its queries use, and those that they do not use
abbrev pub actual_of : Holdings → Name → ℕ
actual_of h pool = of_reserve (λ e. e.size) (reserve_of h pool)

abbrev pub own_of : Holdings → Name → ℕ
own_of h pool = of_reserve (own h.grants) (reserve_of h pool)

abbrev pub unused_of : Holdings → Name → ℕ
unused_of h pool = of_reserve (unused h.grants) (reserve_of h pool)

-- what all pools reserve
abbrev pub kept_back : List Reserve → ℕ
kept_back reserves = sum_by (λ e. e.size) reserves

-- GENERAL's size: what is in force, but for what the pools reserve
abbrev pub general_size : Holdings → ℕ
general_size h = h.in_force - kept_back h.reserves

-- GENERAL's use: its own queries' grants, and all debts
abbrev pub lent : Holdings → ℕ
lent h = used general h.grants + sum_by (debt h.grants) h.reserves

-- what all running queries hold
abbrev pub granted : Holdings → ℕ
granted h = sum_by (λ g. g.bytes) h.grants

-- what the pools reserve and do not use
abbrev pub unused_reserves : Holdings → ℕ
unused_reserves h = sum_by (unused h.grants) h.reserves

-- what is reserved and lent
abbrev pub taken_up : Holdings → ℕ
taken_up h = kept_back h.reserves + lent h

-- GENERAL's free bytes
abbrev pub free : Holdings → ℕ
free h = general_size h - lent h

-- what the pool would borrow for a query of so many bytes
abbrev pub need : Holdings → Name → ℕ → ℕ
need h pool bytes = bytes - min bytes (unused_of h pool)

-- The account of a running query that stands behind these others. The own bytes of its pool are handed to the pool's
-- queries in their order until they are used up, and the rest of each grant is borrowed. GENERAL lends to itself.
abbrev pub account_behind : Holdings → List Holding → Holding → Account
account_behind h before g =
    let own_bytes = if same_name g.pool general then g.bytes else min g.bytes (own_of h g.pool - used g.pool before) in
    record { pool = g.pool; own = own_bytes; borrowed = g.bytes - own_bytes }

abbrev pub accounts_behind : Holdings → List Holding → List Holding → List Account
accounts_behind h before [] = []
accounts_behind h before (g ∷ gs) = account_behind h before g ∷ accounts_behind h (before ++ g ∷ []) gs

-- the accounts of the running queries, in their order
abbrev pub accounts : Holdings → List Account
accounts h = accounts_behind h [] h.grants

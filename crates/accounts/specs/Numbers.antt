-- The numbers that are kept beside the lists, and what changes them.
use Rattle.std.specs.Prelude.{ℕ, ◌+◌, ◌-◌, Option, Some, None, List, [], ◌∷◌, ◌++◌, find, map, min, remove, slice_index_or, slice_set, if◌then◌else◌}
use Rattle.rm_base.specs.declared.entry.Account.{Account}
use Rattle.rm_base.specs.declared.name.Name.{Name}
use Rattle.rm_base.specs.Name.{same_name, general}
use Rattle.rm_rules.specs.declared.state.Holding.{Holding}
use Rattle.rm_rules.specs.declared.state.Reserve.{Reserve}
use Rattle.rm_rules.specs.Holdings.{Holdings}
use Rattle.rm_rules.specs.Accounting.{used, running_in, of_reserve, lent, free, accounts}
use Rattle.accounts.specs.declared.numbers.Numbers.{Numbers}
use Rattle.accounts.specs.declared.numbers.Usage.{Usage}

-- the usage of a pool of this size whose queries hold so much
abbrev pub usage_made : ℕ → ℕ → ℕ → Usage
usage_made size used running = record { used = used; own = min used size; running = running }

-- no query runs
abbrev pub no_usage : Usage
no_usage = record { used = 0; own = 0; running = 0 }

-- the usage of a pool
abbrev pub usage_of : List Holding → Reserve → Usage
usage_of grants e = usage_made e.size (used e.pool grants) (running_in e.pool grants)

-- GENERAL reserves nothing
abbrev pub general_reserve : Reserve
general_reserve = record { pool = general; size = 0 }

-- The numbers: the usage of each pool and of GENERAL, GENERAL's use and its free bytes, and the account of each query.
abbrev pub numbers_of : Holdings → Numbers
numbers_of h = record {
  usages = map (usage_of h.grants) h.reserves;
  general = usage_of h.grants general_reserve;
  lent = lent h;
  free = free h;
  accounts = accounts h;
}

-- the size of the pool whose reserve stands in this place; GENERAL reserves nothing
abbrev pub size_at : List Reserve → Option ℕ → ℕ
size_at es (Some i) = (slice_index_or es i general_reserve).size
size_at es None = 0

-- what a pool of this usage has borrowed
abbrev pub borrowed : Usage → ℕ
borrowed u = u.used - u.own

-- the usage of the pool in this place, and GENERAL's at none
abbrev pub usage_at : Numbers → Option ℕ → Usage
usage_at n (Some i) = slice_index_or n.usages i no_usage
usage_at n None = n.general

-- with another usage in this place
abbrev pub put_usage : Numbers → Option ℕ → Usage → Numbers
put_usage n (Some i) u = record n { usages = slice_set n.usages i u }
put_usage n None u = record n { general = u }

-- with another usage in this place, and what it has borrowed
abbrev pub with_usage : Numbers → Option ℕ → Usage → Numbers
with_usage n place u =
    let before = borrowed (usage_at n place) in
    record (put_usage n place u) { lent = (n.lent - before) + borrowed u; free = (n.free + before) - borrowed u }

-- the account of a query of a pool of this size, of whose own bytes so many stand before it
abbrev pub account_made : Name → ℕ → ℕ → ℕ → Account
account_made pool size before bytes =
    let own = if same_name pool general then bytes else min bytes (size - before) in
    record { pool = pool; own = own; borrowed = bytes - own }

-- the size of the pool among these reserves
abbrev pub size_in : List Reserve → Name → ℕ
size_in es pool = of_reserve (λ e. e.size) (find (λ e. same_name e.pool pool) es)

-- The accounts by the sizes and the grants before each: what own bytes those behind it use changes nothing of it.
abbrev pub account_at : List Reserve → List Holding → Holding → Account
account_at es before g = account_made g.pool (size_in es g.pool) (used g.pool before) g.bytes

abbrev pub accounts_at : List Reserve → List Holding → List Holding → List Account
accounts_at es before [] = []
accounts_at es before (g ∷ gs) = account_at es before g ∷ accounts_at es (before ++ g ∷ []) gs

-- what stands before the next query of the pool
abbrev pub used_before : Name → ℕ → Holding → ℕ
used_before pool before g = if same_name g.pool pool then before + g.bytes else before

-- the account of a query, made anew if it is of the pool
abbrev pub account_anew : Name → ℕ → ℕ → Holding → Account → Account
account_anew pool size before g account = if same_name g.pool pool then account_made pool size before g.bytes else account

-- the accounts, in which those of the pool are made anew
abbrev pub recounted : Name → ℕ → ℕ → List Holding → List Account → List Account
recounted pool size before [] rest = rest
recounted pool size before (g ∷ gs) [] = []
recounted pool size before (g ∷ gs) (a ∷ rest) = account_anew pool size before g a ∷ recounted pool size (used_before pool before g) gs rest

-- the numbers without the pool in this place, whose queries are GENERAL's: what was free of its size is GENERAL's again
abbrev pub usages_folded : Numbers → ℕ → ℕ → Numbers
usages_folded n i size =
    let u = slice_index_or n.usages i no_usage in
    record n {
      usages = remove n.usages i;
      general = usage_made 0 (n.general.used + u.used) (n.general.running + u.running);
      lent = n.lent + u.own;
      free = (n.free + size) - u.own;
    }

-- the usages of pools of other sizes
abbrev pub usages_resized : List Reserve → List Usage → List Usage
usages_resized [] us = []
usages_resized (e ∷ es) [] = []
usages_resized (e ∷ es) (u ∷ us) = usage_made e.size u.used u.running ∷ usages_resized es us

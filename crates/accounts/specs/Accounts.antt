-- What is read of the bytes by query and by pool, and what each call does to them.
use Rattle.std.specs.Prelude.{ℕ, ◌==◌, Bool, not, List, [], ◌∷◌, ◌++◌, Some, None, find, take_while, map}
use Rattle.std.specs.List.{list_any}
use Rattle.rm_base.specs.declared.definitions.Definitions.{Definitions}
use Rattle.rm_base.specs.declared.entry.Account.{Account}
use Rattle.rm_base.specs.declared.name.Name.{Name}
use Rattle.rm_base.specs.Name.{same_name, general}
use Rattle.rm_rules.specs.declared.state.Holding.{Holding}
use Rattle.rm_rules.specs.declared.state.Reserve.{Reserve}
use Rattle.rm_rules.specs.Definitions.{total, user_pools}
use Rattle.rm_rules.specs.State.{without}
use Rattle.rm_rules.specs.Holdings.{Holdings, reserves_of, reserve_names}
use Rattle.rm_rules.specs.Accounting.{account_behind}

-- the names of all pools but GENERAL
abbrev pub names_in : Definitions → List Name
names_in d = map (λ r. r.name) (user_pools d.pools)

-- a pool of this name is there; GENERAL always is
abbrev pub has_name : List Reserve → Name → Bool
has_name reserves pool = list_any (same_name pool) (general ∷ reserve_names reserves)

-- the query is this one
abbrev pub is_of : ℕ → Holding → Bool
is_of query g = g.query == query

-- the query runs
abbrev pub has_query : List Holding → ℕ → Bool
has_query grants query = list_any (is_of query) grants

-- the numbers of the running queries, in their order
abbrev pub queries : List Holding → List ℕ
queries grants = map (λ g. g.query) grants

-- what the query holds; one that does not run holds nothing
abbrev pub grant_of : List Holding → ℕ → ℕ
grant_of grants query = elim (find (is_of query) grants) [ Some g ↦ g.bytes | None ↦ 0 ]

-- the grants before the query's
abbrev pub before : List Holding → ℕ → List Holding
before grants query = take_while (λ g. not (is_of query g)) grants

-- nothing, in GENERAL
abbrev pub no_account : Account
no_account = record { pool = general; own = 0; borrowed = 0 }

-- the account of the query behind those that ran before it; one that does not run has an empty one
abbrev pub account_of : Holdings → ℕ → Account
account_of h query = elim (find (is_of query) h.grants) [ Some g ↦ account_behind h (before h.grants query) g | None ↦ no_account ]

-- at the start: the total is in force, each pool has its MEMORYSIZE, and no query runs
abbrev pub first_holdings : Definitions → Holdings
first_holdings d = record {
  in_force = total d;
  reserves = reserves_of (user_pools d.pools) (map (λ r. r.memory) (user_pools d.pools));
  grants = [];
}

-- with one query more, behind the others
abbrev pub taken : Holdings → ℕ → Name → ℕ → Holdings
taken h query pool bytes = record h { grants = h.grants ++ record { query = query; pool = pool; bytes = bytes } ∷ [] }

-- without the query
abbrev pub given_back : Holdings → ℕ → Holdings
given_back h query = record h { grants = without (is_of query) h.grants }

-- with one pool more, behind the others, that has no bytes of its own yet
abbrev pub with_pool : Holdings → Name → Holdings
with_pool h pool = record h { reserves = h.reserves ++ record { pool = pool; size = 0 } ∷ [] }

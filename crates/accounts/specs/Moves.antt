-- A running query in another pool.
use Rattle.std.specs.Prelude.{ℕ}
use Rattle.rm_base.specs.declared.name.Name.{Name}
use Rattle.rm_rules.specs.Holdings.{Holdings}
use Rattle.rm_rules.specs.Accounting.{used, running_in, lent, free, need}
use Rattle.accounts.specs.declared.moves.IfMoved.{IfMoved}
use Rattle.accounts.specs.Accounts.{grant_of, taken, given_back}

-- the numbers of the pool and of GENERAL for a query of so many bytes
abbrev pub seen_from : Holdings → Name → ℕ → IfMoved
seen_from h pool bytes = record {
  need = need h pool bytes;
  free = free h;
  used = used pool h.grants;
  lent = lent h;
  running = running_in pool h.grants;
}

-- those for the query and its grant, with the query taken out
abbrev pub if_moved : Holdings → ℕ → Name → IfMoved
if_moved h query pool = seen_from (given_back h query) pool (grant_of h.grants query)

-- with the query in the pool, behind the others, and the same grant
abbrev pub moved_to : Holdings → ℕ → Name → Holdings
moved_to h query pool = taken (given_back h query) query pool (grant_of h.grants query)

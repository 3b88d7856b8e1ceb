-- How a query fits in a pool, by the definitions and the bytes.
use Rattle.std.specs.Prelude.{ℕ, ◌+◌, Bool, ◌&&◌, ◌||◌, ◌==◌, nat_le, nat_lt}
use Rattle.rm_base.specs.declared.definitions.Definitions.{Definitions}
use Rattle.rm_base.specs.declared.rows.PoolRow.{PoolRow}
use Rattle.rm_base.specs.declared.name.Name.{Name}
use Rattle.rm_base.specs.Name.{general}
use Rattle.rm_base.specs.Ranges.{passes_if_set}
use Rattle.rm_rules.specs.declared.state.Judged.{Judged}
use Rattle.rm_rules.specs.Definitions.{pool_row}
use Rattle.rm_rules.specs.Budget.{threshold}
use Rattle.rm_rules.specs.Ask.{cap, ask}
use Rattle.rm_rules.specs.Holdings.{Holdings}
use Rattle.rm_rules.specs.Accounting.{used, running_in, lent, free, need}

-- fewer queries run in the pool than its MAXCONCURRENCY
abbrev pub has_place : PoolRow → ℕ → Bool
has_place r running = passes_if_set (nat_lt running) r.concurrency

-- the pool lets in a query of this many bytes: one more may run, its use is within its threshold, and stays within its cap
abbrev pub poolfit : Definitions → Holdings → Name → ℕ → Bool
poolfit d h pool bytes =
    has_place (pool_row d pool) (running_in pool h.grants)
    && (nat_le (used pool h.grants) (threshold d (pool_row d pool))
    && nat_le (used pool h.grants + bytes) (cap d (pool_row d pool)))

-- GENERAL has this many free bytes, and its use is within its threshold
abbrev pub can_lend : Definitions → Holdings → ℕ → Bool
can_lend d h bytes = nat_le (lent h) (threshold d (pool_row d general)) && nat_le bytes (free h)

-- how a query of this many bytes fits in the pool
abbrev pub judged : Definitions → Holdings → Name → ℕ → Judged
judged d h pool bytes = record {
  poolfit = poolfit d h pool bytes;
  need = need h pool bytes;
  fits = poolfit d h pool bytes && (need h pool bytes == 0 || can_lend d h (need h pool bytes));
}

-- how a query of this user with this floor fits there, with its ask
abbrev pub judged_by : Definitions → Holdings → Name → Name → ℕ → Judged
judged_by d h pool user floor = judged d h pool (ask d (pool_row d pool) user floor)

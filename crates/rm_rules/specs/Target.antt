-- Runtime caps, the pools along CASCADE TO, and what a check of a running query comes to. Times are in milliseconds.
use Rattle.std.specs.Prelude.{ℕ, ◌+◌, ◌-◌, Bool, false, nat_lt, not, List, [], ◌∷◌, Option, Some, None, option_map, option_and_then, find, if◌then◌else◌}
use Rattle.rm_base.specs.declared.limits.TheConstants.{POOLS_MOST, MOVES_MOST}
use Rattle.rm_base.specs.declared.definitions.Definitions.{Definitions}
use Rattle.rm_base.specs.declared.rows.PoolRow.{PoolRow}
use Rattle.rm_base.specs.declared.name.Name.{Name}
use Rattle.rm_base.specs.declared.reply.CapOwner.{CapOwner}
use Rattle.rm_base.specs.declared.reply.CapOwner.TheVariants.{User, Session, Pool}
use Rattle.rm_base.specs.declared.reply.Reply.{Reply}
use Rattle.rm_base.specs.declared.reply.Reply.TheVariants as reply
use Rattle.rm_base.specs.Ranges.{passes_if_set}
use Rattle.rm_rules.specs.declared.state.Runner.{Runner}
use Rattle.rm_rules.specs.declared.verdict.Verdict.{Verdict}
use Rattle.rm_rules.specs.declared.verdict.Verdict.TheVariants.{Says, GoesTo}
use Rattle.rm_rules.specs.Definitions.{pool_row, user_called}
use Rattle.rm_rules.specs.PoolStatements.{cascade_of, chain}

-- how long the query has run by this moment: in its earlier admissions, and since its start
abbrev pub running_time : Runner → ℕ → ℕ
running_time r moment = r.ran + (moment - r.start)

-- the RUNTIMECAP of a pool, and of a user
abbrev pub pool_runtime_cap : Definitions → Name → Option ℕ
pool_runtime_cap d pool = (pool_row d pool).cap_ms

abbrev pub user_runtime_cap : Definitions → Name → Option ℕ
user_runtime_cap d user = option_and_then (λ row. row.cap_ms) (user_called d.users user)

-- the running time is above the cap; NONE is never exceeded
abbrev pub is_exceeded : Option ℕ → ℕ → Bool
is_exceeded None running = false
is_exceeded (Some cap) running = nat_lt cap running

-- the pools behind this one along CASCADE TO, in their order; no chain of sound definitions is longer than what is read
abbrev pub pools_behind : List PoolRow → Name → List Name
pools_behind pools pool = chain pools POOLS_MOST (cascade_of pools pool)

-- the pool's cap is NONE or above the running time
abbrev pub leaves_time : Definitions → ℕ → Name → Bool
leaves_time d running pool = passes_if_set (nat_lt running) (pool_runtime_cap d pool)

-- where a query of this pool is to go on: in the first pool behind it that leaves it time, unless it was moved as often as it may be
abbrev pub target : Definitions → Name → ℕ → ℕ → Option Name
target d pool running moves = if nat_lt moves MOVES_MOST then find (leaves_time d running) (pools_behind d.pools pool) else None

-- this reply, where the test holds
abbrev pub says_if : Bool → Reply → Option Verdict
says_if holds r = if holds then Some (Says r) else None

-- the end of the query, where it has exceeded this cap
abbrev pub ended_by : CapOwner → Option ℕ → ℕ → Option Verdict
ended_by which None running = None
ended_by which (Some cap) running = says_if (is_exceeded (Some cap) running) (reply.CapEnded which running cap)

-- the first verdict of these; where there is none, the query runs on
abbrev pub first_verdict : List (Option Verdict) → Verdict
first_verdict [] = Says reply.Go
first_verdict (None ∷ more) = first_verdict more
first_verdict (Some v ∷ more) = v

-- what a check comes to, of a query that has run so long, in a session with this cap of its own
abbrev pub verdict : Definitions → Runner → Option ℕ → ℕ → Verdict
verdict d r session_cap running = first_verdict (
    says_if r.cancelled reply.Stopping
    ∷ option_map (λ pool. Says (reply.GiveWay pool)) r.leaving
    ∷ ended_by User (user_runtime_cap d r.user) running
    ∷ ended_by Session session_cap running
    ∷ says_if (not (is_exceeded (pool_runtime_cap d r.pool) running)) reply.Go
    ∷ option_map GoesTo (target d r.pool running r.moves)
    ∷ ended_by Pool (pool_runtime_cap d r.pool) running
    ∷ [])

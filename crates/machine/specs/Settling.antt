-- What settling needs, and what it keeps.
use Rattle.std.specs.Prelude.{◌≡◌, ℕ, true, List, None}
use Rattle.rm_rules.specs.declared.state.Waiter.{Waiter}
use Rattle.rm_rules.specs.State.{State, without, without_waiter}
use Rattle.rm_rules.specs.Settle.{first_too_large}
use Rattle.rm_rules.specs.Healthy.{IsUnsettledWith, IsHealthyWith}
use Rattle.pool_queue.specs.Queue.{is_query, has_query}

-- what holds of a state that is to settle, whatever entries are still to be made
pub record CanSettle (s : State) : Type 0 where
  pub entries : ℕ
  pub statements : ℕ
  pub kept : IsUnsettledWith entries statements s

-- what holds from the shuffle on: no waiting query is too large any more
pub record IsSettling (s : State) : Type 0 where
  pub entries : ℕ
  pub statements : ℕ
  pub kept : IsHealthyWith entries statements s
  pub small : first_too_large s ≡ None

-- the query waits, and leaves by its number as it does by its session
pub record MayLeave (waiting : List Waiter) (w : Waiter) : Type 0 where
  pub waits : has_query waiting w.query ≡ true
  pub same : without (is_query w.query) waiting ≡ without_waiter w.session waiting

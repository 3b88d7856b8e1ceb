-- What the queue keeps.
use Rattle.std.specs.Prelude.{◌≡◌, ◌≤◌, ◌+◌, length, List, vec_len, vec_capacity}
use Rattle.rm_base.specs.declared.limits.TheConstants.{SESSIONS_MOST}
use Rattle.rm_rules.specs.declared.state.Waiter.{Waiter}
use Rattle.pool_queue.specs.declared.waiting.Queue.TheInside.{Inside}
use Rattle.pool_queue.specs.Lines.{merged, queries, IsOrdered, AreFilled, AreWithin, AreEmpty, HasRoom}

-- the waiting queries are the lists of all pools, merged by the numbers of arrival
abbrev pub waiting : Inside → List Waiter
waiting q = queries (merged q.lines.items)

-- each query stands in its pool's list, the numbers rise in each list and in all, and no list is empty; the numbers are
-- from the least up to the next and within 2 ^ 62 on either side; lists for as many pools as sessions are there
pub record IsKept (q : Inside) : Type 0 where
  pub ordered : IsOrdered q.lines.items
  pub filled : AreFilled q.lines.items
  pub within : AreWithin q.numbers.least q.numbers.next (merged q.lines.items)
  pub limits : HasRoom 0 0 q.numbers.least q.numbers.next
  pub count : q.count ≡ length (merged q.lines.items)
  pub most : q.count ≤ SESSIONS_MOST
  pub lists : vec_len q.lines + length q.spare ≡ SESSIONS_MOST
  pub room : SESSIONS_MOST ≤ vec_capacity q.lines
  pub spare : AreEmpty q.spare

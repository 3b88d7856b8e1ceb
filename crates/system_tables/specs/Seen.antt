-- What a snapshot tells of the bytes and of the waiting queries, as the rules speak of them.
use Rattle.std.specs.Prelude.{◌+◌, map}
use Rattle.rm_base.specs.declared.snapshot.RunningSeen.{RunningSeen}
use Rattle.rm_base.specs.declared.snapshot.WaitingSeen.{WaitingSeen}
use Rattle.rm_base.specs.declared.snapshot.Snapshot.{Snapshot}
use Rattle.rm_base.specs.Name.{dbadmin}
use Rattle.rm_rules.specs.declared.state.Holding.{Holding}
use Rattle.rm_rules.specs.declared.state.Waiter.{Waiter}
use Rattle.rm_rules.specs.Definitions.{user_pools}
use Rattle.rm_rules.specs.Holdings.{Holdings, reserves_of}
use Rattle.rm_rules.specs.Healthy.{AreSized, AreWithinMemory}
use Rattle.rm_rules.specs.Sound.{IsSound}

-- what a running query holds: its own bytes, and those that it has borrowed
abbrev pub holding_seen : RunningSeen → Holding
holding_seen r = record { query = r.query; pool = r.account.pool; bytes = r.account.own + r.account.borrowed }

-- the bytes of the state
abbrev pub holdings_seen : Snapshot → Holdings
holdings_seen s = record {
  in_force = s.in_force;
  reserves = reserves_of (user_pools s.definitions.pools) s.actual;
  grants = map holding_seen s.running;
}

-- a waiting query; a snapshot does not tell its user, its floor, how long it ran before and its moves
abbrev pub waiter_seen : WaitingSeen → Waiter
waiter_seen w = record { query = w.query; session = w.session; user = dbadmin; pool = w.pool; floor = 0; queued = w.queued; ran = 0; moves = 0 }

-- What every snapshot of a desk keeps: the definitions are sound, each pool has its size and its counts, and what is
-- reserved, lent and granted is within the memory in force, and that within the machine's.
pub record IsSeen (s : Snapshot) : Type 0 where
  pub sound : IsSound s.definitions
  pub sized : AreSized s.definitions s.actual s.counters
  pub held : AreWithinMemory s.definitions (holdings_seen s)

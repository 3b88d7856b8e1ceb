use Rattle.std.proofs.Common.{◌≡◌, ◌*◌, ◌^◌, ◌≤◌, None}
use Rattle.std.specs.List.{find, range_with_len}
use Rattle.workload.specs.Pools.{workload_definitions}
use Rattle.workload.specs.Summary.{ending_at, spills, tallied}
use Rattle.workload.proofs.running.run_queries.Given as goal

abbrev pub invariant-loop-query : goal.invariant-loop-query
invariant-loop-query g l = record {
  tally : l.tally ≡ tallied l.options l.query;
  none_failed : find (λ i. spills (ending_at l.options i)) (range_with_len 0 l.query) ≡ None;
  defined : l.lone.definitions ≡ workload_definitions l.options.memory l.options.cores;
  rested : l.lone.held ≡ None;
  begun : l.lone.begun ≡ l.query;
  granted : l.tally.granted ≤ 2 ^ 64 * l.query;
  same : l.lone.definitions ≡ l.initial.lone.definitions;
  spool : l.kit.spool ≡ l.initial.kit.spool;
}

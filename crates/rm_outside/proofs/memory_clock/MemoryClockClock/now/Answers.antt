use Rattle.std.proofs.Common.{arith, ap}
use Rattle.rm_outside.specs.Clock.{moment_at}
use Rattle.rm_outside.proofs.ClockLemmas.{goes_on}
use Rattle.rm_outside.proofs.memory_clock.MemoryClockClock.now.Goals as goal

-- src/memory_clock.rt:52:5
pub invariant_of-self : goal.invariant_of-self
invariant_of-self c = (
  c.self.invariant.0,
  omega (
    arith,
    c.moment_at-moment.ensures,
    ap (λ ms. moment_at ms c.self.inside.asked) c.deref.ensures.value,
    goes_on c.self.inside.moments.items c.self.inside.asked 18446744073709551615 c.saturating_add-self-inside.result c.self.invariant.0 (omega (arith, c.self.ranges)) c.saturating_add-self-inside.ensures,
  ),
)

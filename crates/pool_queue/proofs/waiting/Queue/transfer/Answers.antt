use Rattle.std.proofs.Common.{◌≡◌, ℕ, List, length, ap, subst, arith}
use Rattle.rm_rules.specs.declared.state.Waiter.{Waiter}
use Rattle.pool_queue.specs.Lines.{merged, HasRoom}
use Rattle.pool_queue.proofs.Counts.{length-queries}
use Rattle.pool_queue.proofs.waiting.Queue.transfer.Goals as goal

pub transfer_line-after-requires-clause-room : goal.transfer_line-after-requires-clause-room
transfer_line-after-requires-clause-room c =
    let lines = c.self.inside.lines.items in
    let next = c.make_room-numbers.new.lines.items in
    let same : length (merged next) ≡ length (merged lines) =
    omega (arith, length-queries (merged lines), length-queries (merged next), ap (λ (ws : List Waiter). length ws) c.make_room-numbers.ensures.same.waiting) in
    let old = c.self.invariant in
    let count : c.self.inside.count ≡ length (merged next) = omega (arith, same, old.count) in
    subst (λ (k : ℕ). HasRoom k k c.make_room-numbers.result.least c.make_room-numbers.result.next) count c.make_room-numbers.ensures.room

pub transfer_line-after-requires-clause-few : goal.transfer_line-after-requires-clause-few
transfer_line-after-requires-clause-few c =
    let lines = c.self.inside.lines.items in
    let next = c.make_room-numbers.new.lines.items in
    let same : length (merged next) ≡ length (merged lines) =
    omega (arith, length-queries (merged lines), length-queries (merged next), ap (λ (ws : List Waiter). length ws) c.make_room-numbers.ensures.same.waiting) in
    let old = c.self.invariant in
    omega (arith, same, old.count, old.most)

pub invariant_of-self : goal.invariant_of-self
invariant_of-self c =
    let lines = c.self.inside.lines.items in
    let next = c.make_room-numbers.new.lines.items in
    let same : length (merged next) ≡ length (merged lines) =
    omega (arith, length-queries (merged lines), length-queries (merged next), ap (λ (ws : List Waiter). length ws) c.make_room-numbers.ensures.same.waiting) in
    let old = c.self.invariant in
    let made = c.transfer_line-after.ensures in
    record {
      ordered = made.ordered;
      filled = made.filled;
      within = made.within;
      limits = made.room;
      count = omega (arith, same, old.count, made.count);
      most = old.most;
      lists = made.lists;
      room = omega (arith, made.capacity, c.make_room-numbers.ensures.capacity, old.room);
      spare = made.spare;
    }

use Rattle.std.proofs.Common.{◌≡◌, ◌<◌, ◌∷◌, ◌++◌, [], false, List, length, refl, ap, sym, subst, ◌∙◌, arith, length-append}
use Rattle.std.specs.Prelude.{pos, ◌+ℤ◌}
use Rattle.std.proofs.lemmas.List.{map-append}
use Rattle.rm_rules.specs.declared.state.Waiter.{Waiter}
use Rattle.rm_base.proofs.Names.{same_name-refl}
use Rattle.pool_queue.specs.declared.lines.Arrived.{Arrived}
use Rattle.pool_queue.specs.declared.lines.Line.{Line}
use Rattle.pool_queue.specs.declared.numbers.Numbers.{Numbers}
use Rattle.pool_queue.specs.Lines.{merged, queries, joined, IsOrdered, AreFilled, AreWithin, HasRoom}
use Rattle.pool_queue.specs.Numbers.{with_given}
use Rattle.pool_queue.proofs.Counts.{length-queries}
use Rattle.pool_queue.proofs.Keeping.{filled-within, filled-joined, placing-behind, room-behind}
use Rattle.pool_queue.proofs.waiting.Queue.join.Goals as goal

pub take_spare-block-requires-clause-some : goal.take_spare-block-requires-clause-some
take_spare-block-requires-clause-some c =
    let lines = c.self.inside.lines.items in
    let old = c.self.invariant in
    let waits : length (merged lines) < 128 = omega (arith, length-queries (merged lines), ap (λ (ws : List Waiter). length ws) c.self.view_is, c.requires.room) in
    let next = c.make_room-numbers.new.lines.items in
    let same : length (merged next) ≡ length (merged lines) =
    omega (arith, length-queries (merged lines), length-queries (merged next), ap (λ (ws : List Waiter). length ws) c.make_room-numbers.ensures.same.waiting) in
    let few = filled-within next (c.make_room-numbers.ensures.same.filled old.filled) in
    omega (arith, old.lists, few, same, waits, c.make_room-numbers.ensures.same.lists, c.self.inside.lines.ok.0)

pub add-requires : goal.add-requires
add-requires c = (omega arith, omega (arith, ap (λ (xs : List Arrived). length xs) c.take_spare-block.ensures.list))

pub place-requires : goal.place-requires
place-requires c =
    let lines = c.self.inside.lines.items in
    let old = c.self.invariant in
    let waits : length (merged lines) < 128 = omega (arith, length-queries (merged lines), ap (λ (ws : List Waiter). length ws) c.self.view_is, c.requires.room) in
    let next = c.make_room-numbers.new.lines.items in
    let same : length (merged next) ≡ length (merged lines) =
    omega (arith, length-queries (merged lines), length-queries (merged next), ap (λ (ws : List Waiter). length ws) c.make_room-numbers.ensures.same.waiting) in
    let few = filled-within next (c.make_room-numbers.ensures.same.filled old.filled) in
    let block : c.add.new.self ≡ c.arrived-last.result ∷ [] = c.add.ensures ∙ ap (λ (xs : List Arrived). xs ++ c.arrived-last.result ∷ []) c.take_spare-block.ensures.list in
    record {
      room = omega (arith, few, same, waits, c.make_room-numbers.new.lines.ok.0, c.make_room-numbers.ensures.capacity, old.room);
      spare = omega (arith, c.take_spare-block.ensures.count, old.lists);
      fits = omega (arith, same, waits, ap (λ (xs : List Arrived). length xs) block);
    }

pub invariant_of-self : goal.invariant_of-self
invariant_of-self c =
    let lines = c.self.inside.lines.items in
    let old = c.self.invariant in
    let waits : length (merged lines) < 128 = omega (arith, length-queries (merged lines), ap (λ (ws : List Waiter). length ws) c.self.view_is, c.requires.room) in
    let next = c.make_room-numbers.new.lines.items in
    let same : length (merged next) ≡ length (merged lines) =
    omega (arith, length-queries (merged lines), length-queries (merged next), ap (λ (ws : List Waiter). length ws) c.make_room-numbers.ensures.same.waiting) in
    let few = filled-within next (c.make_room-numbers.ensures.same.filled old.filled) in
    let block : c.add.new.self ≡ c.arrived-last.result ∷ [] = c.add.ensures ∙ ap (λ (xs : List Arrived). xs ++ c.arrived-last.result ∷ []) c.take_spare-block.ensures.list in
    let number = c.make_room-numbers.result.next in
    let least = c.make_room-numbers.result.least in
    let a : Arrived = record { number = number; waiter = c.args.item } in
    let pool = c.args.item.pool in
    let only : c.add.new.self ≡ a ∷ [] = block ∙ ap (λ (x : Arrived). x ∷ []) c.arrived-last.ensures in
    let now : c.place.new.lines.items ≡ joined false pool (a ∷ []) next = c.place.ensures.lines ∙ ap (λ (xs : List Arrived). joined false pool xs next) only in
    let made = c.make_room-numbers.ensures in
    let placed = placing-behind pool (a ∷ []) next least number (same_name-refl pool, tt) made.ordered made.within (refl, tt) made.room.rising in
    let numbers = sym (c.with-self-inside.ensures ∙ ap (λ (g : Numbers). with_given false g c.make_room-numbers.result) c.given-given.ensures) in
    let within = subst (λ (ls : List Line). AreWithin least (number +ℤ pos 1) (merged ls)) (sym now) placed.within in
    let whole : merged c.place.new.lines.items ≡ merged next ++ a ∷ [] = ap (λ (ls : List Line). merged ls) now ∙ placed.whole in
    record {
      ordered = subst (λ (ls : List Line). IsOrdered ls) (sym now) placed.ordered;
      filled = subst (λ (ls : List Line). AreFilled ls) (sym now) (filled-joined false pool (a ∷ []) next (omega arith) (made.same.filled old.filled));
      within = subst (λ (n : Numbers). AreWithin n.least n.next (merged c.place.new.lines.items)) numbers within;
      limits = subst (λ (n : Numbers). HasRoom 0 0 n.least n.next) numbers (room-behind 1 least number made.room);
      count = omega (arith, ap (λ (xs : List Arrived). length xs) whole, length-append (merged next) (a ∷ []), same, old.count);
      most = omega (arith, waits, old.count);
      lists = omega (arith, c.place.ensures.lists, c.take_spare-block.ensures.count, old.lists, made.same.lists, c.self.inside.lines.ok.0, c.make_room-numbers.new.lines.ok.0);
      room = omega (arith, c.place.ensures.capacity, made.capacity, old.room);
      spare = c.place.ensures.spare c.take_spare-block.ensures.spare;
    }

pub returns : goal.returns
returns c =
    let lines = c.self.inside.lines.items in
    let old = c.self.invariant in
    let waits : length (merged lines) < 128 = omega (arith, length-queries (merged lines), ap (λ (ws : List Waiter). length ws) c.self.view_is, c.requires.room) in
    let next = c.make_room-numbers.new.lines.items in
    let same : length (merged next) ≡ length (merged lines) =
    omega (arith, length-queries (merged lines), length-queries (merged next), ap (λ (ws : List Waiter). length ws) c.make_room-numbers.ensures.same.waiting) in
    let few = filled-within next (c.make_room-numbers.ensures.same.filled old.filled) in
    let block : c.add.new.self ≡ c.arrived-last.result ∷ [] = c.add.ensures ∙ ap (λ (xs : List Arrived). xs ++ c.arrived-last.result ∷ []) c.take_spare-block.ensures.list in
    let number = c.make_room-numbers.result.next in
    let least = c.make_room-numbers.result.least in
    let a : Arrived = record { number = number; waiter = c.args.item } in
    let pool = c.args.item.pool in
    let only : c.add.new.self ≡ a ∷ [] = block ∙ ap (λ (x : Arrived). x ∷ []) c.arrived-last.ensures in
    let now : c.place.new.lines.items ≡ joined false pool (a ∷ []) next = c.place.ensures.lines ∙ ap (λ (xs : List Arrived). joined false pool xs next) only in
    let made = c.make_room-numbers.ensures in
    let placed = placing-behind pool (a ∷ []) next least number (same_name-refl pool, tt) made.ordered made.within (refl, tt) made.room.rising in
    record {
      items = ap (λ (ls : List Line). queries (merged ls)) now
          ∙ ap (λ (xs : List Arrived). queries xs) placed.whole
          ∙ map-append (λ (x : Arrived). x.waiter) (merged next) (a ∷ [])
          ∙ ap (λ (ws : List Waiter). ws ++ c.args.item ∷ []) (made.same.waiting ∙ c.self.view_is);
    }

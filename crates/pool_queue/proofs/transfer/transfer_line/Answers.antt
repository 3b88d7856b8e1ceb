use Rattle.std.proofs.Common.{◌≡◌, ◌<◌, ℕ, cond, Some, List, length, position, ap, sym, subst, ◌∙◌, arith}
use Rattle.rm_base.specs.declared.name.Name.{Name}
use Rattle.rm_base.specs.Name.{general}
use Rattle.rm_rules.specs.State.{without}
use Rattle.rm_rules.proofs.Places.{find-found, find-absent, without-found, position-within, position-is}
use Rattle.pool_queue.specs.declared.lines.Arrived.{Arrived}
use Rattle.pool_queue.specs.declared.lines.Line.{Line}
use Rattle.pool_queue.specs.declared.numbers.Numbers.{Numbers}
use Rattle.pool_queue.specs.Numbers.{given, with_given}
use Rattle.pool_queue.specs.Transfer.{as_generals_from}
use Rattle.pool_queue.specs.Lines.{merged, queries, is_line, joined, IsOrdered, AreFilled, AreWithin, HasRoom}
use Rattle.pool_queue.proofs.Counts.{line-within}
use Rattle.pool_queue.proofs.Transferring.{block_of, numbers_after, moving, nobody, room-given, room-of_given, room-after, line-filled, length-generals, length-left}
use Rattle.pool_queue.proofs.transfer.transfer_line.Goals as goal

pub returns-in_default-clause-items : goal.returns-in_default-clause-items
returns-in_default-clause-items c =
    let lines = c.args.lines.now.items in
    nobody c.args.front c.args.from lines c.requires.ordered
    (find-absent (is_line c.args.from) lines
    (ap (λ (ls : List Line). position (is_line c.args.from) ls) (sym c.deref.ensures.value) ∙ sym c.line_of.ensures.value ∙ c.in_default.is))

pub given-given-requires : goal.given-given-requires
given-given-requires c =
    let lines = c.args.lines.now.items in
    let n = c.args.numbers.now in
    let front = c.args.front in
    let l = c.remove-line.result in
    let place : position (is_line c.args.from) lines ≡ Some c.in-Some.index =
    ap (λ (ls : List Line). position (is_line c.args.from) ls) (sym c.deref.ensures.value) ∙ sym c.line_of.ensures.value ∙ c.in-Some.is in
    let within : c.in-Some.index < length lines =
    omega (arith, position-within (is_line c.args.from) lines c.in-Some.index place, position-is (is_line c.args.from) lines c.in-Some.index place) in
    let found = find-found (is_line c.args.from) lines c.in-Some.index l place c.remove-line.ensures.value in
    let left : c.remove-line.new.self.items ≡ without (is_line c.args.from) lines =
    c.remove-line.ensures.items ∙ sym (without-found (is_line c.args.from) lines c.in-Some.index place) in
    let few = line-within lines c.in-Some.index l within c.remove-line.ensures.value in
    let count : c.len.result ≡ length l.waiters = c.len.ensures.value in
    let room : HasRoom (cond front (length l.waiters) 0) (cond front 0 (length l.waiters)) n.least n.next =
    room-given front (length l.waiters) (length (merged lines)) n.least n.next few c.requires.room in
    subst (λ (k : ℕ). HasRoom (cond front k 0) (cond front 0 k) n.least n.next) (sym count) room

pub make_generals-requires : goal.make_generals-requires
make_generals-requires c =
    let lines = c.args.lines.now.items in
    let n = c.args.numbers.now in
    let front = c.args.front in
    let l = c.remove-line.result in
    let place : position (is_line c.args.from) lines ≡ Some c.in-Some.index =
    ap (λ (ls : List Line). position (is_line c.args.from) ls) (sym c.deref.ensures.value) ∙ sym c.line_of.ensures.value ∙ c.in-Some.is in
    let within : c.in-Some.index < length lines =
    omega (arith, position-within (is_line c.args.from) lines c.in-Some.index place, position-is (is_line c.args.from) lines c.in-Some.index place) in
    let found = find-found (is_line c.args.from) lines c.in-Some.index l place c.remove-line.ensures.value in
    let left : c.remove-line.new.self.items ≡ without (is_line c.args.from) lines =
    c.remove-line.ensures.items ∙ sym (without-found (is_line c.args.from) lines c.in-Some.index place) in
    let few = line-within lines c.in-Some.index l within c.remove-line.ensures.value in
    let count : c.len.result ≡ length l.waiters = c.len.ensures.value in
    let room : HasRoom (cond front (length l.waiters) 0) (cond front 0 (length l.waiters)) n.least n.next =
    room-given front (length l.waiters) (length (merged lines)) n.least n.next few c.requires.room in
    let given_is : c.given-given.result ≡ given front (length l.waiters) n = c.given-given.ensures ∙ ap (λ (k : ℕ). given front k n) count in
    subst (λ (g : Numbers). HasRoom 0 0 g.least g.next) (sym given_is) (room-of_given front (length l.waiters) n room)

pub place-requires-clause-fits : goal.place-requires-clause-fits
place-requires-clause-fits c =
    let lines = c.args.lines.now.items in
    let n = c.args.numbers.now in
    let front = c.args.front in
    let l = c.remove-line.result in
    let place : position (is_line c.args.from) lines ≡ Some c.in-Some.index =
    ap (λ (ls : List Line). position (is_line c.args.from) ls) (sym c.deref.ensures.value) ∙ sym c.line_of.ensures.value ∙ c.in-Some.is in
    let within : c.in-Some.index < length lines =
    omega (arith, position-within (is_line c.args.from) lines c.in-Some.index place, position-is (is_line c.args.from) lines c.in-Some.index place) in
    let found = find-found (is_line c.args.from) lines c.in-Some.index l place c.remove-line.ensures.value in
    let left : c.remove-line.new.self.items ≡ without (is_line c.args.from) lines =
    c.remove-line.ensures.items ∙ sym (without-found (is_line c.args.from) lines c.in-Some.index place) in
    let few = line-within lines c.in-Some.index l within c.remove-line.ensures.value in
    let count : c.len.result ≡ length l.waiters = c.len.ensures.value in
    let given_is : c.given-given.result ≡ given front (length l.waiters) n = c.given-given.ensures ∙ ap (λ (k : ℕ). given front k n) count in
    let block : c.make_generals.new.block ≡ block_of front l n = c.make_generals.ensures ∙ ap (λ (g : Numbers). as_generals_from g.least l.waiters) given_is in
    omega (
      arith,
      ap (λ (xs : List Arrived). length xs) block,
      length-generals (given front (length l.waiters) n).least l.waiters,
      length-left c.args.from lines l c.requires.ordered found,
      ap (λ (ls : List Line). length (merged ls)) left,
      c.requires.few,
    )

pub returns : goal.returns
returns c =
    let lines = c.args.lines.now.items in
    let n = c.args.numbers.now in
    let front = c.args.front in
    let l = c.remove-line.result in
    let place : position (is_line c.args.from) lines ≡ Some c.in-Some.index =
    ap (λ (ls : List Line). position (is_line c.args.from) ls) (sym c.deref.ensures.value) ∙ sym c.line_of.ensures.value ∙ c.in-Some.is in
    let within : c.in-Some.index < length lines =
    omega (arith, position-within (is_line c.args.from) lines c.in-Some.index place, position-is (is_line c.args.from) lines c.in-Some.index place) in
    let found = find-found (is_line c.args.from) lines c.in-Some.index l place c.remove-line.ensures.value in
    let left : c.remove-line.new.self.items ≡ without (is_line c.args.from) lines =
    c.remove-line.ensures.items ∙ sym (without-found (is_line c.args.from) lines c.in-Some.index place) in
    let few = line-within lines c.in-Some.index l within c.remove-line.ensures.value in
    let count : c.len.result ≡ length l.waiters = c.len.ensures.value in
    let room : HasRoom (cond front (length l.waiters) 0) (cond front 0 (length l.waiters)) n.least n.next =
    room-given front (length l.waiters) (length (merged lines)) n.least n.next few c.requires.room in
    let given_is : c.given-given.result ≡ given front (length l.waiters) n = c.given-given.ensures ∙ ap (λ (k : ℕ). given front k n) count in
    let block : c.make_generals.new.block ≡ block_of front l n = c.make_generals.ensures ∙ ap (λ (g : Numbers). as_generals_from g.least l.waiters) given_is in
    let some = line-filled lines c.in-Some.index l within c.remove-line.ensures.value c.requires.filled in
    let moved = moving front c.args.from lines l n c.requires.ordered c.requires.filled c.requires.within c.requires.room.rising found some in
    let blk = block_of front l n in
    let new = joined front general blk (without (is_line c.args.from) lines) in
    let now : c.place.new.lines.items ≡ new =
    c.place.ensures.lines
    ∙ ap (λ (p : Name). joined front p c.make_generals.new.block c.remove-line.new.self.items) c.general.ensures
    ∙ (λ i. joined front general (block i) (left i)) in
    let after : c.with.result ≡ numbers_after front l n = c.with.ensures ∙ ap (λ (g : Numbers). with_given front g n) given_is in
    let inside = subst (λ (ls : List Line). AreWithin (numbers_after front l n).least (numbers_after front l n).next (merged ls)) (sym now) moved.within in
    record {
      items = ap (λ (ls : List Line). queries (merged ls)) now ∙ moved.items;
      ordered = subst (λ (ls : List Line). IsOrdered ls) (sym now) moved.ordered;
      filled = subst (λ (ls : List Line). AreFilled ls) (sym now) moved.filled;
      within = subst (λ (g : Numbers). AreWithin g.least g.next (merged c.place.new.lines.items)) (sym after) inside;
      room = subst (λ (g : Numbers). HasRoom 0 0 g.least g.next) (sym after) (room-after front (length l.waiters) n room);
      count = ap (λ (ls : List Line). length (merged ls)) now ∙ moved.count;
      lists = omega (arith, c.place.ensures.lists, c.remove-line.ensures.len, c.requires.lists);
      capacity = c.place.ensures.capacity ∙ c.remove-line.ensures.capacity;
      spare = c.place.ensures.spare c.requires.spare;
    }

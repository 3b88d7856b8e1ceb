use Rattle.std.proofs.Common.{rules, ◌≡◌, ℕ, Option, Some, List, length, set, find, filter, position, ap, sym, subst, ◌∙◌, arith}
use Rattle.std.specs.Prelude.{option_map}
use Rattle.std.specs.Option.{IsSome}
use Rattle.std.specs.List.{list_any, position_or_len}
use Rattle.rm_rules.specs.declared.state.Waiter.{Waiter}
use Rattle.rm_rules.specs.State.{without}
use Rattle.rm_rules.proofs.Once.{without-map}
use Rattle.rm_rules.proofs.Taken.{length_without}
use Rattle.pool_queue.specs.declared.lines.Arrived.{Arrived}
use Rattle.pool_queue.specs.declared.lines.Line.{Line}
use Rattle.pool_queue.specs.Queue.{is_query}
use Rattle.pool_queue.specs.Lines.{merged, queries, first_of_lines, is_line, with_kept, has_other_number, without_empty, IsOrdered, AreFilled, AreWithin}
use Rattle.pool_queue.proofs.Places.{position-present}
use Rattle.pool_queue.proofs.Finding.{first-found, first-query, find-queries}
use Rattle.pool_queue.proofs.Keeping.{filled-without_empty, within-filter}
use Rattle.pool_queue.proofs.Leaving.{stays, leaving, is-there, has-line}
use Rattle.pool_queue.proofs.waiting.Queue.leave.Goals as goal

pub unwrap-gone-requires : goal.unwrap-gone-requires
unwrap-gone-requires c =
    let t = is_query c.args.query in
    let lines = c.self.inside.lines.items in
    let searched : c.first_such.result ≡ first_of_lines (λ (a : Arrived). t a.waiter) lines =
    c.first_such.ensures ∙ ap (λ (ls : List Line). first_of_lines (λ (a : Arrived). t a.waiter) ls) c.deref.ensures.value in
    let same : option_map (λ (a : Arrived). a.waiter) c.first_such.result ≡ find t (queries (merged lines)) =
    ap (λ (o : Option Arrived). option_map (λ (a : Arrived). a.waiter) o) searched ∙ first-query t lines c.self.invariant.ordered in
    let there = is-there t c.first_such.result (queries (merged lines)) same (ap (λ (ws : List Waiter). list_any t ws) c.self.view_is ∙ c.requires.present) in
    let P : Option Arrived → Type 0 = λ o. IsSome o in
    subst P (sym there.is) (search rules)

pub unwrap-index-requires : goal.unwrap-index-requires
unwrap-index-requires c =
    let t = is_query c.args.query in
    let lines = c.self.inside.lines.items in
    let searched : c.first_such.result ≡ first_of_lines (λ (a : Arrived). t a.waiter) lines =
    c.first_such.ensures ∙ ap (λ (ls : List Line). first_of_lines (λ (a : Arrived). t a.waiter) ls) c.deref.ensures.value in
    let gone = c.unwrap-gone.result in
    let found : find (λ (a : Arrived). t a.waiter) (merged lines) ≡ Some gone =
    sym (first-found (λ (a : Arrived). t a.waiter) lines c.self.invariant.ordered) ∙ sym searched ∙ c.unwrap-gone.ensures in
    let some = has-line (λ (a : Arrived). t a.waiter) gone lines c.self.invariant.ordered found in
    let at : c.line_of.result ≡ Some (position_or_len (is_line gone.waiter.pool) lines) =
    c.line_of.ensures.value ∙ ap (λ (ls : List Line). position (is_line gone.waiter.pool) ls) c.deref-2.ensures.value ∙ position-present (is_line gone.waiter.pool) lines some in
    let P : Option ℕ → Type 0 = λ o. IsSome o in
    subst P (sym at) (search rules)

pub invariant_of-self : goal.invariant_of-self
invariant_of-self c =
    let t = is_query c.args.query in
    let lines = c.self.inside.lines.items in
    let searched : c.first_such.result ≡ first_of_lines (λ (a : Arrived). t a.waiter) lines =
    c.first_such.ensures ∙ ap (λ (ls : List Line). first_of_lines (λ (a : Arrived). t a.waiter) ls) c.deref.ensures.value in
    let gone = c.unwrap-gone.result in
    let found : find (λ (a : Arrived). t a.waiter) (merged lines) ≡ Some gone =
    sym (first-found (λ (a : Arrived). t a.waiter) lines c.self.invariant.ordered) ∙ sym searched ∙ c.unwrap-gone.ensures in
    let here : position (is_line gone.waiter.pool) lines ≡ Some c.unwrap-index.result =
    ap (λ (ls : List Line). position (is_line gone.waiter.pool) ls) (sym c.deref-2.ensures.value) ∙ sym c.line_of.ensures.value ∙ c.unwrap-index.ensures in
    let new = without_empty c.unwrap-index.result (set lines c.unwrap-index.result (with_kept (has_other_number gone.number) c.index_mut-line.result.now)) in
    let now : c.close_if_empty.new.lines.items ≡ new =
    c.close_if_empty.ensures.lines ∙ ap (λ (l : Line). without_empty c.unwrap-index.result (set lines c.unwrap-index.result l)) c.take_out.ensures in
    let left = leaving (λ (a : Arrived). t a.waiter) gone lines c.unwrap-index.result c.index_mut-line.result.now c.self.invariant.ordered found here c.index_mut-line.ensures.value in
    let whole : merged c.close_if_empty.new.lines.items ≡ without (λ (a : Arrived). t a.waiter) (merged lines) = ap (λ (ls : List Line). merged ls) now ∙ left.whole in
    let kept : merged c.close_if_empty.new.lines.items ≡ filter (stays gone) (merged lines) = ap (λ (ls : List Line). merged ls) now ∙ left.kept in
    let fewer = length_without (λ (a : Arrived). t a.waiter) gone (merged lines) found in
    let old = c.self.invariant in
    let numbers = c.self.inside.numbers in
    record {
      ordered = subst (λ (ls : List Line). IsOrdered ls) (sym now) left.ordered;
      filled = subst (λ (ls : List Line). AreFilled ls) (sym now) (filled-without_empty lines c.unwrap-index.result (with_kept (has_other_number gone.number) c.index_mut-line.result.now) old.filled);
      within = subst (λ (xs : List Arrived). AreWithin numbers.least numbers.next xs) (sym kept) (within-filter (stays gone) numbers.least numbers.next (merged lines) old.within);
      limits = old.limits;
      count = omega (arith, fewer, ap (λ (xs : List Arrived). length xs) whole, old.count);
      most = omega (arith, old.most);
      lists = omega (arith, c.close_if_empty.ensures.lists, old.lists);
      room = omega (arith, c.close_if_empty.ensures.capacity, old.room);
      spare = c.close_if_empty.ensures.spare old.spare;
    }

pub returns-clause-waiter : goal.returns-clause-waiter
returns-clause-waiter c =
    let t = is_query c.args.query in
    let lines = c.self.inside.lines.items in
    let searched : c.first_such.result ≡ first_of_lines (λ (a : Arrived). t a.waiter) lines =
    c.first_such.ensures ∙ ap (λ (ls : List Line). first_of_lines (λ (a : Arrived). t a.waiter) ls) c.deref.ensures.value in
    let gone = c.unwrap-gone.result in
    let found : find (λ (a : Arrived). t a.waiter) (merged lines) ≡ Some gone =
    sym (first-found (λ (a : Arrived). t a.waiter) lines c.self.invariant.ordered) ∙ sym searched ∙ c.unwrap-gone.ensures in
    sym (ap (λ (ws : List Waiter). find t ws) c.self.view_is) ∙ sym (find-queries t (merged lines)) ∙ ap (λ (o : Option Arrived). option_map (λ (a : Arrived). a.waiter) o) found

pub returns-clause-items : goal.returns-clause-items
returns-clause-items c =
    let t = is_query c.args.query in
    let lines = c.self.inside.lines.items in
    let searched : c.first_such.result ≡ first_of_lines (λ (a : Arrived). t a.waiter) lines =
    c.first_such.ensures ∙ ap (λ (ls : List Line). first_of_lines (λ (a : Arrived). t a.waiter) ls) c.deref.ensures.value in
    let gone = c.unwrap-gone.result in
    let found : find (λ (a : Arrived). t a.waiter) (merged lines) ≡ Some gone =
    sym (first-found (λ (a : Arrived). t a.waiter) lines c.self.invariant.ordered) ∙ sym searched ∙ c.unwrap-gone.ensures in
    let here : position (is_line gone.waiter.pool) lines ≡ Some c.unwrap-index.result =
    ap (λ (ls : List Line). position (is_line gone.waiter.pool) ls) (sym c.deref-2.ensures.value) ∙ sym c.line_of.ensures.value ∙ c.unwrap-index.ensures in
    let new = without_empty c.unwrap-index.result (set lines c.unwrap-index.result (with_kept (has_other_number gone.number) c.index_mut-line.result.now)) in
    let now : c.close_if_empty.new.lines.items ≡ new =
    c.close_if_empty.ensures.lines ∙ ap (λ (l : Line). without_empty c.unwrap-index.result (set lines c.unwrap-index.result l)) c.take_out.ensures in
    let left = leaving (λ (a : Arrived). t a.waiter) gone lines c.unwrap-index.result c.index_mut-line.result.now c.self.invariant.ordered found here c.index_mut-line.ensures.value in
    ap (λ (ls : List Line). queries (merged ls)) now
    ∙ ap (λ (xs : List Arrived). queries xs) left.whole
    ∙ without-map (λ (a : Arrived). a.waiter) t (merged lines)
    ∙ ap (λ (ws : List Waiter). without t ws) c.self.view_is

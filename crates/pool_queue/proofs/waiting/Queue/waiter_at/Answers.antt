use Rattle.std.proofs.Common.{rules, ◌≡◌, ◌<◌, ◌-◌, nat_eq, Option, Some, List, [], length, get_or, refl, ap, sym, subst, ◌∙◌, arith}
use Rattle.std.specs.Prelude.{slice_get}
use Rattle.std.specs.Option.{IsSome}
use Rattle.std.proofs.lemmas.Option.{slice_get_read}
use Rattle.rm_rules.specs.declared.state.Waiter.{Waiter}
use Rattle.pool_queue.specs.declared.lines.Arrived.{Arrived}
use Rattle.pool_queue.specs.declared.lines.Line.{Line}
use Rattle.pool_queue.specs.Lines.{merged, queries, first_of_lines, count_below}
use Rattle.pool_queue.proofs.Counts.{length-queries}
use Rattle.pool_queue.proofs.Finding.{first-found}
use Rattle.pool_queue.proofs.Numbering.{find-behind, get-queries}
use Rattle.pool_queue.proofs.waiting.Queue.waiter_at.Goals as goal

pub unwrap-found-requires : goal.unwrap-found-requires
unwrap-found-requires c =
    let lines = c.self.inside.lines.items in
    let k = c.args.place - 1 in
    let count : length (merged lines) ≡ length c.args.self.now = sym (length-queries (merged lines)) ∙ ap (λ (ws : List Waiter). length ws) c.self.view_is in
    let within : k < length (merged lines) = omega (arith, count, c.requires.first, c.requires.last) in
    let there = find-behind lines k k [] (merged lines) c.self.invariant.ordered refl (omega arith) within in
    let found : c.behind.result ≡ Some there.one =
    c.behind.ensures
    ∙ ap (λ (ls : List Line). first_of_lines (λ (a : Arrived). nat_eq (count_below a.number ls) k) ls) c.deref.ensures.value
    ∙ first-found (λ (a : Arrived). nat_eq (count_below a.number lines) k) lines c.self.invariant.ordered
    ∙ there.is in
    let P : Option Arrived → Type 0 = λ o. IsSome o in
    subst P (sym found) (search rules)

some-same : (x y : Arrived) → Some x ≡ Some y → x ≡ y
some-same x y e = cc

pub returns : goal.returns
returns c =
    let lines = c.self.inside.lines.items in
    let k = c.args.place - 1 in
    let count : length (merged lines) ≡ length c.args.self.now = sym (length-queries (merged lines)) ∙ ap (λ (ws : List Waiter). length ws) c.self.view_is in
    let within : k < length (merged lines) = omega (arith, count, c.requires.first, c.requires.last) in
    let there = find-behind lines k k [] (merged lines) c.self.invariant.ordered refl (omega arith) within in
    let found : c.behind.result ≡ Some there.one =
    c.behind.ensures
    ∙ ap (λ (ls : List Line). first_of_lines (λ (a : Arrived). nat_eq (count_below a.number ls) k) ls) c.deref.ensures.value
    ∙ first-found (λ (a : Arrived). nat_eq (count_below a.number lines) k) lines c.self.invariant.ordered
    ∙ there.is in
    let whole = merged lines in
    let one = some-same there.one c.unwrap-found.result (sym found ∙ c.unwrap-found.ensures) in
    let at : there.one.waiter ≡ get_or (queries whole) k there.one.waiter = ap (λ (a : Arrived). a.waiter) there.at ∙ sym (get-queries whole k there.one) in
    record {
      waiter = sym (ap (λ (ws : List Waiter). slice_get ws k) c.self.view_is)
          ∙ slice_get_read (queries whole) (length (queries whole)) k there.one.waiter refl (omega (arith, within, length-queries whole)) at
          ∙ ap (λ (a : Arrived). Some a.waiter) one;
    }

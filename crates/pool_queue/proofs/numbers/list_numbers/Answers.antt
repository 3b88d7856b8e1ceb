use Rattle.std.proofs.Common.{◌≡◌, ◌++◌, false, List, [], ◌∷◌, length, filter, refl, ap, ◌∙◌, rules, arith, length-append, drop}
use Rattle.std.specs.Prelude.{ℤ}
use Rattle.std.proofs.lemmas.Fn.{filter_same}
use Rattle.pool_queue.specs.declared.lines.Arrived.{Arrived}
use Rattle.pool_queue.specs.Numbers.{numbers_of}
use Rattle.pool_queue.proofs.Numbering.{length-numbers, numbers-within}
use Rattle.pool_queue.proofs.numbers.list_numbers.Goals as goal

none-left : (xs : List ℤ) → filter (λ (_ : ℤ). false) xs ≡ []
none-left [] = refl
none-left (x ∷ xs) = none-left xs

pub loop-line-init : goal.loop-line-init
loop-line-init c =
    let empty = filter_same _ (λ (_ : ℤ). false) _ (λ x b f' k. search rules) _ _ c.retain.ensures ∙ none-left c.args.given.now in
    ap (λ (ns : List ℤ). ns ++ numbers_of c.args.lines.now) empty

pub add_numbers-requires : goal.add_numbers-requires
add_numbers-requires c =
    let lines = c.args.lines.now in
    omega (
      arith,
      length-append c.loop-line.given (numbers_of (drop c.loop-line.line-index lines)),
      ap (λ (ns : List ℤ). length ns) c.loop-line.invariant,
      length-numbers lines,
      c.requires,
      numbers-within lines c.loop-line.line-index c.line-item.result c.loop-line-test.true c.line-item.is,
      ap (λ (xs : List Arrived). length xs) c.rows.ensures.rows,
    )

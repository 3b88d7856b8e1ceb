use Rattle.std.proofs.Common.{to_z, w64, ◌≡◌, ◌≤◌, ℕ, List, length, map, ap, sym, subst, ◌∙◌, arith}
use Rattle.std.specs.Prelude.{ℤ, pos}
use Rattle.std.proofs.lemmas.Int.{ints}
use Rattle.pool_queue.specs.declared.lines.Line.{Line}
use Rattle.pool_queue.specs.Numbers.{numbers_of, ranked_line}
use Rattle.pool_queue.specs.Lines.{merged, IsSameQueue, IsOrdered, AreWithin}
use Rattle.pool_queue.proofs.Numbering.{numbering, length-numbers}
use Rattle.pool_queue.proofs.numbers.number_anew.Goals as goal

as_signed : (n m : ℕ) → n ≡ m → m ≤ 128 → to_z w64 n ≡ pos m
as_signed n m same few = omega (arith, ints, same, few)

pub returns : goal.returns
returns c =
    let lines = c.args.lines.now.items in
    let ns : c.rows.result.now ≡ numbers_of lines = c.rows.ensures.rows ∙ c.list_numbers.ensures ∙ ap (λ (ls : List Line). numbers_of ls) c.deref.ensures.value in
    let now : c.rank_lines.new.lines.items ≡ map (ranked_line (numbers_of lines)) lines =
    c.rank_lines.ensures.lines ∙ ap (λ (n : List ℤ). map (ranked_line n) lines) ns in
    let count : c.len.result ≡ length (merged lines) =
    c.len.ensures.value ∙ ap (λ (n : List ℤ). length n) (c.list_numbers.ensures ∙ ap (λ (ls : List Line). numbers_of ls) c.deref.ensures.value) ∙ length-numbers lines in
    let next = as_signed c.len.result (length (merged lines)) count c.requires.few in
    let anew = numbering lines c.requires.ordered in
    record {
      same = subst (λ (ls : List Line). IsSameQueue lines ls) (sym now) anew.same;
      ordered = subst (λ (ls : List Line). IsOrdered ls) (sym now) anew.ordered;
      within = subst (λ (n : ℤ). AreWithin (pos 0) n (merged c.rank_lines.new.lines.items)) (sym next)
          (subst (λ (ls : List Line). AreWithin (pos 0) (pos (length (merged lines))) (merged ls)) (sym now) anew.within);
      numbers = λ i. record { least = pos 0; next = next i };
      capacity = c.rank_lines.ensures.capacity;
    }

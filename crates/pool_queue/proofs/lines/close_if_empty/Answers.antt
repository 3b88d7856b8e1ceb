use Rattle.std.proofs.Common.{◌≡◌, ◌≤◌, ◌<◌, ℕ, List, length, subst, sym, ap, ◌∙◌, arith}
use Rattle.pool_queue.specs.declared.lines.Arrived.{Arrived}
use Rattle.pool_queue.specs.declared.lines.Line.{Line}
use Rattle.pool_queue.specs.Lines.{AreEmpty}
use Rattle.pool_queue.proofs.Keeping.{closed-then, closed-else, no_length, same-at}
use Rattle.pool_queue.proofs.Counts.{empty-push}
use Rattle.pool_queue.proofs.lines.close_if_empty.Goals as goal

pub returns-then-len-eq0-clause-lines : goal.returns-then-len-eq0-clause-lines
returns-then-len-eq0-clause-lines c =
    let within : c.args.index < length c.args.lines.now.items = omega (arith, c.requires.within, c.args.lines.now.ok.0) in
    c.remove-line.ensures.items
    ∙ closed-then c.args.lines.now.items c.args.index c.index.result.now within c.index.ensures (omega (arith, c.if-len-eq0.true, c.len.ensures.value))

pub returns-then-len-eq0-clause-spare : goal.returns-then-len-eq0-clause-spare
returns-then-len-eq0-clause-spare c =
    let within : c.args.index < length c.args.lines.now.items = omega (arith, c.requires.within, c.args.lines.now.ok.0) in
    let one = same-at c.args.lines.now.items c.args.index c.remove-line.result c.index.result.now within c.remove-line.ensures.value c.index.ensures in
    let none : length c.remove-line.result.waiters ≡ 0 = omega (arith, c.if-len-eq0.true, c.len.ensures.value, ap (λ (l : Line). length l.waiters) one) in
    λ all. subst (λ (xs : List (List Arrived)). AreEmpty xs) (sym c.add.ensures)
    (empty-push c.args.spare.now c.remove-line.result.waiters all (no_length c.remove-line.result.waiters none))

some-from_test : (n m : ℕ) → n ≡ m → (n ≡ 0 → ⊥) → 1 ≤ m
some-from_test n m same not_none = omega (arith, same, not_none)

pub returns-else-len-eq0-clause-lines : goal.returns-else-len-eq0-clause-lines
returns-else-len-eq0-clause-lines c =
    let within : c.args.index < length c.args.lines.now.items = omega (arith, c.requires.within, c.args.lines.now.ok.0) in
    closed-else c.args.lines.now.items c.args.index c.index.result.now within c.index.ensures
    (some-from_test c.len.result (length c.index.result.now.waiters) c.len.ensures.value c.if-len-eq0.false)

use Rattle.std.proofs.Common.{◌≡◌, ◌+◌, ◌++◌, List, drop, ap, sym, ◌∙◌, arith}
use Rattle.pool_queue.specs.declared.lines.Arrived.{Arrived}
use Rattle.pool_queue.specs.Lines.{merge}
use Rattle.pool_queue.proofs.Merging.{step-first, step-second, end-first, end-second, rest-all}
use Rattle.pool_queue.proofs.sequence.merge.Goals.{then-loop-i-test+else-j-second, else-loop-i-test}
use Rattle.pool_queue.proofs.sequence.merge.Goals as goal

pub loop-i-preserved-then-below : goal.loop-i-preserved-then-below
loop-i-preserved-then-below c =
    let first = c.args.first.now in
    let second = c.args.second.now in
    let i = c.loop-i.i in
    let j = c.loop-i.j in
    record {
      first = omega (arith, c.loop-i-test.true);
      second = c.loop-i.invariant.second;
      items = ap (λ (l : List Arrived). l ++ merge (drop (i + 1) first) (drop j second)) c.in_ok-push.ensures.items
          ∙ step-first c.loop-i.both.items first second (merge first second) i j c.index-first-i.result c.index-second-j.result c.index-first-i-then-below.result
          c.loop-i-test.true c.if-j-second.true c.index-first-i.is c.index-second-j.is c.index-first-i-then-below.is c.requires.first c.requires.second
          (sym c.is_below-below.ensures ∙ c.if-below.true) c.loop-i.invariant.items;
    }

pub loop-i-preserved : goal.loop-i-preserved
loop-i-preserved c =
    let first = c.args.first.now in
    let second = c.args.second.now in
    let i = c.loop-i.i in
    let j = c.loop-i.j in
    record {
      first = c.loop-i.invariant.first;
      second = omega (arith, c.if-j-second.true);
      items = ap (λ (l : List Arrived). l ++ merge (drop i first) (drop (j + 1) second)) c.in_ok-push-2.ensures.items
          ∙ step-second c.loop-i.both.items first second (merge first second) i j c.index-first-i.result c.index-second-j.result c.index-second-j-else-below.result
          c.loop-i-test.true c.if-j-second.true c.index-first-i.is c.index-second-j.is c.index-second-j-else-below.is c.requires.first
          (sym c.is_below-below.ensures ∙ c.if-below.false) c.loop-i.invariant.items;
    }

pub returns : goal.returns
returns c =
    let first = c.args.first.now in
    let second = c.args.second.now in
    let i = c.loop-i.i in
    let j = c.loop-i.j in
    let both = c.loop-i.both.items in
    let all : c.extend_from_slice-2.new.self.items ≡ (both ++ drop i first) ++ drop j second =
    let front : c.extend_from_slice.new.self.items ≡ both ++ drop i first =
    c.in_ok-extend_from_slice.ensures.items ∙ ap (λ (l : List Arrived). both ++ l) (rest-all first i) in
    c.in_ok-extend_from_slice-2.ensures.items ∙ (λ k. front k ++ rest-all second j k) in
    all ∙ elim c.loop-i-test.branch [
      | then-loop-i-test+else-j-second t ↦ end-second both first second (merge first second) i j t.if-j-second.false c.requires.first c.loop-i.invariant.items
      | else-loop-i-test t ↦ end-first both first second (merge first second) i j t.loop-i-test.false c.loop-i.invariant.items
    ]

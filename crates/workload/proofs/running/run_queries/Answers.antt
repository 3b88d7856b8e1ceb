use Rattle.std.proofs.Common.{◌≡◌, ℕ, ◌+◌, ◌*◌, ◌^◌, ◌≤◌, ◌<◌, Bool, true, false, not, Option, Some, None, refl, sym, ap, ◌∙◌, arith}
use Rattle.std.specs.List.{find, range_with_len}
use Rattle.workload.specs.Summary.{Tallied, ending_at, grant_at, spills, tallied}
use Rattle.workload.specs.Tallying.{ended, granted}
use Rattle.workload.proofs.RunLemmas.{ended-grants}
use Rattle.workload.proofs.TallyLemmas.{few_completed, found_at, found_none, tallied_more}
use Rattle.workload.proofs.running.run_queries.Goals as goal

-- a run that fits does not spill, and one that does not fit does
fits-not : (spilled : Bool) → not spilled ≡ true → spilled ≡ false
fits-not false is = refl
fits-not true is = absurd (cc)

not-fits : (spilled : Bool) → not spilled ≡ false → spilled ≡ true
not-fits true is = refl
not-fits false is = absurd (cc)

pub run_query-requires-clause-completed : goal.run_query-requires-clause-completed
run_query-requires-clause-completed g c =
    omega (arith, few_completed c.args.options.now c.loop-query.query, ap {B = ℕ} (λ (t : Tallied). t.queries) c.loop-query.invariant.tally)

pub loop-query-preserved : goal.loop-query-preserved
loop-query-preserved g c =
    let o = c.args.options.now in
    let i = c.loop-query.query in
    let told = c.in_ok-run_query.ensures in
    let before = c.loop-query.invariant in
    let fits = fits-not (spills (ending_at o i)) (sym told.fits ∙ c.if-not-branch.false) in
    let grants : c.run_query.new.tally.granted ≡ c.loop-query.tally.granted + grant_at o i =
    ap (λ (t : Tallied). t.granted) told.tally ∙ ended-grants (granted c.loop-query.tally (grant_at o i)) (ending_at o i) in
    record {
      tally = told.tally ∙ ap (λ (t : Tallied). ended (granted t (grant_at o i)) (ending_at o i)) before.tally ∙ sym (tallied_more o i);
      none_failed = found_none (λ j. spills (ending_at o j)) i before.none_failed fits;
      defined = told.defined ∙ before.defined;
      rested = told.rested;
      begun = told.begun;
      granted = omega (arith, grants, told.small, before.granted);
      same = told.defined ∙ before.same;
      spool = told.spool ∙ before.spool;
    }

pub returns-then-not-branch-clause-failed : goal.returns-then-not-branch-clause-failed
returns-then-not-branch-clause-failed g c =
    let o = c.args.options.now in
    let i = c.loop-query.query in
    let spilled = not-fits (spills (ending_at o i)) (sym c.in_ok-run_query.ensures.fits ∙ c.if-not-branch.true) in
    sym (found_at (λ j. spills (ending_at o j)) i o.count c.loop-query.invariant.none_failed (omega (arith, c.loop-query-test.true)) spilled)

pub returns-clause-failed : goal.returns-clause-failed
returns-clause-failed g c =
    let o = c.args.options.now in
    let all : c.loop-query.query ≡ o.count = omega (arith, c.loop-query-test.false, c.loop-query.auto.query-end) in
    sym (sym (ap (λ n. find (λ j. spills (ending_at o j)) (range_with_len 0 n)) all) ∙ c.loop-query.invariant.none_failed)

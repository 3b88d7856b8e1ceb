use Rattle.std.proofs.Common.{◌≡◌, ℕ, ◌-◌, Option, None, Some, sym, ap, ◌∙◌}
use Rattle.std.proofs.lemmas.Result.{IfOk-weaker}
use Rattle.rm_base.specs.declared.definitions.Definitions.{Definitions}
use Rattle.rm_rules.specs.Definitions.{total, reserved}
use Rattle.workload.specs.Pools.{workload_definitions}
use Rattle.workload.specs.Summary.{Tallied, first_failed, free_at_rest, summary_lines, tallied, text_with}
use Rattle.workload.proofs.running.run_work.Goals as goal

pub returns-clause-text : goal.returns-clause-text
returns-clause-text g c =
    let o = c.args.options.now in
    let failed : None ≡ first_failed o = sym c.in-None.is ∙ c.in_ok-query.ensures.failed in
    let tally : c.run_queries.new.tally ≡ tallied o o.count = c.in_ok-query.ensures.tally c.in-None.is in
    let defined : c.run_queries.new.lone.definitions ≡ workload_definitions o.memory o.cores = c.in_ok-query.ensures.defined ∙ c.in_ok-lone.ensures.definitions in
    let free : c.in_ok-free-in-None.field-0 ≡ free_at_rest o = c.in_ok-free-in-None.ensures.unreserved ∙ ap {B = ℕ} (λ (d : Definitions). total d - reserved d) defined in
    let lines = ap (λ (t : Tallied). summary_lines t c.in_ok-free-in-None.field-0) tally ∙ ap (summary_lines (tallied o o.count)) free ∙ ap (text_with o) failed in
    IfOk-weaker c.summary_lines.result _ _ (λ text is. is ∙ lines) c.summary_lines.ensures

pub returns-in-Some-clause-text : goal.returns-in-Some-clause-text
returns-in-Some-clause-text g c =
    let failed : Some c.in-Some.query ≡ first_failed c.args.options.now = sym c.in-Some.is ∙ c.in_ok-query.ensures.failed in
    IfOk-weaker c.failed_line.result _ _ (λ text is. is ∙ ap (text_with c.args.options.now) failed) c.failed_line.ensures

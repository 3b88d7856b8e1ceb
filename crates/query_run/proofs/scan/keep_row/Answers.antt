use Rattle.std.proofs.Common.{List, ◌≡◌, ◌+◌, ◌<◌, ◌⊎◌, inr, ◌∷◌, ◌++◌, [], subst, rules}
use Rattle.rm_base.specs.declared.value.Value.{Value}
use Rattle.rm_base.specs.Values.{rows_measure}
use Rattle.spill_files.specs.declared.error.RunError.TheVariants.{NeedsSpill}
use Rattle.query_run.specs.Gathering.{Gathers, gathered_charge}
use Rattle.query_run.proofs.scan.keep_row.Goals as goal

pub returns-in_err-add-clause-spills : goal.returns-in_err-add-clause-spills
returns-in_err-add-clause-spills c = λ rows given.
    let beyond : c.in_err-add.field-0.0 ≡ NeedsSpill
    → ((c.args.room < c.args.charge + rows_measure (c.args.row.now ∷ [])) ⊎ (c.args.room < gathered_charge c.args.select.now.items c.args.select.now.groups (rows ++ c.args.row.now ∷ []))) =
    λ e. inr (subst (λ (row : List Value). c.args.room < gathered_charge c.args.select.now.items c.args.select.now.groups (rows ++ row ∷ [])) c.one-2.ensures.values (c.in_err-add.ensures.spills c.args.room rows given e)) in
    search rules

pub returns-clause-ok : goal.returns-clause-ok
returns-clause-ok c = λ rows few given.
    subst (λ (row : List Value). Gathers c.args.select.now c.args.room (rows ++ row ∷ []) c.add.new.self) c.one-2.ensures.values (c.in_ok-add.ensures.ok c.args.room rows few given)

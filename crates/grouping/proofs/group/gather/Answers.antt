use Rattle.std.proofs.Common.{rules, arith, ap, sym, ◌∙◌, ◌≡◌, false, List, map, take}
use Rattle.rm_base.specs.declared.value.Value.{Value}
use Rattle.rm_rules.specs.AllFits.{groups_charge}
use Rattle.spill_files.specs.RunRow.{run_row}
use Rattle.spill_files.specs.declared.error.RunError.TheVariants.{NeedsSpill}
use Rattle.tuples.specs.Tuple.{tuple_values}
use Rattle.grouping.specs.Ending.{groups_fit}
use Rattle.grouping.specs.Gathering.{Gathered, gathered}
use Rattle.grouping.proofs.ErrorLemmas.{handed_on}
use Rattle.grouping.proofs.RunLemmas.{few_taken, first_beyond, taken_beyond, taken_more}
use Rattle.grouping.proofs.group.gather.Goals as goal

pub returns-in_err-groups-clause-spills : goal.returns-in_err-groups-clause-spills
returns-in_err-groups-clause-spills g c =
    handed_on c.from_residual.result _ (λ e. e ≡ NeedsSpill → groups_fit c.args.room c.args.spec.now (map run_row c.args.rows.now) ≡ false)
    c.from_residual.ensures.1
    (λ e is n. first_beyond c.args.room c.args.spec.now (map run_row c.args.rows.now) (c.in_err-groups.ensures.spills (sym is ∙ n)))

pub returns-in_err-add-clause-spills : goal.returns-in_err-add-clause-spills
returns-in_err-add-clause-spills g c =
    let spec = c.args.spec.now in
    let taken : List (List Value) = map run_row (take c.loop-row.row-index c.args.rows.now) in
    let room : c.loop-row.groups.room ≡ c.args.room = ap (λ (s : Gathered). s.room) c.loop-row.invariant.groups in
    let own : c.loop-row.groups ≡ gathered spec c.loop-row.groups.room taken = c.loop-row.invariant.groups ∙ ap (λ r. gathered spec r taken) (sym room) in
    handed_on c.from_residual-in_err-add.result _ (λ e. e ≡ NeedsSpill → groups_fit c.args.room spec (map run_row c.args.rows.now) ≡ false)
    c.from_residual-in_err-add.ensures.1
    (λ e is n. taken_beyond c.args.room spec c.args.rows.now c.loop-row.row-index c.row-item.result (tuple_values c.tuple.result) (search rules) c.row-item.is c.tuple.ensures
    (omega (arith, c.in_err-add.ensures.spills spec taken own (sym is ∙ n), room)))

pub loop-row-preserved : goal.loop-row-preserved
loop-row-preserved g c =
    let spec = c.args.spec.now in
    let taken : List (List Value) = map run_row (take c.loop-row.row-index c.args.rows.now) in
    let room : c.loop-row.groups.room ≡ c.args.room = ap (λ (s : Gathered). s.room) c.loop-row.invariant.groups in
    let own : c.loop-row.groups ≡ gathered spec c.loop-row.groups.room taken = c.loop-row.invariant.groups ∙ ap (λ r. gathered spec r taken) (sym room) in
    let more = taken_more c.args.rows.now c.loop-row.row-index c.row-item.result (tuple_values c.tuple.result) (search rules) c.row-item.is c.tuple.ensures in
    record {
      groups = c.in_ok-add.ensures.ok spec taken (few_taken c.args.rows.now c.loop-row.row-index c.requires.few) own ∙ (λ i. gathered spec (room i) (sym more i));
      fits = omega (arith, c.in_ok-add.ensures.fits spec taken own, room, ap (groups_charge spec) more);
      going = search rules;
      handed = omega (arith, c.step.ensures.handed, c.loop-row.invariant.handed);
    }

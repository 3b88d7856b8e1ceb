use Rattle.std.proofs.Common.{◌≡◌, ℕ, suc, ◌+◌, ◌/◌, ◌%◌, ◌^◌, ◌≤◌, [], ◌∷◌, List, refl, sym, ap, ◌∙◌, arith}
use Rattle.rm_base.specs.declared.value.Value.{Value}
use Rattle.rm_base.specs.Values.{row_measure}
use Rattle.rm_base.specs.TableSeen.{TableSeen}
use Rattle.workload.specs.declared.generator.TheConstants.{KEYS, SHIFT}
use Rattle.workload.specs.Generator.{draw, drawn, int_column, name_k, name_v, number_row, row_of_a}
use Rattle.workload.proofs.TableLemmas.{room_left, table_more}
use Rattle.workload.proofs.tables.table_a.Goals as goal

pub put-requires-clause-few : goal.put-requires-clause-few
put-requires-clause-few c =
    (room_left (row_of_a c.args.seed) (λ i. refl) c.loop-i.table.rows c.loop-i.i c.args.rows (ap (λ (t : TableSeen). t.rows) c.loop-i.invariant.table) (omega (arith, c.loop-i-test.true)) (omega (arith, c.requires))).0

pub put-requires-clause-small : goal.put-requires-clause-small
put-requires-clause-small c =
    let room = (room_left (row_of_a c.args.seed) (λ i. refl) c.loop-i.table.rows c.loop-i.i c.args.rows (ap (λ (t : TableSeen). t.rows) c.loop-i.invariant.table) (omega (arith, c.loop-i-test.true)) (omega (arith, c.requires))).1 in
    let row : row_measure c.in_ok-row.row ≡ 32 = ap row_measure c.in_ok-row.ensures in
    omega (arith, room, row)

pub loop-i-preserved : goal.loop-i-preserved
loop-i-preserved c =
    let next : c.drawn-x.result ≡ draw c.args.seed (suc c.loop-i.i) = c.drawn-x.ensures ∙ ap drawn c.loop-i.invariant.drawn in
    let row : c.in_ok-row.row ≡ row_of_a c.args.seed c.loop-i.i = c.in_ok-row.ensures ∙ ap (λ (x : ℕ). number_row (c.loop-i.i % KEYS) (x / 2 ^ SHIFT)) next in
    let more : suc c.loop-i.i ≡ c.loop-i.i + 1 = omega arith in
    record {
      table = table_more (row_of_a c.args.seed) (int_column name_k ∷ int_column name_v ∷ []) c.loop-i.i c.loop-i.table c.put.new.table c.in_ok-row.row c.loop-i.invariant.table row c.in_ok-put.ensures;
      drawn = next ∙ ap (draw c.args.seed) more;
    }

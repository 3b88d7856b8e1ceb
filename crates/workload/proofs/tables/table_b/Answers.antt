use Rattle.std.proofs.Common.{◌≡◌, ℕ, ◌+◌, ◌≤◌, [], ◌∷◌, List, refl, ap, arith}
use Rattle.rm_base.specs.declared.value.Value.{Value}
use Rattle.rm_base.specs.Values.{row_measure}
use Rattle.rm_base.specs.TableSeen.{TableSeen}
use Rattle.workload.specs.Generator.{int_column, name_k, name_w, row_of_b}
use Rattle.workload.proofs.TableLemmas.{room_left, table_more}
use Rattle.workload.proofs.tables.table_b.Goals as goal

pub put-requires-clause-few : goal.put-requires-clause-few
put-requires-clause-few c =
    (room_left row_of_b (λ i. refl) c.loop-i.table.rows c.loop-i.i 10000 (ap (λ (t : TableSeen). t.rows) c.loop-i.invariant) (omega (arith, c.requires, c.loop-i-test.true)) (omega arith)).0

pub put-requires-clause-small : goal.put-requires-clause-small
put-requires-clause-small c =
    let room = (room_left row_of_b (λ i. refl) c.loop-i.table.rows c.loop-i.i 10000 (ap (λ (t : TableSeen). t.rows) c.loop-i.invariant) (omega (arith, c.requires, c.loop-i-test.true)) (omega arith)).1 in
    let row : row_measure c.in_ok-row.row ≡ 32 = ap row_measure c.in_ok-row.ensures in
    omega (arith, room, row)

pub loop-i-preserved : goal.loop-i-preserved
loop-i-preserved c =
    table_more row_of_b (int_column name_k ∷ int_column name_w ∷ []) c.loop-i.i c.loop-i.table c.put.new.table c.in_ok-row.row c.loop-i.invariant c.in_ok-row.ensures c.in_ok-put.ensures

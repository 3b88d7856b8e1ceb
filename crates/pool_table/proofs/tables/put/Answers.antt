use Rattle.std.proofs.Common.{arith, sym, ◌∙◌}
use Rattle.pool_table.proofs.Places.{place-read, put-found, put-missing, room-for_more}
use Rattle.pool_table.proofs.tables.put.Goals as goal

pub add-requires : goal.add-requires
add-requires g c =
    let row = c.args.row in
    let rows = c.args.rows.now in
    let at = place-read g.T.NamedRow.name_of row rows c.rows.result.now c.name.result c.place_of.result c.place_of.ensures c.name.ensures c.rows.ensures.rows in
    (omega arith, room-for_more g.T.NamedRow.name_of row rows _ (sym at ∙ c.in-None.is) c.requires)

pub returns-in-Some : goal.returns-in-Some
returns-in-Some g c =
    let row = c.args.row in
    let rows = c.args.rows.now in
    let at = place-read g.T.NamedRow.name_of row rows c.rows.result.now c.name.result c.place_of.result c.place_of.ensures c.name.ensures c.rows.ensures.rows in
    put-found g.T.NamedRow.name_of row rows c.set.new.self c.in-Some.place (sym at ∙ c.in-Some.is) c.set.ensures

pub returns-in-None : goal.returns-in-None
returns-in-None g c =
    let row = c.args.row in
    let rows = c.args.rows.now in
    let at = place-read g.T.NamedRow.name_of row rows c.rows.result.now c.name.result c.place_of.result c.place_of.ensures c.name.ensures c.rows.ensures.rows in
    put-missing g.T.NamedRow.name_of row rows c.add.new.self (sym at ∙ c.in-None.is) c.add.ensures

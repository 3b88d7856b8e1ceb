use Rattle.std.proofs.Common.{◌∙◌, ◌-◌, length, take, drop, sym, ap, arith}
use Rattle.rm_rules.specs.Definitions.{user_pools}
use Rattle.system_tables.specs.TableRows.{status_shown}
use Rattle.system_tables.proofs.Sizes.{named-at, first-and-others, status-whole}
use Rattle.system_tables.proofs.status.status_rows.Goals as goal

pub status_cells-cells-requires-clause-named : goal.status_cells-cells-requires-clause-named
status_cells-cells-requires-clause-named c =
    named-at c.args.snapshot.now c.rows.result.now 0 c.general-item.result c.requires c.rows.ensures.rows (omega (arith, c.in-len1-up.len_at_least)) c.general-item.is

pub add_others-requires-clause-behind : goal.add_others-requires-clause-behind
add_others-requires-clause-behind c =
    ap user_pools (sym c.rows.ensures.rows ∙ first-and-others c.rows.result.now c.general-item.result (omega (arith, c.in-len1-up.len_at_least)) c.general-item.is)

pub returns : goal.returns
returns c =
    let s = c.args.snapshot.now in
    let rows = c.rows.result.now in
    let r = c.general-item.result in
    status-whole s s.definitions.pools (take (length rows - 1) (drop 1 rows)) r _ _ c.add_others.new.rows.items _
    (sym c.rows.ensures.rows ∙ first-and-others rows r (omega (arith, c.in-len1-up.len_at_least)) c.general-item.is)
    c.new-rows.ensures.items c.in_ok-push.ensures.items
    (c.in_ok-row_of.ensures ∙ c.status_cells-cells.ensures ∙ ap (status_shown s r) c.general_bytes-bytes.ensures) c.in_ok-add_others.ensures

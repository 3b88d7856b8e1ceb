use Rattle.std.proofs.Common.{arith, ap, sym, ◌∙◌, ◌-◌, Option}
use Rattle.std.specs.List.{list_any}
use Rattle.rm_base.specs.declared.name.Name.{Name}
use Rattle.rm_base.specs.Name.{same_name}
use Rattle.rm_rules.specs.PoolStatements.{pools_with, chain}
use Rattle.pool_table.proofs.ChainsAfter.{on-zero, on-none, on-here, on-behind}
use Rattle.pool_table.proofs.chains.+is_on_chain.Goals as goal

pub returns-then-most-eq0 : goal.returns-then-most-eq0
returns-then-most-eq0 t c = on-zero (pools_with c.args.row.now c.args.rows.now) c.args.row.now.name c.args.most c.args.next (omega arith)

pub returns-in-None : goal.returns-in-None
returns-in-None t c = on-none (pools_with c.args.row.now c.args.rows.now) c.args.row.now.name c.args.most c.args.next c.in-None.is

pub returns-then-same : goal.returns-then-same
returns-then-same t c =
    c.if-same.true
    ∙ on-here (pools_with c.args.row.now c.args.rows.now) c.args.row.now.name c.args.most c.args.next c.in-Some.name c.in-Some.is (omega arith) (sym c.same.ensures ∙ c.if-same.true)

pub returns-else-same : goal.returns-else-same
returns-else-same t c =
    c.is_on_chain.ensures
    ∙ ap (λ (o : Option Name). list_any (same_name c.args.row.now.name) (chain (pools_with c.args.row.now c.args.rows.now) (c.args.most - 1) o)) c.cascade_of.ensures
    ∙ on-behind (pools_with c.args.row.now c.args.rows.now) c.args.row.now.name c.args.most c.args.next c.in-Some.name c.in-Some.is (omega arith) (sym c.same.ensures ∙ c.if-same.false)

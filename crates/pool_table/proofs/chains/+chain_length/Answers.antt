use Rattle.std.proofs.Common.{arith, ap, ◌∙◌, ◌+◌, ◌-◌, ℕ, length, Option}
use Rattle.rm_base.specs.declared.name.Name.{Name}
use Rattle.rm_rules.specs.PoolStatements.{pools_with, chain}
use Rattle.pool_table.proofs.ChainsAfter.{length-zero, length-none, length-more}
use Rattle.pool_table.proofs.chains.+chain_length.Goals as goal

pub returns-then-most-eq0-clause-value : goal.returns-then-most-eq0-clause-value
returns-then-most-eq0-clause-value t c = length-zero (pools_with c.args.row.now c.args.rows.now) c.args.most c.args.next (omega arith)

pub returns-in-None-clause-value : goal.returns-in-None-clause-value
returns-in-None-clause-value t c = length-none (pools_with c.args.row.now c.args.rows.now) c.args.most c.args.next c.in-None.is

pub returns-in-Some-clause-value : goal.returns-in-Some-clause-value
returns-in-Some-clause-value t c =
    ap (λ (n : ℕ). 1 + n) (c.chain_length.ensures.value ∙ ap (λ (o : Option Name). length (chain (pools_with c.args.row.now c.args.rows.now) (c.args.most - 1) o)) c.cascade_of.ensures)
    ∙ length-more (pools_with c.args.row.now c.args.rows.now) c.args.most c.args.next c.in-Some.name c.in-Some.is (omega arith)

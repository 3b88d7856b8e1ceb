use Rattle.std.proofs.Common.{sym, ◌∙◌}
use Rattle.rm_rules.specs.Target.{pool_runtime_cap, target}
use Rattle.rm_rules.proofs.Chains.{target-there}
use Rattle.cascade.proofs.Moves.{target-moves}
use Rattle.cascade.proofs.PoolCaps.{next-named}
use Rattle.cascade.proofs.verdict.Goals as goal

pub returns-clause-there : goal.returns-clause-there
returns-clause-there c = λ to e.
    let d = c.args.definitions.now in
    let q = c.args.query.now in
    target-there d q.pool c.args.running q.moves to c.requires
    (next-named (pool_runtime_cap d q.pool) c.args.running (target d q.pool c.args.running q.moves) to (sym c.pool_verdict.ensures ∙ e))

pub returns-clause-moves : goal.returns-clause-moves
returns-clause-moves c = λ to e.
    let d = c.args.definitions.now in
    let q = c.args.query.now in
    target-moves d q.pool c.args.running q.moves to
    (next-named (pool_runtime_cap d q.pool) c.args.running (target d q.pool c.args.running q.moves) to (sym c.pool_verdict.ensures ∙ e))

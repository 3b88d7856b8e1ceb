use Rattle.std.proofs.Common.{ap, sym, ◌∙◌}
use Rattle.rm_base.specs.declared.reply.CapOwner.TheVariants.{Pool}
use Rattle.rm_rules.specs.Target.{pool_runtime_cap, target, ended_by}
use Rattle.cascade.proofs.PoolCaps.{goes-on, at-end}
use Rattle.cascade.proofs.caps.pool_verdict.Goals as goal

pub returns-in-Some-target : goal.returns-in-Some-target
returns-in-Some-target c =
    let d = c.args.definitions.now in
    let q = c.args.query.now in
    goes-on (pool_runtime_cap d q.pool) c.args.running c.in-Some.ended (target d q.pool c.args.running q.moves) c.in-Some-target.to
    (sym (c.ended_by.ensures ∙ ap (λ r. ended_by Pool r.cap_ms c.args.running) c.pool_row-cap.ensures.value) ∙ c.in-Some.is)
    (sym c.target.ensures.value ∙ c.in-Some-target.is)

pub returns-in-None-target : goal.returns-in-None-target
returns-in-None-target c =
    let d = c.args.definitions.now in
    let q = c.args.query.now in
    at-end (pool_runtime_cap d q.pool) c.args.running c.in-Some.ended (target d q.pool c.args.running q.moves)
    (sym (c.ended_by.ensures ∙ ap (λ r. ended_by Pool r.cap_ms c.args.running) c.pool_row-cap.ensures.value) ∙ c.in-Some.is)
    (sym c.target.ensures.value ∙ c.in-None-target.is)

use Rattle.std.proofs.Common.{◌≡◌, drop}
use Rattle.rm_rules.specs.Definitions.{role_pool}
use Rattle.pool_table.proofs.rights.role_pool.Given as goal

abbrev pub invariant-loop-grant : goal.invariant-loop-grant
invariant-loop-grant l = role_pool l.roles l.user (drop l.grant-index l.grants) ≡ role_pool l.roles l.user l.grants

use Rattle.std.proofs.Common.{ap, ◌∙◌}
use Rattle.rm_base.specs.declared.rows.PoolRow.{PoolRow}
use Rattle.rm_rules.specs.State.{State}
use Rattle.rm_rules.specs.Definitions.{pool_row}
use Rattle.rm_rules.specs.Ask.{least_cap}
use Rattle.machine.proofs.Inside.{sound_inside}
use Rattle.machine.proofs.machine.Machine.least_cap.Goals as goal

pub row_least_cap-requires-clause-sound : goal.row_least_cap-requires-clause-sound
row_least_cap-requires-clause-sound c = sound_inside c.self.inside c.args.self.now c.self.view_is c.requires

pub returns : goal.returns
returns c =
    c.row_least_cap.ensures.value
    ∙ ap (λ (r : PoolRow). least_cap c.self.inside.definitions r c.args.user) c.row.ensures.value
    ∙ ap (λ (s : State). least_cap s.definitions (pool_row c.args.self.now.definitions c.args.pool) c.args.user) c.self.view_is

use Rattle.std.proofs.Common.{sym, ap, ◌∙◌}
use Rattle.rm_base.specs.declared.rows.PoolRow.{PoolRow}
use Rattle.rm_rules.specs.State.{State}
use Rattle.rm_rules.specs.Holdings.{Holdings}
use Rattle.rm_rules.specs.Definitions.{pool_row}
use Rattle.rm_rules.specs.Ask.{ask}
use Rattle.rm_rules.specs.Fit.{judged}
use Rattle.machine.proofs.Inside.{sound_inside, judged_inside}
use Rattle.machine.proofs.machine.fit.MachineRoom.judge.Goals as goal

pub row_asked-bytes-requires-clause-sound : goal.row_asked-bytes-requires-clause-sound
row_asked-bytes-requires-clause-sound c = sound_inside c.self.inside c.args.self.now c.self.view_is c.requires.sound

pub judged-requires-clause-sound : goal.judged-requires-clause-sound
judged-requires-clause-sound c = sound_inside c.self.inside c.args.self.now c.self.view_is c.requires.sound

pub judged-requires-clause-row : goal.judged-requires-clause-row
judged-requires-clause-row c = c.row-row.ensures.value ∙ ap (λ (s : State). pool_row s.definitions c.args.pool) (sym c.self.view_is)

pub returns : goal.returns
returns c =
    let m = c.self.inside in
    let row = c.row-row.ensures.value ∙ ap (λ (s : State). pool_row s.definitions c.args.pool) (sym c.self.view_is) in
    judged_inside m c.args.self.now c.args.pool c.args.user c.args.floor c.row_asked-bytes.result c.judged.result c.self.view_is c.self.invariant
    (c.row_asked-bytes.ensures.value ∙ ap (λ (r : PoolRow). ask m.definitions r c.args.user c.args.floor) row)
    (c.judged.ensures ∙ ap (λ (h : Holdings). judged m.definitions h c.args.pool c.row_asked-bytes.result) c.accounts.ensures)

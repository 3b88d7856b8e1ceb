use Rattle.std.proofs.Common.{sym, ap, ◌∙◌}
use Rattle.rm_base.specs.declared.rows.PoolRow.{PoolRow}
use Rattle.rm_rules.specs.State.{State}
use Rattle.rm_rules.specs.Definitions.{pool_row}
use Rattle.rm_rules.specs.Ask.{ask}
use Rattle.machine.proofs.Inside.{sound_inside, name_inside, absent_inside, fits_inside, bytes-taken}
use Rattle.machine.proofs.machine.Machine.admit.Goals as goal

pub row_asked-grant-requires-clause-sound : goal.row_asked-grant-requires-clause-sound
row_asked-grant-requires-clause-sound c = sound_inside c.self.inside c.args.self.now c.self.view_is c.requires.sound

pub begin-requires-clause-absent : goal.begin-requires-clause-absent
begin-requires-clause-absent c = absent_inside c.self.inside c.args.self.now c.args.w.query c.self.view_is c.self.invariant c.requires.absent

pub begin-requires-clause-known : goal.begin-requires-clause-known
begin-requires-clause-known c =
    name_inside c.self.inside c.args.self.now c.args.w.pool c.self.view_is c.self.invariant c.requires.sound c.requires.sized ∙ c.requires.known

pub begin-requires-clause-fits : goal.begin-requires-clause-fits
begin-requires-clause-fits c =
    fits_inside c.self.inside c.args.self.now c.args.w c.row_asked-grant.result c.self.view_is c.self.invariant
    (c.row_asked-grant.ensures.value ∙ ap (λ (r : PoolRow). ask c.self.inside.definitions r c.args.w.user c.args.w.floor) (c.row.ensures.value ∙ ap (λ (s : State). pool_row s.definitions c.args.w.pool) (sym c.self.view_is)))
    c.requires.fits

pub invariant_of-self : goal.invariant_of-self
invariant_of-self c = record {
  bytes = bytes-taken c.self.inside _ c.begin.new.self.accounts c.begin.new.self.running c.self.invariant c.begin.ensures.accounts c.begin.ensures.running;
  journal = c.self.invariant.journal;
  counted = c.self.invariant.counted;
}

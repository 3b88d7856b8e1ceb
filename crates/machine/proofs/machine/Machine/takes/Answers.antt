use Rattle.std.proofs.Common.{ap, ◌∙◌, arith}
use Rattle.rm_rules.specs.Holdings.{Holdings}
use Rattle.accounts.specs.Accounts.{has_query}
use Rattle.accounts.specs.Moves.{if_moved}
use Rattle.machine.proofs.Inside.{sound_inside}
use Rattle.machine.proofs.Moving.{known-inside, grant-fits, takes-inside}
use Rattle.machine.proofs.machine.Machine.takes.Goals as goal

pub if_moved-seen-requires : goal.if_moved-seen-requires
if_moved-seen-requires c = record {
  runs =
      ap (λ (h : Holdings). has_query h.grants c.args.r.now.query) c.accounts.ensures
      ∙ known-inside c.self.inside c.args.self.now c.args.r.now.session c.args.r.now c.self.view_is c.self.invariant c.requires.runs;
}

pub takes_grant-requires-clause-sound : goal.takes_grant-requires-clause-sound
takes_grant-requires-clause-sound c = sound_inside c.self.inside c.args.self.now c.self.view_is c.requires.healthy.sound

pub takes_grant-requires-clause-grant : goal.takes_grant-requires-clause-grant
takes_grant-requires-clause-grant c = omega (arith, grant-fits c.args.self.now c.args.r.now.session c.args.r.now c.requires.healthy c.requires.runs)

pub returns : goal.returns
returns c =
    c.takes_grant.ensures
    ∙ takes-inside c.self.inside c.args.self.now c.args.r.now c.args.pool c.if_moved-seen.result c.self.view_is c.self.invariant c.requires.healthy.numbered c.requires.runs
    (c.if_moved-seen.ensures.value ∙ ap (λ (h : Holdings). if_moved h c.args.r.now.query c.args.pool) c.accounts.ensures)

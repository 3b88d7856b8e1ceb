use Rattle.std.proofs.Common.{◌≤◌, ◌∙◌, ap, sym, subst, refl}
use Rattle.rm_rules.specs.declared.state.Runner.{Runner}
use Rattle.rm_rules.specs.State.{without_runner}
use Rattle.rm_rules.specs.Holdings.{holding}
use Rattle.accounts.specs.Accounts.{has_name}
use Rattle.accounts.specs.Moves.{if_moved, moved_to}
use Rattle.machine.proofs.Inside.{name_inside}
use Rattle.machine.proofs.Moving.{taken-fits, run-inside, bytes-moved}
use Rattle.machine.proofs.Running.{once-inside}
use Rattle.machine.proofs.machine.Machine.move_on.Goals as goal

pub moved-requires-clause-ran : goal.moved-requires-clause-ran
moved-requires-clause-ran c = (run-inside c.self.inside c.args.self.now c.args.r.now.session c.args.r.now c.self.view_is c.requires.healthy.timed c.requires.runs).ran

pub moved-requires-clause-started : goal.moved-requires-clause-started
moved-requires-clause-started c = (run-inside c.self.inside c.args.self.now c.args.r.now.session c.args.r.now c.self.view_is c.requires.healthy.timed c.requires.runs).started

pub go_on-requires-clause-once : goal.go_on-requires-clause-once
go_on-requires-clause-once c = once-inside c.self.inside c.args.self.now c.self.view_is c.requires.healthy.numbered

pub go_on-requires-clause-known : goal.go_on-requires-clause-known
go_on-requires-clause-known c =
    ap (λ (r : Runner). has_name c.self.inside.runs.accounts.reserves r.pool) c.moved.ensures
    ∙ name_inside c.self.inside c.args.self.now c.args.pool c.self.view_is c.self.invariant c.requires.healthy.sound c.requires.healthy.sized ∙ c.requires.known

pub go_on-requires-clause-fits : goal.go_on-requires-clause-fits
go_on-requires-clause-fits c =
    subst (λ (r : Runner). (if_moved c.self.inside.runs.accounts c.args.r.now.query r.pool).need ≤ (if_moved c.self.inside.runs.accounts c.args.r.now.query r.pool).free) (sym c.moved.ensures)
    (taken-fits c.self.inside c.args.self.now c.args.r.now c.args.pool c.self.view_is c.self.invariant c.requires.healthy.numbered c.requires.runs c.requires.takes)

pub move_of-requires-clause-ran : goal.move_of-requires-clause-ran
move_of-requires-clause-ran c = (run-inside c.self.inside c.args.self.now c.args.r.now.session c.args.r.now c.self.view_is c.requires.healthy.timed c.requires.runs).ran

pub move_of-requires-clause-started : goal.move_of-requires-clause-started
move_of-requires-clause-started c = (run-inside c.self.inside c.args.self.now c.args.r.now.session c.args.r.now c.self.view_is c.requires.healthy.timed c.requires.runs).started

pub invariant_of-self : goal.invariant_of-self
invariant_of-self c = record {
  bytes = bytes-moved c.self.inside c.args.self.now c.args.r.now c.moved.result c.args.pool c.go_on.new.self.accounts (without_runner c.args.r.now.session c.self.inside.runs.running) c.go_on.new.self.running
      c.self.view_is c.self.invariant c.requires.healthy.numbered c.requires.runs (ap holding c.moved.ensures)
      (c.go_on.ensures.accounts ∙ ap (λ (r : Runner). moved_to c.self.inside.runs.accounts c.args.r.now.query r.pool) c.moved.ensures) refl c.go_on.ensures.running;
  journal = c.self.invariant.journal;
  counted = c.self.invariant.counted;
}

use Rattle.std.proofs.Common.{ap, ◌∙◌}
use Rattle.std.specs.List.{find}
use Rattle.rm_rules.specs.State.{State}
use Rattle.pool_queue.specs.Queue.{is_large}
use Rattle.machine.proofs.machine.Machine.first_too_large.Goals as goal

pub first_that-requires : goal.first_that-requires
first_that-requires c = c.requires

pub returns : goal.returns
returns c = c.first_that.ensures ∙ ap (λ (s : State). find (is_large c.args.self.now.definitions) s.waiting) c.self.view_is

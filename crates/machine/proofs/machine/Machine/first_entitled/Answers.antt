use Rattle.std.proofs.Common.{◌≡◌, true, sym, subst, ◌∙◌}
use Rattle.pool_queue.specs.Queue.{are_pools_known}
use Rattle.rm_rules.specs.State.{State}
use Rattle.rm_rules.specs.Admission.{first_entitled}
use Rattle.machine.proofs.Inside.{sound_inside, small_inside, entitled_inside}
use Rattle.machine.proofs.Settling.{number-entitled, none_picked}
use Rattle.machine.proofs.machine.Machine.first_entitled.Goals as goal

pub first_entitled-requires-clause-sound : goal.first_entitled-requires-clause-sound
first_entitled-requires-clause-sound c = sound_inside c.self.inside c.args.self.now c.self.view_is c.requires.kept.sound

pub first_entitled-requires-clause-known : goal.first_entitled-requires-clause-known
first_entitled-requires-clause-known c =
    subst (λ (s : State). are_pools_known s.definitions s.waiting ≡ true) (sym c.self.view_is) c.requires.kept.there.waits

pub first_entitled-requires-clause-small : goal.first_entitled-requires-clause-small
first_entitled-requires-clause-small c = small_inside c.self.inside c.args.self.now c.self.view_is c.requires.small

pub returns-in_err-query : goal.returns-in_err-query
returns-in_err-query c =
    let s = c.args.self.now in
    c.from_residual.ensures
    ∙ sym (none_picked (first_entitled s) (entitled_inside c.self.inside s c.first_entitled.result c.self.view_is c.first_entitled.ensures.value ∙ c.in_err-query.was))

pub returns : goal.returns
returns c =
    let s = c.args.self.now in
    let picked = entitled_inside c.self.inside s c.first_entitled.result c.self.view_is c.first_entitled.ensures.value ∙ c.in_ok-query.was in
    c.waiter_called.ensures ∙ number-entitled s c.in_ok-query.query c.requires.kept.numbered picked

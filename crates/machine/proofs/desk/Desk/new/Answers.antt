use Rattle.std.proofs.Common.{sym, subst}
use Rattle.rm_base.specs.declared.definitions.Definitions.{Definitions}
use Rattle.rm_rules.specs.State.{State}
use Rattle.machine.specs.Desk.{IsLegalDesk}
use Rattle.machine.proofs.Keeping.{kept-start}
use Rattle.machine.proofs.desk.Desk.new.Goals as goal

pub invariant_of-result : goal.invariant_of-result
invariant_of-result c =
    let started = subst (λ (s : State). IsLegalDesk (record { first = c.args.definitions; state = s })) (sym c.in_ok-machine.ensures) (kept-start c.args.definitions c.args.room c.requires) in
    subst (λ (d : Definitions). IsLegalDesk (record { first = d; state = c.in_ok-machine.machine })) (sym c.in_ok-first.ensures) started

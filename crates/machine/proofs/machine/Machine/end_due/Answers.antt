use Rattle.std.proofs.Common.{◌∙◌, ap, sym, refl, arith, Option}
use Rattle.std.specs.Option.{is_some}
use Rattle.rm_rules.specs.declared.state.Waiter.{Waiter}
use Rattle.rm_rules.proofs.Settling.{due-among, none-due}
use Rattle.machine.proofs.Settling.{may-leave, fewer-due, ends-due}
use Rattle.machine.proofs.machine.Machine.end_due.Goals as goal

pub loop-w-init : goal.loop-w-init
loop-w-init c = record { leads = refl; kept = c.requires }

pub first_due-requires-in-loop-w : goal.first_due-requires-in-loop-w
first_due-requires-in-loop-w c = c.loop-w.invariant.kept.numbered

pub time_out-requires : goal.time_out-requires
time_out-requires c =
    let s = c.loop-w.self in
    let k = c.loop-w.invariant.kept in
    record {
      sound = k.sound;
      counts = k.sized.counts;
      leaves = may-leave s c.in-Some.w k.in_phase k.numbered (due-among s c.in-Some.w (sym c.first_due-in-loop-w.ensures ∙ c.in-Some.is));
    }

pub loop-w-preserved : goal.loop-w-preserved
loop-w-preserved c =
    ends-due c.args.self.now c.loop-w.self c.in-Some.w c.time_out.new.self c.time_out.ensures (sym c.first_due-in-loop-w.ensures ∙ c.in-Some.is) c.loop-w.invariant

pub loop-w-smaller : goal.loop-w-smaller
loop-w-smaller c = omega (arith, fewer-due c.loop-w.self c.in-Some.w c.time_out.new.self c.time_out.ensures (sym c.first_due-in-loop-w.ensures ∙ c.in-Some.is))

pub returns : goal.returns
returns c = record {
  state = sym (none-due c.loop-w.self (sym c.first_due-in-loop-w.ensures ∙ c.in_default.is)) ∙ c.loop-w.invariant.leads;
  some = c.is_some-some.ensures ∙ ap (λ (o : Option Waiter). is_some o) c.first_due.ensures;
}

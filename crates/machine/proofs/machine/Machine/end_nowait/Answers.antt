use Rattle.std.proofs.Common.{◌∙◌, sym, refl, arith}
use Rattle.rm_rules.proofs.Settling.{nowait-among}
use Rattle.machine.proofs.Settling.{may-leave, fewer-nowait, ends-nowait, none-nowait}
use Rattle.machine.proofs.machine.Machine.end_nowait.Goals as goal

pub loop-w-init : goal.loop-w-init
loop-w-init c = record { leads = refl; settling = c.requires }

pub first_nowait-requires : goal.first_nowait-requires
first_nowait-requires c = c.loop-w.invariant.settling.kept.numbered

pub time_out-requires : goal.time_out-requires
time_out-requires c =
    let s = c.loop-w.self in
    let k = c.loop-w.invariant.settling.kept in
    record {
      sound = k.sound;
      counts = k.sized.counts;
      leaves = may-leave s c.in-Some.w k.in_phase k.numbered (nowait-among s c.in-Some.w (sym c.first_nowait.ensures ∙ c.in-Some.is));
    }

pub loop-w-preserved : goal.loop-w-preserved
loop-w-preserved c =
    ends-nowait c.args.self.now c.loop-w.self c.in-Some.w c.time_out.new.self c.time_out.ensures (sym c.first_nowait.ensures ∙ c.in-Some.is) c.loop-w.invariant

pub loop-w-smaller : goal.loop-w-smaller
loop-w-smaller c = omega (arith, fewer-nowait c.loop-w.self c.in-Some.w c.time_out.new.self c.time_out.ensures (sym c.first_nowait.ensures ∙ c.in-Some.is))

pub returns : goal.returns
returns c = record {
  state = sym (none-nowait c.loop-w.self (sym c.first_nowait.ensures ∙ c.in_default.is)) ∙ c.loop-w.invariant.leads;
  settling = c.loop-w.invariant.settling;
}

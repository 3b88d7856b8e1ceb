use Rattle.std.proofs.Common.{◌∙◌, sym, refl, arith}
use Rattle.machine.proofs.Settling.{may-admit, fewer-entitled, admits, none-entitled}
use Rattle.machine.proofs.machine.Machine.admit_entitled.Goals as goal

pub loop-w-init : goal.loop-w-init
loop-w-init c = record { leads = refl; settling = c.requires }

pub first_entitled-requires : goal.first_entitled-requires
first_entitled-requires c = c.loop-w.invariant.settling

pub admit-requires : goal.admit-requires
admit-requires c =
    let k = c.loop-w.invariant.settling in
    let may = may-admit c.loop-w.self c.in-Some.w k (sym c.first_entitled.ensures ∙ c.in-Some.is) in
    record {
      sound = k.kept.sound;
      sized = k.kept.sized;
      room = may.room;
      absent = may.absent;
      known = may.known;
      fits = may.fits;
      leaves = may.leaves;
    }

pub loop-w-preserved : goal.loop-w-preserved
loop-w-preserved c =
    admits c.args.self.now c.loop-w.self c.in-Some.w c.admit.new.self c.admit.ensures (sym c.first_entitled.ensures ∙ c.in-Some.is) c.loop-w.invariant

pub loop-w-smaller : goal.loop-w-smaller
loop-w-smaller c = omega (arith, fewer-entitled c.loop-w.self c.in-Some.w c.admit.new.self c.admit.ensures (sym c.first_entitled.ensures ∙ c.in-Some.is))

pub returns : goal.returns
returns c = record {
  state = sym (none-entitled c.loop-w.self (sym c.first_entitled.ensures ∙ c.in_default.is)) ∙ c.loop-w.invariant.leads;
  settling = c.loop-w.invariant.settling;
}

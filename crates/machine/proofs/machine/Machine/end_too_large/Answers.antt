use Rattle.std.proofs.Common.{◌∙◌, ap, sym, refl, arith}
use Rattle.rm_base.specs.declared.reply.End.{End}
use Rattle.rm_rules.specs.Deadlines.{ended_as}
use Rattle.rm_rules.proofs.Settling.{too_large-among}
use Rattle.machine.proofs.Settling.{may-leave, fewer-large, ends-large, none-large}
use Rattle.machine.proofs.machine.Machine.end_too_large.Goals as goal

pub loop-w-init : goal.loop-w-init
loop-w-init c = record { leads = refl; settles = c.requires }

pub first_too_large-requires : goal.first_too_large-requires
first_too_large-requires c = c.loop-w.invariant.settles.kept.sound

pub too_large_end-end-requires : goal.too_large_end-end-requires
too_large_end-end-requires c = c.loop-w.invariant.settles.kept.sound

pub end_as-requires : goal.end_as-requires
end_as-requires c =
    let s = c.loop-w.self in
    let k = c.loop-w.invariant.settles.kept in
    record {
      counts = k.sized.counts;
      leaves = may-leave s c.in-Some.w k.in_phase k.numbered (too_large-among s c.in-Some.w (sym c.first_too_large.ensures ∙ c.in-Some.is));
    }

pub loop-w-preserved : goal.loop-w-preserved
loop-w-preserved c =
    let s = c.loop-w.self in
    let ended = c.end_as.ensures ∙ ap (λ (e : End). ended_as e s c.in-Some.w) c.too_large_end-end.ensures in
    ends-large c.args.self.now s c.in-Some.w c.end_as.new.self ended (sym c.first_too_large.ensures ∙ c.in-Some.is) c.loop-w.invariant

pub loop-w-smaller : goal.loop-w-smaller
loop-w-smaller c =
    let s = c.loop-w.self in
    let ended = c.end_as.ensures ∙ ap (λ (e : End). ended_as e s c.in-Some.w) c.too_large_end-end.ensures in
    omega (arith, fewer-large s c.in-Some.w c.end_as.new.self ended (sym c.first_too_large.ensures ∙ c.in-Some.is))

pub returns : goal.returns
returns c =
    let nothing = sym c.first_too_large.ensures ∙ c.in_default.is in
    record {
      state = sym (none-large c.loop-w.self nothing) ∙ c.loop-w.invariant.leads;
      settles = c.loop-w.invariant.settles;
      small = nothing;
    }

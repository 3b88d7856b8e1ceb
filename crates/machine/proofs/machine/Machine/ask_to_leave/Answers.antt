use Rattle.std.proofs.Common.{ap, ◌∙◌}
use Rattle.rm_rules.specs.Holdings.{Holdings, holding}
use Rattle.rm_rules.specs.Moving.{leaving_for}
use Rattle.machine.specs.Inside.{seen_state}
use Rattle.machine.proofs.Marking.{bytes-marked, marked-accounts, state-marked}
use Rattle.machine.proofs.Moving.{runs-inside}
use Rattle.machine.proofs.machine.Machine.ask_to_leave.Goals as goal

pub invariant_of-self : goal.invariant_of-self
invariant_of-self c =
    let found = runs-inside c.self.inside c.args.self.now c.args.r.now.session c.args.r.now c.self.view_is c.requires.runs in
    record {
      bytes = marked-accounts c.self.inside c.mark.new.self.accounts c.mark.new.self.running c.mark.ensures.accounts
          (bytes-marked c.self.inside c.args.r.now.session c.args.r.now c.leaving_for.result c.mark.new.self.running c.self.invariant found (ap holding c.leaving_for.ensures) c.mark.ensures.running);
      journal = c.self.invariant.journal;
      counted = c.self.invariant.counted;
    }

pub returns : goal.returns
returns c =
    let found = runs-inside c.self.inside c.args.self.now c.args.r.now.session c.args.r.now c.self.view_is c.requires.runs in
    ap (λ (h : Holdings). seen_state (record c.self.inside { runs = record { accounts = h; running = c.mark.new.self.running } })) c.mark.ensures.accounts
    ∙ state-marked c.self.inside c.args.self.now (leaving_for c.args.pool) c.args.r.now.session c.args.r.now c.leaving_for.result c.mark.new.self.running c.self.view_is found c.leaving_for.ensures c.mark.ensures.running

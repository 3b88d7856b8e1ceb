use Rattle.std.proofs.Common.{◌≡◌, ℕ, Some, Option, refl, sym, ap, ◌∙◌, subst}
use Rattle.std.specs.Prelude.{IsSome}
use Rattle.machine.specs.Desk.{DeskState}
use Rattle.workload.specs.Rested.{workload_ask}
use Rattle.workload.proofs.Standing.{BeginsSeen, begin-seen}
use Rattle.workload.proofs.lone.Lone.begin.Goals as goal

pub admitted_grant-requires : goal.admitted_grant-requires
admitted_grant-requires c =
    let h =
    begin-seen c.args.self.now c.self.inside.desk.state c.apply.new.self.state c.apply-answered.new.self.state c.apply-answered.result.reply c.args.pool c.args.floor
    c.args.chosen_at c.args.asked_at c.self.view_is c.entries-entries.ensures.healthy c.self.invariant c.requires.rested c.requires.few c.requires.pool c.requires.floor
    (ap (λ (x : DeskState). x.state) c.apply.ensures.state) (ap (λ (x : DeskState). x.state) c.apply-answered.ensures.state) c.apply-answered.ensures.reply in
    subst (λ (o : Option ℕ). IsSome o) (sym h.reply) refl

pub invariant_of-self : goal.invariant_of-self
invariant_of-self c =
    let h =
    begin-seen c.args.self.now c.self.inside.desk.state c.apply.new.self.state c.apply-answered.new.self.state c.apply-answered.result.reply c.args.pool c.args.floor
    c.args.chosen_at c.args.asked_at c.self.view_is c.entries-entries.ensures.healthy c.self.invariant c.requires.rested c.requires.few c.requires.pool c.requires.floor
    (ap (λ (x : DeskState). x.state) c.apply.ensures.state) (ap (λ (x : DeskState). x.state) c.apply-answered.ensures.state) c.apply-answered.ensures.reply in
    h.lone

pub returns-clause-grant : goal.returns-clause-grant
returns-clause-grant c =
    let h =
    begin-seen c.args.self.now c.self.inside.desk.state c.apply.new.self.state c.apply-answered.new.self.state c.apply-answered.result.reply c.args.pool c.args.floor
    c.args.chosen_at c.args.asked_at c.self.view_is c.entries-entries.ensures.healthy c.self.invariant c.requires.rested c.requires.few c.requires.pool c.requires.floor
    (ap (λ (x : DeskState). x.state) c.apply.ensures.state) (ap (λ (x : DeskState). x.state) c.apply-answered.ensures.state) c.apply-answered.ensures.reply in
    let both : Some c.admitted_grant.result ≡ Some (workload_ask c.args.self.now.definitions c.args.pool c.args.floor) = sym c.admitted_grant.ensures ∙ h.reply in
    cc

pub returns-clause-definitions : goal.returns-clause-definitions
returns-clause-definitions c =
    let h =
    begin-seen c.args.self.now c.self.inside.desk.state c.apply.new.self.state c.apply-answered.new.self.state c.apply-answered.result.reply c.args.pool c.args.floor
    c.args.chosen_at c.args.asked_at c.self.view_is c.entries-entries.ensures.healthy c.self.invariant c.requires.rested c.requires.few c.requires.pool c.requires.floor
    (ap (λ (x : DeskState). x.state) c.apply.ensures.state) (ap (λ (x : DeskState). x.state) c.apply-answered.ensures.state) c.apply-answered.ensures.reply in
    h.definitions

pub returns-clause-begun : goal.returns-clause-begun
returns-clause-begun c =
    let h =
    begin-seen c.args.self.now c.self.inside.desk.state c.apply.new.self.state c.apply-answered.new.self.state c.apply-answered.result.reply c.args.pool c.args.floor
    c.args.chosen_at c.args.asked_at c.self.view_is c.entries-entries.ensures.healthy c.self.invariant c.requires.rested c.requires.few c.requires.pool c.requires.floor
    (ap (λ (x : DeskState). x.state) c.apply.ensures.state) (ap (λ (x : DeskState). x.state) c.apply-answered.ensures.state) c.apply-answered.ensures.reply in
    h.begun

pub returns-clause-runs_in : goal.returns-clause-runs_in
returns-clause-runs_in c =
    let h =
    begin-seen c.args.self.now c.self.inside.desk.state c.apply.new.self.state c.apply-answered.new.self.state c.apply-answered.result.reply c.args.pool c.args.floor
    c.args.chosen_at c.args.asked_at c.self.view_is c.entries-entries.ensures.healthy c.self.invariant c.requires.rested c.requires.few c.requires.pool c.requires.floor
    (ap (λ (x : DeskState). x.state) c.apply.ensures.state) (ap (λ (x : DeskState). x.state) c.apply-answered.ensures.state) c.apply-answered.ensures.reply in
    h.runs_in

pub returns-clause-held : goal.returns-clause-held
returns-clause-held c =
    let h =
    begin-seen c.args.self.now c.self.inside.desk.state c.apply.new.self.state c.apply-answered.new.self.state c.apply-answered.result.reply c.args.pool c.args.floor
    c.args.chosen_at c.args.asked_at c.self.view_is c.entries-entries.ensures.healthy c.self.invariant c.requires.rested c.requires.few c.requires.pool c.requires.floor
    (ap (λ (x : DeskState). x.state) c.apply.ensures.state) (ap (λ (x : DeskState). x.state) c.apply-answered.ensures.state) c.apply-answered.ensures.reply in
    h.held ∙ sym h.reply ∙ c.admitted_grant.ensures

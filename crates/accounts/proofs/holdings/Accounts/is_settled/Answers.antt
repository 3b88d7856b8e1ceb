use Rattle.std.proofs.Common.{List, sym, ap, subst, ◌∙◌}
use Rattle.std.specs.List.{list_all}
use Rattle.rm_rules.specs.declared.state.Reserve.{Reserve}
use Rattle.rm_rules.specs.Holdings.{Holdings}
use Rattle.accounts.specs.Kept.{IsBalanced}
use Rattle.accounts.specs.Sizes.{is_settled}
use Rattle.accounts.proofs.Settled.{settled-same}
use Rattle.accounts.proofs.holdings.Accounts.is_settled.Goals as goal

pub returns-then-self-total : goal.returns-then-self-total
returns-then-self-total c settled =
    let d = c.args.definitions.now in
    let k = subst IsBalanced c.self.view_is c.self.invariant.balanced in
    let force = ap (λ (h : Holdings). h.in_force) (sym c.self.view_is) ∙ c.if-self-total.true ∙ c.total.ensures.value in
    let listed = c.rows.ensures.rows ∙ ap (λ (h : Holdings). h.reserves) c.self.view_is in
    settled-same d c.args.self.now k.within force (ap (λ (l : List Reserve). list_all (is_settled d) l) (sym listed) ∙ c.are_settled.ensures settled)

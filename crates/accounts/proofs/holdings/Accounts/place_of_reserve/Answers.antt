use Rattle.std.proofs.Common.{◌≡◌, true, not, ap, sym, ◌∙◌, position, List}
use Rattle.std.specs.List.{list_any}
use Rattle.rm_base.specs.declared.name.Name.{Name}
use Rattle.rm_base.specs.Name.{same_name, general}
use Rattle.rm_rules.specs.declared.state.Reserve.{Reserve}
use Rattle.rm_rules.specs.Holdings.{Holdings, reserve_names}
use Rattle.rm_rules.specs.DropPool.{is_reserve_of}
use Rattle.rm_rules.specs.Sound.{are_distinct}
use Rattle.rm_rules.proofs.Taken.{and_left, not_false}
use Rattle.places.proofs.Distinct.{place-none}
use Rattle.accounts.proofs.holdings.Accounts.place_of_reserve.Goals as goal

pub returns-then-same-clause-value : goal.returns-then-same-clause-value
returns-then-same-clause-value c =
    let es = c.self.inside.reserves in
    let none = not_false _ (and_left (not (list_any (same_name general) (reserve_names es))) (are_distinct (reserve_names es)) c.self.invariant.balanced.names_distinct) in
    let same = ap (λ (n : Name). same_name c.args.pool n) (sym c.general.ensures) ∙ sym c.same.ensures ∙ c.if-same.true in
    sym (place-none (λ (e : Reserve). e.pool) general c.args.pool es none same)
    ∙ ap (λ (h : Holdings). position (is_reserve_of c.args.pool) h.reserves) c.self.view_is

pub returns-clause-value : goal.returns-clause-value
returns-clause-value c =
    c.place_of.ensures.value
    ∙ ap (λ (l : List Reserve). position (is_reserve_of c.args.pool) l) c.rows-reserves.ensures.rows
    ∙ ap (λ (h : Holdings). position (is_reserve_of c.args.pool) h.reserves) c.self.view_is

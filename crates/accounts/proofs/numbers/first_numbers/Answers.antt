use Rattle.std.proofs.Common.{◌≡◌, List, [], map, refl, sym, ap, ◌∙◌, arith}
use Rattle.std.proofs.lemmas.List.{take_all}
use Rattle.rm_rules.specs.declared.state.Reserve.{Reserve}
use Rattle.rm_rules.specs.Holdings.{Holdings}
use Rattle.rm_rules.specs.Accounting.{lent, free}
use Rattle.rm_rules.proofs.Bytes.{lent-none}
use Rattle.accounts.specs.Numbers.{usage_of, numbers_of}
use Rattle.accounts.proofs.numbers.first_numbers.Goals as goal

pub returns : goal.returns
returns c =
    let es = c.args.reserves.now in
    let h : Holdings = record { in_force = c.args.in_force; reserves = es; grants = [] } in
    let us : c.loop-e.usages ≡ map (usage_of []) es =
    c.loop-e.invariant ∙ ap (λ (l : List Reserve). map (usage_of []) l) (take_all c.loop-e.e-index es (omega arith)) in
    let none : c.none.result ≡ (numbers_of h).general = c.none.ensures in
    let lends : 0 ≡ lent h = sym (lent-none h (λ p. refl)) in
    let frees : c.saturating_sub.result ≡ free h = omega (arith, c.saturating_sub.ensures, c.kept_back.ensures, lends) in
    let nothing : c.in_ok-new.field-0 ≡ [] = c.in_ok-new.ensures in
    λ j. record { usages = us j; general = none j; lent = lends j; free = frees j; accounts = nothing j }

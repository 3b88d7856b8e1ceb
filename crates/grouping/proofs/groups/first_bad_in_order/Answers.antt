use Rattle.std.proofs.Common.{◌≡◌, ◌∙◌, ap, sym, subst, arith, IsPermutation}
use Rattle.std.proofs.lemmas.List.Sorted.{IsPermutation-sym}
use Rattle.grouping.specs.Finishing.{bad_from, groups_in_order}
use Rattle.grouping.proofs.Cases.{if_none}
use Rattle.grouping.proofs.FastLemmas.{none_along}
use Rattle.grouping.proofs.FinishLemmas.{first_bad_is, in_key_order}
use Rattle.grouping.proofs.SeenLemmas.{written_back}
use Rattle.grouping.proofs.groups.first_bad_in_order.Goals as goal

pub returns-clause-first : goal.returns-clause-first
returns-clause-first c spec rows same moved =
    let sorted = c.sort_groups.new.groups in
    let back : c.deref.result.now ≡ sorted =
    c.deref.ensures.value ∙ written_back sorted c.args.groups.items c.args.groups.len (omega (arith, c.sort_groups.auto.groups, c.deref_mut.ensures.len)) in
    let is : sorted ≡ groups_in_order spec rows =
    in_key_order spec rows c.deref_mut.result.now sorted (subst (IsPermutation (groups_in_order spec rows)) (sym c.deref_mut.ensures.value) moved)
    c.sort_groups.ensures.permutation c.sort_groups.ensures.sorted in
    c.first_bad.ensures.first ∙ (λ i. bad_from 0 (same i) ((back ∙ is) i)) ∙ first_bad_is spec rows

pub returns-clause-none : goal.returns-clause-none
returns-clause-none c =
    let sorted = c.sort_groups.new.groups in
    let back : c.deref.result.now ≡ sorted =
    c.deref.ensures.value ∙ written_back sorted c.args.groups.items c.args.groups.len (omega (arith, c.sort_groups.auto.groups, c.deref_mut.ensures.len)) in
    if_none c.first_bad.result _ (λ none.
    none_along 0 c.args.items.now sorted c.args.groups.items
    (subst (IsPermutation sorted) c.deref_mut.ensures.value (IsPermutation-sym c.deref_mut.result.now sorted c.sort_groups.ensures.permutation))
    (ap (bad_from 0 c.args.items.now) (sym back) ∙ sym c.first_bad.ensures.first ∙ none))

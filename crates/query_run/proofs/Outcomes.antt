-- how a run ends by the rules, from what its steps told
use Rattle.std.proofs.Common.{◌≡◌, ℕ, ◌<◌, ◌≤◌, Bool, true, false, cond, not, ◌&&◌, nat_le, Option, Some, None, List, [], ◌∷◌, ◌++◌, append_assoc, map, filter, refl, sym, ap, ◌∙◌, subst, arith, IsPermutation}
use Rattle.std.specs.List.{list_all}
use Rattle.std.specs.Prelude.{sum_by}
use Rattle.std.proofs.lemmas.List.{map-append}
use Rattle.std.proofs.lemmas.List.Sorted.{IsPermutation-map, sum_by-IsPermutation}
use Rattle.std.proofs.lemmas.List.Sums.{sum_by-append, sum_by-cons}
use Rattle.rm_base.specs.declared.select.GroupSpec.{GroupSpec}
use Rattle.rm_base.specs.declared.select.Item.{Item}
use Rattle.rm_base.specs.declared.select.Select.{Select}
use Rattle.rm_base.specs.declared.value.Value.{Value}
use Rattle.rm_base.specs.TableSeen.{TableSeen}
use Rattle.rm_base.specs.Values.{row_cmp, row_measure, rows_measure, same_row}
use Rattle.rm_rules.specs.AllFits.{all_fits, group_charge, group_rows_fit, groups_charge, quarter, result_fits, stages_fit}
use Rattle.rm_rules.specs.Comparing.{columns}
use Rattle.rm_rules.specs.Grouping.{first_keys, keys_in}
use Rattle.rm_rules.specs.Meaning.{meaning, meant, shown}
use Rattle.rm_rules.specs.Sorting.{distinct}
use Rattle.rm_rules.specs.Stages.{is_ready, stage_output, width_of}
use Rattle.rm_rules.specs.Tuples.{remaining}
use Rattle.rm_rules.proofs.GroupLaws.{first_bad_along, grouped_along, keys_along}
use Rattle.rm_rules.proofs.MatchLaws.{meant_along}
use Rattle.rm_rules.proofs.SortLaws.{IsPermutation-sorted}
use Rattle.rm_rules.proofs.Staging.{last_stage}
use Rattle.query_run.specs.Gathering.{gathered_charge, spec_of}
use Rattle.query_run.specs.Running.{run_outcome}
use Rattle.query_run.specs.Running.RunOutcome.{Meant, Spills}
use Rattle.query_run.proofs.Staged.{and_false, false_and, measure_along, not_le}

-- ---- outcomes

pub ends_meant : (grant : ℕ) (s : Select) (tables : List TableSeen) → all_fits grant s tables ≡ true → run_outcome grant s tables ≡ Meant (meaning s tables)
ends_meant grant s tables h = ap (λ b. cond b (Meant (meaning s tables)) Spills) h

pub ends_spilled : (grant : ℕ) (s : Select) (tables : List TableSeen) → all_fits grant s tables ≡ false → run_outcome grant s tables ≡ Spills
ends_spilled grant s tables h = ap (λ b. cond b (Meant (meaning s tables)) Spills) h

-- ---- the result rows, and the table of groups

result_along : (room : ℕ) (items : List Item) (groups : Option (List ℕ)) (xs ys : List (List Value)) → IsPermutation xs ys
    → result_fits room items groups xs ≡ result_fits room items groups ys
result_along room items None xs ys moved =
    ap (λ n. nat_le n room) (measure_along _ _ (IsPermutation-map (shown items) xs ys moved))
result_along room items (Some keys) xs ys moved =
    let spec : GroupSpec = record { keys = keys; items = items } in
    λ i. nat_le (sum_by (group_charge items) (keys_along keys xs ys moved i)) room
    && group_rows_fit room (first_bad_along spec xs ys moved i) (grouped_along spec xs ys moved i)

pub charge_spills : (room : ℕ) (items : List Item) (groups : Option (List ℕ)) (rows : List (List Value)) → room < gathered_charge items groups rows
    → result_fits room items groups rows ≡ false
charge_spills room items None rows beyond = not_le _ room beyond
charge_spills room items (Some keys) rows beyond = false_and _ _ (not_le _ room beyond)

-- ---- of the rows that remain, in any arrangement

pub stages_spill : (grant : ℕ) (s : Select) (tables : List TableSeen) → stages_fit (quarter grant) s.tests tables ≡ false → all_fits grant s tables ≡ false
stages_spill grant s tables h = false_and _ _ h

pub result_spills : (grant : ℕ) (s : Select) (tables : List TableSeen) (rows : List (List Value)) → IsPermutation (remaining s tables) rows
    → result_fits (quarter grant) s.items s.groups rows ≡ false → all_fits grant s tables ≡ false
result_spills grant s tables rows moved h =
    and_false _ _ (result_along (quarter grant) s.items s.groups (remaining s tables) rows moved ∙ h)

pub all_fit : (grant : ℕ) (s : Select) (tables : List TableSeen) (rows : List (List Value)) → IsPermutation (remaining s tables) rows
    → stages_fit (quarter grant) s.tests tables ≡ true → result_fits (quarter grant) s.items s.groups rows ≡ true → all_fits grant s tables ≡ true
all_fit grant s tables rows moved stages result =
    let same : result_fits (quarter grant) s.items s.groups (remaining s tables) ≡ true =
    result_along (quarter grant) s.items s.groups (remaining s tables) rows moved ∙ result in
    λ i. stages i && same i

pub means : (s : Select) (tables : List TableSeen) (rows : List (List Value)) → IsPermutation (remaining s tables) rows → meaning s tables ≡ meant s rows
means s tables rows moved = meant_along s (remaining s tables) rows moved

pub remaining_rows : (s : Select) (tables : List TableSeen) (rows : List (List Value)) → list_all (is_ready (width_of tables)) s.tests ≡ true
    → IsPermutation (stage_output s.tests tables) rows → IsPermutation (remaining s tables) rows
remaining_rows s tables rows ready moved = subst (λ l. IsPermutation l rows) (last_stage s tables ready) moved

-- ---- fewer rows are charged no more

filter_sum : {X : Type 0} (f : X → ℕ) (p : X → Bool) (xs : List X) → sum_by f (filter p xs) ≡ sum_by (λ x. cond (p x) (f x) 0) xs
filter_sum f p [] = refl
filter_sum {X} f p (x ∷ xs) = turn (p x) refl (filter_sum f p xs)
  where
    turn : (b : Bool) → p x ≡ b → sum_by f (filter p xs) ≡ sum_by (λ x. cond (p x) (f x) 0) xs
        → sum_by f (cond b (x ∷ filter p xs) (filter p xs)) ≡ sum_by (λ x. cond (p x) (f x) 0) (x ∷ xs)
    turn true e h = omega (arith, sum_by-cons f x (filter p xs), sum_by-cons (λ x. cond (p x) (f x) 0) x xs, ap (λ b. cond b (f x) 0) e, h)
    turn false e h = omega (arith, sum_by-cons (λ x. cond (p x) (f x) 0) x xs, ap (λ b. cond b (f x) 0) e, h)

distinct_least : {X : Type 0} (same : X → X → Bool) (f : X → ℕ) (xs ys : List X) → sum_by f (distinct same xs) ≤ sum_by f (distinct same (xs ++ ys))
distinct_least same f [] ys = omega arith
distinct_least same f (x ∷ xs) ys =
    let rest = distinct_least same (λ y. cond (not (same x y)) (f y) 0) xs ys in
    omega (
      arith,
      rest,
      sum_by-cons f x (filter (λ y. not (same x y)) (distinct same xs)),
      filter_sum f (λ y. not (same x y)) (distinct same xs),
      sum_by-cons f x (filter (λ y. not (same x y)) (distinct same (xs ++ ys))),
      filter_sum f (λ y. not (same x y)) (distinct same (xs ++ ys)),
    )

charge_is : (spec : GroupSpec) (rows : List (List Value)) → groups_charge spec rows ≡ sum_by (group_charge spec.items) (distinct same_row (keys_in spec.keys rows))
charge_is spec rows = sum_by-IsPermutation (group_charge spec.items) _ _ (IsPermutation-sorted row_cmp (distinct same_row (keys_in spec.keys rows)))

keys_append : (keys : List ℕ) (xs ys : List (List Value)) → keys_in keys (xs ++ ys) ≡ keys_in keys xs ++ map (columns keys) ys
keys_append keys xs ys = ap (λ l. first_keys keys ++ l) (map-append (columns keys) xs ys) ∙ sym (append_assoc (first_keys keys) (map (columns keys) xs) (map (columns keys) ys))

groups_least : (spec : GroupSpec) (xs ys : List (List Value)) → groups_charge spec xs ≤ groups_charge spec (xs ++ ys)
groups_least spec xs ys =
    omega (
      arith,
      charge_is spec xs,
      charge_is spec (xs ++ ys),
      ap (λ l. sum_by (group_charge spec.items) (distinct same_row l)) (keys_append spec.keys xs ys),
      distinct_least same_row (group_charge spec.items) (keys_in spec.keys xs) (map (columns spec.keys) ys),
    )

pub gathered_least : (items : List Item) (groups : Option (List ℕ)) (xs ys : List (List Value))
    → gathered_charge items groups xs ≤ gathered_charge items groups (xs ++ ys)
gathered_least items None xs ys =
    omega (arith, ap rows_measure (map-append (shown items) xs ys), sum_by-append row_measure (map (shown items) xs) (map (shown items) ys))
gathered_least items (Some keys) xs ys = groups_least (spec_of items keys) xs ys

-- where the first rows are charged more than the room, so are all
pub gathered_beyond : (room : ℕ) (items : List Item) (groups : Option (List ℕ)) (first all more : List (List Value)) → all ≡ first ++ more
    → room < gathered_charge items groups first → room < gathered_charge items groups all
gathered_beyond room items groups first all more split beyond =
    omega (arith, beyond, gathered_least items groups first more, ap (gathered_charge items groups) split)

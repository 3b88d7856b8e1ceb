-- The rows that groups give, one by one, and what they measure.
use Rattle.std.proofs.Common.{◌≡◌, ℕ, ◌+◌, ◌≤◌, ◌<◌, true, false, List, [], ◌∷◌, ◌++◌, map, length, take, drop, get_or, nat_le, sym, ap, ◌∙◌, subst, arith, None, IsPermutation}
use Rattle.std.proofs.lemmas.Bool.Decides.{nat_tests}
use Rattle.std.proofs.lemmas.List.{map_more, map-append, take-append-drop}
use Rattle.std.proofs.lemmas.List.Sorted.{IsPermutation-map, IsPermutation-sym, sum_by-IsPermutation}
use Rattle.std.proofs.lemmas.List.Sums.{sum_by-append, sum_by-cons}
use Rattle.rm_base.specs.declared.select.GroupSpec.{GroupSpec}
use Rattle.rm_base.specs.declared.value.Value.{Value}
use Rattle.rm_base.specs.Values.{row_cmp, row_measure, rows_measure}
use Rattle.rm_rules.specs.AllFits.{group_rows_fit}
use Rattle.rm_rules.specs.Grouping.{first_bad, grouped}
use Rattle.rm_rules.proofs.SortLaws.{IsPermutation-sorted}
use Rattle.grouping.specs.declared.tally.Tally.{Tally}
use Rattle.grouping.specs.Finishing.{cell, cells, groups_in_order}
use Rattle.grouping.specs.Gathering.{group_of, groups_seen, keys_seen}

abbrev Group : Type 0
Group = List Value × List Tally

pub measure-append : (rows : List (List Value)) (row : List Value) → rows_measure (rows ++ row ∷ []) ≡ rows_measure rows + row_measure row
measure-append rows row = omega (arith, sum_by-append row_measure rows (row ∷ []), sum_by-cons row_measure row [])

pub cells_step : (keys : List ℕ) (groups : List Group) (i : ℕ) (group : Group) (row : List Value) → i < length groups → group ≡ get_or groups i group
    → row ≡ map (cell keys group.0) group.1 → cells keys (take (i + 1) groups) ≡ cells keys (take i groups) ++ row ∷ []
cells_step keys groups i group row within is shows =
    map_more (λ (g : Group). map (cell keys g.0) g.1) groups i group within
    ∙ sym (λ j. cells keys (take i groups) ++ (shows ∙ (λ k. map (cell keys (is k).0) (is k).1)) j ∷ [])

pub cells_part : (keys : List ℕ) (groups : List Group) (i : ℕ) → rows_measure (cells keys (take i groups)) ≤ rows_measure (cells keys groups)
cells_part keys groups i =
    let f : Group → List Value = λ g. map (cell keys g.0) g.1 in
    let split : cells keys groups ≡ cells keys (take i groups) ++ cells keys (drop i groups) =
    ap (cells keys) (sym (take-append-drop i groups)) ∙ map-append f (take i groups) (drop i groups) in
    omega (arith, ap rows_measure split, sum_by-append row_measure (cells keys (take i groups)) (cells keys (drop i groups)))

pub seen_in_order : (spec : GroupSpec) (rows : List (List Value)) (groups : List Group) → groups ≡ groups_seen spec rows
    → IsPermutation (groups_in_order spec rows) groups
seen_in_order spec rows groups is =
    subst (IsPermutation (groups_in_order spec rows)) (sym is)
    (IsPermutation-sym (groups_seen spec rows) (groups_in_order spec rows)
    (IsPermutation-map (group_of spec rows) _ _ (IsPermutation-sorted row_cmp (keys_seen spec.keys rows))))

fits_by : (m n room : ℕ) → m ≡ n → n ≤ room → nat_le m room ≡ true
fits_by m n room is h = grind (arith, nat_tests, is, h)

spills_by : (m n room : ℕ) → m ≡ n → room < n → nat_le m room ≡ false
spills_by m n room is h = grind (arith, nat_tests, is, h)

pub rows_fit : (spec : GroupSpec) (rows out : List (List Value)) (room : ℕ) → first_bad spec rows ≡ None → IsPermutation (grouped spec rows) out
    → rows_measure out ≤ room → group_rows_fit room (first_bad spec rows) (grouped spec rows) ≡ true
rows_fit spec rows out room none moved fits =
    ap (λ bad. group_rows_fit room bad (grouped spec rows)) none
    ∙ fits_by (rows_measure (grouped spec rows)) (rows_measure out) room (sym (sum_by-IsPermutation row_measure (grouped spec rows) out moved)) fits

pub rows_spill : (spec : GroupSpec) (rows out : List (List Value)) (room : ℕ) → first_bad spec rows ≡ None → IsPermutation (grouped spec rows) out
    → room < rows_measure out → group_rows_fit room (first_bad spec rows) (grouped spec rows) ≡ false
rows_spill spec rows out room none moved beyond =
    ap (λ bad. group_rows_fit room bad (grouped spec rows)) none
    ∙ spills_by (rows_measure (grouped spec rows)) (rows_measure out) room (sym (sum_by-IsPermutation row_measure (grouped spec rows) out moved)) beyond

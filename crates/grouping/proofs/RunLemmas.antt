-- The rows of a run that were taken so far, and whether their groups fit.
use Rattle.std.proofs.Common.{◌≡◌, ℕ, ◌+◌, ◌^◌, ◌≤◌, ◌<◌, Bool, true, false, ◌&&◌, List, [], ◌∷◌, ◌++◌, append_assoc, append-nil, map, length, take, drop, get_or, nat_le, refl, sym, ap, ◌∙◌, arith}
use Rattle.std.specs.List.{list_any, list_all}
use Rattle.std.proofs.lemmas.Bool.{and_parts}
use Rattle.std.proofs.lemmas.Bool.Decides.{nat_tests}
use Rattle.std.proofs.lemmas.List.{length-append, length-map, map_more, map-append, take-append-drop}
use Rattle.std.proofs.lemmas.List.Folds.{list_all-append}
use Rattle.std.proofs.lemmas.List.Sums.{sum_by-append, sum_by-cons}
use Rattle.rm_base.specs.declared.select.GroupSpec.{GroupSpec}
use Rattle.rm_base.specs.declared.value.Value.{Value}
use Rattle.rm_base.specs.Values.{row_measure, rows_measure, same_row}
use Rattle.rm_rules.specs.AllFits.{group_rows_fit, groups_charge}
use Rattle.rm_rules.specs.Comparing.{columns}
use Rattle.rm_rules.specs.Grouping.{first_bad, grouped}
use Rattle.spill_files.specs.declared.run_row.RunRow.{RunRow}
use Rattle.spill_files.specs.RunRow.{run_row}
use Rattle.grouping.specs.Ending.{groups_fit}
use Rattle.grouping.specs.Gathering.{keys_seen}
use Rattle.grouping.proofs.CellsLemmas.{measure-append}
use Rattle.grouping.proofs.SeenLemmas.{charge_old, charge_new}

-- ---- one row more

pub taken_more : (rows : List RunRow) (i : ℕ) (x : RunRow) (row : List Value) → i < length rows → x ≡ get_or rows i x → row ≡ run_row x
    → map run_row (take (i + 1) rows) ≡ map run_row (take i rows) ++ row ∷ []
taken_more rows i x row within is shows =
    map_more run_row rows i x within ∙ sym (λ j. map run_row (take i rows) ++ (shows ∙ (λ k. run_row (is k))) j ∷ [])

split_at : (rows : List RunRow) (i : ℕ) → map run_row rows ≡ map run_row (take i rows) ++ map run_row (drop i rows)
split_at rows i = ap (map run_row) (sym (take-append-drop i rows)) ∙ map-append run_row (take i rows) (drop i rows)

pub taken_measure : (rows : List RunRow) (i : ℕ) (x : RunRow) (row : List Value) → i < length rows → x ≡ get_or rows i x → row ≡ run_row x
    → rows_measure (map run_row (take i rows)) + row_measure row ≤ rows_measure (map run_row rows)
taken_measure rows i x row within is shows =
    omega (
      arith,
      ap rows_measure (split_at rows (i + 1)),
      sum_by-append row_measure (map run_row (take (i + 1) rows)) (map run_row (drop (i + 1) rows)),
      ap rows_measure (taken_more rows i x row within is shows),
      measure-append (map run_row (take i rows)) row,
    )

pub few_taken : (rows : List RunRow) (i : ℕ) → length rows < 2 ^ 63 → length (map run_row (take i rows)) < 2 ^ 63
few_taken rows i few =
    omega (arith, few, length-map rows run_row, ap length (split_at rows i), length-append (map run_row (take i rows)) (map run_row (drop i rows)))

-- rows measure at least their number
pub few_rows : (rows : List (List Value)) → length rows ≤ rows_measure rows
few_rows [] = omega arith
few_rows (row ∷ rows) = omega (arith, sum_by-cons row_measure row rows, few_rows rows)

-- ---- the charge of groups rises with the rows

charge_step : (spec : GroupSpec) (rows : List (List Value)) (row : List Value) → groups_charge spec rows ≤ groups_charge spec (rows ++ row ∷ [])
charge_step spec rows row = go (list_any (same_row (columns spec.keys row)) (keys_seen spec.keys rows)) refl
  where
    go : (b : Bool) → list_any (same_row (columns spec.keys row)) (keys_seen spec.keys rows) ≡ b → groups_charge spec rows ≤ groups_charge spec (rows ++ row ∷ [])
    go true e = omega (arith, charge_old spec rows row e)
    go false e = omega (arith, charge_new spec rows row e)

charge_rises : (spec : GroupSpec) (rows more : List (List Value)) → groups_charge spec rows ≤ groups_charge spec (rows ++ more)
charge_rises spec rows [] = omega (arith, ap (groups_charge spec) (append-nil rows))
charge_rises spec rows (row ∷ more) =
    omega (arith, charge_step spec rows row, charge_rises spec (rows ++ row ∷ []) more, ap (groups_charge spec) (append_assoc rows (row ∷ []) more))

-- ---- whether groups fit

pub charge_beyond : (room : ℕ) (spec : GroupSpec) (rows : List (List Value)) → room < groups_charge spec rows → groups_fit room spec rows ≡ false
charge_beyond room spec rows h =
    let test : nat_le (groups_charge spec rows) room ≡ false = beyond (groups_charge spec rows) h in
    ap (λ b. b && group_rows_fit room (first_bad spec rows) (grouped spec rows)) test
  where
    beyond : (n : ℕ) → room < n → nat_le n room ≡ false
    beyond n p = grind (arith, nat_tests)

pub first_beyond : (room : ℕ) (spec : GroupSpec) (rows : List (List Value)) → room < groups_charge spec [] → groups_fit room spec rows ≡ false
first_beyond room spec rows h = charge_beyond room spec rows (omega (arith, h, charge_rises spec [] rows))

pub taken_beyond : (room : ℕ) (spec : GroupSpec) (rows : List RunRow) (i : ℕ) (x : RunRow) (row : List Value) → i < length rows → x ≡ get_or rows i x → row ≡ run_row x
    → room < groups_charge spec (map run_row (take i rows) ++ row ∷ []) → groups_fit room spec (map run_row rows) ≡ false
taken_beyond room spec rows i x row within is shows h =
    charge_beyond room spec (map run_row rows)
    (omega (
      arith,
      h,
      ap (groups_charge spec) (taken_more rows i x row within is shows),
      ap (groups_charge spec) (split_at rows (i + 1)),
      charge_rises spec (map run_row (take (i + 1) rows)) (map run_row (drop (i + 1) rows)),
    ))

pub rows_beyond : (room : ℕ) (spec : GroupSpec) (rows : List (List Value)) → group_rows_fit room (first_bad spec rows) (grouped spec rows) ≡ false → groups_fit room spec rows ≡ false
rows_beyond room spec rows h =
    ap (λ b. nat_le (groups_charge spec rows) room && b) h ∙ go (nat_le (groups_charge spec rows) room)
  where
    go : (b : Bool) → (b && false) ≡ false
    go true = refl
    go false = refl

pub all_fit : (room : ℕ) (spec : GroupSpec) (rows : List (List Value)) → groups_charge spec rows ≤ room → group_rows_fit room (first_bad spec rows) (grouped spec rows) ≡ true
    → groups_fit room spec rows ≡ true
all_fit room spec rows h fits =
    let test : nat_le (groups_charge spec rows) room ≡ true = within (groups_charge spec rows) h in
    λ i. test i && fits i
  where
    within : (n : ℕ) → n ≤ room → nat_le n room ≡ true
    within n p = grind (arith, nat_tests)

-- ---- rows that are put out one by one

pub none_left : {X : Type 0} (xs : List X) → length xs ≡ 0 → xs ≡ []
none_left [] h = refl
none_left (x ∷ xs) h = absurd (omega arith)

pub test_next : {X : Type 0} (p : X → Bool) (done : List X) (x : X) (left all : List X) → done ++ x ∷ left ≡ all → list_all p all ≡ true → p x ≡ true
test_next p done x left all is h =
    (and_parts _ _ (and_parts _ _ (sym (list_all-append p done (x ∷ left)) ∙ ap (list_all p) is ∙ h)).1).0

pub next_measure : (done : List (List Value)) (row : List Value) (left all : List (List Value)) → done ++ row ∷ left ≡ all
    → rows_measure done + row_measure row ≤ rows_measure all
next_measure done row left all is =
    omega (arith, ap rows_measure is, sum_by-append row_measure done (row ∷ left), sum_by-cons row_measure row left)

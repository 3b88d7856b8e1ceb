-- The groups of one more row.
use Rattle.std.proofs.Common.{◌≡◌, ℕ, zero, suc, ◌+◌, ◌^◌, ◌≤◌, ◌<◌, Bool, true, false, not, cond, ◌||◌, List, [], ◌∷◌, ◌++◌, append_assoc, append-nil, filter, map, length, get_or, set, take, drop, refl, sym, ap, ◌∙◌, subst, arith}
use Rattle.std.specs.List.{list_any, IsDistinct, AllByRecursion}
use Rattle.std.specs.Prelude.{sum_by}
use Rattle.std.proofs.lemmas.Bool.{or_parts}
use Rattle.std.proofs.lemmas.List.{get_or-map, length-map, map-append}
use Rattle.std.proofs.lemmas.List.Elements.{filter-append}
use Rattle.std.proofs.lemmas.List.Folds.{list_any-append}
use Rattle.std.proofs.lemmas.List.Sorted.{sum_by-IsPermutation}
use Rattle.std.proofs.lemmas.List.Sums.{sum_by-append, sum_by-cons}
use Rattle.std.proofs.lemmas.Map.Keys.{IsDistinct-head, IsDistinct-tail}
use Rattle.rm_base.specs.declared.select.GroupSpec.{GroupSpec}
use Rattle.rm_base.specs.declared.value.Value.{Value}
use Rattle.rm_base.specs.ValueLaws.{row_equiv, same_row-eq}
use Rattle.rm_base.specs.Values.{row_cmp, same_row}
use Rattle.rm_rules.specs.AllFits.{group_charge, groups_charge}
use Rattle.rm_rules.specs.Comparing.{columns}
use Rattle.rm_rules.specs.Grouping.{first_keys, group_keys, keys_in, members}
use Rattle.rm_rules.specs.Sorting.{distinct}
use Rattle.rm_rules.proofs.Distinct.{IsDistinct-distinct, any-distinct}
use Rattle.rm_rules.proofs.SortLaws.{IsPermutation-sorted}
use Rattle.grouping.specs.declared.tally.Tally.{Tally}
use Rattle.grouping.specs.Gathering.{Gathered, gathered, group_of, groups_seen, keys_of, keys_seen}
use Rattle.grouping.specs.Tallying.{all_added, tallies_of}
use Rattle.grouping.proofs.TallyLemmas.{tallies_more}

-- an element behind a list is new, or it is not
distinct-append : (x : List Value) (xs : List (List Value))
    → distinct same_row (xs ++ x ∷ []) ≡ cond (list_any (same_row x) xs) (distinct same_row xs) (distinct same_row xs ++ x ∷ [])
distinct-append x [] = refl
distinct-append x (y ∷ xs) = go (same_row x y) (list_any (same_row x) xs) refl (distinct-append x xs)
  where
    rest : List (List Value) → List (List Value)
    rest l = filter (λ z. not (same_row y z)) l

    go : (a b : Bool) → same_row x y ≡ a
        → distinct same_row (xs ++ x ∷ []) ≡ cond b (distinct same_row xs) (distinct same_row xs ++ x ∷ [])
        → y ∷ filter (λ z. not (same_row y z)) (distinct same_row (xs ++ x ∷ []))
        ≡ cond (a || b) (y ∷ filter (λ z. not (same_row y z)) (distinct same_row xs)) (y ∷ filter (λ z. not (same_row y z)) (distinct same_row xs) ++ x ∷ [])
    go true true e h = ap (λ l. y ∷ filter (λ z. not (same_row y z)) l) h
    go false true e h = ap (λ l. y ∷ filter (λ z. not (same_row y z)) l) h
    go true false e h =
        ap (λ l. y ∷ filter (λ z. not (same_row y z)) l) h
        ∙ ap (λ l. y ∷ l) (filter-append (λ z. not (same_row y z)) (distinct same_row xs) (x ∷ [])
        ∙ ap (λ b. filter (λ z. not (same_row y z)) (distinct same_row xs) ++ cond (not b) (x ∷ []) []) (row_equiv.symm y x ∙ e)
        ∙ append-nil (filter (λ z. not (same_row y z)) (distinct same_row xs)))
    go false false e h =
        ap (λ l. y ∷ filter (λ z. not (same_row y z)) l) h
        ∙ ap (λ l. y ∷ l) (filter-append (λ z. not (same_row y z)) (distinct same_row xs) (x ∷ [])
        ∙ ap (λ b. filter (λ z. not (same_row y z)) (distinct same_row xs) ++ cond (not b) (x ∷ []) []) (row_equiv.symm y x ∙ e))

keys_in-append : (keys : List ℕ) (rows : List (List Value)) (row : List Value) → keys_in keys (rows ++ row ∷ []) ≡ keys_in keys rows ++ columns keys row ∷ []
keys_in-append keys rows row =
    ap (λ l. first_keys keys ++ l) (map-append (columns keys) rows (row ∷ []))
    ∙ sym (append_assoc (first_keys keys) (map (columns keys) rows) (columns keys row ∷ []))

-- a key stands among those of the groups where it stands in the rows
any_seen : (keys : List ℕ) (rows : List (List Value)) (key : List Value) → list_any (same_row key) (keys_seen keys rows) ≡ list_any (same_row key) (keys_in keys rows)
any_seen keys rows key = any-distinct same_row row_equiv same_row-eq key (keys_in keys rows)

keys_seen-append : (keys : List ℕ) (rows : List (List Value)) (row : List Value)
    → keys_seen keys (rows ++ row ∷ []) ≡ cond (list_any (same_row (columns keys row)) (keys_seen keys rows)) (keys_seen keys rows) (keys_seen keys rows ++ columns keys row ∷ [])
keys_seen-append keys rows row =
    ap (distinct same_row) (keys_in-append keys rows row)
    ∙ distinct-append (columns keys row) (keys_in keys rows)
    ∙ ap (λ b. cond b (keys_seen keys rows) (keys_seen keys rows ++ columns keys row ∷ [])) (sym (any_seen keys rows (columns keys row)))

-- ---- the members

pub few_members : (keys : List ℕ) (rows : List (List Value)) (key : List Value) → length (members keys rows key) ≤ length rows
few_members keys [] key = omega arith
few_members keys (row ∷ rows) key =
    elim (same_row (columns keys row) key) as (λ b. length (cond b (row ∷ members keys rows key) (members keys rows key)) ≤ length (row ∷ rows))
    [ true ↦ omega (arith, few_members keys rows key) | false ↦ omega (arith, few_members keys rows key) ]

members-append : (keys : List ℕ) (rows : List (List Value)) (row key : List Value)
    → members keys (rows ++ row ∷ []) key ≡ members keys rows key ++ cond (same_row (columns keys row) key) (row ∷ []) []
members-append keys rows row key = filter-append (λ r. same_row (columns keys r) key) rows (row ∷ [])

no_members : (keys : List ℕ) (rows : List (List Value)) (key : List Value) → list_any (same_row key) (map (columns keys) rows) ≡ false → members keys rows key ≡ []
no_members keys [] key h = refl
no_members keys (row ∷ rows) key h =
    let parts = or_parts _ _ h in
    ap (λ b. cond b (row ∷ members keys rows key) (members keys rows key)) (row_equiv.symm (columns keys row) key ∙ parts.0)
    ∙ no_members keys rows key parts.1

module _ (spec : GroupSpec) (rows : List (List Value)) (row : List Value) where
  abbrev own : List Value
  own = columns spec.keys row

  abbrev more : List (List Value)
  more = rows ++ row ∷ []

  -- another group stays
  stays : (k : List Value) → same_row own k ≡ false → group_of spec more k ≡ group_of spec rows k
  stays k h =
      ap (λ l. (k, tallies_of spec.items l))
      (members-append spec.keys rows row k ∙ ap (λ b. members spec.keys rows k ++ cond b (row ∷ []) []) h ∙ append-nil (members spec.keys rows k))

  -- the row's own group grows
  grows : length rows < 2 ^ 63 → group_of spec more own ≡ (own, all_added row (tallies_of spec.items (members spec.keys rows own)))
  grows few =
      ap (λ l. (own, tallies_of spec.items l))
      (members-append spec.keys rows row own ∙ ap (λ b. members spec.keys rows own ++ cond b (row ∷ []) []) (row_equiv.refl own))
      ∙ ap (λ t. (own, t)) (tallies_more spec.items (members spec.keys rows own) row (omega (arith, few, few_members spec.keys rows own)))

-- ---- a group in its place

all_apart : {X : Type 0} (f g : List Value → X) (key : List Value) (ks : List (List Value)) → AllByRecursion (λ y. same_row key y ≡ false) ks
    → ((k : List Value) → same_row key k ≡ false → g k ≡ f k) → map f ks ≡ map g ks
all_apart f g key [] h same = refl
all_apart f g key (k ∷ ks) h same = λ i. sym (same k h.0) i ∷ all_apart f g key ks h.1 same i

apart_at : (x : List Value) (ks : List (List Value)) (p : ℕ) → p < length ks → AllByRecursion (λ y. same_row x y ≡ false) ks → same_row x (get_or ks p []) ≡ false
apart_at x [] p within h = absurd (omega (arith, within))
apart_at x (k ∷ ks) zero within h = h.0
apart_at x (k ∷ ks) (suc p) within h = apart_at x ks p (omega (arith, within)) h.1

set_at : {X : Type 0} (f g : List Value → X) (key : List Value) (ks : List (List Value)) (p : ℕ) → IsDistinct same_row ks → p < length ks → get_or ks p [] ≡ key
    → ((k : List Value) → same_row key k ≡ false → g k ≡ f k) → set (map f ks) p (g key) ≡ map g ks
set_at f g key [] p d within is same = absurd (omega (arith, within))
set_at f g key (k ∷ ks) zero d within is same =
    λ i. g (sym is i) ∷ all_apart f g key ks (subst (λ z. AllByRecursion (λ y. same_row z y ≡ false) ks) is (IsDistinct-head same_row k ks d)) same i
set_at f g key (k ∷ ks) (suc p) d within is same =
    let apart : same_row key k ≡ false =
    row_equiv.symm key k ∙ ap (same_row k) (sym is) ∙ apart_at k ks p (omega (arith, within)) (IsDistinct-head same_row k ks d) in
    λ i. sym (same k apart) i ∷ set_at f g key ks p (IsDistinct-tail same_row k ks d) (omega (arith, within)) is same i

keys_of-groups : (spec : GroupSpec) (rows ks : List (List Value)) → keys_of (map (group_of spec rows) ks) ≡ ks
keys_of-groups spec rows [] = refl
keys_of-groups spec rows (k ∷ ks) = ap (λ l. k ∷ l) (keys_of-groups spec rows ks)

any_at : (key : List Value) (ks : List (List Value)) (p : ℕ) → p < length ks → get_or ks p [] ≡ key → list_any (same_row key) ks ≡ true
any_at key [] p within is = absurd (omega (arith, within))
any_at key (k ∷ ks) zero within is = ap (λ b. b || list_any (same_row key) ks) (ap (same_row key) is ∙ row_equiv.refl key)
any_at key (k ∷ ks) (suc p) within is = ap (λ b. same_row key k || b) (any_at key ks p (omega (arith, within)) is) ∙ or_true (same_row key k)
  where
    or_true : (b : Bool) → (b || true) ≡ true
    or_true true = refl
    or_true false = refl

-- ---- what is charged

charge_seen : (spec : GroupSpec) (rows : List (List Value)) → groups_charge spec rows ≡ sum_by (group_charge spec.items) (keys_seen spec.keys rows)
charge_seen spec rows = sum_by-IsPermutation (group_charge spec.items) (keys_seen spec.keys rows) (group_keys spec.keys rows) (IsPermutation-sorted row_cmp (keys_seen spec.keys rows))

pub charge_old : (spec : GroupSpec) (rows : List (List Value)) (row : List Value) → list_any (same_row (columns spec.keys row)) (keys_seen spec.keys rows) ≡ true
    → groups_charge spec (rows ++ row ∷ []) ≡ groups_charge spec rows
charge_old spec rows row there =
    charge_seen spec (rows ++ row ∷ [])
    ∙ ap (sum_by (group_charge spec.items)) (keys_seen-append spec.keys rows row
    ∙ ap (λ b. cond b (keys_seen spec.keys rows) (keys_seen spec.keys rows ++ columns spec.keys row ∷ [])) there)
    ∙ sym (charge_seen spec rows)

pub charge_new : (spec : GroupSpec) (rows : List (List Value)) (row : List Value) → list_any (same_row (columns spec.keys row)) (keys_seen spec.keys rows) ≡ false
    → groups_charge spec (rows ++ row ∷ []) ≡ groups_charge spec rows + group_charge spec.items (columns spec.keys row)
charge_new spec rows row none =
    let ks = keys_seen spec.keys rows in
    let key = columns spec.keys row in
    let all : sum_by (group_charge spec.items) (keys_seen spec.keys (rows ++ row ∷ [])) ≡ sum_by (group_charge spec.items) (ks ++ key ∷ []) =
    ap (sum_by (group_charge spec.items)) (keys_seen-append spec.keys rows row ∙ ap (λ b. cond b ks (ks ++ key ∷ [])) none) in
    omega (arith, charge_seen spec (rows ++ row ∷ []), all, sum_by-append (group_charge spec.items) ks (key ∷ []), sum_by-cons (group_charge spec.items) key [], charge_seen spec rows)

-- ---- all of it

pub old_there : (spec : GroupSpec) (rows : List (List Value)) (key : List Value) (gs : List (List Value × List Tally)) (p : ℕ) → gs ≡ groups_seen spec rows
    → p < length gs → get_or (keys_of gs) p [] ≡ key → list_any (same_row key) (keys_seen spec.keys rows) ≡ true
old_there spec rows key gs p is within at =
    let keys : keys_of gs ≡ keys_seen spec.keys rows = ap keys_of is ∙ keys_of-groups spec rows (keys_seen spec.keys rows) in
    any_at key (keys_seen spec.keys rows) p (omega (arith, within, ap length keys, length-map gs (λ (g : List Value × List Tally). g.0)))
    (ap (λ l. get_or l p []) (sym keys) ∙ at)

pub new_there : (spec : GroupSpec) (rows : List (List Value)) (key : List Value) (gs : List (List Value × List Tally)) → gs ≡ groups_seen spec rows
    → list_any (same_row key) (keys_of gs) ≡ false → list_any (same_row key) (keys_seen spec.keys rows) ≡ false
new_there spec rows key gs is none =
    ap (list_any (same_row key)) (sym (ap keys_of is ∙ keys_of-groups spec rows (keys_seen spec.keys rows))) ∙ none

pub added_old : (spec : GroupSpec) (rows : List (List Value)) (row : List Value) (gs next : List (List Value × List Tally)) (p : ℕ) → length rows < 2 ^ 63
    → gs ≡ groups_seen spec rows → p < length gs → get_or (keys_of gs) p [] ≡ columns spec.keys row
    → ((none : List Value × List Tally) → next ≡ set gs p ((get_or gs p none).0, all_added row (get_or gs p none).1))
    → next ≡ groups_seen spec (rows ++ row ∷ [])
added_old spec rows row gs next p few is within at was =
    let ks = keys_seen spec.keys rows in
    let key = columns spec.keys row in
    let f = group_of spec rows in
    let none : List Value × List Tally = f [] in
    let keys : keys_of gs ≡ ks = ap keys_of is ∙ keys_of-groups spec rows ks in
    let low : p < length ks = omega (arith, within, ap length keys, length-map gs (λ (g : List Value × List Tally). g.0)) in
    let here : get_or ks p [] ≡ key = ap (λ l. get_or l p []) (sym keys) ∙ at in
    let found : get_or gs p none ≡ f key = ap (λ l. get_or l p none) is ∙ get_or-map f ks p [] none low ∙ ap f here in
    let all : keys_seen spec.keys (rows ++ row ∷ []) ≡ ks =
    keys_seen-append spec.keys rows row ∙ ap (λ b. cond b ks (ks ++ key ∷ [])) (any_at key ks p low here) in
    was none
    ∙ (λ i. set (is i) p ((found i).0, all_added row (found i).1))
    ∙ ap (set (map f ks) p) (sym (grows spec rows row few))
    ∙ set_at f (group_of spec (rows ++ row ∷ [])) key ks p (IsDistinct-distinct same_row row_equiv same_row-eq (keys_in spec.keys rows)) low here (stays spec rows row)
    ∙ ap (map (group_of spec (rows ++ row ∷ []))) (sym all)

all_by : (key : List Value) (ks : List (List Value)) → list_any (same_row key) ks ≡ false → AllByRecursion (λ y. same_row key y ≡ false) ks
all_by key [] h = tt
all_by key (k ∷ ks) h = let parts = or_parts _ _ h in (parts.0, all_by key ks parts.1)

pub added_new : (spec : GroupSpec) (rows : List (List Value)) (row : List Value) (gs next : List (List Value × List Tally)) → length rows < 2 ^ 63
    → gs ≡ groups_seen spec rows → list_any (same_row (columns spec.keys row)) (keys_of gs) ≡ false
    → next ≡ gs ++ (columns spec.keys row, all_added row (tallies_of spec.items [])) ∷ []
    → next ≡ groups_seen spec (rows ++ row ∷ [])
added_new spec rows row gs next few is none was =
    let ks = keys_seen spec.keys rows in
    let key = columns spec.keys row in
    let f = group_of spec rows in
    let g = group_of spec (rows ++ row ∷ []) in
    let new : list_any (same_row key) ks ≡ false = new_there spec rows key gs is none in
    let all : keys_seen spec.keys (rows ++ row ∷ []) ≡ ks ++ key ∷ [] = keys_seen-append spec.keys rows row ∙ ap (λ b. cond b ks (ks ++ key ∷ [])) new in
    let absent : list_any (same_row key) (map (columns spec.keys) rows) ≡ false =
    (or_parts _ _ (sym (list_any-append (same_row key) (first_keys spec.keys) (map (columns spec.keys) rows)) ∙ sym (any_seen spec.keys rows key) ∙ new)).1 in
    let own : (key, all_added row (tallies_of spec.items [])) ≡ g key =
    ap (λ l. (key, all_added row (tallies_of spec.items l))) (sym (no_members spec.keys rows key absent)) ∙ sym (grows spec rows row few) in
    was
    ∙ (λ i. is i ++ own i ∷ [])
    ∙ ap (λ l. l ++ g key ∷ []) (all_apart f g key ks (all_by key ks new) (stays spec rows row))
    ∙ sym (map-append g ks (key ∷ []))
    ∙ ap (map g) (sym all)

-- ---- the groups as a whole

pub gathered_old : (s : Gathered) (spec : GroupSpec) (room : ℕ) (rows : List (List Value)) (row : List Value) (next : List (List Value × List Tally)) (p : ℕ) → length rows < 2 ^ 63
    → s ≡ gathered spec room rows → p < length s.groups → get_or (keys_of s.groups) p [] ≡ columns s.spec.keys row
    → ((none : List Value × List Tally) → next ≡ set s.groups p ((get_or s.groups p none).0, all_added row (get_or s.groups p none).1))
    → record { spec = s.spec; room = s.room; charge = s.charge; groups = next } ≡ gathered spec room (rows ++ row ∷ [])
gathered_old s spec room rows row next p few is within at was =
    let groups : s.groups ≡ groups_seen spec rows = ap (λ (g : Gathered). g.groups) is in
    let here : get_or (keys_of s.groups) p [] ≡ columns spec.keys row = at ∙ ap (λ (g : Gathered). columns g.spec.keys row) is in
    let there = old_there spec rows (columns spec.keys row) s.groups p groups within here in
    λ i. record {
      spec = (is i).spec;
      room = (is i).room;
      charge = (ap (λ (g : Gathered). g.charge) is ∙ sym (charge_old spec rows row there)) i;
      groups = added_old spec rows row s.groups next p few groups within here was i;
    }

pub charge_stays : (s : Gathered) (spec : GroupSpec) (room : ℕ) (rows : List (List Value)) (row : List Value) (p : ℕ)
    → s ≡ gathered spec room rows → p < length s.groups → get_or (keys_of s.groups) p [] ≡ columns s.spec.keys row
    → groups_charge spec (rows ++ row ∷ []) ≡ s.charge
charge_stays s spec room rows row p is within at =
    let groups : s.groups ≡ groups_seen spec rows = ap (λ (g : Gathered). g.groups) is in
    let here : get_or (keys_of s.groups) p [] ≡ columns spec.keys row = at ∙ ap (λ (g : Gathered). columns g.spec.keys row) is in
    charge_old spec rows row (old_there spec rows (columns spec.keys row) s.groups p groups within here) ∙ sym (ap (λ (g : Gathered). g.charge) is)

pub charge_grows : (s : Gathered) (spec : GroupSpec) (rows : List (List Value)) (row : List Value)
    → s ≡ gathered spec s.room rows → list_any (same_row (columns s.spec.keys row)) (keys_of s.groups) ≡ false
    → groups_charge spec (rows ++ row ∷ []) ≡ s.charge + group_charge s.spec.items (columns s.spec.keys row)
charge_grows s spec rows row is none =
    let groups : s.groups ≡ groups_seen spec rows = ap (λ (g : Gathered). g.groups) is in
    let apart : list_any (same_row (columns spec.keys row)) (keys_of s.groups) ≡ false =
    ap (λ (g : Gathered). list_any (same_row (columns g.spec.keys row)) (keys_of s.groups)) (sym is) ∙ none in
    charge_new spec rows row (new_there spec rows (columns spec.keys row) s.groups groups apart)
    ∙ sym (λ i. (is i).charge + group_charge (is i).spec.items (columns (is i).spec.keys row))

pub gathered_new : (s next : Gathered) (spec : GroupSpec) (rows : List (List Value)) (row : List Value) → length rows < 2 ^ 63
    → s ≡ gathered spec s.room rows → list_any (same_row (columns s.spec.keys row)) (keys_of s.groups) ≡ false
    → next ≡ record s {
      charge = s.charge + group_charge s.spec.items (columns s.spec.keys row);
      groups = s.groups ++ (columns s.spec.keys row, all_added row (tallies_of s.spec.items [])) ∷ [];
    }
    → next ≡ gathered spec s.room (rows ++ row ∷ [])
gathered_new s next spec rows row few is none was =
    let groups : s.groups ≡ groups_seen spec rows = ap (λ (g : Gathered). g.groups) is in
    let apart : list_any (same_row (columns spec.keys row)) (keys_of s.groups) ≡ false =
    ap (λ (g : Gathered). list_any (same_row (columns g.spec.keys row)) (keys_of s.groups)) (sym is) ∙ none in
    let all : s.groups ++ (columns s.spec.keys row, all_added row (tallies_of s.spec.items [])) ∷ [] ≡ groups_seen spec (rows ++ row ∷ []) =
    added_new spec rows row s.groups (s.groups ++ (columns s.spec.keys row, all_added row (tallies_of s.spec.items [])) ∷ []) few groups apart
    (ap (λ (g : Gathered). s.groups ++ (columns g.spec.keys row, all_added row (tallies_of g.spec.items [])) ∷ []) is) in
    was ∙ (λ i. record {
      spec = (is i).spec;
      room = s.room;
      charge = sym (charge_grows s spec rows row is none) i;
      groups = all i;
    })

-- ---- a Vec that was written as a slice

front_of : {X : Type 0} (xs rest : List X) → take (length xs) (xs ++ rest) ≡ xs
front_of [] rest = refl
front_of (x ∷ xs) rest = ap (λ l. x ∷ l) (front_of xs rest)

pub written_back : {X : Type 0} (xs items : List X) (n : ℕ) → length xs ≡ n → take n (xs ++ drop (length xs) items) ≡ xs
written_back xs items n h = sym (ap (λ k. take k (xs ++ drop (length xs) items)) h) ∙ front_of xs (drop (length xs) items)

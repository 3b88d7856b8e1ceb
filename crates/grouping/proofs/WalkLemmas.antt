-- The walk over the groups whose keys have one hash.
use Rattle.std.proofs.Common.{◌≡◌, ℕ, zero, suc, ◌+◌, ◌≤◌, ◌<◌, Bool, true, false, true≢false, ◌||◌, List, [], ◌∷◌, length, map, fold, take, get_or, set, nat_eq, refl, sym, ap, ◌∙◌, subst, arith, ⊎_elim}
use Rattle.std.specs.List.{list_any}
use Rattle.std.proofs.lemmas.Bool.{cases_lt}
use Rattle.std.proofs.lemmas.Bool.Decides.{nat_tests}
use Rattle.std.proofs.lemmas.List.{length-take, get_or-map, get_or-take}
use Rattle.rm_base.specs.declared.value.Value.{Value}
use Rattle.rm_base.specs.Values.{same_row}
use Rattle.rm_base.specs.ValueLaws.{same_row-eq}
use Rattle.rm_rules.specs.Comparing.{column, columns}
use Rattle.tuples.specs.Hashing.{key_hash, value_hash}
use Rattle.grouping.specs.declared.tally.Tally.{Tally}
use Rattle.grouping.specs.Gathering.{hashes_of, keys_of, row_hash}
use Rattle.grouping.specs.Places.{bucket, buckets, last_place}
use Rattle.grouping.proofs.PlacesLemmas.{last_place-at, last_place-behind, last_place-within}

abbrev Group : Type 0
Group = List Value × List Tally

-- the hash of a key is that of the columns that it has
pub key_hash-columns : (columns_of : List ℕ) (row : List Value) → key_hash columns_of row ≡ row_hash (columns columns_of row)
key_hash-columns cs row = go 0 cs
  where
    go : (h : ℕ) (ks : List ℕ) → fold (λ n c. value_hash n (column row c)) h ks ≡ fold value_hash h (map (column row) ks)
    go h [] = refl
    go h (k ∷ ks) = go (value_hash h (column row k)) ks

-- the buckets of the groups' keys, of so many
abbrev buckets_of : ℕ → List Group → List ℕ
buckets_of count gs = buckets count (hashes_of gs)

get_or-buckets : (count : ℕ) (gs : List Group) (k : ℕ) → k < length gs → get_or (buckets_of count gs) k 0 ≡ bucket count (row_hash (get_or (keys_of gs) k []))
get_or-buckets count [] k within = absurd (omega (arith, within))
get_or-buckets count (g ∷ gs) zero within = refl
get_or-buckets count (g ∷ gs) (suc k) within = get_or-buckets count gs k (omega (arith, within))

itself : (n : ℕ) → nat_eq n n ≡ true
itself n = grind (arith, nat_tests)

-- a key in another bucket is another key
another : (count : ℕ) (gs : List Group) (key : List Value) (b k : ℕ) → b ≡ bucket count (row_hash key) → k < length gs → nat_eq (get_or (buckets_of count gs) k 0) b ≡ false
    → same_row key (get_or (keys_of gs) k []) ≡ false
another count gs key b k is within apart = go (same_row key (get_or (keys_of gs) k [])) refl
  where
    go : (t : Bool) → same_row key (get_or (keys_of gs) k []) ≡ t → t ≡ false
    go false h = refl
    go true h =
        let same : get_or (buckets_of count gs) k 0 ≡ b =
        get_or-buckets count gs k within ∙ ap (λ r. bucket count (row_hash r)) (sym (same_row-eq key (get_or (keys_of gs) k []) h)) ∙ sym is in
        absurd (true≢false (sym (itself b) ∙ ap (λ n. nat_eq n b) (sym same) ∙ apart))

length-buckets : (count : ℕ) (gs : List Group) → length (buckets_of count gs) ≡ length gs
length-buckets count [] = refl
length-buckets count (g ∷ gs) = ap suc (length-buckets count gs)

-- where a walk stands: at a place, counted from 1, of a bucket, with no group of the key behind
pub record Walks (count : ℕ) (gs : List Group) (key : List Value) (b place : ℕ) : Type 0 where
  pub within : place ≤ length gs
  pub at : (k : ℕ) → place ≡ suc k → get_or (buckets_of count gs) k 0 ≡ b
  pub behind : (k : ℕ) → place ≤ k → k < length gs → same_row key (get_or (keys_of gs) k []) ≡ false

pub walk_starts : (count : ℕ) (gs : List Group) (key : List Value) (b place : ℕ) → b ≡ bucket count (row_hash key) → place ≡ last_place b (buckets_of count gs) → Walks count gs key b place
walk_starts count gs key b place is at = record {
  within = omega (arith, at, last_place-within b (buckets_of count gs), length-buckets count gs);
  at = λ k h. last_place-at b k (buckets_of count gs) (sym at ∙ h);
  behind = λ k h within. another count gs key b k is within
      (last_place-behind b k (buckets_of count gs) (omega (arith, at, h)) (omega (arith, within, length-buckets count gs)));
}

walk_back : (count : ℕ) (gs : List Group) (key : List Value) (b place next : ℕ) → b ≡ bucket count (row_hash key) → place < length gs
    → Walks count gs key b (place + 1) → same_row key (get_or (keys_of gs) place []) ≡ false
    → next ≡ last_place (get_or (buckets_of count gs) place 0) (take place (buckets_of count gs)) → Walks count gs key b next
walk_back count gs key b place next is there walks other at = record {
  within = omega (arith, here, there);
  at = λ k h. sym (get_or-take place (buckets_of count gs) k 0 (omega (arith, here, h))) ∙ last_place-at b k (take place (buckets_of count gs)) (sym is_last ∙ h);
  behind = behind;
}
  where
    is_last : next ≡ last_place b (take place (buckets_of count gs))
    is_last = at ∙ ap (λ n. last_place n (take place (buckets_of count gs))) (walks.at place (omega arith))

    front : length (take place (buckets_of count gs)) ≡ place
    front = omega (arith, length-take place (buckets_of count gs), length-buckets count gs, there)

    here : next ≤ place
    here = omega (arith, is_last, last_place-within b (take place (buckets_of count gs)), front)

    before : (k : ℕ) → next ≤ k → k < place → k < length gs → same_row key (get_or (keys_of gs) k []) ≡ false
    before k h lt within =
        another count gs key b k is within
        (ap (λ n. nat_eq n b) (sym (get_or-take place (buckets_of count gs) k 0 lt))
        ∙ last_place-behind b k (take place (buckets_of count gs)) (omega (arith, is_last, h)) (omega (arith, front, lt)))

    behind : (k : ℕ) → next ≤ k → k < length gs → same_row key (get_or (keys_of gs) k []) ≡ false
    behind k h within =
        ⊎_elim (λ lt. before k h lt within)
        (λ far. ⊎_elim
        (λ more. walks.behind k (omega (arith, more)) within)
        (λ less. subst (λ j. same_row key (get_or (keys_of gs) j []) ≡ false) (same k far less) other)
        (cases_lt place k))
        (cases_lt k place)
      where
        same : (j : ℕ) → place ≤ j → j ≤ place → place ≡ j
        same j p q = omega (arith, p, q)

pub walk_goes : (count : ℕ) (gs : List Group) (key : List Value) (b start place next : ℕ) → b ≡ bucket count (row_hash key) → start ≡ place + 1
    → Walks count gs key b start → same_row key (get_or (keys_of gs) place []) ≡ false
    → next ≡ last_place (get_or (buckets_of count gs) place 0) (take place (buckets_of count gs)) → Walks count gs key b next
walk_goes count gs key b start place next is step walks other at =
    walk_back count gs key b place next is (omega (arith, step, walks.within)) (subst (Walks count gs key b) step walks) other at

-- the key of a group at a place
pub key_at : (gs : List Group) (place : ℕ) (g : Group) → place < length gs → g ≡ get_or gs place g → get_or (keys_of gs) place [] ≡ g.0
key_at gs place g within is = get_or-map (λ (x : Group). x.0) gs place g [] within ∙ ap (λ (x : Group). x.0) (sym is)

-- a group keeps its key
pub hashes-set : (gs : List Group) (place : ℕ) (none : Group) (tallies : List Tally)
    → hashes_of (set gs place ((get_or gs place none).0, tallies)) ≡ hashes_of gs
hashes-set [] place none tallies = refl
hashes-set (g ∷ gs) zero none tallies = refl
hashes-set (g ∷ gs) (suc place) none tallies = ap (λ l. row_hash g.0 ∷ l) (hashes-set gs place none tallies)

-- a walk that came to its end found no group
pub walk_ends : (gs : List Group) (key : List Value) → ((k : ℕ) → 0 ≤ k → k < length gs → same_row key (get_or (keys_of gs) k []) ≡ false)
    → list_any (same_row key) (keys_of gs) ≡ false
walk_ends [] key h = refl
walk_ends (g ∷ gs) key h =
    (λ i. h 0 (omega arith) (omega arith) i || list_any (same_row key) (keys_of gs))
    ∙ walk_ends gs key (λ k low within. h (suc k) (omega arith) (omega (arith, within)))

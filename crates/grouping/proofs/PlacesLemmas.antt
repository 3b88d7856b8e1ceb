-- The last places of numbers in a list that grows.
use Rattle.std.proofs.Common.{◌≡◌, ℕ, zero, suc, ◌+◌, ◌≤◌, ◌<◌, Bool, true, false, true≢false, cond, List, [], ◌∷◌, ◌++◌, length, take, get_or, set, nat_eq, refl, sym, ap, ◌∙◌, subst, arith, ⊎_elim}
use Rattle.std.proofs.lemmas.Bool.{cases_lt}
use Rattle.std.proofs.lemmas.Bool.Decides.{nat_tests}
use Rattle.std.proofs.lemmas.List.{length-append, length-map, length-set, map-append, get_or_append_left, get_or_default, get_or-set_other, take-append-le}
use Rattle.std.proofs.lemmas.Grind.{get_or-set_at}
use Rattle.std.proofs.Math.Seq.{get_or-append_seam}
use Rattle.grouping.specs.Places.{bucket, buckets, last_place, IsLinked}

-- one number more
pub last_place-append : (n x : ℕ) (xs : List ℕ) → last_place n (xs ++ x ∷ []) ≡ cond (nat_eq x n) (suc (length xs)) (last_place n xs)
last_place-append n x [] = refl
last_place-append n x (y ∷ xs) = go (nat_eq x n) (last_place-append n x xs)
  where
    go : (b : Bool) → last_place n (xs ++ x ∷ []) ≡ cond b (suc (length xs)) (last_place n xs)
        → (elim (last_place n (xs ++ x ∷ [])) as (λ _. ℕ) [ zero ↦ cond (nat_eq y n) 1 0 | suc j ↦ suc (suc j) ])
        ≡ cond b (suc (length (y ∷ xs))) (elim (last_place n xs) as (λ _. ℕ) [ zero ↦ cond (nat_eq y n) 1 0 | suc j ↦ suc (suc j) ])
    go true h = (λ i. elim (h i) as (λ _. ℕ) [ zero ↦ cond (nat_eq y n) 1 0 | suc j ↦ suc (suc j) ])
    go false h = (λ i. elim (h i) as (λ _. ℕ) [ zero ↦ cond (nat_eq y n) 1 0 | suc j ↦ suc (suc j) ])

take_front : {X : Type 0} (xs more : List X) → take (length xs) (xs ++ more) ≡ xs
take_front [] more = refl
take_front (x ∷ xs) more = ap (λ l. x ∷ l) (take_front xs more)

itself : (n : ℕ) → nat_eq n n ≡ true
itself n = grind (arith, nat_tests)

leads_more : (numbers last : List ℕ) (n q place : ℕ) → q < length last → n < length last → get_or last q 0 ≡ last_place q numbers → place ≡ length numbers + 1
    → get_or (set last n place) q 0 ≡ last_place q (numbers ++ n ∷ [])
leads_more numbers last n q place within there was at = go (nat_eq n q) refl (last_place-append q n numbers)
  where
    go : (b : Bool) → nat_eq n q ≡ b → last_place q (numbers ++ n ∷ []) ≡ cond b (suc (length numbers)) (last_place q numbers)
        → get_or (set last n place) q 0 ≡ last_place q (numbers ++ n ∷ [])
    go true test k =
        let same : q ≡ n = grind (arith, nat_tests, test) in
        get_or-set_at last n q place 0 same there ∙ omega (arith, at, k)
    go false test k =
        get_or-set_other last n q place 0 (λ same. true≢false (sym (itself n) ∙ ap (nat_eq n) (sym same) ∙ test)) ∙ was ∙ sym k

behind_front : (numbers before : List ℕ) (n earlier k : ℕ) → length before ≡ length numbers → k < length numbers
    → get_or before k 0 ≡ last_place (get_or numbers k 0) (take k numbers)
    → get_or (before ++ earlier ∷ []) k 0 ≡ last_place (get_or (numbers ++ n ∷ []) k 0) (take k (numbers ++ n ∷ []))
behind_front numbers before n earlier k len within is =
    get_or_append_left before (earlier ∷ []) 0 k (omega (arith, len, within)) ∙ is
    ∙ sym (λ i. last_place (get_or_append_left numbers (n ∷ []) 0 k within i) (take-append-le k numbers (n ∷ []) (omega (arith, within)) i))

behind_end : (numbers before : List ℕ) (n earlier : ℕ) → length before ≡ length numbers → earlier ≡ last_place n numbers
    → get_or (before ++ earlier ∷ []) (length numbers) 0 ≡ last_place (get_or (numbers ++ n ∷ []) (length numbers) 0) (take (length numbers) (numbers ++ n ∷ []))
behind_end numbers before n earlier len is =
    ap (λ j. get_or (before ++ earlier ∷ []) j 0) (sym len) ∙ get_or-append_seam before earlier [] 0 ∙ is
    ∙ sym (λ i. last_place (get_or-append_seam numbers n [] 0 i) (take_front numbers (n ∷ []) i))

behind_more : (numbers before : List ℕ) (n earlier k : ℕ) → length before ≡ length numbers → earlier ≡ last_place n numbers
    → k < length (numbers ++ n ∷ [])
    → (k < length numbers → get_or before k 0 ≡ last_place (get_or numbers k 0) (take k numbers))
    → get_or (before ++ earlier ∷ []) k 0 ≡ last_place (get_or (numbers ++ n ∷ []) k 0) (take k (numbers ++ n ∷ []))
behind_more numbers before n earlier k len is within was =
    ⊎_elim (λ lt. behind_front numbers before n earlier k len lt (was lt))
    (λ far. subst (λ j. get_or (before ++ earlier ∷ []) j 0 ≡ last_place (get_or (numbers ++ n ∷ []) j 0) (take j (numbers ++ n ∷ [])))
    (omega (arith, far, within, length-append numbers (n ∷ [])))
    (behind_end numbers before n earlier len is))
    (cases_lt k (length numbers))

-- a number is put behind the others
linked_more : (numbers last before : List ℕ) (n earlier place : ℕ) → IsLinked numbers last before → n < length last
    → earlier ≡ get_or last n 0 → place ≡ length numbers + 1 → IsLinked (numbers ++ n ∷ []) (set last n place) (before ++ earlier ∷ [])
linked_more numbers last before n earlier place linked there is at = record {
  len = omega (arith, length-append before (earlier ∷ []), length-append numbers (n ∷ []), linked.len);
  leads = λ q within. let low : q < length last = omega (arith, within, length-set last n place) in
      leads_more numbers last n q place low there (linked.leads q low) at;
  behind = λ k within. behind_more numbers before n earlier k linked.len (is ∙ linked.leads n there) within (linked.behind k);
}

pub placed_more : (numbers last before : List ℕ) (number b earlier place : ℕ) (numbers_then last_then before_then : List ℕ)
    → IsLinked (buckets (length last) numbers) last before → b ≡ bucket (length last) number → b < length last → earlier ≡ get_or last b earlier → place ≡ length numbers + 1
    → numbers_then ≡ numbers ++ number ∷ [] → last_then ≡ set last b place → before_then ≡ before ++ earlier ∷ []
    → IsLinked (buckets (length last_then) numbers_then) last_then before_then
placed_more numbers last before number b earlier place numbers_then last_then before_then linked is there found at more set_is behind =
    let count : length last_then ≡ length last = ap length set_is ∙ length-set last b place in
    let placed : buckets (length last_then) numbers_then ≡ buckets (length last) numbers ++ b ∷ [] =
    (λ i. buckets (count i) (more i)) ∙ map-append (bucket (length last)) numbers (number ∷ []) ∙ ap (λ n. buckets (length last) numbers ++ n ∷ []) (sym is) in
    let all = linked_more (buckets (length last) numbers) last before b earlier place linked there (found ∙ get_or_default last b earlier 0 there) (omega (arith, at, length-map numbers (bucket (length last)))) in
    subst (λ l. IsLinked l last_then before_then) (sym placed)
    (subst (λ l. IsLinked (buckets (length last) numbers ++ b ∷ []) l before_then) (sym set_is)
    (subst (IsLinked (buckets (length last) numbers ++ b ∷ []) (set last b place)) (sym behind) all))

-- ---- what a last place tells

pub last_place-within : (n : ℕ) (xs : List ℕ) → last_place n xs ≤ length xs
last_place-within n [] = omega arith
last_place-within n (x ∷ xs) = go (last_place n xs) (nat_eq x n) (last_place-within n xs)
  where
    go : (k : ℕ) (b : Bool) → k ≤ length xs → (elim k as (λ _. ℕ) [ zero ↦ cond b 1 0 | suc j ↦ suc (suc j) ]) ≤ length (x ∷ xs)
    go zero true h = omega arith
    go zero false h = omega arith
    go (suc j) b h = omega (arith, h)

-- the number stands there
pub last_place-at : (n k : ℕ) (xs : List ℕ) → last_place n xs ≡ suc k → get_or xs k 0 ≡ n
last_place-at n k [] h = absurd (omega (arith, h))
last_place-at n k (x ∷ xs) h = go (last_place n xs) (nat_eq x n) refl refl (λ j. last_place-at n j xs) k h
  where
    go : (j : ℕ) (b : Bool) → last_place n xs ≡ j → nat_eq x n ≡ b → ((j : ℕ) → last_place n xs ≡ suc j → get_or xs j 0 ≡ n) → (k : ℕ) → (elim j as (λ _. ℕ) [ zero ↦ cond b 1 0 | suc i ↦ suc (suc i) ]) ≡ suc k
        → get_or (x ∷ xs) k 0 ≡ n
    go zero true e t more zero h = grind (arith, nat_tests, t)
    go zero true e t more (suc k) h = absurd (omega (arith, h))
    go zero false e t more k h = absurd (omega (arith, h))
    go (suc i) b e t more zero h = absurd (omega (arith, h))
    go (suc i) b e t more (suc k) h = more k (omega (arith, e, h))

-- and nowhere behind
pub last_place-behind : (n k : ℕ) (xs : List ℕ) → last_place n xs ≤ k → k < length xs → nat_eq (get_or xs k 0) n ≡ false
last_place-behind n k [] h within = absurd (omega (arith, within))
last_place-behind n k (x ∷ xs) h within = go (last_place n xs) (nat_eq x n) refl refl (λ j. last_place-behind n j xs) k h within
  where
    go : (j : ℕ) (b : Bool) → last_place n xs ≡ j → nat_eq x n ≡ b
        → ((j : ℕ) → last_place n xs ≤ j → j < length xs → nat_eq (get_or xs j 0) n ≡ false) → (k : ℕ) → (elim j as (λ _. ℕ) [ zero ↦ cond b 1 0 | suc i ↦ suc (suc i) ]) ≤ k
        → k < length (x ∷ xs) → nat_eq (get_or (x ∷ xs) k 0) n ≡ false
    go zero true e t more zero h within = absurd (omega (arith, h))
    go zero false e t more zero h within = t
    go zero b e t more (suc k) h within = more k (omega (arith, e)) (omega (arith, within))
    go (suc i) b e t more zero h within = absurd (omega (arith, h))
    go (suc i) b e t more (suc k) h within = more k (omega (arith, e, h)) (omega (arith, within))

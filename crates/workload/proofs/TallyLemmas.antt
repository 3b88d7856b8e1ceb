-- What one query more adds.
use Rattle.std.proofs.Common.{◌≡◌, ℕ, zero, suc, ◌+◌, ◌-◌, ◌*◌, ◌^◌, ◌≤◌, ◌<◌, Bool, true, false, cond, List, [], ◌∷◌, ◌++◌, append-nil, map, length, take, get_or, slice_get, Option, Some, None, refl, sym, ap, ◌∙◌, subst, arith}
use Rattle.std.specs.Prelude.{ℤ, pos, ◌+ℤ◌, sum_by, nat_lt}
use Rattle.std.specs.Option.{option_copied}
use denote.Ref.{Bor}
use Rattle.std.proofs.lemmas.Bool.Decides.{nat_tests}
use Rattle.std.specs.List.{cons_option, filter_map, find, flat_map, range_with_len}
use Rattle.std.proofs.lemmas.Int.{ints}
use Rattle.std.proofs.lemmas.List.{length-append, map-append, take_more}
use Rattle.std.proofs.lemmas.List.Concat.{flat_map-append}
use Rattle.std.proofs.lemmas.List.Elements.{filter_map-append}
use Rattle.std.proofs.lemmas.List.Sums.{sum_by_push}
use Rattle.rm_base.specs.declared.value.Value.{Value}
use Rattle.rm_base.specs.declared.value.Value.TheVariants.{Null, Int, Words}
use Rattle.rm_base.specs.Values.{number_in}
use Rattle.rm_rules.specs.Comparing.{column}
use Rattle.rm_rules.specs.Grouping.{int_sum}
use Rattle.rm_rules.specs.Meaning.SelectOutcome.{Answer, SumOutOfRange, AnswerTooLarge}
use Rattle.tuples.specs.Known.{known}
use Rattle.grouping.specs.Totals.{Totaled, totaled, totaled_number}
use Rattle.query_run.specs.Running.{RunOutcome}
use Rattle.query_run.specs.Running.RunOutcome.{Meant, Spills}
use Rattle.options.specs.declared.workload.WorkloadOptions.{WorkloadOptions}
use Rattle.workload.specs.Summary.{Tallied, answer_in, answers_to, ending_at, first_column, grant_at, tallied}
use Rattle.workload.specs.Tallying.{completed, ended, granted}

-- the numbers up to one more
range_more : (a n : ℕ) → range_with_len a (n + 1) ≡ range_with_len a n ++ (a + n) ∷ []
range_more a n = (let more : n + 1 ≡ suc n = omega arith in ap (range_with_len a) more) ∙ go n a
  where
    go : (n a : ℕ) → range_with_len a (suc n) ≡ range_with_len a n ++ (a + n) ∷ []
    go zero a = let e : a ≡ a + 0 = omega arith in ap {B = List ℕ} (λ x. x ∷ []) e
    go (suc n) a =
        let e : a + 1 + n ≡ a + suc n = omega arith in
        ap {B = List ℕ} (λ l. a ∷ l) (go n (a + 1)) ∙ ap (λ x. a ∷ (range_with_len (a + 1) n ++ x ∷ [])) e

from_zero : (n : ℕ) → range_with_len 0 (n + 1) ≡ range_with_len 0 n ++ n ∷ []
from_zero n = let same : 0 + n ≡ n = omega arith in range_more 0 n ∙ ap {B = List ℕ} (λ x. range_with_len 0 n ++ x ∷ []) same

length_range : (a n : ℕ) → length (range_with_len a n) ≡ n
length_range a zero = refl
length_range a (suc n) = omega (arith, length_range (a + 1) n)

pub int_sum-append : (xs ys : List Value) → int_sum (xs ++ ys) ≡ int_sum xs +ℤ int_sum ys
int_sum-append [] ys = omega (arith, ints)
int_sum-append (x ∷ xs) ys = omega (arith, ints, int_sum-append xs ys)

first_column-append : (xs ys : List (List (List Value)))
    → int_sum (first_column (flat_map (λ rows. rows) (xs ++ ys))) ≡ int_sum (first_column (flat_map (λ rows. rows) xs)) +ℤ int_sum (first_column (flat_map (λ rows. rows) ys))
first_column-append xs ys =
    ap (λ rows. int_sum (first_column rows)) (flat_map-append (λ (rows : List (List Value)). rows) xs ys)
    ∙ ap int_sum (map-append _ (flat_map (λ rows. rows) xs) (flat_map (λ rows. rows) ys))
    ∙ int_sum-append (first_column (flat_map (λ rows. rows) xs)) (first_column (flat_map (λ rows. rows) ys))

-- what answers and grants come to
abbrev tally_of : List (List (List Value)) → ℕ → Tallied
tally_of answers grants = record {
  queries = length answers;
  rows = sum_by length answers;
  total = int_sum (first_column (flat_map (λ rows. rows) answers));
  granted = grants;
}

none_more : (answers : List (List (List Value))) (grants : ℕ) → tally_of (answers ++ []) grants ≡ tally_of answers grants
none_more answers grants = ap (λ (xs : List (List (List Value))). tally_of xs grants) (append-nil answers)

query_more : (answers : List (List (List Value))) (grants grant : ℕ) (ending : RunOutcome)
    → tally_of (answers ++ cons_option (answer_in ending) []) (grants + grant) ≡ ended (granted (tally_of answers grants) grant) ending
query_more answers grants grant (Meant (Answer rows)) =
    let count : length (answers ++ rows ∷ []) ≡ length answers + 1 = omega (arith, length-append answers (rows ∷ [])) in
    let all : sum_by length (answers ++ rows ∷ []) ≡ sum_by length answers + length rows = sum_by_push length answers rows in
    let sum : int_sum (first_column (flat_map (λ rows. rows) (answers ++ rows ∷ []))) ≡ int_sum (first_column (flat_map (λ rows. rows) answers)) +ℤ int_sum (first_column rows) =
    first_column-append answers (rows ∷ []) ∙ ap (λ (xs : List (List Value)). int_sum (first_column (flat_map (λ rows. rows) answers)) +ℤ int_sum (first_column xs)) (append-nil rows) in
    λ i. record { queries = count i; rows = all i; total = sum i; granted = grants + grant }
query_more answers grants grant (Meant (SumOutOfRange column sum)) = none_more answers (grants + grant)
query_more answers grants grant (Meant (AnswerTooLarge rows)) = none_more answers (grants + grant)
query_more answers grants grant Spills = none_more answers (grants + grant)

-- what the queries come to up to one more
pub tallied_more : (o : WorkloadOptions) (n : ℕ) → tallied o (n + 1) ≡ ended (granted (tallied o n) (grant_at o n)) (ending_at o n)
tallied_more o n =
    let answers : answers_to o (n + 1) ≡ answers_to o n ++ cons_option (answer_in (ending_at o n)) [] =
    ap (filter_map (λ i. answer_in (ending_at o i))) (from_zero n) ∙ filter_map-append (λ i. answer_in (ending_at o i)) (range_with_len 0 n) (n ∷ []) in
    let grants : sum_by (grant_at o) (range_with_len 0 (n + 1)) ≡ sum_by (grant_at o) (range_with_len 0 n) + grant_at o n =
    ap (sum_by (grant_at o)) (from_zero n) ∙ sum_by_push (grant_at o) (range_with_len 0 n) n in
    (λ i. tally_of (answers i) (grants i)) ∙ query_more (answers_to o n) (sum_by (grant_at o) (range_with_len 0 n)) (grant_at o n) (ending_at o n)

few_left : {X Y : Type 0} (h : X → Option Y) (xs : List X) → length (filter_map h xs) ≤ length xs
few_left h [] = omega arith
few_left {Y = Y} h (x ∷ xs) =
    elim (h x) as (λ o. length (cons_option o (filter_map h xs)) ≤ length (x ∷ xs)) [ None ↦ omega (arith, few_left h xs) | Some y ↦ omega (arith, few_left h xs) ]

-- no more queries are completed than there are
pub few_completed : (o : WorkloadOptions) (n : ℕ) → (tallied o n).queries ≤ n
few_completed o n = omega (arith, few_left (λ i. answer_in (ending_at o i)) (range_with_len 0 n), length_range 0 n)

-- the first number that passes a test, among so many or among more
found_first : (p : ℕ → Bool) (n a m : ℕ) → find p (range_with_len a n) ≡ None → n < m → p (a + n) ≡ true → find p (range_with_len a m) ≡ Some (a + n)
found_first p zero a zero none less here = absurd (omega (arith, less))
found_first p zero a (suc m) none less here =
    let at : a + 0 ≡ a = omega arith in
    ap (λ b. cond b (Some a) (find p (range_with_len (a + 1) m))) (sym (ap p at) ∙ here) ∙ ap Some (sym at)
found_first p (suc n) a zero none less here = absurd (omega (arith, less))
found_first p (suc n) a (suc m) none less here =
    turn (p a) none (λ h. found_first p n (a + 1) m h (omega (arith, less)) (ap p at ∙ here) ∙ ap Some at)
  where
    at : a + 1 + n ≡ a + suc n
    at = omega arith

    turn : (b : Bool) → cond b (Some a) (find p (range_with_len (a + 1) n)) ≡ None
        → (find p (range_with_len (a + 1) n) ≡ None → find p (range_with_len (a + 1) m) ≡ Some (a + suc n))
        → cond b (Some a) (find p (range_with_len (a + 1) m)) ≡ Some (a + suc n)
    turn true h next = absurd (cc)
    turn false h next = next h

none_more_found : (p : ℕ → Bool) (n a : ℕ) → find p (range_with_len a n) ≡ None → p (a + n) ≡ false → find p (range_with_len a (suc n)) ≡ None
none_more_found p zero a none here =
    let at : a + 0 ≡ a = omega arith in
    ap (λ b. cond b (Some a) None) (sym (ap p at) ∙ here)
none_more_found p (suc n) a none here = turn (p a) none (λ h. none_more_found p n (a + 1) h (ap p at ∙ here))
  where
    at : a + 1 + n ≡ a + suc n
    at = omega arith

    turn : (b : Bool) → cond b (Some a) (find p (range_with_len (a + 1) n)) ≡ None
        → (find p (range_with_len (a + 1) n) ≡ None → find p (range_with_len (a + 1) (suc n)) ≡ None)
        → cond b (Some a) (find p (range_with_len (a + 1) (suc n))) ≡ None
    turn true h next = absurd (cc)
    turn false h next = next h

-- none of the first numbers passes, nor does the next one
pub found_none : (p : ℕ → Bool) (n : ℕ) → find p (range_with_len 0 n) ≡ None → p n ≡ false → find p (range_with_len 0 (n + 1)) ≡ None
found_none p n none here =
    let more : n + 1 ≡ suc n = omega arith in
    let at : 0 + n ≡ n = omega arith in
    ap (λ k. find p (range_with_len 0 k)) more ∙ none_more_found p n 0 none (ap p at ∙ here)

-- the first that passes
pub found_at : (p : ℕ → Bool) (n m : ℕ) → find p (range_with_len 0 n) ≡ None → n < m → p n ≡ true → find p (range_with_len 0 m) ≡ Some n
found_at p n m none less here =
    let at : 0 + n ≡ n = omega arith in
    found_first p n 0 m none less (ap p at ∙ here) ∙ ap Some at

-- the first value of a row, where there may be none
pub first_known : (row : List Value) (o : Option (Bor Value)) → option_copied o ≡ slice_get row 0 → known o ≡ column row 0
first_known [] None is = refl
first_known [] (Some v) is = absurd (cc)
first_known (x ∷ xs) None is = absurd (cc)
first_known (x ∷ xs) (Some v) is = cc

-- one more value in a sum that still counts
pub total_more : (t u : Totaled) (v : Value) → u ≡ totaled v t → t.count < 2 ^ 63 → (u.sum ≡ t.sum +ℤ number_in v) × (u.count ≤ t.count + 1)
total_more t u v is few = (ap (λ (x : Totaled). x.sum) is ∙ (of v).0, omega (arith, ap (λ (x : Totaled). x.count) is, (of v).1))
  where
    below : nat_lt t.count (2 ^ 64 - 1) ≡ true
    below = grind (arith, nat_tests, few)

    number : (n : ℤ) → totaled_number n t ≡ record { count = t.count + 1; sum = t.sum +ℤ n }
    number n = ap (λ b. cond b (record { count = t.count + 1; sum = t.sum +ℤ n }) (record { count = t.count; sum = t.sum })) below

    of : (v : Value) → ((totaled v t).sum ≡ t.sum +ℤ number_in v) × ((totaled v t).count ≤ t.count + 1)
    of Null = (omega (arith, ints), omega arith)
    of (Int n) = (ap (λ (x : Totaled). x.sum) (number n), omega (arith, ap (λ (x : Totaled). x.count) (number n)))
    of (Words w) = (ap (λ (x : Totaled). x.sum) (number (pos 0)), omega (arith, ap (λ (x : Totaled). x.count) (number (pos 0))))

-- the sum of a column with one row more
pub column_more : (rows : List (List Value)) (i : ℕ) (row d : List Value) → i < length rows → row ≡ get_or rows i d
    → int_sum (first_column (take (i + 1) rows)) ≡ int_sum (first_column (take i rows)) +ℤ number_in (column row 0)
column_more rows i row d within is =
    ap (λ (xs : List (List Value)). int_sum (first_column xs)) (take_more rows i d within ∙ ap (λ x. take i rows ++ x ∷ []) (sym is))
    ∙ ap int_sum (map-append _ (take i rows) (row ∷ []))
    ∙ int_sum-append (first_column (take i rows)) (column row 0 ∷ [])
    ∙ ap (λ z. int_sum (first_column (take i rows)) +ℤ z) (one (number_in (column row 0)))
  where
    one : (z : ℤ) → z +ℤ pos 0 ≡ z
    one z = omega (arith, ints)

-- rows that come behind the first LIMIT may be let go early
use Rattle.std.proofs.Common.{◌≡◌, ℕ, zero, suc, Bool, true, false, true≢false, cond, Some, Option, List, [], ◌∷◌, ◌++◌, ◌-◌, ◌<◌, append_assoc, length, get_or, take, drop, take-take, refl, sym, ap, ◌∙◌, subst, arith, Ordering, Less, Equal, Greater, is_gt, is_lt, IsPermutation, IsSorted, ◌≤◌, ◌+◌}
use Rattle.std.specs.Cmp.{IsTotalOrder}
use Rattle.std.specs.Ordering.{ordering_reverse}
use Rattle.std.proofs.lemmas.List.{length-append, length-take, take-append-le}
use Rattle.std.proofs.lemmas.List.Sorted.{IsPermutation-append_comm, IsPermutation-append_left, IsPermutation-append_right, IsPermutation-sym, IsPermutation-trans, length_permutation}
use Rattle.rm_base.specs.declared.select.OrderSpec.{OrderSpec}
use Rattle.rm_base.specs.declared.value.Value.{Value}
use Rattle.rm_rules.specs.Ordering.{in_order, limited, order_cmp}
use Rattle.rm_rules.specs.Sorting.{put, sorted}
use Rattle.grouping.specs.Batching.{most_of}
use Rattle.rm_rules.proofs.OrderLaws.{order_total, order_exact}
use Rattle.rm_rules.proofs.SortLaws.{sorted_along, sorted_stays, IsPermutation-sorted}

module _ {X : Type 0} (cmp : X → X → Ordering) where
  take_put : (n : ℕ) (x : X) (s : List X) → take n (put cmp x s) ≡ take n (put cmp x (take n s))
  take_put zero x s = refl
  take_put (suc n) x [] = refl
  take_put (suc n) x (y ∷ s) = go (is_gt (cmp x y)) (take_put n x s)
    where
      again : (m : ℕ) → take m (y ∷ s) ≡ take m (y ∷ take m s)
      again zero = refl
      again (suc m) = ap (λ l. y ∷ l) (sym (take-take m (suc m) s (omega arith)))

      go : (b : Bool) → take n (put cmp x s) ≡ take n (put cmp x (take n s))
          → take (suc n) (cond b (y ∷ put cmp x s) (x ∷ y ∷ s)) ≡ take (suc n) (cond b (y ∷ put cmp x (take n s)) (x ∷ y ∷ take n s))
      go true rest = ap (λ l. y ∷ l) rest
      go false rest = ap (λ l. x ∷ l) (again n)

  -- the first of lists whose last part has the same first
  take_sorted : (n : ℕ) (xs ys zs : List X) → take n (sorted cmp xs) ≡ take n (sorted cmp ys)
      → take n (sorted cmp (zs ++ xs)) ≡ take n (sorted cmp (zs ++ ys))
  take_sorted n xs ys [] h = h
  take_sorted n xs ys (z ∷ zs) h =
      take_put n z (sorted cmp (zs ++ xs)) ∙ ap (λ l. take n (put cmp z l)) (take_sorted n xs ys zs h) ∙ sym (take_put n z (sorted cmp (zs ++ ys)))

module _ {X : Type 0} (cmp : X → X → Ordering) (total : IsTotalOrder cmp) (exact : (x y : X) → cmp x y ≡ Equal → x ≡ y) where
  not_itself : (x : X) → is_gt (cmp x x) ≡ false
  not_itself x = go (cmp x x) (total.antisymm x x)
    where
      go : (r : Ordering) → r ≡ ordering_reverse r → is_gt r ≡ false
      go Less h = cc
      go Equal h = refl
      go Greater h = cc

  abbrev head_or : X → List X → X
  head_or d [] = d
  head_or d (x ∷ xs) = x

  -- an element put before a list stands at its front only where it is not above the list's first
  put_front : (x : X) (t s : List X) → put cmp x t ≡ x ∷ s → t ≡ s
  put_front x [] s h = ap (drop 1) h
  put_front x (y ∷ t) s h = go (is_gt (cmp x y)) refl h
    where
      go : (b : Bool) → is_gt (cmp x y) ≡ b → cond b (y ∷ put cmp x t) (x ∷ y ∷ t) ≡ x ∷ s → y ∷ t ≡ s
      go false test h = ap (drop 1) h
      go true test h =
          let same : y ≡ x = ap (head_or x) h in
          absurd (true≢false (sym test ∙ ap (λ z. is_gt (cmp x z)) same ∙ not_itself x))

  put_below : (x y : X) (s : List X) → put cmp x (y ∷ s) ≡ x ∷ y ∷ s → is_gt (cmp x y) ≡ false
  put_below x y s h = go (is_gt (cmp x y)) refl h
    where
      go : (b : Bool) → is_gt (cmp x y) ≡ b → cond b (y ∷ put cmp x s) (x ∷ y ∷ s) ≡ x ∷ y ∷ s → is_gt (cmp x y) ≡ false
      go false test h = test
      go true test h =
          let same : y ≡ x = ap (head_or x) h in
          ap (λ z. is_gt (cmp x z)) same ∙ not_itself x

  -- what is in order stays in order behind its first
  tail_stays : (x : X) (s : List X) → sorted cmp (x ∷ s) ≡ x ∷ s → sorted cmp s ≡ s
  tail_stays x s h = put_front x (sorted cmp s) s h

  first_below : (x y : X) (s : List X) → sorted cmp (x ∷ y ∷ s) ≡ x ∷ y ∷ s → is_gt (cmp x y) ≡ false
  first_below x y s h = put_below x y s (ap (put cmp x) (sym (tail_stays x (y ∷ s) h)) ∙ h)

  take_stays : (n : ℕ) (s : List X) → sorted cmp s ≡ s → sorted cmp (take n s) ≡ take n s
  take_stays zero s h = refl
  take_stays (suc n) [] h = refl
  take_stays (suc n) (x ∷ s) h = ap (put cmp x) (take_stays n s (tail_stays x s h)) ∙ first n s h
    where
      first : (m : ℕ) (t : List X) → sorted cmp (x ∷ t) ≡ x ∷ t → put cmp x (take m t) ≡ x ∷ take m t
      first zero t h = refl
      first (suc m) [] h = refl
      first (suc m) (y ∷ t) h = rw (first_below x y t h) refl

  first_stays : (n : ℕ) (xs : List X) → take n (sorted cmp (take n (sorted cmp xs))) ≡ take n (sorted cmp xs)
  first_stays n xs =
      let whole : sorted cmp (sorted cmp xs) ≡ sorted cmp xs =
      sorted_along cmp total exact (sorted cmp xs) xs (IsPermutation-sym xs (sorted cmp xs) (IsPermutation-sorted cmp xs)) in
      ap (take n) (take_stays n (sorted cmp xs) whole) ∙ take-take n n (sorted cmp xs) (omega arith)

  -- of rows that come first, and more, the first are those of all
  first_of_first : (n : ℕ) (xs ys : List X) → take n (sorted cmp (take n (sorted cmp xs) ++ ys)) ≡ take n (sorted cmp (xs ++ ys))
  first_of_first n xs ys =
      ap (take n) (sorted_along cmp total exact (take n (sorted cmp xs) ++ ys) (ys ++ take n (sorted cmp xs)) (IsPermutation-append_comm (take n (sorted cmp xs)) ys))
      ∙ take_sorted cmp n (take n (sorted cmp xs)) xs ys (first_stays n xs)
      ∙ ap (take n) (sorted_along cmp total exact (ys ++ xs) (xs ++ ys) (IsPermutation-append_comm ys xs))

pub pruned : (order : OrderSpec) (n : ℕ) (xs ys : List (List Value)) → order.limit ≡ Some n
    → in_order order (in_order order xs ++ ys) ≡ in_order order (xs ++ ys)
pruned order n xs ys limit =
    subst (λ (o : Option ℕ). limited o (sorted (order_cmp order.keys) (limited o (sorted (order_cmp order.keys) xs) ++ ys)) ≡ limited o (sorted (order_cmp order.keys) (xs ++ ys)))
    (sym limit)
    (first_of_first (order_cmp order.keys) (order_total order.keys) (order_exact order.keys) n xs ys)

module _ {X : Type 0} (cmp : X → X → Ordering) (total : IsTotalOrder cmp) (exact : (x y : X) → cmp x y ≡ Equal → x ≡ y) where
  -- an element that is not before the last of a list in order may stand behind it
  end_stays : (xs : List X) (r d : X) (k : ℕ) → sorted cmp xs ≡ xs → length xs ≡ suc k → is_gt (cmp (get_or xs k d) r) ≡ false
      → sorted cmp (xs ++ r ∷ []) ≡ xs ++ r ∷ []
  end_stays [] r d k s len h = absurd (omega (arith, len))
  end_stays (x ∷ []) r d zero s len h = ap (λ b. cond b (r ∷ x ∷ []) (x ∷ r ∷ [])) h
  end_stays (x ∷ []) r d (suc k) s len h = absurd (omega (arith, len))
  end_stays (x ∷ y ∷ xs) r d zero s len h = absurd (omega (arith, len))
  end_stays (x ∷ y ∷ xs) r d (suc k) s len h =
      ap (put cmp x) (end_stays (y ∷ xs) r d k (tail_stays cmp total exact x (y ∷ xs) s) (omega (arith, len)) h)
      ∙ ap (λ b. cond b (y ∷ put cmp x (xs ++ r ∷ [])) (x ∷ y ∷ xs ++ r ∷ [])) (first_below cmp total exact x y xs s)

  row_last : (first rest more : List X) (r : X) → IsPermutation ((first ++ rest) ++ r ∷ more) ((rest ++ more) ++ (first ++ r ∷ []))
  row_last first rest more r =
      IsPermutation-trans _ (first ++ (r ∷ (rest ++ more))) _
      (subst (λ l. IsPermutation l (first ++ (r ∷ (rest ++ more)))) (sym (append_assoc first rest (r ∷ more)))
      (IsPermutation-append_right first _ _
      (subst (λ l. IsPermutation l (r ∷ (rest ++ more))) (append_assoc rest (r ∷ []) more)
      (IsPermutation-append_left more (rest ++ r ∷ []) (r ∷ rest) (IsPermutation-append_comm rest (r ∷ []))))))
      (subst (λ l. IsPermutation l ((rest ++ more) ++ (first ++ r ∷ []))) (append_assoc first (r ∷ []) (rest ++ more))
      (IsPermutation-append_comm (first ++ r ∷ []) (rest ++ more)))

  row_out : (first rest more : List X) → IsPermutation ((rest ++ more) ++ first) ((first ++ rest) ++ more)
  row_out first rest more =
      subst (IsPermutation ((rest ++ more) ++ first)) (sym (append_assoc first rest more)) (IsPermutation-append_comm (rest ++ more) first)

  drop_behind : (n : ℕ) (first rest more : List X) (r : X) → length first ≡ n → sorted cmp first ≡ first
      → sorted cmp (first ++ r ∷ []) ≡ first ++ r ∷ []
      → take n (sorted cmp ((first ++ rest) ++ r ∷ more)) ≡ take n (sorted cmp ((first ++ rest) ++ more))
  drop_behind n first rest more r len s h =
      let front : take n (sorted cmp (first ++ r ∷ [])) ≡ take n (sorted cmp first) =
      ap (take n) h ∙ take-append-le n first (r ∷ []) (omega (arith, len)) ∙ ap (take n) (sym s) in
      ap (take n) (sorted_along cmp total exact _ _ (row_last first rest more r))
      ∙ take_sorted cmp n (first ++ r ∷ []) first (rest ++ more) front
      ∙ ap (take n) (sorted_along cmp total exact _ _ (row_out first rest more))

turned : (r s : Ordering) → r ≡ ordering_reverse s → is_lt s ≡ false → is_gt r ≡ false
turned r Less e h = absurd (true≢false h)
turned r Equal e h = ap is_gt e
turned r Greater e h = ap is_gt e

abbrev Rows : Type 0
Rows = List (List Value)

-- a row that is not before the last of the first rows adds nothing to them
pub behind : (order : OrderSpec) (n : ℕ) (first rest : Rows) (row d : List Value) (more : Rows) → order.limit ≡ Some n → length first ≡ n
    → IsSorted (order_cmp order.keys) first
    → (0 < n → is_lt (order_cmp order.keys row (get_or first (n - 1) d)) ≡ false)
    → in_order order ((first ++ rest) ++ row ∷ more) ≡ in_order order ((first ++ rest) ++ more)
behind order zero first rest row d more limit len up past =
    ap (λ (o : Option ℕ). limited o (sorted (order_cmp order.keys) ((first ++ rest) ++ row ∷ more))) limit
    ∙ sym (ap (λ (o : Option ℕ). limited o (sorted (order_cmp order.keys) ((first ++ rest) ++ more))) limit)
behind order (suc n) first rest row d more limit len up past =
    let cmp = order_cmp order.keys in
    let stays : sorted cmp first ≡ first = sorted_stays cmp (order_total order.keys) (order_exact order.keys) first up in
    let last : is_gt (cmp (get_or first n d) row) ≡ false =
    turned (cmp (get_or first n d) row) (cmp row (get_or first n d)) ((order_total order.keys).antisymm (get_or first n d) row)
    (ap (λ k. is_lt (cmp row (get_or first k d))) (one_less n) ∙ past (omega arith)) in
    ap (λ (o : Option ℕ). limited o (sorted cmp ((first ++ rest) ++ row ∷ more))) limit
    ∙ drop_behind cmp (order_total order.keys) (order_exact order.keys) (suc n) first rest more row len stays
    (end_stays cmp (order_total order.keys) (order_exact order.keys) first row d n stays (omega (arith, len)) last)
    ∙ sym (ap (λ (o : Option ℕ). limited o (sorted cmp ((first ++ rest) ++ more))) limit)
  where
    one_less : (m : ℕ) → m ≡ suc m - 1
    one_less m = omega arith

turned_lt : (r s : Ordering) → r ≡ ordering_reverse s → is_gt r ≡ false → is_lt s ≡ false
turned_lt r Less e h = absurd (true≢false (sym (ap is_gt e) ∙ h))
turned_lt r Equal e h = refl
turned_lt r Greater e h = refl

module _ {X : Type 0} (cmp : X → X → Ordering) (total : IsTotalOrder cmp) (exact : (x y : X) → cmp x y ≡ Equal → x ≡ y) where
  up_at : (xs : List X) → sorted cmp xs ≡ xs → (k : ℕ) (d : X) → suc k < length xs → is_lt (cmp (get_or xs (suc k) d) (get_or xs k d)) ≡ false
  up_at [] s k d within = absurd (omega (arith, within))
  up_at (x ∷ []) s k d within = absurd (omega (arith, within))
  up_at (x ∷ y ∷ xs) s zero d within = turned_lt (cmp x y) (cmp y x) (total.antisymm x y) (first_below cmp total exact x y xs s)
  up_at (x ∷ y ∷ xs) s (suc k) d within = up_at (y ∷ xs) (tail_stays cmp total exact x (y ∷ xs) s) k d (omega (arith, within))

  up : (xs : List X) → sorted cmp xs ≡ xs → IsSorted cmp xs
  up xs s k d low within =
      subst (λ j. is_lt (cmp (get_or xs j d) (get_or xs k d)) ≡ false) (step k) (up_at xs s k d (omega (arith, within)))
    where
      step : (j : ℕ) → suc j ≡ j + 1
      step j = omega arith

  first_up : (n : ℕ) (xs : List X) → IsSorted cmp (take n (sorted cmp xs))
  first_up n xs =
      up (take n (sorted cmp xs)) (take_stays cmp total exact n (sorted cmp xs)
      (sorted_along cmp total exact (sorted cmp xs) xs (IsPermutation-sym xs (sorted cmp xs) (IsPermutation-sorted cmp xs))))

pub front_up : (order : OrderSpec) (rows next : Rows) (n : ℕ) → next ≡ in_order order rows → order.limit ≡ Some n
    → IsSorted (order_cmp order.keys) (take (most_of order.limit) next)
front_up order rows next n is limit =
    let cmp = order_cmp order.keys in
    let e : take (most_of order.limit) next ≡ take n (sorted cmp rows) =
    ap (λ (o : Option ℕ). take (most_of o) next) limit
    ∙ ap (take n) (is ∙ ap (λ (o : Option ℕ). limited o (sorted cmp rows)) limit)
    ∙ take-take n n (sorted cmp rows) (omega arith) in
    subst (IsSorted cmp) (sym e) (first_up cmp (order_total order.keys) (order_exact order.keys) n rows)

pub front_most : (order : OrderSpec) (rows next : Rows) (n : ℕ) → next ≡ in_order order rows → order.limit ≡ Some n → n ≤ length rows
    → most_of order.limit ≤ length next
front_most order rows next n is limit many =
    let cmp = order_cmp order.keys in
    omega (
      arith,
      ap most_of limit,
      many,
      ap length (is ∙ ap (λ (o : Option ℕ). limited o (sorted cmp rows)) limit),
      length-take n (sorted cmp rows),
      length_permutation rows (sorted cmp rows) (IsPermutation-sorted cmp rows),
    )

pub firm_more : (order : OrderSpec) (kept next : Rows) (row : List Value) → next ≡ kept ++ row ∷ [] → most_of order.limit ≤ length kept
    → IsSorted (order_cmp order.keys) (take (most_of order.limit) kept) → IsSorted (order_cmp order.keys) (take (most_of order.limit) next)
firm_more order kept next row is most ordered =
    subst (IsSorted (order_cmp order.keys)) (sym (ap (take (most_of order.limit)) is ∙ take-append-le (most_of order.limit) kept (row ∷ []) most)) ordered

pub most_more : (order : OrderSpec) (kept next : Rows) (row : List Value) → next ≡ kept ++ row ∷ [] → most_of order.limit ≤ length kept → most_of order.limit ≤ length next
most_more order kept next row is most = omega (arith, most, ap length is, length-append kept (row ∷ []))

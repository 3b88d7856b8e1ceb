-- The first entitled head, from the candidates among the first of each list.
use Rattle.std.proofs.Common.{◌≡◌, ◌<◌, ℕ, zero, suc, Bool, true, false, ◌&&◌, ◌||◌, not, nat_eq, cond, Option, Some, None, List, [], ◌∷◌, ◌++◌, length, get_or, filter, find, refl, ap, sym, ◌∙◌, arith}
use Rattle.std.specs.Prelude.{ℤ, option_map}
use Rattle.std.specs.Int.Signed.{lt_z}
use Rattle.std.specs.List.{list_any, list_all}
use Rattle.std.proofs.lemmas.Int.{ints}
use Rattle.std.proofs.lemmas.List.Folds.{list_any-append, list_all-map}
use Rattle.rm_base.specs.declared.definitions.Definitions.{Definitions}
use Rattle.rm_base.specs.declared.name.Name.{Name}
use Rattle.rm_base.specs.Name.{same_name}
use Rattle.rm_base.proofs.Names.{same_name-eq, same_name-sym}
use Rattle.rm_rules.specs.declared.state.Waiter.{Waiter}
use Rattle.rm_rules.specs.declared.state.Judged.{Judged}
use Rattle.rm_rules.specs.Holdings.{Holdings}
use Rattle.rm_rules.specs.Admission.{heads_behind, in_queue_order, first_among, judged_for, priority_of}
use Rattle.rm_rules.proofs.Taken.{and_left, and_right, and_both}
use Rattle.pool_queue.specs.declared.lines.Arrived.{Arrived}
use Rattle.pool_queue.specs.declared.lines.Line.{Line}
use Rattle.pool_queue.specs.declared.heads.Head.{Head}
use Rattle.pool_queue.specs.Heads.{head_of, needs_none, stands_before, first_of, if_passes, entitled, best_of, candidates_of, with_first, heads_of}
use Rattle.pool_queue.specs.Lines.{merged, queries, is_of, is_elsewhere, AreAbove, IsRising, IsSplit, IsOrdered}
use Rattle.pool_queue.specs.Queue.{query_of}
use Rattle.pool_queue.proofs.Order.{earlier, find-ordered}
use Rattle.pool_queue.proofs.Order as order
use Rattle.pool_queue.proofs.Merging.{above-filter, rising-filter}
use Rattle.pool_queue.proofs.Best.{first_of-first_of, first_of-none}

-- the first entitled head, by the first that its pool lets in and the first that needs none of GENERAL'd k bytes
abbrev lets_in : Definitions → Holdings → Waiter → Bool
lets_in d k w = (judged_for d k w).poolfit

abbrev serves_itself : Definitions → Holdings → Waiter → Bool
serves_itself d k w = needs_none (judged_for d k w)

abbrev chosen : Definitions → Holdings → Option Waiter → Option Waiter → Option Waiter
chosen d k None second = second
chosen d k (Some w) second = cond ((judged_for d k w).fits) (Some w) second

blocked-turn : (fits none : Bool) → (fits && (none || false)) ≡ (fits && none)
blocked-turn true true = refl
blocked-turn true false = refl
blocked-turn false none = refl

behind_blocked : (d : Definitions) (k : Holdings) (hs : List Waiter) → first_among d k true hs ≡ find (serves_itself d k) hs
behind_blocked d k [] = refl
behind_blocked d k (h ∷ hs) =
    let j = judged_for d k h in
    (λ i. cond (blocked-turn j.fits (nat_eq j.need 0) i) (Some h) (behind_blocked d k hs i))

among-turn : (d : Definitions) (k : Holdings) (h : Waiter) (hs : List Waiter) (lets none : Bool) (fits : Bool) → (judged_for d k h).fits ≡ fits → (fits ≡ true → lets ≡ true)
    → first_among d k false hs ≡ chosen d k (find (lets_in d k) hs) (find (serves_itself d k) hs)
    → cond (fits && (none || true)) (Some h) (first_among d k (false || (lets && not fits)) hs)
    ≡ chosen d k (cond lets (Some h) (find (lets_in d k) hs)) (cond (fits && none) (Some h) (find (serves_itself d k) hs))
among-turn d k h hs true true true fits let_in rest = sym (ap (λ c. cond c (Some h) (Some h)) fits)
among-turn d k h hs true false true fits let_in rest = sym (ap (λ c. cond c (Some h) (find (serves_itself d k) hs)) fits)
among-turn d k h hs true none false fits let_in rest = behind_blocked d k hs ∙ sym (ap (λ c. cond c (Some h) (find (serves_itself d k) hs)) fits)
among-turn d k h hs false none true fits let_in rest = let e : false ≡ true = let_in refl in absurd (cc)
among-turn d k h hs false none false fits let_in rest = rest

first_among-chosen : (d : Definitions) (k : Holdings) (hs : List Waiter) → first_among d k false hs ≡ chosen d k (find (lets_in d k) hs) (find (serves_itself d k) hs)
first_among-chosen d k [] = refl
first_among-chosen d k (h ∷ hs) =
    let j = judged_for d k h in
    among-turn d k h hs j.poolfit (nat_eq j.need 0) j.fits refl (and_left j.poolfit _) (first_among-chosen d k hs)

-- the heads of a queue of arrivals: the first of each pool
abbrev is_behind : List Waiter → Name → Bool
is_behind before pool = list_any (λ b. same_name b.pool pool) before

abbrev heads_in : List Waiter → List Arrived → List Arrived
heads_in before [] = []
heads_in before (a ∷ rest) = cond (is_behind before a.waiter.pool) (heads_in (before ++ a.waiter ∷ []) rest) (a ∷ heads_in (before ++ a.waiter ∷ []) rest)

queries-turn : (a : Arrived) (here : List Arrived) (there : List Waiter) (b : Bool) → queries here ≡ there → queries (cond b here (a ∷ here)) ≡ cond b there (a.waiter ∷ there)
queries-turn a here there true rest = rest
queries-turn a here there false rest = ap (λ (l : List Waiter). a.waiter ∷ l) rest

queries-heads : (before : List Waiter) (xs : List Arrived) → queries (heads_in before xs) ≡ heads_behind before (queries xs)
queries-heads before [] = refl
queries-heads before (a ∷ xs) =
    queries-turn a (heads_in (before ++ a.waiter ∷ []) xs) (heads_behind (before ++ a.waiter ∷ []) (queries xs)) (is_behind before a.waiter.pool) (queries-heads (before ++ a.waiter ∷ []) xs)

above-heads-turn : (n : ℤ) (a : Arrived) (rest : List Arrived) (b : Bool) → lt_z n a.number ≡ true → AreAbove n rest → AreAbove n (cond b rest (a ∷ rest))
above-heads-turn n a rest true first above = above
above-heads-turn n a rest false first above = (first, above)

above-heads : (n : ℤ) (before : List Waiter) (xs : List Arrived) → AreAbove n xs → AreAbove n (heads_in before xs)
above-heads n before [] above = tt
above-heads n before (a ∷ xs) above =
    above-heads-turn n a (heads_in (before ++ a.waiter ∷ []) xs) (is_behind before a.waiter.pool) above.0 (above-heads n (before ++ a.waiter ∷ []) xs above.1)

rising-heads-turn : (a : Arrived) (rest : List Arrived) (b : Bool) → AreAbove a.number rest → IsRising rest → IsRising (cond b rest (a ∷ rest))
rising-heads-turn a rest true above rises = rises
rising-heads-turn a rest false above rises = (above, rises)

rising-heads : (before : List Waiter) (xs : List Arrived) → IsRising xs → IsRising (heads_in before xs)
rising-heads before [] rises = tt
rising-heads before (a ∷ xs) rises =
    rising-heads-turn a (heads_in (before ++ a.waiter ∷ []) xs) (is_behind before a.waiter.pool)
    (above-heads a.number (before ++ a.waiter ∷ []) xs rises.0) (rising-heads (before ++ a.waiter ∷ []) xs rises.1)

-- pools but one were seen among some as among others
abbrev Agree : Name → List Waiter → List Waiter → Type 0
Agree pool before other = (q : Name) → same_name q pool ≡ false → is_behind before q ≡ is_behind other q

or-false : (b : Bool) → (b || false) ≡ b
or-false true = refl
or-false false = refl

or-true : (b : Bool) → (b || true) ≡ true
or-true true = refl
or-true false = refl

behind-more : (before : List Waiter) (w : Waiter) (q : Name) → is_behind (before ++ w ∷ []) q ≡ (is_behind before q || same_name w.pool q)
behind-more before w q =
    list_any-append (λ b. same_name b.pool q) before (w ∷ []) ∙ ap (λ (b : Bool). is_behind before q || b) (or-false (same_name w.pool q))

agree-here : (pool : Name) (before other : List Waiter) (w : Waiter) → same_name w.pool pool ≡ true → Agree pool before other → Agree pool (before ++ w ∷ []) other
agree-here pool before other w here agree q apart =
    let name : w.pool ≡ pool = same_name-eq w.pool pool here in
    let other_name : same_name w.pool q ≡ false = ap (λ (n : Name). same_name n q) name ∙ same_name-sym pool q ∙ apart in
    behind-more before w q ∙ ap (λ (b : Bool). is_behind before q || b) other_name ∙ or-false (is_behind before q) ∙ agree q apart

agree-there : (pool : Name) (before other : List Waiter) (w : Waiter) → Agree pool before other → Agree pool (before ++ w ∷ []) (other ++ w ∷ [])
agree-there pool before other w agree q apart =
    behind-more before w q ∙ ap (λ (b : Bool). b || same_name w.pool q) (agree q apart) ∙ sym (behind-more other w q)

seen-more : (pool : Name) (before : List Waiter) (w : Waiter) → is_behind before pool ≡ true → is_behind (before ++ w ∷ []) pool ≡ true
seen-more pool before w seen = behind-more before w pool ∙ ap (λ (b : Bool). b || same_name w.pool pool) seen

seen-here : (pool : Name) (before : List Waiter) (w : Waiter) → same_name w.pool pool ≡ true → is_behind (before ++ w ∷ []) pool ≡ true
seen-here pool before w here = behind-more before w pool ∙ ap (λ (b : Bool). is_behind before pool || b) here ∙ or-true (is_behind before pool)

unseen-there : (pool : Name) (before : List Waiter) (w : Waiter) → same_name w.pool pool ≡ false → is_behind before pool ≡ false → is_behind (before ++ w ∷ []) pool ≡ false
unseen-there pool before w apart unseen = behind-more before w pool ∙ (λ i. unseen i || apart i)

-- behind the first of a pool none of it is a head
seen-turn : (pool : Name) (before other : List Waiter) (a : Arrived) (xs : List Arrived) (b : Bool) → same_name a.waiter.pool pool ≡ b → is_behind before pool ≡ true → Agree pool before other
    → (b ≡ true → heads_in (before ++ a.waiter ∷ []) xs ≡ heads_in other (filter (is_elsewhere pool) xs))
    → (b ≡ false → heads_in (before ++ a.waiter ∷ []) xs ≡ heads_in (other ++ a.waiter ∷ []) (filter (is_elsewhere pool) xs))
    → heads_in before (a ∷ xs) ≡ heads_in other (cond (not b) (a ∷ filter (is_elsewhere pool) xs) (filter (is_elsewhere pool) xs))
seen-turn pool before other a xs true here seen agree same there =
    ap (λ (n : Name). cond (is_behind before n) (heads_in (before ++ a.waiter ∷ []) xs) (a ∷ heads_in (before ++ a.waiter ∷ []) xs)) (same_name-eq a.waiter.pool pool here)
    ∙ ap (λ (b : Bool). cond b (heads_in (before ++ a.waiter ∷ []) xs) (a ∷ heads_in (before ++ a.waiter ∷ []) xs)) seen
    ∙ same refl
seen-turn pool before other a xs false apart seen agree same there =
    let e = agree a.waiter.pool apart in
    let rest = there refl in
    λ i. cond (e i) (rest i) (a ∷ rest i)

seen-pool : (pool : Name) (before other : List Waiter) (xs : List Arrived) → is_behind before pool ≡ true → Agree pool before other
    → heads_in before xs ≡ heads_in other (filter (is_elsewhere pool) xs)
seen-pool pool before other [] seen agree = refl
seen-pool pool before other (a ∷ xs) seen agree =
    seen-turn pool before other a xs (same_name a.waiter.pool pool) refl seen agree
    (λ here. seen-pool pool (before ++ a.waiter ∷ []) other xs (seen-more pool before a.waiter seen) (agree-here pool before other a.waiter here agree))
    (λ apart. seen-pool pool (before ++ a.waiter ∷ []) (other ++ a.waiter ∷ []) xs (seen-more pool before a.waiter seen) (agree-there pool before other a.waiter agree))

-- two heads, in either order
either-turn : (p q m n : ℤ) (a : Bool) → lt_z m n ≡ true → (lt_z q p || (not (lt_z p q) && lt_z m n)) ≡ a → (lt_z p q || (not (lt_z q p) && lt_z n m)) ≡ not a
either-turn p q m n true below first = grind (arith, ints)
either-turn p q m n false below first = grind (arith, ints)

swap-turn : (x y : Head) (a : Bool) → stands_before y x ≡ a → stands_before x y ≡ not a → first_of (Some x) (Some y) ≡ first_of (Some y) (Some x)
swap-turn x y true first second = ap (λ c. cond c (Some y) (Some x)) first ∙ sym (ap (λ c. cond c (Some x) (Some y)) second)
swap-turn x y false first second = ap (λ c. cond c (Some y) (Some x)) first ∙ sym (ap (λ c. cond c (Some x) (Some y)) second)

other-way : (x y : Head) → lt_z x.number y.number ≡ true → stands_before y x ≡ not (stands_before x y)
other-way x y below = either-turn x.priority y.priority x.number y.number (stands_before x y) below refl

not-not : (b : Bool) → not (not b) ≡ b
not-not true = refl
not-not false = refl

swapped : (x y : Head) → lt_z x.number y.number ≡ true → first_of (Some x) (Some y) ≡ first_of (Some y) (Some x)
swapped x y below =
    swap-turn x y (stands_before y x) refl (sym (not-not (stands_before x y)) ∙ ap (λ (b : Bool). not b) (sym (other-way x y below)))

passes-swapped : (x y : Head) (a b : Bool) → lt_z x.number y.number ≡ true
    → first_of (cond a (Some x) None) (cond b (Some y) None) ≡ first_of (cond b (Some y) None) (cond a (Some x) None)
passes-swapped x y true true below = swapped x y below
passes-swapped x y true false below = refl
passes-swapped x y false true below = refl
passes-swapped x y false false below = refl

best-swapped : (d : Definitions) (k : Holdings) (test : Judged → Bool) (a : Arrived) (ys zs : List Arrived) → AreAbove a.number ys
    → first_of (if_passes test (head_of d k a)) (best_of d k test (with_first ys zs)) ≡ best_of d k test (with_first ys (a ∷ zs))
best-swapped d k test a [] zs above = refl
best-swapped d k test a (y ∷ ys) zs above =
    let x = head_of d k a in
    let z = head_of d k y in
    sym (first_of-first_of (if_passes test x) (if_passes test z) (best_of d k test zs))
    ∙ ap (λ (o : Option Head). first_of o (best_of d k test zs)) (passes-swapped x z (test x.judged) (test z.judged) above.0)
    ∙ first_of-first_of (if_passes test z) (if_passes test x) (best_of d k test zs)

-- the best of all heads is that of the pool's and of all others
apart-turn : (d : Definitions) (k : Holdings) (test : Judged → Bool) (pool : Name) (before other : List Waiter) (a : Arrived) (xs : List Arrived) (b : Bool) → same_name a.waiter.pool pool ≡ b
    → is_behind before pool ≡ false → Agree pool before other → AreAbove a.number xs
    → (b ≡ false → best_of d k test (heads_in (before ++ a.waiter ∷ []) xs) ≡ best_of d k test (with_first (filter (is_of pool) xs) (heads_in (other ++ a.waiter ∷ []) (filter (is_elsewhere pool) xs))))
    → best_of d k test (heads_in before (a ∷ xs))
    ≡ best_of d k test (with_first (cond b (a ∷ filter (is_of pool) xs) (filter (is_of pool) xs)) (heads_in other (cond (not b) (a ∷ filter (is_elsewhere pool) xs) (filter (is_elsewhere pool) xs))))
apart-turn d k test pool before other a xs true here unseen agree above rest =
    let after = before ++ a.waiter ∷ [] in
    ap (λ (l : List Arrived). best_of d k test l)
    (
    ap (λ (n : Name). cond (is_behind before n) (heads_in after xs) (a ∷ heads_in after xs)) (same_name-eq a.waiter.pool pool here)
    ∙ ap (λ (b : Bool). cond b (heads_in after xs) (a ∷ heads_in after xs)) unseen
    ∙ ap (λ (l : List Arrived). a ∷ l) (seen-pool pool after other xs (seen-here pool before a.waiter here) (agree-here pool before other a.waiter here agree))
    )
apart-turn d k test pool before other a xs false apart unseen agree above rest =
    let e = agree a.waiter.pool apart in
    ap (λ (b : Bool). best_of d k test (cond b (heads_in (before ++ a.waiter ∷ []) xs) (a ∷ heads_in (before ++ a.waiter ∷ []) xs))) e
    ∙ choice (is_behind other a.waiter.pool)
  where
    choice : (c : Bool) → best_of d k test (cond c (heads_in (before ++ a.waiter ∷ []) xs) (a ∷ heads_in (before ++ a.waiter ∷ []) xs))
        ≡ best_of d k test (with_first (filter (is_of pool) xs) (cond c (heads_in (other ++ a.waiter ∷ []) (filter (is_elsewhere pool) xs)) (a ∷ heads_in (other ++ a.waiter ∷ []) (filter (is_elsewhere pool) xs))))
    choice true = rest refl
    choice false =
        ap (λ (o : Option Head). first_of (if_passes test (head_of d k a)) o) (rest refl)
        ∙ best-swapped d k test a (filter (is_of pool) xs) (heads_in (other ++ a.waiter ∷ []) (filter (is_elsewhere pool) xs)) (above-filter (is_of pool) a.number xs above)

best-apart : (d : Definitions) (k : Holdings) (test : Judged → Bool) (pool : Name) (before other : List Waiter) (xs : List Arrived) → is_behind before pool ≡ false → Agree pool before other → IsRising xs
    → best_of d k test (heads_in before xs) ≡ best_of d k test (with_first (filter (is_of pool) xs) (heads_in other (filter (is_elsewhere pool) xs)))
best-apart d k test pool before other [] unseen agree rises = refl
best-apart d k test pool before other (a ∷ xs) unseen agree rises =
    apart-turn d k test pool before other a xs (same_name a.waiter.pool pool) refl unseen agree rises.0
    (λ apart. best-apart d k test pool (before ++ a.waiter ∷ []) (other ++ a.waiter ∷ []) xs (unseen-there pool before a.waiter apart unseen) (agree-there pool before other a.waiter agree) rises.1)

with_first-split : (d : Definitions) (k : Holdings) (test : Judged → Bool) (ys zs zs' : List Arrived) → best_of d k test zs ≡ best_of d k test zs'
    → best_of d k test (with_first ys zs) ≡ best_of d k test (with_first ys zs')
with_first-split d k test [] zs zs' same = same
with_first-split d k test (y ∷ ys) zs zs' same = ap (λ (o : Option Head). first_of (if_passes test (head_of d k y)) o) same

best-lines : (d : Definitions) (k : Holdings) (test : Judged → Bool) (ls : List Line) (whole : List Arrived) → IsSplit ls whole → IsRising whole
    → best_of d k test (heads_of ls) ≡ best_of d k test (heads_in [] whole)
best-lines d k test [] whole split rises = sym (ap (λ (xs : List Arrived). best_of d k test (heads_in [] xs)) split)
best-lines d k test (l ∷ ls) whole split rises =
    let others = filter (is_elsewhere l.pool) whole in
    ap (λ (xs : List Arrived). best_of d k test (with_first xs (heads_of ls))) split.0
    ∙ with_first-split d k test (filter (is_of l.pool) whole) (heads_of ls) (heads_in [] others) (best-lines d k test ls others split.1 (rising-filter (is_elsewhere l.pool) whole rises))
    ∙ sym (best-apart d k test l.pool [] [] whole refl (λ q apart. refl) rises)

-- the best of heads in the order of arrival is the first that passes in queue order
abbrev IsAboveIf : ℤ → Option Arrived → Type 0
IsAboveIf n None = Unit {0}
IsAboveIf n (Some a) = lt_z n a.number ≡ true

record IsBest (d : Definitions) (k : Holdings) (test : Judged → Bool) (hs : List Arrived) : Type 0 where
  found : Option Arrived
  head : best_of d k test hs ≡ option_map (head_of d k) found
  query : find (λ w. test (judged_for d k w)) (in_queue_order d (queries hs)) ≡ option_map (λ (a : Arrived). a.waiter) found
  above : (n : ℤ) → AreAbove n hs → IsAboveIf n found

priority-turn : (p q m n : ℤ) (b : Bool) → lt_z m n ≡ true → lt_z p q ≡ b → (lt_z p q || (not (lt_z q p) && lt_z n m)) ≡ b
priority-turn p q m n true below e = grind (arith, ints)
priority-turn p q m n false below e = grind (arith, ints)

best-turn : (d : Definitions) (k : Holdings) (test : Judged → Bool) (x : Arrived) (hs : List Arrived) (b : Bool) → test (judged_for d k x.waiter) ≡ b → AreAbove x.number hs
    → (found : Option Arrived) → best_of d k test hs ≡ option_map (head_of d k) found
    → find (λ w. test (judged_for d k w)) (in_queue_order d (queries hs)) ≡ option_map (λ (a : Arrived). a.waiter) found
    → ((n : ℤ) → AreAbove n hs → IsAboveIf n found) → IsBest d k test (x ∷ hs)
best-turn d k test x hs false fails above found head query over = record {
  found = found;
  head = ap (λ c. first_of (cond c (Some (head_of d k x)) None) (best_of d k test hs)) fails ∙ first_of-none (best_of d k test hs) ∙ head;
  query = find-ordered d (λ w. test (judged_for d k w)) x.waiter (queries hs)
      ∙ ap (λ c. earlier d (cond c (Some x.waiter) None) (find (λ w. test (judged_for d k w)) (in_queue_order d (queries hs)))) fails
      ∙ order.earlier-none d (find (λ w. test (judged_for d k w)) (in_queue_order d (queries hs)))
      ∙ query;
  above = λ n all. over n all.1;
}
best-turn d k test x hs true passes above None head query over = record {
  found = Some x;
  head = ap (λ c. first_of (cond c (Some (head_of d k x)) None) (best_of d k test hs)) passes ∙ ap (λ (o : Option Head). first_of (Some (head_of d k x)) o) head;
  query = find-ordered d (λ w. test (judged_for d k w)) x.waiter (queries hs)
      ∙ ap (λ c. earlier d (cond c (Some x.waiter) None) (find (λ w. test (judged_for d k w)) (in_queue_order d (queries hs)))) passes
      ∙ ap (λ (o : Option Waiter). earlier d (Some x.waiter) o) query;
  above = λ n all. all.0;
}
best-turn d k test x hs true passes above (Some y) head query over =
    let head_is : best_of d k test (x ∷ hs) ≡ cond (stands_before (head_of d k y) (head_of d k x)) (Some (head_of d k y)) (Some (head_of d k x)) =
    ap (λ c. first_of (cond c (Some (head_of d k x)) None) (best_of d k test hs)) passes ∙ ap (λ (o : Option Head). first_of (Some (head_of d k x)) o) head in
    let query_is : find (λ w. test (judged_for d k w)) (in_queue_order d (queries (x ∷ hs))) ≡ cond (lt_z (priority_of d x.waiter) (priority_of d y.waiter)) (Some y.waiter) (Some x.waiter) =
    find-ordered d (λ w. test (judged_for d k w)) x.waiter (queries hs)
    ∙ ap (λ c. earlier d (cond c (Some x.waiter) None) (find (λ w. test (judged_for d k w)) (in_queue_order d (queries hs)))) passes
    ∙ ap (λ (o : Option Waiter). earlier d (Some x.waiter) o) query in
    choice (lt_z (priority_of d x.waiter) (priority_of d y.waiter)) refl head_is query_is
  where
    choice : (c : Bool) → lt_z (priority_of d x.waiter) (priority_of d y.waiter) ≡ c
        → best_of d k test (x ∷ hs) ≡ cond (stands_before (head_of d k y) (head_of d k x)) (Some (head_of d k y)) (Some (head_of d k x))
        → find (λ w. test (judged_for d k w)) (in_queue_order d (queries (x ∷ hs))) ≡ cond (lt_z (priority_of d x.waiter) (priority_of d y.waiter)) (Some y.waiter) (Some x.waiter)
        → IsBest d k test (x ∷ hs)
    choice true e head_is query_is = record {
      found = Some y;
      head = head_is ∙ ap (λ c. cond c (Some (head_of d k y)) (Some (head_of d k x))) (priority-turn (priority_of d x.waiter) (priority_of d y.waiter) x.number y.number true (over x.number above) e);
      query = query_is ∙ ap (λ c. cond c (Some y.waiter) (Some x.waiter)) e;
      above = λ n all. over n all.1;
    }
    choice false e head_is query_is = record {
      found = Some x;
      head = head_is ∙ ap (λ c. cond c (Some (head_of d k y)) (Some (head_of d k x))) (priority-turn (priority_of d x.waiter) (priority_of d y.waiter) x.number y.number false (over x.number above) e);
      query = query_is ∙ ap (λ c. cond c (Some y.waiter) (Some x.waiter)) e;
      above = λ n all. all.0;
    }

best-is : (d : Definitions) (k : Holdings) (test : Judged → Bool) (hs : List Arrived) → IsRising hs → IsBest d k test hs
best-is d k test [] rises = record { found = None; head = refl; query = refl; above = λ n all. tt }
best-is d k test (x ∷ hs) rises =
    let rest = best-is d k test hs rises.1 in
    best-turn d k test x hs (test (judged_for d k x.waiter)) refl rises.0 rest.found rest.head rest.query rest.above

-- what the candidates come to
entitled-turn : (d : Definitions) (k : Holdings) (a : Arrived) (second : Option Arrived) (b : Bool)
    → cond b (Some a.waiter.query) (option_map (λ h. h.query) (option_map (head_of d k) second)) ≡ query_of (cond b (Some a.waiter) (option_map (λ (x : Arrived). x.waiter) second))
entitled-turn d k a second true = refl
entitled-turn d k a None false = refl
entitled-turn d k a (Some x) false = refl

entitled-chosen : (d : Definitions) (k : Holdings) (first second : Option Arrived)
    → entitled (record { let_in = option_map (head_of d k) first; needs_none = option_map (head_of d k) second })
    ≡ query_of (chosen d k (option_map (λ (x : Arrived). x.waiter) first) (option_map (λ (x : Arrived). x.waiter) second))
entitled-chosen d k None None = refl
entitled-chosen d k None (Some x) = refl
entitled-chosen d k (Some a) second = entitled-turn d k a second ((judged_for d k a.waiter).fits)

pub entitled-lines : (d : Definitions) (k : Holdings) (ls : List Line) → IsOrdered ls
    → entitled (candidates_of d k (heads_of ls)) ≡ query_of (first_among d k false (in_queue_order d (heads_behind [] (queries (merged ls)))))
entitled-lines d k ls ordered =
    let whole = merged ls in
    let hs = heads_in [] whole in
    let rises = rising-heads [] whole ordered.rising in
    let first = best-is d k (λ j. j.poolfit) hs rises in
    let second = best-is d k needs_none hs rises in
    let let_in = best-lines d k (λ j. j.poolfit) ls whole ordered.split ordered.rising ∙ first.head in
    let none = best-lines d k needs_none ls whole ordered.split ordered.rising ∙ second.head in
    let in_order = in_queue_order d (queries hs) in
    (λ i. entitled (record { let_in = let_in i; needs_none = none i }))
    ∙ entitled-chosen d k first.found second.found
    ∙ sym (λ i. query_of (chosen d k (first.query i) (second.query i)))
    ∙ sym (ap (λ (o : Option Waiter). query_of o) (first_among-chosen d k in_order))
    ∙ ap (λ (ws : List Waiter). query_of (first_among d k false (in_queue_order d ws))) (queries-heads [] whole)

-- what holds of all, or of none, holds of the heads
filter-turn : (p q : Arrived → Bool) (x : Arrived) (xs : List Arrived) (b : Bool) → p x ≡ true → list_all p (filter q xs) ≡ true → list_all p (cond b (x ∷ filter q xs) (filter q xs)) ≡ true
filter-turn p q x xs true here rest = and_both (p x) (list_all p (filter q xs)) here rest
filter-turn p q x xs false here rest = rest

all-filtered : (p q : Arrived → Bool) (xs : List Arrived) → list_all p xs ≡ true → list_all p (filter q xs) ≡ true
all-filtered p q [] all = refl
all-filtered p q (x ∷ xs) all = filter-turn p q x xs (q x) (and_left (p x) (list_all p xs) all) (all-filtered p q xs (and_right (p x) (list_all p xs) all))

all-first : (p : Arrived → Bool) (ys zs : List Arrived) → list_all p ys ≡ true → list_all p zs ≡ true → list_all p (with_first ys zs) ≡ true
all-first p [] zs ys_all zs_all = zs_all
all-first p (y ∷ ys) zs ys_all zs_all = and_both (p y) (list_all p zs) (and_left (p y) (list_all p ys) ys_all) zs_all

all-heads : (p : Arrived → Bool) (ls : List Line) (whole : List Arrived) → IsSplit ls whole → list_all p whole ≡ true → list_all p (heads_of ls) ≡ true
all-heads p [] whole split all = refl
all-heads p (l ∷ ls) whole split all =
    all-first p l.waiters (heads_of ls)
    (ap (λ (xs : List Arrived). list_all p xs) split.0 ∙ all-filtered p (is_of l.pool) whole all)
    (all-heads p ls (filter (is_elsewhere l.pool) whole) split.1 (all-filtered p (is_elsewhere l.pool) whole all))

pub heads-pass : (p : Waiter → Bool) (ls : List Line) → IsOrdered ls → list_all p (queries (merged ls)) ≡ true → list_all (λ (a : Arrived). p a.waiter) (heads_of ls) ≡ true
heads-pass p ls ordered all =
    all-heads (λ (a : Arrived). p a.waiter) ls (merged ls) ordered.split (sym (list_all-map p (λ (a : Arrived). a.waiter) (merged ls)) ∙ all)

none-turn : (p : Waiter → Bool) (x : Waiter) (xs : List Waiter) (b : Bool) → cond b (Some x) (find p xs) ≡ None → (find p xs ≡ None → list_all (λ w. not (p w)) xs ≡ true) → (not b && list_all (λ w. not (p w)) xs) ≡ true
none-turn p x xs true none rest = absurd (cc)
none-turn p x xs false none rest = rest none

pub none-passes : (p : Waiter → Bool) (xs : List Waiter) → find p xs ≡ None → list_all (λ w. not (p w)) xs ≡ true
none-passes p [] none = refl
none-passes p (x ∷ xs) none = none-turn p x xs (p x) none (none-passes p xs)

head-turn : (p : Arrived → Bool) (xs others : List Arrived) (a : Arrived) → 0 < length xs → a ≡ get_or xs 0 a → list_all p (with_first xs others) ≡ true → p a ≡ true
head-turn p [] others a some at all = absurd (omega (arith, some))
head-turn p (x ∷ xs) others a some at all = ap p at ∙ and_left (p x) (list_all p others) all

later-turn : (p : Arrived → Bool) (xs others : List Arrived) → list_all p (with_first xs others) ≡ true → list_all p others ≡ true
later-turn p [] others all = all
later-turn p (x ∷ xs) others all = and_right (p x) (list_all p others) all

pub head-passes : (p : Arrived → Bool) (ls : List Line) (i : ℕ) (l : Line) (a : Arrived) → i < length ls → l ≡ get_or ls i l → 0 < length l.waiters → a ≡ get_or l.waiters 0 a → list_all p (heads_of ls) ≡ true → p a ≡ true
head-passes p [] i l a within at some first all = absurd (omega arith)
head-passes p (x ∷ ls) zero l a within at some first all =
    head-turn p x.waiters (heads_of ls) a (omega (arith, some, ap (λ (y : Line). length y.waiters) at)) (first ∙ ap (λ (y : Line). get_or y.waiters 0 a) at) all
head-passes p (x ∷ ls) (suc i) l a within at some first all =
    head-passes p ls i l a (omega (arith, within)) at some first (later-turn p x.waiters (heads_of ls) all)

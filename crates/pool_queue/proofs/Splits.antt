-- What becomes of the lists of the pools where arrivals join or leave.
use Rattle.std.proofs.Common.{◌≡◌, ◌<◌, ℕ, zero, suc, Bool, true, false, not, cond, Option, Some, None, List, [], ◌∷◌, length, get_or, filter, remove, find, refl, ap, sym, subst, ◌∙◌, arith, append-nil}
use Rattle.std.proofs.lemmas.List.Elements.{filter-append}
use Rattle.rm_base.specs.declared.name.Name.{Name}
use Rattle.rm_base.specs.Name.{same_name}
use Rattle.rm_base.proofs.Names.{same_name-eq, same_name-sym}
use Rattle.rm_rules.specs.State.{without, changed_first}
use Rattle.pool_queue.specs.declared.lines.Arrived.{Arrived}
use Rattle.pool_queue.specs.declared.lines.Line.{Line}
use Rattle.pool_queue.specs.Lines.{is_of, is_elsewhere, is_line, IsSplit, placed, with_block, joined, with_kept}

-- each passes the test
abbrev pub AllPass : (Arrived → Bool) → List Arrived → Type 0
AllPass test [] = Unit {0}
AllPass test (x ∷ xs) = (test x ≡ true) × AllPass test xs

pub filter-all : (test : Arrived → Bool) (xs : List Arrived) → AllPass test xs → filter test xs ≡ xs
filter-all test [] all = refl
filter-all test (x ∷ xs) all = ap (λ b. cond b (x ∷ filter test xs) (filter test xs)) all.0 ∙ ap (λ (l : List Arrived). x ∷ l) (filter-all test xs all.1)

pub filter-none : (test other : Arrived → Bool) (xs : List Arrived) → ((x : Arrived) → test x ≡ true → other x ≡ false) → AllPass test xs → filter other xs ≡ []
filter-none test other [] apart all = refl
filter-none test other (x ∷ xs) apart all =
    ap (λ b. cond b (x ∷ filter other xs) (filter other xs)) (apart x all.0) ∙ filter-none test other xs apart all.1

passed-turn : (test : Arrived → Bool) (x : Arrived) (xs : List Arrived) (b : Bool) → test x ≡ b → AllPass test xs → AllPass test (cond b (x ∷ xs) xs)
passed-turn test x xs true passes rest = (passes, rest)
passed-turn test x xs false passes rest = rest

pub all-filter : (test : Arrived → Bool) (xs : List Arrived) → AllPass test (filter test xs)
all-filter test [] = tt
all-filter test (x ∷ xs) = passed-turn test x (filter test xs) (test x) refl (all-filter test xs)

-- two tests in turn
within-turn : (p q : Arrived → Bool) (x : Arrived) (xs : List Arrived) (b c : Bool) → p x ≡ b → q x ≡ c → (b ≡ true → c ≡ true) → filter p (filter q xs) ≡ filter p xs
    → filter p (cond c (x ∷ filter q xs) (filter q xs)) ≡ cond b (x ∷ filter p xs) (filter p xs)
within-turn p q x xs true true pb qc within rest = (λ i. cond (pb i) (x ∷ rest i) (rest i))
within-turn p q x xs true false pb qc within rest = let e : false ≡ true = within refl in absurd (cc)
within-turn p q x xs false true pb qc within rest = (λ i. cond (pb i) (x ∷ rest i) (rest i))
within-turn p q x xs false false pb qc within rest = rest

pub filter-within : (p q : Arrived → Bool) (xs : List Arrived) → ((x : Arrived) → p x ≡ true → q x ≡ true) → filter p (filter q xs) ≡ filter p xs
filter-within p q [] within = refl
filter-within p q (x ∷ xs) within = within-turn p q x xs (p x) (q x) refl refl (within x) (filter-within p q xs within)

swap-turn : (p q : Arrived → Bool) (x : Arrived) (xs : List Arrived) (b c : Bool) → p x ≡ b → q x ≡ c → filter p (filter q xs) ≡ filter q (filter p xs)
    → filter p (cond c (x ∷ filter q xs) (filter q xs)) ≡ filter q (cond b (x ∷ filter p xs) (filter p xs))
swap-turn p q x xs true true pb qc rest =
    ap (λ b. cond b (x ∷ filter p (filter q xs)) (filter p (filter q xs))) pb ∙ ap (λ (l : List Arrived). x ∷ l) rest ∙ sym (ap (λ b. cond b (x ∷ filter q (filter p xs)) (filter q (filter p xs))) qc)
swap-turn p q x xs true false pb qc rest = rest ∙ sym (ap (λ b. cond b (x ∷ filter q (filter p xs)) (filter q (filter p xs))) qc)
swap-turn p q x xs false true pb qc rest = ap (λ b. cond b (x ∷ filter p (filter q xs)) (filter p (filter q xs))) pb ∙ rest
swap-turn p q x xs false false pb qc rest = rest

pub filter-swap : (p q : Arrived → Bool) (xs : List Arrived) → filter p (filter q xs) ≡ filter q (filter p xs)
filter-swap p q [] = refl
filter-swap p q (x ∷ xs) = swap-turn p q x xs (p x) (q x) refl refl (filter-swap p q xs)

agree-turn : (p q : Arrived → Bool) (x : Arrived) (xs : List Arrived) (b c : Bool) → p x ≡ c → b ≡ c → filter p xs ≡ filter q xs
    → cond b (x ∷ filter p xs) (filter p xs) ≡ cond c (x ∷ filter q xs) (filter q xs)
agree-turn p q x xs b c pc same rest = (λ i. cond (same i) (x ∷ rest i) (rest i))

pub filter-agree : (p q test : Arrived → Bool) (xs : List Arrived) → ((x : Arrived) → test x ≡ true → p x ≡ q x) → AllPass test xs → filter p xs ≡ filter q xs
filter-agree p q test [] agree all = refl
filter-agree p q test (x ∷ xs) agree all =
    let same = agree x all.0 in
    let rest = filter-agree p q test xs agree all.1 in
    (λ i. cond (same i) (x ∷ rest i) (rest i))

-- pools
not-true : (b : Bool) → b ≡ true → not b ≡ false
not-true true e = refl
not-true false e = absurd (cc)

not-false : (b : Bool) → b ≡ false → not b ≡ true
not-false true e = absurd (cc)
not-false false e = refl

from-not : (b : Bool) → not b ≡ true → b ≡ false
from-not true e = absurd (cc)
from-not false e = refl

pub of-not_elsewhere : (pool : Name) (x : Arrived) → is_of pool x ≡ true → is_elsewhere pool x ≡ false
of-not_elsewhere pool x e = not-true (is_of pool x) e

pub of_other : (pool other : Name) (x : Arrived) → same_name other pool ≡ false → is_of pool x ≡ true → is_of other x ≡ false
of_other pool other x apart here =
    let same : x.waiter.pool ≡ pool = same_name-eq x.waiter.pool pool here in
    ap (λ (n : Name). same_name n other) same ∙ same_name-sym pool other ∙ apart

pub of_other-elsewhere : (pool other : Name) (x : Arrived) → same_name other pool ≡ false → is_of pool x ≡ true → is_elsewhere other x ≡ true
of_other-elsewhere pool other x apart here = not-false (is_of other x) (of_other pool other x apart here)

pub of_line-elsewhere : (pool other : Name) (x : Arrived) → same_name other pool ≡ false → is_of other x ≡ true → is_elsewhere pool x ≡ true
of_line-elsewhere pool other x apart here = of_other-elsewhere other pool x (same_name-sym pool other ∙ apart) here

-- a block before or behind
pub filter-placed : (test : Arrived → Bool) (front : Bool) (block others : List Arrived) → filter test (placed front block others) ≡ placed front (filter test block) (filter test others)
filter-placed test true block others = filter-append test block others
filter-placed test false block others = filter-append test others block

pub placed-nil : (front : Bool) (others : List Arrived) → placed front [] others ≡ others
placed-nil true others = refl
placed-nil false others = append-nil others

placed-in_nil : (front : Bool) (block : List Arrived) → placed front block [] ≡ block
placed-in_nil true block = append-nil block
placed-in_nil false block = refl

-- a block that joins a pool
split-joined-turn : (front : Bool) (pool : Name) (block : List Arrived) (l : Line) (ls : List Line) (whole : List Arrived) (b : Bool) → is_line pool l ≡ b → AllPass (is_of pool) block
    → IsSplit (l ∷ ls) whole → IsSplit (joined front pool block ls) (placed front block (filter (is_elsewhere l.pool) whole))
    → IsSplit (cond b (with_block front block l ∷ ls) (l ∷ joined front pool block ls)) (placed front block whole)
split-joined-turn front pool block l ls whole true same all split rest =
    let name : pool ≡ l.pool = sym (same_name-eq l.pool pool same) in
    let here : AllPass (is_of l.pool) block = subst (λ (n : Name). AllPass (is_of n) block) name all in
    let gone : filter (is_elsewhere l.pool) block ≡ [] = filter-none (is_of l.pool) (is_elsewhere l.pool) block (of-not_elsewhere l.pool) here in
    let others : filter (is_elsewhere l.pool) (placed front block whole) ≡ filter (is_elsewhere l.pool) whole =
    filter-placed (is_elsewhere l.pool) front block whole ∙ ap (λ (xs : List Arrived). placed front xs (filter (is_elsewhere l.pool) whole)) gone ∙ placed-nil front (filter (is_elsewhere l.pool) whole) in
    let kept = filter-all (is_of l.pool) block here in
    let line = split.0 in
    ((λ i. placed front (sym kept i) (line i)) ∙ sym (filter-placed (is_of l.pool) front block whole), subst (λ (xs : List Arrived). IsSplit ls xs) (sym others) split.1)
split-joined-turn front pool block l ls whole false apart all split rest =
    let gone : filter (is_of l.pool) block ≡ [] = filter-none (is_of pool) (is_of l.pool) block (λ x h. of_other pool l.pool x apart h) all in
    let line : filter (is_of l.pool) (placed front block whole) ≡ filter (is_of l.pool) whole =
    filter-placed (is_of l.pool) front block whole ∙ ap (λ (xs : List Arrived). placed front xs (filter (is_of l.pool) whole)) gone ∙ placed-nil front (filter (is_of l.pool) whole) in
    let kept : filter (is_elsewhere l.pool) block ≡ block = filter-all (is_elsewhere l.pool) block (further (is_of pool) (is_elsewhere l.pool) block (λ x h. of_other-elsewhere pool l.pool x apart h) all) in
    let others : placed front block (filter (is_elsewhere l.pool) whole) ≡ filter (is_elsewhere l.pool) (placed front block whole) =
    ap (λ (xs : List Arrived). placed front xs (filter (is_elsewhere l.pool) whole)) (sym kept) ∙ sym (filter-placed (is_elsewhere l.pool) front block whole) in
    (split.0 ∙ sym line, subst (λ (xs : List Arrived). IsSplit (joined front pool block ls) xs) others rest)
  where
    further : (p q : Arrived → Bool) (xs : List Arrived) → ((x : Arrived) → p x ≡ true → q x ≡ true) → AllPass p xs → AllPass q xs
    further p q [] wider all = tt
    further p q (x ∷ xs) wider all = (wider x all.0, further p q xs wider all.1)

pub split-joined : (front : Bool) (pool : Name) (block : List Arrived) (ls : List Line) (whole : List Arrived) → AllPass (is_of pool) block → IsSplit ls whole
    → IsSplit (joined front pool block ls) (placed front block whole)
split-joined front pool block [] whole all split =
    let only : placed front block whole ≡ block = ap (λ (xs : List Arrived). placed front block xs) split ∙ placed-in_nil front block in (
      sym (filter-all (is_of pool) block all) ∙ sym (ap (λ (xs : List Arrived). filter (is_of pool) xs) only),
      ap (λ (xs : List Arrived). filter (is_elsewhere pool) xs) only ∙ filter-none (is_of pool) (is_elsewhere pool) block (of-not_elsewhere pool) all,
    )
split-joined front pool block (l ∷ ls) whole all split =
    split-joined-turn front pool block l ls whole (is_line pool l) refl all split (split-joined front pool block ls (filter (is_elsewhere l.pool) whole) all split.1)

-- those of a pool stand in its list, if it has one
abbrev pub waiters_in : Option Line → List Arrived
waiters_in None = []
waiters_in (Some l) = l.waiters

line-turn : (pool : Name) (l : Line) (ls : List Line) (whole : List Arrived) (b : Bool) → is_line pool l ≡ b → IsSplit (l ∷ ls) whole
    → waiters_in (find (is_line pool) ls) ≡ filter (is_of pool) (filter (is_elsewhere l.pool) whole)
    → waiters_in (cond b (Some l) (find (is_line pool) ls)) ≡ filter (is_of pool) whole
line-turn pool l ls whole true same split rest = split.0 ∙ ap (λ (n : Name). filter (is_of n) whole) (same_name-eq l.pool pool same)
line-turn pool l ls whole false apart split rest =
    rest ∙ filter-within (is_of pool) (is_elsewhere l.pool) whole (λ x h. of_other-elsewhere pool l.pool x apart h)

pub line-of : (pool : Name) (ls : List Line) (whole : List Arrived) → IsSplit ls whole → waiters_in (find (is_line pool) ls) ≡ filter (is_of pool) whole
line-of pool [] whole split = sym (ap (λ (xs : List Arrived). filter (is_of pool) xs) split)
line-of pool (l ∷ ls) whole split = line-turn pool l ls whole (is_line pool l) refl split (line-of pool ls (filter (is_elsewhere l.pool) whole) split.1)

-- a pool's list that is gone
split-without-turn : (pool : Name) (l : Line) (ls : List Line) (whole : List Arrived) (b : Bool) → is_line pool l ≡ b → IsSplit (l ∷ ls) whole
    → IsSplit (without (is_line pool) ls) (filter (is_elsewhere pool) (filter (is_elsewhere l.pool) whole))
    → IsSplit (cond b ls (l ∷ without (is_line pool) ls)) (filter (is_elsewhere pool) whole)
split-without-turn pool l ls whole true same split rest =
    subst (λ (n : Name). IsSplit ls (filter (is_elsewhere n) whole)) (same_name-eq l.pool pool same) split.1
split-without-turn pool l ls whole false apart split rest = (
  split.0 ∙ sym (filter-within (is_of l.pool) (is_elsewhere pool) whole (λ x h. of_line-elsewhere pool l.pool x apart h)),
  subst (λ (xs : List Arrived). IsSplit (without (is_line pool) ls) xs) (filter-swap (is_elsewhere pool) (is_elsewhere l.pool) whole) rest,
)

pub split-without : (pool : Name) (ls : List Line) (whole : List Arrived) → IsSplit ls whole → IsSplit (without (is_line pool) ls) (filter (is_elsewhere pool) whole)
split-without pool [] whole split = ap (λ (xs : List Arrived). filter (is_elsewhere pool) xs) split
split-without pool (l ∷ ls) whole split =
    split-without-turn pool l ls whole (is_line pool l) refl split (split-without pool ls (filter (is_elsewhere l.pool) whole) split.1)

-- some of a pool leave its list
split-kept-turn : (pool : Name) (keep : Arrived → Bool) (l : Line) (ls : List Line) (whole : List Arrived) (b : Bool) → is_line pool l ≡ b
    → ((x : Arrived) → is_elsewhere pool x ≡ true → keep x ≡ true) → IsSplit (l ∷ ls) whole
    → IsSplit (changed_first (is_line pool) (with_kept keep) ls) (filter keep (filter (is_elsewhere l.pool) whole))
    → IsSplit (cond b (with_kept keep l ∷ ls) (l ∷ changed_first (is_line pool) (with_kept keep) ls)) (filter keep whole)
split-kept-turn pool keep l ls whole true same stay split rest =
    let name : l.pool ≡ pool = same_name-eq l.pool pool same in
    let stays : (x : Arrived) → is_elsewhere l.pool x ≡ true → keep x ≡ true = λ x h. stay x (subst (λ (n : Name). is_elsewhere n x ≡ true) name h) in (
      ap (λ (xs : List Arrived). filter keep xs) split.0 ∙ filter-swap keep (is_of l.pool) whole,
      subst (λ (xs : List Arrived). IsSplit ls xs) (sym (filter-within (is_elsewhere l.pool) keep whole stays)) split.1,
    )
split-kept-turn pool keep l ls whole false apart stay split rest = (
  split.0 ∙ sym (filter-within (is_of l.pool) keep whole (λ x h. stay x (of_line-elsewhere pool l.pool x apart h))),
  subst (λ (xs : List Arrived). IsSplit (changed_first (is_line pool) (with_kept keep) ls) xs) (filter-swap keep (is_elsewhere l.pool) whole) rest,
)

pub split-kept : (pool : Name) (keep : Arrived → Bool) (ls : List Line) (whole : List Arrived) → ((x : Arrived) → is_elsewhere pool x ≡ true → keep x ≡ true) → IsSplit ls whole
    → IsSplit (changed_first (is_line pool) (with_kept keep) ls) (filter keep whole)
split-kept pool keep [] whole stay split = ap (λ (xs : List Arrived). filter keep xs) split
split-kept pool keep (l ∷ ls) whole stay split =
    split-kept-turn pool keep l ls whole (is_line pool l) refl stay split (split-kept pool keep ls (filter (is_elsewhere l.pool) whole) stay split.1)

-- an empty list may go
elsewhere-turn : (pool : Name) (x : Arrived) (xs : List Arrived) (b : Bool) → cond b (x ∷ filter (is_of pool) xs) (filter (is_of pool) xs) ≡ [] → (filter (is_of pool) xs ≡ [] → filter (is_elsewhere pool) xs ≡ xs)
    → cond (not b) (x ∷ filter (is_elsewhere pool) xs) (filter (is_elsewhere pool) xs) ≡ x ∷ xs
elsewhere-turn pool x xs true none rest = absurd (cc)
elsewhere-turn pool x xs false none rest = ap (λ (l : List Arrived). x ∷ l) (rest none)

pub all-elsewhere : (pool : Name) (xs : List Arrived) → filter (is_of pool) xs ≡ [] → filter (is_elsewhere pool) xs ≡ xs
all-elsewhere pool [] none = refl
all-elsewhere pool (x ∷ xs) none = elsewhere-turn pool x xs (is_of pool x) none (all-elsewhere pool xs)

pub split-closed : (ls : List Line) (i : ℕ) (l : Line) (whole : List Arrived) → i < length ls → l ≡ get_or ls i l → l.waiters ≡ [] → IsSplit ls whole → IsSplit (remove ls i) whole
split-closed [] i l whole within at none split = absurd (omega arith)
split-closed (x ∷ ls) zero l whole within at none split =
    let empty : x.waiters ≡ [] = sym (ap (λ (y : Line). y.waiters) at) ∙ none in
    subst (λ (xs : List Arrived). IsSplit ls xs) (all-elsewhere x.pool whole (sym split.0 ∙ empty)) split.1
split-closed (x ∷ ls) (suc i) l whole within at none split =
    (split.0, split-closed ls i l (filter (is_elsewhere x.pool) whole) (omega (arith, within)) at none split.1)

-- The first of some heads in queue order, whatever the order in which they are seen.
use Rattle.std.proofs.Common.{◌≡◌, ◌<◌, ℕ, ◌+◌, Bool, true, false, ◌&&◌, ◌||◌, not, cond, Option, Some, None, List, [], ◌∷◌, length, get_or, drop, refl, ap, sym, ◌∙◌, arith}
use Rattle.std.specs.Prelude.{ℤ}
use Rattle.std.specs.Int.Signed.{lt_z}
use Rattle.std.proofs.lemmas.Int.{ints}
use Rattle.std.proofs.lemmas.List.{at_drop_more}
use Rattle.rm_base.specs.declared.definitions.Definitions.{Definitions}
use Rattle.rm_rules.specs.Holdings.{Holdings}
use Rattle.pool_queue.specs.declared.lines.Arrived.{Arrived}
use Rattle.pool_queue.specs.declared.lines.Line.{Line}
use Rattle.pool_queue.specs.declared.heads.Head.{Head}
use Rattle.pool_queue.specs.declared.heads.Candidates.{Candidates}
use Rattle.pool_queue.specs.Heads.{head_of, needs_none, stands_before, first_of, if_passes, with_head, best_of, candidates_of, with_first, heads_of}

-- one number pair stands before another
abbrev before : ℤ → ℤ → ℤ → ℤ → Bool
before p m q n = lt_z q p || (not (lt_z p q) && lt_z m n)

before-before : (p m q n r k : ℤ) → before p m q n ≡ true → before q n r k ≡ true → before p m r k ≡ true
before-before p m q n r k first second = grind (arith, ints)

not_before-not_before : (p m q n r k : ℤ) → before p m q n ≡ false → before q n r k ≡ false → before p m r k ≡ false
not_before-not_before p m q n r k first second = grind (arith, ints)

-- of three
pub first_of-none : (o : Option Head) → first_of None o ≡ o
first_of-none None = refl
first_of-none (Some h) = refl

three-turn : (x y z : Head) (a b : Bool) → stands_before y x ≡ a → stands_before z y ≡ b
    → first_of (cond a (Some y) (Some x)) (Some z) ≡ first_of (Some x) (cond b (Some z) (Some y))
three-turn x y z true true first second =
    ap (λ c. cond c (Some z) (Some y)) second
    ∙ sym (ap (λ c. cond c (Some z) (Some x)) (before-before z.priority z.number y.priority y.number x.priority x.number second first))
three-turn x y z true false first second = ap (λ c. cond c (Some z) (Some y)) second ∙ sym (ap (λ c. cond c (Some y) (Some x)) first)
three-turn x y z false true first second = refl
three-turn x y z false false first second =
    ap (λ c. cond c (Some z) (Some x)) (not_before-not_before z.priority z.number y.priority y.number x.priority x.number second first)
    ∙ sym (ap (λ c. cond c (Some y) (Some x)) first)

pub first_of-first_of : (a b c : Option Head) → first_of (first_of a b) c ≡ first_of a (first_of b c)
first_of-first_of a b None = refl
first_of-first_of a None (Some z) = refl
first_of-first_of None (Some y) (Some z) = sym (first_of-none (first_of (Some y) (Some z)))
first_of-first_of (Some x) (Some y) (Some z) = three-turn x y z (stands_before y x) (stands_before z y) refl refl

-- the candidates among some heads, and among others
abbrev pub beside : Candidates → Candidates → Candidates
beside a b = record { let_in = first_of a.let_in b.let_in; needs_none = first_of a.needs_none b.needs_none }

beside-with_head : (d : Definitions) (k : Holdings) (c : Candidates) (a : Arrived) (rest : List Arrived)
    → beside (with_head c (head_of d k a)) (candidates_of d k rest) ≡ beside c (candidates_of d k (a ∷ rest))
beside-with_head d k c a rest =
    let one = first_of-first_of c.let_in (if_passes (λ j. j.poolfit) (head_of d k a)) (best_of d k (λ j. j.poolfit) rest) in
    let two = first_of-first_of c.needs_none (if_passes needs_none (head_of d k a)) (best_of d k needs_none rest) in
    λ i. record { let_in = one i; needs_none = two i }

first-turn : (xs others : List Arrived) (a : Arrived) → 0 < length xs → a ≡ get_or xs 0 a → with_first xs others ≡ a ∷ others
first-turn [] others a some at = absurd (omega (arith, some))
first-turn (x ∷ xs) others a some at = ap (λ (y : Arrived). y ∷ others) (sym at)

pub heads-more : (ls : List Line) (i : ℕ) (l : Line) (a : Arrived) → i < length ls → l ≡ get_or ls i l → 0 < length l.waiters → a ≡ get_or l.waiters 0 a
    → heads_of (drop i ls) ≡ a ∷ heads_of (drop (i + 1) ls)
heads-more ls i l a within at some first =
    at_drop_more heads_of ls i l within
    ∙ sym (ap (λ (x : Line). with_first x.waiters (heads_of (drop (i + 1) ls))) at)
    ∙ first-turn l.waiters (heads_of (drop (i + 1) ls)) a some first

pub takes : (d : Definitions) (k : Holdings) (c next all : Candidates) (ls : List Line) (i : ℕ) (l : Line) (a : Arrived) → i < length ls → l ≡ get_or ls i l → 0 < length l.waiters → a ≡ get_or l.waiters 0 a
    → next ≡ with_head c (head_of d k a) → beside c (candidates_of d k (heads_of (drop i ls))) ≡ all → beside next (candidates_of d k (heads_of (drop (i + 1) ls))) ≡ all
takes d k c next all ls i l a within at some first with_a so_far =
    ap (λ (x : Candidates). beside x (candidates_of d k (heads_of (drop (i + 1) ls)))) with_a
    ∙ beside-with_head d k c a (heads_of (drop (i + 1) ls))
    ∙ sym (ap (λ (hs : List Arrived). beside c (candidates_of d k hs)) (heads-more ls i l a within at some first))
    ∙ so_far

pub none-beside : (c : Candidates) → beside (record { let_in = None; needs_none = None }) c ≡ c
none-beside c = λ i. record { let_in = first_of-none c.let_in i; needs_none = first_of-none c.needs_none i }

-- Chains, a pool at a time.
use Rattle.std.specs.Prelude.{◌≡◌, ℕ, zero, suc, ◌+◌, ◌-◌, ◌<◌, Bool, true, false, ◌||◌, not, cond, List, [], ◌∷◌, length, map, Option, Some, None, max, refl}
use Rattle.std.specs.List.{list_any}
use Rattle.std.proofs.Common.{sym, ap, ◌∙◌, subst, arith}
use Rattle.std.proofs.lemmas.Bool.{false≢true}
use Rattle.rm_base.specs.declared.rows.PoolRow.{PoolRow}
use Rattle.rm_base.specs.declared.name.Name.{Name}
use Rattle.rm_base.specs.Name.{same_name}
use Rattle.rm_base.proofs.Names.{same_name-eq, same_name-sym}
use Rattle.rm_rules.specs.Definitions.{pool_called}
use Rattle.rm_rules.specs.Sound.{are_distinct, chain_ends}
use Rattle.rm_rules.specs.PoolStatements.{pools_with, chain, cascade_of, chain_from, length_through, longest_through}
use Rattle.pool_table.specs.Longest.{longest_of_others}
use Rattle.rm_rules.proofs.Taken.{and_left, and_right, not_false, or_left_false, or_right_false}
use Rattle.rm_rules.proofs.AcceptanceChains.{chain-some, chain-none}

-- a chain of which no pool is read
pub chain-zero : (pools : List PoolRow) (next : Option Name) → chain pools 0 next ≡ []
unfolding chain
chain-zero pools next = refl

-- a chain of which a pool is read
pub chain-more : (pools : List PoolRow) (most : ℕ) (name : Name) → 0 < most → chain pools most (Some name) ≡ name ∷ chain pools (most - 1) (cascade_of pools name)
chain-more pools zero name some = absurd (omega arith)
chain-more pools (suc most) name some =
    let less : suc most - 1 ≡ most = omega arith in
    chain-some pools most name ∙ ap (λ n. name ∷ chain pools n (cascade_of pools name)) (sym less)

max-zero : (n : ℕ) → max 0 n ≡ n
max-zero n = omega arith

max-swap : (a b c : ℕ) → max a (max b c) ≡ max b (max a c)
max-swap a b c = omega arith

-- where the pool's name is not among these, all are others
absent-turn : (after : List PoolRow) (name : Name) (r : PoolRow) (rs : List PoolRow) (b : Bool) → b ≡ false
    → longest_through after name rs ≡ longest_of_others after name rs
    → max (length_through name (chain_from after r)) (longest_through after name rs) ≡ max (cond b 0 (length_through name (chain_from after r))) (longest_of_others after name rs)
absent-turn after name r rs true e behind = absurd (false≢true (sym e))
absent-turn after name r rs false e behind = ap (λ n. max (length_through name (chain_from after r)) n) behind

absent : (after : List PoolRow) (name : Name) (rs : List PoolRow) → list_any (same_name name) (map (λ r. r.name) rs) ≡ false
    → longest_through after name rs ≡ longest_of_others after name rs
absent after name [] free = refl
absent after name (r ∷ rs) free =
    absent-turn after name r rs (same_name name r.name) (or_left_false (same_name name r.name) (list_any (same_name name) (map (λ x. x.name) rs)) free)
    (absent after name rs (or_right_false (same_name name r.name) (list_any (same_name name) (map (λ x. x.name) rs)) free))

-- the longest chain after the statement starts at its pool, or at another
others-turn : (after : List PoolRow) (row r : PoolRow) (rs : List PoolRow) (b : Bool) → same_name r.name row.name ≡ b
    → are_distinct (map (λ x. x.name) (r ∷ rs)) ≡ true
    → longest_through after row.name (pools_with row rs) ≡ max (length_through row.name (chain_from after row)) (longest_of_others after row.name rs)
    → longest_through after row.name (cond b (row ∷ rs) (r ∷ pools_with row rs))
    ≡ max (length_through row.name (chain_from after row)) (max (cond (same_name row.name r.name) 0 (length_through row.name (chain_from after r))) (longest_of_others after row.name rs))
others-turn after row r rs true e distinct behind =
    let same : same_name row.name r.name ≡ true = same_name-sym row.name r.name ∙ e in
    let one : r.name ≡ row.name = same_name-eq r.name row.name e in
    let free : list_any (same_name row.name) (map (λ x. x.name) rs) ≡ false =
    subst (λ n. list_any (same_name n) (map (λ x. x.name) rs) ≡ false) one (not_false (list_any (same_name r.name) (map (λ x. x.name) rs)) (and_left (not (list_any (same_name r.name) (map (λ x. x.name) rs))) (are_distinct (map (λ x. x.name) rs)) distinct)) in
    ap (λ n. max (length_through row.name (chain_from after row)) n) (absent after row.name rs free ∙ sym (max-zero (longest_of_others after row.name rs)))
    ∙ ap (λ b. max (length_through row.name (chain_from after row)) (max (cond b 0 (length_through row.name (chain_from after r))) (longest_of_others after row.name rs))) (sym same)
others-turn after row r rs false e distinct behind =
    let apart : same_name row.name r.name ≡ false = same_name-sym row.name r.name ∙ e in
    ap (λ n. max (length_through row.name (chain_from after r)) n) behind
    ∙ max-swap (length_through row.name (chain_from after r)) (length_through row.name (chain_from after row)) (longest_of_others after row.name rs)
    ∙ ap (λ b. max (length_through row.name (chain_from after row)) (max (cond b 0 (length_through row.name (chain_from after r))) (longest_of_others after row.name rs))) (sym apart)

pub longest-others : (after : List PoolRow) (row : PoolRow) (rs : List PoolRow) → are_distinct (map (λ r. r.name) rs) ≡ true
    → longest_through after row.name (pools_with row rs) ≡ max (length_through row.name (chain_from after row)) (longest_of_others after row.name rs)
longest-others after row [] distinct = refl
longest-others after row (r ∷ rs) distinct =
    others-turn after row r rs (same_name r.name row.name) refl distinct
    (longest-others after row rs (and_right (not (list_any (same_name r.name) (map (λ x. x.name) rs))) (are_distinct (map (λ x. x.name) rs)) distinct))

-- what is read of a chain, by where it stands
pub on-zero : (pools : List PoolRow) (name : Name) (most : ℕ) (next : Option Name) → most ≡ 0 → false ≡ list_any (same_name name) (chain pools most next)
on-zero pools name most next e = ap (λ names. list_any (same_name name) names) (sym (ap (λ n. chain pools n next) e ∙ chain-zero pools next))

pub on-none : (pools : List PoolRow) (name : Name) (most : ℕ) (next : Option Name) → next ≡ None → false ≡ list_any (same_name name) (chain pools most next)
on-none pools name most next e = ap (λ names. list_any (same_name name) names) (sym (ap (λ o. chain pools most o) e ∙ chain-none pools most))

on-more : (pools : List PoolRow) (name : Name) (most : ℕ) (next : Option Name) (n : Name) → next ≡ Some n → 0 < most
    → (same_name name n || list_any (same_name name) (chain pools (most - 1) (cascade_of pools n))) ≡ list_any (same_name name) (chain pools most next)
on-more pools name most next n e some = ap (λ names. list_any (same_name name) names) (sym (ap (λ o. chain pools most o) e ∙ chain-more pools most n some))

pub on-here : (pools : List PoolRow) (name : Name) (most : ℕ) (next : Option Name) (n : Name) → next ≡ Some n → 0 < most → same_name name n ≡ true
    → true ≡ list_any (same_name name) (chain pools most next)
on-here pools name most next n e some here =
    sym (ap (λ b. b || list_any (same_name name) (chain pools (most - 1) (cascade_of pools n))) here) ∙ on-more pools name most next n e some

pub on-behind : (pools : List PoolRow) (name : Name) (most : ℕ) (next : Option Name) (n : Name) → next ≡ Some n → 0 < most → same_name name n ≡ false
    → list_any (same_name name) (chain pools (most - 1) (cascade_of pools n)) ≡ list_any (same_name name) (chain pools most next)
on-behind pools name most next n e some apart =
    sym (ap (λ b. b || list_any (same_name name) (chain pools (most - 1) (cascade_of pools n))) apart) ∙ on-more pools name most next n e some

pub length-zero : (pools : List PoolRow) (most : ℕ) (next : Option Name) → most ≡ 0 → 0 ≡ length (chain pools most next)
length-zero pools most next e = ap length (sym (ap (λ n. chain pools n next) e ∙ chain-zero pools next))

pub length-none : (pools : List PoolRow) (most : ℕ) (next : Option Name) → next ≡ None → 0 ≡ length (chain pools most next)
length-none pools most next e = ap length (sym (ap (λ o. chain pools most o) e ∙ chain-none pools most))

pub length-more : (pools : List PoolRow) (most : ℕ) (next : Option Name) (n : Name) → next ≡ Some n → 0 < most
    → 1 + length (chain pools (most - 1) (cascade_of pools n)) ≡ length (chain pools most next)
length-more pools most next n e some =
    let one : 1 + length (chain pools (most - 1) (cascade_of pools n)) ≡ length (n ∷ chain pools (most - 1) (cascade_of pools n)) = omega arith in
    one ∙ ap length (sym (ap (λ o. chain pools most o) e ∙ chain-more pools most n some))

-- whether a chain ends, a pool further
pub ends-more : (pools : List PoolRow) (most : ℕ) (next : Option Name) (n : Name) (r : PoolRow) → next ≡ Some n → 0 < most → pool_called pools n ≡ Some r
    → chain_ends pools (most - 1) r.cascade ≡ chain_ends pools most next
ends-more pools zero next n r e some found = absurd (omega arith)
ends-more pools (suc most) next n r e some found =
    let less : suc most - 1 ≡ most = omega arith in
    ap (λ k. chain_ends pools k r.cascade) less
    ∙ sym (ap (λ o. chain_ends pools (suc most) o) e ∙ ap (λ o. elim o [ None ↦ false | Some x ↦ chain_ends pools most x.cascade ]) found)

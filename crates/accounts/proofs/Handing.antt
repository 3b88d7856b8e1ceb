-- The accounts, as own bytes are handed out from the first query to the last.
use Rattle.std.proofs.Common.{◌≡◌, ◌≤◌, ◌<◌, ℕ, ◌+◌, ◌-◌, zero, suc, Bool, true, false, cond, Option, Some, None, List, [], ◌∷◌, ◌++◌, length, take, drop, set, get_or, remove, min, find, refl, ap, sym, ◌∙◌, arith, append_assoc, append-nil, drop-cons}
use Rattle.std.proofs.lemmas.List.{drop_all}
use Rattle.std.proofs.lemmas.List.Sums.{sum_by-cons, sum_by_push, sum_by-append}
use Rattle.rm_base.specs.declared.entry.Account.{Account}
use Rattle.rm_base.specs.declared.name.Name.{Name}
use Rattle.rm_base.specs.Name.{same_name, general}
use Rattle.rm_base.proofs.Names.{same_name-refl, same_name-eq, same_name-sym}
use Rattle.rm_rules.specs.declared.state.Holding.{Holding}
use Rattle.rm_rules.specs.declared.state.Reserve.{Reserve}
use Rattle.rm_rules.specs.Holdings.{Holdings}
use Rattle.rm_rules.specs.Accounting.{held_in, used, own, of_reserve, actual_of, own_of, account_behind, accounts_behind, accounts}
use Rattle.rm_rules.proofs.Taken.{found_passes}
use Rattle.accounts.specs.Numbers.{account_made, account_anew, used_before, recounted, size_in, account_at, accounts_at}
use Rattle.accounts.proofs.Places.{in_place}

-- what a list is from a place on
pub drop-here : {A : Type 0} (xs : List A) (i : ℕ) (x : A) → i < length xs → x ≡ get_or xs i x → drop i xs ≡ x ∷ drop (i + 1) xs
drop-here {A} xs i x within at =
    drop-cons xs i x within ∙ (ap (λ (z : A). z ∷ drop (suc i) xs) (sym at) ∙ ap (λ (n : ℕ). x ∷ drop n xs) (let e : suc i ≡ i + 1 = omega arith in e))

-- one turn of the pass over the accounts
pub recount-turn : (pool : Name) (size before : ℕ) (gs : List Holding) (rest new all : List Account) (i : ℕ) (g : Holding) (a : Account)
    → i < length gs → i < length rest → g ≡ get_or gs i g → a ≡ get_or rest i a → new ≡ set rest i (account_anew pool size before g a)
    → take i rest ++ recounted pool size before (drop i gs) (drop i rest) ≡ all
    → take (i + 1) new ++ recounted pool size (used_before pool before g) (drop (i + 1) gs) (drop (i + 1) new) ≡ all
recount-turn pool size before gs rest new all i g a within inside at_g at_a written so_far =
    let turn : recounted pool size before (drop i gs) (a ∷ drop (i + 1) rest) ≡ account_anew pool size before g a ∷ recounted pool size (used_before pool before g) (drop (i + 1) gs) (drop (i + 1) rest) =
    ap (λ (l : List Holding). recounted pool size before l (a ∷ drop (i + 1) rest)) (drop-here gs i g within at_g) in
    ap (λ (l : List Account). take (i + 1) l ++ recounted pool size (used_before pool before g) (drop (i + 1) gs) (drop (i + 1) l)) written
    ∙ in_place (recounted pool size before (drop i gs)) (recounted pool size (used_before pool before g) (drop (i + 1) gs)) rest all i a (account_anew pool size before g a) inside at_a turn so_far

pub recount-none : (pool : Name) (size before : ℕ) (gs : List Holding) (i : ℕ) → length gs ≤ i → recounted pool size before (drop i gs) [] ≡ []
recount-none pool size before gs i past = ap (λ (l : List Holding). recounted pool size before l []) (drop_all i gs past)

before-turn : (b : Bool) (before bytes : ℕ) → cond b (before + bytes) before ≤ before + bytes
before-turn true before bytes = omega arith
before-turn false before bytes = omega arith

pub before-most : (pool : Name) (before : ℕ) (g : Holding) → used_before pool before g ≤ before + g.bytes
before-most pool before g = before-turn (same_name g.pool pool) before g.bytes

-- what the pool uses of its own bytes is what it uses, within its size
own-turn : (gs : List Holding) (pool : Name) (o : Option Reserve) → ((e : Reserve) → o ≡ Some e → e.pool ≡ pool)
    → of_reserve (own gs) o ≡ min (used pool gs) (of_reserve (λ e. e.size) o)
own-turn gs pool None is = omega arith
own-turn gs pool (Some e) is = ap (λ (n : Name). min (used n gs) e.size) (is e refl)

pub own-is : (h : Holdings) (pool : Name) → own_of h pool ≡ min (used pool h.grants) (actual_of h pool)
own-is h pool =
    own-turn h.grants pool (find (λ e. same_name e.pool pool) h.reserves) (λ e found. same_name-eq e.pool pool (found_passes (λ (x : Reserve). same_name x.pool pool) e h.reserves found))

-- an account depends on the pool's size and on the grants before it alone
held-self : (g : Holding) → held_in g.pool g ≡ g.bytes
held-self g = ap {B = ℕ} (λ b. cond b g.bytes 0) (same_name-refl g.pool)

account-is : (h : Holdings) (before rest : List Holding) (g : Holding) → h.grants ≡ before ++ g ∷ rest → account_behind h before g ≡ account_at h.reserves before g
account-is h before rest g split =
    let all : used g.pool h.grants ≡ used g.pool before + (g.bytes + used g.pool rest) =
    omega (arith, ap (used g.pool) split, sum_by-append (held_in g.pool) before (g ∷ rest), sum_by-cons (held_in g.pool) g rest, held-self g) in
    let same : min g.bytes (own_of h g.pool - used g.pool before) ≡ min g.bytes (size_in h.reserves g.pool - used g.pool before) =
    omega (arith, own-is h g.pool, all) in
    ap (λ (n : ℕ). let own = cond (same_name g.pool general) g.bytes n in let a : Account = record { pool = g.pool; own = own; borrowed = g.bytes - own } in a) same

accounts-from : (h : Holdings) (before gs : List Holding) → h.grants ≡ before ++ gs → accounts_behind h before gs ≡ accounts_at h.reserves before gs
accounts-from h before [] split = refl
accounts-from h before (g ∷ gs) split =
    let one = account-is h before gs g split in
    let rest = accounts-from h (before ++ g ∷ []) gs (split ∙ sym (append_assoc before (g ∷ []) gs)) in
    λ j. one j ∷ rest j

pub accounts-are : (h : Holdings) → accounts h ≡ accounts_at h.reserves [] h.grants
accounts-are h = accounts-from h [] h.grants refl

-- one query more
pub accounts-push : (es : List Reserve) (before gs : List Holding) (g : Holding) → accounts_at es before (gs ++ g ∷ []) ≡ accounts_at es before gs ++ account_at es (before ++ gs) g ∷ []
accounts-push es before [] g = ap (λ (l : List Holding). account_at es l g ∷ []) (sym (append-nil before))
accounts-push es before (x ∷ gs) g =
    let rest = accounts-push es (before ++ x ∷ []) gs g in
    ap (λ l. account_at es before x ∷ l) (rest ∙ ap (λ (l : List Holding). accounts_at es (before ++ x ∷ []) gs ++ account_at es l g ∷ []) (append_assoc before (x ∷ []) gs))

pub accounts-length : (es : List Reserve) (before gs : List Holding) → length (accounts_at es before gs) ≡ length gs
accounts-length es before [] = refl
accounts-length es before (g ∷ gs) = omega (arith, accounts-length es (before ++ g ∷ []) gs)

-- Made anew, the accounts of a pool are those by its size now and by what of it stands before each now.
head-turn : (pool : Name) (size : ℕ) (es old_es : List Reserve) (before old : List Holding) (g : Holding) (b : Bool) → same_name g.pool pool ≡ b
    → size ≡ size_in es pool → (b ≡ false → size_in old_es g.pool ≡ size_in es g.pool) → (b ≡ false → used g.pool old ≡ used g.pool before)
    → cond b (account_made pool size (used pool before) g.bytes) (account_at old_es old g) ≡ account_at es before g
head-turn pool size es old_es before old g true here is sizes stands =
    ap (λ (n : ℕ). account_made pool n (used pool before) g.bytes) is
    ∙ ap (λ (n : Name). account_made n (size_in es n) (used n before) g.bytes) (sym (same_name-eq g.pool pool here))
head-turn pool size es old_es before old g false here is sizes stands =
    let s = sizes refl in let u = stands refl in λ j. account_made g.pool (s j) (u j) g.bytes

pub next-turn : (pool : Name) (before : List Holding) (g : Holding) (b : Bool) → same_name g.pool pool ≡ b
    → cond b (used pool before + g.bytes) (used pool before) ≡ used pool (before ++ g ∷ [])
next-turn pool before g true here = omega (arith, sum_by_push (held_in pool) before g, ap {B = ℕ} (λ b. cond b g.bytes 0) here)
next-turn pool before g false here = omega (arith, sum_by_push (held_in pool) before g, ap {B = ℕ} (λ b. cond b g.bytes 0) here)

push-same : (p : Name) (before old : List Holding) (g : Holding) → used p old ≡ used p before → used p (old ++ g ∷ []) ≡ used p (before ++ g ∷ [])
push-same p before old g same = omega (arith, same, sum_by_push (held_in p) before g, sum_by_push (held_in p) old g)

pub recount-all : (pool : Name) (size : ℕ) (es old_es : List Reserve) (before old gs : List Holding) → size ≡ size_in es pool
    → ((p : Name) → same_name p pool ≡ false → size_in old_es p ≡ size_in es p)
    → ((p : Name) → same_name p pool ≡ false → used p old ≡ used p before)
    → recounted pool size (used pool before) gs (accounts_at old_es old gs) ≡ accounts_at es before gs
recount-all pool size es old_es before old [] is sizes stands = refl
recount-all pool size es old_es before old (g ∷ gs) is sizes stands =
    let head = head-turn pool size es old_es before old g (same_name g.pool pool) refl is (sizes g.pool) (stands g.pool) in
    let rest = recount-all pool size es old_es (before ++ g ∷ []) (old ++ g ∷ []) gs is sizes (λ p other. push-same p before old g (stands p other)) in
    let next = ap (λ (n : ℕ). recounted pool size n gs (accounts_at old_es (old ++ g ∷ []) gs)) (next-turn pool before g (same_name g.pool pool) refl) ∙ rest in
    λ j. head j ∷ next j

other-held : (p : Name) (before : List Holding) (g : Holding) → same_name p g.pool ≡ false → used p (before ++ g ∷ []) ≡ used p before
other-held p before g other =
    omega (arith, sum_by_push (held_in p) before g, ap {B = ℕ} (λ b. cond b g.bytes 0) (same_name-sym g.pool p ∙ other))

-- so are those behind one that is gone
pub recount-gone : (pool : Name) (size : ℕ) (es : List Reserve) (before gs : List Holding) (i : ℕ) (g : Holding) → i < length gs → g ≡ get_or gs i g → g.pool ≡ pool
    → size ≡ size_in es pool → recounted pool size (used pool before) (remove gs i) (remove (accounts_at es before gs) i) ≡ accounts_at es before (remove gs i)
recount-gone pool size es before [] i g within at is sized = absurd (omega arith)
recount-gone pool size es before (x ∷ gs) zero g within at is sized =
    let same : x.pool ≡ pool = sym (ap (λ (y : Holding). y.pool) at) ∙ is in
    recount-all pool size es es before (before ++ x ∷ []) gs sized (λ p other. refl)
    (λ p other. other-held p before x (ap (same_name p) same ∙ other))
recount-gone pool size es before (x ∷ gs) (suc i) g within at is sized =
    let head = head-turn pool size es es before before x (same_name x.pool pool) refl sized (λ other. refl) (λ other. refl) in
    let rest = recount-gone pool size es (before ++ x ∷ []) gs i g (omega arith) at is sized in
    let next = ap (λ (n : ℕ). recounted pool size n (remove gs i) (remove (accounts_at es (before ++ x ∷ []) gs) i)) (next-turn pool before x (same_name x.pool pool) refl) ∙ rest in
    λ j. head j ∷ next j

-- A pool's kept usage, and the numbers after one query more and one less.
use Rattle.std.proofs.Common.{◌≡◌, ◌≤◌, ◌<◌, ℕ, ◌+◌, ◌-◌, Bool, true, false, cond, Option, Some, None, List, [], ◌∷◌, ◌++◌, length, map, get_or, take, remove, min, position, find, refl, ap, sym, subst, ◌∙◌, arith, zero, suc, append_assoc, append-nil}
use Rattle.std.specs.List.{list_any, list_all, position_or_len}
use Rattle.std.proofs.lemmas.Bool.{false≢true}
use Rattle.std.proofs.lemmas.List.Edits.{length-remove}
use Rattle.std.proofs.lemmas.List.Sums.{sum_by-cons, count_by-le-length}
use Rattle.rm_base.specs.declared.limits.TheConstants.{MEMORY_MOST}
use Rattle.rm_base.specs.declared.entry.Account.{Account}
use Rattle.rm_base.specs.declared.name.Name.{Name}
use Rattle.rm_base.specs.Name.{same_name, general}
use Rattle.rm_base.proofs.Names.{same_name-eq, same_name-sym}
use Rattle.rm_rules.specs.declared.state.Holding.{Holding}
use Rattle.rm_rules.specs.declared.state.Reserve.{Reserve}
use Rattle.rm_rules.specs.Holdings.{Holdings}
use Rattle.rm_rules.specs.State.{without}
use Rattle.rm_rules.specs.Accounting.{used, running_in, of_reserve, unused, unused_of, actual_of, lent, account_behind, accounts_behind, accounts}
use Rattle.rm_rules.specs.DropPool.{is_reserve_of}
use Rattle.rm_rules.proofs.Places.{position-within, position-is, without-found, find-found}
use Rattle.rm_rules.proofs.Taken.{and_left, and_right, or_both_false, found_passes, all_found}
use Rattle.accounts.specs.declared.numbers.Numbers.{Numbers}
use Rattle.accounts.specs.declared.numbers.Usage.{Usage}
use Rattle.accounts.specs.Accounts.{has_name, is_of, has_query, account_of, taken, given_back}
use Rattle.accounts.specs.Kept.{IsBalanced}
use Rattle.accounts.specs.Numbers.{usage_made, no_usage, usage_of, general_reserve, numbers_of, size_at, borrowed, usage_at, with_usage, account_made, recounted, size_in, account_at, accounts_at}
use Rattle.accounts.proofs.Changes.{Stands, stands, size-stands, usage_for, usage-stands, changed, lent-change, borrowed-most, only-push, used-more, running-more, only-without, used-less, running-less}
use Rattle.accounts.proofs.Handing.{accounts-are, accounts-length, accounts-push, recount-gone}
use Rattle.accounts.proofs.Keeping.{kept_given_back, unheld, same-number}
use Rattle.accounts.proofs.Moving.{position-present, has-reserve}
use Rattle.accounts.proofs.Seen.{account-found}
use Rattle.accounts.proofs.Sums.{used_held}

pub kept-seen : (n : Numbers) (h a : Holdings) → n ≡ numbers_of h → h ≡ a → n ≡ numbers_of a
kept-seen n h a kept same = kept ∙ ap numbers_of same

-- the usage of a pool that is found, and of GENERAL
pub usage-found : (a : Holdings) (pool : Name) (i : ℕ) → position (is_reserve_of pool) a.reserves ≡ Some i → Stands a.reserves pool (Some i)
    → get_or (map (usage_of a.grants) a.reserves) i no_usage ≡ usage_made (actual_of a pool) (used pool a.grants) (running_in pool a.grants)
usage-found a pool i at is =
    usage-stands a pool (Some i) is
    ∙ ap (λ (s : ℕ). usage_made s (used pool a.grants) (running_in pool a.grants)) (size-stands a.reserves pool (Some i) at)

pub usage-general : (a : Holdings) (pool : Name) → (let o : Option ℕ = None in position (is_reserve_of pool) a.reserves ≡ o) → pool ≡ general
    → usage_of a.grants general_reserve ≡ usage_made (actual_of a pool) (used pool a.grants) (running_in pool a.grants)
usage-general a pool at is =
    usage-stands a pool None is
    ∙ ap (λ (s : ℕ). usage_made s (used pool a.grants) (running_in pool a.grants)) (size-stands a.reserves pool None at)

-- in a pool that is not there no query runs
unrun-turn : (es : List Reserve) (pool : Name) (g : Holding) (b : Bool) → same_name g.pool pool ≡ b → has_name es pool ≡ false → has_name es g.pool ≡ true → ◌≡◌ {A = ℕ} (cond b 1 0) 0
unrun-turn es pool g true e absent there = absurd (false≢true (sym absent ∙ ap (λ n. has_name es n) (sym (same_name-eq g.pool pool e)) ∙ there))
unrun-turn es pool g false e absent there = refl

pub unrun : (es : List Reserve) (pool : Name) (gs : List Holding) → has_name es pool ≡ false → list_all (λ g. has_name es g.pool) gs ≡ true → running_in pool gs ≡ 0
unrun es pool [] absent known = refl
unrun es pool (g ∷ gs) absent known =
    omega (
      arith,
      sum_by-cons (λ (x : Holding). cond (same_name x.pool pool) 1 0) g gs,
      unrun-turn es pool g (same_name g.pool pool) refl absent (and_left (has_name es g.pool) _ known),
      unrun es pool gs absent (and_right (has_name es g.pool) _ known),
    )

none-there : (es : List Reserve) (pool : Name) (b : Bool) → list_any (is_reserve_of pool) es ≡ b → (let o : Option ℕ = None in position (is_reserve_of pool) es ≡ o) → list_any (is_reserve_of pool) es ≡ false
none-there es pool true e at = let some = position-present (is_reserve_of pool) es e in absurd (cc)
none-there es pool false e at = e

pub absent-name : (es : List Reserve) (pool : Name) → (let o : Option ℕ = None in position (is_reserve_of pool) es ≡ o) → same_name pool general ≡ false → has_name es pool ≡ false
absent-name es pool at user =
    or_both_false (same_name pool general) _ user (has-reserve pool es ∙ none-there es pool (list_any (is_reserve_of pool) es) refl at)

pub usage-absent : (a : Holdings) (pool : Name) → IsBalanced a → (let o : Option ℕ = None in position (is_reserve_of pool) a.reserves ≡ o) → same_name pool general ≡ false
    → no_usage ≡ usage_made (actual_of a pool) (used pool a.grants) (running_in pool a.grants)
usage-absent a pool k at user =
    let absent = absent-name a.reserves pool at user in
    let s : 0 ≡ actual_of a pool = size-stands a.reserves pool None at in
    let u : 0 ≡ used pool a.grants = sym (unheld a.reserves pool a.grants absent k.known) in
    let r : 0 ≡ running_in pool a.grants = sym (unrun a.reserves pool a.grants absent k.known) in
    λ j. usage_made (s j) (u j) (r j)

pub used-most : (a : Holdings) (pool : Name) → IsBalanced a → used pool a.grants ≤ MEMORY_MOST
used-most a pool k = omega (arith, used_held pool a.grants, k.granted, k.in_force_most)

pub running-most : (a : Holdings) (pool : Name) → running_in pool a.grants ≤ length a.grants
running-most a pool = count_by-le-length (λ (g : Holding). same_name g.pool pool) a.grants

-- what is read before a change: the pool's place, its size and its usage
pub record IsPlace (a : Holdings) (n : Numbers) (pool : Name) (o : Option ℕ) (size : ℕ) (u : Usage) : Type 0 where
  pub balanced : IsBalanced a
  pub kept : n ≡ numbers_of a
  pub at : position (is_reserve_of pool) a.reserves ≡ o
  pub there : has_name a.reserves pool ≡ true
  pub size_is : size ≡ size_at a.reserves o
  pub usage_is : u ≡ usage_at n o

pub place-stands : (a : Holdings) (n : Numbers) (pool : Name) (o : Option ℕ) (size : ℕ) (u : Usage) → IsPlace a n pool o size u → Stands a.reserves pool o
place-stands a n pool o size u p = stands a.reserves pool o p.at p.there

pub place-usage : (a : Holdings) (n : Numbers) (pool : Name) (o : Option ℕ) (size : ℕ) (u : Usage) → IsPlace a n pool o size u → u ≡ usage_for a.reserves pool o a.grants
place-usage a n pool o size u p = p.usage_is ∙ ap (λ (m : Numbers). usage_at m o) p.kept ∙ usage-stands a pool o (place-stands a n pool o size u p)

pub place-used : (a : Holdings) (n : Numbers) (pool : Name) (o : Option ℕ) (size : ℕ) (u : Usage) → IsPlace a n pool o size u → u.used ≡ used pool a.grants
place-used a n pool o size u p = ap (λ (x : Usage). x.used) (place-usage a n pool o size u p)

pub place-running : (a : Holdings) (n : Numbers) (pool : Name) (o : Option ℕ) (size : ℕ) (u : Usage) → IsPlace a n pool o size u → u.running ≡ running_in pool a.grants
place-running a n pool o size u p = ap (λ (x : Usage). x.running) (place-usage a n pool o size u p)

pub place-borrowed : (a : Holdings) (n : Numbers) (pool : Name) (o : Option ℕ) (size : ℕ) (u : Usage) → IsPlace a n pool o size u → borrowed (usage_at n o) ≤ n.lent
place-borrowed a n pool o size u p =
    let is : borrowed (usage_at n o) ≡ borrowed (usage_for a.reserves pool o a.grants) =
    ap (λ (m : Numbers). borrowed (usage_at m o)) p.kept ∙ ap borrowed (usage-stands a pool o (place-stands a n pool o size u p)) in
    omega (arith, is, borrowed-most a pool o (place-stands a n pool o size u p), ap (λ (m : Numbers). m.lent) p.kept)

pub kept-small : (a : Holdings) (n : Numbers) → IsBalanced a → n ≡ numbers_of a → n.lent + n.free ≤ MEMORY_MOST
kept-small a n k kept =
    omega (arith, k.within, k.in_force_most, ap (λ (m : Numbers). m.lent) kept, ap (λ (m : Numbers). m.free) kept)

-- one query more
pub taken-most : (a : Holdings) (n : Numbers) (query : ℕ) (pool : Name) (bytes : ℕ) (o : Option ℕ) (size : ℕ) (u : Usage) → IsPlace a n pool o size u → IsBalanced (taken a query pool bytes)
    → u.used + bytes ≤ MEMORY_MOST
taken-most a n query pool bytes o size u p k =
    let g : Holding = record { query = query; pool = pool; bytes = bytes } in
    omega (arith, place-used a n pool o size u p, used-more a.grants g, used-most (taken a query pool bytes) pool k)

put-accounts : (n : Numbers) (o : Option ℕ) (u : Usage) → (with_usage n o u).accounts ≡ n.accounts
put-accounts n None u = refl
put-accounts n (Some i) u = refl

pub put-length : (a : Holdings) (n n1 : Numbers) (o : Option ℕ) (u : Usage) → n ≡ numbers_of a → n1 ≡ with_usage n o u → length n1.accounts ≡ length a.grants
put-length a n n1 o u kept put =
    ap (λ (m : Numbers). length m.accounts) put
    ∙ ap (λ (l : List Account). length l) (put-accounts n o u)
    ∙ ap (λ (m : Numbers). length m.accounts) kept
    ∙ ap (λ (l : List Account). length l) (accounts-are a)
    ∙ accounts-length a.reserves [] a.grants

pub numbers-taken : (a : Holdings) (n n1 : Numbers) (query : ℕ) (pool : Name) (bytes : ℕ) (o : Option ℕ) (size : ℕ) (u now : Usage) (account : Account) (listed : List Account)
    → IsPlace a n pool o size u → IsBalanced (taken a query pool bytes)
    → now ≡ usage_made size (u.used + bytes) (u.running + 1) → n1 ≡ with_usage n o now
    → account ≡ account_made pool size u.used bytes → listed ≡ n1.accounts ++ account ∷ []
    → (let after : Numbers = record n1 { accounts = listed } in after ≡ numbers_of (taken a query pool bytes))
numbers-taken a n n1 query pool bytes o size u now account listed p k now_is put account_is added =
    let g : Holding = record { query = query; pool = pool; bytes = bytes } in
    let new = a.grants ++ g ∷ [] in
    let is = place-stands a n pool o size u p in
    let used_now : u.used + bytes ≡ used pool new = ap (λ (m : ℕ). m + bytes) (place-used a n pool o size u p) ∙ sym (used-more a.grants g) in
    let run_now : u.running + 1 ≡ running_in pool new = ap (λ (m : ℕ). m + 1) (place-running a n pool o size u p) ∙ sym (running-more a.grants g) in
    let usage_now : now ≡ usage_for a.reserves pool o new = now_is ∙ (λ j. usage_made (p.size_is j) (used_now j) (run_now j)) in
    let after : Numbers = record (numbers_of (taken a query pool bytes)) { accounts = accounts a } in
    let all : n1 ≡ after = put ∙ (λ j. with_usage (p.kept j) o (usage_now j)) ∙ changed a new pool o p.balanced.names_distinct is (only-push a.grants g) p.balanced.within k.within in
    let sized : size ≡ size_in a.reserves pool = p.size_is ∙ size-stands a.reserves pool o p.at in
    let one : account ≡ account_at a.reserves a.grants g = account_is ∙ (λ j. account_made pool (sized j) (place-used a n pool o size u p j) bytes) in
    let made : List Account → Account → List Account = λ l x. l ++ x ∷ [] in
    let accounts_now : listed ≡ accounts (taken a query pool bytes) =
    added
    ∙ (λ j. made ((ap (λ (m : Numbers). m.accounts) all ∙ accounts-are a) j) (one j))
    ∙ sym (accounts-push a.reserves [] a.grants g)
    ∙ sym (accounts-are (taken a query pool bytes)) in
    let put_accounts : Numbers → List Account → Numbers = λ m l. record m { accounts = l } in
    λ j. put_accounts (all j) (accounts_now j)

-- one query less
pub numbers-given : (a : Holdings) (n n1 : Numbers) (query i : ℕ) (g : Holding) (o : Option ℕ) (size : ℕ) (u now : Usage) (rest : List Holding) (left listed : List Account)
    → IsPlace a n g.pool o size u → position (is_of query) a.grants ≡ Some i → g ≡ get_or a.grants i g
    → now ≡ usage_made size (u.used - g.bytes) (u.running - 1) → n1 ≡ with_usage n o now
    → rest ≡ remove a.grants i → left ≡ remove n1.accounts i → listed ≡ recounted g.pool size 0 rest left
    → (let after : Numbers = record n1 { accounts = listed } in after ≡ numbers_of (given_back a query))
numbers-given a n n1 query i g o size u now rest left listed p found at now_is put rest_is left_is counted =
    let pool = g.pool in
    let new = without (is_of query) a.grants in
    let is = place-stands a n pool o size u p in
    let some : find (is_of query) a.grants ≡ Some g = find-found (is_of query) a.grants i g found at in
    let used_now : u.used - g.bytes ≡ used pool new = omega (arith, place-used a n pool o size u p, used-less a.grants query g some) in
    let run_now : u.running - 1 ≡ running_in pool new = omega (arith, place-running a n pool o size u p, running-less a.grants query g some) in
    let usage_now : now ≡ usage_for a.reserves pool o new = now_is ∙ (λ j. usage_made (p.size_is j) (used_now j) (run_now j)) in
    let after : Numbers = record (numbers_of (given_back a query)) { accounts = accounts a } in
    let k = kept_given_back a query p.balanced in
    let all : n1 ≡ after = put ∙ (λ j. with_usage (p.kept j) o (usage_now j)) ∙ changed a new pool o p.balanced.names_distinct is (only-without a.grants query g some) p.balanced.within k.within in
    let sized : size ≡ size_in a.reserves pool = p.size_is ∙ size-stands a.reserves pool o p.at in
    let within : i < length a.grants = omega (arith, position-within (is_of query) a.grants i found, position-is (is_of query) a.grants i found) in
    let gone : rest ≡ new = rest_is ∙ sym (without-found (is_of query) a.grants i found) in
    let before : left ≡ remove (accounts_at a.reserves [] a.grants) i = left_is ∙ ap (λ (m : Numbers). remove m.accounts i) all ∙ ap (λ (l : List Account). remove l i) (accounts-are a) in
    let accounts_now : listed ≡ accounts (given_back a query) =
    counted
    ∙ (λ j. recounted pool size 0 (rest_is j) (before j))
    ∙ recount-gone pool size a.reserves [] a.grants i g within at refl sized
    ∙ ap (accounts_at a.reserves []) (sym (without-found (is_of query) a.grants i found))
    ∙ sym (accounts-are (given_back a query)) in
    let put_accounts : Numbers → List Account → Numbers = λ m l. record m { accounts = l } in
    λ j. put_accounts (all j) (accounts_now j)

-- what of its own bytes a pool does not use
unused-turn : (gs : List Holding) (pool : Name) (o : Option Reserve) → ((e : Reserve) → o ≡ Some e → e.pool ≡ pool)
    → of_reserve (unused gs) o ≡ of_reserve (λ e. e.size) o - min (used pool gs) (of_reserve (λ e. e.size) o)
unused-turn gs pool None is = omega arith
unused-turn gs pool (Some e) is = ap (λ (n : Name). e.size - min (used n gs) e.size) (is e refl)

pub unused-is : (a : Holdings) (pool : Name) → unused_of a pool ≡ actual_of a pool - min (used pool a.grants) (actual_of a pool)
unused-is a pool =
    unused-turn a.grants pool (find (is_reserve_of pool) a.reserves) (λ e found. same_name-eq e.pool pool (found_passes (is_reserve_of pool) e a.reserves found))

-- the account in a place
account-turn : (h : Holdings) (before gs : List Holding) (i : ℕ) (d : Account) (g : Holding) → i < length gs → g ≡ get_or gs i g
    → get_or (accounts_behind h before gs) i d ≡ account_behind h (before ++ take i gs) g
account-turn h before [] i d g within at = absurd (omega arith)
account-turn h before (x ∷ gs) zero d g within at =
    let front = sym (append-nil before) in let one = sym at in λ j. account_behind h (front j) (one j)
account-turn h before (x ∷ gs) (suc i) d g within at =
    account-turn h (before ++ x ∷ []) gs i d g (omega arith) at ∙ ap (λ (l : List Holding). account_behind h l g) (append_assoc before (x ∷ []) (take i gs))

pub any-default : {A : Type 0} (xs : List A) (i : ℕ) (d e : A) → i < length xs → get_or xs i d ≡ get_or xs i e
any-default [] i d e within = absurd (omega arith)
any-default (x ∷ xs) zero d e within = refl
any-default (x ∷ xs) (suc i) d e within = any-default xs i d e (omega arith)

pub account-kept : (a : Holdings) (listed : List Account) (query i : ℕ) (x : Account) → listed ≡ accounts a → position (is_of query) a.grants ≡ Some i → x ≡ get_or listed i x
    → x ≡ account_of a query
account-kept a listed query i x same found at =
    let within : i < length a.grants = omega (arith, position-within (is_of query) a.grants i found, position-is (is_of query) a.grants i found) in
    let none : Holding = record { query = 0; pool = general; bytes = 0 } in
    let g = get_or a.grants i none in
    let here : g ≡ get_or a.grants i g = any-default a.grants i none g within in
    at
    ∙ ap (λ (l : List Account). get_or l i x) same
    ∙ account-turn a [] a.grants i x g within here
    ∙ account-found a a.grants query i g refl found here

-- the place of a running query's pool
pub grant-here : (h a : Holdings) (gs : List Holding) (i : ℕ) (g : Holding) → h ≡ a → gs ≡ h.grants → g ≡ get_or gs i g → g ≡ get_or a.grants i g
grant-here h a gs i g same read at = at ∙ ap (λ (l : List Holding). get_or l i g) (read ∙ ap (λ (x : Holdings). x.grants) same)

pub place-of-grant : (h a : Holdings) (n : Numbers) (gs : List Holding) (query i : ℕ) (g : Holding) (o : Option ℕ) (size : ℕ) (u : Usage) → IsBalanced h → n ≡ numbers_of h → h ≡ a
    → gs ≡ h.grants → position (is_of query) a.grants ≡ Some i → g ≡ get_or gs i g
    → o ≡ position (is_reserve_of g.pool) a.reserves → size ≡ size_at a.reserves o → u ≡ usage_at n o → IsPlace a n g.pool o size u
place-of-grant h a n gs query i g o size u k kept same read found at place sized used_there =
    let now = subst IsBalanced same k in
    let some = find-found (is_of query) a.grants i g found (grant-here h a gs i g same read at) in
    record {
      balanced = now;
      kept = kept-seen n h a kept same;
      at = sym place;
      there = all_found (λ (x : Holding). has_name a.reserves x.pool) (is_of query) a.grants g now.known some;
      size_is = sized;
      usage_is = used_there;
    }

pub given-used : (a : Holdings) (n : Numbers) (query i : ℕ) (g : Holding) (o : Option ℕ) (size : ℕ) (u : Usage) → IsPlace a n g.pool o size u
    → position (is_of query) a.grants ≡ Some i → g ≡ get_or a.grants i g → (g.bytes ≤ u.used) × (1 ≤ u.running)
given-used a n query i g o size u p found at =
    let some = find-found (is_of query) a.grants i g found at in
    (omega (arith, place-used a n g.pool o size u p, used-less a.grants query g some), omega (arith, place-running a n g.pool o size u p, running-less a.grants query g some))

-- there is room again
pub room-left : (gs : List Holding) (query : ℕ) → has_query gs query ≡ true → length (without (is_of query) gs) + 1 ≡ length gs
room-left gs query runs =
    let i = position_or_len (is_of query) gs in
    let at : position (is_of query) gs ≡ Some i = position-present (is_of query) gs runs in
    let within : i < length gs = position-within (is_of query) gs i at in
    ap (λ (l : List Holding). length l + 1) (without-found (is_of query) gs i at) ∙ length-remove gs i within

-- the usage of a pool with a running query taken out
pub beside-used : (a : Holdings) (g : Holding) (pool : Name) → find (is_of g.query) a.grants ≡ Some g → g.pool ≡ pool
    → (used pool (without (is_of g.query) a.grants) + g.bytes ≡ used pool a.grants) × (running_in pool (without (is_of g.query) a.grants) + 1 ≡ running_in pool a.grants)
beside-used a g pool some is =
    let gs = a.grants in
    let new = without (is_of g.query) gs in (
      omega (arith, used-less gs g.query g some, ap (λ (n : Name). used n gs) is, ap (λ (n : Name). used n new) is),
      omega (arith, running-less gs g.query g some, ap (λ (n : Name). running_in n gs) is, ap (λ (n : Name). running_in n new) is),
    )

pub beside-other : (a : Holdings) (g : Holding) (pool : Name) → find (is_of g.query) a.grants ≡ Some g → same_name g.pool pool ≡ false
    → usage_made (actual_of a pool) (used pool a.grants) (running_in pool a.grants)
    ≡ usage_made (actual_of a pool) (used pool (without (is_of g.query) a.grants)) (running_in pool (without (is_of g.query) a.grants))
beside-other a g pool some other =
    let only = only-without a.grants g.query g some in
    let away = same_name-sym pool g.pool ∙ other in
    let u = sym (only.use_same pool away) in
    let r = sym (only.run_same pool away) in
    λ j. usage_made (actual_of a pool) (u j) (r j)

-- GENERAL's use with it taken out
pub record IsLess (a : Holdings) (query : ℕ) (g : Holding) (home left : ℕ) : Type 0 where
  pub less : left ≤ home
  pub lends : home ≤ lent a
  pub lent_less : lent (given_back a query) + home ≡ lent a + left
  pub within : (given_back a query).in_force ≡ a.in_force

pub lent-given : (a : Holdings) (query : ℕ) (g : Holding) → IsBalanced a → find (is_of query) a.grants ≡ Some g
    → IsLess a query g (borrowed (usage_made (actual_of a g.pool) (used g.pool a.grants) (running_in g.pool a.grants)))
    (borrowed (usage_made (actual_of a g.pool) (used g.pool (without (is_of query) a.grants)) (running_in g.pool (without (is_of query) a.grants))))
lent-given a query g k some =
    let gs = a.grants in
    let new = without (is_of query) gs in
    let o = position (is_reserve_of g.pool) a.reserves in
    let there = all_found (λ (x : Holding). has_name a.reserves x.pool) (is_of query) gs g k.known some in
    let is = stands a.reserves g.pool o refl there in
    let sized = size-stands a.reserves g.pool o refl in
    let before : borrowed (usage_for a.reserves g.pool o gs) ≡ borrowed (usage_made (actual_of a g.pool) (used g.pool gs) (running_in g.pool gs)) =
    ap (λ (s : ℕ). borrowed (usage_made s (used g.pool gs) (running_in g.pool gs))) sized in
    let after : borrowed (usage_for a.reserves g.pool o new) ≡ borrowed (usage_made (actual_of a g.pool) (used g.pool new) (running_in g.pool new)) =
    ap (λ (s : ℕ). borrowed (usage_made s (used g.pool new) (running_in g.pool new))) sized in
    let change = lent-change a new g.pool o k.names_distinct is (only-without gs query g some) in
    record {
      less = omega (arith, used-less gs query g some);
      lends = omega (arith, before, borrowed-most a g.pool o is);
      lent_less = omega (arith, before, after, change);
      within = refl;
    }

pub query-found : (gs : List Holding) (query : ℕ) (g : Holding) → find (is_of query) gs ≡ Some g → find (is_of g.query) gs ≡ Some g
query-found gs query g some = ap (λ (n : ℕ). find (is_of n) gs) (same-number g.query query (found_passes (is_of query) g gs some)) ∙ some

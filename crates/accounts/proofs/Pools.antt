-- The numbers after one pool more, one less, and other sizes.
use Rattle.std.proofs.Common.{◌≡◌, ℕ, ◌+◌, ◌-◌, zero, suc, Bool, true, false, cond, Some, None, List, [], ◌∷◌, ◌++◌, length, map, get_or, remove, min, position, find, refl, ap, sym, ◌∙◌, arith, sum_by}
use Rattle.std.specs.List.{list_any}
use Rattle.std.proofs.lemmas.List.{length-map, map-append}
use Rattle.std.proofs.lemmas.List.Sums.{sum_by-cons, sum_by_push}
use Rattle.rm_base.specs.declared.entry.Account.{Account}
use Rattle.rm_base.specs.declared.name.Name.{Name}
use Rattle.rm_base.specs.Name.{same_name, general}
use Rattle.rm_base.proofs.Names.{same_name-refl, same_name-eq, same_name-sym}
use Rattle.rm_rules.specs.declared.state.Holding.{Holding}
use Rattle.rm_rules.specs.declared.state.Reserve.{Reserve}
use Rattle.rm_rules.specs.Holdings.{Holdings, reserve_names}
use Rattle.rm_rules.specs.State.{without}
use Rattle.rm_rules.specs.Accounting.{used, running_in, debt, of_reserve, lent, free, kept_back, accounts}
use Rattle.rm_rules.specs.DropPool.{is_reserve_of, holding_beside, folded}
use Rattle.rm_rules.proofs.Bytes.{apart, apart-rest}
use Rattle.rm_rules.proofs.Folding.{still-apart, gone}
use Rattle.rm_rules.proofs.Places.{without-found}
use Rattle.rm_rules.proofs.Pools.{sum_by-map}
use Rattle.rm_rules.proofs.Taken.{or_left_false, or_right_false, sum_without}
use Rattle.accounts.specs.declared.numbers.Numbers.{Numbers}
use Rattle.accounts.specs.declared.numbers.Usage.{Usage}
use Rattle.accounts.specs.Accounts.{has_name, with_pool}
use Rattle.accounts.specs.Kept.{IsBalanced}
use Rattle.accounts.specs.Numbers.{usage_made, no_usage, usage_of, general_reserve, numbers_of, borrowed, usages_folded, usages_resized, account_made, account_anew, used_before, recounted, size_in, account_at, accounts_at}
use Rattle.accounts.proofs.Changes.{stands-found, usage_for, usage-stands, found-at}
use Rattle.accounts.proofs.Handing.{accounts-are}
use Rattle.accounts.proofs.Keeping.{unheld}
use Rattle.accounts.proofs.Usages.{unrun}

-- equal sizes give equal accounts
pub accounts-sized : (es new : List Reserve) (before gs : List Holding) → ((p : Name) → size_in new p ≡ size_in es p) → accounts_at new before gs ≡ accounts_at es before gs
accounts-sized es new before [] same = refl
accounts-sized es new before (g ∷ gs) same =
    let one = same g.pool in
    let rest = accounts-sized es new (before ++ g ∷ []) gs same in
    λ j. account_made g.pool (one j) (used g.pool before) g.bytes ∷ rest j

-- a pool without bytes more
empty-turn : (x : Reserve) (b : Bool) → x.size ≡ 0 → of_reserve (λ e. e.size) (cond b (Some x) None) ≡ 0
empty-turn x true none = none
empty-turn x false none = refl

size-turn : (e : Reserve) (es new : List Reserve) (p : Name) (b : Bool) → size_in new p ≡ size_in es p
    → of_reserve (λ x. x.size) (cond b (Some e) (find (λ x. same_name x.pool p) new)) ≡ of_reserve (λ x. x.size) (cond b (Some e) (find (λ x. same_name x.pool p) es))
size-turn e es new p true same = refl
size-turn e es new p false same = same

size-push : (es : List Reserve) (x : Reserve) (p : Name) → x.size ≡ 0 → size_in (es ++ x ∷ []) p ≡ size_in es p
size-push [] x p none = empty-turn x (same_name x.pool p) none
size-push (e ∷ es) x p none = size-turn e es (es ++ x ∷ []) p (same_name e.pool p) (size-push es x p none)

pub numbers-added : (a : Holdings) (n : Numbers) (pool : Name) (usages : List Usage) → IsBalanced a → has_name a.reserves pool ≡ false → n ≡ numbers_of a → usages ≡ n.usages ++ no_usage ∷ []
    → (let after : Numbers = record n { usages = usages } in after ≡ numbers_of (with_pool a pool))
numbers-added a n pool usages k absent kept added =
    let x : Reserve = record { pool = pool; size = 0 } in
    let es = a.reserves in
    let u : 0 ≡ used pool a.grants = sym (unheld es pool a.grants absent k.known) in
    let r : 0 ≡ running_in pool a.grants = sym (unrun es pool a.grants absent k.known) in
    let one : no_usage ≡ usage_of a.grants x = λ j. usage_made 0 (u j) (r j) in
    let push : List Usage → Usage → List Usage = λ l y. l ++ y ∷ [] in
    let us : usages ≡ map (usage_of a.grants) (es ++ x ∷ []) =
    added ∙ (λ j. push ((kept j).usages) (one j)) ∙ sym (map-append (usage_of a.grants) es (x ∷ [])) in
    let lends : lent a ≡ lent (with_pool a pool) = omega (arith, sum_by_push (debt a.grants) es x, u) in
    let backs : kept_back es ≡ kept_back (es ++ x ∷ []) = omega (arith, sum_by_push (λ (e : Reserve). e.size) es x) in
    let frees : free a ≡ free (with_pool a pool) = λ j. (a.in_force - backs j) - lends j in
    let handed : accounts a ≡ accounts (with_pool a pool) =
    accounts-are a ∙ sym (accounts-sized es (es ++ x ∷ []) [] a.grants (λ p. size-push es x p refl)) ∙ sym (accounts-are (with_pool a pool)) in
    let made : List Usage → Usage → ℕ → ℕ → List Account → Numbers = λ us g l f xs. record { usages = us; general = g; lent = l; free = f; accounts = xs } in
    (λ j. made (us j) ((kept j).general) ((kept j).lent) ((kept j).free) ((kept j).accounts))
    ∙ (λ j. made (map (usage_of a.grants) (es ++ x ∷ [])) (usage_of a.grants general_reserve) (lends j) (frees j) (handed j))

-- what becomes of a sum over the queries of a pool, as the queries of another pool become GENERAL's
abbrev weighed : Name → ℕ → Name → ℕ
weighed p n q = cond (same_name q p) n 0

weighed-other : (p pool q : Name) (n : ℕ) (b : Bool) → same_name q pool ≡ b → same_name p pool ≡ false → same_name p general ≡ false → weighed p n (cond b general q) ≡ weighed p n q
weighed-other p pool q n true here other user =
    let away : same_name q p ≡ false = ap (λ (m : Name). same_name m p) (same_name-eq q pool here) ∙ same_name-sym pool p ∙ other in
    ap (λ c. cond c n 0) (same_name-sym general p ∙ user) ∙ sym (ap (λ c. cond c n 0) away)
weighed-other p pool q n false here other user = refl

weighed-general : (pool q : Name) (n : ℕ) (b : Bool) → same_name q pool ≡ b → same_name pool general ≡ false → weighed general n (cond b general q) ≡ weighed general n q + weighed pool n q
weighed-general pool q n true here user =
    let away : same_name q general ≡ false = ap (λ (m : Name). same_name m general) (same_name-eq q pool here) ∙ user in
    omega (
      arith,
      ap {B = ℕ} (λ c. cond c n 0) (same_name-refl general),
      ap {B = ℕ} (λ c. cond c n 0) away,
      ap {B = ℕ} (λ c. cond c n 0) here,
    )
weighed-general pool q n false here user = omega (arith, ap {B = ℕ} (λ c. cond c n 0) here)

abbrev handed : Name → List Holding → List Holding
handed pool gs = map (holding_beside pool) gs

abbrev bytes_in : Name → Holding → ℕ
bytes_in p g = weighed p g.bytes g.pool

abbrev one_in : Name → Holding → ℕ
one_in p g = weighed p 1 g.pool

used-other : (p pool : Name) (gs : List Holding) → same_name p pool ≡ false → same_name p general ≡ false → used p (handed pool gs) ≡ used p gs
used-other p pool [] other user = refl
used-other p pool (g ∷ gs) other user =
    omega (
      arith,
      sum_by-cons (bytes_in p) (holding_beside pool g) (handed pool gs),
      sum_by-cons (bytes_in p) g gs,
      weighed-other p pool g.pool g.bytes (same_name g.pool pool) refl other user,
      used-other p pool gs other user,
    )

running-other : (p pool : Name) (gs : List Holding) → same_name p pool ≡ false → same_name p general ≡ false → running_in p (handed pool gs) ≡ running_in p gs
running-other p pool [] other user = refl
running-other p pool (g ∷ gs) other user =
    omega (
      arith,
      sum_by-cons (one_in p) (holding_beside pool g) (handed pool gs),
      sum_by-cons (one_in p) g gs,
      weighed-other p pool g.pool 1 (same_name g.pool pool) refl other user,
      running-other p pool gs other user,
    )

used-general : (pool : Name) (gs : List Holding) → same_name pool general ≡ false → used general (handed pool gs) ≡ used general gs + used pool gs
used-general pool [] user = refl
used-general pool (g ∷ gs) user =
    omega (
      arith,
      sum_by-cons (bytes_in general) (holding_beside pool g) (handed pool gs),
      sum_by-cons (bytes_in general) g gs,
      sum_by-cons (bytes_in pool) g gs,
      weighed-general pool g.pool g.bytes (same_name g.pool pool) refl user,
      used-general pool gs user,
    )

running-general : (pool : Name) (gs : List Holding) → same_name pool general ≡ false → running_in general (handed pool gs) ≡ running_in general gs + running_in pool gs
running-general pool [] user = refl
running-general pool (g ∷ gs) user =
    omega (
      arith,
      sum_by-cons (one_in general) (holding_beside pool g) (handed pool gs),
      sum_by-cons (one_in general) g gs,
      sum_by-cons (one_in pool) g gs,
      weighed-general pool g.pool 1 (same_name g.pool pool) refl user,
      running-general pool gs user,
    )

-- the usages of the other pools
remove-map : {A B : Type 0} (f : A → B) (xs : List A) (i : ℕ) → remove (map f xs) i ≡ map f (remove xs i)
remove-map f [] zero = refl
remove-map f [] (suc i) = refl
remove-map f (x ∷ xs) zero = refl
remove-map f (x ∷ xs) (suc i) = ap (λ l. f x ∷ l) (remove-map f xs i)

usages-other : (pool : Name) (gs : List Holding) (es : List Reserve) → list_any (same_name pool) (reserve_names es) ≡ false → list_any (same_name general) (reserve_names es) ≡ false
    → map (usage_of gs) es ≡ map (usage_of (handed pool gs)) es
usages-other pool gs [] away user = refl
usages-other pool gs (e ∷ es) away user =
    let other = same_name-sym e.pool pool ∙ or_left_false (same_name pool e.pool) _ away in
    let own = same_name-sym e.pool general ∙ or_left_false (same_name general e.pool) _ user in
    let u = sym (used-other e.pool pool gs other own) in
    let r = sym (running-other e.pool pool gs other own) in
    let rest = usages-other pool gs es (or_right_false (same_name pool e.pool) _ away) (or_right_false (same_name general e.pool) _ user) in
    λ j. usage_made e.size (u j) (r j) ∷ rest j

-- the sizes of the other pools
size-less-turn : (e : Reserve) (es : List Reserve) (pool p : Name) (b c : Bool) → same_name e.pool pool ≡ b → same_name e.pool p ≡ c → same_name p pool ≡ false
    → size_in (without (is_reserve_of pool) es) p ≡ size_in es p
    → size_in (cond b es (e ∷ without (is_reserve_of pool) es)) p ≡ of_reserve (λ x. x.size) (cond c (Some e) (find (λ x. same_name x.pool p) es))
size-less-turn e es pool p true true here there other rest =
    let clash : same_name p pool ≡ true = ap (λ (m : Name). same_name m pool) (sym (same_name-eq e.pool p there)) ∙ here in absurd (cc)
size-less-turn e es pool p true false here there other rest = refl
size-less-turn e es pool p false true here there other rest = ap (λ d. of_reserve (λ x. x.size) (cond d (Some e) (find (λ x. same_name x.pool p) (without (is_reserve_of pool) es)))) there
size-less-turn e es pool p false false here there other rest =
    ap (λ d. of_reserve (λ x. x.size) (cond d (Some e) (find (λ x. same_name x.pool p) (without (is_reserve_of pool) es)))) there ∙ rest

size-less : (es : List Reserve) (pool p : Name) → same_name p pool ≡ false → size_in (without (is_reserve_of pool) es) p ≡ size_in es p
size-less [] pool p other = refl
size-less (e ∷ es) pool p other = size-less-turn e es pool p (same_name e.pool pool) (same_name e.pool p) refl refl other (size-less es pool p other)

-- GENERAL's queries hold whole own bytes
whole : (pool : Name) (size size2 before before2 bytes : ℕ) → same_name pool general ≡ true → account_made pool size before bytes ≡ account_made pool size2 before2 bytes
whole pool size size2 before before2 bytes is =
    let made : Bool → ℕ → Account = λ b n. let own = cond b bytes n in record { pool = pool; own = own; borrowed = bytes - own } in
    ap (λ b. made b (min bytes (size - before))) is ∙ sym (ap (λ b. made b (min bytes (size2 - before2))) is)

handed-turn : (pool : Name) (es : List Reserve) (b : ℕ) (old : List Holding) (g : Holding) (t s : Bool) → same_name g.pool pool ≡ t → same_name g.pool general ≡ s
    → same_name pool general ≡ false
    → (let h : Holding = record g { pool = cond t general g.pool } in
    account_anew general 0 b h (account_at es old g) ≡ account_at (without (is_reserve_of pool) es) (handed pool old) h)
handed-turn pool es b old g true s here there user =
    let h : Holding = record g { pool = general } in
    let a = account_at es old g in
    ap (λ c. cond c (account_made general 0 b g.bytes) a) (same_name-refl general)
    ∙ whole general 0 (size_in (without (is_reserve_of pool) es) general) b (used general (handed pool old)) g.bytes (same_name-refl general)
handed-turn pool es b old g false true here there user =
    let a = account_at es old g in
    ap (λ c. cond c (account_made general 0 b g.bytes) a) there
    ∙ ap (λ (n : Name). account_made n 0 b g.bytes) (sym (same_name-eq g.pool general there))
    ∙ whole g.pool 0 (size_in (without (is_reserve_of pool) es) g.pool) b (used g.pool (handed pool old)) g.bytes there
handed-turn pool es b old g false false here there user =
    let a = account_at es old g in
    let sized = sym (size-less es pool g.pool here) in
    let stands = sym (used-other g.pool pool old here there) in
    ap (λ c. cond c (account_made general 0 b g.bytes) a) there ∙ (λ j. account_made g.pool (sized j) (stands j) g.bytes)

recount-handed : (pool : Name) (es : List Reserve) (b : ℕ) (old gs : List Holding) → same_name pool general ≡ false
    → recounted general 0 b (handed pool gs) (accounts_at es old gs) ≡ accounts_at (without (is_reserve_of pool) es) (handed pool old) (handed pool gs)
recount-handed pool es b old [] user = refl
recount-handed pool es b old (g ∷ gs) user =
    let head = handed-turn pool es b old g (same_name g.pool pool) (same_name g.pool general) refl refl user in
    let rest = recount-handed pool es (used_before general b (holding_beside pool g)) (old ++ g ∷ []) gs user
    ∙ ap (λ (l : List Holding). accounts_at (without (is_reserve_of pool) es) l (handed pool gs)) (map-append (holding_beside pool) old (g ∷ [])) in
    λ j. head j ∷ rest j

-- a pool less
pub numbers-folded : (a : Holdings) (n n1 : Numbers) (pool : Name) (i size : ℕ) (new : List Holding) (listed : List Account) → IsBalanced a → n ≡ numbers_of a
    → same_name pool general ≡ false → position (is_reserve_of pool) a.reserves ≡ Some i → size ≡ (get_or a.reserves i general_reserve).size
    → n1 ≡ usages_folded n i size → new ≡ handed pool a.grants → listed ≡ recounted general 0 0 new n1.accounts
    → (let after : Numbers = record n1 { accounts = listed } in after ≡ numbers_of (folded a pool))
numbers-folded a n n1 pool i size new listed k kept user found sized fold hands counted =
    let es = a.reserves in
    let gs = a.grants in
    let e = get_or es i general_reserve in
    let is = stands-found es pool i found in
    let u = get_or (numbers_of a).usages i no_usage in
    let usage : u ≡ usage_for es pool (Some i) gs = usage-stands a pool (Some i) is in
    let own = apart-rest general (reserve_names es) k.names_distinct in
    let lone = apart general (reserve_names es) k.names_distinct in
    let left = without (is_reserve_of pool) es in
    let same : map (usage_of gs) left ≡ map (usage_of (handed pool gs)) left = usages-other pool gs left (gone pool es own) (still-apart general pool es lone) in
    let us : remove (map (usage_of gs) es) i ≡ map (usage_of (handed pool gs)) left =
    remove-map (usage_of gs) es i ∙ ap (map (usage_of gs)) (sym (without-found (is_reserve_of pool) es i found)) ∙ same in
    let used_now : used general gs + u.used ≡ used general (handed pool gs) = omega (arith, ap (λ (x : Usage). x.used) usage, used-general pool gs user) in
    let run_now : running_in general gs + u.running ≡ running_in general (handed pool gs) = omega (arith, ap (λ (x : Usage). x.running) usage, running-general pool gs user) in
    let fits : size ≡ e.size = sized in
    let some = found-at es pool i found in
    let debts : sum_by (debt gs) left ≡ sum_by (debt (handed pool gs)) left =
    sym (sum_by-map borrowed (usage_of gs) left) ∙ ap (sum_by borrowed) same ∙ sum_by-map borrowed (usage_of (handed pool gs)) left in
    let owes : debt gs e ≡ used pool gs - min (used pool gs) e.size = ap (λ (m : Name). used m gs - min (used m gs) e.size) is.1 in
    let lends : lent a + u.own ≡ lent (folded a pool) =
    omega (
      arith,
      ap (λ (x : Usage). x.own) usage,
      debts,
      owes,
      sum_without (debt gs) (is_reserve_of pool) e es some,
      used-general pool gs user,
    ) in
    let frees : (free a + size) - u.own ≡ free (folded a pool) =
    omega (
      arith,
      k.within,
      fits,
      lends,
      ap (λ (x : Usage). x.own) usage,
      sum_without (λ (x : Reserve). x.size) (is_reserve_of pool) e es some,
    ) in
    let start : n1 ≡ usages_folded (numbers_of a) i size = fold ∙ ap (λ (m : Numbers). usages_folded m i size) kept in
    let all : listed ≡ accounts (folded a pool) =
    counted
    ∙ (λ j. recounted general 0 0 (hands j) ((start j).accounts))
    ∙ ap (recounted general 0 0 (handed pool gs)) (accounts-are a)
    ∙ recount-handed pool es 0 [] gs user
    ∙ sym (accounts-are (folded a pool)) in
    let made : List Usage → Usage → ℕ → ℕ → List Account → Numbers = λ us g l f xs. record { usages = us; general = g; lent = l; free = f; accounts = xs } in
    (λ j. made ((start j).usages) ((start j).general) ((start j).lent) ((start j).free) (all j))
    ∙ (λ j. made (us j) (usage_made 0 (used_now j) (run_now j)) (lends j) (frees j) (accounts (folded a pool)))

-- other sizes
pub usages-resized : (gs : List Holding) (es new : List Reserve) → reserve_names new ≡ reserve_names es → usages_resized new (map (usage_of gs) es) ≡ map (usage_of gs) new
usages-resized gs [] [] same = refl
usages-resized gs [] (x ∷ new) same = let none : x.pool ∷ reserve_names new ≡ [] = same in absurd (cc)
usages-resized gs (e ∷ es) [] same = let none : [] ≡ e.pool ∷ reserve_names es = same in absurd (cc)
usages-resized gs (e ∷ es) (x ∷ new) same =
    let back : e.pool ≡ x.pool = cc in
    let others : reserve_names new ≡ reserve_names es = cc in
    let rest = usages-resized gs es new others in
    λ j. usage_made x.size (used (back j) gs) (running_in (back j) gs) ∷ rest j

-- the numbers settled are those of the new sizes
pub numbers-settled : (b : Holdings) (old : List Reserve) (n n1 : Numbers) → reserve_names b.reserves ≡ reserve_names old
    → n.usages ≡ map (usage_of b.grants) old → n.general ≡ usage_of b.grants general_reserve
    → n1.usages ≡ usages_resized b.reserves n.usages → n1.general ≡ n.general → n1.lent ≡ borrowed n.general + sum_by borrowed n1.usages
    → n1.free ≡ (b.in_force - kept_back b.reserves) - n1.lent → n1.accounts ≡ accounts_at b.reserves [] b.grants
    → n1 ≡ numbers_of b
numbers-settled b old n n1 names us g resized same lends frees handed_out =
    let all : n1.usages ≡ map (usage_of b.grants) b.reserves = resized ∙ ap (usages_resized b.reserves) us ∙ usages-resized b.grants old b.reserves names in
    let own : n1.general ≡ usage_of b.grants general_reserve = same ∙ g in
    let lent_now : n1.lent ≡ lent b = omega (arith, lends, ap borrowed g, ap (sum_by borrowed) all, sum_by-map borrowed (usage_of b.grants) b.reserves) in
    let free_now : n1.free ≡ free b = frees ∙ ap (λ (m : ℕ). (b.in_force - kept_back b.reserves) - m) lent_now in
    let listed : n1.accounts ≡ accounts b = handed_out ∙ sym (accounts-are b) in
    let made : List Usage → Usage → ℕ → ℕ → List Account → Numbers = λ us g l f xs. record { usages = us; general = g; lent = l; free = f; accounts = xs } in
    λ j. made (all j) (own j) (lent_now j) (free_now j) (listed j)

pub settled-lent : (b : Holdings) (old : List Reserve) (n : Numbers) → reserve_names b.reserves ≡ reserve_names old
    → n.usages ≡ map (usage_of b.grants) old → n.general ≡ usage_of b.grants general_reserve
    → borrowed n.general + sum_by borrowed (usages_resized b.reserves n.usages) ≡ lent b
settled-lent b old n names us g =
    let all : usages_resized b.reserves n.usages ≡ map (usage_of b.grants) b.reserves = ap (usages_resized b.reserves) us ∙ usages-resized b.grants old b.reserves names in
    omega (arith, ap borrowed g, ap (sum_by borrowed) all, sum_by-map borrowed (usage_of b.grants) b.reserves)

pub same-length : (es new : List Reserve) → reserve_names new ≡ reserve_names es → length new ≡ length es
same-length es new names =
    sym (length-map new (λ (e : Reserve). e.pool)) ∙ ap (λ (l : List Name). length l) names ∙ length-map es (λ (e : Reserve). e.pool)

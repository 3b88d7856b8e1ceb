-- A running query by its session, and by its place.
use Rattle.std.proofs.Common.{◌≡◌, ◌≤◌, ◌<◌, ℕ, ◌+◌, suc, Bool, true, false, not, cond, eqb, Option, Some, None, List, [], ◌∷◌, ◌++◌, length, get_or, take, drop, sym, ap, subst, ◌∙◌, take_while, take-append-drop, arith, count_by}
use Rattle.std.specs.List.{find, prefix_len}
use Rattle.std.proofs.lemmas.Bool.{eqb-true}
use Rattle.std.proofs.lemmas.List.{drop_more}
use Rattle.rm_rules.specs.declared.state.Runner.{Runner}
use Rattle.rm_rules.specs.State.{State, without_runner, runner_of}
use Rattle.rm_rules.specs.Holdings.{holding, holdings, holdings_of}
use Rattle.rm_rules.specs.Accounting.{account_behind}
use Rattle.rm_rules.specs.Healthy.{AreNumbered}
use Rattle.rm_rules.proofs.Found.{without-unfound}
use Rattle.rm_rules.proofs.Taken.{found_passes}
use Rattle.accounts.specs.Accounts.{account_of}
use Rattle.machine.specs.declared.machine.Machine.TheInside.{Inside}
use Rattle.machine.specs.Inside.{seen_state}
use Rattle.accounts.proofs.Standing.{account-stands}

-- what is found stands behind those that do not pass
pub record IsBehind {A : Type 0} (test : A → Bool) (xs : List A) (y : A) : Type 0 where
  pub rest : List A
  pub split : xs ≡ take_while (λ x. not (test x)) xs ++ y ∷ rest

behind-turn : {A : Type 0} (test : A → Bool) (x y : A) (xs : List A) (b : Bool) → cond b (Some x) (find test xs) ≡ Some y
    → (find test xs ≡ Some y → IsBehind test xs y)
    → (rest : List A) × (x ∷ xs ≡ take (cond (not b) (1 + prefix_len (λ z. not (test z)) xs) 0) (x ∷ xs) ++ y ∷ rest)
behind-turn test x y xs true found more = let same : x ≡ y = cc in (xs, ap (λ z. z ∷ xs) same)
behind-turn test x y xs false found more =
    let h = more found in
    let one : 1 + prefix_len (λ z. not (test z)) xs ≡ suc (prefix_len (λ z. not (test z)) xs) = omega arith in
    (h.rest, rw one (ap (λ l. x ∷ l) h.split))

pub found-behind : {A : Type 0} (test : A → Bool) (xs : List A) (y : A) → find test xs ≡ Some y → IsBehind test xs y
found-behind test [] y found = let none : None ≡ Some y = found in absurd (cc)
found-behind test (x ∷ xs) y found =
    let h = behind-turn test x y xs (test x) found (found-behind test xs y) in
    record { rest = h.0; split = h.1 }

-- a session's running query is found by its own session
pub running-own : (xs : List Runner) (n : ℕ) (r : Runner) → runner_of xs n ≡ Some r → runner_of xs r.session ≡ Some r
running-own xs n r found =
    subst (λ (k : ℕ). runner_of xs k ≡ Some r) (sym (eqb-true r.session n (found_passes (λ (x : Runner). eqb x.session n) r xs found))) found

-- no two run with one number
pub once-running : (s : State) → AreNumbered s.last_query s.waiting s.running → (query : ℕ) → count_by (λ (r : Runner). eqb r.query query) s.running ≤ 1
once-running s numbered query = omega (arith, numbered.once query)

pub once-inside : (m : Inside) (s : State) → seen_state m ≡ s → AreNumbered s.last_query s.waiting s.running → (query : ℕ) → count_by (λ (r : Runner). eqb r.query query) m.runs.running ≤ 1
once-inside m s same numbered query = once-running (seen_state m) (subst (λ (t : State). AreNumbered t.last_query t.waiting t.running) (sym same) numbered) query

-- the account of a session's query, behind those that began before it
pub account-told : (s : State) (session : ℕ) (r : Runner) → AreNumbered s.last_query s.waiting s.running → runner_of s.running session ≡ Some r
    → account_of (holdings_of s) r.query ≡ account_behind (holdings_of s) (holdings (take_while (λ x. not (eqb x.session session)) s.running)) (holding r)
account-told s session r numbered found =
    let test = λ (x : Runner). eqb x.session session in
    let behind = found-behind test s.running r found in
    account-stands s (take_while (λ x. not (test x)) s.running) behind.rest r (once-running s numbered) behind.split

-- and of one in its place
parted : {A : Type 0} (xs : List A) (i : ℕ) (x : A) → i < length xs → x ≡ get_or xs i x → xs ≡ take i xs ++ x ∷ drop (i + 1) xs
parted xs i x within at = sym (take-append-drop i xs) ∙ ap (λ l. take i xs ++ l) (drop_more xs i x within ∙ ap (λ y. y ∷ drop (i + 1) xs) (sym at))

pub account-at : (s : State) (i : ℕ) (r : Runner) → AreNumbered s.last_query s.waiting s.running → i < length s.running → r ≡ get_or s.running i r
    → account_of (holdings_of s) r.query ≡ account_behind (holdings_of s) (holdings (take i s.running)) (holding r)
account-at s i r numbered within at =
    account-stands s (take i s.running) (drop (i + 1) s.running) r (once-running s numbered) (parted s.running i r within at)

-- where none is found, none leaves
pub none-leaves : (s : State) (session : ℕ) → (let n : Option Runner = None in runner_of s.running session ≡ n) → s ≡ record s { running = without_runner session s.running }
none-leaves s session absent =
    ap (λ (rs : List Runner). let t : State = record s { running = rs } in t) (sym (without-unfound (λ (r : Runner). eqb r.session session) s.running absent))

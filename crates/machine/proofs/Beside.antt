-- The running queries as the accounts and the rows beside them make them up.
use Rattle.std.proofs.Common.{◌≡◌, ◌<◌, ◌≤◌, ℕ, ◌+◌, suc, zero, true, not, cond, eqb, ltb, nat_eq, Option, Some, None, List, [], ◌∷◌, ◌++◌, length, get_or, map, position, remove, set, refl, sym, ap, subst, ◌∙◌, arith, count_by}
use Rattle.std.specs.Option.{is_some}
use Rattle.std.specs.List.{prefix_len}
use Rattle.std.proofs.lemmas.List.{length_push, get_or_default}
use Rattle.std.proofs.lemmas.List.Edits.{length-remove}
use Rattle.rm_base.specs.declared.name.Name.{Name}
use Rattle.rm_rules.specs.declared.state.Holding.{Holding}
use Rattle.rm_rules.specs.declared.state.Runner.{Runner}
use Rattle.rm_rules.specs.State.{without, runner_of, without_runner}
use Rattle.rm_rules.specs.Holdings.{holding, holdings}
use Rattle.rm_rules.specs.DropPool.{holding_beside, runner_beside}
use Rattle.rm_rules.specs.Moving.{with_runner_as}
use Rattle.rm_rules.proofs.Once.{is-itself, without-same, without-map}
use Rattle.rm_rules.proofs.Places.{without-found, changed-found, find-found, find-absent}
use Rattle.accounts.specs.Accounts.{is_of, has_query, grant_of}
use Rattle.accounts.proofs.Standing.{queries-stand, grant-stands}
use Rattle.machine.proofs.Moving.{any-found}
use Rattle.machine.proofs.Running.{found-behind}
use Rattle.machine.specs.declared.runs.Run.{Run}
use Rattle.machine.specs.declared.runs.Runs.TheInside.{Inside}
use Rattle.machine.specs.Runs.{RunsSeen, runner, runners, run_of, run_beside, seen_runs, AreBeside}

-- as many of each
pub runners-length : (gs : List Holding) (xs : List Run) → length gs ≡ length xs → length (runners gs xs) ≡ length xs
runners-length [] [] same = refl
runners-length [] (x ∷ xs) same = absurd (omega (arith, same))
runners-length (g ∷ gs) [] same = absurd (omega (arith, same))
runners-length (g ∷ gs) (x ∷ xs) same = omega (arith, runners-length gs xs (omega (arith, same)))

-- they hold what the accounts say
pub runners-hold : (gs : List Holding) (xs : List Run) → length gs ≡ length xs → holdings (runners gs xs) ≡ gs
runners-hold [] xs same = refl
runners-hold (g ∷ gs) [] same = absurd (omega (arith, same))
runners-hold (g ∷ gs) (x ∷ xs) same = ap (λ (l : List Holding). g ∷ l) (runners-hold gs xs (omega (arith, same)))

-- one in its place
pub runners-at : (gs : List Holding) (xs : List Run) (i : ℕ) (g : Holding) (x : Run) (d : Runner) → length gs ≡ length xs → i < length xs → g ≡ get_or gs i g → x ≡ get_or xs i x
    → get_or (runners gs xs) i d ≡ runner (g, x)
runners-at [] [] i g x d same within at_g at_x = absurd (omega (arith, within))
runners-at [] (y ∷ ys) i g x d same within at_g at_x = absurd (omega (arith, same))
runners-at (h ∷ hs) [] i g x d same within at_g at_x = absurd (omega (arith, same))
runners-at (h ∷ hs) (y ∷ ys) zero g x d same within at_g at_x = ap (λ (z : Holding). runner (z, y)) (sym at_g) ∙ ap (λ (z : Run). runner (g, z)) (sym at_x)
runners-at (h ∷ hs) (y ∷ ys) (suc i) g x d same within at_g at_x = runners-at hs ys i g x d (omega (arith, same)) (omega (arith, within)) at_g at_x

-- one more, one less, and one in another form
pub runners-push : (gs : List Holding) (xs : List Run) (r : Runner) → length gs ≡ length xs → runners (gs ++ holding r ∷ []) (xs ++ run_of r ∷ []) ≡ runners gs xs ++ r ∷ []
runners-push [] [] r same = refl
runners-push [] (x ∷ xs) r same = absurd (omega (arith, same))
runners-push (g ∷ gs) [] r same = absurd (omega (arith, same))
runners-push (g ∷ gs) (x ∷ xs) r same = ap (λ (l : List Runner). runner (g, x) ∷ l) (runners-push gs xs r (omega (arith, same)))

pub runners-remove : (gs : List Holding) (xs : List Run) (i : ℕ) → length gs ≡ length xs → i < length xs → runners (remove gs i) (remove xs i) ≡ remove (runners gs xs) i
runners-remove [] [] i same within = absurd (omega (arith, within))
runners-remove [] (x ∷ xs) i same within = absurd (omega (arith, same))
runners-remove (g ∷ gs) [] i same within = absurd (omega (arith, same))
runners-remove (g ∷ gs) (x ∷ xs) zero same within = refl
runners-remove (g ∷ gs) (x ∷ xs) (suc i) same within = ap (λ (l : List Runner). runner (g, x) ∷ l) (runners-remove gs xs i (omega (arith, same)) (omega (arith, within)))

pub runners-set : (gs : List Holding) (xs : List Run) (i : ℕ) (r : Runner) → length gs ≡ length xs → i < length xs → holding r ≡ get_or gs i (holding r)
    → runners gs (set xs i (run_of r)) ≡ set (runners gs xs) i r
runners-set [] [] i r same within at = absurd (omega (arith, within))
runners-set [] (x ∷ xs) i r same within at = absurd (omega (arith, same))
runners-set (g ∷ gs) [] i r same within at = absurd (omega (arith, same))
runners-set (g ∷ gs) (x ∷ xs) zero r same within at = ap (λ (z : Holding). runner (z, run_of r) ∷ runners gs xs) (sym at)
runners-set (g ∷ gs) (x ∷ xs) (suc i) r same within at = ap (λ (l : List Runner). runner (g, x) ∷ l) (runners-set gs xs i r (omega (arith, same)) (omega (arith, within)) at)

-- beside a pool that is gone
pub runners-beside : (pool : Name) (gs : List Holding) (xs : List Run) → runners (map (holding_beside pool) gs) (map (run_beside pool) xs) ≡ map (runner_beside pool) (runners gs xs)
runners-beside pool [] xs = refl
runners-beside pool (g ∷ gs) [] = refl
runners-beside pool (g ∷ gs) (x ∷ xs) = ap (λ (l : List Runner). runner_beside pool (runner (g, x)) ∷ l) (runners-beside pool gs xs)

-- a session's query stands where its row does
pub place-beside : (gs : List Holding) (xs : List Run) (session : ℕ) → length gs ≡ length xs
    → prefix_len (λ (r : Runner). not (eqb r.session session)) (runners gs xs) ≡ prefix_len (λ (x : Run). not (eqb x.session session)) xs
place-beside [] [] session same = refl
place-beside [] (x ∷ xs) session same = absurd (omega (arith, same))
place-beside (g ∷ gs) [] session same = absurd (omega (arith, same))
place-beside (g ∷ gs) (x ∷ xs) session same = ap (λ (n : ℕ). cond (not (eqb x.session session)) (1 + n) 0) (place-beside gs xs session (omega (arith, same)))

pub position-beside : (gs : List Holding) (xs : List Run) (session : ℕ) → length gs ≡ length xs
    → position (λ (r : Runner). eqb r.session session) (runners gs xs) ≡ position (λ (x : Run). eqb x.session session) xs
position-beside gs xs session same =
    ap (λ (n : ℕ). cond (ltb n (length (runners gs xs))) (Some n) None) (place-beside gs xs session same)
    ∙ ap (λ (n : ℕ). let place = prefix_len (λ (x : Run). not (eqb x.session session)) xs in cond (ltb place n) (Some place) None) (runners-length gs xs same)

-- what is found at a place stands there
pub found-at : (rs : List Runner) (session i : ℕ) (r : Runner) → runner_of rs session ≡ Some r → position (λ (x : Runner). eqb x.session session) rs ≡ Some i → i < length rs → r ≡ get_or rs i r
found-at rs session i r found at within =
    let there : runner_of rs session ≡ Some (get_or rs i r) = find-found (λ (x : Runner). eqb x.session session) rs i (get_or rs i r) at (get_or_default rs i r (get_or rs i r) within) in
    let same : Some r ≡ Some (get_or rs i r) = sym found ∙ there in
    cc

-- a query that leaves stands in one place of both
pub grants-left : (gs : List Holding) (xs : List Run) (session place : ℕ) (r : Runner) → length gs ≡ length xs → ((query : ℕ) → count_by (λ (x : Runner). eqb x.query query) (runners gs xs) ≤ 1)
    → runner_of (runners gs xs) session ≡ Some r → position (λ (x : Runner). eqb x.session session) (runners gs xs) ≡ Some place → place < length xs
    → without (is_of r.query) gs ≡ remove gs place
grants-left gs xs session place r same once found at within =
    let rs = runners gs xs in
    let less : length (remove gs place) ≡ length (remove xs place) = omega (arith, same, length-remove gs place (omega (arith, same, within)), length-remove xs place within) in
    ap (λ (l : List Holding). without (is_of r.query) l) (sym (runners-hold gs xs same))
    ∙ sym (without-map holding (is_of r.query) rs)
    ∙ ap holdings (sym (without-same (λ (x : Runner). eqb x.session session) (λ (x : Runner). eqb x.query r.query) r rs found (is-itself r.query) (once r.query)))
    ∙ ap holdings (without-found (λ (x : Runner). eqb x.session session) rs place at)
    ∙ ap holdings (sym (runners-remove gs xs place same within))
    ∙ runners-hold (remove gs place) (remove xs place) less

-- so the rest are those without it
pub record HasLeft (gs : List Holding) (xs : List Run) (session : ℕ) (running : List Runner) : Type 0 where
  pub beside : length gs ≡ length xs
  pub running_are : runners gs xs ≡ without_runner session running

pub has-left : (gs hs : List Holding) (xs ys : List Run) (session place : ℕ) (r : Runner) → length gs ≡ length xs → ((query : ℕ) → count_by (λ (x : Runner). eqb x.query query) (runners gs xs) ≤ 1)
    → runner_of (runners gs xs) session ≡ Some r → position (λ (x : Runner). eqb x.session session) (runners gs xs) ≡ Some place → place < length xs
    → hs ≡ without (is_of r.query) gs → ys ≡ remove xs place → HasLeft hs ys session (runners gs xs)
has-left gs hs xs ys session place r same once found at within held left =
    let removed : hs ≡ remove gs place = held ∙ grants-left gs xs session place r same once found at within in
    record {
      beside =
          ap (λ (l : List Holding). length l) removed
          ∙ (let less : length (remove gs place) ≡ length (remove xs place) = omega (arith, same, length-remove gs place (omega (arith, same, within)), length-remove xs place within) in less)
          ∙ ap (λ (l : List Run). length l) (sym left);
      running_are =
          ap (λ (l : List Holding). runners l ys) removed ∙ ap (λ (l : List Run). runners (remove gs place) l) left
          ∙ runners-remove gs xs place same within ∙ sym (without-found (λ (x : Runner). eqb x.session session) (runners gs xs) place at);
    }

-- one more of both
pub record HasCome (gs : List Holding) (xs : List Run) (running : List Runner) (r : Runner) : Type 0 where
  pub beside : length gs ≡ length xs
  pub running_are : runners gs xs ≡ running ++ r ∷ []

pub has-come : (gs hs : List Holding) (xs ys : List Run) (r : Runner) → length gs ≡ length xs → hs ≡ gs ++ holding r ∷ [] → ys ≡ xs ++ run_of r ∷ [] → HasCome hs ys (runners gs xs) r
has-come gs hs xs ys r same held more = record {
  beside =
      ap (λ (l : List Holding). length l) held
      ∙ (let one : length (gs ++ holding r ∷ []) ≡ length (xs ++ run_of r ∷ []) = omega (arith, same, length_push gs (holding r), length_push xs (run_of r)) in one)
      ∙ ap (λ (l : List Run). length l) (sym more);
  running_are = ap (λ (l : List Holding). runners l ys) held ∙ ap (λ (l : List Run). runners (gs ++ holding r ∷ []) l) more ∙ runners-push gs xs r same;
}

-- and one with other marks
pub has-marks : (gs : List Holding) (xs ys : List Run) (session place : ℕ) (r now : Runner) → length gs ≡ length xs → runner_of (runners gs xs) session ≡ Some r
    → position (λ (x : Runner). eqb x.session session) (runners gs xs) ≡ Some place → place < length xs → holding now ≡ holding r → ys ≡ set xs place (run_of now)
    → runners gs ys ≡ with_runner_as (λ _. now) session (runners gs xs)
has-marks gs xs ys session place r now same found at within holds is =
    let rs = runners gs xs in
    let g = get_or gs place (holding now) in
    let x = get_or xs place (run_of now) in
    let here = found-at rs session place r found at (omega (arith, within, runners-length gs xs same)) in
    let held : g ≡ holding r =
    sym (ap holding (here ∙ runners-at gs xs place g x r same within (get_or_default gs place (holding now) g (omega (arith, same, within))) (get_or_default xs place (run_of now) x within))) in
    ap (λ (l : List Run). runners gs l) is
    ∙ runners-set gs xs place now same within (holds ∙ sym held)
    ∙ sym (changed-found (λ (z : Runner). eqb z.session session) (λ _. now) rs now place at)

-- what is seen of the fields
pub seen-rows : (r : Inside) (v : RunsSeen) → seen_runs r ≡ v → AreBeside r → length r.rows ≡ length v.running
seen-rows r v same h = sym (runners-length r.accounts.grants r.rows h) ∙ ap (λ (u : RunsSeen). length u.running) same

pub seen-place : (r : Inside) (v : RunsSeen) (session i : ℕ) → seen_runs r ≡ v → Some i ≡ position (λ (x : Runner). eqb x.session session) v.running
    → position (λ (x : Runner). eqb x.session session) (runners r.accounts.grants r.rows) ≡ Some i
seen-place r v session i same at = ap (λ (u : RunsSeen). position (λ (x : Runner). eqb x.session session) u.running) same ∙ sym at

-- a query that is found stands somewhere
pub stands-turn : (rs : List Runner) (session : ℕ) (r : Runner) (o : Option ℕ) → position (λ (x : Runner). eqb x.session session) rs ≡ o → runner_of rs session ≡ Some r → is_some o ≡ true
stands-turn rs session r (Some i) at found = refl
stands-turn rs session r None at found =
    let none : runner_of rs session ≡ None = find-absent (λ (x : Runner). eqb x.session session) rs at in
    let clash : None ≡ Some r = sym none ∙ found in
    absurd (cc)

-- it leaves both
abbrev pub RunOnce : List Runner → Type 0
RunOnce rs = (query : ℕ) → count_by (λ (x : Runner). eqb x.query query) rs ≤ 1

abbrev At : List Runner → ℕ → ℕ → Type 0
At rs session i = (position (λ (x : Runner). eqb x.session session) rs ≡ Some i) × (i < length rs)

pub seen-left : (r : Inside) (v : RunsSeen) (x : Runner) (place : ℕ) (hs : List Holding) (ys : List Run) → seen_runs r ≡ v → AreBeside r → RunOnce v.running
    → runner_of v.running x.session ≡ Some x → At v.running x.session place → hs ≡ without (is_of x.query) r.accounts.grants → ys ≡ remove r.rows place → HasLeft hs ys x.session v.running
seen-left r v x place hs ys same h once found at held left =
    let P : RunsSeen → Type 0 = λ u. RunOnce u.running → runner_of u.running x.session ≡ Some x → At u.running x.session place → HasLeft hs ys x.session u.running in
    let begins : P (seen_runs r) = λ once found at.
    has-left r.accounts.grants hs r.rows ys x.session place x h once found at.0 (omega (arith, at.1, runners-length r.accounts.grants r.rows h)) held left in
    subst P same begins once found at

-- it goes on behind the others
pub seen-gone_on : (r : Inside) (v : RunsSeen) (x now : Runner) (place : ℕ) (hs : List Holding) (ys : List Run) → seen_runs r ≡ v → AreBeside r → RunOnce v.running
    → runner_of v.running x.session ≡ Some x → At v.running x.session place → hs ≡ without (is_of x.query) r.accounts.grants ++ holding now ∷ [] → ys ≡ remove r.rows place ++ run_of now ∷ []
    → HasCome hs ys (without_runner x.session v.running) now
seen-gone_on r v x now place hs ys same h once found at held more =
    let left = seen-left r v x place (without (is_of x.query) r.accounts.grants) (remove r.rows place) same h once found at refl refl in
    subst (λ (rs : List Runner). HasCome hs ys rs now) left.running_are
    (has-come (without (is_of x.query) r.accounts.grants) hs (remove r.rows place) ys now left.beside held more)

-- it has other marks
pub seen-marked : (r : Inside) (v : RunsSeen) (x now : Runner) (place : ℕ) (ys : List Run) → seen_runs r ≡ v → AreBeside r
    → runner_of v.running x.session ≡ Some x → At v.running x.session place → holding now ≡ holding x → ys ≡ set r.rows place (run_of now)
    → runners r.accounts.grants ys ≡ with_runner_as (λ _. now) x.session v.running
seen-marked r v x now place ys same h found at holds is =
    let P : RunsSeen → Type 0 = λ u. runner_of u.running x.session ≡ Some x → At u.running x.session place → runners r.accounts.grants ys ≡ with_runner_as (λ _. now) x.session u.running in
    let begins : P (seen_runs r) = λ found at.
    has-marks r.accounts.grants r.rows ys x.session place x now h found at.0 (omega (arith, at.1, runners-length r.accounts.grants r.rows h)) holds is in
    subst P same begins found at

-- the accounts know it, and what it holds
pub seen-holds : (r : Inside) (v : RunsSeen) → seen_runs r ≡ v → AreBeside r → r.accounts.grants ≡ holdings v.running
seen-holds r v same h = sym (runners-hold r.accounts.grants r.rows h) ∙ ap (λ (u : RunsSeen). holdings u.running) same

pub seen-known : (r : Inside) (v : RunsSeen) (x : Runner) → seen_runs r ≡ v → AreBeside r → runner_of v.running x.session ≡ Some x → has_query r.accounts.grants x.query ≡ true
seen-known r v x same h found =
    ap (λ (gs : List Holding). has_query gs x.query) (seen-holds r v same h)
    ∙ queries-stand v.running x.query
    ∙ any-found (λ (y : Runner). eqb y.session x.session) (λ (y : Runner). nat_eq y.query x.query) x v.running found (is-itself x.query)

pub seen-grant : (r : Inside) (v : RunsSeen) (x : Runner) → seen_runs r ≡ v → AreBeside r → RunOnce v.running → runner_of v.running x.session ≡ Some x → grant_of r.accounts.grants x.query ≡ x.grant
seen-grant r v x same h once found =
    let behind = found-behind (λ (y : Runner). eqb y.session x.session) v.running x found in
    ap (λ (gs : List Holding). grant_of gs x.query) (seen-holds r v same h) ∙ grant-stands v.running _ behind.rest x once behind.split

-- The last moves, and a running query that runs on with other marks.
use Rattle.std.proofs.Common.{◌≡◌, ◌≤◌, ◌<◌, ℕ, ◌-◌, Bool, true, false, cond, eqb, List, [], ◌∷◌, ◌++◌, Some, None, length, drop, remove, refl, sym, ap, ◌∙◌, subst, arith}
use Rattle.std.specs.List.{find}
use Rattle.std.proofs.lemmas.Bool.{eqb-true, false≢true}
use Rattle.std.proofs.lemmas.Bool.Decides.{nat_tests}
use Rattle.std.proofs.lemmas.List.{length_push}
use Rattle.rm_base.specs.declared.entry.MoveSeen.{MoveSeen}
use Rattle.rm_base.specs.declared.limits.TheConstants.{MOVES_KEPT}
use Rattle.rm_rules.specs.declared.state.Holding.{Holding}
use Rattle.rm_rules.specs.declared.state.Runner.{Runner}
use Rattle.rm_rules.specs.State.{State, changed_first, runner_of}
use Rattle.rm_rules.specs.Holdings.{Holdings, holding, holdings}
use Rattle.rm_rules.specs.Moving.{with_move, with_runner_as}
use Rattle.machine.specs.declared.machine.Machine.TheInside.{Inside}
use Rattle.machine.specs.Inside.{seen_state, IsTied}
use Rattle.machine.proofs.Inside.{bytes_under}

-- a list that is not full has room
room-turn : (n most : ℕ) (full b : Bool) → eqb n most ≡ b → n ≤ most → (n ≡ most → full ≡ true) → full ≡ false → n < most
room-turn n most full true e within at open_yet = absurd (false≢true (sym open_yet ∙ at (eqb-true n most e)))
room-turn n most full false e within at open_yet = grind (arith, nat_tests)

pub has-room : (n most : ℕ) (full : Bool) → n ≤ most → (n ≡ most → full ≡ true) → full ≡ false → n < most
has-room n most full within at open_yet = room-turn n most full (eqb n most) refl within at open_yet

-- one more, where the first is forgotten and where there is room
pub moves-full : (moves left now : List MoveSeen) (seen : MoveSeen) → length moves ≡ MOVES_KEPT → left ≡ remove moves 0 → now ≡ left ++ seen ∷ [] → now ≡ with_move moves seen
moves-full [] left now seen full one is = absurd (omega (arith, full))
moves-full (x ∷ xs) left now seen full one is =
    let first : length ((x ∷ xs) ++ seen ∷ []) - MOVES_KEPT ≡ 1 = omega (arith, full, length_push (x ∷ xs) seen) in
    is ∙ ap (λ (l : List MoveSeen). l ++ seen ∷ []) one ∙ ap (λ (n : ℕ). drop n ((x ∷ xs) ++ seen ∷ [])) (sym first)

pub moves-room : (moves now : List MoveSeen) (seen : MoveSeen) → length moves < MOVES_KEPT → now ≡ moves ++ seen ∷ [] → now ≡ with_move moves seen
moves-room moves now seen room is =
    let none : length (moves ++ seen ∷ []) - MOVES_KEPT ≡ 0 = omega (arith, room, length_push moves seen) in
    is ∙ ap (λ (n : ℕ). drop n (moves ++ seen ∷ [])) (sym none)

-- the first that passes is the one that is found
set-turn : {A : Type 0} (test : A → Bool) (act : A → A) (x y : A) (xs : List A) (b : Bool) → cond b (Some x) (find test xs) ≡ Some y
    → (find test xs ≡ Some y → changed_first test (λ _. act y) xs ≡ changed_first test act xs)
    → cond b (act y ∷ xs) (x ∷ changed_first test (λ _. act y) xs) ≡ cond b (act x ∷ xs) (x ∷ changed_first test act xs)
set-turn test act x y xs true found rest = let same : y ≡ x = cc in ap (λ z. act z ∷ xs) same
set-turn test act x y xs false found rest = ap (λ l. x ∷ l) (rest found)

set-found : {A : Type 0} (test : A → Bool) (act : A → A) (y : A) (xs : List A) → find test xs ≡ Some y → changed_first test (λ _. act y) xs ≡ changed_first test act xs
set-found test act y [] found = let none : None ≡ Some y = found in absurd (cc)
set-found test act y (x ∷ xs) found = set-turn test act x y xs (test x) found (set-found test act y xs)

-- so it runs on as it is changed
pub runs-on-as : (s : State) (act : Runner → Runner) (session : ℕ) (r now : Runner) (running : List Runner) → runner_of s.running session ≡ Some r → now ≡ act r
    → running ≡ with_runner_as (λ _. now) session s.running → running ≡ with_runner_as act session s.running
runs-on-as s act session r now running found changed is =
    is ∙ ap (λ (x : Runner). with_runner_as (λ _. x) session s.running) changed ∙ set-found (λ (x : Runner). eqb x.session session) act r s.running found

-- and holds what it held
held-turn : (x y now : Runner) (test : Runner → Bool) (xs : List Runner) (b : Bool) → cond b (Some x) (find test xs) ≡ Some y → holding now ≡ holding y
    → (find test xs ≡ Some y → holdings (changed_first test (λ _. now) xs) ≡ holdings xs)
    → holdings (cond b (now ∷ xs) (x ∷ changed_first test (λ _. now) xs)) ≡ holdings (x ∷ xs)
held-turn x y now test xs true found same rest = let is : y ≡ x = cc in ap (λ (g : Holding). g ∷ holdings xs) (same ∙ ap holding is)
held-turn x y now test xs false found same rest = ap (λ (gs : List Holding). holding x ∷ gs) (rest found)

held-set : (test : Runner → Bool) (y now : Runner) (xs : List Runner) → find test xs ≡ Some y → holding now ≡ holding y → holdings (changed_first test (λ _. now) xs) ≡ holdings xs
held-set test y now [] found same = refl
held-set test y now (x ∷ xs) found same = held-turn x y now test xs (test x) found same (λ more. held-set test y now xs more same)

pub bytes-marked : (m : Inside) (session : ℕ) (r now : Runner) (running : List Runner) → IsTied m → runner_of m.runs.running session ≡ Some r → holding now ≡ holding r
    → running ≡ with_runner_as (λ _. now) session m.runs.running → bytes_under m.definitions m.runs.accounts running ≡ m.runs.accounts
bytes-marked m session r now running h found same is =
    let held : holdings running ≡ holdings m.runs.running = ap holdings is ∙ held-set (λ (x : Runner). eqb x.session session) r now m.runs.running found same in
    ap (λ (gs : List Holding). let b : Holdings = record (bytes_under m.definitions m.runs.accounts m.runs.running) { grants = gs } in b) held ∙ h.bytes

pub marked-accounts : (m : Inside) (a : Holdings) (running : List Runner) → a ≡ m.runs.accounts → bytes_under m.definitions m.runs.accounts running ≡ m.runs.accounts → bytes_under m.definitions a running ≡ a
marked-accounts m a running same h = subst (λ (b : Holdings). bytes_under m.definitions b running ≡ b) (sym same) h

pub state-marked : (m : Inside) (s : State) (act : Runner → Runner) (session : ℕ) (r now : Runner) (running : List Runner) → seen_state m ≡ s → runner_of m.runs.running session ≡ Some r → now ≡ act r
    → running ≡ with_runner_as (λ _. now) session m.runs.running → seen_state (record m { runs = record { accounts = m.runs.accounts; running = running } }) ≡ record s { running = with_runner_as act session s.running }
state-marked m s act session r now running same found changed is =
    ap (λ (l : List Runner). let t : State = record (seen_state m) { running = l } in t) (runs-on-as (seen_state m) act session r now running found changed is)
    ∙ ap (λ (t : State). let u : State = record t { running = with_runner_as act session t.running } in u) same

-- Sizes at rest: the shuffle leaves them, and all sizes that it has left rest.
use Rattle.std.proofs.Common.{◌≡◌, ℕ, ◌+◌, ◌-◌, ◌≤◌, ◌<◌, Bool, true, false, cond, ltb, List, [], ◌∷◌, ◌++◌, Some, refl, sym, ap, ◌∙◌, subst, arith, sum_by, min, max, ⊎_elim}
use Rattle.std.proofs.lemmas.List.Sums.{sum_by-cons}
use Rattle.std.proofs.lemmas.Bool.{cases_lt}
use Rattle.std.proofs.lemmas.Bool.Decides.{nat_tests}
use Rattle.rm_base.specs.declared.definitions.Definitions.{Definitions}
use Rattle.rm_base.specs.Name.{general}
use Rattle.rm_rules.specs.declared.state.Holding.{Holding}
use Rattle.rm_rules.specs.declared.state.Reserve.{Reserve}
use Rattle.rm_rules.specs.declared.state.Waiter.{Waiter}
use Rattle.rm_rules.specs.Definitions.{total, memory_size, user_pools}
use Rattle.rm_rules.specs.State.{State}
use Rattle.rm_rules.specs.Holdings.{Holdings, holding, holdings_of}
use Rattle.rm_rules.specs.Accounting.{used, debt, free, taken_up}
use Rattle.rm_rules.specs.Admission.{admitted, started, first_entitled}
use Rattle.rm_rules.specs.Shuffle.{resized, fallen_size, fallen, with_force, growth, grown_reserves, grown, shuffled, with_sizes, shuffled_state}
use Rattle.rm_rules.specs.Sound.{IsSound}
use Rattle.rm_rules.specs.Healthy.{AreSized, AreThere, AreCovered}
use Rattle.rm_rules.proofs.Bytes.{named, with_grant, used-push, lent-push, lent-more, debts-more, sizes-of}
use Rattle.rm_rules.proofs.Queue.{first_entitled_fits, enough}
use Rattle.rm_rules.proofs.Shuffling.{fallen_reserves, left_over, left_over-most, grown-whole, shuffled-bytes}
use Rattle.rm_rules.proofs.Covering.{admitted-bytes}

-- a pool above its MEMORYSIZE uses all its bytes, and one below it has no debt, while so much is free
pub record RestsAt (d : Definitions) (grants : List Holding) (spare : ℕ) (e : Reserve) : Type 0 where
  pub above : memory_size d e.pool < e.size → e.size ≤ used e.pool grants
  pub no_debt : e.size < memory_size d e.pool → used e.pool grants ≤ e.size
  pub none_free : e.size < memory_size d e.pool → spare ≡ 0

-- so do all of these
abbrev pub AllRest : Definitions → List Holding → ℕ → List Reserve → Type 0
AllRest d grants spare [] = Unit {0}
AllRest d grants spare (e ∷ es) = RestsAt d grants spare e × AllRest d grants spare es

-- all sizes of these bytes rest
abbrev pub Rests : Definitions → Holdings → Type 0
Rests d h = AllRest d h.grants (free h) h.reserves

-- a size at rest does not fall
falls-turn : (used_bytes size memory : ℕ) (b : Bool) → ltb memory size ≡ b → (memory < size → size ≤ used_bytes)
    → cond b (max memory (min used_bytes size)) size ≡ size
falls-turn used_bytes size memory true e most =
    let above : memory < size = grind (arith, nat_tests) in
    omega (arith, above, most above)
falls-turn used_bytes size memory false e most = refl

rests-fallen : (d : Definitions) (grants : List Holding) (spare : ℕ) (es : List Reserve) → AllRest d grants spare es → fallen_reserves d grants es ≡ es
rests-fallen d grants spare [] rests = refl
rests-fallen d grants spare (e ∷ es) rests =
    let here : fallen_size d grants e ≡ e.size = falls-turn (used e.pool grants) e.size (memory_size d e.pool) (ltb (memory_size d e.pool) e.size) refl rests.0.above in
    ap (λ (n : ℕ). resized e n ∷ fallen_reserves d grants es) here ∙ ap (λ l. e ∷ l) (rests-fallen d grants spare es rests.1)

-- and it does not grow
no_growth : (d : Definitions) (grants : List Holding) (spare : ℕ) (e : Reserve) → RestsAt d grants spare e → growth d grants spare e ≡ 0
no_growth d grants spare e rests =
    ⊎_elim (λ (below : e.size < memory_size d e.pool). omega (arith, rests.no_debt below, rests.none_free below))
    (λ (least : memory_size d e.pool ≤ e.size). omega (arith, least)) (cases_lt e.size (memory_size d e.pool))

rests-grown : (d : Definitions) (grants : List Holding) (spare : ℕ) (es : List Reserve) → AllRest d grants spare es → grown_reserves d grants spare es ≡ es
rests-grown d grants spare [] rests = refl
rests-grown d grants spare (e ∷ es) rests =
    let more : growth d grants spare e ≡ 0 = no_growth d grants spare e rests.0 in
    let size : e.size + growth d grants spare e ≡ e.size = omega (arith, more) in
    let left : spare - (growth d grants spare e - debt grants e) ≡ spare = omega (arith, more) in
    ap (λ (n : ℕ). resized e n ∷ grown_reserves d grants (spare - (growth d grants spare e - debt grants e)) es) size
    ∙ ap (λ k. e ∷ grown_reserves d grants k es) left
    ∙ ap (λ l. e ∷ l) (rests-grown d grants spare es rests.1)

-- the memory in force stays, if it covers the bytes and the total, and is above the total only while nothing is free
force-turn : (all bytes in_force : ℕ) → bytes ≤ in_force → all ≤ in_force → (all < in_force → in_force ≤ bytes) → max all bytes ≡ in_force
force-turn all bytes in_force within least full =
    ⊎_elim (λ (above : all < in_force). omega (arith, within, least, full above)) (λ (most : in_force ≤ all). omega (arith, within, least, most)) (cases_lt all in_force)

rests-force : (d : Definitions) (h : Holdings) → AreCovered d h → with_force d h ≡ h
rests-force d h covered =
    let full : total d < h.in_force → h.in_force ≤ taken_up h = λ above. omega (arith, covered.full_above_total above) in
    let same = force-turn (total d) (taken_up h) h.in_force covered.held.within covered.in_force_least full in
    ap (λ (n : ℕ). let u : Holdings = record h { in_force = n } in u) same

-- the shuffle leaves bytes whose sizes rest
rests-shuffle : (d : Definitions) (h : Holdings) → AreCovered d h → Rests d h → shuffled d h ≡ h
rests-shuffle d h covered rests =
    let down : fallen d h ≡ h = ap (λ (l : List Reserve). let u : Holdings = record h { reserves = l } in u) (rests-fallen d h.grants (free h) h.reserves rests) in
    let up : grown d h ≡ h = ap (λ (l : List Reserve). let u : Holdings = record h { reserves = l } in u) (rests-grown d h.grants (free h) h.reserves rests) in
    ap (λ u. grown d (with_force d u)) down ∙ ap (grown d) (rests-force d h covered) ∙ up

pub rests-shuffled : (s : State) → AreSized s.definitions s.actual s.counters → AreCovered s.definitions (holdings_of s) → Rests s.definitions (holdings_of s)
    → shuffled_state s ≡ s
rests-shuffled s sized covered rests =
    ap (with_sizes s) (rests-shuffle s.definitions (holdings_of s) covered rests)
    ∙ ap (λ (l : List ℕ). let u : State = record s { actual = l } in u) (sizes-of (user_pools s.definitions.pools) s.actual sized.sizes)

-- each pool above its MEMORYSIZE uses all its bytes
abbrev pub AreLow : Definitions → List Holding → List Reserve → Type 0
AreLow d grants [] = Unit {0}
AreLow d grants (e ∷ es) = (memory_size d e.pool < e.size → e.size ≤ used e.pool grants) × AreLow d grants es

low-turn : (used_bytes size memory : ℕ) (b : Bool) → ltb memory size ≡ b → memory < cond b (max memory (min used_bytes size)) size
    → cond b (max memory (min used_bytes size)) size ≤ used_bytes
low-turn used_bytes size memory true e above = omega (arith, above)
low-turn used_bytes size memory false e above =
    let most : size ≤ memory = grind (arith, nat_tests) in
    absurd (omega (arith, above, most))

fallen-low : (d : Definitions) (grants : List Holding) (es : List Reserve) → AreLow d grants (fallen_reserves d grants es)
fallen-low d grants [] = tt
fallen-low d grants (e ∷ es) =
    (low-turn (used e.pool grants) e.size (memory_size d e.pool) (ltb (memory_size d e.pool) e.size) refl, fallen-low d grants es)

-- a pool that has grown rests, and if it is still below its MEMORYSIZE, nothing is left
rests-turn : (used_bytes size memory spare : ℕ) → (memory < size → size ≤ used_bytes)
    → (memory < size + min (memory - size) ((used_bytes - min used_bytes size) + spare) → size + min (memory - size) ((used_bytes - min used_bytes size) + spare) ≤ used_bytes)
    × (size + min (memory - size) ((used_bytes - min used_bytes size) + spare) < memory → used_bytes ≤ size + min (memory - size) ((used_bytes - min used_bytes size) + spare))
    × (size + min (memory - size) ((used_bytes - min used_bytes size) + spare) < memory
    → spare - (min (memory - size) ((used_bytes - min used_bytes size) + spare) - (used_bytes - min used_bytes size)) ≡ 0)
rests-turn used_bytes size memory spare low = (
  λ above. ⊎_elim (λ (over : memory < size). omega (arith, above, low over)) (λ (under : size ≤ memory). absurd (omega (arith, above, under))) (cases_lt memory size),
  λ below. omega (arith, below),
  λ below. omega (arith, below),
)

grown-rest : (d : Definitions) (grants : List Holding) (spare last : ℕ) (es : List Reserve) → last ≤ left_over d grants spare es
    → AreLow d grants es → AllRest d grants last (grown_reserves d grants spare es)
grown-rest d grants spare last [] most low = tt
grown-rest d grants spare last (e ∷ es) most low =
    let left = spare - (growth d grants spare e - debt grants e) in
    let turn = rests-turn (used e.pool grants) e.size (memory_size d e.pool) spare low.0 in (
      record {
        above = turn.0;
        no_debt = turn.1;
        none_free = λ below. omega (arith, turn.2 below, most, left_over-most d grants left es);
      },
      grown-rest d grants left last es most low.1,
    )

-- so after the shuffle all sizes rest
shuffle-rests : (d : Definitions) (h : Holdings) → Rests d (shuffled d h)
shuffle-rests d h =
    let t = with_force d (fallen d h) in
    let last : free (shuffled d h) ≤ left_over d h.grants (free t) t.reserves = omega (arith, grown-whole d h.grants (free t) t.reserves) in
    grown-rest d h.grants (free t) (free (shuffled d h)) t.reserves last (fallen-low d h.grants h.reserves)

pub shuffled-rests : (s : State) → AreSized s.definitions s.actual s.counters → Rests s.definitions (holdings_of (shuffled_state s))
shuffled-rests s sized = subst (Rests s.definitions) (sym (shuffled-bytes s sized)) (shuffle-rests s.definitions (holdings_of s))

-- with one grant more sizes still rest, if then no more is free, and no pool has borrowed more while nothing is
rests-push : (d : Definitions) (grants : List Holding) (g : Holding) (spare new : ℕ) (es : List Reserve) → new ≤ spare
    → (spare ≡ 0 → sum_by (debt (grants ++ g ∷ [])) es ≤ sum_by (debt grants) es) → AllRest d grants spare es → AllRest d (grants ++ g ∷ []) new es
rests-push d grants g spare new [] less same rests = tt
rests-push d grants g spare new (e ∷ es) less same rests =
    let more = used-push e.pool grants g in
    let this = sum_by-cons (debt (grants ++ g ∷ [])) e es in
    let last = sum_by-cons (debt grants) e es in (
      record {
        above = λ over. omega (arith, rests.0.above over, more);
        no_debt = λ below. omega (arith, rests.0.no_debt below, same (rests.0.none_free below), debts-more grants g es, this, last);
        none_free = λ below. omega (arith, rests.0.none_free below, less);
      },
      rests-push d grants g spare new es less (λ none. omega (arith, same none, more, this, last)) rests.1,
    )

-- an admission leaves sizes at rest
pub rests-admitted : (s : State) (w : Waiter) → IsSound s.definitions → AreSized s.definitions s.actual s.counters
    → AreThere s.definitions s.sessions s.waiting s.running → first_entitled s ≡ Some w → Rests s.definitions (holdings_of s)
    → Rests s.definitions (holdings_of (admitted s w))
rests-admitted s w sound sized there picked rests =
    let d = s.definitions in
    let h = holdings_of s in
    let g = holding (started s w) in
    let needs = enough d h w (first_entitled_fits s w picked).1 in
    let lends = lent-push h g (named s sound sized there).distinct in
    let more = lent-more h g in
    let least : used general h.grants ≤ used general (with_grant h g).grants = omega (arith, used-push general h.grants g) in
    subst (Rests d) (sym (admitted-bytes s w))
    (rests-push d h.grants g (free h) (free (with_grant h g)) h.reserves (omega (arith, more)) (λ none. omega (arith, none, needs, lends, least)) rests)

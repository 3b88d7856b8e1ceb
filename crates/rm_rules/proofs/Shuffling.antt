-- What the shuffle keeps.
use Rattle.std.proofs.Common.{◌≡◌, ℕ, ◌+◌, ◌-◌, ◌≤◌, ◌<◌, Bool, true, false, cond, ltb, List, [], ◌∷◌, ◌++◌, refl, sym, ap, ◌∙◌, append_assoc, append-nil, arith, sum_by, map, min, max}
use Rattle.std.specs.List.{list_all, list_any}
use Rattle.std.proofs.lemmas.List.Sums.{sum_by-cons, sum_by-append, sum_by_push}
use Rattle.std.proofs.lemmas.Bool.Decides.{nat_tests}
use Rattle.rm_base.specs.declared.definitions.Definitions.{Definitions}
use Rattle.rm_base.specs.Name.{same_name, general}
use Rattle.rm_rules.specs.declared.state.Holding.{Holding}
use Rattle.rm_rules.specs.declared.state.Reserve.{Reserve}
use Rattle.rm_rules.specs.Definitions.{total, memory_size, user_pools}
use Rattle.rm_rules.specs.State.{State}
use Rattle.rm_rules.specs.Holdings.{Holdings, holdings_of, reserve_names}
use Rattle.rm_rules.specs.Accounting.{used, debt, kept_back, taken_up, free}
use Rattle.rm_rules.specs.Shuffle.{resized, fallen_size, fallen, with_force, growth, grown_reserves, grown, grown_anew, shuffled, shuffled_state}
use Rattle.rm_rules.specs.Sound.{IsSound, are_distinct}
use Rattle.rm_rules.specs.Healthy.{AreSized, AreWithinMemory, AreCovered}
use Rattle.rm_rules.proofs.Bytes.{AreNamed, reserve_names-of, reserves-again}
use Rattle.rm_rules.proofs.Conserved.{granted-within}

-- the bytes with other reserves of the same names
renamed : (h : Holdings) (es : List Reserve) → reserve_names es ≡ reserve_names h.reserves → AreNamed h → (let u : Holdings = record h { reserves = es } in AreNamed u)
renamed h es same named = record {
  distinct = ap (λ ns. are_distinct (general ∷ ns)) same ∙ named.distinct;
  known = ap (λ ns. list_all (λ (g : Holding). list_any (same_name g.pool) (general ∷ ns)) h.grants) same ∙ named.known;
}

-- a pool that falls keeps its debt
fallen-turn : (used_bytes size memory : ℕ) (b : Bool) → ltb memory size ≡ b
    → (cond b (max memory (min used_bytes size)) size ≤ size) × (used_bytes - min used_bytes (cond b (max memory (min used_bytes size)) size) ≡ used_bytes - min used_bytes size)
fallen-turn used_bytes size memory true e =
    let above : memory < size = grind (arith, nat_tests) in
    (omega (arith, above), omega (arith, above))
fallen-turn used_bytes size memory false e = (omega arith, refl)

-- pools that have fallen
abbrev pub fallen_reserves : Definitions → List Holding → List Reserve → List Reserve
fallen_reserves d grants es = map (λ e. resized e (fallen_size d grants e)) es

pub fallen-names : (d : Definitions) (grants : List Holding) (es : List Reserve) → reserve_names (fallen_reserves d grants es) ≡ reserve_names es
fallen-names d grants [] = refl
fallen-names d grants (e ∷ es) = ap (λ ns. e.pool ∷ ns) (fallen-names d grants es)

fallen-sums : (d : Definitions) (grants : List Holding) (es : List Reserve)
    → (kept_back (fallen_reserves d grants es) ≤ kept_back es) × (sum_by (debt grants) (fallen_reserves d grants es) ≡ sum_by (debt grants) es)
fallen-sums d grants [] = (omega arith, refl)
fallen-sums d grants (e ∷ es) =
    let turn = fallen-turn (used e.pool grants) e.size (memory_size d e.pool) (ltb (memory_size d e.pool) e.size) refl in
    let rest = fallen-sums d grants es in
    let now = resized e (fallen_size d grants e) in (
      omega (arith, turn.0, rest.0, sum_by-cons (λ (x : Reserve). x.size) now (fallen_reserves d grants es), sum_by-cons (λ (x : Reserve). x.size) e es),
      omega (arith, turn.1, rest.1, sum_by-cons (debt grants) now (fallen_reserves d grants es), sum_by-cons (debt grants) e es),
    )

held-fallen : (d : Definitions) (h : Holdings) → AreWithinMemory d h → AreWithinMemory d (fallen d h)
held-fallen d h held =
    let sums = fallen-sums d h.grants h.reserves in
    record { within = omega (arith, held.within, sums.0, sums.1); granted = held.granted; in_force_most = held.in_force_most }

-- the memory in force covers what is reserved and lent
held-force : (d : Definitions) (h : Holdings) → IsSound d → AreNamed h → AreWithinMemory d h → AreWithinMemory d (with_force d h)
held-force d h sound named held =
    let u = with_force d h in
    let all : AreNamed u = record { distinct = named.distinct; known = named.known } in
    record {
      within = omega arith;
      granted = granted-within u all (omega arith);
      in_force_most = omega (arith, held.within, held.in_force_most, sound.total_most);
    }

-- what a pool grows by it had borrowed, or it was free
grown-turn : (used_bytes size memory spare : ℕ)
    → (size + min (memory - size) ((used_bytes - min used_bytes size) + spare) + (used_bytes - min used_bytes (size + min (memory - size) ((used_bytes - min used_bytes size) + spare)))
    + (spare - (min (memory - size) ((used_bytes - min used_bytes size) + spare) - (used_bytes - min used_bytes size)))
    ≡ size + (used_bytes - min used_bytes size) + spare)
    × (min (memory - size) ((used_bytes - min used_bytes size) + spare) - (used_bytes - min used_bytes size) ≤ spare)
grown-turn used_bytes size memory spare = (omega arith, omega arith)

-- what is still free when all of these have grown
abbrev pub left_over : Definitions → List Holding → ℕ → List Reserve → ℕ
left_over d grants spare [] = spare
left_over d grants spare (e ∷ es) = left_over d grants (spare - (growth d grants spare e - debt grants e)) es

pub left_over-most : (d : Definitions) (grants : List Holding) (spare : ℕ) (es : List Reserve) → left_over d grants spare es ≤ spare
left_over-most d grants spare [] = omega arith
left_over-most d grants spare (e ∷ es) = omega (arith, left_over-most d grants (spare - (growth d grants spare e - debt grants e)) es)

pub grown-names : (d : Definitions) (grants : List Holding) (spare : ℕ) (es : List Reserve) → reserve_names (grown_reserves d grants spare es) ≡ reserve_names es
grown-names d grants spare [] = refl
grown-names d grants spare (e ∷ es) = ap (λ ns. e.pool ∷ ns) (grown-names d grants (spare - (growth d grants spare e - debt grants e)) es)

-- no byte is lost as pools grow
pub grown-whole : (d : Definitions) (grants : List Holding) (spare : ℕ) (es : List Reserve)
    → kept_back (grown_reserves d grants spare es) + sum_by (debt grants) (grown_reserves d grants spare es) + left_over d grants spare es
    ≡ kept_back es + sum_by (debt grants) es + spare
grown-whole d grants spare [] = refl
grown-whole d grants spare (e ∷ es) =
    let more = growth d grants spare e in
    let left = spare - (more - debt grants e) in
    let now = resized e (e.size + more) in
    omega (
      arith,
      grown-turn (used e.pool grants) e.size (memory_size d e.pool) spare,
      grown-whole d grants left es,
      sum_by-cons (λ (x : Reserve). x.size) now (grown_reserves d grants left es),
      sum_by-cons (debt grants) now (grown_reserves d grants left es),
      sum_by-cons (λ (x : Reserve). x.size) e es,
      sum_by-cons (debt grants) e es,
    )

-- what one pool leaves free is what is free, counted anew
free-turn : (d : Definitions) (h : Holdings) (done : List Reserve) (e : Reserve) (es : List Reserve)
    → (let now : Holdings = record h { reserves = done ++ e ∷ es } in
    let more = growth d h.grants (free now) e in
    let next : Holdings = record h { reserves = (done ++ resized e (e.size + more) ∷ []) ++ es } in
    taken_up now ≤ h.in_force → (free next ≡ free now - (more - debt h.grants e)) × (taken_up next ≤ h.in_force))
free-turn d h done e es within =
    let now : Holdings = record h { reserves = done ++ e ∷ es } in
    let more = growth d h.grants (free now) e in
    let then = resized e (e.size + more) in
    let turn = grown-turn (used e.pool h.grants) e.size (memory_size d e.pool) (free now) in
    let size = λ (x : Reserve). x.size in
    let kept_now = sum_by-append size done (e ∷ es) in
    let kept_next = sum_by-append size (done ++ then ∷ []) es in
    let debts_now = sum_by-append (debt h.grants) done (e ∷ es) in
    let debts_next = sum_by-append (debt h.grants) (done ++ then ∷ []) es in
    let kept_e = sum_by-cons size e es in
    let kept_then = sum_by_push size done then in
    let debts_e = sum_by-cons (debt h.grants) e es in
    let debts_then = sum_by_push (debt h.grants) done then in
    (omega (arith, within, turn), omega (arith, within, turn))

carries : (d : Definitions) (h : Holdings) (done es : List Reserve)
    → (let now : Holdings = record h { reserves = done ++ es } in
    taken_up now ≤ h.in_force → grown_anew d h done es ≡ done ++ grown_reserves d h.grants (free now) es)
carries d h done [] within = sym (append-nil done)
carries d h done (e ∷ es) within =
    let now : Holdings = record h { reserves = done ++ e ∷ es } in
    let more = growth d h.grants (free now) e in
    let then = resized e (e.size + more) in
    let next = free-turn d h done e es within in
    carries d h (done ++ then ∷ []) es next.1
    ∙ ap (λ (n : ℕ). (done ++ then ∷ []) ++ grown_reserves d h.grants n es) next.0
    ∙ append_assoc done (then ∷ []) (grown_reserves d h.grants (free now - (more - debt h.grants e)) es)

pub carries-all : (d : Definitions) (h : Holdings) → taken_up h ≤ h.in_force → grown_anew d h [] h.reserves ≡ (grown d h).reserves
carries-all d h within = carries d h [] h.reserves within

-- what is reserved and lent grows by what was free at most, and does not fall
record GrowsBy (spare before after : ℕ) : Type 0 where
  pub most : after ≤ before + spare
  pub least : before ≤ after

grown-by : (d : Definitions) (h : Holdings) → GrowsBy (free h) (taken_up h) (taken_up (grown d h))
grown-by d h =
    let whole = grown-whole d h.grants (free h) h.reserves in
    let most = left_over-most d h.grants (free h) h.reserves in
    record { most = omega (arith, whole); least = omega (arith, whole, most) }

held-grown : (d : Definitions) (h : Holdings) → AreWithinMemory d h → AreWithinMemory d (grown d h)
held-grown d h held = record { within = omega (arith, held.within, (grown-by d h).most); granted = held.granted; in_force_most = held.in_force_most }

-- after the shuffle the bytes are covered
pub covered-shuffle : (d : Definitions) (h : Holdings) → IsSound d → AreNamed h → AreWithinMemory d h → AreCovered d (shuffled d h)
covered-shuffle d h sound named held =
    let f = fallen d h in
    let t = with_force d f in
    let after = held-force d f sound (renamed h f.reserves (fallen-names d h.grants h.reserves) named) (held-fallen d h held) in
    record {
      held = held-grown d t after;
      in_force_least = omega arith;
      full_above_total = λ above. omega (arith, above, (grown-by d t).least);
    }

-- the memory in force is then no more than it was, or the total
pub force-shuffle : (d : Definitions) (h : Holdings) → taken_up h ≤ h.in_force → (shuffled d h).in_force ≤ max (total d) h.in_force
force-shuffle d h within = let sums = fallen-sums d h.grants h.reserves in omega (arith, within, sums.0, sums.1)

-- it keeps the pools, so the bytes of the shuffled state are these
pub shuffle-names : (d : Definitions) (h : Holdings) → reserve_names (shuffled d h).reserves ≡ reserve_names h.reserves
shuffle-names d h =
    grown-names d h.grants (free (with_force d (fallen d h))) (fallen d h).reserves ∙ fallen-names d h.grants h.reserves

pub shuffled-bytes : (s : State) → AreSized s.definitions s.actual s.counters → holdings_of (shuffled_state s) ≡ shuffled s.definitions (holdings_of s)
shuffled-bytes s sized =
    let d = s.definitions in
    let u = shuffled d (holdings_of s) in
    ap (λ (es : List Reserve). let v : Holdings = record u { reserves = es } in v)
    (reserves-again (user_pools d.pools) u.reserves (shuffle-names d (holdings_of s) ∙ reserve_names-of (user_pools d.pools) s.actual sized.sizes))

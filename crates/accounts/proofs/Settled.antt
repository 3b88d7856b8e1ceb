-- A shuffle that changes nothing.
use Rattle.std.proofs.Common.{◌≡◌, ◌≤◌, ◌<◌, ℕ, ◌+◌, ◌-◌, Bool, true, false, cond, nat_lt, List, [], ◌∷◌, ◌++◌, length, map, take, get_or, max, refl, ap, sym, ◌∙◌, arith}
use Rattle.std.specs.List.{list_all}
use Rattle.std.proofs.lemmas.Bool.Decides.{nat_tests}
use Rattle.std.proofs.lemmas.List.{take_more}
use Rattle.rm_base.specs.declared.definitions.Definitions.{Definitions}
use Rattle.rm_rules.specs.declared.state.Holding.{Holding}
use Rattle.rm_rules.specs.declared.state.Reserve.{Reserve}
use Rattle.rm_rules.specs.Definitions.{total, memory_size}
use Rattle.rm_rules.specs.Holdings.{Holdings}
use Rattle.rm_rules.specs.Accounting.{own, debt, free, taken_up}
use Rattle.rm_rules.specs.Shuffle.{resized, fallen_size, fallen, with_force, growth, grown_reserves, grown, shuffled}
use Rattle.rm_rules.proofs.Taken.{and_left, and_right, all_push}
use Rattle.accounts.specs.Sizes.{is_settled}

size-is : (d : Definitions) (e : Reserve) → is_settled d e ≡ true → e.size ≡ memory_size d e.pool
size-is d e settled = grind (arith, nat_tests)

fallen-turn : (memory size own : ℕ) (b : Bool) → nat_lt memory size ≡ b → size ≡ memory → cond b (max memory own) size ≡ size
fallen-turn memory size own true below same = absurd (let less : memory < size = grind (arith, nat_tests) in omega (arith, less, same))
fallen-turn memory size own false below same = refl

fallen-same : (d : Definitions) (grants : List Holding) (es : List Reserve) → list_all (is_settled d) es ≡ true → map (λ e. resized e (fallen_size d grants e)) es ≡ es
fallen-same d grants [] settled = refl
fallen-same d grants (e ∷ es) settled =
    let is = size-is d e (and_left (is_settled d e) _ settled) in
    let here : fallen_size d grants e ≡ e.size = fallen-turn (memory_size d e.pool) e.size (own grants e) (nat_lt (memory_size d e.pool) e.size) refl is in
    let rest = fallen-same d grants es (and_right (is_settled d e) _ settled) in
    λ j. resized e (here j) ∷ rest j

grown-same : (d : Definitions) (grants : List Holding) (spare : ℕ) (es : List Reserve) → list_all (is_settled d) es ≡ true → grown_reserves d grants spare es ≡ es
grown-same d grants spare [] settled = refl
grown-same d grants spare (e ∷ es) settled =
    let is = size-is d e (and_left (is_settled d e) _ settled) in
    let here : e.size + growth d grants spare e ≡ e.size = omega (arith, is) in
    let rest = grown-same d grants (spare - (growth d grants spare e - debt grants e)) es (and_right (is_settled d e) _ settled) in
    λ j. resized e (here j) ∷ rest j

pub settled-same : (d : Definitions) (h : Holdings) → taken_up h ≤ h.in_force → h.in_force ≡ total d → list_all (is_settled d) h.reserves ≡ true → shuffled d h ≡ h
settled-same d h within force settled =
    let fell : fallen d h ≡ h = ap (λ (es : List Reserve). let u : Holdings = record h { reserves = es } in u) (fallen-same d h.grants h.reserves settled) in
    let forced : max (total d) (taken_up h) ≡ h.in_force = omega (arith, within, force) in
    let now : with_force d (fallen d h) ≡ h = ap (with_force d) fell ∙ ap (λ (n : ℕ). let u : Holdings = record h { in_force = n } in u) forced in
    ap (grown d) now ∙ ap (λ (es : List Reserve). let u : Holdings = record h { reserves = es } in u) (grown-same d h.grants (free h) h.reserves settled)

pub settled-turn : (d : Definitions) (es : List Reserve) (i : ℕ) (e : Reserve) → i < length es → e ≡ get_or es i e → e.size ≡ memory_size d e.pool
    → list_all (is_settled d) (take i es) ≡ true → list_all (is_settled d) (take (i + 1) es) ≡ true
settled-turn d es i e within at is so_far =
    let here : is_settled d e ≡ true = grind (arith, nat_tests) in
    ap (λ (l : List Reserve). list_all (is_settled d) l) (take_more es i e within ∙ ap (λ (x : Reserve). take i es ++ x ∷ []) (sym at))
    ∙ all_push (is_settled d) (take i es) e so_far here

-- A list in which one item was changed in its place.
use Rattle.std.proofs.Common.{◌≡◌, ℕ, Bool, Option, Some, None, List, get_or, position, set, sym, ap, ◌∙◌}
use Rattle.rm_rules.specs.State.{changed_first}
use Rattle.rm_rules.proofs.Places.{changed-found, changed-absent}

-- the first that passes was found and changed, or none passes
pub set-changed : {A : Type 0} (test : A → Bool) (act : A → A) (xs ls ms ys : List A) (x : A) (i : ℕ) → ls ≡ xs → Some i ≡ position test ls → ms ≡ xs → x ≡ get_or ms i x → ys ≡ set xs i (act x)
    → ys ≡ changed_first test act xs
set-changed test act xs ls ms ys x i first found second at now =
    now ∙ ap (λ z. set xs i (act z)) (at ∙ ap (λ l. get_or l i x) second)
    ∙ sym (changed-found test act xs x i (sym (found ∙ ap (position test) first)))

pub set-absent : {A : Type 0} (test : A → Bool) (act : A → A) (xs ls : List A) → ls ≡ xs → (let o : Option ℕ = None in o ≡ position test ls) → xs ≡ changed_first test act xs
set-absent test act xs ls first absent = sym (changed-absent test act xs (sym (absent ∙ ap (position test) first)))

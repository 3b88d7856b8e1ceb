-- each one's answer, one by one
use Rattle.std.proofs.Common.{◌≡◌, ℕ, ◌+◌, ◌<◌, Result, Ok, Err, List, [], ◌∷◌, ◌++◌, length, drop, get_or, refl, sym, ◌∙◌, ap, append_assoc, add-one, drop-cons}
use Rattle.rm_base.specs.declared.refusal.Refusal.{Refusal}
use Rattle.query_plan.specs.Resolving.{and_then, each}

-- what is answered so far, and the answers that are left
abbrev pub onto : {B : Type 0} → List B → Result (List B) Refusal → Result (List B) Refusal
onto out (Ok ys) = Ok (out ++ ys)
onto out (Err why) = Err why

pub onto-nil : {B : Type 0} (r : Result (List B) Refusal) → onto [] r ≡ r
onto-nil (Ok ys) = refl
onto-nil (Err why) = refl

onto-cons : {B : Type 0} (out : List B) (y : B) (r : Result (List B) Refusal)
    → onto out (and_then r (λ ys. Ok (y ∷ ys))) ≡ onto (out ++ y ∷ []) r
onto-cons out y (Ok ys) = ap (λ l. Ok l) (sym (append_assoc out (y ∷ []) ys))
onto-cons out y (Err why) = refl

pub each-more : {A B : Type 0} (f : A → Result B Refusal) (out : List B) (x : A) (xs : List A) (y : B) → f x ≡ Ok y
    → onto out (each f (x ∷ xs)) ≡ onto (out ++ y ∷ []) (each f xs)
each-more f out x xs y is =
    ap (λ r. onto out (and_then r (λ y. and_then (each f xs) (λ ys. Ok (y ∷ ys))))) is ∙ onto-cons out y (each f xs)

pub each-stop : {A B : Type 0} (f : A → Result B Refusal) (out : List B) (x : A) (xs : List A) (why : Refusal) → f x ≡ Err why
    → onto out (each f (x ∷ xs)) ≡ Err why
each-stop f out x xs why is = ap (λ r. onto out (and_then r (λ y. and_then (each f xs) (λ ys. Ok (y ∷ ys))))) is

-- one turn at a place of the list
pub each-goes : {A B : Type 0} (f : A → Result B Refusal) (out : List B) (xs : List A) (i : ℕ) (x : A) (y : B) (next : List B) (all : Result (List B) Refusal)
    → i < length xs → x ≡ get_or xs i x → f x ≡ Ok y → next ≡ out ++ y ∷ []
    → onto out (each f (drop i xs)) ≡ all → onto next (each f (drop (i + 1) xs)) ≡ all
each-goes f out xs i x y next all within at is more so_far =
    let here : drop i xs ≡ get_or xs i x ∷ drop (i + 1) xs = rw (add-one, drop-cons xs i x) refl in
    ap (λ l. onto l (each f (drop (i + 1) xs))) more
    ∙ sym (each-more f out x (drop (i + 1) xs) y is)
    ∙ ap (λ z. onto out (each f (z ∷ drop (i + 1) xs))) at
    ∙ ap (λ l. onto out (each f l)) (sym here)
    ∙ so_far

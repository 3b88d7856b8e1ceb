-- truth values and results whose parts are known
use Rattle.std.proofs.Common.{◌≡◌, ℕ, Bool, true, false, List, Result, Ok, Err, IfOk, sym, ◌∙◌, subst}

pub true_false : ◌≡◌ {A = Bool} true false → ⊥
true_false h = cc

pub said_as : {T E : Type 0} (f : T → List ℕ) (r : Result T E) (a b : List ℕ) → a ≡ b → IfOk r (λ t. f t ≡ a) → IfOk r (λ t. f t ≡ b)
said_as f (Ok t) a b same h = h ∙ same
said_as f (Err e) a b same h = tt

pub said_all : {T E : Type 0} (P : List ℕ → Type 0) (f : T → List ℕ) (r : Result T E) (a : List ℕ) → P a → IfOk r (λ t. f t ≡ a) → IfOk r (λ t. P (f t))
said_all P f (Ok t) a h is = subst P (sym is) h
said_all P f (Err e) a h is = tt

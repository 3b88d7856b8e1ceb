-- What is left when the front of a list is copied into a buffer.
use Rattle.std.specs.Io.KnownBytes.{ReadConsumes}
use Rattle.std.proofs.Common.{◌≡◌, ◌++◌, ℕ, List, Some, Ok, min, length, take, drop, sym, ap, ◌∙◌, arith, take_at, length-take-le, take-append-drop, drop_of_length-le}

-- the copied bytes are the front, and what stays is the rest
pub front_of_copy : (all old new : List ℕ) (n : ℕ)
    → n ≡ min (length all) (length old) → new ≡ take n all ++ drop n old → take n new ≡ take n all
front_of_copy all old new n count copied = ap (take n) copied ∙ take_at _ _ n (length-take-le n all (omega arith))

-- a read that copies the front and moves past it
pub reads_front : (all old new rest : List ℕ) (n : ℕ)
    → n ≡ min (length all) (length old) → length new ≡ length old → new ≡ take n all ++ drop n old → rest ≡ drop n all
    → ReadConsumes {E = ℕ} (Some all) (Some rest) (Ok n) new
reads_front all old new rest n count same copied moved = (
  sym (take-append-drop n all) ∙ ap (λ l. l ++ drop n all) (sym (front_of_copy all old new n count copied)) ∙ ap (λ l. take n new ++ l) (sym moved),
  λ zero room. moved ∙ drop_of_length-le all (omega arith),
)

-- The records of a text, one after the other.
use Rattle.std.proofs.Common.{◌≡◌, ◌==◌, ◌||◌, ◌<◌, ◌≤◌, ◌+◌, ◌∷◌, ◌∙◌, [], ℕ, zero, suc, List, Bool, true, false, if◌then◌else◌, Option, Some, None, length, refl, sym, ap, subst, arith, add-one}
use Rattle.std.proofs.lemmas.Bool.{false≢true}
use Rattle.csv.specs.Machine.{Read, next_record, step, in_field, is_end, ends_at_end}
use Rattle.csv.specs.Reading.{records_from, records_next, default_config}
use Rattle.csv.specs.declared.parser.State.{State}
use Rattle.csv.specs.declared.parser.State.TheVariants as st
use Rattle.csv.specs.declared.parser.Action.{Action}
use Rattle.csv.specs.declared.parser.Action.TheVariants as act
use Rattle.csv_tables.specs.Left.{left_from}

-- where an action ends a record, the end of the text adds none
abbrev Ends : State × Action → Type 0
Ends x = is_end x.1 ≡ true → ends_at_end x.0 ≡ false

skips : (b : Bool) (s : State) (x : State × Action) → Ends x → Ends (if b then (s, act.Skip) else x)
skips true s x f h = absurd (false≢true h)
skips false s x f h = f h

copies : (b : Bool) (s : State) (x : State × Action) → Ends x → Ends (if b then (s, act.Copy) else x)
copies true s x f h = absurd (false≢true h)
copies false s x f h = f h

field_turn : (comma cr lf : Bool) → Ends (if comma then (st.StartField, act.EndField) else if cr || lf then (if cr then st.AfterCr else st.StartRecord, act.EndRecord) else (st.InField, act.Copy))
field_turn true cr lf h = absurd (false≢true h)
field_turn false true lf h = refl
field_turn false false true h = refl
field_turn false false false h = absurd (false≢true h)

field_ends : (c : ℕ) → Ends (in_field default_config c)
field_ends c = field_turn (c == 44) (c == 13) (c == 10)

start_ends : (c : ℕ) → Ends (step default_config st.StartRecord c)
start_ends c = skips ((c == 13) || (c == 10)) st.StartRecord _ (skips (c == 34) st.InQuoted _ (field_ends c))

step_ends : (s : State) (c : ℕ) → Ends (step default_config s c)
step_ends st.StartRecord c = start_ends c
step_ends st.StartField c = skips (c == 34) st.InQuoted _ (field_ends c)
step_ends st.InField c = field_ends c
step_ends st.InQuoted c = skips (c == 34) st.AfterQuote _ (λ h. absurd (false≢true h))
step_ends st.InEscape c = λ h. absurd (false≢true h)
step_ends st.AfterQuote c = copies (c == 34) st.InQuoted _ (field_ends c)
step_ends st.InComment c = skips (c == 10) st.StartRecord _ (λ h. absurd (false≢true h))
step_ends st.AfterCr c = skips (c == 10) st.StartRecord _ (start_ends c)

-- what a read leaves is no longer than before, and stands between two records
abbrev Shorter : ℕ → Read → Type 0
Shorter n p = (length p.2 ≤ n) × (ends_at_end p.1 ≡ false)

end_turn : (b : Bool) (fields : List (List ℕ)) (p : Read) → (if b then Some (fields, st.StartRecord, []) else None) ≡ Some p → Shorter 0 p
end_turn true fields p h = let e = some_inj h in subst (Shorter 0) e (omega arith, refl)
  where
    some_inj : {A : Type 0} {x y : A} → Some x ≡ Some y → x ≡ y
    some_inj h = cc
end_turn false fields p h = absurd (cc)

step_turn : (b : Bool) (now : Read) (later : Option Read) (n : ℕ) (p : Read) → (if b then Some now else later) ≡ Some p
    → (b ≡ true → Shorter n now) → (later ≡ Some p → Shorter n p) → Shorter n p
step_turn true now later n p h f g = subst (Shorter n) (some_inj h) (f refl)
  where
    some_inj : {A : Type 0} {x y : A} → Some x ≡ Some y → x ≡ y
    some_inj h = cc
step_turn false now later n p h f g = g h

next_shorter : (s : State) (fields : List (List ℕ)) (field xs : List ℕ) (p : Read) → next_record default_config s fields field xs ≡ Some p → Shorter (length xs) p
unfolding next_record
next_shorter s fields field [] p h = end_turn (ends_at_end s) _ p h
next_shorter s fields field (c ∷ rest) p h =
    step_turn (is_end (step default_config s c).1) _ _ (suc (length rest)) p h
    (λ e. (omega arith, step_ends s c e))
    (λ e. let r = next_shorter (step default_config s c).0 _ _ rest p e in (omega (arith, r.0), r.1))

first_shorter : (s : State) (xs : List ℕ) (p : Read) → ends_at_end s ≡ false → next_record default_config s [] [] xs ≡ Some p
    → (length p.2 < length xs) × (ends_at_end p.1 ≡ false)
unfolding next_record
first_shorter s [] p between h = absurd (no_end (ends_at_end s) between h)
  where
    no_end : (b : Bool) → b ≡ false → (if b then Some ([] ∷ [], st.StartRecord, []) else None) ≡ Some p → ⊥
    no_end true e h = false≢true (sym e)
    no_end false e h = cc
first_shorter s (c ∷ rest) p between h =
    let r = step_turn (is_end (step default_config s c).1) _ _ (length rest) p h
    (λ e. (omega arith, step_ends s c e))
    (λ e. next_shorter (step default_config s c).0 _ _ rest p e) in
    (omega (arith, r.0), r.1)

enough_turn : (n m : ℕ) (o : Option Read) → ((p : Read) → o ≡ Some p → records_from default_config n p.1 p.2 ≡ records_from default_config m p.1 p.2)
    → records_next (records_from default_config n) o ≡ records_next (records_from default_config m) o
enough_turn n m None f = refl
enough_turn n m (Some p) f = ap (λ more. p.0 ∷ more) (f p refl)

-- more turns than bytes give all records
enough : (n m : ℕ) (s : State) (xs : List ℕ) → ends_at_end s ≡ false → length xs < n → length xs < m
    → records_from default_config n s xs ≡ records_from default_config m s xs
unfolding records_from
enough zero m s xs between a b = absurd (omega arith)
enough (suc n) zero s xs between a b = absurd (omega arith)
enough (suc n) (suc m) s xs between a b =
    enough_turn n m (next_record default_config s [] [] xs)
    (λ p e. let r = first_shorter s xs p between e in enough n m p.1 p.2 r.1 (omega (arith, r.0)) (omega (arith, r.0)))

from_turn : (n : ℕ) (s : State) (xs : List ℕ) (o : Option Read) → next_record default_config s [] [] xs ≡ o
    → records_from default_config (n + 1) s xs ≡ records_next (records_from default_config n) o
unfolding records_from
from_turn n s xs o e = rw add-one (ap (λ o. records_next (records_from default_config n) o) e)

-- one more record is there
pub left_more : (s : State) (xs : List ℕ) (p : Read) → ends_at_end s ≡ false → next_record default_config s [] [] xs ≡ Some p
    → (left_from s xs ≡ p.0 ∷ left_from p.1 p.2) × (ends_at_end p.1 ≡ false)
left_more s xs p between e =
    let r = first_shorter s xs p between e in (
      from_turn (length xs) s xs (Some p) e
          ∙ ap (λ more. p.0 ∷ more) (enough (length xs) (length p.2 + 1) p.1 p.2 r.1 r.0 (omega arith)),
      r.1,
    )

-- and none is left
pub left_none : (s : State) (xs : List ℕ) → next_record default_config s [] [] xs ≡ None → left_from s xs ≡ []
left_none s xs e = from_turn (length xs) s xs None e

-- rows that are given one after another to what is made of them
use Rattle.std.proofs.Common.{◌≡◌, ℕ, ◌+◌, ◌<◌, ◌⊎◌, inl, inr, Bool, Option, List, [], ◌∷◌, ◌++◌, map, take, drop, filter, length, get_or, refl, sym, ap, ◌∙◌, arith}
use Rattle.std.proofs.lemmas.List.{length-map, length-take, map-append, map_more, take-append-drop}
use Rattle.rm_base.specs.declared.select.Item.{Item}
use Rattle.rm_base.specs.declared.value.Value.{Value}
use Rattle.rm_base.specs.Values.{rows_measure}
use Rattle.query_run.specs.Gathering.{gathered_charge}
use Rattle.query_run.proofs.Outcomes.{gathered_beyond}
use Rattle.query_run.proofs.Taking.{taken_beyond, taken_more, taken_split}

pub scan_beyond : (p : List Value → Bool) (rows : List (List Value)) (i : ℕ) (row : List Value) (charge room : ℕ) (items : List Item) (groups : Option (List ℕ))
    → i < length rows → row ≡ get_or rows i row → charge ≡ rows_measure (filter p (take i rows))
    → ((room < charge + rows_measure (filter p (row ∷ []))) ⊎ (room < gathered_charge items groups (filter p (take i rows) ++ filter p (row ∷ []))))
    → ((room < rows_measure (filter p rows)) ⊎ (room < gathered_charge items groups (filter p rows)))
scan_beyond p rows i row charge room items groups within at is (inl beyond) = inl (taken_beyond p rows i row charge room room within at is refl beyond)
scan_beyond p rows i row charge room items groups within at is (inr beyond) =
    inr (gathered_beyond room items groups (filter p (take i rows) ++ filter p (row ∷ [])) (filter p rows) (filter p (drop (i + 1) rows))
    (taken_split p rows (i + 1) ∙ ap (λ l. l ++ filter p (drop (i + 1) rows)) (taken_more p rows i row within at)) beyond)

pub mapped_more : {A B : Type 0} (f : A → B) (xs : List A) (i : ℕ) (x : A) → i < length xs → x ≡ get_or xs i x
    → map f (take (i + 1) xs) ≡ map f (take i xs) ++ f x ∷ []
mapped_more f xs i x within at = map_more f xs i x within ∙ ap (λ y. map f (take i xs) ++ f y ∷ []) (sym at)

pub mapped_few : {A B : Type 0} (f : A → B) (xs : List A) (i most : ℕ) → length xs < most → length (map f (take i xs)) < most
mapped_few f xs i most few = omega (arith, length-map (take i xs) f, length-take i xs, few)

pub read_beyond : {A : Type 0} (f : A → List Value) (xs : List A) (i : ℕ) (x : A) (room : ℕ) (items : List Item) (groups : Option (List ℕ))
    → i < length xs → x ≡ get_or xs i x → room < gathered_charge items groups (map f (take i xs) ++ f x ∷ []) → room < gathered_charge items groups (map f xs)
read_beyond f xs i x room items groups within at beyond =
    gathered_beyond room items groups (map f (take i xs) ++ f x ∷ []) (map f xs) (map f (drop (i + 1) xs))
    (ap (map f) (sym (take-append-drop (i + 1) xs)) ∙ map-append f (take (i + 1) xs) (drop (i + 1) xs) ∙ ap (λ l. l ++ map f (drop (i + 1) xs)) (mapped_more f xs i x within at)) beyond

-- Lists in ascending order, and without repetitions.
use Rattle.std.specs.Prelude.{Bool, not, filter, List, [], ◌∷◌, if◌then◌else◌}
use Rattle.std.specs.declared.cmp.Ordering.{Ordering}
use Rattle.std.specs.Ordering.{is_gt}

-- an element put into a list in order, before the first that it is not above
abbrev pub put : {X : Type 0} → (X → X → Ordering) → X → List X → List X
put cmp new [] = new ∷ []
put cmp new (x ∷ xs) = if is_gt (cmp new x) then x ∷ put cmp new xs else new ∷ x ∷ xs

-- the elements in ascending order
abbrev pub sorted : {X : Type 0} → (X → X → Ordering) → List X → List X
sorted cmp [] = []
sorted cmp (x ∷ xs) = put cmp x (sorted cmp xs)

-- the first of each of the elements that are the same
abbrev pub distinct : {X : Type 0} → (X → X → Bool) → List X → List X
distinct same [] = []
distinct same (x ∷ xs) = x ∷ filter (λ y. not (same x y)) (distinct same xs)

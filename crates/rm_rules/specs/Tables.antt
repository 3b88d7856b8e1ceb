-- Rows in tables.
use Rattle.std.specs.Prelude.{Bool, not, List, [], ◌∷◌, filter, if◌then◌else◌}
use Rattle.rm_base.specs.declared.name.Name.{Name}
use Rattle.rm_base.specs.Name.{same_name}

-- the rows with this one: in the place of the row of its name, or at the end where there is none
abbrev pub with_row : {A : Type 0} → (A → Name) → A → List A → List A
with_row name_of row [] = row ∷ []
with_row name_of row (r ∷ rs) = if same_name (name_of r) (name_of row) then row ∷ rs else r ∷ with_row name_of row rs

-- the rows but those that pass the test
abbrev pub all_but : {A : Type 0} → (A → Bool) → List A → List A
all_but test rows = filter (λ r. not (test r)) rows

-- the rows but the one of this name
abbrev pub without_row : {A : Type 0} → (A → Name) → Name → List A → List A
without_row name_of name rows = all_but (λ r. same_name (name_of r) name) rows

-- A row in its place.
use Rattle.std.specs.Prelude.{◌≡◌, ℕ, suc, ◌+◌, ◌<◌, ◌≤◌, Bool, true, false, not, cond, List, [], ◌∷◌, ◌++◌, length, slice_set, Option, Some, None, refl}
use Rattle.std.specs.List.{position, position_or_len}
use Rattle.std.proofs.Common.{sym, ap, ◌∙◌, arith}
use Rattle.std.proofs.lemmas.List.{length_push}
use Rattle.rm_base.specs.declared.name.Name.{Name}
use Rattle.rm_base.specs.Name.{same_name}
use Rattle.rm_rules.specs.Tables.{with_row}
use Rattle.rm_rules.proofs.Places.{position-within, position-is, position-past}

-- the row has this name
abbrev pub has_name : {A : Type 0} → (A → Name) → Name → A → Bool
has_name name_of name r = same_name (name_of r) name

-- where a row of the name is there, it is set
set-turn : {A : Type 0} (name_of : A → Name) (row r : A) (rs : List A) (b : Bool) (n : ℕ) → cond (not b) (1 + n) 0 < length (r ∷ rs)
    → (n < length rs → with_row name_of row rs ≡ slice_set rs n row)
    → cond b (row ∷ rs) (r ∷ with_row name_of row rs) ≡ slice_set (r ∷ rs) (cond (not b) (1 + n) 0) row
set-turn name_of row r rs true n within behind = refl
set-turn name_of row r rs false n within behind =
    let one : 1 + n ≡ suc n = omega arith in
    ap (λ xs. r ∷ xs) (behind (omega arith)) ∙ ap (λ i. slice_set (r ∷ rs) i row) (sym one)

with-set : {A : Type 0} (name_of : A → Name) (row : A) (rs : List A) → position_or_len (has_name name_of (name_of row)) rs < length rs
    → with_row name_of row rs ≡ slice_set rs (position_or_len (has_name name_of (name_of row)) rs) row
with-set name_of row [] within = absurd (omega arith)
with-set name_of row (r ∷ rs) within =
    set-turn name_of row r rs (same_name (name_of r) (name_of row)) (position_or_len (has_name name_of (name_of row)) rs) within (with-set name_of row rs)

-- where none is, the row is added
add-turn : {A : Type 0} (name_of : A → Name) (row r : A) (rs : List A) (b : Bool) (n : ℕ) → length (r ∷ rs) ≤ cond (not b) (1 + n) 0
    → (length rs ≤ n → with_row name_of row rs ≡ rs ++ row ∷ []) → cond b (row ∷ rs) (r ∷ with_row name_of row rs) ≡ (r ∷ rs) ++ row ∷ []
add-turn name_of row r rs true n past behind = absurd (omega arith)
add-turn name_of row r rs false n past behind = ap (λ xs. r ∷ xs) (behind (omega arith))

with-added : {A : Type 0} (name_of : A → Name) (row : A) (rs : List A) → length rs ≤ position_or_len (has_name name_of (name_of row)) rs → with_row name_of row rs ≡ rs ++ row ∷ []
with-added name_of row [] past = refl
with-added name_of row (r ∷ rs) past =
    add-turn name_of row r rs (same_name (name_of r) (name_of row)) (position_or_len (has_name name_of (name_of row)) rs) past (with-added name_of row rs)

-- the place of a row of the name, where the name and the rows are read off others
pub place-read : {A : Type 0} (name_of : A → Name) (row : A) (rows read : List A) (name : Name) (place : Option ℕ) → place ≡ position (has_name name_of name) read
    → name ≡ name_of row → read ≡ rows → place ≡ position (has_name name_of (name_of row)) rows
place-read {A} name_of row rows read name place at named same =
    at ∙ ap (λ n. position (has_name name_of n) read) named ∙ ap (λ (l : List A). position (has_name name_of (name_of row)) l) same

-- by the place that `position` gives: what is set there, or added
pub put-found : {A : Type 0} (name_of : A → Name) (row : A) (rows new : List A) (i : ℕ) → position (has_name name_of (name_of row)) rows ≡ Some i → new ≡ slice_set rows i row
    → new ≡ with_row name_of row rows
put-found name_of row rows new i h is =
    let within : position_or_len (has_name name_of (name_of row)) rows < length rows = position-within (has_name name_of (name_of row)) rows i h in
    is ∙ ap (λ k. slice_set rows k row) (sym (position-is (has_name name_of (name_of row)) rows i h)) ∙ sym (with-set name_of row rows within)

with-missing : {A : Type 0} (name_of : A → Name) (row : A) (rows : List A) → position (has_name name_of (name_of row)) rows ≡ None → with_row name_of row rows ≡ rows ++ row ∷ []
with-missing name_of row rows h = with-added name_of row rows (position-past (has_name name_of (name_of row)) rows h)

pub put-missing : {A : Type 0} (name_of : A → Name) (row : A) (rows new : List A) → position (has_name name_of (name_of row)) rows ≡ None → new ≡ rows ++ row ∷ []
    → new ≡ with_row name_of row rows
put-missing name_of row rows new h is = is ∙ sym (with-missing name_of row rows h)

pub room-for_more : {A : Type 0} (name_of : A → Name) (row : A) (rows : List A) (most : ℕ) → position (has_name name_of (name_of row)) rows ≡ None → length (with_row name_of row rows) ≤ most
    → length rows < most
room-for_more name_of row rows most h room = omega (arith, ap length (with-missing name_of row rows h), length_push rows row)

-- rows have room where all of them are the first that fit
use Rattle.std.proofs.Common.{◌≡◌, ℕ, ◌+◌, ◌-◌, ◌<◌, ◌≤◌, Bool, true, false, cond, nat_le, min, ◌^◌, List, [], ◌∷◌, length, get_or, drop, drop-cons, add-one, refl, sym, ap, ◌∙◌, arith}
use Rattle.std.proofs.lemmas.Bool.Decides.{nat_tests}
use Rattle.std.proofs.lemmas.List.Sums.{sum_by-cons}
use Rattle.rm_base.specs.declared.limits.TheConstants.{ANSWER_MOST}
use Rattle.rm_base.specs.declared.value.Value.{Value}
use Rattle.rm_base.specs.Values.{row_measure, rows_measure}
use Rattle.rm_rules.specs.Meaning.{answer_of, fitting}
use Rattle.rm_rules.specs.Meaning.SelectOutcome.{Answer, AnswerTooLarge}

all_fit : (room : ℕ) (rows : List (List Value)) → length rows ≤ fitting room rows → rows_measure rows ≤ room
all_fit room [] h = omega arith
all_fit room (row ∷ rows) h = go (nat_le (row_measure row) room) refl (all_fit (room - row_measure row) rows) h
  where
    go : (b : Bool) → nat_le (row_measure row) room ≡ b
        → (length rows ≤ fitting (room - row_measure row) rows → rows_measure rows ≤ room - row_measure row)
        → length (row ∷ rows) ≤ cond b (1 + fitting (room - row_measure row) rows) 0 → rows_measure (row ∷ rows) ≤ room
    go false test rest h = absurd (omega (arith, h))
    go true test rest h =
        let within : row_measure row ≤ room = grind (arith, nat_tests, test) in
        omega (arith, within, sum_by-cons row_measure row rows, rest (omega (arith, h)))

some_fit : (room : ℕ) (rows : List (List Value)) → fitting room rows < length rows → room < rows_measure rows
some_fit room [] h = absurd (omega (arith, h))
some_fit room (row ∷ rows) h = go (nat_le (row_measure row) room) refl (some_fit (room - row_measure row) rows) h
  where
    go : (b : Bool) → nat_le (row_measure row) room ≡ b
        → (fitting (room - row_measure row) rows < length rows → room - row_measure row < rows_measure rows)
        → cond b (1 + fitting (room - row_measure row) rows) 0 < length (row ∷ rows) → room < rows_measure (row ∷ rows)
    go false test rest h =
        let beyond : room < row_measure row = grind (arith, nat_tests, test) in
        omega (arith, beyond, sum_by-cons row_measure row rows)
    go true test rest h = omega (arith, sum_by-cons row_measure row rows, rest (omega (arith, h)))

pub answers : (rows : List (List Value)) → length rows ≤ fitting ANSWER_MOST rows → answer_of rows ≡ Answer rows
answers rows h = go (nat_le (rows_measure rows) ANSWER_MOST) refl
  where
    go : (b : Bool) → nat_le (rows_measure rows) ANSWER_MOST ≡ b
        → cond b (Answer rows) (AnswerTooLarge (fitting ANSWER_MOST rows)) ≡ Answer rows
    go true test = refl
    go false test =
        let fits : rows_measure rows ≤ ANSWER_MOST = all_fit ANSWER_MOST rows h in
        let beyond : ANSWER_MOST < rows_measure rows = grind (arith, nat_tests, test) in
        absurd (omega (arith, fits, beyond))

pub answers_not : (rows : List (List Value)) → fitting ANSWER_MOST rows < length rows
    → answer_of rows ≡ AnswerTooLarge (fitting ANSWER_MOST rows)
answers_not rows h = go (nat_le (rows_measure rows) ANSWER_MOST) refl
  where
    go : (b : Bool) → nat_le (rows_measure rows) ANSWER_MOST ≡ b
        → cond b (Answer rows) (AnswerTooLarge (fitting ANSWER_MOST rows)) ≡ AnswerTooLarge (fitting ANSWER_MOST rows)
    go false test = refl
    go true test =
        let beyond : ANSWER_MOST < rows_measure rows = some_fit ANSWER_MOST rows h in
        let fits : rows_measure rows ≤ ANSWER_MOST = grind (arith, nat_tests, test) in
        absurd (omega (arith, fits, beyond))

-- one row more fits
pub fits_more : (room count i measure all : ℕ) (row : List Value) (rows : List (List Value)) → i < length rows → row ≡ get_or rows i row
    → measure ≡ min (row_measure row) (2 ^ 64 - 1) → measure ≤ room → room ≤ ANSWER_MOST
    → count + fitting room (drop i rows) ≡ all → (count + 1) + fitting (room - measure) (drop (i + 1) rows) ≡ all
fits_more room count i measure all row rows within at is fits most so_far =
    let exact : row_measure row ≡ measure = omega (arith, is, fits, most) in
    let test : nat_le (row_measure row) room ≡ true = grind (arith, nat_tests, exact, fits) in
    let split : drop i rows ≡ get_or rows i row ∷ drop (i + 1) rows = rw (add-one, drop-cons rows i row) refl in
    let here : drop i rows ≡ row ∷ drop (i + 1) rows = split ∙ ap (λ r. r ∷ drop (i + 1) rows) (sym at) in
    let first : fitting room (row ∷ drop (i + 1) rows) ≡ 1 + fitting (room - measure) (drop (i + 1) rows) =
    ap (λ b. cond b (1 + fitting (room - row_measure row) (drop (i + 1) rows)) 0) test ∙ ap (λ m. 1 + fitting (room - m) (drop (i + 1) rows)) exact in
    omega (arith, first, ap (fitting room) here, so_far)

-- Rows where the values of one of them come to their end.
use Rattle.std.proofs.Common.{◌≡◌, ℕ, zero, suc, ◌≤◌, ◌<◌, List, [], ◌∷◌, length, drop, refl, sym, ap, ◌∙◌, arith, Less, Equal, Greater}
use Rattle.rm_base.specs.declared.select.Item.{Item}
use Rattle.rm_base.specs.declared.value.Value.{Value}
use Rattle.rm_base.specs.Values.{row_cmp}
use Rattle.rm_rules.specs.Meaning.{shown}

drop-nil : (n : ℕ) → drop {A = Value} n [] ≡ []
drop-nil zero = refl
drop-nil (suc n) = refl

-- more items than values
pub longer : (row : List Value) (items : List Item) (values : List Value) (n : ℕ) → n < length items → length values ≤ n
    → row_cmp (shown (drop n items) row) (drop n values) ≡ Greater
longer row [] values n within past = absurd (omega (arith, within))
longer row (item ∷ items) [] zero within past = refl
longer row (item ∷ items) (value ∷ values) zero within past = absurd (omega (arith, past))
longer row (item ∷ items) [] (suc n) within past =
    ap (row_cmp (shown (drop n items) row)) (sym (drop-nil n)) ∙ longer row items [] n (omega (arith, within)) (omega arith)
longer row (item ∷ items) (value ∷ values) (suc n) within past = longer row items values n (omega (arith, within)) (omega (arith, past))

-- all items are gone, and not all values
pub shorter : (row : List Value) (items : List Item) (values : List Value) (n : ℕ) → length items ≤ n → n ≤ length items → length items < length values
    → row_cmp (shown (drop n items) row) (drop n values) ≡ Less
shorter row [] [] n past within less = absurd (omega (arith, less))
shorter row [] (value ∷ values) zero past within less = refl
shorter row [] (value ∷ values) (suc n) past within less = absurd (omega (arith, within))
shorter row (item ∷ items) [] n past within less = absurd (omega (arith, less))
shorter row (item ∷ items) (value ∷ values) zero past within less = absurd (omega (arith, past))
shorter row (item ∷ items) (value ∷ values) (suc n) past within less =
    shorter row items values n (omega (arith, past)) (omega (arith, within)) (omega (arith, less))

-- all are gone
pub alike : (row : List Value) (items : List Item) (values : List Value) (n : ℕ) → length items ≤ n → n ≤ length items → length values ≤ n → n ≤ length values
    → row_cmp (shown (drop n items) row) (drop n values) ≡ Equal
alike row [] [] zero past within ends there = refl
alike row [] [] (suc n) past within ends there = absurd (omega (arith, within))
alike row [] (value ∷ values) zero past within ends there = absurd (omega (arith, ends))
alike row [] (value ∷ values) (suc n) past within ends there = absurd (omega (arith, within))
alike row (item ∷ items) values zero past within ends there = absurd (omega (arith, past))
alike row (item ∷ items) [] (suc n) past within ends there = absurd (omega (arith, there))
alike row (item ∷ items) (value ∷ values) (suc n) past within ends there =
    alike row items values n (omega (arith, past)) (omega (arith, within)) (omega (arith, ends)) (omega (arith, there))

-- Rows that the writer of `csv` writes, field by field.
use Rattle.std.specs.Result.{OnOk, is_err}
use Rattle.std.proofs.Common.{◌≡◌, ◌≢◌, Result, Ok, Err, ℕ, ◌+◌, ◌<◌, ◌≤◌, ◌-◌, ◌^◌, min, Bool, true, false, not, ◌&&◌, ◌||◌, ◌==◌, List, [], ◌∷◌, ◌++◌, length, get_or, take, drop, map, Option, refl, sym, ap, ◌∙◌, subst, arith, append_assoc, append-nil, length-append}
use Rattle.std.specs.Io.KnownBytes.{Appends}
use Rattle.std.proofs.KnownBytes.{Appends-nil, Appends-trans}
use Rattle.std.proofs.lemmas.List.{take_more, take_all, take-append-drop, length-take, length-map, map-append}
use Rattle.std.proofs.Math.Seq.{take-add}
use Rattle.csv.specs.declared.writer.QuoteStyle.TheVariants as style
use Rattle.csv.specs.declared.writer.Writer.{Writer}
use Rattle.csv.specs.Writing.{default_writer, field_text, next_sep, is_blank, row_body, row_text, tail_text, writer_setup, fields_written, has_written, text_written}
use Rattle.csv.proofs.WriteFacts.{row-more, blank-more, row-final}
use Rattle.rm_base.specs.declared.value.Value.{Value}
use Rattle.sessions.specs.AnswerTexts.{cell_text, row_line, rows_text}
use Rattle.sessions.specs.Answered.{IsBetweenRows}

-- the writer has written these fields of a row
pub record HasFields {W : Type 0} (contents : W → Option (List ℕ)) (first now : Writer W) (fields : List (List ℕ)) : Type 0 where
  pub setup : writer_setup now ≡ default_writer
  pub text : Appends (text_written contents first) (text_written contents now) (row_body default_writer fields)
  pub count : fields_written now ≡ length fields
  pub blank : is_blank default_writer fields ≡ (not (has_written now) && ((length fields == 0) || (length fields == 1)))

none-blank : (b : Bool) → b ≡ false → is_blank default_writer [] ≡ (not b && ((length {A = List ℕ} [] == 0) || (length {A = List ℕ} [] == 1)))
unfolding is_blank
none-blank b h = ap (λ x. not x && true) (sym h)

pub fields-none : {W : Type 0} (contents : W → Option (List ℕ)) (first : Writer W) → IsBetweenRows first → HasFields contents first first []
fields-none contents first h = record {
  setup = h.setup;
  text = Appends-nil (text_written contents first);
  count = h.fields;
  blank = none-blank (has_written first) h.wrote;
}

-- what `write_field` says of one more field
pub record WroteField {W : Type 0} (contents : W → Option (List ℕ)) (now next : Writer W) (field : List ℕ) : Type 0 where
  pub text : (writer_setup now).style ≢ style.NonNumeric → Appends (text_written contents now) (text_written contents next) (next_sep (writer_setup now) (fields_written now) ++ field_text (writer_setup now) field)
  pub same : writer_setup next ≡ writer_setup now
  pub count : fields_written next ≡ min (fields_written now + 1) (2 ^ 64 - 1)
  pub wrote : has_written now ≡ false → (writer_setup now).style ≢ style.NonNumeric → has_written next ≡ not (length (field_text (writer_setup now) field) == 0)
  pub stays : has_written now ≡ true → has_written next ≡ true

plain : default_writer.style ≢ style.NonNumeric
plain = λ e. cc e

pub fields-more : {W : Type 0} (contents : W → Option (List ℕ)) (first now next : Writer W) (fields : List (List ℕ)) (field : List ℕ) → length fields + 1 < 2 ^ 64
    → HasFields contents first now fields → WroteField contents now next field → HasFields contents first next (fields ++ field ∷ [])
fields-more contents first now next fields field few h w =
    let plainly : (writer_setup now).style ≢ style.NonNumeric = subst (λ s. s.style ≢ style.NonNumeric) (sym h.setup) plain in
    let text = subst (λ n. Appends (text_written contents now) (text_written contents next) (next_sep default_writer n ++ field_text default_writer field)) h.count
    (subst (λ s. Appends (text_written contents now) (text_written contents next) (next_sep s (fields_written now) ++ field_text s field)) h.setup (w.text plainly)) in
    let size = length-append fields (field ∷ []) in
    let more : length (fields ++ field ∷ []) ≡ length fields + 1 = omega (arith, size) in
    record {
      setup = w.same ∙ h.setup;
      text = subst (Appends (text_written contents first) (text_written contents next)) (sym (row-more default_writer fields field))
          (Appends-trans (text_written contents first) (text_written contents now) (text_written contents next) (row_body default_writer fields) (next_sep default_writer (length fields) ++ field_text default_writer field) h.text text);
      count = omega (arith, w.count, h.count, more, few);
      blank = blank-more default_writer fields field (has_written now) (has_written next) h.blank
          (λ none. subst (λ s. has_written next ≡ not (length (field_text s field) == 0)) h.setup (w.wrote none plainly)) w.stays
          ∙ ap (λ n. not (has_written next) && ((n == 0) || (n == 1))) (sym more);
    }

-- and its end
pub fields-end : {W : Type 0} (contents : W → Option (List ℕ)) (first now next : Writer W) (fields : List (List ℕ)) → HasFields contents first now fields
    → Appends (text_written contents now) (text_written contents next) (tail_text (writer_setup now) (has_written now) (fields_written now))
    → Appends (text_written contents first) (text_written contents next) (row_text default_writer fields)
fields-end contents first now next fields h tail =
    row-final (text_written contents first) (text_written contents now) (text_written contents next) default_writer fields (has_written now) (length fields) h.text h.blank
    (subst (λ n. Appends (text_written contents now) (text_written contents next) (tail_text default_writer (has_written now) n)) h.count
    (subst (λ s. Appends (text_written contents now) (text_written contents next) (tail_text s (has_written now) (fields_written now))) h.setup tail))

-- the lines of rows, and of one more
pub rows_text-append : (xs ys : List (List Value)) → rows_text (xs ++ ys) ≡ rows_text xs ++ rows_text ys
rows_text-append [] ys = refl
rows_text-append (x ∷ xs) ys = ap (λ t. row_line x ++ t) (rows_text-append xs ys) ∙ sym (append_assoc (row_line x) (rows_text xs) (rows_text ys))

-- one more field of a list that is written in its order
pub fields-next : {W : Type 0} (contents : W → Option (List ℕ)) (first now next : Writer W) (all : List (List ℕ)) (i : ℕ) (field : List ℕ) → i < length all → i + 1 < 2 ^ 64
    → field ≡ get_or all i field → HasFields contents first now (take i all) → WroteField contents now next field → HasFields contents first next (take (i + 1) all)
fields-next contents first now next all i field within few at h w =
    let more : take (i + 1) all ≡ take i all ++ field ∷ [] = take_more all i field within ∙ ap (λ f. take i all ++ f ∷ []) (sym at) in
    subst (HasFields contents first next) (sym more) (fields-more contents first now next (take i all) field (omega (arith, length-take i all, within, few)) h w)

pub fields-whole : {W : Type 0} (contents : W → Option (List ℕ)) (first now : Writer W) (all : List (List ℕ)) (i : ℕ) → length all ≤ i → HasFields contents first now (take i all) → HasFields contents first now all
fields-whole contents first now all i past h = subst (HasFields contents first now) (take_all i all past) h

-- the same of a row, whose cells are fields
pub cells-next : {W : Type 0} (contents : W → Option (List ℕ)) (first now next : Writer W) (row : List Value) (i : ℕ) (value : Value) (field : List ℕ) → i < length row → i + 1 < 2 ^ 64
    → value ≡ get_or row i value → field ≡ cell_text value → HasFields contents first now (map cell_text (take i row)) → WroteField contents now next field
    → HasFields contents first next (map cell_text (take (i + 1) row))
cells-next contents first now next row i value field within few at is h w =
    let more : take (i + 1) row ≡ take i row ++ value ∷ [] = take_more row i value within ∙ ap (λ v. take i row ++ v ∷ []) (sym at) in
    let cells : map cell_text (take (i + 1) row) ≡ map cell_text (take i row) ++ cell_text value ∷ [] = ap (map cell_text) more ∙ map-append cell_text (take i row) (value ∷ []) in
    subst (HasFields contents first next) (sym (cells ∙ ap (λ f. map cell_text (take i row) ++ f ∷ []) (sym is)))
    (fields-more contents first now next (map cell_text (take i row)) field (omega (arith, length-map (take i row) cell_text, length-take i row, within, few)) h w)

pub cells-whole : {W : Type 0} (contents : W → Option (List ℕ)) (first now : Writer W) (row : List Value) (i : ℕ) → length row ≤ i → HasFields contents first now (map cell_text (take i row))
    → HasFields contents first now (map cell_text row)
cells-whole contents first now row i past h = subst (λ vs. HasFields contents first now (map cell_text vs)) (take_all i row past) h

pub rows-next : (out now next : Option (List ℕ)) (rows : List (List Value)) (i : ℕ) (row : List Value) → i < length rows → row ≡ get_or rows i row → Appends out now (rows_text (take i rows))
    → Appends now next (row_line row) → Appends out next (rows_text (take (i + 1) rows))
rows-next out now next rows i row within at h w =
    let more : take (i + 1) rows ≡ take i rows ++ row ∷ [] = take_more rows i row within ∙ ap (λ r. take i rows ++ r ∷ []) (sym at) in
    let text : rows_text (take (i + 1) rows) ≡ rows_text (take i rows) ++ row_line row =
    ap rows_text more ∙ rows_text-append (take i rows) (row ∷ []) ∙ ap (λ t. rows_text (take i rows) ++ t) (append-nil (row_line row)) in
    subst (Appends out next) (sym text) (Appends-trans out now next (rows_text (take i rows)) (row_line row) h w)

-- behind a row's end the writer stands between two rows
pub between-rows : {W E : Type 0} (r : Result (Unit {0}) E) (now next : Writer W) → writer_setup now ≡ default_writer → OnOk r (writer_setup next ≡ writer_setup now) → OnOk r (fields_written next ≡ 0)
    → OnOk r (has_written next ≡ false) → OnOk r (IsBetweenRows next)
between-rows (Err e) now next setup same fields wrote = tt
between-rows (Ok done) now next setup same fields wrote = record { setup = same ∙ setup; fields = fields; wrote = wrote }

-- what holds of a result that is no error
pub not_err : {T E : Type 0} (P : Type 0) (r : Result T E) → false ≡ is_err r → OnOk r P → P
not_err P (Ok x) none h = h
not_err P (Err e) none h = absurd (cc)

-- rows in parts
pub rows-upto : (rows : List (List Value)) (i j : ℕ) → i ≤ j → rows_text (take j rows) ≡ rows_text (take i rows) ++ rows_text (take (j - i) (drop i rows))
rows-upto rows i j up =
    let is : i + (j - i) ≡ j = omega (arith, up) in
    ap (λ n. rows_text (take n rows)) (sym is) ∙ ap rows_text (take-add i (j - i) rows) ∙ rows_text-append (take i rows) (take (j - i) (drop i rows))

pub rows-split : (rows : List (List Value)) (i : ℕ) → rows_text rows ≡ rows_text (take i rows) ++ rows_text (drop i rows)
rows-split rows i = ap rows_text (sym (take-append-drop i rows)) ∙ rows_text-append (take i rows) (drop i rows)

pub rows-parts : (rows : List (List Value)) (i j : ℕ) → i ≤ j
    → rows_text rows ≡ rows_text (take i rows) ++ (rows_text (take (j - i) (drop i rows)) ++ rows_text (drop j rows))
rows-parts rows i j up =
    rows-split rows j ∙ ap (λ t. t ++ rows_text (drop j rows)) (rows-upto rows i j up)
    ∙ append_assoc (rows_text (take i rows)) (rows_text (take (j - i) (drop i rows))) (rows_text (drop j rows))

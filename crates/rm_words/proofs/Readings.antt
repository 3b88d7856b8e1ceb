-- a reader that reads by a grammar makes of each text what the grammar says of it
use Rattle.std.proofs.Common.{◌≡◌, ◌↔◌, ℕ, ◌+◌, ◌<◌, Option, Some, None, Result, Ok, Err, List, [], ◌∷◌, ◌++◌, length, drop, get_or, refl, sym, ◌∙◌, ap, subst, append_assoc, append-nil, add-one, drop-cons}
use Rattle.std.proofs.lemmas.List.{map-append}
use Rattle.rm_words.specs.declared.spans.Span.{Span}
use Rattle.rm_words.specs.Cut.{IsCut}
use Rattle.rm_words.specs.CutOf.{cut_of}
use Rattle.rm_words.specs.Reading.{Grammar, Reader, IsRefused, at_word, at_gap, at_end, SpellsText, ends, finished, next_word, onward, read_of, read_on, run, words_in}
use Rattle.rm_words.proofs.Results.{none_some, ok_is, err_is, err_ok}
use Rattle.rm_words.proofs.CutLaws.{same_cut}
use Rattle.rm_words.proofs.CutsOf.{cut_of-cut}

-- what a reader reads are the fronts of the grammar, and it ends and stops as the grammar says
pub record IsReaderOf {W S E R P : Type 0} (g : Grammar W S E R) (m : Reader W S E P) : Type 0 where
  pub read_front : (ws : List W) (p : P) → run m m.start ws ≡ Ok p → g.IsFront ws
  pub front_read : (ws : List W) → g.IsFront ws → (p : P) × (run m m.start ws ≡ Ok p)
  pub finish_spells : (ws : List W) (p : P) (said : S) → run m m.start ws ≡ Ok p → m.finish p ≡ Some said → g.Spells ws said
  pub spells_finish : (ws : List W) (said : S) → g.Spells ws said → (p : P) × (run m m.start ws ≡ Ok p) × (m.finish p ≡ Some said)
  pub stop_why : (ws : List W) (w : W) (p : P) (why : E) → run m m.start ws ≡ Ok p → m.step p w ≡ Err why → g.IsWhy ws w why
  pub one_why : (ws : List W) (w : W) (a b : E) → g.IsWhy ws w a → g.IsWhy ws w b → a ≡ b

-- what follows is read from where the front ended
append-turn : {W S E P : Type 0} (m : Reader W S E P) (r : Result P E) (xs ys : List W)
    → ((q : P) → run m q (xs ++ ys) ≡ onward (run m q xs) (λ p. run m p ys))
    → onward r (λ q. run m q (xs ++ ys)) ≡ onward (onward r (λ q. run m q xs)) (λ p. run m p ys)
append-turn m (Ok q) xs ys rest = rest q
append-turn m (Err why) xs ys rest = refl

run-append : {W S E P : Type 0} (m : Reader W S E P) (p : P) (xs ys : List W) → run m p (xs ++ ys) ≡ onward (run m p xs) (λ q. run m q ys)
run-append m p [] ys = refl
run-append m p (w ∷ xs) ys = append-turn m (m.step p w) xs ys (λ q. run-append m q xs ys)

pub run-after : {W S E P : Type 0} (m : Reader W S E P) (front rest : List W) (p : P) → run m m.start front ≡ Ok p
    → run m m.start (front ++ rest) ≡ run m p rest
run-after m front rest p h = run-append m m.start front rest ∙ ap (λ r. onward r (λ q. run m q rest)) h

-- the front of what is read is read
prefix-turn : {W S E P : Type 0} (m : Reader W S E P) (r : Result P E) (rest : List W) (last : P)
    → onward r (λ q. run m q rest) ≡ Ok last → (q : P) × (r ≡ Ok q)
prefix-turn m (Ok q) rest last h = (q, refl)
prefix-turn m (Err why) rest last h = absurd (err_ok why last h)

pub prefix-read : {W S E P : Type 0} (m : Reader W S E P) (front rest : List W) (last : P) → run m m.start (front ++ rest) ≡ Ok last
    → (q : P) × (run m m.start front ≡ Ok q)
prefix-read m front rest last h = prefix-turn m (run m m.start front) rest last (sym (run-append m m.start front rest) ∙ h)

-- one word more is read
run-one : {W S E P : Type 0} (m : Reader W S E P) (front : List W) (w : W) (p : P) (r : Result P E) → run m m.start front ≡ Ok p
    → m.step p w ≡ r → run m m.start (front ++ w ∷ []) ≡ onward r (λ q. Ok q)
run-one m front w p r h steps = run-after m front (w ∷ []) p h ∙ ap (λ x. onward x (λ q. Ok q)) steps

words-snoc : {W S E R : Type 0} (g : Grammar W S E R) (text : List ℕ) (front : List Span) (span : Span)
    → words_in g text (front ++ span ∷ []) ≡ words_in g text front ++ g.word_in text span ∷ []
words-snoc g text front span = map-append (g.word_in text) front (span ∷ [])

-- what a reader makes of a text by a grammar
record Reads {W S E R P : Type 0} (g : Grammar W S E R) (m : Reader W S E P) (text : List ℕ) (answer : Result S R) : Type 0 where
  spans : List Span
  stuck : Option ℕ
  cut : IsCut 0 text spans stuck
  reads : read_on g m text stuck m.start spans ≡ answer

one_answer : {W S E R P : Type 0} (g : Grammar W S E R) (m : Reader W S E P) (text : List ℕ) (a b : Result S R)
    → Reads g m text a → Reads g m text b → a ≡ b
one_answer g m text a b x y =
    let same = same_cut 0 text x.spans y.spans x.stuck y.stuck x.cut y.cut in
    sym x.reads ∙ ap (λ l. read_on g m text x.stuck m.start l) same.0 ∙ ap (λ o. read_on g m text o m.start y.spans) same.1 ∙ y.reads

-- what the function of the text gives
read_of-reads : {W S E R P : Type 0} (g : Grammar W S E R) (m : Reader W S E P) (text : List ℕ) → Reads g m text (read_of g m text)
read_of-reads g m text = record {
  spans = (cut_of text).words;
  stuck = (cut_of text).stuck;
  cut = cut_of-cut text;
  reads = refl;
}

-- one word more is read
run-more : {W S E R P : Type 0} (g : Grammar W S E R) (m : Reader W S E P) (text : List ℕ) (front : List Span) (span : Span) (p q : P)
    → run m m.start (words_in g text front) ≡ Ok p → m.step p (g.word_in text span) ≡ Ok q
    → run m m.start (words_in g text (front ++ span ∷ [])) ≡ Ok q
run-more g m text front span p q h steps =
    ap (run m m.start) (words-snoc g text front span)
    ∙ run-one m (words_in g text front) (g.word_in text span) p (Ok q) h steps

-- what is read
record Spelled {W S E R : Type 0} (g : Grammar W S E R) (text : List ℕ) (spans : List Span) (stuck : Option ℕ) (said : S) : Type 0 where
  whole : stuck ≡ None
  spells : g.Spells (words_in g text spans) said

finished-spelled : {W S E R P : Type 0} (g : Grammar W S E R) (m : Reader W S E P) → IsReaderOf g m → (text : List ℕ) (front : List Span) (p : P) (said : S) (o : Option S)
    → m.finish p ≡ o → run m m.start (words_in g text front) ≡ Ok p → finished g text o ≡ Ok said → g.Spells (words_in g text front) said
finished-spelled g m reads text front p said (Some a) is h e =
    reads.finish_spells (words_in g text front) p said h (is ∙ ap (λ x. Some x) (ok_is a said e))
finished-spelled g m reads text front p said None is h e = absurd (err_ok (g.syntax (length text)) said e)

ends-spelled : {W S E R P : Type 0} (g : Grammar W S E R) (m : Reader W S E P) → IsReaderOf g m → (text : List ℕ) (front : List Span) (stuck : Option ℕ) (p : P) (said : S)
    → run m m.start (words_in g text front) ≡ Ok p → ends g m text stuck p ≡ Ok said → Spelled g text front stuck said
ends-spelled g m reads text front (Some place) p said h e = absurd (err_ok (g.syntax place) said e)
ends-spelled g m reads text front None p said h e =
    record { whole = refl; spells = finished-spelled g m reads text front p said (m.finish p) refl h e }

word-spelled : {W S E R P : Type 0} (g : Grammar W S E R) (m : Reader W S E P) (text : List ℕ) (front : List Span) (span : Span) (spans : List Span) (stuck : Option ℕ) (p : P) (said : S) (r : Result P E)
    → m.step p (g.word_in text span) ≡ r → run m m.start (words_in g text front) ≡ Ok p
    → next_word g span r (λ q. read_on g m text stuck q spans) ≡ Ok said
    → ((q : P) → run m m.start (words_in g text (front ++ span ∷ [])) ≡ Ok q → read_on g m text stuck q spans ≡ Ok said
    → Spelled g text ((front ++ span ∷ []) ++ spans) stuck said)
    → Spelled g text (front ++ span ∷ spans) stuck said
word-spelled g m text front span spans stuck p said (Ok q) is h e rest =
    subst (λ l. Spelled g text l stuck said) (append_assoc front (span ∷ []) spans) (rest q (run-more g m text front span p q h is) e)
word-spelled g m text front span spans stuck p said (Err why) is h e rest = absurd (err_ok (g.refusal_at span.start why) said e)

read-spelled : {W S E R P : Type 0} (g : Grammar W S E R) (m : Reader W S E P) → IsReaderOf g m → (text : List ℕ) (front spans : List Span) (stuck : Option ℕ) (p : P) (said : S)
    → run m m.start (words_in g text front) ≡ Ok p → read_on g m text stuck p spans ≡ Ok said → Spelled g text (front ++ spans) stuck said
read-spelled g m reads text front [] stuck p said h e =
    subst (λ l. Spelled g text l stuck said) (sym (append-nil front)) (ends-spelled g m reads text front stuck p said h e)
read-spelled g m reads text front (span ∷ spans) stuck p said h e =
    word-spelled g m text front span spans stuck p said (m.step p (g.word_in text span)) refl h e
    (λ q more rest. read-spelled g m reads text (front ++ span ∷ []) spans stuck q said more rest)

pub read-spells : {W S E R P : Type 0} (g : Grammar W S E R) (m : Reader W S E P) → IsReaderOf g m → (text : List ℕ) (spans : List Span) (stuck : Option ℕ) (said : S)
    → IsCut 0 text spans stuck → read_on g m text stuck m.start spans ≡ Ok said → SpellsText g text said
read-spells g m reads text spans stuck said cut e =
    let is = read-spelled g m reads text [] spans stuck m.start said refl e in
    (spans, subst (λ o. IsCut 0 text spans o) is.whole cut, is.spells)

-- what stops the reading is no front
stopped-no_front : {W S E R P : Type 0} (g : Grammar W S E R) (m : Reader W S E P) → IsReaderOf g m → (ws : List W) (w : W) (p : P) (why : E) → run m m.start ws ≡ Ok p → m.step p w ≡ Err why
    → g.IsFront (ws ++ w ∷ []) → ⊥
stopped-no_front g m reads ws w p why h stops front =
    let read = reads.front_read (ws ++ w ∷ []) front in
    err_ok why read.0 (sym (run-one m ws w p (Err why) h stops) ∙ read.1)

-- what ends too early says nothing
unfinished-none : {W S E R P : Type 0} (g : Grammar W S E R) (m : Reader W S E P) → IsReaderOf g m → (ws : List W) (p : P) (said : S) → run m m.start ws ≡ Ok p → m.finish p ≡ None → g.Spells ws said → ⊥
unfinished-none g m reads ws p said h open_end spells =
    let gives = reads.spells_finish ws said spells in
    none_some said (sym open_end ∙ ap m.finish (ok_is p gives.0 (sym h ∙ gives.1)) ∙ gives.2)

-- what is refused
finished-refused : {W S E R P : Type 0} (g : Grammar W S E R) (m : Reader W S E P) → IsReaderOf g m → (text : List ℕ) (front : List Span) (p : P) (why : R) (o : Option S)
    → m.finish p ≡ o → IsCut 0 text front None → run m m.start (words_in g text front) ≡ Ok p → finished g text o ≡ Err why → IsRefused g text why
finished-refused g m reads text front p why (Some a) is cut h e = absurd (err_ok why a (sym e))
finished-refused g m reads text front p why None is cut h e =
    let ws = words_in g text front in
    subst (λ r. IsRefused g text r) (err_is (g.syntax (length text)) why e)
    (at_end text front cut (reads.read_front ws p h) (λ said. unfinished-none g m reads ws p said h is))

ends-refused : {W S E R P : Type 0} (g : Grammar W S E R) (m : Reader W S E P) → IsReaderOf g m → (text : List ℕ) (front : List Span) (stuck : Option ℕ) (p : P) (why : R)
    → IsCut 0 text front stuck → run m m.start (words_in g text front) ≡ Ok p → ends g m text stuck p ≡ Err why → IsRefused g text why
ends-refused g m reads text front (Some place) p why cut h e =
    subst (λ r. IsRefused g text r) (err_is (g.syntax place) why e)
    (at_gap text front place cut (reads.read_front (words_in g text front) p h))
ends-refused g m reads text front None p why cut h e = finished-refused g m reads text front p why (m.finish p) refl cut h e

word-refused : {W S E R P : Type 0} (g : Grammar W S E R) (m : Reader W S E P) → IsReaderOf g m → (text : List ℕ) (front : List Span) (span : Span) (spans : List Span) (stuck : Option ℕ) (p : P) (why : R) (r : Result P E)
    → m.step p (g.word_in text span) ≡ r → IsCut 0 text (front ++ span ∷ spans) stuck → run m m.start (words_in g text front) ≡ Ok p
    → next_word g span r (λ q. read_on g m text stuck q spans) ≡ Err why
    → ((q : P) → IsCut 0 text ((front ++ span ∷ []) ++ spans) stuck → run m m.start (words_in g text (front ++ span ∷ [])) ≡ Ok q
    → read_on g m text stuck q spans ≡ Err why → IsRefused g text why)
    → IsRefused g text why
word-refused g m reads text front span spans stuck p why (Ok q) is cut h e rest =
    rest q (subst (λ l. IsCut 0 text l stuck) (sym (append_assoc front (span ∷ []) spans)) cut) (run-more g m text front span p q h is) e
word-refused g m reads text front span spans stuck p why (Err fault) is cut h e rest =
    let ws = words_in g text front in
    let w = g.word_in text span in
    subst (λ r. IsRefused g text r) (err_is (g.refusal_at span.start fault) why e)
    (at_word text front spans span stuck fault cut (reads.read_front ws p h)
    (stopped-no_front g m reads ws w p fault h is)
    (reads.stop_why ws w p fault h is))

read-refused : {W S E R P : Type 0} (g : Grammar W S E R) (m : Reader W S E P) → IsReaderOf g m → (text : List ℕ) (front spans : List Span) (stuck : Option ℕ) (p : P) (why : R)
    → IsCut 0 text (front ++ spans) stuck → run m m.start (words_in g text front) ≡ Ok p → read_on g m text stuck p spans ≡ Err why
    → IsRefused g text why
read-refused g m reads text front [] stuck p why cut h e =
    ends-refused g m reads text front stuck p why (subst (λ l. IsCut 0 text l stuck) (append-nil front) cut) h e
read-refused g m reads text front (span ∷ spans) stuck p why cut h e =
    word-refused g m reads text front span spans stuck p why (m.step p (g.word_in text span)) refl cut h e
    (λ q more_cut more rest. read-refused g m reads text (front ++ span ∷ []) spans stuck q why more_cut more rest)

pub read-is_refused : {W S E R P : Type 0} (g : Grammar W S E R) (m : Reader W S E P) → IsReaderOf g m → (text : List ℕ) (spans : List Span) (stuck : Option ℕ) (why : R)
    → IsCut 0 text spans stuck → read_on g m text stuck m.start spans ≡ Err why → IsRefused g text why
read-is_refused g m reads text spans stuck why cut e = read-refused g m reads text [] spans stuck m.start why cut refl e

-- the words that were read are left behind
run-turn : {W S E R P : Type 0} (g : Grammar W S E R) (m : Reader W S E P) (text : List ℕ) (stuck : Option ℕ) (span : Span) (front rest : List Span) (p : P) (r : Result P E)
    → onward r (λ q. run m q (words_in g text front)) ≡ Ok p
    → ((q : P) → run m q (words_in g text front) ≡ Ok p → read_on g m text stuck q (front ++ rest) ≡ read_on g m text stuck p rest)
    → next_word g span r (λ q. read_on g m text stuck q (front ++ rest)) ≡ read_on g m text stuck p rest
run-turn g m text stuck span front rest p (Ok q) h more = more q h
run-turn g m text stuck span front rest p (Err why) h more = absurd (err_ok why p h)

read-run : {W S E R P : Type 0} (g : Grammar W S E R) (m : Reader W S E P) (text : List ℕ) (stuck : Option ℕ) (q : P) (front rest : List Span) (p : P)
    → run m q (words_in g text front) ≡ Ok p → read_on g m text stuck q (front ++ rest) ≡ read_on g m text stuck p rest
read-run g m text stuck q [] rest p h = ap (λ s. read_on g m text stuck s rest) (ok_is q p h)
read-run g m text stuck q (span ∷ front) rest p h =
    run-turn g m text stuck span front rest p (m.step q (g.word_in text span)) h (λ s more. read-run g m text stuck s front rest p more)

read-all : {W S E R P : Type 0} (g : Grammar W S E R) (m : Reader W S E P) (text : List ℕ) (stuck : Option ℕ) (spans : List Span) (p : P)
    → run m m.start (words_in g text spans) ≡ Ok p → read_on g m text stuck m.start spans ≡ ends g m text stuck p
read-all g m text stuck spans p h =
    ap (λ l. read_on g m text stuck m.start l) (sym (append-nil spans)) ∙ read-run g m text stuck m.start spans [] p h

spelled-reads : {W S E R P : Type 0} (g : Grammar W S E R) (m : Reader W S E P) → IsReaderOf g m → (text : List ℕ) (said : S) → SpellsText g text said → Reads g m text (Ok said)
spelled-reads g m reads text said is =
    let gives = reads.spells_finish (words_in g text is.0) said is.2 in
    record {
      spans = is.0;
      stuck = None;
      cut = is.1;
      reads = read-all g m text None is.0 gives.0 gives.1 ∙ ap (finished g text) gives.2;
    }

-- the step at the word that is refused
stop-turn : {W S E R P : Type 0} (g : Grammar W S E R) (m : Reader W S E P) → IsReaderOf g m → (ws : List W) (w : W) (p : P) (why : E) (r : Result P E)
    → m.step p w ≡ r → run m m.start ws ≡ Ok p → (g.IsFront (ws ++ w ∷ []) → ⊥) → g.IsWhy ws w why → m.step p w ≡ Err why
stop-turn g m reads ws w p why (Ok q) is h none told =
    absurd (none (reads.read_front (ws ++ w ∷ []) q (run-one m ws w p (Ok q) h is)))
stop-turn g m reads ws w p why (Err fault) is h none told =
    is ∙ ap (λ x. Err x) (reads.one_why ws w fault why (reads.stop_why ws w p fault h is) told)

finish-turn : {W S E R P : Type 0} (g : Grammar W S E R) (m : Reader W S E P) → IsReaderOf g m → (ws : List W) (p : P) (o : Option S) → m.finish p ≡ o → run m m.start ws ≡ Ok p
    → ((said : S) → g.Spells ws said → ⊥) → m.finish p ≡ None
finish-turn g m reads ws p (Some said) is h none = absurd (none said (reads.finish_spells ws p said h is))
finish-turn g m reads ws p None is h none = is

refused-reads : {W S E R P : Type 0} (g : Grammar W S E R) (m : Reader W S E P) → IsReaderOf g m → (text : List ℕ) (why : R) → IsRefused g text why → Reads g m text (Err why)
refused-reads g m reads _ _ (at_word text front rest span stuck why cut is_front none told) =
    let ws = words_in g text front in
    let read = reads.front_read ws is_front in
    record {
      spans = front ++ span ∷ rest;
      stuck = stuck;
      cut = cut;
      reads =
          read-run g m text stuck m.start front (span ∷ rest) read.0 read.1
          ∙ ap (λ r. next_word g span r (λ q. read_on g m text stuck q rest))
          (stop-turn g m reads ws (g.word_in text span) read.0 why (m.step read.0 (g.word_in text span)) refl read.1 none told);
    }
refused-reads g m reads _ _ (at_gap text spans place cut is_front) =
    let read = reads.front_read (words_in g text spans) is_front in
    record { spans = spans; stuck = Some place; cut = cut; reads = read-all g m text (Some place) spans read.0 read.1 }
refused-reads g m reads _ _ (at_end text spans cut is_front none) =
    let ws = words_in g text spans in
    let read = reads.front_read ws is_front in
    record {
      spans = spans;
      stuck = None;
      cut = cut;
      reads =
          read-all g m text None spans read.0 read.1
          ∙ ap (finished g text) (finish-turn g m reads ws read.0 (m.finish read.0) refl read.1 none);
    }

-- what is read is what the text says
pub read_of-spells : {W S E R P : Type 0} (g : Grammar W S E R) (m : Reader W S E P) → IsReaderOf g m → (text : List ℕ) (said : S) → read_of g m text ≡ Ok said ↔ SpellsText g text said
read_of-spells g m reads text said =
    let cut = cut_of text in (
      λ h. read-spells g m reads text cut.words cut.stuck said (cut_of-cut text) h,
      λ is. one_answer g m text (read_of g m text) (Ok said) (read_of-reads g m text) (spelled-reads g m reads text said is),
    )

-- and a text is refused as the grammar says
pub read_of-refused : {W S E R P : Type 0} (g : Grammar W S E R) (m : Reader W S E P) → IsReaderOf g m → (text : List ℕ) (why : R) → read_of g m text ≡ Err why ↔ IsRefused g text why
read_of-refused g m reads text why =
    let cut = cut_of text in (
      λ h. read-is_refused g m reads text cut.words cut.stuck why (cut_of-cut text) h,
      λ is. one_answer g m text (read_of g m text) (Err why) (read_of-reads g m text) (refused-reads g m reads text why is),
    )

-- what is read of any cut of a text is what is read of the text
pub read_on-cut : {W S E R P : Type 0} (g : Grammar W S E R) (m : Reader W S E P) (text : List ℕ) (spans : List Span) (stuck : Option ℕ) → IsCut 0 text spans stuck
    → read_on g m text stuck m.start spans ≡ read_of g m text
read_on-cut g m text spans stuck cut =
    one_answer g m text (read_on g m text stuck m.start spans) (read_of g m text)
    (record { spans = spans; stuck = stuck; cut = cut; reads = refl }) (read_of-reads g m text)

-- one turn of the reading, at a word that steps as the text's does
read-here : {W S E R P : Type 0} (g : Grammar W S E R) (m : Reader W S E P) (text : List ℕ) (words : List Span) (stuck : Option ℕ) (p : P) (i : ℕ) (d : Span) (told : W)
    → i < length words → m.step p told ≡ m.step p (g.word_in text (get_or words i d))
    → read_on g m text stuck p (drop i words) ≡ next_word g (get_or words i d) (m.step p told) (λ q. read_on g m text stuck q (drop (i + 1) words))
read-here g m text words stuck p i d told within is =
    let here : drop i words ≡ get_or words i d ∷ drop (i + 1) words = rw (add-one, drop-cons words i d) refl in
    ap (λ l. read_on g m text stuck p l) here
    ∙ ap (λ r. next_word g (get_or words i d) r (λ q. read_on g m text stuck q (drop (i + 1) words))) (sym is)

pub read-stops : {W S E R P : Type 0} (g : Grammar W S E R) (m : Reader W S E P) (text : List ℕ) (words : List Span) (stuck : Option ℕ) (p : P) (i : ℕ) (d : Span) (told : W) (why : E) (all : Result S R)
    → i < length words → m.step p told ≡ m.step p (g.word_in text (get_or words i d)) → m.step p told ≡ Err why
    → read_on g m text stuck p (drop i words) ≡ all → all ≡ Err (g.refusal_at (get_or words i d).start why)
read-stops g m text words stuck p i d told why all within is stops so_far =
    sym so_far ∙ read-here g m text words stuck p i d told within is
    ∙ ap (λ r. next_word g (get_or words i d) r (λ q. read_on g m text stuck q (drop (i + 1) words))) stops

pub read-goes : {W S E R P : Type 0} (g : Grammar W S E R) (m : Reader W S E P) (text : List ℕ) (words : List Span) (stuck : Option ℕ) (p q : P) (i : ℕ) (d : Span) (told : W) (all : Result S R)
    → i < length words → m.step p told ≡ m.step p (g.word_in text (get_or words i d)) → m.step p told ≡ Ok q
    → read_on g m text stuck p (drop i words) ≡ all → read_on g m text stuck q (drop (i + 1) words) ≡ all
read-goes g m text words stuck p q i d told all within is goes so_far =
    ap (λ r. next_word g (get_or words i d) r (λ s. read_on g m text stuck s (drop (i + 1) words))) (sym goes)
    ∙ sym (read-here g m text words stuck p i d told within is) ∙ so_far

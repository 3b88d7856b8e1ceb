use Rattle.std.proofs.Common.{All, List, ℕ, arith, ◌≡◌, ◌≢◌, ◌+◌, false, IsTrue, Some, None, get_or, drop, subst, sym, ◌∙◌, refl}
use Rattle.std.proofs.lemmas.List.{take_rest}
use Rattle.rm_words.specs.declared.class.Class.TheVariants.{Blank}
use Rattle.rm_words.specs.declared.spans.Cut.{Cut}
use Rattle.rm_words.specs.Class.{class_of}
use Rattle.rm_words.specs.Word.{IsLongest, HasNoWord}
use Rattle.rm_words.specs.Cut.{IsCut, IsWordOf}
use Rattle.rm_words.proofs.CutLaws.{cut_words}
use Rattle.rm_words.specs.CutOf.{cut_of}
use Rattle.rm_words.proofs.CutsOf.{is_cut_of}
use Rattle.rm_words.proofs.Cuts.{Continues, Continues-blank, Continues-word, Continues-none, Continues-end}
use Rattle.rm_words.proofs.cutting.cut.Goals as goal

pub loop-at-preserved-then-is_blank : goal.loop-at-preserved-then-is_blank
loop-at-preserved-then-is_blank c =
    let text = c.args.text.now in
    let blank : class_of (get_or text c.loop-at.at 0) ≡ Blank = sym c.class_of.ensures ∙ c.if-is_blank.ensures.0 refl in
    Continues-blank text c.loop-at.at c.loop-at.spans.items (get_or text c.loop-at.at 0) c.loop-at-test.true refl blank c.loop-at.invariant

pub loop-at-preserved : goal.loop-at-preserved
loop-at-preserved c =
    let text = c.args.text.now in
    let longest : IsLongest (drop c.loop-at.at text) c.in-Some.count =
    subst (λ l. IsLongest l c.in-Some.count) (take_rest text c.loop-at.at) c.in-Some.ensures.word in
    subst (λ l. Continues text (c.loop-at.at + c.in-Some.count) l) (sym c.in_ok-push.ensures.items)
    (Continues-word text c.loop-at.at c.loop-at.spans.items c.in-Some.count longest c.loop-at.invariant)

-- what is cut holds words, and is what the function gives
whole : (text : List ℕ) (c : Cut) → IsCut 0 text c.words c.stuck
    → record { cut : IsCut 0 text c.words c.stuck; hold : All (IsWordOf text) c.words; value : c ≡ cut_of text }
whole text c is = record {
  cut = is;
  hold = cut_words text 0 text c.words c.stuck (omega arith) refl is;
  value = is_cut_of text c is;
}

pub returns-in_default : goal.returns-in_default
returns-in_default c =
    let text = c.args.text.now in
    let at = c.loop-at.at in
    let not_blank : class_of (get_or text at 0) ≢ Blank =
    λ e. let no : IsTrue false = c.if-is_blank.ensures.1 (c.class_of.ensures ∙ e) in absurd cc in
    let no_word : HasNoWord (drop at text) = subst HasNoWord (take_rest text at) c.in_default.ensures.none in
    whole text (record { words = c.of.result; stuck = Some at })
    (subst (λ l. IsCut 0 text l (Some at)) (sym c.of.ensures)
    (Continues-none text at c.loop-at.spans.items (get_or text at 0) c.loop-at-test.true refl not_blank no_word c.loop-at.invariant))

pub returns : goal.returns
returns c =
    let text = c.args.text.now in
    whole text (record { words = c.of-2.result; stuck = None })
    (subst (λ l. IsCut 0 text l None) (sym c.of-2.ensures)
    (Continues-end text c.loop-at.at c.loop-at.spans.items c.loop-at-test.false c.loop-at.invariant))

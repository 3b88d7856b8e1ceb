use Rattle.std.proofs.Common.{◌≡◌, get_or, sym, ◌∙◌, ap, subst}
use Rattle.rm_words.specs.declared.class.Class.TheVariants.{Digit, Quote}
use Rattle.rm_words.specs.Class.{class_of}
use Rattle.rm_words.specs.Cut.{word_at}
use Rattle.rm_words.specs.Token.{AreDigits, Quoted, Sign, capped, symbol_of, token_by}
use Rattle.rm_words.proofs.Tokens.{start_boundary, end_boundary, inner_start_boundary, inner_end_boundary, digit_word, first_class, sign_by, inner_at}
use Rattle.rm_words.proofs.token.token_at.Goals as goal

pub range-word-requires-clause-start_boundary : goal.range-word-requires-clause-start_boundary
range-word-requires-clause-start_boundary c = λ _. start_boundary c.args.text.now c.args.span c.requires

pub range-word-requires-clause-end_boundary : goal.range-word-requires-clause-end_boundary
range-word-requires-clause-end_boundary c = end_boundary c.args.text.now c.args.span c.utf8.text c.requires

pub range-requires-clause-start_boundary : goal.range-requires-clause-start_boundary
range-requires-clause-start_boundary c = λ _. inner_start_boundary c.args.text.now c.args.span c.utf8.text c.requires

pub range-requires-clause-end_boundary : goal.range-requires-clause-end_boundary
range-requires-clause-end_boundary c = inner_end_boundary c.args.text.now c.args.span c.requires

pub digits_value-requires : goal.digits_value-requires
digits_value-requires c =
    let text = c.args.text.now in
    let class_is : class_of (get_or text c.args.span.start 0) ≡ Digit = cc in
    subst AreDigits (sym (c.as_bytes-in-Digit.ensures.value ∙ c.range-word.ensures.value))
    (digit_word (word_at text c.args.span) c.requires.word (first_class text c.args.span Digit c.requires class_is))

pub returns-in-Quote : goal.returns-in-Quote
returns-in-Quote c =
    let text = c.args.text.now in
    let word = word_at text c.args.span in
    let class_is : class_of (get_or text c.args.span.start 0) ≡ Quote = cc in
    ap (λ l. Quoted l) (c.range.ensures.value ∙ sym (inner_at text c.args.span c.requires))
    ∙ sym (ap (λ k. capped (token_by k word)) (first_class text c.args.span Quote c.requires class_is))

pub returns-in_default : goal.returns-in_default
returns-in_default c =
    let text = c.args.text.now in
    let span = c.args.span in
    let word = word_at text span in
    let first = class_of (get_or word 0 0) in
    let same : first ≡ c.class_of.result = first_class text span c.class_of.result c.requires cc in
    ap (λ s. Sign s) (c.of.ensures ∙ ap symbol_of c.range-word.ensures.value)
    ∙ sym (ap capped (sign_by first word
    (λ e. c.in_default.not-Letter (sym same ∙ e))
    (λ e. c.in_default.not-Digit (sym same ∙ e))
    (λ e. c.in_default.not-Quote (sym same ∙ e))))

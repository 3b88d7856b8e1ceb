use Rattle.std.proofs.Common.{◌≡◌, ℕ, Ok, List, sym, ◌∙◌, ap, subst}
use Rattle.rm_base.specs.declared.statement.Statement.{Statement}
use Rattle.rm_words.specs.declared.spans.Cut.{Cut}
use Rattle.rm_words.specs.declared.spans.Span.{Span}
use Rattle.rm_words.specs.Cut.{IsCut}
use Rattle.pool_sql.specs.declared.progress.Progress.TheVariants.{Start}
use Rattle.pool_sql.specs.Reading.{read_on}
use Rattle.pool_sql.specs.Text.{SpellsText}
use Rattle.rm_words.proofs.Readings.{read-spells, read-is_refused}
use Rattle.pool_sql.specs.Machine.{reader}
use Rattle.pool_sql.specs.Text.{statements}
use Rattle.pool_sql.proofs.Readings.{reads_statements}
use Rattle.rm_base.proofs.WellFormed.{well_formed-in_range}
use Rattle.pool_sql.proofs.Texts.{spells-well_formed}
use Rattle.pool_sql.proofs.reading.read_statement.Goals as goal

-- what is read is the statement that the text spells
spelled : (text bytes : List ℕ) (cut : Cut) (words : List Span) (st : Statement) → bytes ≡ text → IsCut 0 bytes cut.words cut.stuck
    → words ≡ cut.words → Ok st ≡ read_on text cut.stuck Start words → SpellsText text st
spelled text bytes cut words st same is slice reads =
    read-spells statements reader reads_statements text cut.words cut.stuck st
    (subst (λ l. IsCut 0 l cut.words cut.stuck) same is)
    (sym (reads ∙ ap (λ spans. read_on text cut.stuck Start spans) slice))

pub returns-in-Ok-clause-statement : goal.returns-in-Ok-clause-statement
returns-in-Ok-clause-statement c =
    spelled c.args.text.now c.as_bytes.result.now c.in_ok-words.field-0 c.as_slice.result.now c.in-Ok.statement
    c.as_bytes.ensures.value c.in_ok-words.ensures.cut c.as_slice.ensures c.in-Ok.ensures

pub returns-in-Ok-clause-well_formed : goal.returns-in-Ok-clause-well_formed
returns-in-Ok-clause-well_formed c =
    spells-well_formed c.args.text.now c.in-Ok.statement
    (spelled c.args.text.now c.as_bytes.result.now c.in_ok-words.field-0 c.as_slice.result.now c.in-Ok.statement
    c.as_bytes.ensures.value c.in_ok-words.ensures.cut c.as_slice.ensures c.in-Ok.ensures)

pub returns-in-Ok-clause-in_range : goal.returns-in-Ok-clause-in_range
returns-in-Ok-clause-in_range c =
    well_formed-in_range c.in-Ok.statement
    (spells-well_formed c.args.text.now c.in-Ok.statement
    (spelled c.args.text.now c.as_bytes.result.now c.in_ok-words.field-0 c.as_slice.result.now c.in-Ok.statement
    c.as_bytes.ensures.value c.in_ok-words.ensures.cut c.as_slice.ensures c.in-Ok.ensures))

pub returns-clause-refused : goal.returns-clause-refused
returns-clause-refused c =
    let words = c.in_ok-words.field-0 in
    read-is_refused statements reader reads_statements c.args.text.now words.words words.stuck c.in-Err.refusal
    (subst (λ text. IsCut 0 text words.words words.stuck) c.as_bytes.ensures.value c.in_ok-words.ensures.cut)
    (sym (c.in-Err.ensures ∙ ap (λ spans. read_on c.args.text.now words.stuck Start spans) c.as_slice.ensures))

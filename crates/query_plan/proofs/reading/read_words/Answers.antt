use Rattle.rm_words.specs.Token.{token_told}
use Rattle.query_plan.specs.declared.progress.Progress.TheVariants.{Start}
use Rattle.query_plan.specs.Reading.{read_on}
use Rattle.query_plan.proofs.Readings.{word-goes}
use Rattle.query_plan.proofs.reading.read_words.Goals as goal

pub loop-span-preserved : goal.loop-span-preserved
loop-span-preserved c =
    word-goes c.args.catalog.now c.args.text.now c.args.words.now c.args.stuck c.loop-span.progress c.in-Ok-Some.next c.loop-span.span-index
    record { start = 0; end = 0 } (token_told c.token_at.result) (read_on c.args.catalog.now c.args.text.now c.args.stuck Start c.args.words.now)
    c.loop-span-test.true c.token_at.ensures (rw c.in-Ok-Some.field-0-is at c.in-Ok-Some.ensures) c.loop-span.invariant

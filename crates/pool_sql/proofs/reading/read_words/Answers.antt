use Rattle.rm_words.specs.Token.{token_told}
use Rattle.pool_sql.specs.declared.progress.Progress.TheVariants.{Start}
use Rattle.pool_sql.specs.Reading.{read_on}
use Rattle.pool_sql.proofs.Readings.{word-goes, word-stops}
use Rattle.pool_sql.proofs.reading.read_words.Goals as goal

pub returns-in-Err : goal.returns-in-Err
returns-in-Err c =
    word-stops c.args.text.now c.args.words.now c.args.stuck c.loop-span.progress c.loop-span.span-index record { start = 0; end = 0 }
    (token_told c.token_at.result) c.in-Err.stop c.at.result (read_on c.args.text.now c.args.stuck Start c.args.words.now)
    c.loop-span-test.true c.token_at.ensures c.in-Err.ensures c.at.ensures c.loop-span.invariant

pub loop-span-preserved : goal.loop-span-preserved
loop-span-preserved c =
    word-goes c.args.text.now c.args.words.now c.args.stuck c.loop-span.progress c.in-Ok.next c.loop-span.span-index record { start = 0; end = 0 }
    (token_told c.token_at.result) (read_on c.args.text.now c.args.stuck Start c.args.words.now)
    c.loop-span-test.true c.token_at.ensures c.in-Ok.ensures c.loop-span.invariant

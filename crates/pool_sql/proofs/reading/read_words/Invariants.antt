use Rattle.std.proofs.Common.{◌≡◌, drop}
use Rattle.pool_sql.specs.declared.progress.Progress.TheVariants.{Start}
use Rattle.pool_sql.specs.Reading.{read_on}
use Rattle.pool_sql.proofs.reading.read_words.Given as goal

abbrev pub invariant-loop-span : goal.invariant-loop-span
invariant-loop-span l =
    read_on l.text l.stuck l.progress (drop l.span-index l.words) ≡ read_on l.text l.stuck Start l.words

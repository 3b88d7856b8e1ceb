use Rattle.std.proofs.Common.{◌≡◌, drop}
use Rattle.query_plan.specs.declared.progress.Progress.TheVariants.{Start}
use Rattle.query_plan.specs.Reading.{read_on}
use Rattle.query_plan.proofs.reading.read_words.Given as goal

abbrev pub invariant-loop-span : goal.invariant-loop-span
invariant-loop-span l =
    read_on l.catalog l.text l.stuck l.progress (drop l.span-index l.words) ≡ read_on l.catalog l.text l.stuck Start l.words

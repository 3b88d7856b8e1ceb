use Rattle.std.proofs.Common.{List, ℕ, map, string_bytes}
use Rattle.options.proofs.OptionsLemmas.{workers-told}
use Rattle.options.proofs.options_of.Goals as goal

pub returns-clause-workers : goal.returns-clause-workers
returns-clause-workers c =
    let words : List (List ℕ) = map string_bytes c.args.words.now in
    workers-told words c.read_words.result c.read_words.ensures

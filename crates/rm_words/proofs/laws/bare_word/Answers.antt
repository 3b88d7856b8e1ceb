use Rattle.rm_words.proofs.Printing.{bare_says}
use Rattle.rm_words.proofs.laws.bare_word.Goals as goal

pub returns : goal.returns
returns c = bare_says

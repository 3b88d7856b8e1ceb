use Rattle.rm_words.proofs.Printing.{number_says}
use Rattle.rm_words.proofs.laws.number_word.Goals as goal

pub returns : goal.returns
returns c = number_says

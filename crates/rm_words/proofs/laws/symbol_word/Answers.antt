use Rattle.rm_words.proofs.Printing.{symbol_says}
use Rattle.rm_words.proofs.laws.symbol_word.Goals as goal

pub returns : goal.returns
returns c = symbol_says

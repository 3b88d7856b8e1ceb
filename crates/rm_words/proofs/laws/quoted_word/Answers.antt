use Rattle.rm_words.proofs.Printing.{quoted_says}
use Rattle.rm_words.proofs.laws.quoted_word.Goals as goal

pub returns : goal.returns
returns c = quoted_says

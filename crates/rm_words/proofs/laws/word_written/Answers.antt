use Rattle.rm_words.proofs.Written.{written}
use Rattle.rm_words.proofs.laws.word_written.Goals as goal

pub returns : goal.returns
returns c = written

use Rattle.rm_words.proofs.Printing.{undoubled-doubled}
use Rattle.rm_words.proofs.laws.undoubled_doubled.Goals as goal

pub returns : goal.returns
returns c = undoubled-doubled

use Rattle.workload.proofs.Texts.{texts-read}
use Rattle.workload.proofs.queries.texts_are_read.Goals as goal

pub returns : goal.returns
returns c = texts-read

use Rattle.rm_base.proofs.Names.{name_text-eq}
use Rattle.rm_base.proofs.name.Name.one_name.Goals as goal

pub returns : goal.returns
returns c = name_text-eq

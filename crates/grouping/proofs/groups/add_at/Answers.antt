use Rattle.grouping.proofs.WalkLemmas.{hashes-set}
use Rattle.grouping.proofs.groups.add_at.Goals as goal

pub returns-clause-keys : goal.returns-clause-keys
returns-clause-keys c = hashes-set c.args.groups.now c.args.place c.index-groups-place.result c.add.new.self

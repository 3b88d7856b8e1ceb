use Rattle.rm_rules.specs.State.{start}
use Rattle.rm_rules.proofs.Laws.{healthy-start, healthy-replay}
use Rattle.rm_rules.proofs.history.histories_are_healthy.Goals as goal

pub returns : goal.returns
returns c = λ d room entries sound legal. healthy-replay (start d room) entries legal (healthy-start d room sound)

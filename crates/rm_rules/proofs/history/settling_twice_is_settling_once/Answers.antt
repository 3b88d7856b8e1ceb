use Rattle.rm_rules.specs.State.{start}
use Rattle.rm_rules.specs.Replay.{replay}
use Rattle.rm_rules.proofs.SettledLaws.{settled-twice, settled-again}
use Rattle.rm_rules.proofs.Histories.{rest-step, rest-replay}
use Rattle.rm_rules.proofs.history.settling_twice_is_settling_once.Goals as goal

pub returns : goal.returns
returns c = record {
  twice = settled-twice;
  step = rest-step;
  histories = λ d room entries sound legal. settled-again (replay (start d room) entries) (rest-replay d room entries sound legal);
}

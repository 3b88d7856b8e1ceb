use Rattle.rm_rules.proofs.Histories.{rest-replay}
use Rattle.rm_rules.proofs.history.no_head_is_left_entitled.Goals as goal

pub returns : goal.returns
returns c = λ d room entries sound legal. (rest-replay d room entries sound legal).none_entitled

use Rattle.rm_rules.proofs.Histories.{idle-step, rest-replay}
use Rattle.rm_rules.proofs.history.an_idle_host_has_no_queue.Goals as goal

pub returns : goal.returns
returns c = record { step = idle-step; histories = λ d room entries sound legal. (rest-replay d room entries sound legal).idle }

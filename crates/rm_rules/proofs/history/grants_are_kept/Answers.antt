use Rattle.rm_rules.specs.State.{start}
use Rattle.rm_rules.proofs.Laws.{healthy-start}
use Rattle.rm_rules.proofs.Grants.{grants-step}
use Rattle.rm_rules.proofs.Histories.{bytes-from}
use Rattle.rm_rules.proofs.history.grants_are_kept.Goals as goal

pub returns : goal.returns
returns c = record {
  step = grants-step;
  histories = λ d room entries sound legal. bytes-from (start d room) entries legal (healthy-start d room sound);
}

use Rattle.std.proofs.Common.{map, ap, ◌∙◌, List}
use Rattle.rm_rules.specs.Holdings.{Holdings}
use Rattle.rm_rules.specs.DropPool.{holding_beside, runner_beside}
use Rattle.machine.specs.declared.runs.Run.{Run}
use Rattle.machine.specs.Runs.{RunsSeen, runners}
use Rattle.machine.proofs.Beside.{runners-beside}
use Rattle.machine.proofs.runs.Runs.fold_into_general.Goals as goal

pub returns-clause-running : goal.returns-clause-running
returns-clause-running c =
    let gs = c.self.inside.accounts.grants in
    ap (λ (h : Holdings). runners h.grants c.put_rows_beside.new.rows) c.fold_into_general.ensures
    ∙ ap (λ (xs : List Run). runners (map (holding_beside c.args.pool) gs) xs) c.put_rows_beside.ensures
    ∙ runners-beside c.args.pool gs c.self.inside.rows
    ∙ ap (λ (v : RunsSeen). map (runner_beside c.args.pool) v.running) c.self.view_is

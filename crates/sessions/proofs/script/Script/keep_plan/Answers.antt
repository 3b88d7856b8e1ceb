use Rattle.std.proofs.Common.{List, ap, sym, subst}
use Rattle.csv_tables.specs.declared.tables.NamedTable.{NamedTable}
use Rattle.query_run.specs.Running.{IsRunnable}
use Rattle.sessions.specs.Turns.{ScriptState}
use Rattle.sessions.proofs.PlanLemmas.{run-kept}
use Rattle.sessions.proofs.script.Script.keep_plan.Goals as goal

pub invariant_of-self : goal.invariant_of-self
invariant_of-self c =
    let runs = subst (λ (ts : List NamedTable). IsRunnable c.args.plan ts) (sym (ap (λ (s : ScriptState). s.tables) c.self.view_is)) c.requires in
    record {
      held = c.self.invariant.held;
      plans = run-kept c.self.inside.tables c.args.number c.args.plan c.self.inside.plans c.keep.new.self c.keep.result c.keep.ensures.ok c.keep.ensures.err c.self.invariant.plans runs;
    }

pub invariant_of-self-in-Waiting : goal.invariant_of-self-in-Waiting
invariant_of-self-in-Waiting c =
    let runs = subst (λ (ts : List NamedTable). IsRunnable c.args.plan ts) (sym (ap (λ (s : ScriptState). s.tables) c.self.view_is)) c.requires in
    record {
      held = c.self.invariant.held;
      plans = run-kept c.self.inside.tables c.args.number c.args.plan c.self.inside.plans c.keep-in-Waiting.new.self c.keep-in-Waiting.result c.keep-in-Waiting.ensures.ok c.keep-in-Waiting.ensures.err c.self.invariant.plans runs;
    }

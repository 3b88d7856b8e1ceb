use Rattle.std.proofs.Common.{Bool, List, ap, sym, ◌∙◌, subst}
use Rattle.std.specs.Prelude.{option_map}
use Rattle.rm_base.specs.declared.catalog.CatalogTable.{CatalogTable}
use Rattle.rm_base.specs.Name.{same_name}
use Rattle.rm_rules.proofs.Places.{find-absent}
use Rattle.csv_tables.specs.declared.tables.NamedTable.{NamedTable}
use Rattle.query_plan.specs.Text.{SpellsText}
use Rattle.query_run.specs.Running.{IsRunnable}
use Rattle.query_run.proofs.Runnable.{spelled-runs}
use Rattle.sessions.specs.SessionNames.{NamedSession}
use Rattle.sessions.specs.Turns.{ScriptState, query_for}
use Rattle.sessions.proofs.script.Script.query.Goals as goal

pub returns-in_default : goal.returns-in_default
returns-in_default c =
    let test : NamedSession → Bool = λ n. same_name n.name c.args.session in
    let absent = find-absent test c.args.self.now.names (sym c.place_of.ensures ∙ c.in_default.is) in
    ap (query_for c.args.self.now c.args.session c.args.text.now) (sym (ap (option_map (λ (n : NamedSession). n.session)) absent))

pub submit_plan-requires-clause-runnable : goal.submit_plan-requires-clause-runnable
submit_plan-requires-clause-runnable c =
    let spelled = subst (λ (cs : List CatalogTable). SpellsText cs c.args.text.now c.in-Ok.plan) c.catalog.ensures c.in-Ok.ensures.plan in
    subst (λ (ts : List NamedTable). IsRunnable c.in-Ok.plan ts) (ap (λ (s : ScriptState). s.tables) c.self.view_is)
    (spelled-runs c.self.inside.tables c.args.text.now c.in-Ok.plan spelled)

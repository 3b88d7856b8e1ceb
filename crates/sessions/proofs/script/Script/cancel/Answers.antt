use Rattle.std.proofs.Common.{Bool, ap, sym, ◌∙◌}
use Rattle.std.specs.Prelude.{option_map}
use Rattle.rm_base.specs.Name.{same_name}
use Rattle.rm_rules.proofs.Places.{find-absent}
use Rattle.sessions.specs.SessionNames.{NamedSession}
use Rattle.sessions.specs.Turns.{cancel_turn}
use Rattle.sessions.proofs.script.Script.cancel.Goals as goal

pub returns-in_default : goal.returns-in_default
returns-in_default c =
    let test : NamedSession → Bool = λ n. same_name n.name c.args.target in
    let absent = find-absent test c.args.self.now.names (sym c.place_of.ensures ∙ c.in_default.is) in
    ap (cancel_turn c.args.self.now c.args.session c.args.number) (sym (ap (option_map (λ (n : NamedSession). n.session)) absent))

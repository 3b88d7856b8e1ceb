use Rattle.std.proofs.Common.{Bool, ap, sym, ◌∙◌}
use Rattle.std.specs.Prelude.{option_map}
use Rattle.rm_base.specs.Name.{same_name}
use Rattle.rm_rules.proofs.Places.{find-absent}
use Rattle.sessions.specs.Commands.{seen_request}
use Rattle.sessions.specs.SessionNames.{NamedSession}
use Rattle.sessions.specs.Turns.{session_turn}
use Rattle.sessions.proofs.script.Script.take_request.Goals as goal

pub returns-in_default-clause-turn : goal.returns-in_default-clause-turn
returns-in_default-clause-turn g c =
    let test : NamedSession → Bool = λ n. same_name n.name c.args.session in
    let absent = find-absent test c.args.self.now.names (sym c.place_of.ensures ∙ c.in_default.is) in
    ap (session_turn c.args.self.now c.args.session (seen_request c.args.request)) (sym (ap (option_map (λ (n : NamedSession). n.session)) absent))

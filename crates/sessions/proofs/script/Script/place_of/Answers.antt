use Rattle.std.proofs.Common.{Bool, List, position, ap, sym, ◌∙◌}
use Rattle.rm_base.specs.Name.{same_name}
use Rattle.sessions.specs.declared.held.Held.{Held}
use Rattle.sessions.specs.Held.{named_session}
use Rattle.sessions.specs.SessionNames.{NamedSession, place_named}
use Rattle.sessions.specs.Turns.{ScriptState}
use Rattle.sessions.proofs.HeldLaws.{position-map}
use Rattle.sessions.proofs.script.Script.place_of.Goals as goal

pub returns : goal.returns
returns c =
    let test : NamedSession → Bool = λ n. same_name n.name c.args.session in
    c.place_of.ensures.place ∙ ap (λ (hs : List Held). position (λ h. same_name h.name c.args.session) hs) c.deref.ensures.value
    ∙ sym (position-map test named_session c.self.inside.held.items) ∙ ap (λ (s : ScriptState). place_named s.names c.args.session) c.self.view_is

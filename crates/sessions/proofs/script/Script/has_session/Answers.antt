use Rattle.std.proofs.Common.{Bool, List, ap, sym, ◌∙◌}
use Rattle.std.specs.List.{list_any}
use Rattle.rm_base.specs.Name.{same_name}
use Rattle.sessions.specs.declared.held.Held.{Held}
use Rattle.sessions.specs.Held.{named_session}
use Rattle.sessions.specs.SessionNames.{NamedSession, has_session}
use Rattle.sessions.specs.Turns.{ScriptState}
use Rattle.sessions.proofs.HeldLaws.{list_any-map}
use Rattle.sessions.proofs.script.Script.has_session.Goals as goal

pub returns : goal.returns
returns c =
    let test : NamedSession → Bool = λ n. same_name n.name c.args.session in
    c.has_session.ensures ∙ ap (λ (hs : List Held). list_any (λ h. same_name h.name c.args.session) hs) c.deref.ensures.value
    ∙ sym (list_any-map test named_session c.self.inside.held.items) ∙ ap (λ (s : ScriptState). has_session s.names c.args.session) c.self.view_is

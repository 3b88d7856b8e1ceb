use Rattle.std.proofs.Common.{ℕ, List, ap, sym, ◌∙◌}
use Rattle.std.proofs.lemmas.Result.{IfOk-weaker}
use Rattle.std.specs.Prelude.{string_bytes}
use Rattle.rm_base.specs.declared.event.Event.TheVariants as event
use Rattle.sessions.specs.Commands as request
use Rattle.sessions.specs.SessionNames.{NamedSession, session_named}
use Rattle.sessions.specs.Texts.{line_text}
use Rattle.sessions.specs.Turns.{ScriptState, called}
use Rattle.sessions.proofs.HeldLaws.{found-at}
use Rattle.sessions.proofs.TurnLemmas.{does-request}
use Rattle.sessions.proofs.script.Script.set_cap.Goals as goal

pub returns : goal.returns
returns c =
    let s = c.args.self.now in
    let x = c.index.result.now in
    let names = ap (λ (t : ScriptState). t.names) c.self.view_is in
    let there = found-at c.self.inside.held.items s.names c.args.session c.args.place x names c.requires c.index.ensures in
    let named_so = ap (λ (l : List NamedSession). session_named l c.args.session) (sym names) ∙ there.session in
    IfOk-weaker c.line_text.result _ _
    (λ text is. does-request s c.call-reply.new.self c.args.session x.session.number (request.SetCap c.args.cap) (event.SetCap c.number.result c.args.cap) (line_text c.args.session) c.call-reply.result
    (string_bytes text) named_so
    (ap (λ (n : ℕ). called s (event.SetCap n c.args.cap) (line_text c.args.session)) (sym c.number.ensures)) c.call-reply.ensures.state (ap (line_text c.args.session) c.call-reply.ensures.reply) is)
    c.line_text.ensures

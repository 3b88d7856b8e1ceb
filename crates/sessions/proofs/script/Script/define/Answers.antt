use Rattle.std.proofs.Common.{◌∙◌, ap, sym}
use Rattle.rm_base.specs.declared.event.Event.TheVariants as event
use Rattle.rm_rules.specs.Step.{step}
use Rattle.sessions.specs.Turns.{ScriptState, Goes}
use Rattle.sessions.specs.Texts.{bare_text}
use Rattle.sessions.proofs.StatementLemmas.{statement-ok}
use Rattle.sessions.proofs.script.Script.define.Goals as goal

pub returns : goal.returns
returns c =
    let s = c.args.self.now in
    let statement = c.args.statement.now in
    ap (λ text. Goes text c.call-reply.new.self) (c.in_ok-bare_text.ensures ∙ ap bare_text c.call-reply.ensures.reply)
    ∙ ap (λ (left : ScriptState). Goes (bare_text (step s.machine 0 s.moment (event.Define statement)).reply) left) c.call-reply.ensures.state
    ∙ sym (statement-ok s statement c.requires.accepted)

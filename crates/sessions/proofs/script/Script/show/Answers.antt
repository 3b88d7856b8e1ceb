use Rattle.std.proofs.Common.{◌++◌, Ok, Err, List, ℕ, sym, ap, ◌∙◌}
use Rattle.std.proofs.lemmas.Result.{IfOk-weaker}
use Rattle.sessions.specs.AnswerTexts.{shown_text}
use Rattle.sessions.specs.Turns.{ScriptState, Goes}
use Rattle.sessions.proofs.ShownLaws.{look-seen, look-shown}
use Rattle.sessions.proofs.script.Script.show.Goals as goal

pub table_rows-requires : goal.table_rows-requires
table_rows-requires c = look-seen c.self.inside.desk.state c.in_ok-looked.looked c.entries-entries.ensures.healthy c.in_ok-looked.ensures.looked

pub returns-in-Ok : goal.returns-in-Ok
returns-in-Ok c =
    let machine = sym c.entries-entries.ensures.replays ∙ ap (λ (s : ScriptState). s.machine) c.self.view_is in
    let shown = look-shown c.args.self.now c.self.inside.desk.state c.in_ok-looked.looked c.args.name (Ok c.in-Ok.table) c.in_ok-looked.ensures.looked machine c.in-Ok.ensures.shown in
    ap (λ (b : List ℕ). Goes (b ++ shown_text c.in-Ok.table) c.args.self.now) c.new.ensures.bytes ∙ shown

pub returns-in-Err-Refused : goal.returns-in-Err-Refused
returns-in-Err-Refused c =
    let refusal = c.in-Err-Refused.refusal in
    let machine = sym c.entries-entries.ensures.replays ∙ ap (λ (s : ScriptState). s.machine) c.self.view_is in
    let shown = c.table_rows.ensures.refused refusal (c.in-Err-Refused.is ∙ ap Err c.in-Err-Refused.field-0-is) in
    IfOk-weaker c.refused.result _ _
    (λ t is. is c.args.self.now ∙ look-shown c.args.self.now c.self.inside.desk.state c.in_ok-looked.looked c.args.name (Err refusal) c.in_ok-looked.ensures.looked machine shown)
    c.refused.ensures

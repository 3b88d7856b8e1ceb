use Rattle.std.proofs.Common.{Bor, List, ℕ, ap, sym, ◌∙◌}
use Rattle.std.specs.Prelude.{option_map}
use Rattle.rm_base.specs.Name.{name_of}
use Rattle.sessions.specs.Commands.{seen_command, first_word, text_behind}
use Rattle.sessions.proofs.CommandLemmas.{query-absent, query-present}
use Rattle.sessions.proofs.command.query_form.Goals as goal

pub returns-in_err-session : goal.returns-in_err-session
returns-in_err-session c =
    let text = sym c.text_behind.ensures ∙ ap (option_map (λ (t : Bor (List ℕ)). t.now)) c.in_ok-text.was in
    let none = ap name_of (sym c.first_word.ensures) ∙ sym c.of.ensures.name ∙ c.in_err-session.was in
    ap (option_map seen_command) c.from_residual-in_err-session.ensures ∙ sym (query-absent (first_word c.args.words.now) (text_behind c.args.words.now) c.in_ok-text.text.now text none)

pub returns : goal.returns
returns c =
    let text = sym c.text_behind.ensures ∙ ap (option_map (λ (t : Bor (List ℕ)). t.now)) c.in_ok-text.was in
    let named_so = ap name_of (sym c.first_word.ensures) ∙ sym c.of.ensures.name ∙ c.in_ok-session.was in
    sym (query-present (first_word c.args.words.now) (text_behind c.args.words.now) c.in_ok-text.text.now c.in_ok-session.session text named_so)

use Rattle.std.proofs.Common.{◌≡◌, ◌+◌, ◌-◌, ◌∷◌, ◌∙◌, length, take, drop, ap, sym, arith, tests, rules}
use Rattle.std.proofs.lemmas.Grind.{common_steps}
use Rattle.std.specs.Str.Lines.{lines}
use Rattle.sessions.proofs.LinesLemmas.{lines-whole, lines-cut}
use Rattle.sessions.proofs.lines.cut_line.Goals as goal

pub returns-in-None-clause-line : goal.returns-in-None-clause-line
returns-in-None-clause-line c = lines-whole c.args.text.now (search (rules, tests)) c.in-None.ensures

pub returns-in-Some-clause-line : goal.returns-in-Some-clause-line
returns-in-Some-clause-line c =
    let text = c.args.text.now in
    let end = c.in-Some.end in
    let rest : take (length text - (end + 1)) (drop (end + 1) text) ≡ drop (end + 1) text = grind (arith, common_steps) in
    lines-cut text end c.in-Some.ensures.0 c.in-Some.ensures.1
    ∙ ap (λ line. line ∷ lines (drop (end + 1) text)) (sym c.without_return.ensures)
    ∙ ap (λ after. c.without_return.result.now ∷ lines after) (sym rest)

use Rattle.std.proofs.Common.{◌∙◌, length, ap, sym, le-leb, ◌&&◌}
use Rattle.std.specs.Str.{is_utf8}
use Rattle.sessions.proofs.LinesLemmas.{is_ok-utf8}
use Rattle.sessions.proofs.lines.readable.Goals as goal

pub returns-clause-readable : goal.returns-clause-readable
returns-clause-readable c =
    let line = c.args.line.now in
    c.ok.ensures.variant ∙ is_ok-utf8 c.from_utf8.result line _ _ c.from_utf8.ensures.cases
    ∙ ap (λ short. short && is_utf8 line) (sym (le-leb (length line) 65536 c.if-line-gt-LINE_MOST.false))

use Rattle.std.proofs.Common.{Some, ap, sym, ◌∙◌}
use Rattle.sessions.proofs.TurnLemmas.{named-number}
use Rattle.sessions.proofs.script.Script.number_at.Goals as goal

pub returns : goal.returns
returns c =
    named-number c.self.inside.desk c.self.inside.held.items c.self.inside.plans c.self.inside.tables c.self.inside.moment c.args.self.now c.args.session c.args.place c.index.result.now c.self.view_is c.requires c.index.ensures
    ∙ ap Some (sym c.number.ensures)

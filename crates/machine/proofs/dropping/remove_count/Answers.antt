use Rattle.std.proofs.Common.{sym, ◌∙◌}
use Rattle.machine.proofs.DropLemmas.{without_place-found, without_place-absent}
use Rattle.machine.proofs.dropping.remove_count.Goals as goal

pub returns-in-Some : goal.returns-in-Some
returns-in-Some c =
    c.remove.ensures.rest ∙ sym (without_place-found c.args.rows.now c.args.pool c.args.counters.now c.in-Some.place c.requires (sym c.in-Some.ensures.value))

pub returns-in_default : goal.returns-in_default
returns-in_default c = sym (without_place-absent c.args.rows.now c.args.pool c.args.counters.now c.requires (sym c.in_default.ensures.value))

use Rattle.std.proofs.Common.{sym, ap, ◌∙◌}
use Rattle.rm_base.specs.declared.name.Name.{Name}
use Rattle.rm_base.specs.Name.{same_name}
use Rattle.places.proofs.Distinct.{place-is}
use Rattle.places.proofs.Guesses.place_of.Goals as goal

pub returns-then-same-clause-value : goal.returns-then-same-clause-value
returns-then-same-clause-value g c =
    sym (place-is g.T.Named.name c.args.name c.args.rows.now c.from-guess.result c.index-rows-guess.result c.requires c.if-guess-rows.true (
    ap (λ r. same_name (g.T.Named.name r) c.args.name) (sym c.index-rows-guess.is) ∙ ap (λ (n : Name). same_name n c.args.name) (sym c.name.ensures) ∙ sym c.same.ensures ∙ c.if-same.true
    ))

use Rattle.std.proofs.Common.{rules, refl, ◌≡◌, ◌++◌, ◌∷◌, [], ◌∙◌, ap, arith}
use Rattle.std.proofs.lemmas.List.{length-set}
use Rattle.grouping.proofs.PlacesLemmas.{placed_more}
use Rattle.grouping.proofs.places.Places.put.Goals as goal

pub invariant_of-self-2 : goal.invariant_of-self-2
invariant_of-self-2 c =
    let old = c.self.inside in
    let numbers : c.push_reserved.new.self.items ≡ old.numbers.items ++ c.args.number ∷ [] = c.push_reserved.ensures.items ∙ ap (λ l. l ++ c.args.number ∷ []) c.reserve.ensures.items in
    let before : c.push_reserved-2.new.self.items ≡ old.before.items ++ c.index-earlier.result.now ∷ [] = c.push_reserved-2.ensures.items ∙ ap (λ l. l ++ c.index-earlier.result.now ∷ []) c.reserve-2.ensures.items in (
      omega (arith, c.self.invariant.0, length-set old.last.items c.bucket-bucket.result c.len-2.result),
      placed_more old.numbers.items old.last.items old.before.items c.args.number c.bucket-bucket.result c.index-earlier.result.now c.len-2.result _ _ _ c.self.invariant.1 (search rules) (search rules) (search rules) (search rules) numbers refl before,
    )

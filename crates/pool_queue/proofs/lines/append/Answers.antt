use Rattle.std.proofs.Common.{◌≡◌, false, List, [], ◌∷◌, filter, refl, ◌∙◌, rules}
use Rattle.std.proofs.lemmas.Fn.{filter_same}
use Rattle.pool_queue.specs.declared.lines.Arrived.{Arrived}
use Rattle.pool_queue.proofs.lines.append.Goals as goal

none-left : (xs : List Arrived) → filter (λ (_ : Arrived). false) xs ≡ []
none-left [] = refl
none-left (x ∷ xs) = none-left xs

pub returns-clause-second : goal.returns-clause-second
returns-clause-second c = filter_same _ (λ (_ : Arrived). false) _ (λ x b f' k. search rules) _ _ c.retain.ensures ∙ none-left c.args.second

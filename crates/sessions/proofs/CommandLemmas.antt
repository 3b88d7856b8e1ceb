-- What a line of a query gives.
use Rattle.std.proofs.Common.{◌≡◌, List, ℕ, Option, Some, None, ap, ◌∙◌}
use Rattle.std.specs.Prelude.{option_map}
use Rattle.rm_base.specs.declared.name.Name.{Name}
use Rattle.rm_base.specs.Name.{name_of}
use Rattle.sessions.specs.Commands.{Command, Query, query_of}

pub query-absent : (name : List ℕ) (text : Option (List ℕ)) (t : List ℕ) → text ≡ Some t → (let o : Option Name = None in name_of name ≡ o) → (let k : Option Command = None in query_of name text ≡ k)
query-absent name text t is none = ap (query_of name) is ∙ ap (λ (o : Option Name). let k : Option Command = option_map (λ s. Query s t) o in k) none

pub query-present : (name : List ℕ) (text : Option (List ℕ)) (t : List ℕ) (s : Name) → text ≡ Some t → name_of name ≡ Some s → query_of name text ≡ Some (Query s t)
query-present name text t s is named = ap (query_of name) is ∙ ap (λ (o : Option Name). let k : Option Command = option_map (λ n. Query n t) o in k) named

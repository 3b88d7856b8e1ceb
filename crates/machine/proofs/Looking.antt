-- The running queries as they are seen, one after the other.
use Rattle.std.proofs.Common.{◌≡◌, ◌<◌, ℕ, ◌+◌, List, [], ◌∷◌, ◌++◌, length, get_or, take, drop, map, sym, ap, ◌∙◌, append_assoc}
use Rattle.std.specs.List.{zip}
use Rattle.std.proofs.lemmas.List.{drop_more, take_more, map_push}
use Rattle.rm_base.specs.declared.snapshot.RunningSeen.{RunningSeen}
use Rattle.rm_rules.specs.declared.state.Holding.{Holding}
use Rattle.rm_rules.specs.declared.state.Runner.{Runner}
use Rattle.rm_rules.specs.Holdings.{Holdings, holding, holdings}
use Rattle.rm_rules.specs.Accounting.{account_behind, accounts_behind}
use Rattle.machine.specs.Looked.{running_seen}

-- those of the running queries that are still to be seen
abbrev pub unseen : Holdings → List Holding → List Runner → List RunningSeen
unseen h before rest = map running_seen (zip rest (accounts_behind h before (holdings rest)))

-- one more is seen
one-seen : (h : Holdings) (before : List Holding) (rest : List Runner) (r : Runner) (seen : List RunningSeen) (x : RunningSeen) → x ≡ running_seen (r, account_behind h before (holding r))
    → seen ++ unseen h before (r ∷ rest) ≡ (seen ++ x ∷ []) ++ unseen h (before ++ holding r ∷ []) rest
one-seen h before rest r seen x is =
    let tail = unseen h (before ++ holding r ∷ []) rest in
    ap (λ y. seen ++ y ∷ tail) (sym is) ∙ sym (append_assoc seen (x ∷ []) tail)

pub runs-more : (h : Holdings) (running : List Runner) (i : ℕ) (r : Runner) (seen : List RunningSeen) (x : RunningSeen) → i < length running → r ≡ get_or running i r
    → x ≡ running_seen (r, account_behind h (holdings (take i running)) (holding r))
    → seen ++ unseen h (holdings (take i running)) (drop i running) ≡ (seen ++ x ∷ []) ++ unseen h (holdings (take (i + 1) running)) (drop (i + 1) running)
runs-more h running i r seen x within at is =
    let here : drop i running ≡ r ∷ drop (i + 1) running = drop_more running i r within ∙ ap (λ y. y ∷ drop (i + 1) running) (sym at) in
    let front : take (i + 1) running ≡ take i running ++ r ∷ [] = take_more running i r within ∙ ap (λ y. take i running ++ y ∷ []) (sym at) in
    ap (λ l. seen ++ unseen h (holdings (take i running)) l) here
    ∙ one-seen h (holdings (take i running)) (drop (i + 1) running) r seen x is
    ∙ ap (λ (l : List Holding). (seen ++ x ∷ []) ++ unseen h l (drop (i + 1) running)) (sym (ap holdings front ∙ map_push holding (take i running) r))

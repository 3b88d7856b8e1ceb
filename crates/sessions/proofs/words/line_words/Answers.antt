use Rattle.std.proofs.Common.{◌≡◌, ℕ, List, map, nat_lt, length, lit<, rules, tests, subst, sym, ◌∙◌, IfOk, vec_items}
use Rattle.std.proofs.lemmas.Iterator.Consumers.{map_from_collect, YieldsList-at, YieldsList-from_filter}
use Rattle.std.proofs.lemmas.Iterator.Splits.{YieldsList-from_str_split}
use Rattle.sessions.proofs.WordsLemmas.{line_words-inner, not_empty}
use Rattle.sessions.proofs.words.line_words.Goals as goal

pub returns : goal.returns
returns c =
    let line = c.args.line.now in
    let is : (all : List (List ℕ)) → Type 0 = λ all. IfOk c.collect.result (λ parts. map (λ part. part.now) (vec_items parts) ≡ all) in
    subst is (line_words-inner line (sym c.has_outer_space.ensures ∙ c.if-has_outer_space.false)) (map_from_collect _ c.collect.ensures.ran
    (YieldsList-from_filter _ (λ piece. nat_lt 0 (length piece))
    (YieldsList-at c.filter.ensures.source (YieldsList-from_str_split 32 line (lit< tt) c.split.ensures.text c.split.ensures.has_more c.split.ensures.pattern))
    c.filter.ensures.closure (λ x b q k. search (rules, tests, not_empty))))

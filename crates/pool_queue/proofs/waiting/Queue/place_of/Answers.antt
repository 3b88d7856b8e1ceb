use Rattle.std.proofs.Common.{◌≡◌, ◌+◌, ℕ, Option, Some, None, List, find, position, is_some, ap, sym, ◌∙◌, arith}
use Rattle.std.specs.Prelude.{option_map}
use Rattle.rm_rules.specs.declared.state.Waiter.{Waiter}
use Rattle.pool_queue.specs.declared.lines.Arrived.{Arrived}
use Rattle.pool_queue.specs.declared.lines.Line.{Line}
use Rattle.pool_queue.specs.Queue.{is_query}
use Rattle.pool_queue.specs.Lines.{merged, queries, first_of_lines, count_below}
use Rattle.pool_queue.proofs.Places.{is_some-position}
use Rattle.pool_queue.proofs.Counts.{count_below-within}
use Rattle.pool_queue.proofs.Finding.{first-found, first-query, find-queries}
use Rattle.pool_queue.proofs.Leaving.{place-of_found, none-placed}
use Rattle.pool_queue.proofs.waiting.Queue.place_of.Goals as goal

pub overflow_add-result : goal.overflow_add-result
overflow_add-result c =
    let t = is_query c.args.query in
    let lines = c.self.inside.lines.items in
    let searched : c.first_such.result ≡ first_of_lines (λ (a : Arrived). t a.waiter) lines =
    c.first_such.ensures ∙ ap (λ (ls : List Line). first_of_lines (λ (a : Arrived). t a.waiter) ls) c.deref.ensures.value in
    let found : find (λ (a : Arrived). t a.waiter) (merged lines) ≡ Some c.in-Some.found =
    sym (first-found (λ (a : Arrived). t a.waiter) lines c.self.invariant.ordered) ∙ sym searched ∙ c.in-Some.is in
    let here : find t (queries (merged lines)) ≡ Some c.in-Some.found.waiter =
    sym (find-queries t (merged lines)) ∙ ap (λ (o : Option Arrived). option_map (λ (a : Arrived). a.waiter) o) found in
    let at : position t c.args.self.now ≡ Some (count_below c.in-Some.found.number lines) =
    sym (ap (λ (ws : List Waiter). position t ws) c.self.view_is) ∙ place-of_found t c.in-Some.found lines c.self.invariant.ordered found here in
    let counted : c.count_below.result ≡ count_below c.in-Some.found.number lines =
    c.count_below.ensures ∙ ap (λ (ls : List Line). count_below c.in-Some.found.number ls) c.deref-in-Some.ensures.value in
    omega (arith, counted, count_below-within c.in-Some.found.number lines, c.self.invariant.count, c.self.invariant.most)

pub returns-in-Some-clause-value : goal.returns-in-Some-clause-value
returns-in-Some-clause-value c =
    let t = is_query c.args.query in
    let lines = c.self.inside.lines.items in
    let searched : c.first_such.result ≡ first_of_lines (λ (a : Arrived). t a.waiter) lines =
    c.first_such.ensures ∙ ap (λ (ls : List Line). first_of_lines (λ (a : Arrived). t a.waiter) ls) c.deref.ensures.value in
    let found : find (λ (a : Arrived). t a.waiter) (merged lines) ≡ Some c.in-Some.found =
    sym (first-found (λ (a : Arrived). t a.waiter) lines c.self.invariant.ordered) ∙ sym searched ∙ c.in-Some.is in
    let here : find t (queries (merged lines)) ≡ Some c.in-Some.found.waiter =
    sym (find-queries t (merged lines)) ∙ ap (λ (o : Option Arrived). option_map (λ (a : Arrived). a.waiter) o) found in
    let at : position t c.args.self.now ≡ Some (count_below c.in-Some.found.number lines) =
    sym (ap (λ (ws : List Waiter). position t ws) c.self.view_is) ∙ place-of_found t c.in-Some.found lines c.self.invariant.ordered found here in
    let counted : c.count_below.result ≡ count_below c.in-Some.found.number lines =
    c.count_below.ensures ∙ ap (λ (ls : List Line). count_below c.in-Some.found.number ls) c.deref-in-Some.ensures.value in
    ap (λ (n : ℕ). Some (n + 1)) counted ∙ sym (ap (λ (o : Option ℕ). option_map (λ n. n + 1) o) at)

pub returns-in-Some-clause-waits : goal.returns-in-Some-clause-waits
returns-in-Some-clause-waits c =
    let t = is_query c.args.query in
    let lines = c.self.inside.lines.items in
    let searched : c.first_such.result ≡ first_of_lines (λ (a : Arrived). t a.waiter) lines =
    c.first_such.ensures ∙ ap (λ (ls : List Line). first_of_lines (λ (a : Arrived). t a.waiter) ls) c.deref.ensures.value in
    let found : find (λ (a : Arrived). t a.waiter) (merged lines) ≡ Some c.in-Some.found =
    sym (first-found (λ (a : Arrived). t a.waiter) lines c.self.invariant.ordered) ∙ sym searched ∙ c.in-Some.is in
    let here : find t (queries (merged lines)) ≡ Some c.in-Some.found.waiter =
    sym (find-queries t (merged lines)) ∙ ap (λ (o : Option Arrived). option_map (λ (a : Arrived). a.waiter) o) found in
    let at : position t c.args.self.now ≡ Some (count_below c.in-Some.found.number lines) =
    sym (ap (λ (ws : List Waiter). position t ws) c.self.view_is) ∙ place-of_found t c.in-Some.found lines c.self.invariant.ordered found here in
    let counted : c.count_below.result ≡ count_below c.in-Some.found.number lines =
    c.count_below.ensures ∙ ap (λ (ls : List Line). count_below c.in-Some.found.number ls) c.deref-in-Some.ensures.value in
    sym (ap (λ (o : Option ℕ). is_some o) at) ∙ is_some-position t c.args.self.now

pub returns-in-None-clause-value : goal.returns-in-None-clause-value
returns-in-None-clause-value c =
    let t = is_query c.args.query in
    let lines = c.self.inside.lines.items in
    let searched : c.first_such.result ≡ first_of_lines (λ (a : Arrived). t a.waiter) lines =
    c.first_such.ensures ∙ ap (λ (ls : List Line). first_of_lines (λ (a : Arrived). t a.waiter) ls) c.deref.ensures.value in
    let nobody : position t c.args.self.now ≡ None =
    sym (ap (λ (ws : List Waiter). position t ws) c.self.view_is)
    ∙ none-placed t c.first_such.result (queries (merged lines)) (ap (λ (o : Option Arrived). option_map (λ (a : Arrived). a.waiter) o) searched ∙ first-query t lines c.self.invariant.ordered) c.in-None.is in
    sym (ap (λ (o : Option ℕ). option_map (λ n. n + 1) o) nobody)

pub returns-in-None-clause-waits : goal.returns-in-None-clause-waits
returns-in-None-clause-waits c =
    let t = is_query c.args.query in
    let lines = c.self.inside.lines.items in
    let searched : c.first_such.result ≡ first_of_lines (λ (a : Arrived). t a.waiter) lines =
    c.first_such.ensures ∙ ap (λ (ls : List Line). first_of_lines (λ (a : Arrived). t a.waiter) ls) c.deref.ensures.value in
    let nobody : position t c.args.self.now ≡ None =
    sym (ap (λ (ws : List Waiter). position t ws) c.self.view_is)
    ∙ none-placed t c.first_such.result (queries (merged lines)) (ap (λ (o : Option Arrived). option_map (λ (a : Arrived). a.waiter) o) searched ∙ first-query t lines c.self.invariant.ordered) c.in-None.is in
    sym (ap (λ (o : Option ℕ). is_some o) nobody) ∙ is_some-position t c.args.self.now

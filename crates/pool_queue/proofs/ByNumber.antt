-- A waiting query by its number and by its session.
use Rattle.std.proofs.Common.{◌≡◌, ◌≤◌, ℕ, ◌+◌, Bool, true, ◌||◌, nat_eq, Option, Some, unwrap_or, option_map, List, [], ◌∷◌, ◌++◌, length, find, count_by, position, ap, sym, ◌∙◌, arith}
use Rattle.std.proofs.Math.Bool.{or-true}
use Rattle.rm_rules.specs.declared.state.Waiter.{Waiter}
use Rattle.rm_rules.specs.State.{without, without_waiter}
use Rattle.rm_rules.specs.Answers.{queue_place}
use Rattle.rm_rules.proofs.Once.{is-itself, find-single, without-single, position-single}
use Rattle.pool_queue.specs.Queue.{is_query, has_query, place_of_query}

-- a query is found by its number
waits-among : (before rest : List Waiter) (w : Waiter) → has_query (before ++ w ∷ rest) w.query ≡ true
waits-among [] rest w = ap (λ b. b || has_query rest w.query) (is-itself w.query)
waits-among (x ∷ before) rest w = ap (λ b. is_query w.query x || b) (waits-among before rest w) ∙ or-true (is_query w.query x)

pub waits-by_number : (waiting before rest : List Waiter) (w : Waiter) → waiting ≡ before ++ w ∷ rest → has_query waiting w.query ≡ true
waits-by_number waiting before rest w split = ap (λ (ws : List Waiter). has_query ws w.query) split ∙ waits-among before rest w

abbrev OnceByNumber : List Waiter → Type 0
OnceByNumber waiting = (query : ℕ) → count_by (is_query query) waiting ≤ 1

abbrev OnceBySession : List Waiter → Type 0
OnceBySession waiting = (session : ℕ) → count_by (λ x. nat_eq x.session session) waiting ≤ 1

along : (test : Waiter → Bool) (waiting other : List Waiter) → waiting ≡ other → count_by test waiting ≤ 1 → count_by test other ≤ 1
along test waiting other same few = omega (arith, few, ap (λ (ws : List Waiter). count_by test ws) same)

pub found-by_number : (waiting before rest : List Waiter) (w : Waiter) → OnceByNumber waiting → waiting ≡ before ++ w ∷ rest → find (is_query w.query) waiting ≡ Some w
found-by_number waiting before rest w once split =
    let test = is_query w.query in
    ap (λ (ws : List Waiter). find test ws) split
    ∙ find-single test before rest w (is-itself w.query) (along test waiting (before ++ w ∷ rest) split (once w.query))

pub left-by_number : (waiting before rest : List Waiter) (w : Waiter) → OnceByNumber waiting → OnceBySession waiting → waiting ≡ before ++ w ∷ rest
    → without (is_query w.query) waiting ≡ without_waiter w.session waiting
left-by_number waiting before rest w once alone split =
    let numbered = is_query w.query in
    let of_session = λ (x : Waiter). nat_eq x.session w.session in
    ap (λ (ws : List Waiter). without numbered ws) split
    ∙ without-single numbered before rest w (is-itself w.query) (along numbered waiting (before ++ w ∷ rest) split (once w.query))
    ∙ sym (without-single of_session before rest w (is-itself w.session) (along of_session waiting (before ++ w ∷ rest) split (alone w.session)))
    ∙ sym (ap (λ (ws : List Waiter). without of_session ws) split)

pub place-by_number : (waiting before rest : List Waiter) (w : Waiter) → OnceByNumber waiting → OnceBySession waiting → waiting ≡ before ++ w ∷ rest
    → place_of_query waiting w.query ≡ Some (queue_place waiting w.session)
place-by_number waiting before rest w once alone split =
    let numbered = is_query w.query in
    let of_session = λ (x : Waiter). nat_eq x.session w.session in
    let by_number : position numbered waiting ≡ Some (length before) =
    ap (λ (ws : List Waiter). position numbered ws) split
    ∙ position-single numbered before rest w (is-itself w.query) (along numbered waiting (before ++ w ∷ rest) split (once w.query)) in
    let by_session : position of_session waiting ≡ Some (length before) =
    ap (λ (ws : List Waiter). position of_session ws) split
    ∙ position-single of_session before rest w (is-itself w.session) (along of_session waiting (before ++ w ∷ rest) split (alone w.session)) in
    ap (λ (o : Option ℕ). option_map (λ n. n + 1) o) by_number ∙ sym (ap (λ (o : Option ℕ). Some (unwrap_or o (length waiting) + 1)) by_session)

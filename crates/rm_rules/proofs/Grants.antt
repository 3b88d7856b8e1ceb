-- What an event does to the grants of the running queries.
use Rattle.std.proofs.Common.{◌≡◌, ℕ, ◌+◌, ◌≤◌, Bool, true, false, ◌||◌, cond, eqb, List, [], ◌∷◌, ◌++◌, Some, None, Option, inl, inr, ◌⊎◌, refl, sym, ap, ◌∙◌, subst, arith, append_assoc, append-nil, count_by, map, filter, not}
use Rattle.std.specs.Prelude.{◌≢◌, option_map, option_and_then}
use Rattle.std.specs.List.{find}
use Rattle.std.proofs.lemmas.Bool.{eqb-true, eq-eqb, false≢true}
use Rattle.rm_base.specs.declared.event.Event.{Event}
use Rattle.rm_base.specs.declared.event.Event.TheVariants.{Define, Open, SetPool, SetCap, Submit, Poll, Check, GiveWay, Finish, Cancel, Close}
use Rattle.rm_base.specs.declared.name.Name.{Name}
use Rattle.rm_base.specs.declared.definitions.Definitions.{Definitions}
use Rattle.rm_base.specs.declared.statement.Statement.TheVariants.{DropPool}
use Rattle.rm_base.proofs.Names.{same_name-eq}
use Rattle.rm_base.specs.declared.refusal.Refusal.{Refusal}
use Rattle.rm_base.specs.declared.refusal.Refusal.TheVariants as refusal
use Rattle.rm_base.specs.declared.reply.End.{End}
use Rattle.rm_base.specs.declared.reply.Reply.{Reply}
use Rattle.rm_base.specs.declared.reply.Reply.TheVariants as reply
use Rattle.rm_rules.specs.declared.answer.Answer.{Answer}
use Rattle.rm_rules.specs.declared.state.Phase.{Phase}
use Rattle.rm_rules.specs.declared.state.Phase.TheVariants as phase
use Rattle.rm_rules.specs.declared.state.Session.{Session}
use Rattle.rm_rules.specs.declared.state.Waiter.{Waiter}
use Rattle.rm_rules.specs.declared.state.Runner.{Runner}
use Rattle.rm_rules.specs.Definitions.{pool_row}
use Rattle.rm_rules.specs.Ask.{cap}
use Rattle.rm_rules.specs.State.{State, session_called, changed_first, without, without_runner, session_pool, is_running, runner_of, waiter_of}
use Rattle.rm_rules.specs.Holdings.{holdings}
use Rattle.rm_rules.specs.Accounting.{used}
use Rattle.rm_rules.specs.DropPool.{waits_in, as_generals, runner_beside, goes_before, dropped}
use Rattle.rm_rules.specs.Moving.{takes, moved, leaving_for, requeued, stopping, moved_on, asked_to_leave, gave_way, asked_to_stop}
use Rattle.rm_rules.specs.Admission.{started, admitted, first_entitled}
use Rattle.rm_rules.specs.Settle.{settled}
use Rattle.rm_rules.specs.Change.{Change, grant_of, new_waiter, within_moments, defined, opened, submitted, collected, withdrawn, finished, closed}
use Rattle.rm_rules.specs.Answers.{told, told_in_phase, told_running, told_waiting, reply_of}
use Rattle.rm_rules.specs.Step.{entered, moved_to, has_due, found_at, attempted, step}
use Rattle.rm_rules.specs.Healthy.{AreNumbered, IsHealthy}
use Rattle.rm_rules.specs.Grants.{runner_called, waiter_called, grant_called, query_of, released, moved_on_to, is_refused, freeing, freed_by, moving_in, without_freed, with_moved, still_running, GoesOn, Stays, Moves, Leaves, Stops, GoOn, Nobody, Next, WasSubmitted, GaveWay, HasWaited, IsAdmitted, KeepsGrants, Dropped, WasDropped}
use Rattle.rm_rules.proofs.Taken.{found_passes, found_counted, found_single, counted_among, count_without, or_right_false}
use Rattle.rm_rules.proofs.Found.{found-behind, found-front, found-push, found-split, found-other, gone-other, find-beside, find-put, without-unfound}
use Rattle.rm_rules.proofs.Queue.{IsAmong, further, found_among}
use Rattle.rm_rules.proofs.SettledLaws.{none_without}
use Rattle.rm_rules.proofs.Settling.{entitled-among, due-keeps, settled-keeps, rest-settled}
use Rattle.rm_rules.proofs.Within.{moved-within-cap, stays-within, within-settled}
use Rattle.rm_rules.proofs.Verdicts.{IsCheckReply, says_go, says_way, says_end, says_stop}
use Rattle.rm_rules.proofs.Changing.{IsTried, stays, changes, IsQuiet, refuses, repeats, caps_again, judges, stops_again, tells, IsChange, defines, drops, opens, chooses, caps, submits, collects, moves_on, asks, gives_way, finishes, withdraws, stops, closes, choice_made, cap_made, session_of-is, session_of-found, tried-is, rest-tried}
use Rattle.rm_rules.proofs.Phases.{phased, called-with_same, phase_of-found}
use Rattle.rm_rules.proofs.Keeping.{runner_found}
use Rattle.rm_rules.proofs.Unsettled.{unsettled-changed}
use Rattle.rm_rules.proofs.Answering.{beside-answered}
use Rattle.rm_rules.proofs.Refusing.{told-settled}
use Rattle.rm_rules.proofs.Stepping.{found-facts, outcome-turn}

-- what is left of a list is of the list
first-or : (w x : Waiter) (ws front rest : List Waiter) → x ∷ ws ≡ front ++ w ∷ rest → (x ≡ w) ⊎ IsAmong w ws
first-or w x ws [] rest split = let same : x ≡ w = cc in inl same
first-or w x ws (y ∷ front) rest split = let tail : ws ≡ front ++ w ∷ rest = cc in inr (record { front = front; rest = rest; split = tail })

left-turn : (test : Waiter → Bool) (w x : Waiter) (ws : List Waiter) (b : Bool) → (IsAmong w (without test ws) → IsAmong w ws)
    → IsAmong w (cond b ws (x ∷ without test ws)) → IsAmong w (x ∷ ws)
left-turn test w x ws true rest among = further w x ws among
left-turn test w x ws false rest among = turn (first-or w x (without test ws) among.front among.rest among.split) where
  turn : (x ≡ w) ⊎ IsAmong w (without test ws) → IsAmong w (x ∷ ws)
  turn (inl same) = record { front = []; rest = ws; split = ap (λ z. z ∷ ws) same }
  turn (inr more) = further w x ws (rest more)

among-without : (test : Waiter → Bool) (w : Waiter) (ws : List Waiter) → IsAmong w (without test ws) → IsAmong w ws
among-without test w [] among = among
among-without test w (x ∷ ws) among = left-turn test w x ws (test x) (among-without test w ws) among

among-push : (w y : Waiter) (ws : List Waiter) → IsAmong w (ws ++ y ∷ []) → IsAmong w ws ⊎ (w ≡ y)
among-push w y [] among = turn (first-or w y [] among.front among.rest among.split) where
  turn : (y ≡ w) ⊎ IsAmong w [] → IsAmong w [] ⊎ (w ≡ y)
  turn (inl same) = inr (sym same)
  turn (inr none) = inl none
among-push w y (x ∷ ws) among = push-turn w x y ws (first-or w x (ws ++ y ∷ []) among.front among.rest among.split) (among-push w y ws) where
  push-turn : (w x y : Waiter) (ws : List Waiter) → (x ≡ w) ⊎ IsAmong w (ws ++ y ∷ []) → (IsAmong w (ws ++ y ∷ []) → IsAmong w ws ⊎ (w ≡ y)) → IsAmong w (x ∷ ws) ⊎ (w ≡ y)
  push-turn w x y ws (inl same) rest = inl (record { front = []; rest = ws; split = ap (λ z. z ∷ ws) same })
  push-turn w x y ws (inr more) rest = behind (rest more) where
    behind : IsAmong w ws ⊎ (w ≡ y) → IsAmong w (x ∷ ws) ⊎ (w ≡ y)
    behind (inl here) = inl (further w x ws here)
    behind (inr new) = inr new

-- what is of lists that are put together, of those that pass a test, and of what a list is mapped to
parts-turn : (w x : Waiter) (xs ys : List Waiter) → (x ≡ w) ⊎ IsAmong w (xs ++ ys) → (IsAmong w (xs ++ ys) → IsAmong w xs ⊎ IsAmong w ys) → IsAmong w (x ∷ xs) ⊎ IsAmong w ys
parts-turn w x xs ys (inl same) rest = inl (record { front = []; rest = xs; split = ap (λ z. z ∷ xs) same })
parts-turn w x xs ys (inr more) rest = behind (rest more) where
  behind : IsAmong w xs ⊎ IsAmong w ys → IsAmong w (x ∷ xs) ⊎ IsAmong w ys
  behind (inl here) = inl (further w x xs here)
  behind (inr there) = inr there

among-parts : (w : Waiter) (xs ys : List Waiter) → IsAmong w (xs ++ ys) → IsAmong w xs ⊎ IsAmong w ys
among-parts w [] ys among = inr among
among-parts w (x ∷ xs) ys among = parts-turn w x xs ys (first-or w x (xs ++ ys) among.front among.rest among.split) (among-parts w xs ys)

nobody-turn : (w : Waiter) (front rest : List Waiter) → [] ≡ front ++ w ∷ rest → ⊥
nobody-turn w [] rest e = let none : [] ≡ w ∷ rest = e in cc
nobody-turn w (x ∷ front) rest e = let none : [] ≡ x ∷ (front ++ w ∷ rest) = e in cc

passing-turn : (test : Waiter → Bool) (w x : Waiter) (ws : List Waiter) (b : Bool) → test x ≡ b → (IsAmong w (filter test ws) → IsAmong w ws × (test w ≡ true))
    → IsAmong w (cond b (x ∷ filter test ws) (filter test ws)) → IsAmong w (x ∷ ws) × (test w ≡ true)
passing-turn test w x ws true is rest among = turn (first-or w x (filter test ws) among.front among.rest among.split) where
  turn : (x ≡ w) ⊎ IsAmong w (filter test ws) → IsAmong w (x ∷ ws) × (test w ≡ true)
  turn (inl same) = (record { front = []; rest = ws; split = ap (λ z. z ∷ ws) same }, ap test (sym same) ∙ is)
  turn (inr more) = let there = rest more in (further w x ws there.0, there.1)
passing-turn test w x ws false is rest among = let there = rest among in (further w x ws there.0, there.1)

among-passing : (test : Waiter → Bool) (w : Waiter) (ws : List Waiter) → IsAmong w (filter test ws) → IsAmong w ws × (test w ≡ true)
among-passing test w [] among = absurd (nobody-turn w among.front among.rest among.split)
among-passing test w (x ∷ ws) among = passing-turn test w x ws (test x) refl (among-passing test w ws) among

mapped-turn : (act : Waiter → Waiter) (w x : Waiter) (ws : List Waiter) → (act x ≡ w) ⊎ IsAmong w (map act ws)
    → (IsAmong w (map act ws) → (y : Waiter) × (IsAmong y ws × (w ≡ act y))) → (y : Waiter) × (IsAmong y (x ∷ ws) × (w ≡ act y))
mapped-turn act w x ws (inl same) rest = (x, (record { front = []; rest = ws; split = refl }, sym same))
mapped-turn act w x ws (inr more) rest = let there = rest more in (there.0, (further there.0 x ws there.1.0, there.1.1))

among-mapped : (act : Waiter → Waiter) (w : Waiter) (ws : List Waiter) → IsAmong w (map act ws) → (y : Waiter) × (IsAmong y ws × (w ≡ act y))
among-mapped act w [] among = absurd (nobody-turn w among.front among.rest among.split)
among-mapped act w (x ∷ ws) among = mapped-turn act w x ws (first-or w (act x) (map act ws) among.front among.rest among.split) (among-mapped act w ws)

-- a query that waits where a pool was dropped waited, in the pool or in another
abbrev WaitedBeside : List Waiter → Name → Waiter → Type 0
WaitedBeside waiting pool w = IsAmong w waiting ⊎ ((y : Waiter) × (IsAmong y waiting × ((waits_in pool y ≡ true) × (w ≡ as_generals y))))

own-beside : (waiting : List Waiter) (pool : Name) (w : Waiter) → IsAmong w (map as_generals (filter (waits_in pool) waiting)) → WaitedBeside waiting pool w
own-beside waiting pool w among =
    let from = among-mapped as_generals w (filter (waits_in pool) waiting) among in
    let there = among-passing (waits_in pool) from.0 waiting from.1.0 in
    inr (from.0, (there.0, (there.1, from.1.1)))

other-beside : (waiting : List Waiter) (pool : Name) (w : Waiter) → IsAmong w (filter (λ y. not (waits_in pool y)) waiting) → WaitedBeside waiting pool w
other-beside waiting pool w among = inl (among-passing (λ y. not (waits_in pool y)) w waiting among).0

either-beside : (waiting : List Waiter) (pool : Name) (w : Waiter) (front : Bool)
    → (let those = map as_generals (filter (waits_in pool) waiting) in let others = filter (λ y. not (waits_in pool y)) waiting in
    IsAmong w (cond front (those ++ others) (others ++ those)) → WaitedBeside waiting pool w)
either-beside waiting pool w true among =
    turn (among-parts w (map as_generals (filter (waits_in pool) waiting)) (filter (λ y. not (waits_in pool y)) waiting) among) where
      turn : IsAmong w (map as_generals (filter (waits_in pool) waiting)) ⊎ IsAmong w (filter (λ y. not (waits_in pool y)) waiting) → WaitedBeside waiting pool w
      turn (inl own) = own-beside waiting pool w own
      turn (inr other) = other-beside waiting pool w other
either-beside waiting pool w false among =
    turn (among-parts w (filter (λ y. not (waits_in pool y)) waiting) (map as_generals (filter (waits_in pool) waiting)) among) where
      turn : IsAmong w (filter (λ y. not (waits_in pool y)) waiting) ⊎ IsAmong w (map as_generals (filter (waits_in pool) waiting)) → WaitedBeside waiting pool w
      turn (inl other) = other-beside waiting pool w other
      turn (inr own) = own-beside waiting pool w own

-- a waiting query is what its number finds
number-counted : (w : Waiter) (ws : List Waiter) → IsAmong w ws → 1 ≤ count_by (λ x. eqb x.query w.query) ws
number-counted w ws among =
    subst (λ (l : List Waiter). 1 ≤ count_by (λ x. eqb x.query w.query) l) (sym among.split)
    (counted_among (λ x. eqb x.query w.query) among.front among.rest w (eq-eqb w.query w.query refl))

number-found : (last : ℕ) (waiting : List Waiter) (running : List Runner) (w : Waiter) → AreNumbered last waiting running → IsAmong w waiting
    → waiter_called waiting w.query ≡ Some w
number-found last waiting running w h among =
    let found = found_counted (λ (x : Waiter). eqb x.query w.query) waiting (number-counted w waiting among) in
    let few : count_by (λ (x : Waiter). eqb x.query w.query) waiting ≤ 1 = omega (arith, h.once w.query) in
    let same : w ≡ found.0 =
    found_single (λ (x : Waiter). eqb x.query w.query) among.front among.rest w found.0 (eq-eqb w.query w.query refl)
    (subst (λ (l : List Waiter). count_by (λ x. eqb x.query w.query) l ≤ 1) among.split few)
    (subst (λ (l : List Waiter). find (λ x. eqb x.query w.query) l ≡ Some found.0) among.split found.1) in
    found.1 ∙ ap (λ z. Some z) (sym same)

-- a query that began to run was a waiting one
pub record Came (c : State) (r : Runner) : Type 0 where
  pub waiter : Waiter
  pub among : IsAmong waiter c.waiting
  pub is : r ≡ started c waiter

-- what settling makes of the running and the waiting queries
pub record HasCome (c t : State) : Type 0 where
  pub definitions : t.definitions ≡ c.definitions
  pub clock : t.clock ≡ c.clock
  pub waits : (w : Waiter) → IsAmong w t.waiting → IsAmong w c.waiting
  pub more : List Runner
  pub split : t.running ≡ c.running ++ more
  pub came : (query : ℕ) (r : Runner) → runner_called more query ≡ Some r → Came c r

came-admitted : (c t : State) (w : Waiter) → first_entitled t ≡ Some w → HasCome c t → HasCome c (admitted t w)
came-admitted c t w picked h = record {
  definitions = h.definitions;
  clock = h.clock;
  waits = λ y among. h.waits y (among-without (λ x. eqb x.session w.session) y t.waiting among);
  more = h.more ++ started t w ∷ [];
  split = ap (λ l. l ++ started t w ∷ []) h.split ∙ append_assoc c.running h.more (started t w ∷ []);
  came = λ query r found. turn query r (found-push (λ (x : Runner). eqb x.query query) r (started t w) h.more found);
} where
  turn : (query : ℕ) (r : Runner) → (runner_called h.more query ≡ Some r) ⊎ (r ≡ started t w) → Came c r
  turn query r (inl before) = h.came query r before
  turn query r (inr new) = record {
    waiter = w;
    among = h.waits w (entitled-among t w picked);
    is =
        new ∙ ap (λ d. let u : State = record t { definitions = d } in started u w) h.definitions
        ∙ ap (λ k. let u : State = record t { definitions = c.definitions; clock = k } in started u w) h.clock;
  }

pub come-settled : (c : State) → HasCome c (settled c)
come-settled c =
    settled-keeps (HasCome c)
    (λ t w end among h. record {
      definitions = h.definitions;
      clock = h.clock;
      waits = λ y left. h.waits y (among-without (λ x. eqb x.session w.session) y t.waiting left);
      more = h.more;
      split = h.split;
      came = h.came;
    })
    (λ t h. record { definitions = h.definitions; clock = h.clock; waits = h.waits; more = h.more; split = h.split; came = h.came })
    (λ t w picked h. came-admitted c t w picked h)
    c
    (record { definitions = refl; clock = refl; waits = λ w among. among; more = []; split = sym (append-nil c.running); came = λ query r found. absurd (let none : None ≡ Some r = found in cc) })

-- what goes on keeps its number, its session and its grant
pub record IsSameRun (r x : Runner) : Type 0 where
  pub query : x.query ≡ r.query
  pub session : x.session ≡ r.session
  pub grant : x.grant ≡ r.grant

pub goes-same : (event : Event) (answer : Reply) (moment : ℕ) (r x : Runner) → GoesOn event answer moment r x → IsSameRun r x
goes-same event answer moment r _ Stays = record { query = refl; session = refl; grant = refl }
goes-same event answer moment r _ (Moves pool is says) = record { query = refl; session = refl; grant = refl }
goes-same event answer moment r _ (Leaves pool is says) = record { query = refl; session = refl; grant = refl }
goes-same event answer moment r _ (Stops by is says) = record { query = refl; session = refl; grant = refl }
goes-same event answer moment r _ (Dropped pool is says) = record { query = refl; session = refl; grant = refl }

-- all stay, the last goes on, or the first that passes a test
go-all : (event : Event) (answer : Reply) (moment : ℕ) (rs : List Runner) → GoOn event answer moment rs rs
go-all event answer moment [] = Nobody
go-all event answer moment (r ∷ rs) = Next r r rs rs Stays (go-all event answer moment rs)

go-last : (event : Event) (answer : Reply) (moment : ℕ) (rs : List Runner) (r x : Runner) → GoesOn event answer moment r x
    → GoOn event answer moment (rs ++ r ∷ []) (rs ++ x ∷ [])
go-last event answer moment [] r x goes = Next r x [] [] goes Nobody
go-last event answer moment (y ∷ rs) r x goes = Next y y (rs ++ r ∷ []) (rs ++ x ∷ []) Stays (go-last event answer moment rs r x goes)

first-turn : (event : Event) (answer : Reply) (moment : ℕ) (test : Runner → Bool) (act : Runner → Runner) (r : Runner) (rs : List Runner) (b : Bool)
    → (b ≡ true → GoesOn event answer moment r (act r)) → GoOn event answer moment rs (changed_first test act rs)
    → GoOn event answer moment (r ∷ rs) (cond b (act r ∷ rs) (r ∷ changed_first test act rs))
first-turn event answer moment test act r rs true goes more = Next r (act r) rs rs (goes refl) (go-all event answer moment rs)
first-turn event answer moment test act r rs false goes more = Next r r rs (changed_first test act rs) Stays more

go-first : (event : Event) (answer : Reply) (moment : ℕ) (test : Runner → Bool) (act : Runner → Runner) (rs : List Runner)
    → ((r : Runner) → test r ≡ true → GoesOn event answer moment r (act r)) → GoOn event answer moment rs (changed_first test act rs)
go-first event answer moment test act [] goes = Nobody
go-first event answer moment test act (r ∷ rs) goes =
    first-turn event answer moment test act r rs (test r) (goes r) (go-first event answer moment test act rs goes)

go-dropped : (pool : Name) (moment : ℕ) (rs : List Runner) → GoOn (Define (DropPool pool)) reply.Defined moment rs (map (runner_beside pool) rs)
go-dropped pool moment [] = Nobody
go-dropped pool moment (r ∷ rs) = Next r (runner_beside pool r) rs (map (runner_beside pool) rs) (Dropped pool refl refl) (go-dropped pool moment rs)

-- so each is found by its number as it goes on, and no other is
found-turn : (event : Event) (answer : Reply) (moment query : ℕ) (r y x : Runner) (rs xs : List Runner) (b : Bool) → eqb y.query query ≡ b → GoesOn event answer moment y x
    → cond b (Some y) (runner_called rs query) ≡ Some r
    → (runner_called rs query ≡ Some r → (z : Runner) × (runner_called xs query ≡ Some z) × GoesOn event answer moment r z)
    → (z : Runner) × (runner_called (x ∷ xs) query ≡ Some z) × GoesOn event answer moment r z
found-turn event answer moment query r y x rs xs true e goes found more =
    let same : y ≡ r = cc in
    let here : eqb x.query query ≡ true = ap (λ k. eqb k query) (goes-same event answer moment y x goes).query ∙ e in
    (x, ap (λ b. cond b (Some x) (runner_called xs query)) here, subst (λ z. GoesOn event answer moment z x) same goes)
found-turn event answer moment query r y x rs xs false e goes found more =
    let there = more found in
    let further : eqb x.query query ≡ false = ap (λ k. eqb k query) (goes-same event answer moment y x goes).query ∙ e in
    (there.0, ap (λ b. cond b (Some x) (runner_called xs query)) further ∙ there.1, there.2)

go-found : (event : Event) (answer : Reply) (moment query : ℕ) (r : Runner) (rs xs : List Runner) → GoOn event answer moment rs xs → runner_called rs query ≡ Some r
    → (z : Runner) × (runner_called xs query ≡ Some z) × GoesOn event answer moment r z
go-found event answer moment query r _ _ Nobody found = absurd (let none : None ≡ Some r = found in cc)
go-found event answer moment query r _ _ (Next y x rs xs goes more) found =
    found-turn event answer moment query r y x rs xs (eqb y.query query) refl goes found (go-found event answer moment query r rs xs more)

absent-turn : (query : ℕ) (y x : Runner) (rs xs : List Runner) (b : Bool) → eqb x.query query ≡ b → cond b (Some y) (runner_called rs query) ≡ None
    → (runner_called rs query ≡ None → runner_called xs query ≡ None) → cond b (Some x) (runner_called xs query) ≡ None
absent-turn query y x rs xs true e none more = absurd (cc)
absent-turn query y x rs xs false e none more = more none

go-none : (event : Event) (answer : Reply) (moment query : ℕ) (rs xs : List Runner) → GoOn event answer moment rs xs → runner_called rs query ≡ None
    → runner_called xs query ≡ None
go-none event answer moment query _ _ Nobody none = none
go-none event answer moment query _ _ (Next y x rs xs goes more) none =
    let number = (goes-same event answer moment y x goes).query in
    absent-turn query y x rs xs (eqb x.query query) refl (ap (λ k. cond (eqb k query) (Some y) (runner_called rs query)) number ∙ none)
    (go-none event answer moment query rs xs more)

-- what a session's running query holds
pub grant_of-found : (running : List Runner) (n : ℕ) (r : Runner) → runner_of running n ≡ Some r → grant_of running n ≡ r.grant
grant_of-found running n r found = ap (λ (o : Option Runner). elim o [ Some y ↦ y.grant | None ↦ 0 ]) found

-- a running query is what its number finds
pub runner-number : (s : State) (n : ℕ) (r : Runner) → runner_of s.running n ≡ Some r → AreNumbered s.last_query s.waiting s.running → runner_called s.running r.query ≡ Some r
runner-number s n r found numbered =
    found-other (λ (x : Runner). eqb x.session n) (λ (x : Runner). eqb x.query r.query) r s.running found (eq-eqb r.query r.query refl) (omega (arith, numbered.once r.query))

-- and no query both waits and runs
runs-or-waits : (s : State) (query : ℕ) (r : Runner) (w : Waiter) → AreNumbered s.last_query s.waiting s.running → runner_called s.running query ≡ Some r → IsAmong w s.waiting
    → w.query ≢ query
runs-or-waits s query r w numbered found among same =
    let waits : 1 ≤ count_by (λ (x : Waiter). eqb x.query query) s.waiting =
    subst (λ k. 1 ≤ count_by (λ (x : Waiter). eqb x.query k) s.waiting) same (number-counted w s.waiting among) in
    let split = found-split (λ (x : Runner). eqb x.query query) r s.running found in
    let runs : 1 ≤ count_by (λ (x : Runner). eqb x.query query) s.running =
    subst (λ (l : List Runner). 1 ≤ count_by (λ x. eqb x.query query) l) (sym split.1.1)
    (counted_among (λ (x : Runner). eqb x.query query) split.0 split.1.0 r (found_passes (λ (x : Runner). eqb x.query query) r s.running found)) in
    omega (arith, waits, runs, numbered.once query)

-- the number of a session's running query
query_of-found : (s : State) (n : ℕ) (o : Option Runner) → runner_of s.running n ≡ o → query_of s n ≡ option_map (λ (r : Runner). r.query) o
query_of-found s n o found = ap (option_map (λ (r : Runner). r.query)) found

-- the session of a running query that is found
pub session-found : (running : List Runner) (n : ℕ) (r : Runner) → runner_of running n ≡ Some r → r.session ≡ n
session-found running n r found = eqb-true r.session n (found_passes (λ (x : Runner). eqb x.session n) r running found)

-- where a query is put last, each is found as before
last-called : (o : Option ℕ) (query : ℕ) (running : List Runner) → count_by (λ (r : Runner). eqb r.query query) running ≤ 1
    → runner_called (with_moved o running) query ≡ runner_called running query
last-called None query running few = refl
last-called (Some n) query running few = turn (runner_of running n) refl where
  turn : (o : Option Runner) → runner_of running n ≡ o → runner_called (without_runner n running ++ elim o [ Some r ↦ r ∷ [] | None ↦ [] ]) query ≡ runner_called running query
  turn None absent = ap (λ l. runner_called l query) (append-nil (without_runner n running) ∙ without-unfound (λ (r : Runner). eqb r.session n) running absent)
  turn (Some r) found = find-put (λ (y : Runner). eqb y.session n) (λ y. eqb y.query query) r running found few

-- where one is freed, the others are found as before
freed-kept : (s : State) (o : Option ℕ) (query : ℕ) → option_and_then (query_of s) o ≢ Some query → runner_called (without_freed o s.running) query ≡ runner_called s.running query
freed-kept s None query other = refl
freed-kept s (Some n) query other = turn (runner_of s.running n) refl where
  apart : (r : Runner) → runner_of s.running n ≡ Some r → (b : Bool) → eqb r.query query ≡ b → b ≡ false
  apart r found true same = absurd (other (query_of-found s n (Some r) found ∙ ap (λ k. Some k) (eqb-true r.query query same)))
  apart r found false same = refl

  turn : (o : Option Runner) → runner_of s.running n ≡ o → runner_called (without_runner n s.running) query ≡ runner_called s.running query
  turn None absent = ap (λ l. runner_called l query) (without-unfound (λ (r : Runner). eqb r.session n) s.running absent)
  turn (Some r) found =
      find-beside (λ (y : Runner). eqb y.session n) (λ y. eqb y.query query) r s.running found (apart r found (eqb r.query query) refl)

-- and it is found no more, nor is one that was not found
freed-gone : (s : State) (o : Option ℕ) (query : ℕ) → count_by (λ (r : Runner). eqb r.query query) s.running ≤ 1
    → (runner_called s.running query ≡ None) ⊎ (option_and_then (query_of s) o ≡ Some query) → runner_called (without_freed o s.running) query ≡ None
freed-gone s None query few (inl none) = none
freed-gone s None query few (inr freed) = absurd (cc)
freed-gone s (Some n) query few (inl none) = none_without (λ (r : Runner). eqb r.query query) (λ r. eqb r.session n) s.running none
freed-gone s (Some n) query few (inr freed) = turn (runner_of s.running n) refl where
  turn : (o : Option Runner) → runner_of s.running n ≡ o → runner_called (without_runner n s.running) query ≡ None
  turn None absent = absurd (let no : None ≡ Some query = sym (query_of-found s n None absent) ∙ freed in cc)
  turn (Some r) found =
      let same : Some r.query ≡ Some query = sym (query_of-found s n (Some r) found) ∙ freed in
      gone-other (λ (y : Runner). eqb y.session n) (λ y. eqb y.query query) r s.running found (eq-eqb r.query query (cc)) few

few-left : (s : State) (o : Option ℕ) (query : ℕ) → AreNumbered s.last_query s.waiting s.running → count_by (λ (r : Runner). eqb r.query query) (without_freed o s.running) ≤ 1
few-left s None query numbered = omega (arith, numbered.once query)
few-left s (Some n) query numbered =
    omega (arith, numbered.once query, count_without (λ (r : Runner). eqb r.query query) (λ (r : Runner). eqb r.session n) s.running)

-- so those that an event leaves are all but the one that it frees
still-kept : (s : State) (event : Event) (answer : Reply) (query : ℕ) → AreNumbered s.last_query s.waiting s.running → freed_by s event answer ≢ Some query
    → runner_called (still_running s event answer) query ≡ runner_called s.running query
still-kept s event answer query numbered other =
    last-called (moving_in event answer) query (without_freed (freeing event answer) s.running) (few-left s (freeing event answer) query numbered)
    ∙ freed-kept s (freeing event answer) query other

still-gone : (s : State) (event : Event) (answer : Reply) (query : ℕ) → AreNumbered s.last_query s.waiting s.running
    → (runner_called s.running query ≡ None) ⊎ (freed_by s event answer ≡ Some query) → runner_called (still_running s event answer) query ≡ None
still-gone s event answer query numbered gone =
    last-called (moving_in event answer) query (without_freed (freeing event answer) s.running) (few-left s (freeing event answer) query numbered)
    ∙ freed-gone s (freeing event answer) query (omega (arith, numbered.once query)) gone

-- an answer with which no grant ends and no query moves on
pub record IsPlain (event : Event) (answer : Reply) : Type 0 where
  pub frees : freeing event answer ≡ None
  pub moves_in : moving_in event answer ≡ None
  pub moves_to : moved_on_to answer ≡ None

plain-refused : (event : Event) (r : Refusal) → IsPlain event (reply.Refused r)
plain-refused (Define statement) r = record { frees = refl; moves_in = refl; moves_to = refl }
plain-refused (Open user) r = record { frees = refl; moves_in = refl; moves_to = refl }
plain-refused (SetPool session pool) r = record { frees = refl; moves_in = refl; moves_to = refl }
plain-refused (SetCap session cap) r = record { frees = refl; moves_in = refl; moves_to = refl }
plain-refused (Submit session floor) r = record { frees = refl; moves_in = refl; moves_to = refl }
plain-refused (Poll session) r = record { frees = refl; moves_in = refl; moves_to = refl }
plain-refused (Check session) r = record { frees = refl; moves_in = refl; moves_to = refl }
plain-refused (GiveWay session) r = record { frees = refl; moves_in = refl; moves_to = refl }
plain-refused (Finish session) r = record { frees = refl; moves_in = refl; moves_to = refl }
plain-refused (Cancel by target) r = record { frees = refl; moves_in = refl; moves_to = refl }
plain-refused (Close session) r = record { frees = refl; moves_in = refl; moves_to = refl }

plain-check : (session : ℕ) (answer : Reply) → IsCheckReply answer → IsPlain (Check session) answer
plain-check session _ says_go = record { frees = refl; moves_in = refl; moves_to = refl }
plain-check session _ (says_way pool) = record { frees = refl; moves_in = refl; moves_to = refl }
plain-check session _ (says_end which ran cap) = record { frees = refl; moves_in = refl; moves_to = refl }
plain-check session _ says_stop = record { frees = refl; moves_in = refl; moves_to = refl }

-- what a session can be told of its query
data IsTold : Reply → Type 0 where
  says_admitted : (query : ℕ) (pool : Name) (grant own borrowed : ℕ) → IsTold (reply.Admitted query pool grant own borrowed)
  says_waiting : (query place : ℕ) → IsTold (reply.Waiting query place)
  says_ended : (end : End) → IsTold (reply.Ended end)
  says_refused : (r : Refusal) → IsTold (reply.Refused r)

running-told : (s : State) (n : ℕ) (o : Option Runner) → IsTold (told_running s n o)
running-told s n None = says_refused refusal.NotLive
running-told s n (Some r) = says_admitted _ _ _ _ _

waiting-told : (s : State) (n : ℕ) (o : Option Waiter) → IsTold (told_waiting s n o)
waiting-told s n None = says_refused refusal.NotLive
waiting-told s n (Some w) = says_waiting _ _

phase-told : (s : State) (n : ℕ) (p : Phase) → IsTold (told_in_phase s n p)
phase-told s n phase.Idle = says_refused refusal.NotLive
phase-told s n phase.Waiting = waiting-told s n (waiter_of s.waiting n)
phase-told s n phase.Running = running-told s n (runner_of s.running n)
phase-told s n (phase.Ended end) = says_ended end

told-is : (s : State) (n : ℕ) → IsTold (told s n)
told-is s n = turn (session_called s.sessions n) where
  turn : (o : Option Session) → IsTold (elim o [ Some x ↦ told_in_phase s n x.phase | None ↦ reply.Refused refusal.NoSuchSession ])
  turn None = says_refused refusal.NoSuchSession
  turn (Some x) = phase-told s n x.phase

-- that is no grant given back and no move, and where it is no refusal, the event is not refused
told-keeps : (answer : Reply) → IsTold answer → (released answer ≡ None) × (moved_on_to answer ≡ None)
told-keeps _ (says_admitted query pool grant own borrowed) = (refl, refl)
told-keeps _ (says_waiting query place) = (refl, refl)
told-keeps _ (says_ended end) = (refl, refl)
told-keeps _ (says_refused r) = (refl, refl)

told-goes : (answer : Reply) → IsTold answer → ((r : Refusal) → answer ≡ reply.Refused r → ⊥) → is_refused answer ≡ false
told-goes _ (says_admitted query pool grant own borrowed) not = refl
told-goes _ (says_waiting query place) not = refl
told-goes _ (says_ended end) not = refl
told-goes _ (says_refused r) not = absurd (not r refl)

pub plain-quiet : (s u : State) (seat : ℕ) (event : Event) (answer : Answer) → IsQuiet s seat event answer → IsPlain event (reply_of u answer)
plain-quiet s u seat _ _ (refuses event r is) = plain-refused event r
plain-quiet s u seat _ _ (repeats session pool x found same) = record { frees = refl; moves_in = refl; moves_to = refl }
plain-quiet s u seat _ _ (caps_again session cap x found same) = record { frees = refl; moves_in = refl; moves_to = refl }
plain-quiet s u seat _ _ (judges session x r answer is says) = plain-check session answer says
plain-quiet s u seat _ _ (stops_again by target x y r may runs already) = record { frees = refl; moves_in = refl; moves_to = refl }
plain-quiet s u seat _ _ (tells session x found active) = record { frees = refl; moves_in = refl; moves_to = (told-keeps (told u x.number) (told-is u x.number)).1 }

plain-running : (s : State) (event : Event) (answer : Reply) → IsPlain event answer → still_running s event answer ≡ s.running
plain-running s event answer plain =
    ap (λ o. with_moved (moving_in event answer) (without_freed o s.running)) plain.frees ∙ ap (λ o. with_moved o s.running) plain.moves_in

plain-frees : (s : State) (event : Event) (answer : Reply) (query : ℕ) → IsPlain event answer → freed_by s event answer ≢ Some query
plain-frees s event answer query plain is = let no : None ≡ Some query = sym (ap (option_and_then (query_of s)) plain.frees) ∙ is in cc

-- a query that waits after a change waited before it, or the event submitted it, let it give way, or dropped its pool
abbrev Waits : State → Event → ℕ → Waiter → Type 0
Waits s event moment w = IsAmong w s.waiting ⊎ (WasSubmitted s event w ⊎ (GaveWay s event moment w ⊎ WasDropped s event w))

-- What a change does to the running and the waiting queries. One whose grant it gives back waits no more.
record Turned (s : State) (event : Event) (answer : Reply) (moment : ℕ) (c : State) : Type 0 where
  pub order : GoOn event answer moment (still_running s event answer) c.running
  pub whole : (session : ℕ) → freeing event answer ≡ Some session → (query : ℕ) × (freed_by s event answer ≡ Some query)
  pub freed : (query grant : ℕ) → freed_by s event answer ≡ Some query → released answer ≡ Some grant
      → (grant_called s.running query ≡ Some grant) × ((w : Waiter) → IsAmong w c.waiting → w.query ≢ query)
  pub waits : (w : Waiter) → IsAmong w c.waiting → Waits s event moment w
  pub moved : (pool : Name) → moved_on_to answer ≡ Some pool → used pool (holdings c.running) ≤ cap c.definitions (pool_row c.definitions pool)

-- where the running queries stay as they are, each of them or all but one that is changed where it stands
turned-goes : (s c : State) (event : Event) (answer : Reply) → IsPlain event answer → GoOn event answer s.clock s.running c.running
    → ((w : Waiter) → IsAmong w c.waiting → Waits s event s.clock w) → Turned s event answer s.clock c
turned-goes s c event answer plain order waits = record {
  order = subst (λ l. GoOn event answer s.clock l c.running) (sym (plain-running s event answer plain)) order;
  whole = λ session is. absurd (let no : None ≡ Some session = sym plain.frees ∙ is in cc);
  freed = λ query grant is gives. absurd (plain-frees s event answer query plain is);
  waits = waits;
  moved = λ pool is. absurd (let no : None ≡ Some pool = sym plain.moves_to ∙ is in cc);
}

turned-plain : (s c : State) (event : Event) (answer : Reply) → IsPlain event answer → c.running ≡ s.running → ((w : Waiter) → IsAmong w c.waiting → Waits s event s.clock w)
    → Turned s event answer s.clock c
turned-plain s c event answer plain running waits =
    turned-goes s c event answer plain (subst (GoOn event answer s.clock s.running) (sym running) (go-all event answer s.clock s.running)) waits

-- where a query is submitted
turned-submitted : (s : State) (session floor : ℕ) (x : Session) (pool : Name) (answer : Reply) → x.number ≡ session → IsPlain (Submit session floor) answer
    → Turned s (Submit session floor) answer s.clock (submitted s x pool floor).state
turned-submitted s session floor x pool answer number plain =
    turned-plain s (submitted s x pool floor).state (Submit session floor) answer plain refl (λ w among. turn w (among-push w (new_waiter s x pool floor) s.waiting among)) where
      new : WasSubmitted s (Submit session floor) (new_waiter s x pool floor)
      new = (ap (λ n. Submit n floor) (sym number), refl)

      turn : (w : Waiter) → IsAmong w s.waiting ⊎ (w ≡ new_waiter s x pool floor) → Waits s (Submit session floor) s.clock w
      turn w (inl before) = inl before
      turn w (inr is) = inr (inl (subst (WasSubmitted s (Submit session floor)) (sym is) new))

-- where a session's running query is finished
turned-finished : (s : State) (session : ℕ) (x : Session) (r : Runner) → x.number ≡ session → runner_of s.running session ≡ Some r → AreNumbered s.last_query s.waiting s.running
    → Turned s (Finish session) (reply.Released (grant_of s.running x.number)) s.clock (finished s x).state
turned-finished s session x r number runs numbered =
    let event = Finish session in
    let answer : Reply = reply.Released (grant_of s.running x.number) in
    let freed : query_of s session ≡ Some r.query = query_of-found s session (Some r) runs in
    let grant : grant_of s.running x.number ≡ r.grant = ap (grant_of s.running) number ∙ grant_of-found s.running session r runs in
    record {
      order = subst (λ k. GoOn event answer s.clock (without_runner session s.running) (without_runner k s.running)) (sym number) (go-all event answer s.clock (without_runner session s.running));
      whole = λ n is. (r.query, freed);
      freed = λ query given is gives.
          let same : r.query ≡ query = let e : Some r.query ≡ Some query = sym freed ∙ is in cc in
          let all : r.grant ≡ given = sym grant ∙ (let e : Some (grant_of s.running x.number) ≡ Some given = gives in cc) in
          let called : runner_called s.running query ≡ Some r = ap (runner_called s.running) (sym same) ∙ runner-number s session r runs numbered in (
            ap (option_map (λ (y : Runner). y.grant)) called ∙ ap (λ g. Some g) all,
            λ w among. runs-or-waits s query r w numbered called among,
          );
      waits = λ w among. inl among;
      moved = λ pool is. absurd (cc);
    }

-- where it gives way
turned-gave_way : (s : State) (session : ℕ) (r : Runner) (pool : Name) (answer : Reply) → runner_of s.running session ≡ Some r → r.leaving ≡ Some pool
    → is_refused answer ≡ false → IsTold answer → AreNumbered s.last_query s.waiting s.running → Turned s (GiveWay session) answer s.clock (gave_way s r pool)
turned-gave_way s session r pool answer runs leaves goes told numbered =
    let event = GiveWay session in
    let number : r.session ≡ session = session-found s.running session r runs in
    let frees : freeing event answer ≡ Some session = ap (λ b. cond b None (Some session)) goes in
    let freed : freed_by s event answer ≡ Some r.query = ap (option_and_then (query_of s)) frees ∙ query_of-found s session (Some r) runs in
    let still : without_runner r.session s.running ≡ still_running s event answer =
    ap (λ k. without_runner k s.running) number ∙ ap (λ o. without_freed o s.running) (sym frees) in
    record {
      order = subst (λ l. GoOn event answer s.clock l (without_runner r.session s.running)) still (go-all event answer s.clock (without_runner r.session s.running));
      whole = λ n is. (r.query, freed);
      freed = λ query grant is gives. absurd (let no : None ≡ Some grant = sym (told-keeps answer told).0 ∙ gives in cc);
      waits = λ w among. turn w number (among-push w (requeued s.clock pool r) s.waiting among);
      moved = λ other is. absurd (let no : None ≡ Some other = sym (told-keeps answer told).1 ∙ is in cc);
    } where
      turn : (w : Waiter) → r.session ≡ session → IsAmong w s.waiting ⊎ (w ≡ requeued s.clock pool r) → Waits s (GiveWay session) s.clock w
      turn w number (inl before) = inl before
      turn w number (inr is) = inr (inr (inl (subst (GaveWay s (GiveWay session) s.clock) (sym is) (record {
        runner = r;
        ran = runner-number s session r runs numbered;
        event_is = ap (λ n. GiveWay n) (sym number);
        left = leaves;
        is = refl;
      }))))

-- where it moves on
turned-moved_on : (s : State) (session : ℕ) (r : Runner) (pool : Name) → runner_of s.running session ≡ Some r → takes s r pool ≡ true
    → Turned s (Check session) (reply.MovedOn pool) s.clock (moved_on s r pool)
turned-moved_on s session r pool runs taken =
    let event = Check session in
    let answer : Reply = reply.MovedOn pool in
    let number : r.session ≡ session = session-found s.running session r runs in
    let still : without_runner r.session s.running ++ r ∷ [] ≡ still_running s event answer =
    ap (λ k. without_runner k s.running ++ r ∷ []) number
    ∙ ap (λ (o : Option Runner). without_runner session s.running ++ elim o [ Some y ↦ y ∷ [] | None ↦ [] ]) (sym runs) in
    record {
      order =
          subst (λ l. GoOn event answer s.clock l (moved_on s r pool).running) still
          (go-last event answer s.clock (without_runner r.session s.running) r (moved s.clock pool r) (Moves pool (ap (λ n. Check n) (sym number)) refl));
      whole = λ n is. absurd (cc);
      freed = λ query grant is gives. absurd (cc);
      waits = λ w among. inl among;
      moved = λ to is.
          let same : pool ≡ to = cc in
          subst (λ p. used p (holdings (moved_on s r pool).running) ≤ cap s.definitions (pool_row s.definitions p)) same (moved-within-cap s r pool taken);
    }

-- where it is to give way, and where it is to stop
turned-asked : (s : State) (session : ℕ) (r : Runner) (pool : Name) → r.session ≡ session → Turned s (Check session) (reply.GiveWay pool) s.clock (asked_to_leave s r pool)
turned-asked s session r pool number =
    let event = Check session in
    let answer : Reply = reply.GiveWay pool in
    turned-goes s (asked_to_leave s r pool) event answer (record { frees = refl; moves_in = refl; moves_to = refl })
    (go-first event answer s.clock (λ y. eqb y.session r.session) (leaving_for pool) s.running
    (λ y here. Leaves pool (ap (λ n. Check n) (sym number ∙ sym (eqb-true y.session r.session here))) refl))
    (λ w among. inl among)

turned-stopped : (s : State) (by target : ℕ) (r : Runner) → r.session ≡ target → Turned s (Cancel by target) reply.Cancelled s.clock (asked_to_stop s r)
turned-stopped s by target r number =
    let event = Cancel by target in
    turned-goes s (asked_to_stop s r) event reply.Cancelled (record { frees = refl; moves_in = refl; moves_to = refl })
    (go-first event reply.Cancelled s.clock (λ y. eqb y.session r.session) stopping s.running
    (λ y here. Stops by (ap (λ n. Cancel by n) (sym number ∙ sym (eqb-true y.session r.session here))) refl))
    (λ w among. inl among)

-- where a pool is dropped
turned-dropped : (s : State) (pool : Name) (new : Definitions) → AreNumbered s.last_query s.waiting s.running → Turned s (Define (DropPool pool)) reply.Defined s.clock (dropped s pool new)
turned-dropped s pool new numbered =
    turned-goes s (dropped s pool new) (Define (DropPool pool)) reply.Defined (record { frees = refl; moves_in = refl; moves_to = refl }) (go-dropped pool s.clock s.running)
    (λ w among. turn w (either-beside s.waiting pool w (goes_before s.definitions pool) among)) where
      turn : (w : Waiter) → WaitedBeside s.waiting pool w → Waits s (Define (DropPool pool)) s.clock w
      turn w (inl before) = inl before
      turn w (inr from) =
          let y = from.0 in
          let query : w.query ≡ y.query = ap (λ (z : Waiter). z.query) from.1.1.1 in
          inr (inr (inr (record {
            waiter = y;
            waited = ap (waiter_called s.waiting) query ∙ number-found s.last_query s.waiting s.running y numbered from.1.0;
            event_is = ap (λ n. Define (DropPool n)) (sym (same_name-eq y.pool pool from.1.1.0));
            is = from.1.1.1;
          })))

turned-change : (s : State) (seat : ℕ) (event : Event) (c : Change) → IsChange s seat event c → IsHealthy s → Turned s event (reply_of (settled c.state) c.answer) s.clock c.state
turned-change s seat _ _ (defines statement new dropped_none accepts) h =
    turned-plain s (defined s new) (Define statement) reply.Defined (record { frees = refl; moves_in = refl; moves_to = refl }) refl (λ w among. inl among)
turned-change s seat _ _ (drops pool new accepts) h = turned-dropped s pool new h.numbered
turned-change s seat _ _ (opens user may) h =
    turned-plain s (opened s seat user).state (Open user) (reply.Opened (s.last_session + 1)) (record { frees = refl; moves_in = refl; moves_to = refl }) refl (λ w among. inl among)
turned-change s seat _ _ (chooses session pool x found may differs) h =
    turned-plain s (choice_made s x pool).state (SetPool session pool) reply.Set (record { frees = refl; moves_in = refl; moves_to = refl }) refl (λ w among. inl among)
turned-change s seat _ _ (caps session cap x found room differs) h =
    turned-plain s (cap_made s x (within_moments cap)).state (SetCap session cap) reply.Set (record { frees = refl; moves_in = refl; moves_to = refl }) refl (λ w among. inl among)
turned-change s seat _ _ (submits session floor x found may) h =
    let pool = session_pool s.definitions x in
    let t = settled (submitted s x pool floor).state in
    turned-submitted s session floor x pool (told t x.number) (session_of-is s seat session x found).number
    (record { frees = refl; moves_in = refl; moves_to = (told-keeps (told t x.number) (told-is t x.number)).1 })
turned-change s seat _ _ (collects session x end found ended) h =
    turned-plain s (collected s x end).state (Poll session) (reply.Ended end) (record { frees = refl; moves_in = refl; moves_to = refl }) refl (λ w among. inl among)
turned-change s seat _ _ (moves_on session x r pool is taken) h =
    let number = (session_of-is s seat session x is.found).number in
    turned-moved_on s session r pool (ap (runner_of s.running) (sym number) ∙ is.runs) taken
turned-change s seat _ _ (asks session x r pool is) h =
    turned-asked s session r pool (session-found s.running x.number r is.runs ∙ (session_of-is s seat session x is.found).number)
turned-change s seat _ _ (gives_way session x r pool found runs leaves) h =
    let c = gave_way s r pool in
    let number = (session_of-is s seat session x found).number in
    let own : r.session ≡ x.number = session-found s.running x.number r runs in
    let called : session_called c.sessions r.session ≡ Some (phased phase.Waiting x) =
    called-with_same r.session phase.Waiting s.sessions
    ∙ ap (option_map (phased phase.Waiting)) (ap (session_called s.sessions) own ∙ session_of-found s seat session x found) in
    let after = unsettled-changed s seat (GiveWay session) _ tt h (gives_way session x r pool found runs leaves) in
    let told_of = told-settled c r.session (phased phase.Waiting x) after.in_phase called refl in
    let told_is = told-is (settled c) r.session in
    turned-gave_way s session r pool (told (settled c) r.session) (ap (runner_of s.running) (sym number) ∙ runs) leaves
    (told-goes (told (settled c) r.session) told_is told_of) told_is h.numbered
turned-change s seat _ _ (finishes session x found runs) h =
    let there = session_of-found s seat session x found in
    let number = (session_of-is s seat session x found).number in
    let r = runner_found s.sessions s.waiting s.running x.number h.in_phase (ap is_running (phase_of-found x.number s.sessions x there) ∙ runs) in
    turned-finished s session x r.0 number (ap (runner_of s.running) (sym number) ∙ r.1) h.numbered
turned-change s seat _ _ (withdraws by target x y w may waits) h =
    turned-plain s (withdrawn s w).state (Cancel by target) reply.Cancelled (record { frees = refl; moves_in = refl; moves_to = refl }) refl
    (λ z among. inl (among-without (λ o. eqb o.session w.session) z s.waiting among))
turned-change s seat _ _ (stops by target x y r may runs first) h =
    turned-stopped s by target r
    (session-found s.running y.number r runs ∙ eqb-true y.number target (found_passes (λ (z : Session). eqb z.number target) y s.sessions may.called))
turned-change s seat _ _ (closes session x found rests) h =
    turned-plain s (closed s x).state (Close session) reply.Closed (record { frees = refl; moves_in = refl; moves_to = refl }) refl
    (λ w among. inl (among-without (λ o. eqb o.session x.number) w s.waiting among))

turned-tried : (s : State) (seat : ℕ) (event : Event) (c : Change) → IsTried s seat event c → IsHealthy s → Turned s event (reply_of (settled c.state) c.answer) s.clock c.state
turned-tried s seat event _ (stays answer still) h =
    turned-plain s s event (reply_of (settled s) answer) (plain-quiet s (settled s) seat event answer still) refl (λ w among. inl among)
turned-tried s seat event _ (changes c is loud) h = turned-change s seat event c is h

-- who runs since the change, or from before it
behind-found : (c : State) (query : ℕ) (r : Runner) → (let n : Option Runner = None in runner_called c.running query ≡ n) → runner_called (settled c).running query ≡ Some r → Came c r
behind-found c query r none found =
    let come = come-settled c in
    come.came query r (found-behind (λ (x : Runner). eqb x.query query) r c.running come.more none (subst (λ (l : List Runner). runner_called l query ≡ Some r) come.split found))

came-number : (c : State) (query : ℕ) (r : Runner) (running : List Runner) (came : Came c r) → runner_called running query ≡ Some r → came.waiter.query ≡ query
came-number c query r running came found =
    ap (λ (x : Runner). x.query) (sym came.is) ∙ eqb-true r.query query (found_passes (λ (x : Runner). eqb x.query query) r running found)

gone-settled : (c : State) (query : ℕ) → (let n : Option Runner = None in runner_called c.running query ≡ n) → ((w : Waiter) → IsAmong w c.waiting → w.query ≡ query → ⊥)
    → (let n : Option Runner = None in runner_called (settled c).running query ≡ n)
gone-settled c query none waits_not = turn (runner_called (settled c).running query) refl where
  turn : (o : Option Runner) → runner_called (settled c).running query ≡ o → (let n : Option Runner = None in o ≡ n)
  turn None found = refl
  turn (Some r) found =
      let came = behind-found c query r none found in
      absurd (waits_not came.waiter came.among (came-number c query r (settled c).running came found))

-- a state that runs what has settled
record RunsAs (t new : State) : Type 0 where
  pub running : new.running ≡ t.running
  pub definitions : new.definitions ≡ t.definitions
  pub clock : new.clock ≡ t.clock

waited-as : (s : State) (event : Event) (moment : ℕ) (w : Waiter) → AreNumbered s.last_query s.waiting s.running → Waits s event moment w → HasWaited s event moment w
waited-as s event moment w numbered (inl among) = inl (number-found s.last_query s.waiting s.running w numbered among)
waited-as s event moment w numbered (inr new) = inr new

-- a query begins to run by the definitions and the clock alone
started-as : (c new : State) (w : Waiter) → new.definitions ≡ c.definitions → new.clock ≡ c.clock → started c w ≡ started new w
started-as c new w definitions clock =
    ap (λ d. let u : State = record c { definitions = d } in started u w) (sym definitions)
    ∙ ap (λ k. let u : State = record c { definitions = new.definitions; clock = k } in started u w) (sym clock)

admitted-settled : (s c new : State) (event : Event) (query : ℕ) (r : Runner) → RunsAs (settled c) new → ((w : Waiter) → IsAmong w c.waiting → HasWaited s event new.clock w)
    → (let n : Option Runner = None in runner_called c.running query ≡ n) → runner_called (settled c).running query ≡ Some r → IsAdmitted s new event r
admitted-settled s c new event query r like waited none found =
    let came = behind-found c query r none found in
    let rest = rest-settled c in
    let definitions : new.definitions ≡ c.definitions = like.definitions ∙ rest.definitions in
    let clock : new.clock ≡ c.clock = like.clock ∙ rest.clock in
    let within = within-settled c query r none found in
    record {
      waiter = came.waiter;
      waited = waited came.waiter came.among;
      is = came.is ∙ started-as c new came.waiter definitions clock;
      within =
          subst (λ d. used r.pool (holdings new.running) ≤ cap d (pool_row d r.pool)) (sym definitions)
          (subst (λ (l : List Runner). used r.pool (holdings l) ≤ cap c.definitions (pool_row c.definitions r.pool)) (sym like.running) within);
    }

-- so an event that settles keeps the grants
keeps-settled : (s c new : State) (event : Event) (answer : Reply) → Turned s event answer new.clock c → AreNumbered s.last_query s.waiting s.running → RunsAs (settled c) new
    → KeepsGrants s new event answer
keeps-settled s c new event answer turned numbered like =
    let come = come-settled c in
    let still = still_running s event answer in
    record {
      kept = λ query r was other.
          let on = go-found event answer new.clock query r still c.running turned.order (still-kept s event answer query numbered other ∙ was) in (
            on.0,
            ap (λ l. runner_called l query) (like.running ∙ come.split) ∙ found-front (λ (x : Runner). eqb x.query query) on.0 c.running come.more on.1,
            on.2,
          );
      freed = λ query grant is gives.
          let f = turned.freed query grant is gives in
          let gone = go-none event answer new.clock query still c.running turned.order (still-gone s event answer query numbered (inr is)) in
          (f.0, ap (λ l. grant_called l query) like.running ∙ ap (option_map (λ (x : Runner). x.grant)) (gone-settled c query gone f.1));
      whole = turned.whole;
      order = (c.running, come.more, like.running ∙ come.split, turned.order);
      admitted = λ query r found gone.
          admitted-settled s c new event query r like (λ w among. waited-as s event new.clock w numbered (turned.waits w among))
          (go-none event answer new.clock query still c.running turned.order (still-gone s event answer query numbered gone))
          (ap (λ l. runner_called l query) (sym like.running) ∙ found);
      moved = λ pool is.
          subst (λ d. used pool (holdings new.running) ≤ cap d (pool_row d pool)) (sym like.definitions)
          (subst (λ (l : List Runner). used pool (holdings l) ≤ cap (settled c).definitions (pool_row (settled c).definitions pool)) (sym like.running)
          (stays-within c pool (turned.moved pool is)));
    }

-- deadlines leave the running queries as they were, and none waits that did not
pub record WaitsLess (s t : State) : Type 0 where
  pub running : t.running ≡ s.running
  pub last_query : t.last_query ≡ s.last_query
  pub waits : (w : Waiter) → IsAmong w t.waiting → IsAmong w s.waiting

pub less-found : (s : State) (at : ℕ) → WaitsLess s (found_at s at)
less-found s at =
    due-keeps (WaitsLess s)
    (λ t w end among h. record {
      running = h.running;
      last_query = h.last_query;
      waits = λ y left. h.waits y (among-without (λ x. eqb x.session w.session) y t.waiting left);
    })
    (moved_to s at) (record { running = refl; last_query = refl; waits = λ w among. among })

waited-before : (s t : State) (event : Event) (moment : ℕ) (w : Waiter) → WaitsLess s t → AreNumbered s.last_query s.waiting s.running → HasWaited t event moment w
    → HasWaited s event moment w
waited-before s t event moment w less numbered (inl h) =
    inl (number-found s.last_query s.waiting s.running w numbered (less.waits w (found_among (λ x. eqb x.query w.query) w t.waiting h)))
waited-before s t event moment w less numbered (inr (inl new)) = inr (inl (new.0, new.1 ∙ ap (λ n. n + 1) less.last_query))
waited-before s t event moment w less numbered (inr (inr (inl gave))) = inr (inr (inl (record {
  runner = gave.runner;
  ran = ap (λ l. runner_called l w.query) (sym less.running) ∙ gave.ran;
  event_is = gave.event_is;
  left = gave.left;
  is = gave.is;
})))
waited-before s t event moment w less numbered (inr (inr (inr was))) =
    let y = was.waiter in
    let among = less.waits y (found_among (λ x. eqb x.query w.query) y t.waiting was.waited) in
    let query : w.query ≡ y.query = ap (λ (z : Waiter). z.query) was.is in
    inr (inr (inr (record {
      waiter = y;
      waited = ap (waiter_called s.waiting) query ∙ number-found s.last_query s.waiting s.running y numbered among;
      event_is = was.event_is;
      is = was.is;
    })))

-- what is freed and who runs on hangs on the running queries alone
freed-same : (s t : State) (event : Event) (answer : Reply) → t.running ≡ s.running → freed_by t event answer ≡ freed_by s event answer
freed-same s t event answer same =
    ap (λ (l : List Runner). option_and_then (λ n. option_map (λ (r : Runner). r.query) (runner_of l n)) (freeing event answer)) same

keeps-found : (s t new : State) (event : Event) (answer : Reply) → WaitsLess s t → AreNumbered s.last_query s.waiting s.running → KeepsGrants t new event answer
    → KeepsGrants s new event answer
keeps-found s t new event answer less numbered h =
    let same = freed-same s t event answer less.running in
    let still : still_running t event answer ≡ still_running s event answer =
    ap (λ l. with_moved (moving_in event answer) (without_freed (freeing event answer) l)) less.running in
    record {
      kept = λ query r was other. h.kept query r (ap (λ l. runner_called l query) less.running ∙ was) (λ is. other (sym same ∙ is));
      freed = λ query grant is gives. let f = h.freed query grant (same ∙ is) gives in (ap (λ l. grant_called l query) (sym less.running) ∙ f.0, f.1);
      whole = λ session is. let f = h.whole session is in (f.0, sym same ∙ f.1);
      order = (h.order.0, h.order.1, h.order.2, subst (λ l. GoOn event answer new.clock l h.order.0) still h.order.3);
      admitted = λ query r found gone.
          let a = h.admitted query r found (gone-before query gone) in
          record { waiter = a.waiter; waited = waited-before s t event new.clock a.waiter less numbered a.waited; is = a.is; within = a.within };
      moved = h.moved;
    } where
      gone-before : (query : ℕ) → (runner_called s.running query ≡ None) ⊎ (freed_by s event answer ≡ Some query)
          → (runner_called t.running query ≡ None) ⊎ (freed_by t event answer ≡ Some query)
      gone-before query (inl none) = inl (ap (λ l. runner_called l query) less.running ∙ none)
      gone-before query (inr freed) = inr (freed-same s t event answer less.running ∙ freed)

-- an event that changes nothing keeps them
keeps-same : (s : State) (event : Event) (answer : Reply) → IsPlain event answer → KeepsGrants s s event answer
keeps-same s event answer plain = record {
  kept = λ query r was other. (r, was, Stays);
  freed = λ query grant is gives. absurd (plain-frees s event answer query plain is);
  whole = λ session is. absurd (let no : None ≡ Some session = sym plain.frees ∙ is in cc);
  order = (
    s.running,
    [],
    sym (append-nil s.running),
    subst (λ l. GoOn event answer s.clock l s.running) (sym (plain-running s event answer plain)) (go-all event answer s.clock s.running),
  );
  admitted = λ query r found gone. absurd (new query r found gone);
  moved = λ pool is. absurd (let no : None ≡ Some pool = sym plain.moves_to ∙ is in cc);
} where
  new : (query : ℕ) (r : Runner) → runner_called s.running query ≡ Some r → (runner_called s.running query ≡ None) ⊎ (freed_by s event answer ≡ Some query) → ⊥
  new query r found (inl none) = let no : Some r ≡ None = sym found ∙ none in cc
  new query r found (inr freed) = plain-frees s event answer query plain freed

keeps-still : (s t : State) (seat : ℕ) (event : Event) (c : Change) → IsTried t seat event c → c.changed ≡ false → KeepsGrants s s event (reply_of c.state c.answer)
keeps-still s t seat event _ (stays answer still) plain = keeps-same s event (reply_of t answer) (plain-quiet t t seat event answer still)
keeps-still s t seat event _ (changes c is loud) plain = absurd (false≢true (sym plain ∙ loud))

pub grants-step : (s : State) (seat at : ℕ) (event : Event) → IsHealthy s → KeepsGrants s (step s seat at event).state event (step s seat at event).reply
grants-step s seat at event h =
    let t = found_at s at in
    let c = attempted t seat event in
    let is = tried-is t seat event in
    let there = found-facts s at h in
    outcome-turn (λ o. KeepsGrants s o.state event o.reply) s seat event c (has_due s at || c.changed)
    (λ settles.
    let u = settled c.state in
    let answer = reply_of u c.answer in
    let beside = (beside-answered u c.answer).beside in
    let new = (entered seat event u c.answer).state in
    let like : RunsAs u new = record {
      running = ap (λ (v : State). v.running) beside;
      definitions = ap (λ (v : State). v.definitions) beside;
      clock = ap (λ (v : State). v.clock) beside;
    } in
    let moment : new.clock ≡ t.clock = like.clock ∙ (rest-settled c.state).clock ∙ (rest-tried t seat event c is).clock in
    keeps-found s t new event answer (less-found s at) h.numbered
    (keeps-settled t c.state new event answer (subst (λ k. Turned t event answer k c.state) (sym moment) (turned-tried t seat event c is there)) there.numbered like)
    )
    (λ still. keeps-still s t seat event c is (or_right_false (has_due s at) c.changed still))

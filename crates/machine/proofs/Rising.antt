-- Sessions in the order of their numbers, and how many of them are live.
use Rattle.std.proofs.Common.{◌≡◌, ◌<◌, ◌≤◌, ℕ, ◌+◌, suc, zero, Bool, true, false, not, ◌&&◌, cond, eqb, leb, ltb, Option, Some, None, List, [], ◌∷◌, ◌++◌, length, get_or, map, position, refl, sym, ap, subst, ◌∙◌, arith}
use Rattle.std.specs.Option.{is_some}
use Rattle.std.specs.List.{list_all}
use Rattle.std.specs.List.Sorted.{IsNonDecreasingBy, IsPartitionPoint}
use Rattle.std.proofs.lemmas.Bool.Decides.{nat_tests}
use Rattle.std.proofs.lemmas.List.{map-append, length_push, length-map}
use Rattle.std.proofs.lemmas.List.Sums.{position_or_len_is}
use Rattle.rm_base.specs.declared.limits.TheConstants.{SESSIONS_MOST}
use Rattle.rm_base.specs.declared.name.Name.{Name}
use Rattle.rm_base.specs.Name.{general}
use Rattle.rm_rules.specs.declared.state.Phase.{Phase}
use Rattle.rm_rules.specs.declared.state.Phase.TheVariants as phase
use Rattle.rm_rules.specs.declared.state.Session.{Session}
use Rattle.rm_rules.specs.State.{State, without, changed_first, with_phase, without_session, session_called, live_queries, is_idle}
use Rattle.rm_rules.specs.DropPool.{session_beside}
use Rattle.rm_rules.specs.Healthy.{one_if, AreOpened}
use Rattle.rm_rules.proofs.Changed.{map-changed, sum-kept, length-changed}
use Rattle.rm_rules.proofs.Once.{without-map}
use Rattle.rm_rules.proofs.Phases.{phase_in, count-with, count-push, length-with, phase_of-found}
use Rattle.rm_rules.proofs.Pools.{sum_by-map}
use Rattle.rm_rules.proofs.Taken.{and_left, and_right, and_both, all_wider, all_push, all_without, sum_without, length_without}
use Rattle.machine.specs.declared.machine.Machine.TheInside.{Inside as MachineInside}
use Rattle.machine.specs.declared.sessions.Sessions.TheInside.{Inside}
use Rattle.machine.specs.Inside.{seen_state}
use Rattle.machine.specs.Sessions.{do_rise, numbers, AreInOrder}

-- with one more above all others, and with one less
pub rise-push : (ns : List ℕ) (n : ℕ) → do_rise ns ≡ true → list_all (λ m. ltb m n) ns ≡ true → do_rise (ns ++ n ∷ []) ≡ true
rise-push [] n rising below = refl
rise-push (m ∷ ms) n rising below =
    and_both (list_all (λ k. ltb m k) (ms ++ n ∷ [])) (do_rise (ms ++ n ∷ []))
    (all_push (λ k. ltb m k) ms n (and_left (list_all (λ k. ltb m k) ms) (do_rise ms) rising) (and_left (ltb m n) (list_all (λ k. ltb k n) ms) below))
    (rise-push ms n (and_right (list_all (λ k. ltb m k) ms) (do_rise ms) rising) (and_right (ltb m n) (list_all (λ k. ltb k n) ms) below))

without-turn : (test : ℕ → Bool) (n : ℕ) (ns : List ℕ) (b : Bool) → do_rise (n ∷ ns) ≡ true → do_rise (without test ns) ≡ true → do_rise (cond b ns (n ∷ without test ns)) ≡ true
without-turn test n ns true rising rest = and_right (list_all (λ k. ltb n k) ns) (do_rise ns) rising
without-turn test n ns false rising rest =
    and_both (list_all (λ k. ltb n k) (without test ns)) (do_rise (without test ns))
    (all_without (λ k. ltb n k) test ns (and_left (list_all (λ k. ltb n k) ns) (do_rise ns) rising)) rest

rise-without : (test : ℕ → Bool) (ns : List ℕ) → do_rise ns ≡ true → do_rise (without test ns) ≡ true
rise-without test [] rising = refl
rise-without test (n ∷ ns) rising = without-turn test n ns (test n) rising (rise-without test ns (and_right (list_all (λ k. ltb n k) ns) (do_rise ns) rising))

all-numbers : (n : ℕ) (xs : List Session) → list_all (λ (x : Session). ltb x.number n) xs ≡ list_all (λ m. ltb m n) (numbers xs)
all-numbers n [] = refl
all-numbers n (x ∷ xs) = ap (λ b. ltb x.number n && b) (all-numbers n xs)

-- so they rise in the sessions
pub rising-push : (xs : List Session) (y : Session) → do_rise (numbers xs) ≡ true → list_all (λ (x : Session). ltb x.number y.number) xs ≡ true → do_rise (numbers (xs ++ y ∷ [])) ≡ true
rising-push xs y rising below =
    ap do_rise (map-append (λ (x : Session). x.number) xs (y ∷ []))
    ∙ rise-push (numbers xs) y.number rising (sym (all-numbers y.number xs) ∙ below)

pub rising-without : (n : ℕ) (xs : List Session) → do_rise (numbers xs) ≡ true → do_rise (numbers (without_session n xs)) ≡ true
rising-without n xs rising =
    ap do_rise (without-map (λ (x : Session). x.number) (λ m. eqb m n) xs) ∙ rise-without (λ m. eqb m n) (numbers xs) rising

pub rising-changed : (n : ℕ) (act : Session → Session) (xs : List Session) → ((x : Session) → (act x).number ≡ x.number) → do_rise (numbers xs) ≡ true
    → do_rise (numbers (changed_first (λ x. eqb x.number n) act xs)) ≡ true
rising-changed n act xs same rising = ap do_rise (map-changed (λ (x : Session). x.number) (λ x. eqb x.number n) act xs same) ∙ rising

-- which is how a search by halves finds one
below-all : (n : ℕ) (xs : List Session) (j : ℕ) (d : Session) → list_all (λ m. ltb n m) (numbers xs) ≡ true → j < length xs → n < (get_or xs j d).number
below-all n [] j d below within = absurd (omega (arith, within))
below-all n (x ∷ xs) zero d below within =
    let first : ltb n x.number ≡ true = and_left (ltb n x.number) (list_all (λ m. ltb n m) (numbers xs)) below in
    grind (arith, nat_tests)
below-all n (x ∷ xs) (suc j) d below within = below-all n xs j d (and_right (ltb n x.number) (list_all (λ m. ltb n m) (numbers xs)) below) (omega (arith, within))

pub non-decreasing : (xs : List Session) → do_rise (numbers xs) ≡ true → IsNonDecreasingBy (λ (x : Session). x.number) xs
non-decreasing [] rising i j d before within = absurd (omega (arith, within))
non-decreasing (x ∷ xs) rising zero zero d before within = omega arith
non-decreasing (x ∷ xs) rising zero (suc j) d before within =
    omega (arith, below-all x.number xs j d (and_left (list_all (λ m. ltb x.number m) (numbers xs)) (do_rise (numbers xs)) rising) (omega (arith, within)))
non-decreasing (x ∷ xs) rising (suc i) zero d before within = absurd (omega (arith, before))
non-decreasing (x ∷ xs) rising (suc i) (suc j) d before within =
    non-decreasing xs (and_right (list_all (λ m. ltb x.number m) (numbers xs)) (do_rise (numbers xs)) rising) i j d (omega (arith, before)) (omega (arith, within))

-- a session that stands for none
nobody : Session
nobody = record { number = 0; seat = 0; user = general; pool = None; cap_ms = None; phase = phase.Idle }

-- the place at which those below the number end
abbrev IsPlace : List Session → ℕ → ℕ → Type 0
IsPlace xs n i = IsPartitionPoint (λ (x : Session). ltb x.number n ≡ true) (λ x. ltb x.number n ≡ false) xs i

below-differs : (m n : ℕ) → ltb m n ≡ true → eqb m n ≡ false
below-differs m n below = grind (arith, nat_tests)

some-turn : (i n : ℕ) → i < n → cond (ltb i n) (Some i) None ≡ Some i
some-turn i n within = let h : ltb i n ≡ true = grind (arith, nat_tests) in ap (λ b. cond b (Some i) None) h

none-turn : (n : ℕ) → (let o : Option ℕ = None in cond (ltb n n) (Some n) None ≡ o)
none-turn n = let h : ltb n n ≡ false = grind (arith, nat_tests) in ap (λ b. cond b (Some n) None) h

pub place-found : (xs : List Session) (n i : ℕ) (x : Session) → IsPlace xs n i → i < length xs → x ≡ get_or xs i x → x.number ≡ n → position (λ (y : Session). eqb y.number n) xs ≡ Some i
place-found xs n i x point within at is =
    let here : eqb (get_or xs i x).number n ≡ true = subst (λ (y : Session). eqb y.number n ≡ true) at (grind (arith, nat_tests)) in
    let place = position_or_len_is (λ (y : Session). eqb y.number n) xs i x (omega (arith, within)) (λ k before. below-differs (get_or xs k x).number n (point.0 k x (omega arith) before)) (λ _. here) in
    ap (λ k. cond (ltb k (length xs)) (Some k) None) place ∙ some-turn i (length xs) within

above-differs : (m k n : ℕ) → ltb m n ≡ false → eqb m n ≡ false → m ≤ k → eqb k n ≡ false
above-differs m k n above other more = grind (arith, nat_tests)

each-differs : (xs : List Session) (n i k : ℕ) (d : Session) (b : Bool) → ltb k i ≡ b → do_rise (numbers xs) ≡ true → IsPlace xs n i → (i < length xs → eqb (get_or xs i d).number n ≡ false)
    → k < length xs → eqb (get_or xs k d).number n ≡ false
each-differs xs n i k d true e rising point other within =
    below-differs (get_or xs k d).number n (point.0 k d (omega arith) (let h : k < i = grind (arith, nat_tests) in h))
each-differs xs n i k d false e rising point other within =
    let behind : i ≤ k = grind (arith, nat_tests) in
    let inside : i < length xs = omega (arith, within, behind) in
    above-differs (get_or xs i d).number (get_or xs k d).number n (point.1 i d (omega arith) inside) (other inside) (non-decreasing xs rising i k d behind within)

pub place-absent : (xs : List Session) (n i : ℕ) (d : Session) → do_rise (numbers xs) ≡ true → IsPlace xs n i → i ≤ length xs → (i < length xs → eqb (get_or xs i d).number n ≡ false)
    → (let o : Option ℕ = None in position (λ (y : Session). eqb y.number n) xs ≡ o)
place-absent xs n i d rising point within other =
    let place = position_or_len_is (λ (y : Session). eqb y.number n) xs (length xs) d (omega arith) (λ k inside. each-differs xs n i k d (ltb k i) refl rising point other inside) (λ past. absurd (omega (arith, past))) in
    ap (λ k. cond (ltb k (length xs)) (Some k) None) place ∙ none-turn (length xs)

pub place-past : (xs : List Session) (n i : ℕ) → do_rise (numbers xs) ≡ true → IsPlace xs n i → length xs ≤ i → i ≤ length xs → (let o : Option ℕ = None in position (λ (y : Session). eqb y.number n) xs ≡ o)
place-past xs n i rising point past within = place-absent xs n i nobody rising point within (λ inside. absurd (omega (arith, past, inside)))

-- how many are live, where one goes over to another phase, where one comes, and where one is gone
pub live-after : (n : ℕ) (p : Phase) (xs : List Session) (x : Session) (live after : ℕ) → session_called xs n ≡ Some x → live ≡ live_queries xs
    → after + one_if (not (is_idle x.phase)) ≡ live + one_if (not (is_idle p)) → after ≡ live_queries (with_phase n p xs)
live-after n p xs x live after found counted is =
    let there : is_some (session_called xs n) ≡ true = ap (λ (o : Option Session). is_some o) found in
    let before : one_if (not (is_idle x.phase)) ≡ one_if (not (is_idle (phase_in (session_called xs n)))) = ap (λ (q : Phase). one_if (not (is_idle q))) (sym (phase_of-found n xs x found)) in
    omega (arith, count-with (λ q. not (is_idle q)) n p xs there, before, counted, is)

pub live-kept : (n : ℕ) (act : Session → Session) (xs : List Session) → ((x : Session) → (act x).phase ≡ x.phase) → live_queries (changed_first (λ x. eqb x.number n) act xs) ≡ live_queries xs
live-kept n act xs same = sum-kept (λ (x : Session). cond (not (is_idle x.phase)) 1 0) (λ x. eqb x.number n) act xs (λ x. ap {B = ℕ} (λ p. cond (not (is_idle p)) 1 0) (same x))

pub live-push : (xs : List Session) (y : Session) → is_idle y.phase ≡ true → live_queries (xs ++ y ∷ []) ≡ live_queries xs
live-push xs y idle = count-push (λ p. not (is_idle p)) xs y (ap not idle)

pub live-without : (n : ℕ) (xs : List Session) (x : Session) (live after : ℕ) → session_called xs n ≡ Some x → live ≡ live_queries xs
    → after + one_if (not (is_idle x.phase)) ≡ live + 0 → after ≡ live_queries (without_session n xs)
live-without n xs x live after found counted is =
    omega (arith, sum_without (λ (y : Session). cond (not (is_idle y.phase)) 1 0) (λ y. eqb y.number n) x xs found, counted, is)

-- one that is live is counted
pub live-one : (n : ℕ) (xs : List Session) (x : Session) → session_called xs n ≡ Some x → one_if (not (is_idle x.phase)) ≤ live_queries xs
live-one n xs x found = omega (arith, sum_without (λ (y : Session). cond (not (is_idle y.phase)) 1 0) (λ y. eqb y.number n) x xs found)

-- so the sessions stay in order
pub order-kept : (s : Inside) (n : ℕ) (act : Session → Session) (rows : List Session) → ((x : Session) → (act x).number ≡ x.number) → ((x : Session) → (act x).phase ≡ x.phase)
    → AreInOrder s → rows ≡ changed_first (λ x. eqb x.number n) act s.rows → AreInOrder (record { rows = rows; live = s.live })
order-kept s n act rows number phase h is = record {
  rising = ap (λ (l : List Session). do_rise (numbers l)) is ∙ rising-changed n act s.rows number h.rising;
  counted = h.counted ∙ sym (ap live_queries is ∙ live-kept n act s.rows phase);
  few = omega (arith, h.few, ap (λ (l : List Session). length l) is, length-changed (λ x. eqb x.number n) act s.rows);
}

pub order-phased : (s : Inside) (n : ℕ) (p : Phase) (rows : List Session) (x : Session) (after : ℕ) → session_called s.rows n ≡ Some x
    → after + one_if (not (is_idle x.phase)) ≡ s.live + one_if (not (is_idle p)) → AreInOrder s → rows ≡ with_phase n p s.rows → AreInOrder (record { rows = rows; live = after })
order-phased s n p rows x after found count h is = record {
  rising = ap (λ (l : List Session). do_rise (numbers l)) is ∙ rising-changed n (λ y. record y { phase = p }) s.rows (λ y. refl) h.rising;
  counted = live-after n p s.rows x s.live after found h.counted count ∙ sym (ap live_queries is);
  few = omega (arith, h.few, ap (λ (l : List Session). length l) is, length-with n p s.rows);
}

pub order-without : (s : Inside) (n : ℕ) (rows : List Session) (x : Session) (after : ℕ) → session_called s.rows n ≡ Some x
    → after + one_if (not (is_idle x.phase)) ≡ s.live + 0 → AreInOrder s → rows ≡ without_session n s.rows → AreInOrder (record { rows = rows; live = after })
order-without s n rows x after found count h is = record {
  rising = ap (λ (l : List Session). do_rise (numbers l)) is ∙ rising-without n s.rows h.rising;
  counted = live-without n s.rows x s.live after found h.counted count ∙ sym (ap live_queries is);
  few = omega (arith, h.few, ap (λ (l : List Session). length l) is, length_without (λ (y : Session). eqb y.number n) x s.rows found);
}

pub order-push : (s : Inside) (y : Session) (rows : List Session) → length s.rows < SESSIONS_MOST → list_all (λ (x : Session). ltb x.number y.number) s.rows ≡ true → is_idle y.phase ≡ true
    → AreInOrder s → rows ≡ s.rows ++ y ∷ [] → AreInOrder (record { rows = rows; live = s.live })
order-push s y rows room newest idle h is = record {
  rising = ap (λ (l : List Session). do_rise (numbers l)) is ∙ rising-push s.rows y h.rising newest;
  counted = h.counted ∙ sym (ap live_queries is ∙ live-push s.rows y idle);
  few = omega (arith, room, ap (λ (l : List Session). length l) is, length_push s.rows y);
}

numbers-beside : (pool : Name) (xs : List Session) → numbers (map (session_beside pool) xs) ≡ numbers xs
numbers-beside pool [] = refl
numbers-beside pool (x ∷ xs) = ap (λ ns. x.number ∷ ns) (numbers-beside pool xs)

pub order-beside : (s : Inside) (pool : Name) (rows : List Session) → AreInOrder s → rows ≡ map (session_beside pool) s.rows → AreInOrder (record { rows = rows; live = s.live })
order-beside s pool rows h is = record {
  rising = ap (λ (l : List Session). do_rise (numbers l)) is ∙ ap do_rise (numbers-beside pool s.rows) ∙ h.rising;
  counted = h.counted ∙ sym (ap live_queries is ∙ sum_by-map (λ (x : Session). cond (not (is_idle x.phase)) 1 0) (session_beside pool) s.rows);
  few = omega (arith, h.few, ap (λ (l : List Session). length l) is, length-map s.rows (session_beside pool));
}

-- the number that comes next is above all others
given-below : (last n : ℕ) → leb n last ≡ true → ltb n (last + 1) ≡ true
given-below last n given = grind (arith, nat_tests)

pub next-newest : (m : MachineInside) (s : State) → seen_state m ≡ s → AreOpened s.last_session s.sessions → list_all (λ (x : Session). ltb x.number (m.last_session + 1)) m.sessions ≡ true
next-newest m s same opened =
    let there = subst (λ (t : State). AreOpened t.last_session t.sessions) (sym same) opened in
    all_wider (λ (x : Session). leb x.number m.last_session) (λ (x : Session). ltb x.number (m.last_session + 1)) m.sessions (λ x given. given-below m.last_session x.number given) there.given

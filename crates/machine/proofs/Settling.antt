-- The loops that end queries, and the loop that admits them: where each leads, and what it keeps.
use Rattle.std.proofs.Common.{◌≡◌, ◌<◌, ◌≤◌, ℕ, ◌+◌, eqb, true, Option, Some, None, List, length, refl, ap, ◌∙◌, sym, subst, arith, count_by}
use Rattle.std.specs.List.{find, list_all}
use Rattle.std.proofs.lemmas.Bool.{eqb-true, eq-eqb}
use Rattle.std.proofs.lemmas.List.Sums.{count_by-le-length}
use Rattle.rm_base.specs.declared.limits.TheConstants.{SESSIONS_MOST}
use Rattle.rm_rules.specs.declared.state.Waiter.{Waiter}
use Rattle.rm_rules.specs.declared.state.Session.{Session}
use Rattle.rm_rules.specs.declared.state.Runner.{Runner}
use Rattle.rm_rules.specs.Definitions.{pool_row}
use Rattle.rm_rules.specs.Ask.{is_too_large}
use Rattle.rm_rules.specs.State.{State, phase_of, is_active, is_waiting, without, without_waiter, waiter_of}
use Rattle.rm_rules.specs.Holdings.{holdings_of}
use Rattle.rm_rules.specs.Accounting.{need, free}
use Rattle.rm_rules.specs.Admission.{ask_of, first_entitled, admitted, admission}
use Rattle.rm_rules.specs.Shuffle.{shuffled_state}
use Rattle.rm_rules.specs.Deadlines.{first_due, first_nowait, timed_out, without_due}
use Rattle.rm_rules.specs.Settle.{first_too_large, too_large_end, ended_too_large, without_too_large, without_nowait}
use Rattle.rm_rules.specs.Answers.{queue_place}
use Rattle.rm_rules.specs.Sound.{has_pool}
use Rattle.rm_rules.specs.Healthy.{AreInPhase, AreNumbered, IsHealthyWith}
use Rattle.rm_rules.proofs.Taken.{found_passes, all_among, counted_among}
use Rattle.rm_rules.proofs.Found.{without-unfound}
use Rattle.rm_rules.proofs.Queue.{IsAmong, found_among, without-fewer, first_entitled_fits, enough}
use Rattle.rm_rules.proofs.Phases.{one_if-most}
use Rattle.rm_rules.proofs.Ending.{unsettled-ended, healthy-ended}
use Rattle.rm_rules.proofs.Admitting.{healthy-admitted}
use Rattle.rm_rules.proofs.Settling.{too_large-among, nowait-among, due-among, entitled-among, deadline_end, healthy-shuffled}
use Rattle.rm_rules.proofs.SettledLaws.{none_without}
use Rattle.pool_queue.specs.Queue.{is_query, query_of, place_of_query}
use Rattle.pool_queue.proofs.ByNumber.{waits-by_number, found-by_number, left-by_number, place-by_number}
use Rattle.machine.specs.Settling.{CanSettle, IsSettling, MayLeave}
use Rattle.machine.proofs.Looping.{turns-on, turns-end}

-- no two queries have one number, and no session has two queries
once : (s : State) → AreNumbered s.last_query s.waiting s.running → (query : ℕ) → count_by (λ (x : Waiter). eqb x.query query) s.waiting ≤ 1
once s numbered query = omega (arith, numbered.once query)

alone : (s : State) → AreInPhase s.sessions s.waiting s.running → (session : ℕ) → count_by (λ (x : Waiter). eqb x.session session) s.waiting ≤ 1
alone s h session = omega (arith, h.waits session, one_if-most (is_waiting (phase_of s.sessions session)))

-- so a query leaves the queue by its number as it does by its session
pub may-leave : (s : State) (w : Waiter) → AreInPhase s.sessions s.waiting s.running → AreNumbered s.last_query s.waiting s.running → IsAmong w s.waiting → MayLeave s.waiting w
may-leave s w h numbered among = record {
  waits = waits-by_number s.waiting among.front among.rest w among.split;
  same = left-by_number s.waiting among.front among.rest w (once s numbered) (alone s h) among.split;
}

-- that of a session waits, and leaves by its session; where the session has none, none leaves
pub session-may-leave : (s : State) (session : ℕ) (w : Waiter) → AreInPhase s.sessions s.waiting s.running → AreNumbered s.last_query s.waiting s.running → waiter_of s.waiting session ≡ Some w
    → MayLeave s.waiting w
session-may-leave s session w h numbered found = may-leave s w h numbered (found_among (λ x. eqb x.session session) w s.waiting found)

pub session-left : (s m : State) (session : ℕ) (w : Waiter) (left : List Waiter) → m ≡ s → AreInPhase s.sessions s.waiting s.running → AreNumbered s.last_query s.waiting s.running
    → waiter_of s.waiting session ≡ Some w → left ≡ without (is_query w.query) m.waiting → record m { waiting = left } ≡ record s { waiting = without_waiter session s.waiting }
session-left s m session w left same h numbered found is =
    let of_session : w.session ≡ session = eqb-true w.session session (found_passes (λ (x : Waiter). eqb x.session session) w s.waiting found) in
    let now : left ≡ without_waiter session s.waiting =
    is ∙ ap (λ (t : State). without (is_query w.query) t.waiting) same ∙ (session-may-leave s session w h numbered found).same ∙ ap (λ n. without_waiter n s.waiting) of_session in
    ap (λ (ws : List Waiter). let t : State = record m { waiting = ws } in t) now
    ∙ ap (λ (t : State). let u : State = record t { waiting = without_waiter session s.waiting } in u) same

pub none-left : (s : State) (session : ℕ) → (let o : Option Waiter = None in waiter_of s.waiting session ≡ o) → s ≡ record s { waiting = without_waiter session s.waiting }
none-left s session absent =
    ap (λ (ws : List Waiter). let t : State = record s { waiting = ws } in t) (sym (without-unfound (λ (x : Waiter). eqb x.session session) s.waiting absent))

-- a query that is picked is found by its number
by_number : (s : State) (o : Option Waiter) (q : ℕ) → AreNumbered s.last_query s.waiting s.running → ((w : Waiter) → o ≡ Some w → IsAmong w s.waiting) → query_of o ≡ Some q
    → find (λ (x : Waiter). eqb x.query q) s.waiting ≡ o
by_number s None q numbered among is = absurd (cc)
by_number s (Some w) q numbered among is =
    let same : w.query ≡ q = cc in
    let here = among w refl in
    subst (λ (n : ℕ). find (λ (x : Waiter). eqb x.query n) s.waiting ≡ Some w) same (found-by_number s.waiting here.front here.rest w (once s numbered) here.split)

pub none_picked : (o : Option Waiter) → (let n : Option ℕ = None in query_of o ≡ n) → (let n : Option Waiter = None in o ≡ n)
none_picked None is = refl
none_picked (Some w) is = absurd (cc)

pub number-due : (s : State) (q : ℕ) → AreNumbered s.last_query s.waiting s.running → query_of (first_due s) ≡ Some q → find (λ (x : Waiter). eqb x.query q) s.waiting ≡ first_due s
number-due s q numbered is = by_number s (first_due s) q numbered (due-among s) is

pub number-nowait : (s : State) (q : ℕ) → AreNumbered s.last_query s.waiting s.running → query_of (first_nowait s) ≡ Some q → find (λ (x : Waiter). eqb x.query q) s.waiting ≡ first_nowait s
number-nowait s q numbered is = by_number s (first_nowait s) q numbered (nowait-among s) is

pub number-entitled : (s : State) (q : ℕ) → AreNumbered s.last_query s.waiting s.running → query_of (first_entitled s) ≡ Some q → find (λ (x : Waiter). eqb x.query q) s.waiting ≡ first_entitled s
number-entitled s q numbered is = by_number s (first_entitled s) q numbered (entitled-among s) is

-- the place of a session's query, by the query's number
pub place-waiting : (s : State) (session : ℕ) (w : Waiter) → AreInPhase s.sessions s.waiting s.running → AreNumbered s.last_query s.waiting s.running → waiter_of s.waiting session ≡ Some w
    → place_of_query s.waiting w.query ≡ Some (queue_place s.waiting session)
place-waiting s session w h numbered found =
    let among = found_among (λ x. eqb x.session session) w s.waiting found in
    let of_session : w.session ≡ session = eqb-true w.session session (found_passes (λ (x : Waiter). eqb x.session session) w s.waiting found) in
    place-by_number s.waiting among.front among.rest w (once s numbered) (alone s h) among.split ∙ ap (λ n. Some (queue_place s.waiting n)) of_session

-- no query is too large after one more has left
small-without : (s : State) (session : ℕ) → first_too_large s ≡ None → find (λ w. is_too_large s.definitions (pool_row s.definitions w.pool) w.user w.floor) (without_waiter session s.waiting) ≡ None
small-without s session small = none_without (λ (x : Waiter). is_too_large s.definitions (pool_row s.definitions x.pool) x.user x.floor) (λ x. eqb x.session session) s.waiting small

-- the loop over queries that are too large
pub record EndsLarge (first s : State) : Type 0 where
  pub leads : without_too_large s ≡ without_too_large first
  pub settles : CanSettle s

pub fewer-large : (s : State) (w : Waiter) (t : State) → t ≡ ended_too_large s w → first_too_large s ≡ Some w → 1 + length t.waiting ≡ length s.waiting
fewer-large s w t is found = omega (arith, without-fewer w s.waiting (too_large-among s w found), ap (λ (u : State). length u.waiting) is)

pub ends-large : (first s : State) (w : Waiter) (t : State) → t ≡ ended_too_large s w → first_too_large s ≡ Some w → EndsLarge first s → EndsLarge first t
ends-large first s w t is found h =
    let among = too_large-among s w found in
    subst (EndsLarge first) (sym is) (record {
      leads = turns-on first_too_large ended_too_large s w found (without-fewer w s.waiting among) ∙ h.leads;
      settles = record {
        entries = h.settles.entries;
        statements = h.settles.statements;
        kept = unsettled-ended h.settles.entries h.settles.statements (too_large_end s w) s w among h.settles.kept;
      };
    })

pub none-large : (s : State) → (let o : Option Waiter = None in first_too_large s ≡ o) → without_too_large s ≡ s
none-large s nothing = turns-end first_too_large ended_too_large s nothing

-- the loop over queries that may not wait
pub record EndsNowait (first s : State) : Type 0 where
  pub leads : without_nowait s ≡ without_nowait first
  pub settling : IsSettling s

pub fewer-nowait : (s : State) (w : Waiter) (t : State) → t ≡ timed_out s w → first_nowait s ≡ Some w → 1 + length t.waiting ≡ length s.waiting
fewer-nowait s w t is found = omega (arith, without-fewer w s.waiting (nowait-among s w found), ap (λ (u : State). length u.waiting) is)

pub ends-nowait : (first s : State) (w : Waiter) (t : State) → t ≡ timed_out s w → first_nowait s ≡ Some w → EndsNowait first s → EndsNowait first t
ends-nowait first s w t is found h =
    let among = nowait-among s w found in
    let k = h.settling in
    subst (EndsNowait first) (sym is) (record {
      leads = turns-on first_nowait timed_out s w found (without-fewer w s.waiting among) ∙ h.leads;
      settling = record {
        entries = k.entries;
        statements = k.statements;
        kept = healthy-ended k.entries k.statements (deadline_end s w) s w among k.kept;
        small = small-without s w.session k.small;
      };
    })

pub none-nowait : (s : State) → (let o : Option Waiter = None in first_nowait s ≡ o) → without_nowait s ≡ s
none-nowait s nothing = turns-end first_nowait timed_out s nothing

-- the loop over queries whose deadline has come
pub record EndsDue (first s : State) : Type 0 where
  pub leads : without_due s ≡ without_due first
  pub kept : IsHealthyWith 0 0 s

pub fewer-due : (s : State) (w : Waiter) (t : State) → t ≡ timed_out s w → first_due s ≡ Some w → 1 + length t.waiting ≡ length s.waiting
fewer-due s w t is found = omega (arith, without-fewer w s.waiting (due-among s w found), ap (λ (u : State). length u.waiting) is)

pub ends-due : (first s : State) (w : Waiter) (t : State) → t ≡ timed_out s w → first_due s ≡ Some w → EndsDue first s → EndsDue first t
ends-due first s w t is found h =
    let among = due-among s w found in
    subst (EndsDue first) (sym is) (record {
      leads = turns-on first_due timed_out s w found (without-fewer w s.waiting among) ∙ h.leads;
      kept = healthy-ended 0 0 (deadline_end s w) s w among h.kept;
    })

-- the loop that admits
pub record Admits (first s : State) : Type 0 where
  pub leads : admission s ≡ admission first
  pub settling : IsSettling s

pub fewer-entitled : (s : State) (w : Waiter) (t : State) → t ≡ admitted s w → first_entitled s ≡ Some w → 1 + length t.waiting ≡ length s.waiting
fewer-entitled s w t is picked = omega (arith, without-fewer w s.waiting (entitled-among s w picked), ap (λ (u : State). length u.waiting) is)

pub admits : (first s : State) (w : Waiter) (t : State) → t ≡ admitted s w → first_entitled s ≡ Some w → Admits first s → Admits first t
admits first s w t is picked h =
    let k = h.settling in
    subst (Admits first) (sym is) (record {
      leads = turns-on first_entitled admitted s w picked (without-fewer w s.waiting (entitled-among s w picked)) ∙ h.leads;
      settling = record {
        entries = k.entries;
        statements = k.statements;
        kept = healthy-admitted k.entries k.statements s w picked k.kept;
        small = small-without s w.session k.small;
      };
    })

pub none-entitled : (s : State) → (let o : Option Waiter = None in first_entitled s ≡ o) → admission s ≡ s
none-entitled s nothing = turns-end first_entitled admitted s nothing

-- what an admission asks of a state that settles
pub record MayAdmit (s : State) (w : Waiter) : Type 0 where
  pub room : length s.running < SESSIONS_MOST
  pub absent : count_by (λ (r : Runner). eqb r.query w.query) s.running ≡ 0
  pub known : has_pool s.definitions w.pool ≡ true
  pub fits : need (holdings_of s) w.pool (ask_of s.definitions w) ≤ free (holdings_of s)
  pub leaves : MayLeave s.waiting w

pub may-admit : (s : State) (w : Waiter) → IsSettling s → first_entitled s ≡ Some w → MayAdmit s w
may-admit s w k picked =
    let found = first_entitled_fits s w picked in
    let among = found.0 in
    let h = k.kept in
    let waits : 1 ≤ count_by (λ (x : Waiter). eqb x.query w.query) s.waiting =
    subst (λ (l : List Waiter). 1 ≤ count_by (λ x. eqb x.query w.query) l) (sym among.split)
    (counted_among (λ x. eqb x.query w.query) among.front among.rest w (eq-eqb w.query w.query refl)) in
    record {
      room = omega (arith, h.in_phase.active, h.opened.few, without-fewer w s.waiting among, count_by-le-length (λ (x : Session). is_active x.phase) s.sessions);
      absent = omega (arith, waits, h.numbered.once w.query);
      known = all_among (λ x. has_pool s.definitions x.pool) among.front among.rest w
          (subst (λ (l : List Waiter). list_all (λ x. has_pool s.definitions x.pool) l ≡ true) among.split h.there.waits);
      fits = enough s.definitions (holdings_of s) w found.1;
      leaves = may-leave s w h.in_phase h.numbered among;
    }

-- the shuffle of a state in which no query is too large
pub settling-shuffled : (s t : State) → t ≡ shuffled_state s → CanSettle s → (let o : Option Waiter = None in first_too_large s ≡ o) → IsSettling t
settling-shuffled s t is h small =
    subst IsSettling (sym is) (record {
      entries = h.entries;
      statements = h.statements;
      kept = healthy-shuffled h.entries h.statements s h.kept;
      small = small;
    })

-- What every event's change keeps, before the state settles.
use Rattle.std.proofs.Common.{◌≡◌, ℕ, ◌+◌, ◌≤◌, ◌<◌, Bool, true, false, ◌||◌, not, cond, eqb, ltb, List, [], ◌∷◌, ◌++◌, Some, None, Option, Ok, refl, sym, ap, ◌∙◌, subst, arith, count_by}
use Rattle.std.specs.Option.{is_some}
use Rattle.std.specs.List.{list_all, list_any}
use Rattle.std.proofs.lemmas.List.{map_push}
use Rattle.std.proofs.lemmas.Bool.{eqb-true, false≢true}
use Rattle.std.proofs.lemmas.Bool.Decides.{nat_tests}
use Rattle.rm_base.specs.declared.entry.MoveSeen.{MoveSeen}
use Rattle.rm_base.specs.declared.limits.TheConstants.{MOVES_MOST}
use Rattle.rm_base.specs.declared.definitions.Definitions.{Definitions}
use Rattle.rm_base.specs.declared.event.Event.{Event}
use Rattle.rm_base.specs.declared.event.Event.TheVariants.{Define}
use Rattle.rm_base.specs.declared.statement.Statement.TheVariants.{DropPool}
use Rattle.rm_base.specs.declared.refusal.Refusal.{Refusal}
use Rattle.rm_base.specs.declared.name.Name.{Name}
use Rattle.rm_base.specs.declared.reply.End.TheVariants as end
use Rattle.rm_base.specs.Name.{same_name, general}
use Rattle.rm_base.specs.Ranges.{passes_if_set}
use Rattle.rm_base.proofs.Names.{same_name-sym}
use Rattle.rm_base.proofs.WellFormed.{well_formed-in_range}
use Rattle.rm_rules.specs.declared.state.Phase.{Phase}
use Rattle.rm_rules.specs.declared.state.Phase.TheVariants as phase
use Rattle.rm_rules.specs.declared.state.Holding.{Holding}
use Rattle.rm_rules.specs.declared.state.Session.{Session}
use Rattle.rm_rules.specs.declared.state.Waiter.{Waiter}
use Rattle.rm_rules.specs.declared.state.Runner.{Runner}
use Rattle.rm_rules.specs.declared.verdict.Verdict.TheVariants.{GoesTo}
use Rattle.rm_rules.specs.State.{State, with_phase, without_runner, runner_of, session_called, phase_of, is_running}
use Rattle.rm_rules.specs.Holdings.{Holdings, holding, holdings_of, reserve_names}
use Rattle.rm_rules.specs.Accounting.{need, free, lent, taken_up}
use Rattle.rm_rules.specs.Budget.{threshold}
use Rattle.rm_rules.specs.Definitions.{pool_row}
use Rattle.rm_rules.specs.Fit.{poolfit, judged}
use Rattle.rm_rules.specs.Target.{running_time, target}
use Rattle.rm_rules.specs.Moving.{allows_grant, takes, moved, leaving_for, requeued, stopping, with_runner_as, moved_on, asked_to_leave, gave_way, asked_to_stop}
use Rattle.rm_rules.specs.Change.{Change, within_moments, withdrawn}
use Rattle.rm_rules.specs.Deadlines.{ended_as}
use Rattle.rm_rules.specs.Replay.{IsFormed}
use Rattle.rm_rules.specs.Acceptance.{counted, accepted}
use Rattle.rm_rules.specs.Refusals.{pool_missing, changes_full}
use Rattle.rm_rules.specs.DropPool.{without_pool, pool_built_in, pool_needed, drop_pool_refusal, goes_before, dropped}
use Rattle.rm_rules.specs.Sound.{IsSound, has_pool}
use Rattle.rm_rules.specs.Owed.{owed, entries_running}
use Rattle.rm_rules.specs.Healthy.{AreInPhase, AreThere, AreWithinMemory, IsHealthyWith, IsUnsettledWith, began_by, was_asked, counted_for, defining_for, one_if}
use Rattle.rm_rules.proofs.Taken.{and_left, and_both, all_push, all_without, all_found, found_passes, counted_among}
use Rattle.rm_rules.proofs.Found.{found-split}
use Rattle.rm_rules.proofs.Changed.{Turns, turns-stay, turns-leave, turns-come, turns-change, turns-again, map-changed}
use Rattle.rm_rules.proofs.Phases.{phase_of-found, there_if_live, opened-with, with_phase-same}
use Rattle.rm_rules.proofs.Moving.{Goes, in_phase-goes, there-goes, numbered-goes, owed-goes, room-owed}
use Rattle.rm_rules.proofs.Queue.{IsAmong, found_among, enough-turn}
use Rattle.rm_rules.proofs.Bytes.{AreNamed, named, named-pool, with_grant, lent-push}
use Rattle.rm_rules.proofs.Conserved.{granted-within}
use Rattle.rm_rules.proofs.Covering.{held-finished}
use Rattle.rm_rules.proofs.Admitting.{one_or_none}
use Rattle.rm_rules.proofs.Ending.{healthy-ended-more}
use Rattle.rm_rules.proofs.Closing.{unsettled-closed}
use Rattle.rm_rules.proofs.Timed.{is_within, timed-goes, runner-timed}
use Rattle.rm_rules.proofs.Known.{general-there}
use Rattle.rm_rules.proofs.Chains.{target-there, target-moves}
use Rattle.rm_rules.proofs.Verdicts.{verdict-target, verdict-free}
use Rattle.rm_rules.proofs.Refused.{first-none, not-refused, not-missing}
use Rattle.rm_rules.proofs.AcceptanceLaws.{accepted-left, accepted-sound}
use Rattle.rm_rules.proofs.Dropping.{sized-dropped, there-dropped, bytes-dropped, held-dropped, in_phase-dropped, opened-dropped, numbered-dropped, timed-dropped, owed-dropped}
use Rattle.rm_rules.proofs.Changing.{IsChange, defines, drops, opens, chooses, caps, submits, collects, moves_on, asks, gives_way, finishes, withdraws, stops, closes, IsChecked, session_of-found}
use Rattle.rm_rules.proofs.Keeping.{unsettled-defined, unsettled-opened, unsettled-chosen, unsettled-capped, unsettled-submitted, unsettled-collected, running-just, unsettled-finished}

-- the facts of a state in which nothing waits to be settled hold of it as of one in which something does
pub to_unsettled : (entries statements : ℕ) (s : State) → IsHealthyWith entries statements s → IsUnsettledWith entries statements s
to_unsettled entries statements s h = record {
  sound = h.sound;
  sized = h.sized;
  there = h.there;
  held = h.covered.held;
  in_phase = h.in_phase;
  opened = h.opened;
  numbered = h.numbered;
  timed = h.timed;
  room = h.room;
}

-- a running query is its own session's
pub runner-self : (s : State) (n : ℕ) (r : Runner) → runner_of s.running n ≡ Some r → runner_of s.running r.session ≡ Some r
runner-self s n r found = ap (runner_of s.running) (eqb-true r.session n (found_passes (λ (x : Runner). eqb x.session n) r s.running found)) ∙ found

-- whose session runs
runner-counted : (running : List Runner) (n : ℕ) (r : Runner) → runner_of running n ≡ Some r → 1 ≤ count_by (λ x. eqb x.session n) running
runner-counted running n r found =
    let split = found-split (λ (x : Runner). eqb x.session n) r running found in
    subst (λ (l : List Runner). 1 ≤ count_by (λ x. eqb x.session n) l) (sym split.1.1)
    (counted_among (λ (x : Runner). eqb x.session n) split.0 split.1.0 r (found_passes (λ (x : Runner). eqb x.session n) r running found))

pub session-runs : (sessions : List Session) (waiting : List Waiter) (running : List Runner) (n : ℕ) (r : Runner) → AreInPhase sessions waiting running
    → runner_of running n ≡ Some r → is_running (phase_of sessions n) ≡ true
session-runs sessions waiting running n r h found = one_or_none _ (omega (arith, runner-counted running n r found, h.runs n))

-- and so is running already
running-is : (p : Phase) → is_running p ≡ true → p ≡ phase.Running
running-is phase.Idle runs = absurd (false≢true runs)
running-is phase.Waiting runs = absurd (false≢true runs)
running-is phase.Running runs = refl
running-is (phase.Ended end) runs = absurd (false≢true runs)

called-turn : (n : ℕ) (sessions : List Session) (o : Option Session) → session_called sessions n ≡ o → is_some o ≡ true → (x : Session) × (session_called sessions n ≡ Some x)
called-turn n sessions None e some = absurd (false≢true some)
called-turn n sessions (Some x) e some = (x, e)

runs-already : (n : ℕ) (sessions : List Session) → is_running (phase_of sessions n) ≡ true → with_phase n phase.Running sessions ≡ sessions
runs-already n sessions runs =
    let x = called-turn n sessions (session_called sessions n) refl (there_if_live n sessions (running-just (phase_of sessions n) runs).idle) in
    with_phase-same n phase.Running x.0 sessions x.1 (sym (phase_of-found n sessions x.0 x.1) ∙ running-is (phase_of sessions n) runs)

-- a running query is another row, in its place or in another
abbrev goes-on : (n : ℕ) (sessions : List Session) (waiting : List Waiter) (running then : List Runner) (r x : Runner) → is_running (phase_of sessions n) ≡ true
    → Turns (λ z. z.session) n (Some r) (Some x) running then → Goes n phase.Running sessions waiting waiting running then
goes-on n sessions waiting running then r x runs turned =
    let just = running-just (phase_of sessions n) runs in
    record {
      there = there_if_live n sessions just.idle;
      waited = None;
      waits = None;
      ran = Some r;
      runs = Some x;
      waited_is = sym just.waiting;
      waits_is = refl;
      ran_is = sym runs;
      runs_is = refl;
      waiters = turns-stay (λ (w : Waiter). w.session) n waiting;
      runners = turned;
    }

-- the row then is the query's, its pools are there, and it owes one entry less at least
record IsNext (s : State) (r x : Runner) : Type 0 where
  pub query : x.query ≡ r.query
  pub pool : has_pool s.definitions x.pool ≡ true
  pub leaves : passes_if_set (has_pool s.definitions) x.leaving ≡ true
  pub began : began_by s.clock x ≡ true
  pub asked : was_asked x ≡ true
  pub owes : 1 + entries_running x ≤ entries_running r

unsettled-next : (s : State) (n : ℕ) (r x : Runner) (then : List Runner) (moves : List MoveSeen) → IsHealthyWith 0 0 s → runner_of s.running n ≡ Some r
    → Turns (λ z. z.session) n (Some r) (Some x) s.running then → IsNext s r x
    → (let t : State = record s { running = then; moves = moves } in AreWithinMemory t.definitions (holdings_of t) → IsUnsettledWith 1 0 t)
unsettled-next s n r x then moves h found turned next held =
    let runs = session-runs s.sessions s.waiting s.running n r h.in_phase found in
    let goes = goes-on n s.sessions s.waiting s.running then r x runs turned in
    let same = runs-already n s.sessions runs in
    let just = running-just (phase_of s.sessions n) runs in
    record {
      sound = h.sound;
      sized = h.sized;
      there = subst (λ (l : List Session). AreThere s.definitions l s.waiting then) same
          (there-goes s.definitions n phase.Running s.sessions s.waiting s.waiting s.running then goes refl next.pool next.leaves h.there);
      held = held;
      in_phase = subst (λ (l : List Session). AreInPhase l s.waiting then) same (in_phase-goes n phase.Running s.sessions s.waiting s.waiting s.running then goes h.in_phase);
      opened = h.opened;
      numbered = numbered-goes s.last_query n phase.Running s.sessions s.waiting s.waiting s.running then goes
          (λ m. omega (arith, ap {B = ℕ} (λ k. cond (eqb k m) 1 0) next.query)) h.numbered;
      timed = timed-goes s.clock n phase.Running s.sessions s.waiting s.waiting s.running then goes refl next.began next.asked h.timed;
      room =
          room-owed 0 1 0 (owed s.sessions s.waiting s.running) (owed s.sessions s.waiting then)
          s.journal s.room s.definitions.changes s.last_session s.last_query (omega arith)
          (omega (
            arith,
            owed-goes n phase.Running s.sessions s.waiting s.waiting s.running then goes,
            ap (λ (l : List Session). owed l s.waiting then) same,
            ap one_if just.ended,
            next.owes,
          )) h.room;
    }

-- where a row changes in its place, the bytes stay as they are
held-same : (s : State) (n : ℕ) (act : Runner → Runner) → ((x : Runner) → holding (act x) ≡ holding x) → AreWithinMemory s.definitions (holdings_of s)
    → (let t : State = record s { running = with_runner_as act n s.running } in AreWithinMemory t.definitions (holdings_of t))
held-same s n act same held =
    subst (λ (gs : List Holding). let u : Holdings = record (holdings_of s) { grants = gs } in AreWithinMemory s.definitions u)
    (sym (map-changed holding (λ x. eqb x.session n) act s.running same)) held

-- the query is to give way: it may be moved once more
unsettled-asked : (s : State) (r : Runner) (pool : Name) → IsHealthyWith 0 0 s → has_pool s.definitions pool ≡ true → runner_of s.running r.session ≡ Some r
    → r.moves < MOVES_MOST → (r.cancelled ≡ false) × (r.leaving ≡ None) → IsUnsettledWith 1 0 (asked_to_leave s r pool)
unsettled-asked s r pool h there found few free =
    let n = r.session in
    let x = leaving_for pool r in
    let all = λ (p : Runner → Bool) (is : list_all p s.running ≡ true). all_found p (λ (z : Runner). eqb z.session n) s.running r is found in
    let once : (cond {A = ℕ} (is_some r.leaving) 3 1 ≡ 1) = ap {B = ℕ} (λ (o : Option Name). cond (is_some o) 3 1) free.1 in
    unsettled-next s n r x (with_runner_as (leaving_for pool) n s.running) s.moves h found
    (turns-change (λ (z : Runner). z.session) n (leaving_for pool) r s.running found (λ z. refl))
    (record {
      query = refl;
      pool = all (λ z. has_pool s.definitions z.pool) h.there.runs;
      leaves = there;
      began = all (began_by s.clock) h.timed.runs;
      asked = above r.moves;
      owes = omega (arith, few, once);
    })
    (held-same s n (leaving_for pool) (λ z. refl) h.covered.held) where
      above : (k : ℕ) → ltb 0 (k + 1) ≡ true
      above k = grind (arith, nat_tests)

-- the query is to stop
unsettled-stopped : (s : State) (r : Runner) → IsHealthyWith 0 0 s → runner_of s.running r.session ≡ Some r → r.cancelled ≡ false → IsUnsettledWith 1 0 (asked_to_stop s r)
unsettled-stopped s r h found first =
    let n = r.session in
    let all = λ (p : Runner → Bool) (is : list_all p s.running ≡ true). all_found p (λ (z : Runner). eqb z.session n) s.running r is found in
    unsettled-next s n r (stopping r) (with_runner_as stopping n s.running) s.moves h found
    (turns-change (λ (z : Runner). z.session) n stopping r s.running found (λ z. refl))
    (record {
      query = refl;
      pool = all (λ z. has_pool s.definitions z.pool) h.there.runs;
      leaves = all (λ z. passes_if_set (has_pool s.definitions) z.leaving) h.there.leaves;
      began = all (began_by s.clock) h.timed.runs;
      asked = all was_asked h.timed.asked;
      owes = omega (arith, ap {B = ℕ} (λ b. cond b 0 1) first);
    })
    (held-same s n stopping (λ z. refl) h.covered.held)

-- the query moves on: once it is taken out, its grant needs no more than is free
held-moved : (s : State) (r : Runner) (pool : Name) → IsHealthyWith 0 0 s → has_pool s.definitions pool ≡ true → runner_of s.running r.session ≡ Some r → takes s r pool ≡ true
    → AreWithinMemory s.definitions (holdings_of (moved_on s r pool))
held-moved s r pool h there found taken =
    let d = s.definitions in
    let t : State = record s { running = without_runner r.session s.running } in
    let k = holdings_of t in
    let g = holding (moved s.clock pool r) in
    let held = held-finished s r.session r found h.sound h.sized h.there h.covered.held in
    let known : AreThere d t.sessions t.waiting t.running = record {
      runs = all_without (λ x. has_pool d x.pool) (λ x. eqb x.session r.session) s.running h.there.runs;
      waits = h.there.waits;
      chosen = h.there.chosen;
      leaves = all_without (λ x. passes_if_set (has_pool d) x.leaving) (λ x. eqb x.session r.session) s.running h.there.leaves;
    } in
    let all = named t h.sound h.sized known in
    let more : AreNamed (with_grant k g) = record {
      distinct = all.distinct;
      known = all_push (λ x. list_any (same_name x.pool) (general ∷ reserve_names k.reserves)) k.grants g all.known (sym (named-pool t h.sound h.sized pool) ∙ there);
    } in
    let lends = lent-push k g all.distinct in
    let fits : (judged d k pool r.grant).fits ≡ true = and_left (judged d k pool r.grant).fits (allows_grant d pool r.grant) taken in
    let enough : need k pool r.grant ≤ free k =
    enough-turn (poolfit d k pool r.grant) (need k pool r.grant) (lent k) (threshold d (pool_row d general)) (free k) fits in
    let bytes : holdings_of (moved_on s r pool) ≡ with_grant k g =
    ap (λ (gs : List Holding). let u : Holdings = record k { grants = gs } in u) (map_push holding t.running (moved s.clock pool r)) in
    let within_all : taken_up (with_grant k g) ≤ k.in_force = omega (arith, held.within, lends, enough) in
    subst (AreWithinMemory d) (sym bytes) (record { within = within_all; granted = granted-within (with_grant k g) more within_all; in_force_most = held.in_force_most })

unsettled-moved : (s : State) (r : Runner) (pool : Name) → IsHealthyWith 0 0 s → has_pool s.definitions pool ≡ true → runner_of s.running r.session ≡ Some r → takes s r pool ≡ true
    → r.moves < MOVES_MOST → IsUnsettledWith 1 0 (moved_on s r pool)
unsettled-moved s r pool h there found taken few =
    let n = r.session in
    let x = moved s.clock pool r in
    let timed = runner-timed s.clock n s.waiting s.running r h.timed found in
    let all = λ (p : Runner → Bool) (is : list_all p s.running ≡ true). all_found p (λ (z : Runner). eqb z.session n) s.running r is found in
    unsettled-next s n r x (without_runner n s.running ++ x ∷ []) (moved_on s r pool).moves h found
    (turns-again (λ (z : Runner). z.session) n r x s.running found refl)
    (record {
      query = refl;
      pool = there;
      leaves = all (λ z. passes_if_set (has_pool s.definitions) z.leaving) h.there.leaves;
      began = and_both _ _ (is_within (running_time r s.clock) s.clock timed.running) (is_within s.clock s.clock (omega arith));
      asked = above (not (is_some r.leaving)) r.moves;
      owes = omega (arith, few);
    })
    (held-moved s r pool h there found taken) where
      above : (b : Bool) (k : ℕ) → (b || ltb 0 (k + 1)) ≡ true
      above b k = grind (arith, nat_tests)

-- the query gives way: its bytes are back, and it waits
unsettled-gave_way : (s : State) (r : Runner) (pool : Name) → IsHealthyWith 0 0 s → runner_of s.running r.session ≡ Some r → r.leaving ≡ Some pool → IsUnsettledWith 1 0 (gave_way s r pool)
unsettled-gave_way s r pool h found leaves =
    let n = r.session in
    let w = requeued s.clock pool r in
    let left = without_runner n s.running in
    let waits = s.waiting ++ w ∷ [] in
    let runs = session-runs s.sessions s.waiting s.running n r h.in_phase found in
    let just = running-just (phase_of s.sessions n) runs in
    let timed = runner-timed s.clock n s.waiting s.running r h.timed found in
    let known : passes_if_set (has_pool s.definitions) r.leaving ≡ true =
    all_found (λ (z : Runner). passes_if_set (has_pool s.definitions) z.leaving) (λ z. eqb z.session n) s.running r h.there.leaves found in
    let goes : Goes n phase.Waiting s.sessions s.waiting waits s.running left = record {
      there = there_if_live n s.sessions just.idle;
      waited = None;
      waits = Some w;
      ran = Some r;
      runs = None;
      waited_is = sym just.waiting;
      waits_is = refl;
      ran_is = sym runs;
      runs_is = refl;
      waiters = turns-come (λ (z : Waiter). z.session) n w s.waiting refl;
      runners = turns-leave (λ (z : Runner). z.session) n r s.running found;
    } in
    record {
      sound = h.sound;
      sized = h.sized;
      there = there-goes s.definitions n phase.Waiting s.sessions s.waiting waits s.running left goes
          (ap (passes_if_set (has_pool s.definitions)) (sym leaves) ∙ known) refl refl h.there;
      held = held-finished s n r found h.sound h.sized h.there h.covered.held;
      in_phase = in_phase-goes n phase.Waiting s.sessions s.waiting waits s.running left goes h.in_phase;
      opened = opened-with s.last_session n phase.Waiting s.sessions h.opened;
      numbered = numbered-goes s.last_query n phase.Waiting s.sessions s.waiting waits s.running left goes (λ m. omega arith) h.numbered;
      timed = timed-goes s.clock n phase.Waiting s.sessions s.waiting waits s.running left goes (is_within w.ran s.clock timed.running) refl refl h.timed;
      room =
          room-owed 0 1 0 (owed s.sessions s.waiting s.running) (owed (with_phase n phase.Waiting s.sessions) waits left)
          s.journal s.room s.definitions.changes s.last_session s.last_query (omega arith)
          (omega (
            arith,
            owed-goes n phase.Waiting s.sessions s.waiting waits s.running left goes,
            ap one_if just.ended,
            ap {B = ℕ} (λ (o : Option Name). cond (is_some o) 3 1) leaves,
          )) h.room;
    }

-- a waiting query that is cancelled ends
unsettled-withdrawn : (s : State) (w : Waiter) → IsHealthyWith 0 0 s → IsAmong w s.waiting → IsUnsettledWith 1 0 (withdrawn s w).state
unsettled-withdrawn s w h among = to_unsettled 1 0 (ended_as end.Cancelled s w) (healthy-ended-more 0 0 end.Cancelled s w among h)

-- a pool that is dropped is there, and is not GENERAL
drop-free : (d : Definitions) (pool : Name) → (let o : Option Refusal = None in drop_pool_refusal d pool ≡ o) → (has_pool d pool ≡ true) × (same_name pool general ≡ false)
drop-free d pool h =
    let more = pool_needed d.pools pool ∷ changes_full d ∷ [] in
    let first = first-none (pool_missing d pool) (pool_built_in pool ∷ more) h in
    let second = first-none (pool_built_in pool) more first.1 in
    (not-missing (has_pool d pool) _ first.0, not-refused (same_name pool general) _ second.0)

-- the pool is dropped: its bytes are GENERAL's, and so are its queries
dropped-counted : (s : State) (pool : Name) → IsHealthyWith 0 0 s → has_pool s.definitions pool ≡ true → same_name pool general ≡ false
    → (let new = counted (without_pool s.definitions pool) in IsSound new → IsUnsettledWith 0 1 (dropped s pool new))
dropped-counted s pool h known user sound =
    let d = s.definitions in
    let new = counted (without_pool d pool) in
    let front = goes_before d pool in
    let apart : same_name general pool ≡ false = same_name-sym general pool ∙ user in
    let there = there-dropped d pool front s.sessions s.waiting s.running apart (general-there d h.sound) h.there in
    let held : AreWithinMemory d (holdings_of (dropped s pool new)) =
    subst (AreWithinMemory d) (sym (bytes-dropped s pool new refl h.sound h.sized apart)) (held-dropped s pool h.sound h.sized h.there user known h.covered.held) in
    record {
      sound = sound;
      sized = sized-dropped s pool new refl h.sound h.sized apart;
      there = record { runs = there.runs; waits = there.waits; chosen = there.chosen; leaves = there.leaves };
      held = record { within = held.within; granted = held.granted; in_force_most = held.in_force_most };
      in_phase = in_phase-dropped pool front s.sessions s.waiting s.running h.in_phase;
      opened = opened-dropped s.last_session pool s.sessions h.opened;
      numbered = numbered-dropped s.last_query pool front s.waiting s.running h.numbered;
      timed = timed-dropped s.clock pool front s.waiting s.running h.timed;
      room = record {
        kept = omega (arith, h.room.kept, owed-dropped pool front s.sessions s.waiting s.running);
        defined = omega (arith, h.room.defined);
        sessions = h.room.sessions;
        queries = h.room.queries;
      };
    }

unsettled-dropped : (s : State) (pool : Name) (new : Definitions) → IsFormed (Define (DropPool pool)) → IsHealthyWith 0 0 s → accepted s.definitions (DropPool pool) ≡ Ok new
    → IsUnsettledWith 0 1 (dropped s pool new)
unsettled-dropped s pool new formed h accepts =
    let parts = accepted-left s.definitions (DropPool pool) new accepts in
    let free = drop-free s.definitions pool parts.0 in
    let sound = accepted-sound s.definitions (DropPool pool) new h.sound (well_formed-in_range (DropPool pool) formed) accepts in
    subst (λ (d : Definitions). IsUnsettledWith 0 1 (dropped s pool d)) parts.1
    (dropped-counted s pool h free.0 free.1 (subst IsSound (sym parts.1) sound))

-- a query that is to go on elsewhere may be moved, and its target is there
target-is : (s : State) (seat session : ℕ) (x : Session) (r : Runner) (pool : Name) → IsChecked s seat session x r (GoesTo pool)
    → target s.definitions r.pool (running_time r s.clock) r.moves ≡ Some pool
target-is s seat session x r pool is = verdict-target s.definitions r x.cap_ms (running_time r s.clock) pool is.comes_to

target-known : (s : State) (seat session : ℕ) (x : Session) (r : Runner) (pool : Name) → IsHealthyWith 0 0 s → IsChecked s seat session x r (GoesTo pool)
    → has_pool s.definitions pool ≡ true
target-known s seat session x r pool h is = target-there s.definitions r.pool (running_time r s.clock) r.moves pool h.sound (target-is s seat session x r pool is)

moves-left : (s : State) (seat session : ℕ) (x : Session) (r : Runner) (pool : Name) → IsChecked s seat session x r (GoesTo pool) → r.moves < MOVES_MOST
moves-left s seat session x r pool is = target-moves s.definitions r.pool (running_time r s.clock) r.moves pool (target-is s seat session x r pool is)

-- what holds of every change, before it settles
pub unsettled-changed : (s : State) (seat : ℕ) (event : Event) (c : Change) → IsFormed event → IsHealthyWith 0 0 s → IsChange s seat event c
    → IsUnsettledWith (counted_for c.answer) (defining_for c.answer) c.state
unsettled-changed s seat _ _ formed h (defines statement new none accepts) = unsettled-defined s statement new formed h none accepts
unsettled-changed s seat _ _ formed h (drops pool new accepts) = unsettled-dropped s pool new formed h accepts
unsettled-changed s seat _ _ formed h (opens user may) = unsettled-opened s seat user h may
unsettled-changed s seat _ _ formed h (chooses session pool x found may other) = unsettled-chosen s x pool h may
unsettled-changed s seat _ _ formed h (caps session cap x found not_full other) = unsettled-capped s x (within_moments cap) h not_full
unsettled-changed s seat _ _ formed h (submits session floor x found may) = unsettled-submitted s x floor h (session_of-found s seat session x found) may
unsettled-changed s seat _ _ formed h (collects session x end found ended) = unsettled-collected s x end h (session_of-found s seat session x found) ended
unsettled-changed s seat _ _ formed h (moves_on session x r pool is takes) = unsettled-moved s r pool h (target-known s seat session x r pool h is) (runner-self s x.number r is.runs) takes (moves-left s seat session x r pool is)
unsettled-changed s seat _ _ formed h (asks session x r pool is) = unsettled-asked s r pool h (target-known s seat session x r pool h is) (runner-self s x.number r is.runs)
    (moves-left s seat session x r pool is) (verdict-free s.definitions r x.cap_ms (running_time r s.clock) pool is.comes_to)
unsettled-changed s seat _ _ formed h (gives_way session x r pool found runs leaves) = unsettled-gave_way s r pool h (runner-self s x.number r runs) leaves
unsettled-changed s seat _ _ formed h (withdraws by target x y w may waits) = unsettled-withdrawn s w h (found_among (λ z. eqb z.session y.number) w s.waiting waits)
unsettled-changed s seat _ _ formed h (stops by target x y r may runs first) = unsettled-stopped s r h (runner-self s y.number r runs) first
unsettled-changed s seat _ _ formed h (finishes session x found runs) = unsettled-finished s x h (session_of-found s seat session x found) runs
unsettled-changed s seat _ _ formed h (closes session x found rests) = unsettled-closed s x h (session_of-found s seat session x found) rests

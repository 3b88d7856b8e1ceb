-- The session chooses a pool of the workload, while nothing runs or waits.
use Rattle.std.proofs.Common.{◌≡◌, ℕ, ◌+◌, ◌*◌, ◌<◌, ◌≤◌, Bool, true, false, not, ◌||◌, cond, ltb, List, [], ◌∷◌, ◌++◌, Some, None, Option, refl, sym, ap, ◌∙◌, subst, arith, max}
use Rattle.std.proofs.lemmas.Bool.{or_left, or_right, le-ltb}
use Rattle.std.proofs.lemmas.List.Sums.{sum_by_push}
use Rattle.rm_base.specs.declared.definitions.Definitions.{Definitions}
use Rattle.rm_base.specs.declared.entry.Entry.{Entry}
use Rattle.rm_base.specs.declared.event.Event.TheVariants.{SetPool}
use Rattle.rm_base.specs.declared.limits.TheConstants.{SCRIPT_ROOM}
use Rattle.rm_base.specs.declared.name.Name.{Name}
use Rattle.rm_base.specs.declared.refusal.Refusal.{Refusal}
use Rattle.rm_base.specs.declared.refusal.Refusal.TheVariants as refusal
use Rattle.rm_base.specs.declared.reply.Reply.TheVariants as reply
use Rattle.rm_base.specs.Name.{same_name, general, dbadmin}
use Rattle.rm_base.proofs.Names.{same_name-eq}
use Rattle.rm_rules.specs.declared.answer.Answer.TheVariants.{Says}
use Rattle.rm_rules.specs.declared.state.Phase.TheVariants as phase
use Rattle.rm_rules.specs.declared.state.Runner.{Runner}
use Rattle.rm_rules.specs.declared.state.Session.{Session}
use Rattle.rm_rules.specs.declared.state.Waiter.{Waiter}
use Rattle.rm_rules.specs.Refusals.{refused_if, first_refusal, unless_refused}
use Rattle.rm_rules.specs.Change.{Change, quiet, changing, has_chosen, chosen, choosing_refusal, tried}
use Rattle.rm_rules.specs.Sound.{has_pool}
use Rattle.rm_rules.specs.State.{State, with_choice, counted_entries, is_definition}
use Rattle.rm_rules.specs.Step.{Outcome, moved_to, outcome, step}
use Rattle.workload.specs.Rested.{own_session, IsRested}

-- a state of the idle session, written out
abbrev pub still : State → Option Name → State
still s p = record s { sessions = own_session p phase.Idle ∷ []; running = []; waiting = [] }

pub is-still : (s : State) (p : Option Name) → s.sessions ≡ own_session p phase.Idle ∷ [] → s.running ≡ [] → s.waiting ≡ [] → s ≡ still s p
is-still s p sessions running waiting =
    ap (λ (l : List Session). let u : State = record s { sessions = l } in u) sessions
    ∙ ap (λ (l : List Runner). let u : State = record s { sessions = own_session p phase.Idle ∷ []; running = l } in u) running
    ∙ ap (λ (l : List Waiter). let u : State = record s { sessions = own_session p phase.Idle ∷ []; running = []; waiting = l } in u) waiting

-- an entry that accepts no statement counts
pub one_more_entry : (journal : List Entry) (e : Entry) → is_definition e ≡ false → counted_entries (journal ++ e ∷ []) ≡ counted_entries journal + 1
one_more_entry journal e plain =
    omega (arith, sum_by_push (λ (x : Entry). cond (not (is_definition x)) 1 0) journal e, ap {B = ℕ} (λ c. cond (not c) 1 0) plain)

-- what the choice leaves
pub record IsChosen (pool : Name) (s t : State) : Type 0 where
  pub definitions : t.definitions ≡ s.definitions
  pub last_query : t.last_query ≡ s.last_query
  pub room : t.room ≡ s.room
  pub sessions : t.sessions ≡ own_session (Some pool) phase.Idle ∷ []
  pub running : t.running ≡ []
  pub waiting : t.waiting ≡ []
  pub journal : counted_entries t.journal ≤ counted_entries s.journal + 1

-- it is not refused
choice_allowed : (s : State) (p : Option Name) (pool : Name) → has_pool s.definitions pool ≡ true → s.room ≡ SCRIPT_ROOM → counted_entries s.journal ≤ 30000
    → choosing_refusal (still s p) (own_session p phase.Idle) pool ≡ None
choice_allowed s p pool known room few =
    let full : ltb s.room (counted_entries s.journal + 1 + 40 * 0 + 2 * 1) ≡ false = le-ltb s.room (counted_entries s.journal + 1 + 40 * 0 + 2 * 1) (omega (arith, room, few)) in
    ap (λ b. first_refusal (refused_if (not b) (refusal.NoSuchPool pool) ∷ refused_if (not (same_name pool general || true)) (refusal.NoUsage pool)
    ∷ refused_if (ltb s.room (counted_entries s.journal + 1 + 40 * 0 + 2 * 1)) (refusal.JournalFull s.room) ∷ [])) known
    ∙ ap (λ b. first_refusal (refused_if (not b) (refusal.NoUsage pool)
    ∷ refused_if (ltb s.room (counted_entries s.journal + 1 + 40 * 0 + 2 * 1)) (refusal.JournalFull s.room) ∷ [])) (or_right (same_name pool general) true refl)
    ∙ ap (λ b. first_refusal (refused_if b (refusal.JournalFull s.room) ∷ [])) full

-- the pool is the one that was chosen before, or another
choice-turn : (s : State) (p : Option Name) (pool : Name) (at : ℕ) (b : Bool) → has_chosen (own_session p phase.Idle) pool ≡ b
    → (let m = moved_to (still s p) at in
    let c : Change = cond b (quiet m (Says reply.Set)) (changing (record m { sessions = with_choice 1 pool m.sessions }) (Says reply.Set)) in
    IsChosen pool s (outcome (still s p) false 0 (SetPool 1 pool) c).state)
choice-turn s None pool at true e = absurd (cc)
choice-turn s (Some q) pool at true e = record {
  definitions = refl;
  last_query = refl;
  room = refl;
  sessions = ap (λ (n : Name). own_session (Some n) phase.Idle ∷ []) (same_name-eq q pool e);
  running = refl;
  waiting = refl;
  journal = omega arith;
}
choice-turn s p pool at false e = record {
  definitions = refl;
  last_query = refl;
  room = refl;
  sessions = refl;
  running = refl;
  waiting = refl;
  journal = omega (arith, one_more_entry s.journal (record { seat = 0; at = max s.clock at; event = SetPool 1 pool; reply = reply.Set }) refl);
}

choice-still : (s : State) (p : Option Name) (pool : Name) (at : ℕ) → has_pool s.definitions pool ≡ true → s.room ≡ SCRIPT_ROOM → counted_entries s.journal ≤ 30000
    → IsChosen pool s (step (still s p) 0 at (SetPool 1 pool)).state
choice-still s p pool at known room few =
    let m = moved_to (still s p) at in
    let x = own_session p phase.Idle in
    let goes : step (still s p) 0 at (SetPool 1 pool) ≡ outcome (still s p) false 0 (SetPool 1 pool) (chosen m x pool) =
    ap (λ (o : Option Refusal). outcome (still s p) false 0 (SetPool 1 pool) (tried m (unless_refused o (chosen m x pool)))) (choice_allowed m p pool known room few) in
    subst (λ (o : Outcome). IsChosen pool s o.state) (sym goes) (choice-turn s p pool at (has_chosen x pool) refl)

pub choice-step : (s : State) (entries : ℕ) (pool : Name) (at : ℕ) → IsRested entries s → has_pool s.definitions pool ≡ true → s.room ≡ SCRIPT_ROOM → counted_entries s.journal ≤ 30000
    → IsChosen pool s (step s 0 at (SetPool 1 pool)).state
choice-step s entries pool at rested known room few =
    subst (λ (u : State). IsChosen pool s (step u 0 at (SetPool 1 pool)).state) (sym (is-still s rested.chosen rested.sessions rested.running rested.waiting))
    (choice-still s rested.chosen pool at known room few)

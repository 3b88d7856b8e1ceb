-- What each event changes, and what it keeps.
use Rattle.std.proofs.Common.{◌≡◌, ℕ, ◌+◌, ◌<◌, Bool, true, false, not, cond, eqb, leb, [], ◌∷◌, length, Some, None, Option, Result, Ok, Err, refl, sym, ap, ◌∙◌, subst}
use Rattle.std.specs.Prelude.{option_and_then}
use Rattle.std.specs.Option.{is_some}
use Rattle.std.proofs.lemmas.Bool.{eqb-true, false≢true}
use Rattle.rm_base.specs.declared.limits.TheConstants.{SESSIONS_MOST}
use Rattle.rm_base.specs.declared.definitions.Definitions.{Definitions}
use Rattle.rm_base.specs.declared.event.Event.{Event}
use Rattle.rm_base.specs.declared.event.Event.TheVariants.{Define, Open, SetPool, SetCap, Submit, Poll, Check, GiveWay, Finish, Cancel, Close}
use Rattle.rm_base.specs.declared.name.Name.{Name}
use Rattle.rm_base.specs.declared.refusal.Refusal.{Refusal}
use Rattle.rm_base.specs.declared.refusal.Refusal.TheVariants as refusal
use Rattle.rm_base.specs.declared.reply.End.{End}
use Rattle.rm_base.specs.declared.reply.Reply.{Reply}
use Rattle.rm_base.specs.declared.reply.Reply.TheVariants as reply
use Rattle.rm_base.specs.Name.{same_name}
use Rattle.rm_base.specs.declared.statement.Statement.{Statement}
use Rattle.rm_base.specs.declared.statement.Statement.TheVariants.{CreatePool, AlterPool, DropPool, CreateUser, AlterUser, DropUser, CreateRole, AlterRole, DropRole, GrantUsage, RevokeUsage, GrantRole, RevokeRole}
use Rattle.rm_rules.specs.declared.answer.Answer.{Answer}
use Rattle.rm_rules.specs.declared.answer.Answer.TheVariants.{Says, Tells, Collects}
use Rattle.rm_rules.specs.declared.state.Phase.{Phase}
use Rattle.rm_rules.specs.declared.state.Phase.TheVariants as phase
use Rattle.rm_rules.specs.declared.state.Session.{Session}
use Rattle.rm_rules.specs.declared.state.Waiter.{Waiter}
use Rattle.rm_rules.specs.declared.state.Runner.{Runner}
use Rattle.rm_rules.specs.declared.verdict.Verdict.{Verdict}
use Rattle.rm_rules.specs.declared.verdict.Verdict.TheVariants as verdict
use Rattle.rm_rules.specs.declared.verdict.Verdict.TheVariants.{GoesTo}
use Rattle.rm_rules.specs.Definitions.{pool_row, user_called, usage}
use Rattle.rm_rules.specs.Refusals.{pool_missing, user_missing}
use Rattle.rm_rules.specs.Acceptance.{accepted}
use Rattle.rm_rules.specs.Ask.{is_too_large}
use Rattle.rm_rules.specs.State.{State, is_defined, waiter_of, runner_of, with_cap, session_called, session_of, if_opened_by, session_pool, with_choice, is_idle, is_active, is_running, live_queries}
use Rattle.rm_rules.specs.Change.{Change, quiet, changing, with_session, size_refusal, session_busy, not_live, not_running, usage_missing, sessions_full, journal_full, is_journal_full, defined, defined_by, defining_to, opened, opening_refusal, has_chosen, chosen, choosing_refusal, choosing, submitted, submitting_refusal, submitting, polled, polling, collected, finished, finishing, session_running, closed, closing, within_moments, has_cap, cap_set, capping, with_runner, checked_to, checked, checking, giving_way_to, giving_way, withdrawn, stopped, cancelled, cancelled_by, cancelling, change, tried}
use Rattle.rm_rules.specs.DropPool.{drops_none, dropped}
use Rattle.rm_rules.specs.Target.{running_time, verdict}
use Rattle.rm_rules.specs.Moving.{takes, moved_on, asked_to_leave, gave_way, asked_to_stop}
use Rattle.rm_rules.specs.Answers.{is_defining}
use Rattle.rm_rules.specs.Sound.{has_pool}
use Rattle.rm_rules.proofs.Taken.{found_passes, not_true}
use Rattle.rm_rules.proofs.Verdicts.{IsCheckReply, says_go, says_way, says_end, says_stop, verdict-says}
use Rattle.rm_rules.proofs.Refused.{not-refused, first-none, not_above, unless-ok}

-- the session that an event speaks of
of_seat-turn : (seat : ℕ) (x : Session) (o : Option Session) → option_and_then (if_opened_by seat) o ≡ Some x → (o ≡ Some x) × (x.seat ≡ seat)
of_seat-turn seat x None h = absurd (let none : None ≡ Some x = h in cc)
of_seat-turn seat x (Some y) h = turn (eqb y.seat seat) refl h where
  turn : (b : Bool) → eqb y.seat seat ≡ b → cond b (Some y) None ≡ Some x → (Some y ≡ Some x) × (x.seat ≡ seat)
  turn true e is = let same : y ≡ x = cc in (is, sym (ap (λ (z : Session). z.seat) same) ∙ eqb-true y.seat seat e)
  turn false e is = let none : None ≡ Some x = is in absurd (cc)

pub record IsOpenedBy (s : State) (seat n : ℕ) (x : Session) : Type 0 where
  pub called : session_called s.sessions n ≡ Some x
  pub number : x.number ≡ n
  pub of_seat : x.seat ≡ seat

pub session_of-is : (s : State) (seat n : ℕ) (x : Session) → session_of s seat n ≡ Some x → IsOpenedBy s seat n x
session_of-is s seat n x h =
    let found = of_seat-turn seat x (session_called s.sessions n) h in
    record {
      called = found.0;
      number = eqb-true x.number n (found_passes (λ (z : Session). eqb z.number n) x s.sessions found.0);
      of_seat = found.1;
    }

pub session_of-found : (s : State) (seat n : ℕ) (x : Session) → session_of s seat n ≡ Some x → session_called s.sessions x.number ≡ Some x
session_of-found s seat n x h = let is = session_of-is s seat n x h in ap (session_called s.sessions) is.number ∙ is.called

-- what is done for a session, where there is one
with_session-turn : (act : Session → Result Change Refusal) (c : Change) (o : Option Session)
    → (let r : Result Change Refusal = elim o [ Some x ↦ act x | None ↦ Err refusal.NoSuchSession ] in r ≡ Ok c) → (x : Session) × (o ≡ Some x) × (act x ≡ Ok c)
with_session-turn act c None h = absurd (cc)
with_session-turn act c (Some x) h = (x, refl, h)

pub with_session-ok : (s : State) (seat n : ℕ) (act : Session → Result Change Refusal) (c : Change) → with_session s seat n act ≡ Ok c
    → (x : Session) × (session_of s seat n ≡ Some x) × (act x ≡ Ok c)
with_session-ok s seat n act c h = with_session-turn act c (session_of s seat n) h

-- Open is not refused
pub record MayOpen (s : State) (user : Name) : Type 0 where
  pub user_there : is_some (user_called s.definitions.users user) ≡ true
  pub few : length s.sessions < SESSIONS_MOST
  pub not_full : is_journal_full s (live_queries s.sessions) (length s.sessions + 1) ≡ false

pub may_open : (s : State) (user : Name) → (let o : Option Refusal = None in opening_refusal s user ≡ o) → MayOpen s user
may_open s user h =
    let full = journal_full s (live_queries s.sessions) (length s.sessions + 1) in
    let first = first-none (user_missing s.definitions user) (sessions_full s ∷ full ∷ []) h in
    let second = first-none (sessions_full s) (full ∷ []) first.1 in
    let third = first-none full [] second.1 in
    record {
      user_there = not_true _ (not-refused (not (is_some (user_called s.definitions.users user))) _ first.0);
      few = not_above _ _ (not-refused (leb SESSIONS_MOST (length s.sessions)) _ second.0);
      not_full = not-refused (is_journal_full s (live_queries s.sessions) (length s.sessions + 1)) _ third.0;
    }

-- SetPool is not refused
pub record MayChoose (s : State) (x : Session) (pool : Name) : Type 0 where
  pub pool_there : has_pool s.definitions pool ≡ true
  pub may_use : usage s.definitions x.user pool ≡ true
  pub not_full : is_journal_full s (live_queries s.sessions) (length s.sessions) ≡ false

pub may_choose : (s : State) (x : Session) (pool : Name) → (let o : Option Refusal = None in choosing_refusal s x pool ≡ o) → MayChoose s x pool
may_choose s x pool h =
    let full = journal_full s (live_queries s.sessions) (length s.sessions) in
    let first = first-none (pool_missing s.definitions pool) (usage_missing s.definitions x.user pool ∷ full ∷ []) h in
    let second = first-none (usage_missing s.definitions x.user pool) (full ∷ []) first.1 in
    let third = first-none full [] second.1 in
    record {
      pool_there = not_true _ (not-refused (not (has_pool s.definitions pool)) _ first.0);
      may_use = not_true _ (not-refused (not (usage s.definitions x.user pool)) _ second.0);
      not_full = not-refused (is_journal_full s (live_queries s.sessions) (length s.sessions)) _ third.0;
    }

-- Submit is not refused
pub record MaySubmit (s : State) (x : Session) (pool : Name) (floor : ℕ) : Type 0 where
  pub idle : is_idle x.phase ≡ true
  pub user_there : is_some (user_called s.definitions.users x.user) ≡ true
  pub may_use : usage s.definitions x.user pool ≡ true
  pub small : is_too_large s.definitions (pool_row s.definitions pool) x.user floor ≡ false
  pub not_full : is_journal_full s (live_queries s.sessions + 1) (length s.sessions) ≡ false

pub may_submit : (s : State) (x : Session) (pool : Name) (floor : ℕ) → (let o : Option Refusal = None in submitting_refusal s x pool floor ≡ o) → MaySubmit s x pool floor
may_submit s x pool floor h =
    let d = s.definitions in
    let full = journal_full s (live_queries s.sessions + 1) (length s.sessions) in
    let size = size_refusal d pool x.user floor in
    let first = first-none (session_busy x) (user_missing d x.user ∷ usage_missing d x.user pool ∷ size ∷ full ∷ []) h in
    let second = first-none (user_missing d x.user) (usage_missing d x.user pool ∷ size ∷ full ∷ []) first.1 in
    let third = first-none (usage_missing d x.user pool) (size ∷ full ∷ []) second.1 in
    let fourth = first-none size (full ∷ []) third.1 in
    let fifth = first-none full [] fourth.1 in
    record {
      idle = not_true _ (not-refused (not (is_idle x.phase)) _ first.0);
      user_there = not_true _ (not-refused (not (is_some (user_called d.users x.user))) _ second.0);
      may_use = not_true _ (not-refused (not (usage d x.user pool)) _ third.0);
      small = not-refused (is_too_large d (pool_row d pool) x.user floor) _ fourth.0;
      not_full = not-refused (is_journal_full s (live_queries s.sessions + 1) (length s.sessions)) _ fifth.0;
    }

-- what the choice of another pool changes
abbrev pub choice_made : State → Session → Name → Change
choice_made s x pool = changing (record s { sessions = with_choice x.number pool s.sessions }) (Says reply.Set)

abbrev pub cap_made : State → Session → Option ℕ → Change
cap_made s x cap = changing (record s { sessions = with_cap x.number cap s.sessions }) (Says reply.Set)

-- a check of the session's running query comes to this
pub record IsChecked (s : State) (seat session : ℕ) (x : Session) (r : Runner) (v : Verdict) : Type 0 where
  pub found : session_of s seat session ≡ Some x
  pub runs : runner_of s.running x.number ≡ Some r
  pub comes_to : verdict s.definitions r x.cap_ms (running_time r s.clock) ≡ v

-- one session asks for the end of another's query
pub record MayCancel (s : State) (seat by target : ℕ) (x y : Session) : Type 0 where
  pub found : session_of s seat by ≡ Some x
  pub called : session_called s.sessions target ≡ Some y
  pub of_user : same_name x.user y.user ≡ true

-- what each accepted event changes, if it changes anything
pub data IsChange (s : State) (seat : ℕ) : Event → Change → Type 0 where
  defines : (statement : Statement) (new : Definitions) → drops_none statement ≡ true → accepted s.definitions statement ≡ Ok new
      → IsChange s seat (Define statement) (changing (defined s new) (Says reply.Defined))
  drops : (pool : Name) (new : Definitions) → accepted s.definitions (DropPool pool) ≡ Ok new
      → IsChange s seat (Define (DropPool pool)) (changing (dropped s pool new) (Says reply.Defined))
  opens : (user : Name) → MayOpen s user → IsChange s seat (Open user) (opened s seat user)
  chooses : (session : ℕ) (pool : Name) (x : Session) → session_of s seat session ≡ Some x → MayChoose s x pool → has_chosen x pool ≡ false
      → IsChange s seat (SetPool session pool) (choice_made s x pool)
  caps : (session : ℕ) (cap : Option ℕ) (x : Session) → session_of s seat session ≡ Some x → is_journal_full s (live_queries s.sessions) (length s.sessions) ≡ false
      → has_cap x (within_moments cap) ≡ false → IsChange s seat (SetCap session cap) (cap_made s x (within_moments cap))
  submits : (session floor : ℕ) (x : Session) → session_of s seat session ≡ Some x → MaySubmit s x (session_pool s.definitions x) floor
      → IsChange s seat (Submit session floor) (submitted s x (session_pool s.definitions x) floor)
  collects : (session : ℕ) (x : Session) (end : End) → session_of s seat session ≡ Some x → x.phase ≡ phase.Ended end
      → IsChange s seat (Poll session) (collected s x end)
  moves_on : (session : ℕ) (x : Session) (r : Runner) (pool : Name) → IsChecked s seat session x r (GoesTo pool) → takes s r pool ≡ true
      → IsChange s seat (Check session) (changing (moved_on s r pool) (Says (reply.MovedOn pool)))
  asks : (session : ℕ) (x : Session) (r : Runner) (pool : Name) → IsChecked s seat session x r (GoesTo pool)
      → IsChange s seat (Check session) (changing (asked_to_leave s r pool) (Says (reply.GiveWay pool)))
  gives_way : (session : ℕ) (x : Session) (r : Runner) (pool : Name) → session_of s seat session ≡ Some x → runner_of s.running x.number ≡ Some r → r.leaving ≡ Some pool
      → IsChange s seat (GiveWay session) (changing (gave_way s r pool) (Collects r.session))
  finishes : (session : ℕ) (x : Session) → session_of s seat session ≡ Some x → is_running x.phase ≡ true → IsChange s seat (Finish session) (finished s x)
  withdraws : (by target : ℕ) (x y : Session) (w : Waiter) → MayCancel s seat by target x y → waiter_of s.waiting y.number ≡ Some w
      → IsChange s seat (Cancel by target) (withdrawn s w)
  stops : (by target : ℕ) (x y : Session) (r : Runner) → MayCancel s seat by target x y → runner_of s.running y.number ≡ Some r → r.cancelled ≡ false
      → IsChange s seat (Cancel by target) (changing (asked_to_stop s r) (Says reply.Cancelled))
  closes : (session : ℕ) (x : Session) → session_of s seat session ≡ Some x → is_running x.phase ≡ false → IsChange s seat (Close session) (closed s x)

-- what an event does where it changes nothing
pub data IsQuiet (s : State) (seat : ℕ) : Event → Answer → Type 0 where
  refuses : (event : Event) (r : Refusal) → change s seat event ≡ Err r → IsQuiet s seat event (Says (reply.Refused r))
  repeats : (session : ℕ) (pool : Name) (x : Session) → session_of s seat session ≡ Some x → has_chosen x pool ≡ true → IsQuiet s seat (SetPool session pool) (Says reply.Set)
  caps_again : (session : ℕ) (cap : Option ℕ) (x : Session) → session_of s seat session ≡ Some x → has_cap x (within_moments cap) ≡ true
      → IsQuiet s seat (SetCap session cap) (Says reply.Set)
  judges : (session : ℕ) (x : Session) (r : Runner) (answer : Reply) → IsChecked s seat session x r (verdict.Says answer) → IsCheckReply answer
      → IsQuiet s seat (Check session) (Says answer)
  stops_again : (by target : ℕ) (x y : Session) (r : Runner) → MayCancel s seat by target x y → runner_of s.running y.number ≡ Some r → r.cancelled ≡ true
      → IsQuiet s seat (Cancel by target) (Says reply.Cancelled)
  tells : (session : ℕ) (x : Session) → session_of s seat session ≡ Some x → is_active x.phase ≡ true → IsQuiet s seat (Poll session) (Tells x.number)

-- what is tried: nothing changes and an answer is given, or an event changes something
pub data IsTried (s : State) (seat : ℕ) (event : Event) : Change → Type 0 where
  stays : (answer : Answer) → IsQuiet s seat event answer → IsTried s seat event (quiet s answer)
  changes : (c : Change) → IsChange s seat event c → c.changed ≡ true → IsTried s seat event c

check-plain : (answer : Reply) → IsCheckReply answer → is_defined answer ≡ false
check-plain _ says_go = refl
check-plain _ (says_way pool) = refl
check-plain _ (says_end which ran cap) = refl
check-plain _ says_stop = refl

pub quiet-plain : (s : State) (seat : ℕ) (event : Event) (answer : Answer) → IsQuiet s seat event answer → is_defining answer ≡ false
quiet-plain s seat _ _ (refuses event r is) = refl
quiet-plain s seat _ _ (repeats session pool x found same) = refl
quiet-plain s seat _ _ (caps_again session cap x found same) = refl
quiet-plain s seat _ _ (judges session x r answer is says) = check-plain answer says
quiet-plain s seat _ _ (stops_again by target x y r may runs already) = refl
quiet-plain s seat _ _ (tells session x found active) = refl

-- a change that an event makes, under the name of what it computes to
made-change : (s : State) (seat : ℕ) (event : Event) (made c : Change) → made ≡ c → made.changed ≡ true → IsChange s seat event made → IsTried s seat event c
made-change s seat event made c is loud change = subst (IsTried s seat event) is (changes made change loud)

made-quiet : (s : State) (seat : ℕ) (event : Event) (answer : Answer) (c : Change) → quiet s answer ≡ c → IsQuiet s seat event answer → IsTried s seat event c
made-quiet s seat event answer c is still = subst (IsTried s seat event) is (stays answer still)

by-statement : (s : State) (seat : ℕ) (statement : Statement) (new : Definitions) → accepted s.definitions statement ≡ Ok new
    → IsChange s seat (Define statement) (changing (defined_by s statement new) (Says reply.Defined))
by-statement s seat (CreatePool name change) new e = defines (CreatePool name change) new refl e
by-statement s seat (AlterPool name change) new e = defines (AlterPool name change) new refl e
by-statement s seat (DropPool name) new e = drops name new e
by-statement s seat (CreateUser name change) new e = defines (CreateUser name change) new refl e
by-statement s seat (AlterUser name change) new e = defines (AlterUser name change) new refl e
by-statement s seat (DropUser name) new e = defines (DropUser name) new refl e
by-statement s seat (CreateRole name) new e = defines (CreateRole name) new refl e
by-statement s seat (AlterRole name pool) new e = defines (AlterRole name pool) new refl e
by-statement s seat (DropRole name) new e = defines (DropRole name) new refl e
by-statement s seat (GrantUsage pool grantee) new e = defines (GrantUsage pool grantee) new refl e
by-statement s seat (RevokeUsage pool grantee) new e = defines (RevokeUsage pool grantee) new refl e
by-statement s seat (GrantRole role user) new e = defines (GrantRole role user) new refl e
by-statement s seat (RevokeRole role user) new e = defines (RevokeRole role user) new refl e

define-turn : (s : State) (seat : ℕ) (statement : Statement) (r : Result Definitions Refusal) (c : Change) → accepted s.definitions statement ≡ r → defining_to s statement r ≡ Ok c
    → IsTried s seat (Define statement) c
define-turn s seat statement (Err refusal) c e h = absurd (cc)
define-turn s seat statement (Ok new) c e h =
    let made = changing (defined_by s statement new) (Says reply.Defined) in
    let is : made ≡ c = cc in
    made-change s seat (Define statement) made c is refl (by-statement s seat statement new e)

choose-turn : (s : State) (seat session : ℕ) (pool : Name) (x : Session) (c : Change) (b : Bool) → session_of s seat session ≡ Some x → MayChoose s x pool → has_chosen x pool ≡ b
    → cond b (quiet s (Says reply.Set)) (choice_made s x pool) ≡ c → IsTried s seat (SetPool session pool) c
choose-turn s seat session pool x c true found may e h = made-quiet s seat (SetPool session pool) (Says reply.Set) c h (repeats session pool x found e)
choose-turn s seat session pool x c false found may e h = made-change s seat (SetPool session pool) (choice_made s x pool) c h refl (chooses session pool x found may e)

cap-turn : (s : State) (seat session : ℕ) (cap : Option ℕ) (x : Session) (c : Change) (b : Bool) → session_of s seat session ≡ Some x
    → is_journal_full s (live_queries s.sessions) (length s.sessions) ≡ false → has_cap x (within_moments cap) ≡ b
    → cond b (quiet s (Says reply.Set)) (cap_made s x (within_moments cap)) ≡ c → IsTried s seat (SetCap session cap) c
cap-turn s seat session cap x c true found room e h = made-quiet s seat (SetCap session cap) (Says reply.Set) c h (caps_again session cap x found e)
cap-turn s seat session cap x c false found room e h = made-change s seat (SetCap session cap) (cap_made s x (within_moments cap)) c h refl (caps session cap x found room e)

-- what is done for a session's running query, where there is one
with_runner-turn : (act : Runner → Result Change Refusal) (c : Change) (o : Option Runner)
    → (let r : Result Change Refusal = elim o [ Some x ↦ act x | None ↦ Err refusal.NotLive ] in r ≡ Ok c) → (x : Runner) × (o ≡ Some x) × (act x ≡ Ok c)
with_runner-turn act c None h = absurd (cc)
with_runner-turn act c (Some x) h = (x, refl, h)

pub with_runner-ok : (s : State) (n : ℕ) (act : Runner → Result Change Refusal) (c : Change) → with_runner s n act ≡ Ok c
    → (r : Runner) × (runner_of s.running n ≡ Some r) × (act r ≡ Ok c)
with_runner-ok s n act c h = with_runner-turn act c (runner_of s.running n) h

move-turn : (s : State) (seat session : ℕ) (x : Session) (r : Runner) (pool : Name) (c : Change) (b : Bool) → IsChecked s seat session x r (GoesTo pool) → takes s r pool ≡ b
    → cond b (changing (moved_on s r pool) (Says (reply.MovedOn pool))) (changing (asked_to_leave s r pool) (Says (reply.GiveWay pool))) ≡ c
    → IsTried s seat (Check session) c
move-turn s seat session x r pool c true is e h =
    made-change s seat (Check session) (changing (moved_on s r pool) (Says (reply.MovedOn pool))) c h refl (moves_on session x r pool is e)
move-turn s seat session x r pool c false is e h =
    made-change s seat (Check session) (changing (asked_to_leave s r pool) (Says (reply.GiveWay pool))) c h refl (asks session x r pool is)

check-turn : (s : State) (seat session : ℕ) (x : Session) (r : Runner) (v : Verdict) (c : Change) → IsChecked s seat session x r v → checked_to s r v ≡ c
    → IsTried s seat (Check session) c
check-turn s seat session x r (verdict.Says answer) c is h =
    made-quiet s seat (Check session) (Says answer) c h
    (judges session x r answer is (verdict-says s.definitions r x.cap_ms (running_time r s.clock) answer is.comes_to))
check-turn s seat session x r (GoesTo pool) c is h = move-turn s seat session x r pool c (takes s r pool) is refl h

way-turn : (s : State) (seat session : ℕ) (x : Session) (r : Runner) (o : Option Name) (c : Change) → session_of s seat session ≡ Some x → runner_of s.running x.number ≡ Some r
    → r.leaving ≡ o → giving_way_to s r o ≡ Ok c → IsTried s seat (GiveWay session) c
way-turn s seat session x r None c found runs e h = absurd (cc)
way-turn s seat session x r (Some pool) c found runs e h =
    let is : changing (gave_way s r pool) (Collects r.session) ≡ c = cc in
    made-change s seat (GiveWay session) (changing (gave_way s r pool) (Collects r.session)) c is refl (gives_way session x r pool found runs e)

stop-turn : (s : State) (seat by target : ℕ) (x y : Session) (r : Runner) (c : Change) (b : Bool) → MayCancel s seat by target x y → runner_of s.running y.number ≡ Some r
    → r.cancelled ≡ b → cond b (quiet s (Says reply.Cancelled)) (changing (asked_to_stop s r) (Says reply.Cancelled)) ≡ c → IsTried s seat (Cancel by target) c
stop-turn s seat by target x y r c true may runs e h = made-quiet s seat (Cancel by target) (Says reply.Cancelled) c h (stops_again by target x y r may runs e)
stop-turn s seat by target x y r c false may runs e h =
    made-change s seat (Cancel by target) (changing (asked_to_stop s r) (Says reply.Cancelled)) c h refl (stops by target x y r may runs e)

cancel-turn : (s : State) (seat by target : ℕ) (x y : Session) (o : Option Waiter) (c : Change) → MayCancel s seat by target x y → waiter_of s.waiting y.number ≡ o
    → (let r : Result Change Refusal = elim o [ Some w ↦ Ok (withdrawn s w) | None ↦ with_runner s y.number (λ r. Ok (stopped s r)) ] in r ≡ Ok c)
    → IsTried s seat (Cancel by target) c
cancel-turn s seat by target x y (Some w) c may waits h =
    let is : withdrawn s w ≡ c = cc in
    made-change s seat (Cancel by target) (withdrawn s w) c is refl (withdraws by target x y w may waits)
cancel-turn s seat by target x y None c may waits h =
    let found = with_runner-ok s y.number (λ r. Ok (stopped s r)) c h in
    let is : stopped s found.0 ≡ c = cc in
    stop-turn s seat by target x y found.0 c found.0.cancelled may found.1 refl is

user-turn : (s : State) (seat by target : ℕ) (x y : Session) (b : Bool) (c : Change) → session_of s seat by ≡ Some x → session_called s.sessions target ≡ Some y
    → same_name x.user y.user ≡ b → (let r : Result Change Refusal = cond b (cancelled s y) (Err refusal.NotLive) in r ≡ Ok c) → IsTried s seat (Cancel by target) c
user-turn s seat by target x y true c found called e h =
    cancel-turn s seat by target x y (waiter_of s.waiting y.number) c (record { found = found; called = called; of_user = e }) refl h
user-turn s seat by target x y false c found called e h = absurd (cc)

target-turn : (s : State) (seat by target : ℕ) (x : Session) (o : Option Session) (c : Change) → session_of s seat by ≡ Some x → session_called s.sessions target ≡ o
    → (let r : Result Change Refusal = elim o [ Some y ↦ cancelled_by s x y | None ↦ Err refusal.NoSuchSession ] in r ≡ Ok c) → IsTried s seat (Cancel by target) c
target-turn s seat by target x None c found called h = absurd (cc)
target-turn s seat by target x (Some y) c found called h = user-turn s seat by target x y (same_name x.user y.user) c found called refl h

poll-turn : (s : State) (seat session : ℕ) (x : Session) (p : Phase) (c : Change) → session_of s seat session ≡ Some x → x.phase ≡ p → is_idle p ≡ false → polled s x p ≡ c
    → IsTried s seat (Poll session) c
poll-turn s seat session x phase.Idle c found e live h = absurd (false≢true (sym live))
poll-turn s seat session x phase.Waiting c found e live h = made-quiet s seat (Poll session) (Tells x.number) c h (tells session x found (ap is_active e))
poll-turn s seat session x phase.Running c found e live h = made-quiet s seat (Poll session) (Tells x.number) c h (tells session x found (ap is_active e))
poll-turn s seat session x (phase.Ended end) c found e live h = made-change s seat (Poll session) (collected s x end) c h refl (collects session x end found e)

ok-tried : (s : State) (seat : ℕ) (event : Event) (c : Change) → change s seat event ≡ Ok c → IsTried s seat event c
ok-tried s seat (Define statement) c ok = define-turn s seat statement (accepted s.definitions statement) c refl ok
ok-tried s seat (Open user) c ok =
    let made = unless-ok (opening_refusal s user) (opened s seat user) c ok in
    made-change s seat (Open user) (opened s seat user) c made.1 refl (opens user (may_open s user made.0))
ok-tried s seat (SetPool session pool) c ok =
    let found = with_session-ok s seat session (choosing s pool) c ok in
    let x = found.0 in
    let made = unless-ok (choosing_refusal s x pool) (chosen s x pool) c found.2 in
    choose-turn s seat session pool x c (has_chosen x pool) found.1 (may_choose s x pool made.0) refl made.1
ok-tried s seat (SetCap session cap) c ok =
    let found = with_session-ok s seat session (capping s cap) c ok in
    let x = found.0 in
    let made = unless-ok (journal_full s (live_queries s.sessions) (length s.sessions)) (cap_set s x (within_moments cap)) c found.2 in
    cap-turn s seat session cap x c (has_cap x (within_moments cap)) found.1
    (not-refused (is_journal_full s (live_queries s.sessions) (length s.sessions)) _ made.0) refl made.1
ok-tried s seat (Check session) c ok =
    let found = with_session-ok s seat session (checking s) c ok in
    let x = found.0 in
    let runs = with_runner-ok s x.number (λ r. Ok (checked s x r)) c found.2 in
    let r = runs.0 in
    let is : checked s x r ≡ c = cc in
    check-turn s seat session x r (verdict s.definitions r x.cap_ms (running_time r s.clock)) c (record { found = found.1; runs = runs.1; comes_to = refl }) is
ok-tried s seat (GiveWay session) c ok =
    let found = with_session-ok s seat session (giving_way s) c ok in
    let x = found.0 in
    let runs = with_runner-ok s x.number (λ r. giving_way_to s r r.leaving) c found.2 in
    way-turn s seat session x runs.0 runs.0.leaving c found.1 runs.1 refl runs.2
ok-tried s seat (Cancel by target) c ok =
    let found = with_session-ok s seat by (cancelling s target) c ok in
    target-turn s seat by target found.0 (session_called s.sessions target) c found.1 refl found.2
ok-tried s seat (Submit session floor) c ok =
    let found = with_session-ok s seat session (submitting s floor) c ok in
    let x = found.0 in
    let pool = session_pool s.definitions x in
    let made = unless-ok (submitting_refusal s x pool floor) (submitted s x pool floor) c found.2 in
    made-change s seat (Submit session floor) (submitted s x pool floor) c made.1 refl (submits session floor x found.1 (may_submit s x pool floor made.0))
ok-tried s seat (Poll session) c ok =
    let found = with_session-ok s seat session (polling s) c ok in
    let x = found.0 in
    let made = unless-ok (not_live x) (polled s x x.phase) c found.2 in
    poll-turn s seat session x x.phase c found.1 refl (not-refused (is_idle x.phase) _ made.0) made.1
ok-tried s seat (Finish session) c ok =
    let found = with_session-ok s seat session (finishing s) c ok in
    let x = found.0 in
    let made = unless-ok (not_running x) (finished s x) c found.2 in
    made-change s seat (Finish session) (finished s x) c made.1 refl
    (finishes session x found.1 (not_true _ (not-refused (not (is_running x.phase)) _ made.0)))
ok-tried s seat (Close session) c ok =
    let found = with_session-ok s seat session (closing s) c ok in
    let x = found.0 in
    let made = unless-ok (session_running x) (closed s x) c found.2 in
    made-change s seat (Close session) (closed s x) c made.1 refl (closes session x found.1 (not-refused (is_running x.phase) _ made.0))

tried-turn : (s : State) (seat : ℕ) (event : Event) (r : Result Change Refusal) → change s seat event ≡ r → IsTried s seat event (tried s r)
tried-turn s seat event (Err refusal) is = stays (Says (reply.Refused refusal)) (refuses event refusal is)
tried-turn s seat event (Ok c) is = ok-tried s seat event c is

pub tried-is : (s : State) (seat : ℕ) (event : Event) → IsTried s seat event (tried s (change s seat event))
tried-is s seat event = tried-turn s seat event (change s seat event) refl

-- no change touches the journal, the clock, the room or the memory in force
pub record LeavesJournal (s t : State) : Type 0 where
  pub journal : t.journal ≡ s.journal
  pub clock : t.clock ≡ s.clock
  pub room : t.room ≡ s.room
  pub in_force : t.in_force ≡ s.in_force

pub rest-changed : (s : State) (seat : ℕ) (event : Event) (c : Change) → IsChange s seat event c → LeavesJournal s c.state
rest-changed s seat _ _ (defines statement new none accepts) = record { journal = refl; clock = refl; room = refl; in_force = refl }
rest-changed s seat _ _ (drops pool new accepts) = record { journal = refl; clock = refl; room = refl; in_force = refl }
rest-changed s seat _ _ (opens user may) = record { journal = refl; clock = refl; room = refl; in_force = refl }
rest-changed s seat _ _ (chooses session pool x found may other) = record { journal = refl; clock = refl; room = refl; in_force = refl }
rest-changed s seat _ _ (submits session floor x found may) = record { journal = refl; clock = refl; room = refl; in_force = refl }
rest-changed s seat _ _ (collects session x end found ended) = record { journal = refl; clock = refl; room = refl; in_force = refl }
rest-changed s seat _ _ (finishes session x found runs) = record { journal = refl; clock = refl; room = refl; in_force = refl }
rest-changed s seat _ _ (closes session x found rests) = record { journal = refl; clock = refl; room = refl; in_force = refl }
rest-changed s seat _ _ (caps session cap x found room other) = record { journal = refl; clock = refl; room = refl; in_force = refl }
rest-changed s seat _ _ (moves_on session x r pool is taken) = record { journal = refl; clock = refl; room = refl; in_force = refl }
rest-changed s seat _ _ (asks session x r pool is) = record { journal = refl; clock = refl; room = refl; in_force = refl }
rest-changed s seat _ _ (gives_way session x r pool found runs leaves) = record { journal = refl; clock = refl; room = refl; in_force = refl }
rest-changed s seat _ _ (withdraws by target x y w may waits) = record { journal = refl; clock = refl; room = refl; in_force = refl }
rest-changed s seat _ _ (stops by target x y r may runs first) = record { journal = refl; clock = refl; room = refl; in_force = refl }

pub rest-tried : (s : State) (seat : ℕ) (event : Event) (c : Change) → IsTried s seat event c → LeavesJournal s c.state
rest-tried s seat event _ (stays answer still) = record { journal = refl; clock = refl; room = refl; in_force = refl }
rest-tried s seat event _ (changes c is loud) = rest-changed s seat event c is

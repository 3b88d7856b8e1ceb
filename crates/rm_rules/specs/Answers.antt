-- What is replied once an event has settled, and what that collects.
use Rattle.std.specs.Prelude.{ℕ, ◌+◌, ◌==◌, not, Bool, false, List, Option, Some, None, length, position, take_while, unwrap_or, if◌then◌else◌}
use Rattle.rm_base.specs.declared.refusal.Refusal.TheVariants as refusal
use Rattle.rm_base.specs.declared.reply.Reply.{Reply}
use Rattle.rm_base.specs.declared.reply.Reply.TheVariants as reply
use Rattle.rm_rules.specs.declared.answer.Answer.{Answer}
use Rattle.rm_rules.specs.declared.answer.Answer.TheVariants.{Says, Tells, Collects}
use Rattle.rm_rules.specs.declared.state.Phase.{Phase}
use Rattle.rm_rules.specs.declared.state.Phase.TheVariants as phase
use Rattle.rm_rules.specs.declared.state.Session.{Session}
use Rattle.rm_rules.specs.declared.state.Waiter.{Waiter}
use Rattle.rm_rules.specs.declared.state.Runner.{Runner}
use Rattle.rm_rules.specs.State.{State, is_defined, session_called, waiter_of, runner_of, phase_of, with_phase, is_ended}
use Rattle.rm_rules.specs.Holdings.{holding, holdings, holdings_of}
use Rattle.rm_rules.specs.Accounting.{account_behind}

-- the answer accepts a statement
abbrev pub is_defining : Answer → Bool
is_defining (Says reply) = is_defined reply
is_defining (Tells session) = false
is_defining (Collects session) = false

-- what a session is told of its running query
abbrev pub told_running : State → ℕ → Option Runner → Reply
told_running s session None = reply.Refused refusal.NotLive
told_running s session (Some r) =
    let account = account_behind (holdings_of s) (holdings (take_while (λ x. not (x.session == session)) s.running)) (holding r) in
    reply.Admitted r.query r.pool r.grant account.own account.borrowed

-- the place in the queue of the session's waiting query, counted from 1
abbrev pub queue_place : List Waiter → ℕ → ℕ
queue_place waiting session = unwrap_or (position (λ w. w.session == session) waiting) (length waiting) + 1

abbrev pub told_waiting : State → ℕ → Option Waiter → Reply
told_waiting s session None = reply.Refused refusal.NotLive
told_waiting s session (Some w) = reply.Waiting w.query (queue_place s.waiting session)

abbrev pub told_in_phase : State → ℕ → Phase → Reply
told_in_phase s session phase.Idle = reply.Refused refusal.NotLive
told_in_phase s session phase.Waiting = told_waiting s session (waiter_of s.waiting session)
told_in_phase s session phase.Running = told_running s session (runner_of s.running session)
told_in_phase s session (phase.Ended end) = reply.Ended end

-- what a session is told of its query, as the state stands
abbrev pub told : State → ℕ → Reply
told s session = elim (session_called s.sessions session) [ Some x ↦ told_in_phase s session x.phase | None ↦ reply.Refused refusal.NoSuchSession ]

abbrev pub reply_of : State → Answer → Reply
reply_of s (Says reply) = reply
reply_of s (Tells session) = told s session
reply_of s (Collects session) = told s session

-- the sessions, of which the one of this number is idle where its query has ended
abbrev pub without_end : ℕ → List Session → List Session
without_end session sessions = if is_ended (phase_of sessions session) then with_phase session phase.Idle sessions else sessions

-- the state in which the answer has been given
abbrev pub answered : State → Answer → State
answered s (Says reply) = s
answered s (Tells session) = s
answered s (Collects session) = record s { sessions = without_end session s.sessions }

-- What a session is to its host, and what it is answered.
use Rattle.std.specs.Prelude.{◌≡◌, ℕ, Bool, true, false, Some, is_some, IsSome, option_and_then, Result, Ok, Err}
use Rattle.rm_base.specs.declared.entry.Account.{Account}
use Rattle.rm_base.specs.declared.entry.Answered.{Answered}
use Rattle.rm_base.specs.declared.name.Name.{Name}
use Rattle.rm_base.specs.declared.reply.End.{End}
use Rattle.rm_base.specs.declared.event.Event.{Event}
use Rattle.rm_base.specs.declared.refusal.Refusal.{Refusal}
use Rattle.rm_base.specs.declared.reply.Reply.{Reply}
use Rattle.rm_base.specs.declared.reply.Reply.TheVariants as reply
use Rattle.rm_rules.specs.Grants.{run_of}
use Rattle.rm_rules.specs.State.{State, session_of, runner_of}
use Rattle.sessions.specs.declared.submitted.Submitted.{Submitted}
use Rattle.sessions.specs.declared.submitted.Submitted.TheVariants.{Admitted, Waiting, Ended, Refused}
use Rattle.sessions.specs.Granted.{Granted, SessionState}
use Rattle.sessions.specs.Host.{Known, state_of, Called}

-- the seat opened the session of this number, and it is open
abbrev pub IsOpen : State → ℕ → ℕ → Type 0
IsOpen s seat number = IsSome (session_of s seat number)

-- the seat opened the session, and the query of this grant runs in it
abbrev pub IsRunning : State → ℕ → Granted → Type 0
IsRunning s seat grant = run_of s seat grant.session ≡ Some (record { query = grant.query; grant = grant.bytes })

-- some query runs in the session
abbrev pub HasQuery : State → ℕ → ℕ → Type 0
HasQuery s seat number = IsSome (run_of s seat number)

-- the query that runs in the session is to give way
abbrev pub is_leaving : State → ℕ → Bool
is_leaving s number = is_some (option_and_then (λ r. r.leaving) (runner_of s.running number))

-- the same in what a host has seen
abbrev pub SeesOpen : Known → ℕ → Type 0
SeesOpen k number = IsOpen (state_of k) k.seat number

abbrev pub SeesRunning : Known → Granted → Type 0
SeesRunning k grant = IsRunning (state_of k) k.seat grant

abbrev pub SeesQuery : Known → ℕ → Type 0
SeesQuery k number = HasQuery (state_of k) k.seat number

abbrev pub sees_leaving : Known → ℕ → Bool
sees_leaving k number = is_leaving (state_of k) number

-- the grant is this session's, and its query runs
abbrev pub HoldsGrant : Known → ℕ → Granted → Type 0
HoldsGrant k number grant = (grant.session ≡ number) × SeesRunning k grant

-- one call of this event, with a reply of which this holds
abbrev pub CallsOnce : Known → Known → ℕ → Event → (Reply → Type 0) → Type 0
CallsOnce old new at event Says = (answered : Answered) × Called old new at event answered × Says answered.reply

-- the reply to Open
abbrev pub open_reply : Result SessionState Refusal → Reply
open_reply (Ok session) = reply.Opened session.number
open_reply (Err refusal) = reply.Refused refusal

-- the reply to Check tells the query to give way
abbrev pub asks_way : Reply → Bool
asks_way (reply.GiveWay pool) = true
asks_way answer = false

-- the reply tells of this grant, which is held so
abbrev pub TellsGrant : Granted → Account → Reply → Type 0
TellsGrant grant account answer = answer ≡ reply.Admitted grant.query account.pool grant.bytes account.own account.borrowed

-- the reply to Close
abbrev pub close_reply : Result (Unit {0}) (SessionState × Refusal) → Reply
close_reply (Ok done) = reply.Closed
close_reply (Err back) = reply.Refused back.1

-- the reply to Submit, Poll or GiveWay says this to its session
abbrev pub IsTold : ℕ → Submitted → Reply → Type 0
IsTold session (Admitted grant account) answer = (grant.session ≡ session) × TellsGrant grant account answer
IsTold session (Waiting place) answer = (query : ℕ) × (answer ≡ reply.Waiting query place)
IsTold session (Ended end) answer = answer ≡ reply.Ended end
IsTold session (Refused refusal) answer = answer ≡ reply.Refused refusal

-- the replies to Submit, Poll and GiveWay
pub data TellsQuery : Reply → Type 0 where
  Admits : (query : ℕ) (pool : Name) (grant own borrowed : ℕ) → TellsQuery (reply.Admitted query pool grant own borrowed)
  Waits : (query place : ℕ) → TellsQuery (reply.Waiting query place)
  Ends : (end : End) → TellsQuery (reply.Ended end)
  Refuses : (refusal : Refusal) → TellsQuery (reply.Refused refusal)

-- a query runs with a grant
abbrev pub is_admitted : Submitted → Bool
is_admitted (Admitted grant account) = true
is_admitted (Waiting place) = false
is_admitted (Ended end) = false
is_admitted (Refused refusal) = false

-- the event was refused
abbrev pub is_refusal : Submitted → Bool
is_refusal (Admitted grant account) = false
is_refusal (Waiting place) = false
is_refusal (Ended end) = false
is_refusal (Refused refusal) = true

-- a fact of the grant, where there is one
abbrev pub IfAdmitted : Submitted → (Granted → Type 0) → Type 0
IfAdmitted (Admitted grant account) P = P grant
IfAdmitted (Waiting place) P = Unit {0}
IfAdmitted (Ended end) P = Unit {0}
IfAdmitted (Refused refusal) P = Unit {0}

-- this grant comes back
abbrev pub ComesBack : Granted → Submitted → Type 0
ComesBack grant submitted = (account : Account) × (submitted ≡ Admitted grant account)

-- What each event leaves of the definitions in force.
use Rattle.std.proofs.Common.{◌≡◌, ℕ, Bool, true, false, ◌||◌, Result, Ok, refl, sym, ap, ◌∙◌, subst}
use Rattle.std.proofs.lemmas.Bool.{false≢true}
use Rattle.rm_base.specs.declared.definitions.Definitions.{Definitions}
use Rattle.rm_base.specs.declared.event.Event.{Event}
use Rattle.rm_base.specs.declared.event.Event.TheVariants.{Define, Open, SetPool, SetCap, Submit, Poll, Check, GiveWay, Finish, Cancel, Close}
use Rattle.rm_base.specs.declared.refusal.Refusal.{Refusal}
use Rattle.rm_base.specs.declared.reply.Reply.TheVariants as reply
use Rattle.rm_base.specs.declared.statement.Statement.{Statement}
use Rattle.rm_base.specs.declared.statement.Statement.TheVariants.{CreatePool, AlterPool, DropPool, CreateUser, AlterUser, DropUser, CreateRole, AlterRole, DropRole, GrantUsage, RevokeUsage, GrantRole, RevokeRole}
use Rattle.rm_rules.specs.declared.answer.Answer.{Answer}
use Rattle.rm_rules.specs.declared.answer.Answer.TheVariants.{Says, Tells, Collects}
use Rattle.rm_rules.specs.Acceptance.{accepted}
use Rattle.rm_rules.specs.Answers.{answered}
use Rattle.rm_rules.specs.Change.{Change, changing, defined_by, defining_to, tried}
use Rattle.rm_rules.specs.Replay.{IsFormed}
use Rattle.rm_rules.specs.Settle.{settled}
use Rattle.rm_rules.specs.State.{State}
use Rattle.rm_rules.specs.Step.{Outcome, outcome, moved_to, has_due, found_at, attempted, step}
use Rattle.rm_rules.proofs.Changing.{IsChange, defines, drops, opens, chooses, caps, submits, collects, moves_on, asks, gives_way, finishes, withdraws, stops, closes, IsTried, stays, changes, tried-is}
use Rattle.rm_rules.proofs.Settling.{rest-settled, rest-due}
use Rattle.rm_rules.proofs.Stepping.{outcome-turn}

-- the event is no statement
abbrev pub IsOfSession : Event → Type 0
IsOfSession (Define statement) = ⊥
IsOfSession (Open user) = Unit {0}
IsOfSession (SetPool session pool) = Unit {0}
IsOfSession (SetCap session cap) = Unit {0}
IsOfSession (Submit session floor) = Unit {0}
IsOfSession (Poll session) = Unit {0}
IsOfSession (Check session) = Unit {0}
IsOfSession (GiveWay session) = Unit {0}
IsOfSession (Finish session) = Unit {0}
IsOfSession (Cancel by target) = Unit {0}
IsOfSession (Close session) = Unit {0}

pub formed-session : (e : Event) → IsOfSession e → IsFormed e
formed-session (Define statement) of = absurd of
formed-session (Open user) of = tt
formed-session (SetPool session pool) of = tt
formed-session (SetCap session cap) of = tt
formed-session (Submit session floor) of = tt
formed-session (Poll session) of = tt
formed-session (Check session) of = tt
formed-session (GiveWay session) of = tt
formed-session (Finish session) of = tt
formed-session (Cancel by target) of = tt
formed-session (Close session) of = tt

-- it changes no definitions
same-changed : (s : State) (seat : ℕ) (event : Event) (c : Change) → IsChange s seat event c → IsOfSession event → c.state.definitions ≡ s.definitions
same-changed s seat _ _ (defines statement new none accepts) of = absurd of
same-changed s seat _ _ (drops pool new accepts) of = absurd of
same-changed s seat _ _ (opens user may) of = refl
same-changed s seat _ _ (chooses session pool x found may other) of = refl
same-changed s seat _ _ (caps session cap x found room other) of = refl
same-changed s seat _ _ (submits session floor x found may) of = refl
same-changed s seat _ _ (collects session x end found ended) of = refl
same-changed s seat _ _ (moves_on session x r pool is taken) of = refl
same-changed s seat _ _ (asks session x r pool is) of = refl
same-changed s seat _ _ (gives_way session x r pool found runs leaves) of = refl
same-changed s seat _ _ (finishes session x found runs) of = refl
same-changed s seat _ _ (withdraws by target x y w may waits) of = refl
same-changed s seat _ _ (stops by target x y r may runs first) of = refl
same-changed s seat _ _ (closes session x found rests) of = refl

same-tried : (s : State) (seat : ℕ) (event : Event) (c : Change) → IsTried s seat event c → IsOfSession event → c.state.definitions ≡ s.definitions
same-tried s seat event _ (stays answer still) of = refl
same-tried s seat event _ (changes c is loud) of = same-changed s seat event c is of

same-answered : (s : State) (answer : Answer) → (answered s answer).definitions ≡ s.definitions
same-answered s (Says reply) = refl
same-answered s (Tells session) = refl
same-answered s (Collects session) = refl

same-found : (s : State) (at : ℕ) → (found_at s at).definitions ≡ s.definitions
same-found s at = (rest-due (moved_to s at)).definitions

pub session-definitions : (s : State) (seat at : ℕ) (event : Event) → IsOfSession event → (step s seat at event).state.definitions ≡ s.definitions
session-definitions s seat at event of =
    let t = found_at s at in
    let c = attempted t seat event in
    outcome-turn (λ o. o.state.definitions ≡ s.definitions) s seat event c (has_due s at || c.changed)
    (λ settles. same-answered (settled c.state) c.answer ∙ (rest-settled c.state).definitions ∙ same-tried t seat event c (tried-is t seat event) of ∙ same-found s at)
    (λ rests. refl)

-- a statement that is accepted leaves those that it says
defined-by : (s : State) (statement : Statement) (d : Definitions) → (defined_by s statement d).definitions ≡ d
defined-by s (CreatePool name change) d = refl
defined-by s (AlterPool name change) d = refl
defined-by s (DropPool name) d = refl
defined-by s (CreateUser name change) d = refl
defined-by s (AlterUser name change) d = refl
defined-by s (DropUser name) d = refl
defined-by s (CreateRole name) d = refl
defined-by s (AlterRole name pool) d = refl
defined-by s (DropRole name) d = refl
defined-by s (GrantUsage pool grantee) d = refl
defined-by s (RevokeUsage pool grantee) d = refl
defined-by s (GrantRole role user) d = refl
defined-by s (RevokeRole role user) d = refl

no-rest : (b : Bool) → (b || true) ≡ false → ⊥
no-rest true h = false≢true (sym h)
no-rest false h = false≢true (sym h)

pub statement-definitions : (s : State) (at : ℕ) (statement : Statement) (d : Definitions) → accepted s.definitions statement ≡ Ok d
    → (step s 0 at (Define statement)).state.definitions ≡ d
statement-definitions s at statement d accepts =
    let t = found_at s at in
    let event : Event = Define statement in
    let c = changing (defined_by t statement d) (Says reply.Defined) in
    let found : accepted t.definitions statement ≡ Ok d = ap (λ (x : Definitions). accepted x statement) (same-found s at) ∙ accepts in
    let goes : step s 0 at event ≡ outcome s (has_due s at) 0 event c =
    ap (λ (r : Result Definitions Refusal). outcome s (has_due s at) 0 event (tried t (defining_to t statement r))) found in
    let left =
    outcome-turn (λ o. o.state.definitions ≡ d) s 0 event c (has_due s at || true)
    (λ settles. (rest-settled c.state).definitions ∙ defined-by t statement d)
    (λ rests. absurd (no-rest (has_due s at) rests)) in
    subst (λ (o : Outcome). o.state.definitions ≡ d) (sym goes) left

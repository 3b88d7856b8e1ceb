-- What a script does in its machine, as its turns say.
use Rattle.std.proofs.Common.{◌≡◌, ℕ, suc, ◌<◌, true, List, [], ◌∷◌, ◌++◌, length, get_or, set, take, drop, remove, Option, Some, None, Result, Ok, Err, refl, sym, ap, ◌∙◌, subst, arith}
use Rattle.std.specs.List.{insert}
use Rattle.std.specs.Option.{is_some}
use Rattle.std.proofs.lemmas.Bool.{false≢true}
use Rattle.std.proofs.lemmas.List.{map-append, length-take, set_split}
use Rattle.std.proofs.Math.Seq.{map-set_same, take-append_seam, drop-append_seam}
use Rattle.rm_base.specs.declared.entry.Answered.{Answered}
use Rattle.rm_base.specs.declared.event.Event.{Event}
use Rattle.rm_base.specs.declared.event.Event.TheVariants as event
use Rattle.rm_base.specs.declared.name.Name.{Name}
use Rattle.rm_base.specs.declared.refusal.Refusal.{Refusal}
use Rattle.rm_base.specs.declared.reply.Reply.{Reply}
use Rattle.rm_base.specs.declared.reply.Reply.TheVariants as reply
use Rattle.rm_rules.specs.Step.{step}
use Rattle.machine.specs.Desk.{DeskState}
use Rattle.csv_tables.specs.declared.tables.NamedTable.{NamedTable}
use Rattle.sessions.specs.declared.held.Held.{Held}
use Rattle.sessions.specs.declared.plans.KeptPlan.{KeptPlan}
use Rattle.std.specs.Prelude.{IfOk}
use Rattle.rm_base.specs.declared.select.Select.{Select}
use Rattle.rm_base.specs.Select.{select_floor}
use Rattle.sessions.specs.declared.script.Turned.{Turned}
use Rattle.sessions.specs.Commands.{Request, Close}
use Rattle.sessions.specs.Held.{named_session, held_names, unnumbered, PrintsAs}
use Rattle.sessions.specs.Host.{state_of, Called, desk_known}
use Rattle.sessions.specs.Plans.{plan_of, without_plan}
use Rattle.sessions.specs.Running.{DoesRequest, Makes, seen_turn}
use Rattle.sessions.specs.SessionNames.{NamedSession, place_named, session_named, without_name}
use Rattle.sessions.specs.Texts.{line_text, queued_text}
use Rattle.sessions.specs.Turns.{ScriptState, Goes, called, after_close, after_finish, after_submit, done_text, finish_turn, checked_turn, done_turn, query_turn, request_turn, session_turn}
use Rattle.sessions.proofs.PrintLemmas.{checked-shown, done-shown, finish-shown, queued-shown, submit-shown}
use Rattle.sessions.proofs.HeldLaws.{found-at}
use Rattle.sessions.proofs.HostLaws.{called-alone}

-- a script with this desk, these sessions, plans and tables, at this moment
abbrev pub state_with : DeskState → List Held → List KeptPlan → List NamedTable → ℕ → ScriptState
state_with d hs plans tables at = record { machine = state_of (desk_known d); names = held_names hs; plans = plans; tables = tables; moment = at }

-- a call of its desk is the event's step
pub stepped-state : (d e : DeskState) (hs gs : List Held) (plans : List KeptPlan) (tables : List NamedTable) (at : ℕ) (s : ScriptState) (event : Event) (answered : Answered)
    → state_with d hs plans tables at ≡ s → Called (desk_known d) (desk_known e) at event answered
    → held_names gs ≡ held_names hs → state_with e gs plans tables at ≡ (let t : ScriptState = record s { machine = (step s.machine 0 s.moment event).state } in t)
stepped-state d e hs gs plans tables at s event answered seen made names =
    let is = called-alone (desk_known d) (desk_known e) at event answered made refl in
    subst (λ (t : ScriptState). state_with e gs plans tables at ≡ (let u : ScriptState = record t { machine = (step t.machine 0 t.moment event).state } in u)) seen
    (ap (λ m. let u : ScriptState = record { machine = m; names = held_names gs; plans = plans; tables = tables; moment = at } in u) is.state
    ∙ ap (λ (l : List NamedSession). let u : ScriptState = record { machine = (step (state_of (desk_known d)) 0 at event).state; names = l; plans = plans; tables = tables; moment = at } in u) names)

pub stepped-reply : (d e : DeskState) (hs : List Held) (plans : List KeptPlan) (tables : List NamedTable) (at : ℕ) (s : ScriptState) (event : Event) (answered : Answered)
    → state_with d hs plans tables at ≡ s → Called (desk_known d) (desk_known e) at event answered
    → answered.reply ≡ (step s.machine 0 s.moment event).reply
stepped-reply d e hs plans tables at s event answered seen made =
    subst (λ (t : ScriptState). answered.reply ≡ (step t.machine 0 t.moment event).reply) seen (called-alone (desk_known d) (desk_known e) at event answered made refl).reply

-- a request that is one call, and prints its reply
pub does-request : (s t : ScriptState) (session : Name) (number : ℕ) (request : Request) (event : Event) (print : Reply → List ℕ) (r : Reply) (text : List ℕ) → session_named s.names session ≡ Some number
    → request_turn s session number request ≡ called s event print → t ≡ (let u : ScriptState = record s { machine = (step s.machine 0 s.moment event).state } in u)
    → print r ≡ print (step s.machine 0 s.moment event).reply → text ≡ print r → DoesRequest s t session request text
does-request s t session number request event print r text found one state prints is =
    let o = step s.machine 0 s.moment event in
    ap (λ (l : List ℕ). Goes l t) (is ∙ prints) ∙ ap (Goes (print o.reply)) state ∙ sym one ∙ ap (session_turn s session request) (sym found)

-- a call that was made, with what it prints and what it leaves of the script
pub made-turn : (s u t : ScriptState) (event : Event) (r : Reply) (print : Reply → List ℕ) (after : ScriptState → Reply → ScriptState) (text : List ℕ) → Makes s u event r
    → ((a b : Reply) → PrintsAs a b → print a ≡ print b) → ((v : ScriptState) (a b : Reply) → PrintsAs a b → after v a ≡ after v b) → t ≡ after u r → text ≡ print r
    → Goes text t ≡ (let o = step s.machine 0 s.moment event in let v : ScriptState = record s { machine = o.state } in Goes (print o.reply) (after v o.reply))
made-turn s u t event r print after text makes prints leaves state is =
    let o = step s.machine 0 s.moment event in
    ap (λ (l : List ℕ). Goes l t) (is ∙ prints r o.reply makes.reply)
    ∙ ap (Goes (print o.reply)) (state ∙ leaves u r o.reply makes.reply ∙ ap (λ (v : ScriptState). after v o.reply) makes.state)

-- what a request does, by the number of its session
pub requested : (s t : ScriptState) (session : Name) (number : ℕ) (request : Request) (text : List ℕ) → session_named s.names session ≡ Some number
    → Goes text t ≡ request_turn s session number request → DoesRequest s t session request text
requested s t session number request text found is = is ∙ ap (session_turn s session request) (sym found)

-- the session that stands at a place may change, and comes back there
names-set : (hs : List Held) (place : ℕ) (h g : Held) → h ≡ get_or hs place h → named_session g ≡ named_session h → held_names (set hs place g) ≡ held_names hs
names-set hs place h g at same = map-set_same named_session hs place g h (same ∙ ap named_session at)

-- what was taken out of its place and changed comes back there
pub insert-removed : (hs rest : List Held) (place : ℕ) (g : Held) → place < length hs → rest ≡ remove hs place → insert rest place g ≡ set hs place g
insert-removed hs rest place g within is =
    let front = take place hs in
    let back = drop (suc place) hs in
    let size : length front ≡ place = omega (arith, length-take place hs) in
    ap (λ (l : List Held). insert l place g) is
    ∙ subst (λ n. take n (front ++ back) ++ g ∷ drop n (front ++ back) ≡ front ++ g ∷ back) size
    (ap (λ l. l ++ g ∷ drop (length front) (front ++ back)) (take-append_seam front back) ∙ ap (λ l. front ++ g ∷ l) (drop-append_seam front back))
    ∙ sym (set_split hs place g within)

pub names-more : (hs : List Held) (g : Held) → held_names (hs ++ g ∷ []) ≡ held_names hs ++ named_session g ∷ []
names-more hs g = map-append named_session hs (g ∷ [])

-- the session that has a name, in the state of a script
pub named-number : (d : DeskState) (hs : List Held) (plans : List KeptPlan) (tables : List NamedTable) (at : ℕ) (s : ScriptState) (session : Name) (place : ℕ) (x : Held)
    → state_with d hs plans tables at ≡ s → place_named s.names session ≡ Some place → x ≡ get_or hs place x
    → session_named s.names session ≡ Some x.session.number
named-number d hs plans tables at s session place x seen found there =
    let names = ap (λ (t : ScriptState). t.names) seen in
    ap (λ (l : List NamedSession). session_named l session) (sym names) ∙ (found-at hs s.names session place x names found there).session

-- the number of the session at a place is the one of its name
pub number-is : (d : DeskState) (hs : List Held) (plans : List KeptPlan) (tables : List NamedTable) (at : ℕ) (s : ScriptState) (session : Name) (place number : ℕ) (x : Held)
    → state_with d hs plans tables at ≡ s → place_named s.names session ≡ Some place → x ≡ get_or hs place x → session_named s.names session ≡ Some number → number ≡ x.session.number
number-is d hs plans tables at s session place number x seen found there named_so =
    let both : Some number ≡ Some x.session.number = sym named_so ∙ named-number d hs plans tables at s session place x seen found there in cc

-- a call for the session at a place
pub makes : (d e : DeskState) (hs : List Held) (plans : List KeptPlan) (tables : List NamedTable) (at : ℕ) (s : ScriptState) (place : ℕ) (x g : Held) (event : Event) (r : Reply) (answered : Answered)
    → state_with d hs plans tables at ≡ s → x ≡ get_or hs place x → named_session g ≡ named_session x → Called (desk_known d) (desk_known e) at event answered → PrintsAs r answered.reply
    → Makes s (state_with e (set hs place g) plans tables at) event r
makes d e hs plans tables at s place x g event r answered seen there same made prints = record {
  reply = prints ∙ ap unnumbered (stepped-reply d e hs plans tables at s event answered seen made);
  state = stepped-state d e hs (set hs place g) plans tables at s event answered seen made (names-set hs place x g there same);
}

-- Close, by its reply
does-close : (s t : ScriptState) (session : Name) (number : ℕ) (r : Reply) (text : List ℕ) → session_named s.names session ≡ Some number
    → r ≡ (step s.machine 0 s.moment (event.Close number)).reply → t ≡ after_close (let u : ScriptState = record s { machine = (step s.machine 0 s.moment (event.Close number)).state } in u) session number r
    → text ≡ line_text session r → DoesRequest s t session Close text
does-close s t session number r text found replied state is =
    let o = step s.machine 0 s.moment (event.Close number) in
    let u : ScriptState = record s { machine = o.state } in
    ap (λ (l : List ℕ). Goes l t) is ∙ ap (Goes (line_text session r)) state ∙ ap (λ (a : Reply). Goes (line_text session a) (after_close u session number a)) replied
    ∙ ap (session_turn s session Close) (sym found)

-- Close of the session at a place: it is gone, with its plan, or it comes back
pub closed-gone : (d e : DeskState) (hs : List Held) (plans : List KeptPlan) (tables : List NamedTable) (at : ℕ) (s : ScriptState) (session : Name) (place : ℕ) (x : Held) (answered : Answered)
    → state_with d hs plans tables at ≡ s
    → place_named s.names session ≡ Some place → x ≡ get_or hs place x → Called (desk_known d) (desk_known e) at (event.Close x.session.number) answered → answered.reply ≡ reply.Closed
    → (text : List ℕ) → text ≡ line_text session reply.Closed → DoesRequest s (state_with e (remove hs place) (without_plan x.session.number plans) tables at) session Close text
closed-gone d e hs plans tables at s session place x answered seen found there made answer text is =
    let n = x.session.number in
    let away : ScriptState → ScriptState = λ t. record t { names = without_name session t.names; plans = without_plan n t.plans } in
    let gone = (found-at hs s.names session place x (ap (λ (t : ScriptState). t.names) seen) found there).gone in
    does-close s (state_with e (remove hs place) (without_plan n plans) tables at) session n reply.Closed text (named-number d hs plans tables at s session place x seen found there)
    (sym answer ∙ stepped-reply d e hs plans tables at s (event.Close n) answered seen made)
    (ap (λ (l : List NamedSession). let t : ScriptState = record { machine = state_of (desk_known e); names = l; plans = without_plan n plans; tables = tables; moment = at } in t) (sym gone)
    ∙ ap away (stepped-state d e hs hs plans tables at s (event.Close n) answered seen made refl))
    is

pub closed-not : (d e : DeskState) (hs : List Held) (plans : List KeptPlan) (tables : List NamedTable) (at : ℕ) (s : ScriptState) (session : Name) (place : ℕ) (x g : Held) (refusal : Refusal) (answered : Answered)
    → state_with d hs plans tables at ≡ s
    → place_named s.names session ≡ Some place → x ≡ get_or hs place x → named_session g ≡ named_session x → Called (desk_known d) (desk_known e) at (event.Close x.session.number) answered
    → answered.reply ≡ reply.Refused refusal → (text : List ℕ) → text ≡ line_text session (reply.Refused refusal) → DoesRequest s (state_with e (set hs place g) plans tables at) session Close text
closed-not d e hs plans tables at s session place x g refusal answered seen found there same made answer text is =
    does-close s (state_with e (set hs place g) plans tables at) session x.session.number (reply.Refused refusal) text (named-number d hs plans tables at s session place x seen found there)
    (sym answer ∙ stepped-reply d e hs plans tables at s (event.Close x.session.number) answered seen made)
    (stepped-state d e hs (set hs place g) plans tables at s (event.Close x.session.number) answered seen made (names-set hs place x g there same))
    is

-- what the end of a query prints and leaves, by the state behind the machine call
pub finished-turn : (s u : ScriptState) (session : Name) (number : ℕ) (r : Reply) → Makes s u (event.Finish number) r
    → Goes (done_text u.tables session (plan_of u.plans number) r) (after_finish u number r) ≡ finish_turn s session number
finished-turn s u session number r makes =
    let o = step s.machine 0 s.moment (event.Finish number) in
    ap (λ (v : ScriptState). Goes (done_text v.tables session (plan_of v.plans number) r) (after_finish v number r)) makes.state
    ∙ ap (λ (l : List ℕ). Goes l (after_finish (let v : ScriptState = record s { machine = o.state } in v) number r)) (done-shown s.tables session (plan_of s.plans number) r o.reply makes.reply)
    ∙ ap (Goes (done_text s.tables session (plan_of s.plans number) o.reply)) (finish-shown (let v : ScriptState = record s { machine = o.state } in v) number r o.reply makes.reply)

pub finished-did : {E : Type 0} (s u t : ScriptState) (session : Name) (number : ℕ) (r : Reply) (out : Result Turned E) → Makes s u (event.Finish number) r
    → IfOk out (λ did. seen_turn did t ≡ Goes (done_text u.tables session (plan_of u.plans number) r) (after_finish u number r))
    → IfOk out (λ did. seen_turn did t ≡ finish_turn s session number)
finished-did s u t session number r (Ok did) makes h = h ∙ finished-turn s u session number r makes
finished-did s u t session number r (Err e) makes h = tt

-- what `done` does with a plan, by the state behind the check
pub checked-did : {E : Type 0} (s u t : ScriptState) (session : Name) (number : ℕ) (plan : Option Select) (r : Reply) (out : Result Turned E) → Makes s u (event.Check number) r
    → is_some plan ≡ true → IfOk out (λ did. seen_turn did t ≡ checked_turn u session number r) → IfOk out (λ did. seen_turn did t ≡ done_turn s session number plan)
checked-did s u t session number None r out makes kept h = absurd (false≢true kept)
checked-did s u t session number (Some plan) r (Ok did) makes kept h =
    let o = step s.machine 0 s.moment (event.Check number) in
    h ∙ checked-shown u session number r o.reply makes.reply ∙ ap (λ (v : ScriptState). checked_turn v session number o.reply) makes.state
checked-did s u t session number (Some plan) r (Err e) makes kept h = tt

-- what is done for a session that was found by its name
pub request-did : {E : Type 0} (s t : ScriptState) (session : Name) (number : ℕ) (request : Request) (out : Result Turned E) → session_named s.names session ≡ Some number
    → IfOk out (λ did. seen_turn did t ≡ request_turn s session number request) → IfOk out (λ did. seen_turn did t ≡ session_turn s session request (session_named s.names session))
request-did s t session number request (Ok did) found h = h ∙ ap (session_turn s session request) (sym found)
request-did s t session number request (Err e) found h = tt

-- what `query` prints and leaves, by the state behind the machine call
pub submitted-turn : (s u t : ScriptState) (session : Name) (number : ℕ) (plan : Select) (r : Reply) (text : List ℕ) → Makes s u (event.Submit number (select_floor plan)) r
    → t ≡ after_submit u number plan r → text ≡ queued_text session r → Goes text t ≡ query_turn s session number (Ok plan)
submitted-turn s u t session number plan r text makes state is =
    made-turn s u t (event.Submit number (select_floor plan)) r (queued_text session) (λ v a. after_submit v number plan a) text makes (queued-shown session) (λ v. submit-shown v number plan) state is

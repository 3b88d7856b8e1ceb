-- What calls leave of the sessions that a script holds, and how their names find them.
use Rattle.std.proofs.Common.{◌≡◌, ◌≢◌, ◌<◌, ℕ, ◌+◌, suc, Bool, true, not, ◌||◌, cond, nat_lt, List, [], ◌∷◌, ◌++◌, length, get_or, set, take, drop, remove, map, find, position, Some, None, refl, sym, ap, ◌∙◌, subst, arith}
use Rattle.std.specs.Prelude.{option_map}
use Rattle.std.specs.List.{list_any, prefix_len, position_or_len}
use Rattle.std.proofs.Math.Seq.{drop-cons}
use Rattle.std.proofs.lemmas.Bool.{false≢true}
use Rattle.std.proofs.lemmas.List.{get_or-map, set_split, take-append-drop, take-map, drop-map, map-append, length-map}
use Rattle.rm_base.specs.declared.entry.Answered.{Answered}
use Rattle.rm_base.specs.declared.event.Event.{Event}
use Rattle.rm_base.specs.declared.event.Event.TheVariants.{Define, Open, SetPool, SetCap, Submit, Poll, Check, GiveWay, Finish, Cancel, Close}
use Rattle.rm_base.specs.declared.name.Name.{Name}
use Rattle.rm_base.specs.Name.{same_name}
use Rattle.rm_base.proofs.Names.{same_name-eq}
use Rattle.rm_rules.specs.Replay.{IsFormed}
use Rattle.rm_rules.proofs.Places.{position-within, position-is, find-found, without-found}
use Rattle.rm_rules.proofs.Taken.{found_passes}
use Rattle.sessions.specs.declared.held.Held.{Held}
use Rattle.sessions.specs.Held.{named_session, held_names, IsHeld, AreApart, AreHeld}
use Rattle.sessions.specs.Host.{Known, Called}
use Rattle.sessions.specs.Running.{keeps_sessions}
use Rattle.sessions.specs.Session.{SeesOpen}
use Rattle.sessions.specs.SessionNames.{NamedSession, place_named, session_named, without_name}
use Rattle.sessions.proofs.LeavingLaws.{steered}
use Rattle.sessions.proofs.SessionLaws.{open-called, running-called, leaving-called}

-- a held session goes on where a call ends neither it nor its query
pub held-goes_on : (old new : Known) (at : ℕ) (event : Event) (answered : Answered) (h : Held) → Called old new at event answered → IsFormed event
    → steered event ≢ Some h.session.number → event ≢ Close h.session.number → IsHeld old h → IsHeld new h
held-goes_on old new at event answered h called formed spared unclosed is = record {
  opened = open-called old new at h.session.number event answered called formed unclosed is.opened;
  told = is.told;
  own = λ g there. let own = is.own g there in (own.0, running-called old new at g event answered called formed (λ same. spared (ap steered same ∙ ap (λ n. Some n) own.0)) (λ same. spared (ap steered same ∙ ap (λ n. Some n) own.0)) own.1);
  leaves = is.leaves ∙ sym (leaving-called old new at h.session.number event answered called spared is.opened);
}

unsteered : (event : Event) (n : ℕ) → keeps_sessions event ≡ true → steered event ≢ Some n
unsteered (Define statement) n goes is = cc
unsteered (Open user) n goes is = cc
unsteered (SetPool session pool) n goes is = cc
unsteered (SetCap session cap) n goes is = cc
unsteered (Submit session floor) n goes is = cc
unsteered (Poll session) n goes is = cc
unsteered (Check session) n goes is = false≢true goes
unsteered (GiveWay session) n goes is = false≢true goes
unsteered (Finish session) n goes is = false≢true goes
unsteered (Cancel by target) n goes is = cc
unsteered (Close session) n goes is = false≢true goes

unended-close : (event : Event) (n : ℕ) → keeps_sessions event ≡ true → event ≢ Close n
unended-close event n goes same = false≢true (sym (ap keeps_sessions same) ∙ goes)

-- so all of them do where it ends nothing
pub all-go_on : (old new : Known) (at : ℕ) (event : Event) (answered : Answered) (hs : List Held) → Called old new at event answered → IsFormed event → keeps_sessions event ≡ true
    → AreHeld old hs → AreHeld new hs
all-go_on old new at event answered [] called formed goes are = tt
all-go_on old new at event answered (h ∷ hs) called formed goes are = (
  held-goes_on old new at event answered h called formed (unsteered event h.session.number goes) (unended-close event h.session.number goes) are.0,
  are.1,
  all-go_on old new at event answered hs called formed goes are.2,
)

-- an event for one session ends and steers no other
abbrev EndsAtMost : ℕ → Event → Type 0
EndsAtMost n event = (m : ℕ) → m ≢ n → (steered event ≢ Some m) × (event ≢ Close m)

pub unending : (n : ℕ) (event : Event) → keeps_sessions event ≡ true → EndsAtMost n event
unending n event goes m differs = (unsteered event m goes, unended-close event m goes)

pub check-ends : (n : ℕ) → EndsAtMost n (Check n)
check-ends n m differs = (λ same. let e : n ≡ m = cc in differs (sym e), λ same. cc)

pub way-ends : (n : ℕ) → EndsAtMost n (GiveWay n)
way-ends n m differs = (λ same. let e : n ≡ m = cc in differs (sym e), λ same. cc)

pub finish-ends : (n : ℕ) → EndsAtMost n (Finish n)
finish-ends n m differs = (λ same. let e : n ≡ m = cc in differs (sym e), λ same. cc)

pub close-ends : (n : ℕ) → EndsAtMost n (Close n)
close-ends n m differs = (λ same. cc, λ same. let e : n ≡ m = cc in differs (sym e))

-- what a call for one session leaves of others
others-go_on : (old new : Known) (at : ℕ) (event : Event) (answered : Answered) (n : ℕ) (hs : List Held) → Called old new at event answered → IsFormed event → EndsAtMost n event
    → AreApart n hs → AreHeld old hs → AreHeld new hs
others-go_on old new at event answered n [] called formed other apart are = tt
others-go_on old new at event answered n (h ∷ hs) called formed other apart are =
    let unended = other h.session.number apart.0 in
    (held-goes_on old new at event answered h called formed unended.0 unended.1 are.0, are.1, others-go_on old new at event answered n hs called formed other apart.1 are.2)

apart-changed : (n : ℕ) (front back : List Held) (h g : Held) → named_session g ≡ named_session h → AreApart n (front ++ h ∷ back) → AreApart n (front ++ g ∷ back)
apart-changed n [] back h g same apart = (λ is. apart.0 (sym (ap (λ (m : NamedSession). m.session) same) ∙ is), apart.1)
apart-changed n (f ∷ fs) back h g same apart = (apart.0, apart-changed n fs back h g same apart.1)

apart-middle : (n : ℕ) (front back : List Held) (h : Held) → AreApart n (front ++ h ∷ back) → h.session.number ≢ n
apart-middle n [] back h apart = apart.0
apart-middle n (f ∷ fs) back h apart = apart-middle n fs back h apart.1

apart-without : (n : ℕ) (front back : List Held) (h : Held) → AreApart n (front ++ h ∷ back) → AreApart n (front ++ back)
apart-without n [] back h apart = apart.1
apart-without n (f ∷ fs) back h apart = (apart.0, apart-without n fs back h apart.1)

-- a call for the session that stands between these leaves them, and the session as it is then
changed-held : (old new : Known) (at : ℕ) (event : Event) (answered : Answered) (front back : List Held) (h g : Held) → Called old new at event answered → IsFormed event
    → EndsAtMost h.session.number event → named_session g ≡ named_session h → IsHeld new g → AreHeld old (front ++ h ∷ back) → AreHeld new (front ++ g ∷ back)
changed-held old new at event answered [] back h g called formed other same is are =
    let number = ap (λ (m : NamedSession). m.session) same in
    (is, subst (λ n. AreApart n back) (sym number) are.1, others-go_on old new at event answered h.session.number back called formed other are.1 are.2)
changed-held old new at event answered (f ∷ fs) back h g called formed other same is are =
    let unended = other f.session.number (λ e. apart-middle f.session.number fs back h are.1 (sym e)) in (
      held-goes_on old new at event answered f called formed unended.0 unended.1 are.0,
      apart-changed f.session.number fs back h g same are.1,
      changed-held old new at event answered fs back h g called formed other same is are.2,
    )

-- and them alone, where the session is gone
gone-held : (old new : Known) (at : ℕ) (event : Event) (answered : Answered) (front back : List Held) (h : Held) → Called old new at event answered → IsFormed event
    → EndsAtMost h.session.number event → AreHeld old (front ++ h ∷ back) → AreHeld new (front ++ back)
gone-held old new at event answered [] back h called formed other are = others-go_on old new at event answered h.session.number back called formed other are.1 are.2
gone-held old new at event answered (f ∷ fs) back h called formed other are =
    let unended = other f.session.number (λ e. apart-middle f.session.number fs back h are.1 (sym e)) in (
      held-goes_on old new at event answered f called formed unended.0 unended.1 are.0,
      apart-without f.session.number fs back h are.1,
      gone-held old new at event answered fs back h called formed other are.2,
    )

middle-held : (k : Known) (front back : List Held) (h : Held) → AreHeld k (front ++ h ∷ back) → IsHeld k h
middle-held k [] back h are = are.0
middle-held k (f ∷ fs) back h are = middle-held k fs back h are.2

-- a session more, with another number than all before it
apart-more : (n : ℕ) (hs : List Held) (g : Held) → AreApart n hs → g.session.number ≢ n → AreApart n (hs ++ g ∷ [])
apart-more n [] g apart differs = (differs, tt)
apart-more n (h ∷ hs) g apart differs = (apart.0, apart-more n hs g apart.1 differs)

pub more-held : (k : Known) (hs : List Held) (g : Held) → AreHeld k hs → IsHeld k g → AreApart g.session.number hs → AreHeld k (hs ++ g ∷ [])
more-held k [] g are is apart = (is, tt, tt)
more-held k (h ∷ hs) g are is apart = (are.0, apart-more h.session.number hs g are.1 (λ same. apart.0 (sym same)), more-held k hs g are.2 is apart.1)

pub open-apart : (k : Known) (n : ℕ) (hs : List Held) → ((m : ℕ) → SeesOpen k m → m ≢ n) → AreHeld k hs → AreApart n hs
open-apart k n [] fresh are = tt
open-apart k n (h ∷ hs) fresh are = (fresh h.session.number are.0.opened, open-apart k n hs fresh are.2)

-- the names of sessions, by their places
prefix_len-map : {A B : Type 0} (p : B → Bool) (f : A → B) (xs : List A) → prefix_len p (map f xs) ≡ prefix_len (λ x. p (f x)) xs
prefix_len-map p f [] = refl
prefix_len-map p f (x ∷ xs) = ap (λ n. cond (p (f x)) (1 + n) 0) (prefix_len-map p f xs)

pub position-map : {A B : Type 0} (p : B → Bool) (f : A → B) (xs : List A) → position p (map f xs) ≡ position (λ x. p (f x)) xs
position-map p f xs =
    ap (λ n. cond (nat_lt n (length (map f xs))) (Some n) None) (prefix_len-map (λ y. not (p y)) f xs)
    ∙ ap (λ n. cond (nat_lt (position_or_len (λ x. p (f x)) xs) n) (Some (position_or_len (λ x. p (f x)) xs)) None) (length-map xs f)

pub list_any-map : {A B : Type 0} (p : B → Bool) (f : A → B) (xs : List A) → list_any p (map f xs) ≡ list_any (λ x. p (f x)) xs
list_any-map p f [] = refl
list_any-map p f (x ∷ xs) = ap (λ b. p (f x) || b) (list_any-map p f xs)

names-without : (hs : List Held) (place : ℕ) → remove (held_names hs) place ≡ held_names (remove hs place)
names-without hs place =
    ap (λ l. l ++ drop (suc place) (map named_session hs)) (take-map named_session place hs) ∙ ap (λ l. map named_session (take place hs) ++ l) (drop-map named_session (suc place) hs)
    ∙ sym (map-append named_session (take place hs) (drop (suc place) hs))

-- the session that has a name, by the name's place
pub record IsNamed (hs : List Held) (name : Name) (place : ℕ) (h : Held) : Type 0 where
  pub within : place < length hs
  pub called : h.name ≡ name
  pub session : session_named (held_names hs) name ≡ Some h.session.number
  pub gone : without_name name (held_names hs) ≡ held_names (take place hs ++ drop (suc place) hs)

pub found-at : (hs : List Held) (names : List NamedSession) (name : Name) (place : ℕ) (x : Held) → held_names hs ≡ names → place_named names name ≡ Some place → x ≡ get_or hs place x → IsNamed hs name place x
found-at hs names name place x seen found at =
    let test : NamedSession → Bool = λ n. same_name n.name name in
    let placed : position test (held_names hs) ≡ Some place = ap (λ (l : List NamedSession). place_named l name) seen ∙ found in
    let within : place < length hs = omega (arith, position-within test (held_names hs) place placed, position-is test (held_names hs) place placed, length-map hs named_session) in
    let there : find test (held_names hs) ≡ Some (named_session x) =
    find-found test (held_names hs) place (named_session x) placed (ap named_session at ∙ sym (get_or-map named_session hs place x (named_session x) within)) in
    record {
      within = within;
      called = same_name-eq x.name name (found_passes test (named_session x) (held_names hs) there);
      session = ap (option_map (λ (n : NamedSession). n.session)) there;
      gone = without-found test (held_names hs) place placed ∙ names-without hs place;
    }

-- what each call leaves of the session at a place, and of the others
middle : (hs : List Held) (place : ℕ) (x : Held) → place < length hs → x ≡ get_or hs place x → hs ≡ take place hs ++ x ∷ drop (suc place) hs
middle hs place x within at =
    sym (take-append-drop place hs) ∙ ap (λ l. take place hs ++ l) (drop-cons hs place x within) ∙ ap (λ y. take place hs ++ y ∷ drop (suc place) hs) (sym at)

pub held-at : (k : Known) (hs : List Held) (place : ℕ) (x : Held) → place < length hs → x ≡ get_or hs place x → AreHeld k hs → IsHeld k x
held-at k hs place x within at are = middle-held k (take place hs) (drop (suc place) hs) x (subst (AreHeld k) (middle hs place x within at) are)

pub placed-held : (old new : Known) (at : ℕ) (event : Event) (answered : Answered) (hs : List Held) (place : ℕ) (x g : Held) → place < length hs → x ≡ get_or hs place x
    → Called old new at event answered → IsFormed event → EndsAtMost x.session.number event → named_session g ≡ named_session x → IsHeld new g → AreHeld old hs → AreHeld new (set hs place g)
placed-held old new at event answered hs place x g within there called formed other same is are =
    subst (AreHeld new) (sym (set_split hs place g within))
    (changed-held old new at event answered (take place hs) (drop (suc place) hs) x g called formed other same is (subst (AreHeld old) (middle hs place x within there) are))

pub removed-held : (old new : Known) (at : ℕ) (event : Event) (answered : Answered) (hs : List Held) (place : ℕ) (x : Held) → place < length hs → x ≡ get_or hs place x → Called old new at event answered
    → IsFormed event → EndsAtMost x.session.number event → AreHeld old hs → AreHeld new (remove hs place)
removed-held old new at event answered hs place x within there called formed other are =
    gone-held old new at event answered (take place hs) (drop (suc place) hs) x called formed other (subst (AreHeld old) (middle hs place x within there) are)

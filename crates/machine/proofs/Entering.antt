-- What an event that changes something leaves, and one that does not.
use Rattle.std.proofs.Common.{◌≡◌, ◌<◌, ℕ, ◌+◌, Bool, true, false, ◌||◌, cond, length, refl, ap, sym, ◌∙◌, subst, arith}
use Rattle.std.specs.Option.{is_some}
use Rattle.std.proofs.lemmas.Bool.{false≢true}
use Rattle.rm_base.specs.declared.event.Event.{Event}
use Rattle.rm_base.specs.declared.limits.TheConstants.{CHANGES_MOST, ENTRIES_BEYOND}
use Rattle.rm_rules.specs.declared.answer.Answer.{Answer}
use Rattle.rm_rules.specs.State.{State}
use Rattle.rm_rules.specs.Deadlines.{first_due, without_due}
use Rattle.rm_rules.specs.Settle.{settled}
use Rattle.rm_rules.specs.Change.{Change}
use Rattle.rm_rules.specs.Answers.{reply_of, answered, is_defining}
use Rattle.rm_rules.specs.Step.{Outcome, entered, quietly, moved_to, has_due, found_at, attempted, step}
use Rattle.rm_rules.specs.Replay.{IsFormed}
use Rattle.rm_rules.specs.Healthy.{IsHealthy, IsHealthyWith, IsUnsettled, counted_for, defining_for}
use Rattle.rm_rules.proofs.Taken.{or_left_false, or_right_false}
use Rattle.rm_rules.proofs.Settling.{kept-settled}
use Rattle.rm_rules.proofs.Answering.{kept-answered}
use Rattle.rm_rules.proofs.Changing.{IsTried, stays, changes, tried-is}
use Rattle.rm_rules.proofs.Stepping.{moved-facts, found-facts, none-found, tried-facts}
use Rattle.machine.specs.declared.done.Done.{Done}
use Rattle.machine.specs.Done.{change_to, attempted_at}

-- the journal has room for the entry of an event that changed something
one-entry : (b : Bool) → cond b 0 1 + cond b 1 0 ≡ 1
one-entry true = refl
one-entry false = refl

place : (answer : Answer) (t : State) → IsHealthyWith (counted_for answer) (defining_for answer) t → length t.journal < t.room + ENTRIES_BEYOND + CHANGES_MOST
place answer t h = omega (arith, h.room.kept, h.room.defined, h.sound.changes, one-entry (is_defining answer))

pub place-answered : (answer : Answer) (s t u : State) → t ≡ settled s → u ≡ answered t answer → IsUnsettled answer s → length u.journal < u.room + ENTRIES_BEYOND + CHANGES_MOST
place-answered answer s t u same after h =
    subst (λ (v : State). length v.journal < v.room + ENTRIES_BEYOND + CHANGES_MOST) (sym (after ∙ ap (λ (v : State). answered v answer) same))
    (place answer (answered (settled s) answer)
    (kept-answered (counted_for answer) (defining_for answer) (settled s) answer (kept-settled (counted_for answer) (defining_for answer) s h)))

pub healthy-settled : (answer : Answer) (s t : State) → t ≡ settled s → IsUnsettled answer s → IsHealthyWith (counted_for answer) (defining_for answer) t
healthy-settled answer s t same h =
    subst (IsHealthyWith (counted_for answer) (defining_for answer)) (sym same) (kept-settled (counted_for answer) (defining_for answer) s h)

-- what was attempted, in code: at the moment, behind the deadlines
pub attempted-is : (s : State) (seat at : ℕ) (event : Event) (m t u : State) (timed changed : Bool) (done : Done) → m ≡ moved_to s at → t ≡ without_due m → timed ≡ is_some (first_due m)
    → attempted t seat event ≡ change_to u done → changed ≡ (timed || done.changed)
    → attempted_at s seat at event ≡ change_to u (record done { changed = changed })
attempted-is s seat at event m t u timed changed done moved ended some is either =
    let found : found_at s at ≡ t = sym (ended ∙ ap without_due moved) in
    let due : has_due s at ≡ timed = sym (some ∙ ap (λ (v : State). is_some (first_due v)) moved) in
    ap (λ (v : State). let c = attempted v seat event in let x : Change = record c { changed = has_due s at || c.changed } in x) found
    ∙ ap (λ (c : Change). let x : Change = record c { changed = has_due s at || c.changed } in x) is
    ∙ ap (λ (b : Bool). change_to u (record done { changed = b })) (ap (λ (b : Bool). b || done.changed) due ∙ sym either)

pub healthy-moved : (s : State) (at : ℕ) (m : State) → m ≡ moved_to s at → IsHealthy s → IsHealthy m
healthy-moved s at m moved h = subst IsHealthy (sym moved) (moved-facts s at h)

pub healthy-found : (s : State) (at : ℕ) (m t : State) → m ≡ moved_to s at → t ≡ without_due m → IsHealthy s → IsHealthy t
healthy-found s at m t moved ended h = subst IsHealthy (sym (ended ∙ ap without_due moved)) (found-facts s at h)

-- the outcome, by what was attempted
abbrev concluded : State → ℕ → Event → Change → Outcome
concluded s seat event c = cond c.changed (entered seat event (settled c.state) c.answer) (quietly s (reply_of c.state c.answer))

-- an event that settles: before it does, and its outcome
pub unsettled : (s : State) (seat at : ℕ) (event : Event) (t : State) (done : Done) → IsHealthy s → IsFormed event → attempted_at s seat at event ≡ change_to t done
    → done.changed ≡ true → IsUnsettled done.answer t
unsettled s seat at event t done h formed is changed =
    subst (λ (c : Change). IsUnsettled c.answer c.state) is (tried-facts s seat at event h formed (ap (λ (c : Change). c.changed) is ∙ changed))

pub step-entered : (s : State) (seat at : ℕ) (event : Event) (t : State) (done : Done) → attempted_at s seat at event ≡ change_to t done → done.changed ≡ true
    → step s seat at event ≡ entered seat event (settled t) done.answer
step-entered s seat at event t done is changed =
    ap (concluded s seat event) is ∙ ap (λ (b : Bool). cond b (entered seat event (settled t) done.answer) (quietly s (reply_of t done.answer))) changed

-- one that does not: the state is as it was but for the moment
pub step-quiet : (s : State) (seat at : ℕ) (event : Event) (t : State) (done : Done) → attempted_at s seat at event ≡ change_to t done → done.changed ≡ false
    → step s seat at event ≡ quietly s (reply_of t done.answer)
step-quiet s seat at event t done is quiet =
    ap (concluded s seat event) is ∙ ap (λ (b : Bool). cond b (entered seat event (settled t) done.answer) (quietly s (reply_of t done.answer))) quiet

still-tried : (s : State) (seat : ℕ) (event : Event) (c : Change) → IsTried s seat event c → c.changed ≡ false → c.state ≡ s
still-tried s seat event _ (stays answer plain) still = refl
still-tried s seat event _ (changes c is loud) still = absurd (false≢true (sym still ∙ loud))

pub moved-quiet : (s : State) (seat at : ℕ) (event : Event) (t : State) (done : Done) → attempted_at s seat at event ≡ change_to t done → done.changed ≡ false → t ≡ moved_to s at
moved-quiet s seat at event t done is quiet =
    let c = attempted (found_at s at) seat event in
    let neither : (has_due s at || c.changed) ≡ false = ap (λ (x : Change). x.changed) is ∙ quiet in
    sym (ap (λ (x : Change). x.state) is)
    ∙ still-tried (found_at s at) seat event c (tried-is (found_at s at) seat event) (or_right_false (has_due s at) c.changed neither)
    ∙ none-found s at (or_left_false (has_due s at) c.changed neither)

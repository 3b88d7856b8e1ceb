-- One event of the pool machine.
use Rattle.std.specs.Prelude.{◌≡◌, ℕ, Bool, true, false, ◌||◌, [], ◌∷◌, ◌++◌, List, is_some, max, if◌then◌else◌}
use Rattle.rm_base.specs.declared.entry.Entry.{Entry}
use Rattle.rm_base.specs.declared.event.Event.{Event}
use Rattle.rm_base.specs.declared.refusal.Refusal.{Refusal}
use Rattle.rm_base.specs.declared.reply.Reply.{Reply}
use Rattle.rm_base.specs.declared.reply.Reply.TheVariants as reply
use Rattle.rm_rules.specs.declared.answer.Answer.{Answer}
use Rattle.rm_rules.specs.State.{State}
use Rattle.rm_rules.specs.Settle.{settled}
use Rattle.rm_rules.specs.Change.{Change, change, tried}
use Rattle.rm_rules.specs.Answers.{reply_of, answered}
use Rattle.rm_rules.specs.Deadlines.{first_due, without_due}

-- what an event leaves, what is replied, and whether it made an entry
pub record Outcome : Type 0 where
  pub state : State
  pub reply : Reply
  pub entry : Bool

-- the entry of an event
abbrev pub noted : ℕ → ℕ → Event → Reply → Entry
noted seat moment event answer = record { seat = seat; at = moment; event = event; reply = answer }

-- the state with one entry more
abbrev pub recorded : State → Entry → State
recorded s entry = record s { journal = s.journal ++ entry ∷ [] }

-- an event that changed something: the state has settled, the answer is given, and the entry is made
abbrev pub entered : ℕ → Event → State → Answer → Outcome
entered seat event s answer = record {
  state = recorded (answered s answer) (noted seat s.clock event (reply_of s answer));
  reply = reply_of s answer;
  entry = true;
}

-- an event that changes nothing leaves the state as it was, the clock too
abbrev pub quietly : State → Reply → Outcome
quietly s answer = record { state = s; reply = answer; entry = false }

-- the outcome of an event at a state, for which deadlines have acted or none, and then this change
abbrev pub outcome : State → Bool → ℕ → Event → Change → Outcome
outcome s timed seat event c =
    if timed || c.changed then entered seat event (settled c.state) c.answer
    else quietly s (reply_of c.state c.answer)

-- the state at the later of its clock and the moment that was handed in
abbrev pub moved_to : State → ℕ → State
moved_to s at = record s { clock = max s.clock at }

-- some query's deadline has come by the moment
abbrev pub has_due : State → ℕ → Bool
has_due s at = is_some (first_due (moved_to s at))

-- the state as the event finds it: at the moment, and after the deadlines
abbrev pub found_at : State → ℕ → State
found_at s at = without_due (moved_to s at)

-- what an event of this seat does there
abbrev pub attempted : State → ℕ → Event → Change
attempted s seat event = tried s (change s seat event)

-- one event of the machine: deadlines, its refusals or its change, and settling
abbrev pub step : State → ℕ → ℕ → Event → Outcome
step s seat at event = outcome s (has_due s at) seat event (attempted (found_at s at) seat event)

-- the entry that an event makes, or none
abbrev pub made : State → ℕ → ℕ → Event → List Entry
made s seat at event = let o = step s seat at event in if o.entry then noted seat (max s.clock at) event o.reply ∷ [] else []

-- what a refused event leaves: the state as it was, or what deadlines that had come made of it, with an entry
abbrev pub left_refused : State → ℕ → ℕ → Event → Refusal → State
left_refused s seat at event refusal =
    if has_due s at then recorded (settled (found_at s at)) (noted seat (max s.clock at) event (reply.Refused refusal)) else s

-- two states that differ in the clock and the journal alone
abbrev pub IsSameButClock : State → State → Type 0
IsSameButClock s t = t ≡ record s { clock = t.clock; journal = t.journal }

-- What an event does, as code tells it.
use Rattle.std.specs.Prelude.{ℕ, ◌||◌}
use Rattle.rm_base.specs.declared.event.Event.{Event}
use Rattle.rm_rules.specs.State.{State}
use Rattle.rm_rules.specs.Change.{Change}
use Rattle.rm_rules.specs.Step.{has_due, found_at, attempted}
use Rattle.machine.specs.declared.done.Done.{Done}

-- the change to this state
abbrev pub change_to : State → Done → Change
change_to s done = record { state = s; answer = done.answer; changed = done.changed }

-- what an event of this seat does at the moment, where a deadline that has come changes something, too
abbrev pub attempted_at : State → ℕ → ℕ → Event → Change
attempted_at s seat at event =
    let c = attempted (found_at s at) seat event in
    record c { changed = has_due s at || c.changed }

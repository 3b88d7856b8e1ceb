-- Histories of events.
use Rattle.std.specs.Prelude.{◌≡◌, ℕ, Bool, true, false, ◌==◌, List, [], ◌∷◌, filter}
use Rattle.rm_base.specs.declared.entry.Entry.{Entry}
use Rattle.rm_base.specs.declared.event.Event.{Event}
use Rattle.rm_base.specs.declared.event.Event.TheVariants.{Define, Open, SetPool, SetCap, Submit, Poll, Check, GiveWay, Finish, Cancel, Close}
use Rattle.rm_base.specs.WellFormed.{IsWellFormed}
use Rattle.rm_rules.specs.State.{State}
use Rattle.rm_rules.specs.Step.{step, made}

-- the state that these entries leave
abbrev pub replay : State → List Entry → State
replay s [] = s
replay s (e ∷ es) = replay (step s e.seat e.at e.event).state es

-- some text spells a statement
abbrev pub IsFormed : Event → Type 0
IsFormed (Define statement) = IsWellFormed statement
IsFormed (Open user) = Unit {0}
IsFormed (SetPool session pool) = Unit {0}
IsFormed (SetCap session cap) = Unit {0}
IsFormed (Submit session floor) = Unit {0}
IsFormed (Poll session) = Unit {0}
IsFormed (Check session) = Unit {0}
IsFormed (GiveWay session) = Unit {0}
IsFormed (Finish session) = Unit {0}
IsFormed (Cancel by target) = Unit {0}
IsFormed (Close session) = Unit {0}

-- each entry is just the one that its event makes at its place
abbrev pub IsLegal : State → List Entry → Type 0
IsLegal s [] = Unit {0}
IsLegal s (e ∷ es) =
    IsFormed e.event × (made s e.seat e.at e.event ≡ e ∷ []) × IsLegal (step s e.seat e.at e.event).state es

-- the entries of one seat
abbrev pub own_entries : ℕ → List Entry → List Entry
own_entries seat entries = filter (λ e. e.seat == seat) entries

-- an event that is a statement
abbrev pub is_define : Event → Bool
is_define (Define statement) = true
is_define (Open user) = false
is_define (SetPool session pool) = false
is_define (SetCap session cap) = false
is_define (Submit session floor) = false
is_define (Poll session) = false
is_define (Check session) = false
is_define (GiveWay session) = false
is_define (Finish session) = false
is_define (Cancel by target) = false
is_define (Close session) = false

-- each statement comes from the first seat
abbrev pub FromFirst : List Entry → Type 0
FromFirst [] = Unit {0}
FromFirst (e ∷ es) = (is_define e.event ≡ true → e.seat ≡ 0) × FromFirst es

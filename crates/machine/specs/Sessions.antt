-- What the open sessions always are.
use Rattle.std.specs.Prelude.{◌≡◌, ◌≤◌, ℕ, nat_lt, Bool, true, ◌&&◌, List, [], ◌∷◌, length, map}
use Rattle.std.specs.List.{list_all}
use Rattle.rm_base.specs.declared.limits.TheConstants.{SESSIONS_MOST}
use Rattle.rm_rules.specs.declared.state.Session.{Session}
use Rattle.rm_rules.specs.State.{live_queries}
use Rattle.machine.specs.declared.sessions.Sessions.TheInside.{Inside}

-- the numbers rise
abbrev pub do_rise : List ℕ → Bool
do_rise [] = true
do_rise (n ∷ ns) = list_all (λ m. nat_lt n m) ns && do_rise ns

abbrev pub numbers : List Session → List ℕ
numbers sessions = map (λ x. x.number) sessions

-- the sessions stand in the order of their numbers, those with a live query are counted, and no more are open than may be
pub record AreInOrder (s : Inside) : Type 0 where
  pub rising : do_rise (numbers s.rows) ≡ true
  pub counted : s.live ≡ live_queries s.rows
  pub few : length s.rows ≤ SESSIONS_MOST

-- A state in which nothing is left to settle.
use Rattle.std.specs.Prelude.{◌≡◌, [], None}
use Rattle.rm_rules.specs.State.{State}
use Rattle.rm_rules.specs.Admission.{first_entitled}
use Rattle.rm_rules.specs.Shuffle.{shuffled_state}
use Rattle.rm_rules.specs.Deadlines.{first_nowait}
use Rattle.rm_rules.specs.Settle.{first_too_large}

pub record IsSettled (s : State) : Type 0 where
  pub none_too_large : first_too_large s ≡ None
  pub sizes_rest : shuffled_state s ≡ s
  pub none_entitled : first_entitled s ≡ None
  pub none_nowait : first_nowait s ≡ None
  -- where no query runs, none waits
  pub idle : s.running ≡ [] → s.waiting ≡ []

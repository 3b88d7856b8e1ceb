-- The session's query ends.
use Rattle.std.proofs.Common.{◌≡◌, ℕ, ◌+◌, ◌≤◌, [], ◌∷◌, List, Some, Option, refl, sym, ap, ◌∙◌, subst, arith, max}
use Rattle.rm_base.specs.declared.event.Event.TheVariants.{Finish}
use Rattle.rm_base.specs.declared.name.Name.{Name}
use Rattle.rm_base.specs.declared.reply.Reply.TheVariants as reply
use Rattle.rm_rules.specs.declared.state.Phase.TheVariants as phase
use Rattle.rm_rules.specs.declared.state.Runner.{Runner}
use Rattle.rm_rules.specs.declared.state.Session.{Session}
use Rattle.rm_rules.specs.declared.state.Waiter.{Waiter}
use Rattle.rm_rules.specs.State.{State, counted_entries}
use Rattle.rm_rules.specs.Step.{Outcome, step}
use Rattle.workload.specs.Rested.{own_session, IsAsked}
use Rattle.workload.proofs.Choosing.{one_more_entry}

-- a state in which the session's query runs, written out
abbrev pub busy : State → Option Name → Runner → State
busy s p r = record s { sessions = own_session p phase.Running ∷ []; running = record r { session = 1 } ∷ []; waiting = [] }

is-busy : (s : State) (h : IsAsked s) → s ≡ busy s h.chosen h.runner
is-busy s h =
    let x = own_session h.chosen phase.Running in
    let one : h.runner ≡ record h.runner { session = 1 } = ap (λ (n : ℕ). let r : Runner = record h.runner { session = n } in r) h.own in
    ap (λ (l : List Session). let u : State = record s { sessions = l } in u) h.sessions
    ∙ ap (λ (l : List Runner). let u : State = record s { sessions = x ∷ []; running = l } in u) (h.running ∙ ap (λ r. r ∷ []) one)
    ∙ ap (λ (l : List Waiter). let u : State = record s { sessions = x ∷ []; running = record h.runner { session = 1 } ∷ []; waiting = l } in u) h.waiting

-- what it leaves
pub record IsEnded (p : Option Name) (grant : ℕ) (s : State) (o : Outcome) : Type 0 where
  pub reply : o.reply ≡ reply.Released grant
  pub definitions : o.state.definitions ≡ s.definitions
  pub last_query : o.state.last_query ≡ s.last_query
  pub room : o.state.room ≡ s.room
  pub sessions : o.state.sessions ≡ own_session p phase.Idle ∷ []
  pub running : o.state.running ≡ []
  pub waiting : o.state.waiting ≡ []
  pub journal : counted_entries o.state.journal ≤ counted_entries s.journal + 1

end-busy : (s : State) (p : Option Name) (r : Runner) (at : ℕ) → IsEnded p r.grant s (step (busy s p r) 0 at (Finish 1))
end-busy s p r at = record {
  reply = refl;
  definitions = refl;
  last_query = refl;
  room = refl;
  sessions = refl;
  running = refl;
  waiting = refl;
  journal = omega (arith, one_more_entry s.journal (record { seat = 0; at = max s.clock at; event = Finish 1; reply = reply.Released r.grant }) refl);
}

pub end-step : (s : State) (h : IsAsked s) (at : ℕ) → IsEnded h.chosen h.runner.grant s (step s 0 at (Finish 1))
end-step s h at =
    subst (λ (u : State). IsEnded h.chosen h.runner.grant s (step u 0 at (Finish 1))) (sym (is-busy s h)) (end-busy s h.chosen h.runner at)

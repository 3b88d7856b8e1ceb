-- System tables are shown of the state: what they tell of the bytes is what the rules say of them.
use Rattle.std.proofs.Common.{◌≡◌, ℕ, ◌+◌, ◌-◌, min, Bool, true, false, cond, List, [], ◌∷◌, ◌++◌, map, Result, refl, sym, ap, ◌∙◌, subst, arith}
use Rattle.std.specs.List.{zip}
use Rattle.rm_base.specs.declared.definitions.Definitions.{Definitions}
use Rattle.rm_base.specs.Name.{same_name, general}
use Rattle.rm_rules.specs.declared.state.Holding.{Holding}
use Rattle.rm_rules.specs.declared.state.Runner.{Runner}
use Rattle.rm_rules.specs.declared.state.Waiter.{Waiter}
use Rattle.rm_rules.specs.Accounting.{own_of, used, account_behind, accounts_behind}
use Rattle.rm_rules.specs.Definitions.{user_pools}
use Rattle.rm_rules.specs.Healthy.{IsHealthy, AreWithinMemory}
use Rattle.rm_rules.specs.Holdings.{Holdings, holding, holdings, holdings_of, reserves_of}
use Rattle.rm_rules.specs.State.{State}
use Rattle.rm_base.specs.declared.name.Name.{Name}
use Rattle.rm_base.specs.declared.refusal.Refusal.{Refusal}
use Rattle.rm_base.specs.declared.snapshot.Looked.{Looked}
use Rattle.rm_rules.specs.Deadlines.{deadline_of}
use Rattle.machine.specs.Looked.{running_seen, waiting_seen, snapshot_of, looked_of}
use Rattle.system_tables.specs.declared.rows.Shown.{Shown}
use Rattle.system_tables.specs.TableRows.{shown_of}
use Rattle.sessions.specs.Turns.{ScriptState, show_turn}
use Rattle.system_tables.specs.Seen.{holding_seen, waiter_seen, holdings_seen, IsSeen}

-- a grant is its own bytes and those that it borrowed
both-parts : (b : Bool) (n part : ℕ) → cond b n (min n part) + (n - cond b n (min n part)) ≡ n
both-parts true n part = omega arith
both-parts false n part = omega arith

holding-seen : (h : Holdings) (before : List Holding) (r : Runner) → holding_seen (running_seen (r, account_behind h before (holding r))) ≡ holding r
holding-seen h before r =
    ap (λ (n : ℕ). let g : Holding = record { query = r.query; pool = r.pool; bytes = n } in g)
    (both-parts (same_name r.pool general) r.grant (own_of h r.pool - used r.pool before))

grants-seen : (h : Holdings) (before : List Holding) (rs : List Runner) → map holding_seen (map running_seen (zip rs (accounts_behind h before (holdings rs)))) ≡ holdings rs
grants-seen h before [] = refl
grants-seen h before (r ∷ rs) =
    ap (λ g. g ∷ map holding_seen (map running_seen (zip rs (accounts_behind h (before ++ holding r ∷ []) (holdings rs))))) (holding-seen h before r)
    ∙ ap (λ gs. holding r ∷ gs) (grants-seen h (before ++ holding r ∷ []) rs)

-- the bytes that a snapshot tells are those of the state
pub holdings-seen : (s : State) → holdings_seen (snapshot_of s) ≡ holdings_of s
holdings-seen s =
    ap (λ (gs : List Holding). let h : Holdings = record { in_force = s.in_force; reserves = reserves_of (user_pools s.definitions.pools) s.actual; grants = gs } in h)
    (grants-seen (holdings_of s) [] s.running)

-- what every snapshot of a healthy state keeps
pub healthy-seen : (s : State) → IsHealthy s → IsSeen (snapshot_of s)
healthy-seen s healthy = record {
  sound = healthy.sound;
  sized = healthy.sized;
  held = subst (AreWithinMemory s.definitions) (sym (holdings-seen s)) healthy.covered.held;
}

-- a deadline is that of the waiting query
pub deadline-seen : (d : Definitions) (w : Waiter) → deadline_of d (waiter_seen (waiting_seen w)) ≡ deadline_of d w
deadline-seen d w = refl

-- so does what a look at a healthy state tells
pub look-seen : (s : State) (looked : Looked) → IsHealthy s → looked ≡ looked_of s → IsSeen looked.snapshot
look-seen s looked healthy is = subst (λ (l : Looked). IsSeen l.snapshot) (sym is) (healthy-seen s healthy)

-- what a look at the script's machine shows is what its line shows
pub look-shown : (s : ScriptState) (m : State) (looked : Looked) (name : Name) (r : Result Shown Refusal) → looked ≡ looked_of m → m ≡ s.machine → shown_of looked.snapshot name ≡ r
    → show_turn s r ≡ show_turn s (shown_of (snapshot_of s.machine) name)
look-shown s m looked name r is same shown =
    ap (show_turn s) (sym shown ∙ ap (λ (l : Looked). shown_of l.snapshot name) is ∙ ap (λ (n : State). shown_of (snapshot_of n) name) same)

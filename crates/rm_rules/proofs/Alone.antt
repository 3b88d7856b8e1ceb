-- A query that is submitted while no query runs or waits, and is not refused for its size, is admitted when that settles.
use Rattle.std.proofs.Common.{◌≡◌, ℕ, zero, true, cond, List, [], ◌∷◌, ◌++◌, Some, None, Option, length, refl, ap, ◌∙◌}
use Rattle.std.specs.List.{find}
use Rattle.std.proofs.lemmas.Bool.{eq-eqb}
use Rattle.rm_base.specs.declared.name.Name.{Name}
use Rattle.rm_rules.specs.declared.state.Phase.TheVariants as phase
use Rattle.rm_rules.specs.declared.state.Session.{Session}
use Rattle.rm_rules.specs.declared.state.Waiter.{Waiter}
use Rattle.rm_rules.specs.declared.state.Runner.{Runner}
use Rattle.rm_rules.specs.Definitions.{pool_row}
use Rattle.rm_rules.specs.Ask.{is_too_large, too_large}
use Rattle.rm_rules.specs.State.{State, with_phase, without_waiter}
use Rattle.rm_rules.specs.Holdings.{holdings_of}
use Rattle.rm_rules.specs.Repeated.{repeated}
use Rattle.rm_rules.specs.Admission.{judged_for, first_in_queue, first_entitled, started, admitted, admission}
use Rattle.rm_rules.specs.Shuffle.{shuffled_state}
use Rattle.rm_rules.specs.Deadlines.{first_nowait, timed_out}
use Rattle.rm_rules.specs.Settle.{first_too_large, ended_too_large, without_nowait, settled}
use Rattle.rm_rules.specs.Change.{size_refusal, new_waiter, submitted}
use Rattle.rm_rules.specs.Sound.{IsSound, has_pool}
use Rattle.rm_rules.specs.Healthy.{AreSized, AreThere, AreWithinMemory}
use Rattle.rm_rules.proofs.Taken.{all_push}
use Rattle.rm_rules.proofs.Known.{chosen-with}
use Rattle.rm_rules.proofs.Refused.{not-refused}
use Rattle.rm_rules.proofs.Covering.{sized-shuffled, covered-shuffled}
use Rattle.rm_rules.proofs.Rests.{shuffled-rests}
use Rattle.rm_rules.proofs.Idle.{fits-idle, first_among-here}
use Rattle.rm_rules.proofs.SettledLaws.{repeated-none}

-- what settling does with one query that is not too large and is entitled after the shuffle
alone-settled : (t : State) (w : Waiter) → t.waiting ≡ w ∷ [] → first_too_large t ≡ None → first_entitled (shuffled_state t) ≡ Some w
    → settled t ≡ admitted (shuffled_state t) w
alone-settled t w alone fits picked =
    let u = shuffled_state t in
    let v = admitted u w in
    let admits : admission u ≡ v =
    ap (λ (l : List Waiter). repeated first_entitled admitted (length l) u) alone
    ∙ ap (λ (o : Option Waiter). elim o [ Some x ↦ repeated first_entitled admitted zero (admitted u x) | None ↦ u ]) picked in
    let nobody : v.waiting ≡ [] = ap (without_waiter w.session) alone ∙ ap (λ b. cond b [] (w ∷ [])) (eq-eqb w.session w.session refl) in
    ap (λ a. admission (without_nowait (admission (shuffled_state a)))) (repeated-none first_too_large ended_too_large (length t.waiting) t fits)
    ∙ ap (λ a. admission (without_nowait a)) admits
    ∙ ap (λ (l : List Waiter). admission (repeated first_nowait timed_out (length l) v)) nobody
    ∙ ap (λ (l : List Waiter). repeated first_entitled admitted (length l) v) nobody

-- where it alone waits, it is the first in queue order
first-alone : (s : State) (w : Waiter) → s.waiting ≡ w ∷ [] → (judged_for s.definitions (holdings_of s) w).fits ≡ true → first_entitled s ≡ Some w
first-alone s w alone fits =
    ap (first_in_queue s.definitions (holdings_of s)) alone ∙ first_among-here s.definitions (holdings_of s) w [] fits

-- the query is admitted, and nothing else settles
pub admitted-alone : (s : State) (x : Session) (pool : Name) (floor : ℕ) → IsSound s.definitions → AreSized s.definitions s.actual s.counters
    → AreThere s.definitions s.sessions s.waiting s.running → AreWithinMemory s.definitions (holdings_of s) → has_pool s.definitions pool ≡ true
    → s.running ≡ [] → s.waiting ≡ [] → size_refusal s.definitions pool x.user floor ≡ None
    → (let t = (submitted s x pool floor).state in settled t ≡ admitted (shuffled_state t) (new_waiter s x pool floor))
admitted-alone s x pool floor sound sized there held known idle nobody small =
    let d = s.definitions in
    let t = (submitted s x pool floor).state in
    let w = new_waiter s x pool floor in
    let alone : t.waiting ≡ w ∷ [] = ap (λ (l : List Waiter). l ++ w ∷ []) nobody in
    let fits : first_too_large t ≡ None =
    ap (find (λ (y : Waiter). is_too_large d (pool_row d y.pool) y.user y.floor)) alone
    ∙ ap (λ b. cond b (Some w) None) (not-refused (is_too_large d (pool_row d pool) x.user floor) (too_large d (pool_row d pool) x.user floor) small) in
    let all : AreThere d t.sessions t.waiting t.running = record {
      runs = there.runs;
      waits = all_push (λ y. has_pool d y.pool) s.waiting w there.waits known;
      chosen = chosen-with d x.number phase.Waiting s.sessions there.chosen;
      leaves = there.leaves;
    } in
    let u = shuffled_state t in
    let first = first-alone u w alone (fits-idle u w sound (sized-shuffled t sized) (covered-shuffled t sound sized all held) (shuffled-rests t sized) idle known) in
    alone-settled t w alone fits first

-- so it runs, alone, with its ask as its grant, and none waits
pub record RunsAlone (s : State) (x : Session) (pool : Name) (floor : ℕ) (new : State) : Type 0 where
  pub running : new.running ≡ started s (new_waiter s x pool floor) ∷ []
  pub waiting : new.waiting ≡ []
  pub sessions : new.sessions ≡ with_phase x.number phase.Running (with_phase x.number phase.Waiting s.sessions)

pub runs-alone : (s : State) (x : Session) (pool : Name) (floor : ℕ) → IsSound s.definitions → AreSized s.definitions s.actual s.counters
    → AreThere s.definitions s.sessions s.waiting s.running → AreWithinMemory s.definitions (holdings_of s) → has_pool s.definitions pool ≡ true
    → s.running ≡ [] → s.waiting ≡ [] → size_refusal s.definitions pool x.user floor ≡ None → RunsAlone s x pool floor (settled (submitted s x pool floor).state)
runs-alone s x pool floor sound sized there held known idle nobody small =
    let w = new_waiter s x pool floor in
    let is = admitted-alone s x pool floor sound sized there held known idle nobody small in
    record {
      running = ap (λ (t : State). t.running) is ∙ ap (λ (l : List Runner). l ++ started s w ∷ []) idle;
      waiting = ap (λ (t : State). t.waiting) is ∙ ap (λ (l : List Waiter). without_waiter w.session (l ++ w ∷ [])) nobody ∙ ap (λ b. cond b [] (w ∷ [])) (eq-eqb w.session w.session refl);
      sessions = ap (λ (t : State). t.sessions) is;
    }

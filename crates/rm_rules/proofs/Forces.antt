-- The memory in force rises only where a statement raises the total.
use Rattle.std.proofs.Common.{◌≡◌, ℕ, ◌≤◌, ◌||◌, refl, ap, arith, max}
use Rattle.rm_base.specs.declared.event.Event.{Event}
use Rattle.rm_base.specs.declared.event.Event.TheVariants.{Define, Open, SetPool, SetCap, Submit, Poll, Check, GiveWay, Finish, Cancel, Close}
use Rattle.rm_rules.specs.Definitions.{total}
use Rattle.rm_rules.specs.State.{State}
use Rattle.rm_rules.specs.Settle.{settled}
use Rattle.rm_rules.specs.DropPool.{dropped}
use Rattle.rm_rules.specs.Change.{Change, defined}
use Rattle.rm_rules.specs.Step.{entered, moved_to, has_due, found_at, attempted, step}
use Rattle.rm_rules.specs.Replay.{IsFormed}
use Rattle.rm_rules.specs.Healthy.{IsUnsettled, IsHealthy}
use Rattle.rm_rules.specs.Grants.{RaisesForce}
use Rattle.rm_rules.proofs.Settling.{due-keeps, rest-settled, rest-due, force-settled}
use Rattle.rm_rules.proofs.Changing.{IsTried, stays, changes, IsChange, defines, drops, opens, chooses, caps, submits, collects, moves_on, asks, gives_way, finishes, withdraws, stops, closes, tried-is}
use Rattle.rm_rules.proofs.Answering.{beside-answered}
use Rattle.rm_rules.proofs.Stepping.{unsettled-tried, outcome-turn}

force-least : (s t : State) (event : Event) → t.in_force ≤ s.in_force → RaisesForce s t event
force-least s t (Define statement) least = λ rises. absurd (omega (arith, rises, least))
force-least s t (Open user) least = least
force-least s t (SetPool session pool) least = least
force-least s t (SetCap session cap) least = least
force-least s t (Submit session floor) least = least
force-least s t (Poll session) least = least
force-least s t (Check session) least = least
force-least s t (GiveWay session) least = least
force-least s t (Finish session) least = least
force-least s t (Cancel by target) least = least
force-least s t (Close session) least = least

-- the definitions are those before the event, but for a statement
force-changed : (s t : State) (seat : ℕ) (event : Event) (c : Change) → IsChange t seat event c → t.definitions ≡ s.definitions → t.in_force ≡ s.in_force
    → (settled c.state).in_force ≤ max (total c.state.definitions) c.state.in_force → total s.definitions ≤ s.in_force → RaisesForce s (settled c.state) event
force-changed s t seat _ _ (defines statement new none accepts) same force most least =
    λ rises. let left = rest-settled (defined t new) in omega (arith, rises, most, force, least, ap total left.definitions)
force-changed s t seat _ _ (drops pool new accepts) same force most least =
    λ rises. let left = rest-settled (dropped t pool new) in omega (arith, rises, most, force, least, ap total left.definitions)
force-changed s t seat _ _ (opens user may) same force most least = omega (arith, most, force, least, ap total same)
force-changed s t seat _ _ (chooses session pool x found may other) same force most least = omega (arith, most, force, least, ap total same)
force-changed s t seat _ _ (caps session cap x found room other) same force most least = omega (arith, most, force, least, ap total same)
force-changed s t seat _ _ (submits session floor x found may) same force most least = omega (arith, most, force, least, ap total same)
force-changed s t seat _ _ (collects session x end found ended) same force most least = omega (arith, most, force, least, ap total same)
force-changed s t seat _ _ (moves_on session x r pool is taken) same force most least = omega (arith, most, force, least, ap total same)
force-changed s t seat _ _ (asks session x r pool is) same force most least = omega (arith, most, force, least, ap total same)
force-changed s t seat _ _ (gives_way session x r pool found runs leaves) same force most least = omega (arith, most, force, least, ap total same)
force-changed s t seat _ _ (finishes session x found runs) same force most least = omega (arith, most, force, least, ap total same)
force-changed s t seat _ _ (withdraws by target x y w may waits) same force most least = omega (arith, most, force, least, ap total same)
force-changed s t seat _ _ (stops by target x y r may runs first) same force most least = omega (arith, most, force, least, ap total same)
force-changed s t seat _ _ (closes session x found rests) same force most least = omega (arith, most, force, least, ap total same)

pub force-found : (s : State) (at : ℕ) → (found_at s at).in_force ≡ s.in_force
force-found s at = due-keeps (λ t. t.in_force ≡ s.in_force) (λ t w end among p. p) (moved_to s at) refl

force-tried : (s : State) (seat at : ℕ) (event : Event) (c : Change) → IsTried (found_at s at) seat event c → IsUnsettled c.answer c.state → IsHealthy s
    → RaisesForce s (settled c.state) event
force-tried s seat at event _ (stays answer still) h healthy =
    let t = found_at s at in
    let most = force-settled t h.sized h.held in
    force-least s (settled t) event (omega (arith, most, force-found s at, healthy.covered.in_force_least, ap total (rest-due (moved_to s at)).definitions))
force-tried s seat at event _ (changes c is loud) h healthy =
    let t = found_at s at in
    force-changed s t seat event c is (rest-due (moved_to s at)).definitions (force-found s at) (force-settled c.state h.sized h.held) healthy.covered.in_force_least

force-like : (s t u : State) (event : Event) → u.in_force ≡ t.in_force → u.definitions ≡ t.definitions → RaisesForce s t event → RaisesForce s u event
force-like s t u (Define statement) same defs h = λ rises. let more = h (omega (arith, rises, same)) in omega (arith, more, ap total defs)
force-like s t u (Open user) same defs h = omega (arith, same, h)
force-like s t u (SetPool session pool) same defs h = omega (arith, same, h)
force-like s t u (SetCap session cap) same defs h = omega (arith, same, h)
force-like s t u (Submit session floor) same defs h = omega (arith, same, h)
force-like s t u (Poll session) same defs h = omega (arith, same, h)
force-like s t u (Check session) same defs h = omega (arith, same, h)
force-like s t u (GiveWay session) same defs h = omega (arith, same, h)
force-like s t u (Finish session) same defs h = omega (arith, same, h)
force-like s t u (Cancel by target) same defs h = omega (arith, same, h)
force-like s t u (Close session) same defs h = omega (arith, same, h)

pub force-step : (s : State) (seat at : ℕ) (event : Event) → IsHealthy s → IsFormed event → RaisesForce s (step s seat at event).state event
force-step s seat at event h formed =
    let c = attempted (found_at s at) seat event in
    let is = tried-is (found_at s at) seat event in
    outcome-turn (λ o. RaisesForce s o.state event) s seat event c (has_due s at || c.changed)
    (λ settles.
    let t = settled c.state in
    let beside = (beside-answered t c.answer).beside in
    force-like s t (entered seat event t c.answer).state event (ap (λ (u : State). u.in_force) beside) (ap (λ (u : State). u.definitions) beside)
    (force-tried s seat at event c is (unsettled-tried s seat at event c is formed h settles) h)
    )
    (λ still. force-least s s event (omega arith))

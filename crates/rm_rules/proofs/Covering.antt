-- What admission, the shuffle, an end, a statement and the start leave of the bytes.
use Rattle.std.proofs.Common.{◌≡◌, ℕ, ◌+◌, ◌≤◌, Bool, true, List, [], ◌∷◌, length, Some, Ok, refl, sym, ap, ◌∙◌, subst, arith, sum_by, map, max, eqb}
use Rattle.std.specs.List.{find, list_any}
use Rattle.std.proofs.lemmas.List.{length-map, map_push}
use Rattle.std.proofs.lemmas.List.Sums.{sum_by-cons}
use Rattle.rm_base.specs.declared.definitions.Definitions.{Definitions}
use Rattle.rm_base.specs.declared.name.Name.{Name}
use Rattle.rm_base.specs.declared.rows.PoolRow.{PoolRow}
use Rattle.rm_base.specs.declared.statement.Statement.{Statement}
use Rattle.rm_base.specs.Name.{same_name, general}
use Rattle.rm_rules.specs.declared.state.Holding.{Holding}
use Rattle.rm_rules.specs.declared.state.Reserve.{Reserve}
use Rattle.rm_rules.specs.declared.state.Waiter.{Waiter}
use Rattle.rm_rules.specs.declared.state.Runner.{Runner}
use Rattle.rm_rules.specs.Definitions.{total, user_pools}
use Rattle.rm_rules.specs.State.{State, start, none_ended, without, without_runner, runner_of}
use Rattle.rm_rules.specs.Holdings.{Holdings, holding, holdings, holdings_of, reserves_of, reserve_names}
use Rattle.rm_rules.specs.Accounting.{held_in, free, need, kept_back}
use Rattle.rm_rules.specs.Admission.{admitted, started, first_entitled}
use Rattle.rm_rules.specs.Shuffle.{shuffled, shuffled_state}
use Rattle.rm_rules.specs.Acceptance.{accepted}
use Rattle.rm_rules.specs.Change.{defined}
use Rattle.rm_rules.specs.DropPool.{drops_none}
use Rattle.rm_rules.specs.Sound.{IsSound}
use Rattle.rm_rules.specs.Healthy.{AreSized, AreThere, AreWithinMemory, AreCovered}
use Rattle.rm_rules.proofs.Taken.{all_push, sum_without}
use Rattle.rm_rules.proofs.Pools.{sum_by-map}
use Rattle.rm_rules.proofs.Bytes.{AreNamed, named, named-pool, with_grant, lent-push, lent-more, lent-less, lent-none, reserve_names-of}
use Rattle.rm_rules.proofs.Queue.{first_entitled_fits, enough}
use Rattle.rm_rules.proofs.There.{waiting-there}
use Rattle.rm_rules.proofs.Conserved.{granted-within}
use Rattle.rm_rules.proofs.Shuffling.{covered-shuffle, force-shuffle, shuffle-names, shuffled-bytes}
use Rattle.rm_rules.proofs.AcceptanceLaws.{accepted-counted}
use Rattle.rm_rules.proofs.Defining.{accepted-names, places, there-after}

-- one grant more, for which enough is free, leaves the bytes covered
covered-push : (d : Definitions) (h : Holdings) (g : Holding) → AreNamed (with_grant h g) → AreCovered d h → need h g.pool g.bytes ≤ free h
    → AreCovered d (with_grant h g)
covered-push d h g named covered enough =
    let held = covered.held in
    let lends = lent-push h g named.distinct in
    record {
      held = record {
        within = omega (arith, held.within, lends, enough);
        granted = granted-within (with_grant h g) named (omega (arith, held.within, lends, enough));
        in_force_most = held.in_force_most;
      };
      in_force_least = covered.in_force_least;
      full_above_total = λ above. omega (arith, covered.full_above_total above, lent-more h g);
    }

-- an admission leaves the bytes covered
pub admitted-bytes : (s : State) (w : Waiter) → holdings_of (admitted s w) ≡ with_grant (holdings_of s) (holding (started s w))
admitted-bytes s w = ap (λ (gs : List Holding). let u : Holdings = record (holdings_of s) { grants = gs } in u) (map_push holding s.running (started s w))

pub covered-admitted : (s : State) (w : Waiter) → IsSound s.definitions → AreSized s.definitions s.actual s.counters
    → AreThere s.definitions s.sessions s.waiting s.running → AreCovered s.definitions (holdings_of s) → first_entitled s ≡ Some w
    → AreCovered s.definitions (holdings_of (admitted s w))
covered-admitted s w sound sized there covered picked =
    let d = s.definitions in
    let h = holdings_of s in
    let f = first_entitled_fits s w picked in
    let all = named s sound sized there in
    let more : AreNamed (with_grant h (holding (started s w))) = record {
      distinct = all.distinct;
      known = all_push (λ g. list_any (same_name g.pool) (general ∷ reserve_names h.reserves)) h.grants (holding (started s w)) all.known (sym (named-pool s sound sized w.pool) ∙ waiting-there s w f.0 there);
    } in
    subst (AreCovered d) (sym (admitted-bytes s w)) (covered-push d h (holding (started s w)) more covered (enough d h w f.1))

-- the shuffle leaves a size for each pool
pub sized-shuffled : (s : State) → AreSized s.definitions s.actual s.counters → AreSized s.definitions (shuffled_state s).actual (shuffled_state s).counters
sized-shuffled s sized =
    let d = s.definitions in
    let u = shuffled d (holdings_of s) in
    let same : reserve_names u.reserves ≡ reserve_names (holdings_of s).reserves = shuffle-names d (holdings_of s) in
    record {
      sizes = omega (
        arith,
        length-map u.reserves (λ e. e.size),
        length-map u.reserves (λ e. e.pool),
        ap (λ (l : List Name). length l) (same ∙ reserve_names-of (user_pools d.pools) s.actual sized.sizes),
        length-map (user_pools d.pools) (λ (r : PoolRow). r.name),
      );
      counts = sized.counts;
    }

-- after the shuffle the bytes are covered
pub covered-shuffled : (s : State) → IsSound s.definitions → AreSized s.definitions s.actual s.counters
    → AreThere s.definitions s.sessions s.waiting s.running → AreWithinMemory s.definitions (holdings_of s)
    → AreCovered s.definitions (holdings_of (shuffled_state s))
covered-shuffled s sound sized there held =
    subst (AreCovered s.definitions) (sym (shuffled-bytes s sized)) (covered-shuffle s.definitions (holdings_of s) sound (named s sound sized there) held)

-- the memory in force is then no more than it was, or the total
pub force-shuffled : (s : State) → AreSized s.definitions s.actual s.counters → AreWithinMemory s.definitions (holdings_of s)
    → (shuffled_state s).in_force ≤ max (total s.definitions) s.in_force
force-shuffled s sized held = force-shuffle s.definitions (holdings_of s) held.within

-- what the others hold, where one is taken out
held-without : (f : Holding → ℕ) (test : Runner → Bool) (r : Runner) (running : List Runner) → find test running ≡ Some r
    → sum_by f (holdings (without test running)) + f (holding r) ≡ sum_by f (holdings running)
held-without f test r running found =
    omega (arith, sum_by-map f holding (without test running), sum_by-map f holding running, sum_without (λ (x : Runner). f (holding x)) test r running found)

-- a query that ends leaves the bytes held
pub held-finished : (s : State) (n : ℕ) (r : Runner) → runner_of s.running n ≡ Some r → IsSound s.definitions
    → AreSized s.definitions s.actual s.counters → AreThere s.definitions s.sessions s.waiting s.running → AreWithinMemory s.definitions (holdings_of s)
    → (let u : State = record s { running = without_runner n s.running } in AreWithinMemory s.definitions (holdings_of u))
held-finished s n r found sound sized there held =
    let test = λ (x : Runner). eqb x.session n in
    let lends = lent-less (holdings_of s) (holdings (without_runner n s.running)) (λ p. omega (arith, held-without (held_in p) test r s.running found)) in
    record {
      within = omega (arith, held.within, lends);
      granted = omega (arith, held.granted, held-without (λ (g : Holding). g.bytes) test r s.running found);
      in_force_most = held.in_force_most;
    }

-- what a statement leaves
pub record IsDefined (s : State) (d : Definitions) : Type 0 where
  pub sized : AreSized d (defined s d).actual (defined s d).counters
  pub there : AreThere d s.sessions s.waiting s.running
  pub held : AreWithinMemory d (holdings_of (defined s d))

pub held-defined : (s : State) (statement : Statement) (d : Definitions) → drops_none statement ≡ true → accepted s.definitions statement ≡ Ok d
    → IsSound s.definitions → IsSound d → AreSized s.definitions s.actual s.counters → AreThere s.definitions s.sessions s.waiting s.running
    → AreWithinMemory s.definitions (holdings_of s) → IsDefined s d
held-defined s statement d none is sound new sized there held =
    let after = accepted-names s.definitions statement d none is in
    let p = places s d after sound sized there in
    let same : d.memory ≡ s.definitions.memory = (accepted-counted s.definitions statement d is).memory in
    record {
      sized = p.sized;
      there = there-after s.definitions d s.sessions s.waiting s.running after there;
      held = record { within = omega (arith, held.within, p.kept, p.debts); granted = held.granted; in_force_most = omega (arith, held.in_force_most, same) };
    }

-- at the start each pool has its size, and the bytes are covered
pub sized-start : (d : Definitions) (room : ℕ) → (let s = start d room in AreSized d s.actual s.counters)
sized-start d room = record { sizes = length-map (user_pools d.pools) (λ r. r.memory); counts = length-map d.pools (λ _. none_ended) }

kept-start : (rows : List PoolRow) → kept_back (reserves_of rows (map (λ r. r.memory) rows)) ≡ sum_by (λ r. r.memory) rows
kept-start [] = refl
kept-start (r ∷ rs) =
    omega (
      arith,
      kept-start rs,
      sum_by-cons (λ (e : Reserve). e.size) (let x : Reserve = record { pool = r.name; size = r.memory } in x) (reserves_of rs (map (λ (r : PoolRow). r.memory) rs)),
      sum_by-cons (λ (x : PoolRow). x.memory) r rs,
    )

pub user_memory-most : (pools : List PoolRow) → sum_by (λ r. r.memory) (user_pools pools) ≤ sum_by (λ r. r.memory) pools
user_memory-most [] = omega arith
user_memory-most (r ∷ rs) = omega (arith, sum_by-cons (λ (x : PoolRow). x.memory) r rs)

pub covered-start : (d : Definitions) (room : ℕ) → IsSound d → AreCovered d (holdings_of (start d room))
covered-start d room sound =
    let h = holdings_of (start d room) in
    record {
      held = record {
        within = omega (arith, kept-start (user_pools d.pools), lent-none h (λ p. refl), user_memory-most d.pools, sound.reserved_most);
        granted = omega arith;
        in_force_most = sound.total_most;
      };
      in_force_least = omega arith;
      full_above_total = λ above. absurd (omega (arith, above));
    }

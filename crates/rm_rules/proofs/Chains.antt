-- Chains of CASCADE TO that end: how many pools they have, and that each of them is there.
use Rattle.std.specs.Prelude.{◌≡◌, ℕ, zero, suc, ◌-◌, ◌<◌, ◌≤◌, Bool, true, false, cond, nat_lt, List, [], length, Option, Some, None, is_some, option_and_then, find, refl}
use Rattle.std.specs.List.{list_all}
use Rattle.std.proofs.Common.{sym, ap, ◌∙◌, arith}
use Rattle.std.proofs.lemmas.Bool.{false≢true}
use Rattle.std.proofs.lemmas.Bool.Decides.{nat_tests}
use Rattle.rm_base.specs.declared.limits.TheConstants.{CHAIN_MOST, POOLS_MOST, MOVES_MOST}
use Rattle.rm_base.specs.declared.definitions.Definitions.{Definitions}
use Rattle.rm_base.specs.declared.rows.PoolRow.{PoolRow}
use Rattle.rm_base.specs.declared.name.Name.{Name}
use Rattle.rm_base.specs.Name.{same_name}
use Rattle.rm_rules.specs.Definitions.{pool_called}
use Rattle.rm_rules.specs.Sound.{IsSound, chain_ends, has_pool}
use Rattle.rm_rules.specs.PoolStatements.{chain, cascade_of}
use Rattle.rm_rules.specs.Target.{pools_behind, leaves_time, target}
use Rattle.rm_rules.proofs.Taken.{all_found, found_passes}
use Rattle.rm_rules.proofs.AcceptanceChains.{chain-some, chain-none}

chain-zero : (pools : List PoolRow) (next : Option Name) → chain pools 0 next ≡ []
unfolding chain
chain-zero pools next = refl

-- a chain that ends has no more pools than it may have
short-turn : (pools : List PoolRow) (n most : ℕ) (o : Option PoolRow) → elim o [ None ↦ false | Some r ↦ chain_ends pools n r.cascade ] ≡ true
    → ((r : PoolRow) → chain_ends pools n r.cascade ≡ true → length (chain pools most r.cascade) ≤ n)
    → length (chain pools most (option_and_then (λ r. r.cascade) o)) ≤ n
short-turn pools n most None ends behind = absurd (false≢true ends)
short-turn pools n most (Some r) ends behind = behind r ends

short : (pools : List PoolRow) (n most : ℕ) (next : Option Name) → chain_ends pools n next ≡ true → length (chain pools most next) ≤ n
short pools n zero next ends = omega (arith, ap length (chain-zero pools next))
short pools n (suc most) None ends = omega (arith, ap length (chain-none pools (suc most)))
short pools zero (suc most) (Some name) ends = absurd (false≢true ends)
short pools (suc n) (suc most) (Some name) ends =
    let behind : length (chain pools most (cascade_of pools name)) ≤ n =
    short-turn pools n most (pool_called pools name) ends (λ r h. short pools n most r.cascade h) in
    omega (arith, ap length (chain-some pools most name))

-- what is found on a chain that ends is there
there-turn : (pools : List PoolRow) (test : Name → Bool) (n most : ℕ) (name to : Name) (o : Option PoolRow) (b : Bool) → pool_called pools name ≡ o
    → elim o [ None ↦ false | Some r ↦ chain_ends pools n r.cascade ] ≡ true
    → cond b (Some name) (find test (chain pools most (option_and_then (λ r. r.cascade) o))) ≡ Some to
    → ((r : PoolRow) → chain_ends pools n r.cascade ≡ true → find test (chain pools most r.cascade) ≡ Some to → is_some (pool_called pools to) ≡ true)
    → is_some (pool_called pools to) ≡ true
there-turn pools test n most name to None b e ends found behind = absurd (false≢true ends)
there-turn pools test n most name to (Some r) true e ends found behind =
    let same : name ≡ to = cc in
    ap (λ m. is_some (pool_called pools m)) (sym same) ∙ ap is_some e
there-turn pools test n most name to (Some r) false e ends found behind = behind r ends found

found-there : (pools : List PoolRow) (test : Name → Bool) (n most : ℕ) (next : Option Name) (to : Name) → chain_ends pools n next ≡ true
    → find test (chain pools most next) ≡ Some to → is_some (pool_called pools to) ≡ true
found-there pools test n zero next to ends found =
    let none : None ≡ Some to = sym (ap (λ names. find test names) (chain-zero pools next)) ∙ found in
    absurd (cc)
found-there pools test n (suc most) None to ends found =
    let none : None ≡ Some to = sym (ap (λ names. find test names) (chain-none pools (suc most))) ∙ found in
    absurd (cc)
found-there pools test zero (suc most) (Some name) to ends found = absurd (false≢true ends)
found-there pools test (suc n) (suc most) (Some name) to ends found =
    there-turn pools test n most name to (pool_called pools name) (test name) refl ends
    (sym (ap (λ names. find test names) (chain-some pools most name)) ∙ found)
    (λ r h g. found-there pools test n most r.cascade to h g)

-- the chain behind a pool ends, where each pool's does
ends-none : (pools : List PoolRow) (n : ℕ) → chain_ends pools n None ≡ true
ends-none pools zero = refl
ends-none pools (suc n) = refl

ends-turn : (pools : List PoolRow) (n : ℕ) (name : Name) (o : Option PoolRow) → pool_called pools name ≡ o
    → list_all (λ r. chain_ends pools n r.cascade) pools ≡ true → chain_ends pools n (option_and_then (λ r. r.cascade) o) ≡ true
ends-turn pools n name None e all = ends-none pools n
ends-turn pools n name (Some r) e all = all_found (λ x. chain_ends pools n x.cascade) (λ x. same_name x.name name) pools r all e

behind-ends : (d : Definitions) (pool : Name) → IsSound d → chain_ends d.pools (CHAIN_MOST - 1) (cascade_of d.pools pool) ≡ true
behind-ends d pool sound = ends-turn d.pools (CHAIN_MOST - 1) pool (pool_called d.pools pool) refl sound.chains_end

pub behind-short : (d : Definitions) (pool : Name) → IsSound d → length (pools_behind d.pools pool) < CHAIN_MOST
behind-short d pool sound = omega (arith, short d.pools (CHAIN_MOST - 1) POOLS_MOST (cascade_of d.pools pool) (behind-ends d pool sound))

-- what a target is
target-turn : (b : Bool) (o : Option Name) (to : Name) → cond b o None ≡ Some to → (b ≡ true) × (o ≡ Some to)
target-turn true o to found = (refl, found)
target-turn false o to found = let none : None ≡ Some to = found in absurd (cc)

pub target-there : (d : Definitions) (pool : Name) (running moves : ℕ) (to : Name) → IsSound d → target d pool running moves ≡ Some to → has_pool d to ≡ true
target-there d pool running moves to sound found =
    found-there d.pools (leaves_time d running) (CHAIN_MOST - 1) POOLS_MOST (cascade_of d.pools pool) to (behind-ends d pool sound)
    (target-turn (nat_lt moves MOVES_MOST) (find (leaves_time d running) (pools_behind d.pools pool)) to found).1

pub target-time : (d : Definitions) (pool : Name) (running moves : ℕ) (to : Name) → target d pool running moves ≡ Some to → leaves_time d running to ≡ true
target-time d pool running moves to found =
    found_passes (leaves_time d running) to (pools_behind d.pools pool)
    (target-turn (nat_lt moves MOVES_MOST) (find (leaves_time d running) (pools_behind d.pools pool)) to found).1

pub target-moves : (d : Definitions) (pool : Name) (running moves : ℕ) (to : Name) → target d pool running moves ≡ Some to → moves < MOVES_MOST
target-moves d pool running moves to found =
    let few : nat_lt moves MOVES_MOST ≡ true = (target-turn (nat_lt moves MOVES_MOST) (find (leaves_time d running) (pools_behind d.pools pool)) to found).0 in
    grind (arith, nat_tests)

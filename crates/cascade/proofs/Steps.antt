-- Along a chain of CASCADE TO, a pool at a time.
use Rattle.std.specs.Prelude.{◌≡◌, ℕ, zero, suc, ◌<◌, true, false, cond, nat_lt, List, ◌∷◌, length, Option, Some, None, find, unwrap_or, option_and_then, refl}
use Rattle.std.proofs.Common.{sym, ap, ◌∙◌, subst, arith}
use Rattle.rm_base.specs.declared.limits.TheConstants.{POOLS_MOST}
use Rattle.rm_base.specs.declared.definitions.Definitions.{Definitions}
use Rattle.rm_base.specs.declared.rows.PoolRow.{PoolRow}
use Rattle.rm_base.specs.declared.name.Name.{Name}
use Rattle.rm_base.specs.Definitions.{default_pool_row}
use Rattle.rm_base.specs.Ranges.{passes_if_set}
use Rattle.rm_rules.specs.Definitions.{pool_called, pool_row}
use Rattle.rm_rules.specs.Sound.{IsSound, has_pool}
use Rattle.rm_rules.specs.PoolStatements.{chain, cascade_of}
use Rattle.rm_rules.specs.Target.{pools_behind, leaves_time}
use Rattle.rm_rules.proofs.AcceptanceChains.{chain-some, chain-none}
use Rattle.rm_rules.proofs.Chains.{behind-short, target-there}

-- a chain that is shorter than what is read has no more where more is read
settled : (pools : List PoolRow) (most : ℕ) (next : Option Name) → length (chain pools most next) < most → chain pools (suc most) next ≡ chain pools most next
settled pools zero next short = absurd (omega arith)
settled pools (suc most) None short = chain-none pools (suc (suc most)) ∙ sym (chain-none pools (suc most))
settled pools (suc most) (Some name) short =
    let less : length (chain pools most (cascade_of pools name)) < most = omega (arith, ap length (chain-some pools most name)) in
    chain-some pools (suc most) name
    ∙ ap (λ names. name ∷ names) (settled pools most (cascade_of pools name) less)
    ∙ sym (chain-some pools most name)

-- such a chain, a pool further
further : (pools : List PoolRow) (most : ℕ) (next : Option Name) (name : Name) → next ≡ Some name → length (chain pools most next) < most
    → chain pools most next ≡ name ∷ chain pools most (cascade_of pools name)
further pools zero next name e short = absurd (omega arith)
further pools (suc most) next name e short =
    let whole : chain pools (suc most) next ≡ name ∷ chain pools most (cascade_of pools name) =
    ap (λ o. chain pools (suc most) o) e ∙ chain-some pools most name in
    let less : length (chain pools most (cascade_of pools name)) < most = omega (arith, ap length whole) in
    whole ∙ ap (λ names. name ∷ names) (sym (settled pools most (cascade_of pools name) less))

-- where a row's pool cascades to
cascade-turn : (o : Option PoolRow) (name : Name) → (unwrap_or o (default_pool_row name)).cascade ≡ option_and_then (λ r. r.cascade) o
cascade-turn None name = refl
cascade-turn (Some r) name = refl

row-cascade : (d : Definitions) (name : Name) (r : PoolRow) → r ≡ pool_row d name → r.cascade ≡ cascade_of d.pools name
row-cascade d name r e = ap (λ x. x.cascade) e ∙ cascade-turn (pool_called d.pools name) name

-- what is found from here on is what is found behind the pool, and the chain from here on is read whole
pub record Leads (d : Definitions) (pool : Name) (running : ℕ) (next : Option Name) : Type 0 where
  pub rest : find (leaves_time d running) (chain d.pools POOLS_MOST next) ≡ find (leaves_time d running) (pools_behind d.pools pool)
  pub short : length (chain d.pools POOLS_MOST next) < POOLS_MOST

pub leads-first : (d : Definitions) (pool : Name) (running : ℕ) (r : PoolRow) → IsSound d → r ≡ pool_row d pool → Leads d pool running r.cascade
leads-first d pool running r sound e =
    let first : Leads d pool running (cascade_of d.pools pool) = record { rest = refl; short = omega (arith, behind-short d pool sound) } in
    subst (λ o. Leads d pool running o) (sym (row-cascade d pool r e)) first

-- the pool leaves the query time
pub found-here : (d : Definitions) (pool : Name) (running : ℕ) (next : Option Name) (name : Name) (r : PoolRow) → Leads d pool running next
    → next ≡ Some name → r ≡ pool_row d name → passes_if_set (nat_lt running) r.cap_ms ≡ true
    → Some name ≡ find (leaves_time d running) (pools_behind d.pools pool)
found-here d pool running next name r leads e row time =
    let here : leaves_time d running name ≡ true = sym (ap (λ x. passes_if_set (nat_lt running) x.cap_ms) row) ∙ time in
    sym (ap (λ b. cond b (Some name) (find (leaves_time d running) (chain d.pools POOLS_MOST (cascade_of d.pools name)))) here)
    ∙ sym (ap (λ names. find (leaves_time d running) names) (further d.pools POOLS_MOST next name e leads.short))
    ∙ leads.rest

-- it does not
pub leads-on : (d : Definitions) (pool : Name) (running : ℕ) (next : Option Name) (name : Name) (r : PoolRow) → Leads d pool running next
    → next ≡ Some name → r ≡ pool_row d name → passes_if_set (nat_lt running) r.cap_ms ≡ false
    → Leads d pool running r.cascade
leads-on d pool running next name r leads e row time =
    let step = further d.pools POOLS_MOST next name e leads.short in
    let apart : leaves_time d running name ≡ false = sym (ap (λ x. passes_if_set (nat_lt running) x.cap_ms) row) ∙ time in
    let on : Leads d pool running (cascade_of d.pools name) = record {
      rest =
          sym (ap (λ b. cond b (Some name) (find (leaves_time d running) (chain d.pools POOLS_MOST (cascade_of d.pools name)))) apart)
          ∙ sym (ap (λ names. find (leaves_time d running) names) step)
          ∙ leads.rest;
      short = omega (arith, ap length step, leads.short);
    } in
    subst (λ o. Leads d pool running o) (sym (row-cascade d name r row)) on

pub fewer : (d : Definitions) (pool : Name) (running : ℕ) (next : Option Name) (name : Name) (r : PoolRow) → Leads d pool running next
    → next ≡ Some name → r ≡ pool_row d name → length (chain d.pools POOLS_MOST r.cascade) < length (chain d.pools POOLS_MOST next)
fewer d pool running next name r leads e row =
    omega (arith, ap length (further d.pools POOLS_MOST next name e leads.short), ap (λ o. length (chain d.pools POOLS_MOST o)) (row-cascade d name r row))

-- the chain is at its end
pub none-left : (d : Definitions) (pool : Name) (running : ℕ) (next : Option Name) → Leads d pool running next → next ≡ None
    → None ≡ find (leaves_time d running) (pools_behind d.pools pool)
none-left d pool running next leads e =
    sym (ap (λ names. find (leaves_time d running) names) (ap (λ o. chain d.pools POOLS_MOST o) e ∙ chain-none d.pools POOLS_MOST)) ∙ leads.rest

pub found-there : (d : Definitions) (pool : Name) (running : ℕ) (name : Name) → IsSound d
    → Some name ≡ find (leaves_time d running) (pools_behind d.pools pool) → has_pool d name ≡ true
found-there d pool running name sound found = target-there d pool running 0 name sound (sym found)

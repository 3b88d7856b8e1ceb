-- The shuffle: actual sizes follow the declared ones as far as bytes in use let them, and the memory in force the total.
use Rattle.std.specs.Prelude.{ℕ, ◌+◌, ◌-◌, nat_lt, List, [], ◌∷◌, ◌++◌, map, min, max, if◌then◌else◌}
use Rattle.rm_base.specs.declared.definitions.Definitions.{Definitions}
use Rattle.rm_rules.specs.declared.state.Holding.{Holding}
use Rattle.rm_rules.specs.declared.state.Reserve.{Reserve}
use Rattle.rm_rules.specs.Definitions.{total, memory_size}
use Rattle.rm_rules.specs.State.{State}
use Rattle.rm_rules.specs.Holdings.{Holdings, holdings_of}
use Rattle.rm_rules.specs.Accounting.{own, debt, free, taken_up}

-- a pool of another size
abbrev pub resized : Reserve → ℕ → Reserve
resized e size = record e { size = size }

-- a pool above its MEMORYSIZE falls to it, or to the own bytes that it uses where these are more
abbrev pub fallen_size : Definitions → List Holding → Reserve → ℕ
fallen_size d grants e =
    let memory = memory_size d e.pool in
    if nat_lt memory e.size then max memory (own grants e) else e.size

abbrev pub fallen : Definitions → Holdings → Holdings
fallen d h = record h { reserves = map (λ e. resized e (fallen_size d h.grants e)) h.reserves }

-- the memory in force: the total, or what is still reserved or lent, where that is more
abbrev pub with_force : Definitions → Holdings → Holdings
with_force d h = record h { in_force = max (total d) (taken_up h) }

-- by how much a pool below its MEMORYSIZE grows, while so much is free: within what it has borrowed and what is free
abbrev pub growth : Definitions → List Holding → ℕ → Reserve → ℕ
growth d grants spare e = min (memory_size d e.pool - e.size) (debt grants e + spare)

-- the sizes to which these pools grow, one after the other. What a pool had borrowed it pays back first, and what it
-- grows by beyond that is free no more
abbrev pub grown_reserves : Definitions → List Holding → ℕ → List Reserve → List Reserve
grown_reserves d grants spare [] = []
grown_reserves d grants spare (e ∷ es) =
    resized e (e.size + growth d grants spare e)
    ∷ grown_reserves d grants (spare - (growth d grants spare e - debt grants e)) es

abbrev pub grown : Definitions → Holdings → Holdings
grown d h = record h { reserves = grown_reserves d h.grants (free h) h.reserves }

-- The same sizes, these pools standing behind those that are done: what is free is counted anew for each. That these are
-- the sizes above is a law.
abbrev pub grown_anew : Definitions → Holdings → List Reserve → List Reserve → List Reserve
grown_anew d h done [] = done
grown_anew d h done (e ∷ es) =
    let now : Holdings = record h { reserves = done ++ e ∷ es } in
    grown_anew d h (done ++ resized e (e.size + growth d h.grants (free now) e) ∷ []) es

-- the bytes after the shuffle under these definitions
abbrev pub shuffled : Definitions → Holdings → Holdings
shuffled d h = grown d (with_force d (fallen d h))

-- the state with these sizes and this memory in force
abbrev pub with_sizes : State → Holdings → State
with_sizes s h = record s { in_force = h.in_force; actual = map (λ e. e.size) h.reserves }

abbrev pub shuffled_state : State → State
shuffled_state s = with_sizes s (shuffled s.definitions (holdings_of s))

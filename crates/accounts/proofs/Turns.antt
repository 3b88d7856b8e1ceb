-- One turn of the shuffle, at a pool and the row in the same place.
use Rattle.std.proofs.Common.{◌≡◌, ◌<◌, ℕ, ◌+◌, ◌-◌, List, ◌∷◌, ◌++◌, length, take, drop, set, get_or, refl, sym, ap, ◌∙◌, arith}
use Rattle.rm_base.specs.declared.definitions.Definitions.{Definitions}
use Rattle.rm_base.specs.declared.rows.PoolRow.{PoolRow}
use Rattle.rm_rules.specs.declared.state.Holding.{Holding}
use Rattle.rm_rules.specs.declared.state.Reserve.{Reserve}
use Rattle.rm_rules.specs.Definitions.{user_pools}
use Rattle.rm_rules.specs.Accounting.{debt}
use Rattle.rm_rules.specs.Shuffle.{resized, fallen_size, growth, grown_reserves}
use Rattle.rm_rules.specs.Sound.{IsSound}
use Rattle.rm_rules.specs.Holdings.{reserve_names}
use Rattle.accounts.specs.Accounts.{names_in}
use Rattle.accounts.specs.Sizes.{fallen_to, growth_to, fallen_reserves}
use Rattle.accounts.proofs.Places.{in_place, names-set, memory-at, lengths-same}

-- the reserve in this place gets another size
pub record IsTurn (d : Definitions) (rows : List PoolRow) (es new : List Reserve) (i : ℕ) (row : PoolRow) (e : Reserve) (size : ℕ) : Type 0 where
  pub sound : IsSound d
  pub rows_are : rows ≡ user_pools d.pools
  pub same : names_in d ≡ reserve_names es
  pub within : i < length rows
  pub at_row : row ≡ get_or rows i row
  pub at : e ≡ get_or es i e
  pub written : new ≡ set es i (record { pool = e.pool; size = size })

inside : (d : Definitions) (rows : List PoolRow) (es new : List Reserve) (i : ℕ) (row : PoolRow) (e : Reserve) (size : ℕ) → IsTurn d rows es new i row e size → i < length es
inside d rows es new i row e size t = omega (arith, lengths-same d rows es t.rows_are t.same, t.within)

pub turn-names : (d : Definitions) (rows : List PoolRow) (es new : List Reserve) (i : ℕ) (row : PoolRow) (e : Reserve) (size : ℕ) → IsTurn d rows es new i row e size
    → reserve_names new ≡ reserve_names es
turn-names d rows es new i row e size t =
    ap reserve_names t.written ∙ names-set es i e (record { pool = e.pool; size = size }) (inside d rows es new i row e size t) t.at refl

-- it falls
pub turn-falls : (d : Definitions) (grants : List Holding) (rows : List PoolRow) (es new start : List Reserve) (i : ℕ) (row : PoolRow) (e : Reserve) (size : ℕ)
    → IsTurn d rows es new i row e size → size ≡ fallen_to row.memory grants e
    → take i es ++ fallen_reserves d grants (drop i es) ≡ fallen_reserves d grants start
    → take (i + 1) new ++ fallen_reserves d grants (drop (i + 1) new) ≡ fallen_reserves d grants start
turn-falls d grants rows es new start i row e size t falls so_far =
    let memory = memory-at d rows es i row e t.sound t.rows_are t.same t.within t.at_row t.at in
    let is : size ≡ fallen_size d grants e = falls ∙ ap (λ (m : ℕ). fallen_to m grants e) memory in
    let now : Reserve = record { pool = e.pool; size = size } in
    let turn : fallen_reserves d grants (e ∷ drop (i + 1) es) ≡ now ∷ fallen_reserves d grants (drop (i + 1) es) =
    ap (λ (n : ℕ). resized e n ∷ fallen_reserves d grants (drop (i + 1) es)) (sym is) in
    ap (λ (l : List Reserve). take (i + 1) l ++ fallen_reserves d grants (drop (i + 1) l)) t.written
    ∙ in_place (fallen_reserves d grants) (fallen_reserves d grants) es (fallen_reserves d grants start) i e now (inside d rows es new i row e size t) t.at turn so_far

-- it grows
pub turn-grows : (d : Definitions) (grants : List Holding) (rows : List PoolRow) (es new all : List Reserve) (i : ℕ) (row : PoolRow) (e : Reserve) (spare more left : ℕ)
    → IsTurn d rows es new i row e (e.size + more) → more ≡ growth_to row.memory grants spare e → left ≡ spare - (more - debt grants e)
    → take i es ++ grown_reserves d grants spare (drop i es) ≡ all
    → take (i + 1) new ++ grown_reserves d grants left (drop (i + 1) new) ≡ all
turn-grows d grants rows es new all i row e spare more left t grows leaves so_far =
    let memory = memory-at d rows es i row e t.sound t.rows_are t.same t.within t.at_row t.at in
    let is : more ≡ growth d grants spare e = grows ∙ ap (λ (m : ℕ). growth_to m grants spare e) memory in
    let rest = drop (i + 1) es in
    let now : Reserve = record { pool = e.pool; size = e.size + more } in
    let turn : grown_reserves d grants spare (e ∷ rest) ≡ now ∷ grown_reserves d grants left rest =
    ap (λ (n : ℕ). resized e (e.size + n) ∷ grown_reserves d grants (spare - (n - debt grants e)) rest) (sym is)
    ∙ ap (λ (n : ℕ). now ∷ grown_reserves d grants n rest) (sym leaves) in
    ap (λ (l : List Reserve). take (i + 1) l ++ grown_reserves d grants left (drop (i + 1) l)) t.written
    ∙ in_place (grown_reserves d grants spare) (grown_reserves d grants left) es all i e now (inside d rows es new i row e (e.size + more) t) t.at turn so_far

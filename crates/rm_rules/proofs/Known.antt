-- Every pool that a session may get is there.
use Rattle.std.proofs.Common.{◌≡◌, ℕ, true, false, cond, List, [], ◌∷◌, Some, None, Option, refl, ap}
use Rattle.std.specs.Prelude.{unwrap_or, option_and_then, ◌==◌}
use Rattle.std.specs.Option.{is_some}
use Rattle.std.specs.List.{find, list_all}
use Rattle.std.proofs.lemmas.Bool.{false≢true}
use Rattle.rm_base.specs.declared.definitions.Definitions.{Definitions}
use Rattle.rm_base.specs.declared.rows.PoolRow.{PoolRow}
use Rattle.rm_base.specs.declared.rows.UserRow.{UserRow}
use Rattle.rm_base.specs.declared.rows.RoleRow.{RoleRow}
use Rattle.rm_base.specs.declared.rows.GrantRow.{GrantRow}
use Rattle.rm_base.specs.declared.rows.GrantRow.TheVariants.{PoolToUser, PoolToRole, RoleToUser}
use Rattle.rm_base.specs.declared.name.Name.{Name}
use Rattle.rm_base.specs.Name.{same_name, general}
use Rattle.rm_rules.specs.declared.state.Phase.{Phase}
use Rattle.rm_rules.specs.declared.state.Session.{Session}
use Rattle.rm_rules.specs.Definitions.{user_called, role_called, pool_by_role, role_pool, default_pool}
use Rattle.rm_rules.specs.State.{session_pool, with_phase, with_choice}
use Rattle.rm_rules.specs.Sound.{IsSound, has_pool, begins_with_general}
use Rattle.rm_base.specs.Ranges.{passes_if_set}
use Rattle.rm_rules.proofs.Taken.{and_left, and_right, and_both, all_found}

general-turn : (d : Definitions) (pools : List PoolRow) → begins_with_general pools ≡ true → is_some (find (λ r. same_name r.name general) pools) ≡ true
general-turn d [] begins = absurd (false≢true begins)
general-turn d (r ∷ rs) begins = ap (λ b. is_some (cond b (Some r) (find (λ x. same_name x.name general) rs))) (and_left (same_name r.name general) _ begins)

pub general-there : (d : Definitions) → IsSound d → has_pool d general ≡ true
general-there d sound = general-turn d d.pools sound.general_first

unwrap-known : (d : Definitions) (o : Option Name) (other : Name) → passes_if_set (has_pool d) o ≡ true → has_pool d other ≡ true → has_pool d (unwrap_or o other) ≡ true
unwrap-known d None other known there = there
unwrap-known d (Some pool) other known there = known

user-turn : (d : Definitions) (o : Option UserRow) → ((row : UserRow) → o ≡ Some row → passes_if_set (has_pool d) row.pool ≡ true) → passes_if_set (has_pool d) (option_and_then (λ row. row.pool) o) ≡ true
user-turn d None known = refl
user-turn d (Some row) known = known row refl

role-turn : (d : Definitions) (o : Option RoleRow) → ((row : RoleRow) → o ≡ Some row → passes_if_set (has_pool d) row.pool ≡ true) → passes_if_set (has_pool d) (option_and_then (λ row. row.pool) o) ≡ true
role-turn d None known = refl
role-turn d (Some row) known = known row refl

by_role-known : (d : Definitions) (user : Name) (g : GrantRow) → IsSound d → passes_if_set (has_pool d) (pool_by_role d.roles user g) ≡ true
by_role-known d user (PoolToUser p u) sound = refl
by_role-known d user (PoolToRole p r) sound = refl
by_role-known d user (RoleToUser r u) sound =
    let known : passes_if_set (has_pool d) (option_and_then (λ (row : RoleRow). row.pool) (role_called d.roles r)) ≡ true =
    role-turn d (role_called d.roles r) (λ row found. all_found (λ x. passes_if_set (has_pool d) x.pool) (λ x. same_name x.name r) d.roles row sound.role_pools_there found) in
    elim (same_name u user) as (λ b. passes_if_set (has_pool d) (cond b (option_and_then (λ (row : RoleRow). row.pool) (role_called d.roles r)) None) ≡ true) [ true ↦ known | false ↦ refl ]

first-known : (d : Definitions) (o rest : Option Name) → passes_if_set (has_pool d) o ≡ true → passes_if_set (has_pool d) rest ≡ true
    → passes_if_set (has_pool d) (elim o [ Some pool ↦ Some pool | None ↦ rest ]) ≡ true
first-known d None rest first more = more
first-known d (Some pool) rest first more = first

role_pool-known : (d : Definitions) (user : Name) (grants : List GrantRow) → IsSound d → passes_if_set (has_pool d) (role_pool d.roles user grants) ≡ true
role_pool-known d user [] sound = refl
role_pool-known d user (g ∷ gs) sound = first-known d (pool_by_role d.roles user g) (role_pool d.roles user gs) (by_role-known d user g sound) (role_pool-known d user gs sound)

pub default_pool-known : (d : Definitions) (user : Name) → IsSound d → has_pool d (default_pool d user) ≡ true
default_pool-known d user sound =
    unwrap-known d (option_and_then (λ row. row.pool) (user_called d.users user)) (unwrap_or (role_pool d.roles user d.grants) general)
    (user-turn d (user_called d.users user) (λ row found. all_found (λ x. passes_if_set (has_pool d) x.pool) (λ x. same_name x.name user) d.users row sound.user_pools_there found))
    (unwrap-known d (role_pool d.roles user d.grants) general (role_pool-known d user d.grants sound) (general-there d sound))

chosen-turn : (d : Definitions) (o : Option Name) (other : Name) → passes_if_set (has_pool d) o ≡ true → has_pool d other ≡ true
    → has_pool d (elim o [ Some pool ↦ pool | None ↦ other ]) ≡ true
chosen-turn d None other known there = there
chosen-turn d (Some pool) other known there = known

pub session_pool-known : (d : Definitions) (x : Session) → IsSound d → passes_if_set (has_pool d) x.pool ≡ true → has_pool d (session_pool d x) ≡ true
session_pool-known d x sound known = chosen-turn d x.pool (default_pool d x.user) known (default_pool-known d x.user sound)

-- a new phase of a session changes no pool that it chose
pub chosen-with : (d : Definitions) (n : ℕ) (p : Phase) (xs : List Session) → list_all (λ x. passes_if_set (has_pool d) x.pool) xs ≡ true
    → list_all (λ x. passes_if_set (has_pool d) x.pool) (with_phase n p xs) ≡ true
chosen-with d n p [] all = refl
chosen-with d n p (x ∷ xs) all =
    let here : passes_if_set (has_pool d) x.pool ≡ true = and_left _ (list_all (λ y. passes_if_set (has_pool d) y.pool) xs) all in
    let more : list_all (λ y. passes_if_set (has_pool d) y.pool) xs ≡ true = and_right (passes_if_set (has_pool d) x.pool) _ all in
    elim (x.number == n) as (λ b. list_all (λ y. passes_if_set (has_pool d) y.pool) (cond b ((record x { phase = p }) ∷ xs) (x ∷ with_phase n p xs)) ≡ true) [
      | true ↦ and_both _ _ here more
      | false ↦ and_both _ _ here (chosen-with d n p xs more)
    ]

-- nor does a pool that is there, when it is chosen
pub chosen-choice : (d : Definitions) (n : ℕ) (pool : Name) (xs : List Session) → has_pool d pool ≡ true → list_all (λ x. passes_if_set (has_pool d) x.pool) xs ≡ true
    → list_all (λ x. passes_if_set (has_pool d) x.pool) (with_choice n pool xs) ≡ true
chosen-choice d n pool [] there all = refl
chosen-choice d n pool (x ∷ xs) there all =
    let here : passes_if_set (has_pool d) x.pool ≡ true = and_left _ (list_all (λ y. passes_if_set (has_pool d) y.pool) xs) all in
    let more : list_all (λ y. passes_if_set (has_pool d) y.pool) xs ≡ true = and_right (passes_if_set (has_pool d) x.pool) _ all in
    elim (x.number == n) as (λ b. list_all (λ y. passes_if_set (has_pool d) y.pool) (cond b ((record x { pool = Some pool }) ∷ xs) (x ∷ with_choice n pool xs)) ≡ true) [
      | true ↦ and_both _ _ there more
      | false ↦ and_both _ _ here (chosen-choice d n pool xs there more)
    ]

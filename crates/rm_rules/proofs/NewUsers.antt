-- A new user gets no pool but GENERAL.
use Rattle.std.specs.Prelude.{◌≡◌, Bool, true, false, ◌&&◌, ◌||◌, List, [], ◌∷◌, Option, Some, None, Ok, refl}
use Rattle.std.specs.List.{list_all, list_any}
use Rattle.std.proofs.Common.{sym, ap, ◌∙◌}
use Rattle.rm_base.specs.declared.definitions.Definitions.{Definitions}
use Rattle.rm_base.specs.declared.rows.GrantRow.{GrantRow}
use Rattle.rm_base.specs.declared.rows.GrantRow.TheVariants.{PoolToUser, PoolToRole, RoleToUser}
use Rattle.rm_base.specs.declared.name.Name.{Name}
use Rattle.rm_base.specs.declared.statement.Statement.TheVariants.{CreateUser}
use Rattle.rm_base.specs.declared.statement.UserChange.{UserChange}
use Rattle.rm_base.specs.Name.{same_name, general, dbadmin}
use Rattle.rm_base.proofs.Names.{same_name-eq, same_name-sym}
use Rattle.rm_rules.specs.Definitions.{is_member_by, is_member, gives_usage, usage}
use Rattle.rm_rules.specs.Sound.{IsSound, has_pool, has_user, has_role, has_grantee, is_grant_known}
use Rattle.rm_rules.specs.Refusals.{grantee_taken, given_pool_missing, changes_full}
use Rattle.rm_rules.specs.UserStatements.{given_pool, users_full, not_granted, create_user_refusal}
use Rattle.rm_rules.specs.Acceptance.{accepted}
use Rattle.rm_rules.proofs.Taken.{and_left, and_right, or_first, or_left_false, or_both_false}
use Rattle.rm_rules.proofs.Refused.{not-refused, first-none, not-missing}
use Rattle.rm_rules.proofs.AcceptanceLaws.{accepted-left}

and_second : (a b : Bool) → b ≡ false → (a && b) ≡ false
and_second true b h = h
and_second false b h = refl

-- nobody has granted anything to one who is no user
none-of_all : {A : Type 0} (p q : A → Bool) (xs : List A) → ((x : A) → q x ≡ true → p x ≡ false) → list_all q xs ≡ true → list_any p xs ≡ false
none-of_all p q [] none all = refl
none-of_all p q (x ∷ xs) none all =
    or_both_false (p x) (list_any p xs) (none x (and_left (q x) (list_all q xs) all)) (none-of_all p q xs none (and_right (q x) (list_all q xs) all))

stranger-turn : (d : Definitions) (name u : Name) (b : Bool) → same_name u name ≡ b → has_user d name ≡ false → has_user d u ≡ true → b ≡ false
stranger-turn d name u true e absent there = sym there ∙ ap (has_user d) (same_name-eq u name e) ∙ absent
stranger-turn d name u false e absent there = refl

stranger : (d : Definitions) (name u : Name) → has_user d name ≡ false → has_user d u ≡ true → same_name u name ≡ false
stranger d name u absent there = stranger-turn d name u (same_name u name) refl absent there

no-role : (d : Definitions) (name role : Name) (g : GrantRow) → has_user d name ≡ false → is_grant_known d g ≡ true → is_member_by name role g ≡ false
no-role d name role (PoolToUser p u) absent known = refl
no-role d name role (PoolToRole p r) absent known = refl
no-role d name role (RoleToUser r u) absent known =
    and_second (same_name r role) (same_name u name) (stranger d name u absent (and_right (has_role d r) (has_user d u) known))

no-usage : (d : Definitions) (name pool : Name) (g : GrantRow) → IsSound d → has_user d name ≡ false → is_grant_known d g ≡ true → gives_usage d.grants name pool g ≡ false
no-usage d name pool (PoolToUser p u) sound absent known =
    and_second (same_name p pool) (same_name u name) (stranger d name u absent (and_right (has_pool d p) (has_user d u) known))
no-usage d name pool (PoolToRole p r) sound absent known =
    and_second (same_name p pool) (is_member d.grants name r) (none-of_all (is_member_by name r) (is_grant_known d) d.grants (λ g is. no-role d name r g absent is) sound.grants_known)
no-usage d name pool (RoleToUser r u) sound absent known = refl

stranger-usage : (d : Definitions) (name pool : Name) → IsSound d → has_user d name ≡ false → usage d name pool ≡ true → same_name pool general ≡ true
stranger-usage d name pool sound absent may =
    or_first (same_name pool general) (same_name name dbadmin || list_any (gives_usage d.grants name pool) d.grants)
    (or_both_false (same_name name dbadmin) (list_any (gives_usage d.grants name pool) d.grants)
    (same_name-sym name dbadmin ∙ stranger d name dbadmin absent sound.dbadmin_there)
    (none-of_all (gives_usage d.grants name pool) (is_grant_known d) d.grants (λ g known. no-usage d name pool g sound absent known) sound.grants_known))
    may

-- so a new user gets GENERAL alone
given-turn : (d : Definitions) (name pool : Name) (given : Option Name) → given ≡ Some pool → not_granted (usage d name) given ≡ None → usage d name pool ≡ true
given-turn d name pool None e h = let none : None ≡ Some pool = e in absurd (cc)
given-turn d name pool (Some p) e h =
    let same : p ≡ pool = cc in
    ap (usage d name) (sym same) ∙ not-missing (usage d name p) _ h

refused-general : (d : Definitions) (name pool : Name) (c : UserChange) → IsSound d → given_pool c ≡ Some pool → create_user_refusal d name c ≡ None → same_name pool general ≡ true
refused-general d name pool c sound gives h =
    let taken = first-none (grantee_taken d name) _ h in
    let missing = first-none (given_pool_missing d (given_pool c)) _ taken.1 in
    let full = first-none (users_full d) _ missing.1 in
    let changes = first-none (changes_full d) _ full.1 in
    let granted = first-none (not_granted (usage d name) (given_pool c)) _ changes.1 in
    let free : has_grantee d name ≡ false = not-refused (has_grantee d name) _ taken.0 in
    stranger-usage d name pool sound (or_left_false (has_user d name) (has_role d name) free) (given-turn d name pool (given_pool c) gives granted.0)

pub new_user-general : (d new : Definitions) (name pool : Name) (c : UserChange) → IsSound d → given_pool c ≡ Some pool → accepted d (CreateUser name c) ≡ Ok new → same_name pool general ≡ true
new_user-general d new name pool c sound gives h = refused-general d name pool c sound gives (accepted-left d (CreateUser name c) new h).0

-- Soundness, from its parts and back.
use Rattle.std.specs.Prelude.{◌≡◌, ◌-◌, ◌*◌, Bool, true, false, ◌&&◌, nat_le, is_some, length, map}
use Rattle.std.specs.List.{list_all}
use Rattle.std.proofs.Common.{sym, ◌∙◌}
use Rattle.std.proofs.lemmas.Bool.{leb-true, le-leb, false≢true}
use Rattle.rm_base.specs.declared.limits.TheConstants.{MEMORY_LEAST, MEMORY_MOST, TOTAL_LEAST, GENERAL_PART, CORES_MOST, CHANGES_MOST, CHAIN_MOST, POOLS_MOST, USERS_MOST, ROLES_MOST, GRANTS_MOST}
use Rattle.rm_base.specs.declared.definitions.Definitions.{Definitions}
use Rattle.rm_base.specs.Name.{dbadmin}
use Rattle.rm_rules.specs.Definitions.{total, reserved, user_called}
use Rattle.rm_rules.specs.Sound.{IsSound, begins_with_general, are_distinct, has_pool, chain_ends, is_grant_known}
use Rattle.rm_base.specs.Ranges.{passes_if_set, is_between, is_pool_in_range, is_user_in_range}
use Rattle.rm_rules.proofs.Taken.{and_left, and_right, and_both}
use Rattle.pool_table.specs.Soundness.{are_numbers_in_range, are_counts_in_range, are_values_in_range, are_names_right, is_total_right, are_links_right}

-- all the parts of sound definitions hold
pub record HasParts (d : Definitions) : Type 0 where
  pub numbers : are_numbers_in_range d ≡ true
  pub counts : are_counts_in_range d ≡ true
  pub values : are_values_in_range d ≡ true
  pub names : are_names_right d ≡ true
  pub totals : is_total_right d ≡ true
  pub links : are_links_right d ≡ true

pub parts-sound : (d : Definitions) → IsSound d → HasParts d
parts-sound d s = record {
  numbers = and_both _ _ s.memory (and_both _ _ s.cores (le-leb d.changes CHANGES_MOST s.changes));
  counts = and_both _ _ (le-leb (length d.pools) POOLS_MOST s.pool_count) (and_both _ _ (le-leb (length d.users) USERS_MOST s.user_count) (and_both _ _ (le-leb (length d.roles) ROLES_MOST s.role_count) (le-leb (length d.grants) GRANTS_MOST s.grant_count)));
  values = and_both _ _ s.pools_in_range (and_both _ _ s.users_in_range s.pools_within_max);
  names = and_both _ _ s.general_first (and_both _ _ s.dbadmin_there (and_both _ _ s.pools_distinct s.users_distinct));
  totals = and_both _ _ (le-leb TOTAL_LEAST (total d) s.total_least) (and_both _ _ (le-leb (total d) d.memory s.total_most) (and_both _ _ (le-leb (reserved d) (total d) s.reserved_most) (le-leb (total d) (GENERAL_PART * (total d - reserved d)) s.quarter_left)));
  links = and_both _ _ s.chains_end (and_both _ _ s.user_pools_there (and_both _ _ s.role_pools_there (and_both _ _ s.grants_known s.grants_distinct)));
}

pub sound-parts : (d : Definitions) → HasParts d → IsSound d
sound-parts d p =
    let n1 = and_right (is_between MEMORY_LEAST MEMORY_MOST d.memory) _ p.numbers in
    let c1 = and_right (nat_le (length d.pools) POOLS_MOST) _ p.counts in
    let c2 = and_right (nat_le (length d.users) USERS_MOST) _ c1 in
    let v1 = and_right (list_all is_pool_in_range d.pools) _ p.values in
    let m1 = and_right (begins_with_general d.pools) _ p.names in
    let m2 = and_right (is_some (user_called d.users dbadmin)) _ m1 in
    let t1 = and_right (nat_le TOTAL_LEAST (total d)) _ p.totals in
    let t2 = and_right (nat_le (total d) d.memory) _ t1 in
    let l1 = and_right (list_all (λ r. chain_ends d.pools (CHAIN_MOST - 1) r.cascade) d.pools) _ p.links in
    let l2 = and_right (list_all (λ u. passes_if_set (has_pool d) u.pool) d.users) _ l1 in
    let l3 = and_right (list_all (λ r. passes_if_set (has_pool d) r.pool) d.roles) _ l2 in
    record {
      memory = and_left (is_between MEMORY_LEAST MEMORY_MOST d.memory) _ p.numbers;
      cores = and_left (is_between 1 CORES_MOST d.cores) _ n1;
      changes = leb-true d.changes CHANGES_MOST (and_right (is_between 1 CORES_MOST d.cores) _ n1);
      pool_count = leb-true (length d.pools) POOLS_MOST (and_left (nat_le (length d.pools) POOLS_MOST) _ p.counts);
      user_count = leb-true (length d.users) USERS_MOST (and_left (nat_le (length d.users) USERS_MOST) _ c1);
      role_count = leb-true (length d.roles) ROLES_MOST (and_left (nat_le (length d.roles) ROLES_MOST) _ c2);
      grant_count = leb-true (length d.grants) GRANTS_MOST (and_right (nat_le (length d.roles) ROLES_MOST) _ c2);
      general_first = and_left (begins_with_general d.pools) _ p.names;
      dbadmin_there = and_left (is_some (user_called d.users dbadmin)) _ m1;
      pools_distinct = and_left (are_distinct (map (λ r. r.name) d.pools)) _ m2;
      users_distinct = and_right (are_distinct (map (λ r. r.name) d.pools)) _ m2;
      pools_in_range = and_left (list_all is_pool_in_range d.pools) _ p.values;
      users_in_range = and_left (list_all is_user_in_range d.users) _ v1;
      pools_within_max = and_right (list_all is_user_in_range d.users) _ v1;
      total_least = leb-true TOTAL_LEAST (total d) (and_left (nat_le TOTAL_LEAST (total d)) _ p.totals);
      total_most = leb-true (total d) d.memory (and_left (nat_le (total d) d.memory) _ t1);
      reserved_most = leb-true (reserved d) (total d) (and_left (nat_le (reserved d) (total d)) _ t2);
      quarter_left = leb-true (total d) (GENERAL_PART * (total d - reserved d)) (and_right (nat_le (reserved d) (total d)) _ t2);
      chains_end = and_left (list_all (λ r. chain_ends d.pools (CHAIN_MOST - 1) r.cascade) d.pools) _ p.links;
      user_pools_there = and_left (list_all (λ u. passes_if_set (has_pool d) u.pool) d.users) _ l1;
      role_pools_there = and_left (list_all (λ r. passes_if_set (has_pool d) r.pool) d.roles) _ l2;
      grants_known = and_left (list_all (is_grant_known d) d.grants) _ l3;
      grants_distinct = and_right (list_all (is_grant_known d) d.grants) _ l3;
    }

-- the last of several tests, where the others hold, and the first where it fails
pub and-five : (a b c d e r : Bool) → a ≡ true → b ≡ true → c ≡ true → d ≡ true → r ≡ e → r ≡ (a && (b && (c && (d && e))))
and-five a b c d e r ea eb ec ed er = rw (ea, eb, ec, ed) er

pub and-first : (a x r : Bool) → r ≡ a → r ≡ false → r ≡ (a && x)
and-first true x r ra rf = absurd (false≢true (sym rf ∙ ra))
and-first false x r ra rf = rf

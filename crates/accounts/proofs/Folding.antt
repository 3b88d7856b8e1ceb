-- What is left of the accounts where a pool is folded into GENERAL.
use Rattle.std.proofs.Common.{◌≡◌, ℕ, Bool, false, not, cond, Some, find, refl, ap, arith}
use Rattle.rm_base.specs.declared.name.Name.{Name}
use Rattle.rm_base.specs.Name.{same_name, general}
use Rattle.rm_rules.specs.declared.state.Holding.{Holding}
use Rattle.rm_rules.specs.declared.state.Reserve.{Reserve}
use Rattle.rm_rules.specs.Holdings.{Holdings, reserve_names}
use Rattle.rm_rules.specs.DropPool.{is_reserve_of, folded}
use Rattle.rm_rules.specs.Sound.{are_distinct}
use Rattle.rm_rules.proofs.Taken.{and_left, and_right, and_both, not_false}
use Rattle.rm_rules.proofs.Folding.{named, left, sum-handed, bytes-same, still-apart, still-distinct, known-left, folded-within}
use Rattle.accounts.specs.Accounts.{is_of}
use Rattle.accounts.specs.Kept.{IsBalanced}

count-same : (query : ℕ) (g : Holding) (b : Bool) → ◌≡◌ {A = ℕ} (cond (is_of query (record g { pool = cond b general g.pool })) 1 0) (cond (is_of query g) 1 0)
count-same query g b = refl

pub kept_folded : (h : Holdings) (pool : Name) (e : Reserve) → IsBalanced h → same_name pool general ≡ false → find (is_reserve_of pool) h.reserves ≡ Some e
    → IsBalanced (folded h pool)
kept_folded h pool e k user found =
    let es = h.reserves in
    let own = and_right (not (named general es)) (are_distinct (reserve_names es)) k.names_distinct in
    let apart : named general es ≡ false = not_false _ (and_left (not (named general es)) (are_distinct (reserve_names es)) k.names_distinct) in
    record {
      names_distinct = and_both (not (named general (left pool es))) _ (ap not (still-apart general pool es apart)) (still-distinct pool es own);
      queries_distinct = λ q. omega (arith, k.queries_distinct q, sum-handed (λ g. cond (is_of q g) 1 0) pool h.grants (count-same q));
      known = known-left pool es h.grants k.known;
      within = omega (arith, k.within, folded-within h pool e k.names_distinct user found);
      granted = omega (arith, k.granted, sum-handed (λ (g : Holding). g.bytes) pool h.grants bytes-same);
      in_force_most = k.in_force_most;
    }

-- The counters, where a query of a pool has ended.
use Rattle.std.proofs.Common.{◌≡◌, ◌<◌, ◌≤◌, ℕ, ◌+◌, suc, Bool, true, false, cond, not, Option, Some, None, List, [], ◌∷◌, length, get_or, refl, sym, ap, ◌∙◌, arith, position, set}
use Rattle.std.specs.List.{position_or_len}
use Rattle.rm_base.specs.declared.entry.EndCounts.{EndCounts}
use Rattle.rm_base.specs.declared.name.Name.{Name}
use Rattle.rm_base.specs.declared.reply.End.{End}
use Rattle.rm_base.specs.declared.rows.PoolRow.{PoolRow}
use Rattle.rm_base.specs.Name.{same_name}
use Rattle.rm_rules.specs.State.{with_one_end, with_end}
use Rattle.rm_rules.proofs.Places.{position-within, position-is, position-past}

-- the place of the pool
abbrev place : Name → List PoolRow → ℕ
place pool rs = position_or_len (λ r. same_name r.name pool) rs

end-turn : (r : PoolRow) (rs : List PoolRow) (pool : Name) (end : End) (c : EndCounts) (cs : List EndCounts) (d : EndCounts) (b : Bool)
    → (place pool rs < length rs → with_end rs pool end cs ≡ set cs (place pool rs) (with_one_end end (get_or cs (place pool rs) d)))
    → cond (not b) (1 + place pool rs) 0 < length (r ∷ rs)
    → cond b (with_one_end end c ∷ cs) (c ∷ with_end rs pool end cs) ≡ set (c ∷ cs) (cond (not b) (1 + place pool rs) 0) (with_one_end end (get_or (c ∷ cs) (cond (not b) (1 + place pool rs) 0) d))
end-turn r rs pool end c cs d true rest within = refl
end-turn r rs pool end c cs d false rest within =
    let e : 1 + place pool rs ≡ suc (place pool rs) = omega arith in
    rw e (ap (λ (ys : List EndCounts). c ∷ ys) (rest (omega arith)))

end-first : (rs : List PoolRow) (pool : Name) (end : End) (cs : List EndCounts) (d : EndCounts) → length cs ≡ length rs → place pool rs < length rs
    → with_end rs pool end cs ≡ set cs (place pool rs) (with_one_end end (get_or cs (place pool rs) d))
end-first [] pool end cs d sizes within = absurd (omega arith)
end-first (r ∷ rs) pool end [] d sizes within = absurd (omega (arith, sizes))
end-first (r ∷ rs) pool end (c ∷ cs) d sizes within =
    end-turn r rs pool end c cs d (same_name r.name pool) (end-first rs pool end cs d (omega (arith, sizes))) within

with_end-found : (rs : List PoolRow) (pool : Name) (end : End) (cs : List EndCounts) (d : EndCounts) (i : ℕ) → length cs ≡ length rs → position (λ r. same_name r.name pool) rs ≡ Some i
    → with_end rs pool end cs ≡ set cs i (with_one_end end (get_or cs i d))
with_end-found rs pool end cs d i sizes found =
    let same : place pool rs ≡ i = position-is (λ r. same_name r.name pool) rs i found in
    end-first rs pool end cs d sizes (position-within (λ r. same_name r.name pool) rs i found) ∙ ap (λ (k : ℕ). set cs k (with_one_end end (get_or cs k d))) same

none-turn : (r : PoolRow) (rs : List PoolRow) (pool : Name) (end : End) (c : EndCounts) (cs : List EndCounts) (b : Bool) → (length rs ≤ place pool rs → with_end rs pool end cs ≡ cs)
    → length (r ∷ rs) ≤ cond (not b) (1 + place pool rs) 0 → cond b (with_one_end end c ∷ cs) (c ∷ with_end rs pool end cs) ≡ c ∷ cs
none-turn r rs pool end c cs true rest past = absurd (omega arith)
none-turn r rs pool end c cs false rest past = ap (λ (ys : List EndCounts). c ∷ ys) (rest (omega arith))

end-none : (rs : List PoolRow) (pool : Name) (end : End) (cs : List EndCounts) → length cs ≡ length rs → length rs ≤ place pool rs → with_end rs pool end cs ≡ cs
end-none [] pool end cs sizes past = refl
end-none (r ∷ rs) pool end [] sizes past = absurd (omega (arith, sizes))
end-none (r ∷ rs) pool end (c ∷ cs) sizes past = none-turn r rs pool end c cs (same_name r.name pool) (end-none rs pool end cs (omega (arith, sizes))) past

pub with_end-absent : (rs : List PoolRow) (pool : Name) (end : End) (cs : List EndCounts) → length cs ≡ length rs → (let o : Option ℕ = None in position (λ r. same_name r.name pool) rs ≡ o) → with_end rs pool end cs ≡ cs
with_end-absent rs pool end cs sizes absent =
    end-none rs pool end cs sizes (position-past (λ r. same_name r.name pool) rs absent)

-- the counts, set in their place
pub with_end-set : (rs : List PoolRow) (pool : Name) (end : End) (cs ls ys : List EndCounts) (d x : EndCounts) (i : ℕ) → length cs ≡ length rs → position (λ r. same_name r.name pool) rs ≡ Some i
    → ls ≡ cs → x ≡ with_one_end end (get_or ls i d) → ys ≡ set cs i x → ys ≡ with_end rs pool end cs
with_end-set rs pool end cs ls ys d x i sizes found same is now =
    now
    ∙ ap (λ (c : EndCounts). set cs i c) (is ∙ ap (λ (l : List EndCounts). with_one_end end (get_or l i d)) same)
    ∙ sym (with_end-found rs pool end cs d i sizes found)

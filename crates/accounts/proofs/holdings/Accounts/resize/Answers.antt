use Rattle.std.proofs.Common.{◌≡◌, ◌+◌, ◌-◌, [], max, ℕ, List, length, sum_by, sym, ap, subst, ◌∙◌, arith}
use Rattle.rm_base.specs.Name.{general}
use Rattle.rm_rules.specs.declared.state.Reserve.{Reserve}
use Rattle.rm_rules.specs.Holdings.{Holdings, reserve_names}
use Rattle.rm_rules.specs.Accounting.{used, debt, kept_back, lent}
use Rattle.rm_rules.proofs.Shuffling.{fallen-names, grown-names}
use Rattle.accounts.specs.declared.numbers.Numbers.{Numbers}
use Rattle.std.proofs.lemmas.List.{length-map}
use Rattle.rm_base.specs.declared.entry.Account.{Account}
use Rattle.rm_rules.specs.declared.state.Holding.{Holding}
use Rattle.accounts.proofs.Handing.{accounts-are, accounts-length}
use Rattle.accounts.specs.Numbers.{usage_of, usages_resized, accounts_at, borrowed}
use Rattle.accounts.proofs.Pools.{numbers-settled, settled-lent, same-length}
use Rattle.accounts.specs.Kept.{IsBalanced, seen_holdings}
use Rattle.accounts.proofs.Keeping.{fallen-fits, kept_shuffled}
use Rattle.accounts.proofs.Seen.{IsShuffle, shuffled-seen}
use Rattle.accounts.proofs.holdings.Accounts.resize.Goals as goal

pub kept_back-kept_back-requires : goal.kept_back-kept_back-requires
kept_back-kept_back-requires c =
    let fits = fallen-fits c.args.definitions.now (seen_holdings c.self.inside) c.rows-grants.result.now c.fall.new.reserves c.requires.sound c.self.invariant.balanced c.rows-grants.ensures.rows c.fall.ensures in
    omega (arith, fits, ap kept_back c.rows.ensures.rows)

pub lent-lent-requires-clause-fits : goal.lent-lent-requires-clause-fits
lent-lent-requires-clause-fits c =
    let grants = c.rows-grants.result.now in
    let fits = fallen-fits c.args.definitions.now (seen_holdings c.self.inside) grants c.fall.new.reserves c.requires.sound c.self.invariant.balanced c.rows-grants.ensures.rows c.fall.ensures in
    omega (arith, fits, ap (λ (es : List Reserve). sum_by (debt grants) es) c.rows-2.ensures.rows)

pub overflow_add-kept_back : goal.overflow_add-kept_back
overflow_add-kept_back c =
    let grants = c.rows-grants.result.now in
    let fits = fallen-fits c.args.definitions.now (seen_holdings c.self.inside) grants c.fall.new.reserves c.requires.sound c.self.invariant.balanced c.rows-grants.ensures.rows c.fall.ensures in
    omega (
      arith,
      fits,
      c.kept_back-kept_back.ensures,
      ap kept_back c.rows.ensures.rows,
      c.lent-lent.ensures,
      ap (λ (es : List Reserve). sum_by (debt grants) es) c.rows-2.ensures.rows,
    )

pub grow-requires-clause-same_pools : goal.grow-requires-clause-same_pools
grow-requires-clause-same_pools c =
    c.requires.same_pools
    ∙ ap (λ (h : Holdings). reserve_names h.reserves) (sym c.self.view_is)
    ∙ sym (fallen-names c.args.definitions.now c.rows-grants.result.now c.self.inside.reserves)
    ∙ sym (ap reserve_names c.fall.ensures)

pub settle-requires-clause-pools : goal.settle-requires-clause-pools
settle-requires-clause-pools c =
    let d = c.args.definitions.now in
    let grants = c.rows-grants.result.now in
    let steps : IsShuffle d (seen_holdings c.self.inside) grants c.fall.new.reserves c.grow.new.reserves c.kept_back-kept_back.result c.lent-lent.result c.max-self-inside.result = record {
      running = c.rows-grants.ensures.rows;
      falls = c.fall.ensures;
      reserved = c.kept_back-kept_back.ensures ∙ ap kept_back c.rows.ensures.rows;
      lent = c.lent-lent.ensures ∙ ap (λ (es : List Reserve). used general grants + sum_by (debt grants) es) c.rows-2.ensures.rows;
      force_is = c.max-self-inside.ensures ∙ ap (λ (n : ℕ). max n (c.kept_back-kept_back.result + c.lent-lent.result)) c.total.ensures.value;
      grows = c.grow.ensures;
    } in
    let same = shuffled-seen d (seen_holdings c.self.inside) c.args.self.now grants c.fall.new.reserves c.grow.new.reserves c.kept_back-kept_back.result c.lent-lent.result c.max-self-inside.result c.self.view_is steps in
    let k = subst IsBalanced c.self.view_is c.self.invariant.balanced in
    let old = c.self.inside.reserves in
    let n = c.self.inside.kept in
    let fell = fallen-names d grants old in
    let grew = grown-names d grants ((c.max-self-inside.result - c.kept_back-kept_back.result) - c.lent-lent.result) c.fall.new.reserves in
    let names : reserve_names c.grow.new.reserves ≡ reserve_names old = ap reserve_names c.grow.ensures ∙ grew ∙ ap reserve_names c.fall.ensures ∙ fell in
    omega (
      arith,
      ap (λ (m : Numbers). length m.usages) c.self.invariant.numbers,
      length-map old (usage_of c.self.inside.grants),
      same-length old c.grow.new.reserves names,
      ap (λ (l : List Reserve). length l) c.rows-3.ensures.rows,
    )

pub settle-requires-clause-queries : goal.settle-requires-clause-queries
settle-requires-clause-queries c =
    let h = seen_holdings c.self.inside in
    omega (
      arith,
      ap (λ (m : Numbers). length m.accounts) c.self.invariant.numbers,
      ap (λ (l : List Account). length l) (accounts-are h),
      accounts-length h.reserves [] h.grants,
      ap (λ (l : List Holding). length l) c.rows-grants.ensures.rows,
    )

pub settle-requires-clause-kept_back : goal.settle-requires-clause-kept_back
settle-requires-clause-kept_back c =
    let d = c.args.definitions.now in
    let grants = c.rows-grants.result.now in
    let steps : IsShuffle d (seen_holdings c.self.inside) grants c.fall.new.reserves c.grow.new.reserves c.kept_back-kept_back.result c.lent-lent.result c.max-self-inside.result = record {
      running = c.rows-grants.ensures.rows;
      falls = c.fall.ensures;
      reserved = c.kept_back-kept_back.ensures ∙ ap kept_back c.rows.ensures.rows;
      lent = c.lent-lent.ensures ∙ ap (λ (es : List Reserve). used general grants + sum_by (debt grants) es) c.rows-2.ensures.rows;
      force_is = c.max-self-inside.ensures ∙ ap (λ (n : ℕ). max n (c.kept_back-kept_back.result + c.lent-lent.result)) c.total.ensures.value;
      grows = c.grow.ensures;
    } in
    let same = shuffled-seen d (seen_holdings c.self.inside) c.args.self.now grants c.fall.new.reserves c.grow.new.reserves c.kept_back-kept_back.result c.lent-lent.result c.max-self-inside.result c.self.view_is steps in
    let k = subst IsBalanced c.self.view_is c.self.invariant.balanced in
    let old = c.self.inside.reserves in
    let n = c.self.inside.kept in
    let fell = fallen-names d grants old in
    let grew = grown-names d grants ((c.max-self-inside.result - c.kept_back-kept_back.result) - c.lent-lent.result) c.fall.new.reserves in
    let names : reserve_names c.grow.new.reserves ≡ reserve_names old = ap reserve_names c.grow.ensures ∙ grew ∙ ap reserve_names c.fall.ensures ∙ fell in
    let now = kept_shuffled d c.args.self.now c.requires.sound k in
    omega (
      arith,
      now.within,
      now.in_force_most,
      ap (λ (h : Holdings). kept_back h.reserves) same,
      ap kept_back c.rows-3.ensures.rows,
    )

pub settle-requires-clause-fits : goal.settle-requires-clause-fits
settle-requires-clause-fits c =
    let d = c.args.definitions.now in
    let grants = c.rows-grants.result.now in
    let steps : IsShuffle d (seen_holdings c.self.inside) grants c.fall.new.reserves c.grow.new.reserves c.kept_back-kept_back.result c.lent-lent.result c.max-self-inside.result = record {
      running = c.rows-grants.ensures.rows;
      falls = c.fall.ensures;
      reserved = c.kept_back-kept_back.ensures ∙ ap kept_back c.rows.ensures.rows;
      lent = c.lent-lent.ensures ∙ ap (λ (es : List Reserve). used general grants + sum_by (debt grants) es) c.rows-2.ensures.rows;
      force_is = c.max-self-inside.ensures ∙ ap (λ (n : ℕ). max n (c.kept_back-kept_back.result + c.lent-lent.result)) c.total.ensures.value;
      grows = c.grow.ensures;
    } in
    let same = shuffled-seen d (seen_holdings c.self.inside) c.args.self.now grants c.fall.new.reserves c.grow.new.reserves c.kept_back-kept_back.result c.lent-lent.result c.max-self-inside.result c.self.view_is steps in
    let k = subst IsBalanced c.self.view_is c.self.invariant.balanced in
    let old = c.self.inside.reserves in
    let n = c.self.inside.kept in
    let fell = fallen-names d grants old in
    let grew = grown-names d grants ((c.max-self-inside.result - c.kept_back-kept_back.result) - c.lent-lent.result) c.fall.new.reserves in
    let names : reserve_names c.grow.new.reserves ≡ reserve_names old = ap reserve_names c.grow.ensures ∙ grew ∙ ap reserve_names c.fall.ensures ∙ fell in
    let b : Holdings = record { in_force = c.max-self-inside.result; reserves = c.grow.new.reserves; grants = c.self.inside.grants } in
    let now = kept_shuffled d c.args.self.now c.requires.sound k in
    omega (
      arith,
      now.within,
      now.in_force_most,
      ap lent same,
      settled-lent b old n names (ap (λ (m : Numbers). m.usages) c.self.invariant.numbers) (ap (λ (m : Numbers). m.general) c.self.invariant.numbers),
      ap (λ (es : List Reserve). sum_by borrowed (usages_resized es n.usages)) c.rows-3.ensures.rows,
    )

pub invariant_of-self : goal.invariant_of-self
invariant_of-self c =
    let d = c.args.definitions.now in
    let grants = c.rows-grants.result.now in
    let steps : IsShuffle d (seen_holdings c.self.inside) grants c.fall.new.reserves c.grow.new.reserves c.kept_back-kept_back.result c.lent-lent.result c.max-self-inside.result = record {
      running = c.rows-grants.ensures.rows;
      falls = c.fall.ensures;
      reserved = c.kept_back-kept_back.ensures ∙ ap kept_back c.rows.ensures.rows;
      lent = c.lent-lent.ensures ∙ ap (λ (es : List Reserve). used general grants + sum_by (debt grants) es) c.rows-2.ensures.rows;
      force_is = c.max-self-inside.ensures ∙ ap (λ (n : ℕ). max n (c.kept_back-kept_back.result + c.lent-lent.result)) c.total.ensures.value;
      grows = c.grow.ensures;
    } in
    let same = shuffled-seen d (seen_holdings c.self.inside) c.args.self.now grants c.fall.new.reserves c.grow.new.reserves c.kept_back-kept_back.result c.lent-lent.result c.max-self-inside.result c.self.view_is steps in
    let k = subst IsBalanced c.self.view_is c.self.invariant.balanced in
    let old = c.self.inside.reserves in
    let n = c.self.inside.kept in
    let fell = fallen-names d grants old in
    let grew = grown-names d grants ((c.max-self-inside.result - c.kept_back-kept_back.result) - c.lent-lent.result) c.fall.new.reserves in
    let names : reserve_names c.grow.new.reserves ≡ reserve_names old = ap reserve_names c.grow.ensures ∙ grew ∙ ap reserve_names c.fall.ensures ∙ fell in
    let b : Holdings = record { in_force = c.max-self-inside.result; reserves = c.grow.new.reserves; grants = c.self.inside.grants } in
    let made : ℕ → List Reserve → ℕ → ℕ = λ f es m. (f - kept_back es) - m in
    record {
      balanced = subst IsBalanced (sym same) (kept_shuffled d c.args.self.now c.requires.sound k);
      numbers = numbers-settled b old n c.settle.new.self names (ap (λ (m : Numbers). m.usages) c.self.invariant.numbers) (ap (λ (m : Numbers). m.general) c.self.invariant.numbers)
          (c.settle.ensures.usages ∙ ap (λ (es : List Reserve). usages_resized es n.usages) c.rows-3.ensures.rows)
          c.settle.ensures.general
          c.settle.ensures.lent
          (c.settle.ensures.free ∙ ap (λ (es : List Reserve). made c.max-self-inside.result es c.settle.new.self.lent) c.rows-3.ensures.rows)
          (c.settle.ensures.accounts ∙ (λ j. accounts_at (c.rows-3.ensures.rows j) [] (c.rows-grants.ensures.rows j)));
    }

pub returns : goal.returns
returns c =
    let d = c.args.definitions.now in
    let grants = c.rows-grants.result.now in
    let steps : IsShuffle d (seen_holdings c.self.inside) grants c.fall.new.reserves c.grow.new.reserves c.kept_back-kept_back.result c.lent-lent.result c.max-self-inside.result = record {
      running = c.rows-grants.ensures.rows;
      falls = c.fall.ensures;
      reserved = c.kept_back-kept_back.ensures ∙ ap kept_back c.rows.ensures.rows;
      lent = c.lent-lent.ensures ∙ ap (λ (es : List Reserve). used general grants + sum_by (debt grants) es) c.rows-2.ensures.rows;
      force_is = c.max-self-inside.ensures ∙ ap (λ (n : ℕ). max n (c.kept_back-kept_back.result + c.lent-lent.result)) c.total.ensures.value;
      grows = c.grow.ensures;
    } in
    shuffled-seen d (seen_holdings c.self.inside) c.args.self.now grants c.fall.new.reserves c.grow.new.reserves c.kept_back-kept_back.result c.lent-lent.result c.max-self-inside.result c.self.view_is steps

use Rattle.std.proofs.Common.{◌≡◌, ◌-◌, ℕ, sym, ap, ◌∙◌, arith}
use Rattle.rm_base.proofs.Names.{same_name-eq}
use Rattle.rm_rules.specs.Accounting.{used, running_in}
use Rattle.rm_rules.specs.State.{without}
use Rattle.accounts.specs.Accounts.{is_of}
use Rattle.accounts.specs.declared.numbers.Usage.{Usage}
use Rattle.accounts.specs.Numbers.{usage_made}
use Rattle.accounts.proofs.Usages.{beside-used, beside-other}
use Rattle.accounts.proofs.holdings.Accounts.usage_beside.Goals as goal

pub overflow_sub-usage : goal.overflow_sub-usage
overflow_sub-usage c =
    let is = same_name-eq c.args.g.pool c.args.pool (sym c.same.ensures ∙ c.if-same.true) in
    let now = beside-used c.args.self.now c.args.g c.args.pool c.requires is in
    omega (arith, now.0, ap (λ (u : Usage). u.used) c.usage-usage.ensures.value)

pub overflow_sub-usage-then-same : goal.overflow_sub-usage-then-same
overflow_sub-usage-then-same c =
    let is = same_name-eq c.args.g.pool c.args.pool (sym c.same.ensures ∙ c.if-same.true) in
    let now = beside-used c.args.self.now c.args.g c.args.pool c.requires is in
    omega (arith, now.1, ap (λ (u : Usage). u.running) c.usage-usage.ensures.value)

pub returns-then-same-clause-value : goal.returns-then-same-clause-value
returns-then-same-clause-value c =
    let a = c.args.self.now in
    let is = same_name-eq c.args.g.pool c.args.pool (sym c.same.ensures ∙ c.if-same.true) in
    let now = beside-used a c.args.g c.args.pool c.requires is in
    let u = ap (λ (x : Usage). x.used) c.usage-usage.ensures.value in
    let r = ap (λ (x : Usage). x.running) c.usage-usage.ensures.value in
    let left = without (is_of c.args.g.query) a.grants in
    let less_used : c.usage-usage.result.used - c.args.g.bytes ≡ used c.args.pool left = omega (arith, now.0, u) in
    let less_running : c.usage-usage.result.running - 1 ≡ running_in c.args.pool left = omega (arith, now.1, r) in
    let made : ℕ → ℕ → ℕ → Usage = λ s m n. usage_made s m n in
    c.made.ensures ∙ (λ j. made (c.actual.ensures j) (less_used j) (less_running j))

pub returns-else-same-clause-value : goal.returns-else-same-clause-value
returns-else-same-clause-value c =
    c.usage-usage.ensures.value ∙ beside-other c.args.self.now c.args.g c.args.pool c.requires (sym c.same.ensures ∙ c.if-same.false)

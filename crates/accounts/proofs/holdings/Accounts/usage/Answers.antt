use Rattle.std.proofs.Common.{List, get_or, sym, ap, subst, ◌∙◌, arith}
use Rattle.rm_base.proofs.Names.{same_name-eq}
use Rattle.rm_base.specs.Name.{same_name, general}
use Rattle.accounts.specs.declared.numbers.Numbers.{Numbers}
use Rattle.accounts.specs.declared.numbers.Usage.{Usage}
use Rattle.accounts.specs.Kept.{IsBalanced, seen_holdings}
use Rattle.accounts.specs.Numbers.{no_usage}
use Rattle.accounts.proofs.Changes.{stands-found}
use Rattle.accounts.proofs.Usages.{kept-seen, usage-found, usage-general, usage-absent, used-most, running-most}
use Rattle.accounts.proofs.holdings.Accounts.usage.Goals as goal

pub returns-in-Some-clause-value : goal.returns-in-Some-clause-value
returns-in-Some-clause-value c =
    let a = c.args.self.now in
    let at = sym c.place_of_reserve.ensures.value ∙ c.in-Some.is in
    let kept = kept-seen c.self.inside.kept (seen_holdings c.self.inside) a c.self.invariant.numbers c.self.view_is in
    ap (λ (us : List Usage). get_or us c.in-Some.i no_usage) (c.rows.ensures.rows ∙ ap (λ (n : Numbers). n.usages) kept)
    ∙ usage-found a c.args.pool c.in-Some.i at (stands-found a.reserves c.args.pool c.in-Some.i at)

pub returns-in-Some-clause-most : goal.returns-in-Some-clause-most
returns-in-Some-clause-most c =
    let a = c.args.self.now in
    let at = sym c.place_of_reserve.ensures.value ∙ c.in-Some.is in
    let kept = kept-seen c.self.inside.kept (seen_holdings c.self.inside) a c.self.invariant.numbers c.self.view_is in
    let is = ap (λ (us : List Usage). get_or us c.in-Some.i no_usage) (c.rows.ensures.rows ∙ ap (λ (n : Numbers). n.usages) kept)
    ∙ usage-found a c.args.pool c.in-Some.i at (stands-found a.reserves c.args.pool c.in-Some.i at) in
    omega (arith, ap (λ (u : Usage). u.used) is, used-most a c.args.pool (subst IsBalanced c.self.view_is c.self.invariant.balanced))

pub returns-in-Some-clause-few : goal.returns-in-Some-clause-few
returns-in-Some-clause-few c =
    let a = c.args.self.now in
    let at = sym c.place_of_reserve.ensures.value ∙ c.in-Some.is in
    let kept = kept-seen c.self.inside.kept (seen_holdings c.self.inside) a c.self.invariant.numbers c.self.view_is in
    let is = ap (λ (us : List Usage). get_or us c.in-Some.i no_usage) (c.rows.ensures.rows ∙ ap (λ (n : Numbers). n.usages) kept)
    ∙ usage-found a c.args.pool c.in-Some.i at (stands-found a.reserves c.args.pool c.in-Some.i at) in
    omega (arith, ap (λ (u : Usage). u.running) is, running-most a c.args.pool)

pub returns-then-same-clause-value : goal.returns-then-same-clause-value
returns-then-same-clause-value c =
    let a = c.args.self.now in
    let at = sym c.place_of_reserve.ensures.value ∙ c.in-None.is in
    let is = same_name-eq c.args.pool general (ap (same_name c.args.pool) (sym c.general.ensures) ∙ sym c.same.ensures ∙ c.if-same.true) in
    ap (λ (n : Numbers). n.general) (kept-seen c.self.inside.kept (seen_holdings c.self.inside) a c.self.invariant.numbers c.self.view_is)
    ∙ usage-general a c.args.pool at is

pub returns-then-same-clause-few : goal.returns-then-same-clause-few
returns-then-same-clause-few c =
    let a = c.args.self.now in
    let kept = kept-seen c.self.inside.kept (seen_holdings c.self.inside) a c.self.invariant.numbers c.self.view_is in
    omega (arith, ap (λ (n : Numbers). n.general.running) kept, running-most a general)

pub returns-else-same-clause-value : goal.returns-else-same-clause-value
returns-else-same-clause-value c =
    let a = c.args.self.now in
    let at = sym c.place_of_reserve.ensures.value ∙ c.in-None.is in
    let user = ap (same_name c.args.pool) (sym c.general.ensures) ∙ sym c.same.ensures ∙ c.if-same.false in
    c.none.ensures ∙ usage-absent a c.args.pool (subst IsBalanced c.self.view_is c.self.invariant.balanced) at user

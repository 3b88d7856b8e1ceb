use Rattle.std.proofs.Common.{◌≡◌, List, [], length, ◌∙◌, sym, ap, arith}
use Rattle.rm_base.specs.declared.entry.Account.{Account}
use Rattle.rm_base.specs.declared.name.Name.{Name}
use Rattle.rm_rules.specs.Accounting.{accounts}
use Rattle.accounts.specs.declared.numbers.Numbers.{Numbers}
use Rattle.accounts.specs.Accounts.{is_of}
use Rattle.accounts.specs.Kept.{seen_holdings}
use Rattle.rm_rules.proofs.Places.{position-within, position-is}
use Rattle.accounts.proofs.Handing.{accounts-are, accounts-length}
use Rattle.accounts.proofs.Seen.{account-absent}
use Rattle.accounts.proofs.Usages.{kept-seen, account-kept}
use Rattle.accounts.proofs.holdings.Accounts.account_of.Goals as goal

pub bounds-rows-place : goal.bounds-rows-place
bounds-rows-place c =
    let a = c.args.self.now in
    let found = sym c.in-Some.ensures.value in
    let listed : c.rows.result.now ≡ accounts a =
    c.rows.ensures.rows ∙ ap (λ (n : Numbers). n.accounts) (kept-seen c.self.inside.kept (seen_holdings c.self.inside) a c.self.invariant.numbers c.self.view_is) in
    omega (
      arith,
      ap (λ (l : List Account). length l) (listed ∙ accounts-are a),
      accounts-length a.reserves [] a.grants,
      position-within (is_of c.args.query) a.grants c.in-Some.place found,
      position-is (is_of c.args.query) a.grants c.in-Some.place found,
    )

pub returns-in-Some : goal.returns-in-Some
returns-in-Some c =
    let a = c.args.self.now in
    let listed : c.rows.result.now ≡ accounts a =
    c.rows.ensures.rows ∙ ap (λ (n : Numbers). n.accounts) (kept-seen c.self.inside.kept (seen_holdings c.self.inside) a c.self.invariant.numbers c.self.view_is) in
    account-kept a c.rows.result.now c.args.query c.in-Some.place c.index-rows-place.result listed (sym c.in-Some.ensures.value) c.index-rows-place.is

pub returns-in-None : goal.returns-in-None
returns-in-None c =
    let empty : Name → Account = λ n. record { pool = n; own = 0; borrowed = 0 } in
    ap empty c.general.ensures ∙ account-absent c.args.self.now c.args.query (sym c.in-None.ensures.value)

use Rattle.std.proofs.Common.{◌≡◌, ◌<◌, ◌+◌, ◌++◌, ◌∙◌, ap, sym, List, length, get_or, take, drop, arith}
use Rattle.rm_base.specs.declared.entry.Account.{Account}
use Rattle.rm_base.specs.declared.snapshot.RunningSeen.{RunningSeen}
use Rattle.rm_rules.specs.State.{State}
use Rattle.rm_rules.specs.Holdings.{Holdings, holding, holdings, holdings_of}
use Rattle.rm_rules.specs.Accounting.{account_behind}
use Rattle.accounts.specs.Accounts.{account_of}
use Rattle.machine.specs.Looked.{running_seen}
use Rattle.machine.proofs.Inside.{bytes_inside}
use Rattle.machine.proofs.Running.{account-at}
use Rattle.machine.proofs.Looking.{unseen, runs-more}
use Rattle.machine.proofs.machine.Machine.runs_seen.Goals as goal

pub loop-i-preserved : goal.loop-i-preserved
loop-i-preserved c =
    let s = c.args.self.now in
    let i = c.loop-i.i in
    let r = c.at-r.result in
    let at : r ≡ get_or s.running i r = c.at-r.ensures ∙ ap (λ (t : State). get_or t.running i r) c.self.view_is in
    let within : i < length s.running = omega (arith, c.loop-i-test.true, c.len.ensures.value, ap (λ (t : State). length t.running) c.self.view_is) in
    let account =
    c.account_of.ensures ∙ ap (λ (b : Holdings). account_of b r.query) c.accounts-accounts.ensures ∙ ap (λ (b : Holdings). account_of b r.query) (bytes_inside c.self.inside s c.self.view_is c.self.invariant)
    ∙ account-at s i r c.requires within at in
    let is : c.running_seen.result ≡ running_seen (r, account_behind (holdings_of s) (holdings (take i s.running)) (holding r)) =
    c.running_seen.ensures ∙ ap (λ (a : Account). running_seen (r, a)) account in (
      c.loop-i.invariant.0 ∙ runs-more (holdings_of s) s.running i r c.loop-i.seen.items c.running_seen.result within at is
          ∙ ap (λ (l : List RunningSeen). l ++ unseen (holdings_of s) (holdings (take (i + 1) s.running)) (drop (i + 1) s.running)) (sym c.push_reserved.ensures.items),
      omega (arith, c.push_reserved.ensures.len, c.loop-i.invariant.1),
      c.push_reserved.ensures.capacity ∙ c.loop-i.invariant.2,
    )

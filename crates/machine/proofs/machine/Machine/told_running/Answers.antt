use Rattle.std.proofs.Common.{sym, ap, ◌∙◌, Option}
use Rattle.rm_base.specs.declared.entry.Account.{Account}
use Rattle.rm_base.specs.declared.reply.Reply.{Reply}
use Rattle.rm_base.specs.declared.reply.Reply.TheVariants as reply
use Rattle.rm_rules.specs.declared.state.Runner.{Runner}
use Rattle.rm_rules.specs.State.{State, runner_of}
use Rattle.rm_rules.specs.Holdings.{Holdings}
use Rattle.rm_rules.specs.Answers.{told_running}
use Rattle.accounts.specs.Accounts.{account_of}
use Rattle.machine.proofs.Inside.{bytes_inside}
use Rattle.machine.proofs.Running.{account-told}
use Rattle.machine.proofs.machine.Machine.told_running.Goals as goal

pub returns : goal.returns
returns c =
    let s = c.args.self.now in
    let r = c.in-Some.r in
    let found = ap (λ (t : State). runner_of t.running c.args.session) (sym c.self.view_is) ∙ sym c.of.ensures ∙ c.in-Some.is in
    let account =
    c.account_of-account.ensures ∙ ap (λ (b : Holdings). account_of b r.query) c.accounts.ensures ∙ ap (λ (b : Holdings). account_of b r.query) (bytes_inside c.self.inside s c.self.view_is c.self.invariant)
    ∙ account-told s c.args.session r c.requires found in
    ap (λ (a : Account). let x : Reply = reply.Admitted r.query r.pool r.grant a.own a.borrowed in x) account
    ∙ ap (λ (o : Option Runner). told_running s c.args.session o) (sym found)

use Rattle.std.proofs.Common.{◌≡◌, ◌∙◌, ap, sym, subst, Some, None, Option, Result, Ok, Err}
use Rattle.std.specs.Prelude.{IfOk, IfErr}
use Rattle.rm_base.specs.declared.refusal.Refusal.{Refusal}
use Rattle.rm_base.specs.declared.refusal.Refusal.TheVariants as refusal
use Rattle.rm_rules.specs.declared.state.Session.{Session}
use Rattle.rm_rules.specs.Change.{Change, change, choosing}
use Rattle.machine.specs.Done.{change_to}
use Rattle.machine.proofs.machine.Machine.change.Goals as goal

pub returns-in_ok-x-in-SetPool-clause-ok : goal.returns-in_ok-x-in-SetPool-clause-ok
returns-in_ok-x-in-SetPool-clause-ok c =
    let s = c.args.self.now in
    let is : change s c.args.seat c.args.event.now ≡ choosing s c.in-SetPool.pool c.in_ok-x-in-SetPool.x =
    ap (change s c.args.seat) c.in-SetPool.is
    ∙ ap (λ (o : Option Session). let r : Result Change Refusal = elim o [ Some x ↦ choosing s c.in-SetPool.pool x | None ↦ Err refusal.NoSuchSession ] in r) c.in_ok-x-in-SetPool.ensures.ok in
    subst (λ (r : Result Change Refusal). IfOk c.choose.result (λ done. r ≡ Ok (change_to c.choose.new.self done))) (sym is) c.choose.ensures.ok

pub returns-in_ok-x-in-SetPool-clause-err : goal.returns-in_ok-x-in-SetPool-clause-err
returns-in_ok-x-in-SetPool-clause-err c =
    let s = c.args.self.now in
    let is : change s c.args.seat c.args.event.now ≡ choosing s c.in-SetPool.pool c.in_ok-x-in-SetPool.x =
    ap (change s c.args.seat) c.in-SetPool.is
    ∙ ap (λ (o : Option Session). let r : Result Change Refusal = elim o [ Some x ↦ choosing s c.in-SetPool.pool x | None ↦ Err refusal.NoSuchSession ] in r) c.in_ok-x-in-SetPool.ensures.ok in
    subst (λ (r : Result Change Refusal). IfErr c.choose.result (λ refusal. r ≡ Err refusal)) (sym is) c.choose.ensures.err

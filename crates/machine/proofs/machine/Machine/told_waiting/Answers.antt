use Rattle.std.proofs.Common.{◌≡◌, ℕ, ◌∙◌, ap, sym, Option, Some}
use Rattle.std.specs.Option.{unwrap_or}
use Rattle.rm_base.specs.declared.reply.Reply.{Reply}
use Rattle.rm_base.specs.declared.reply.Reply.TheVariants as reply
use Rattle.rm_rules.specs.declared.state.Waiter.{Waiter}
use Rattle.rm_rules.specs.State.{State, waiter_of}
use Rattle.rm_rules.specs.Answers.{told_waiting}
use Rattle.pool_queue.specs.Queue.{place_of_query}
use Rattle.machine.proofs.Settling.{place-waiting}
use Rattle.machine.proofs.machine.Machine.told_waiting.Goals as goal

pub returns : goal.returns
returns c =
    let s = c.args.self.now in
    let w = c.in-Some.w in
    let found : waiter_of s.waiting c.args.session ≡ Some w = ap (λ (t : State). waiter_of t.waiting c.args.session) (sym c.self.view_is) ∙ sym c.waiter_of.ensures ∙ c.in-Some.is in
    let placed = place-waiting s c.args.session w c.requires.in_phase c.requires.numbered found in
    let place =
    c.unwrap_or.ensures
    ∙ ap (λ (o : Option ℕ). unwrap_or o 0) (c.place_of.ensures.value ∙ ap (λ (t : State). place_of_query t.waiting w.query) c.self.view_is ∙ placed) in
    ap (λ n. let r : Reply = reply.Waiting w.query n in r) place
    ∙ ap (λ (o : Option Waiter). told_waiting s c.args.session o) (sym found)

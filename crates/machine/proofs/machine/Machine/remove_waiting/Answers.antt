use Rattle.std.proofs.Common.{sym, ap, ◌∙◌}
use Rattle.rm_rules.specs.State.{State, waiter_of}
use Rattle.pool_queue.specs.Queue.{has_query}
use Rattle.machine.specs.Inside.{seen_state}
use Rattle.machine.proofs.Settling.{session-may-leave, session-left, none-left}
use Rattle.machine.proofs.machine.Machine.remove_waiting.Goals as goal

pub leave-requires : goal.leave-requires
leave-requires c =
    let found = ap (λ (s : State). waiter_of s.waiting c.args.session) (sym c.self.view_is) ∙ sym c.waiter_of.ensures ∙ c.in-Some.is in
    record {
      present = ap (λ (t : State). has_query t.waiting c.in-Some.w.query) c.self.view_is
          ∙ (session-may-leave c.args.self.now c.args.session c.in-Some.w c.requires.in_phase c.requires.numbered found).waits;
    }

pub returns-in-Some : goal.returns-in-Some
returns-in-Some c =
    let found = ap (λ (s : State). waiter_of s.waiting c.args.session) (sym c.self.view_is) ∙ sym c.waiter_of.ensures ∙ c.in-Some.is in
    session-left c.args.self.now (seen_state c.self.inside) c.args.session c.in-Some.w c.leave.new.self c.self.view_is c.requires.in_phase c.requires.numbered found c.leave.ensures.items

pub returns-in_default : goal.returns-in_default
returns-in_default c =
    none-left c.args.self.now c.args.session (ap (λ (s : State). waiter_of s.waiting c.args.session) (sym c.self.view_is) ∙ sym c.waiter_of.ensures ∙ c.in_default.is)

use Rattle.std.proofs.Common.{ℕ, set, refl, ap, sym, subst}
use Rattle.rm_base.specs.declared.event.Event.{Event}
use Rattle.rm_base.specs.declared.event.Event.TheVariants as event
use Rattle.sessions.specs.Host.{desk_known}
use Rattle.sessions.specs.Running.{Makes}
use Rattle.sessions.specs.Turns.{ScriptState}
use Rattle.sessions.proofs.HeldLaws.{found-at, held-at, placed-held, unending}
use Rattle.sessions.proofs.TurnLemmas.{makes, number-is, state_with}
use Rattle.sessions.proofs.script.Script.submit.Goals as goal

pub ask-requires : goal.ask-requires
ask-requires c =
    let hs = c.self.inside.held.items in
    let x = c.index_mut.result.now in
    let there = found-at hs c.args.self.now.names c.args.session c.args.place x (ap (λ (s : ScriptState). s.names) c.self.view_is) c.requires.place c.index_mut.ensures.value in
    held-at (desk_known c.self.inside.desk) hs c.args.place x there.within c.index_mut.ensures.value c.self.invariant.held

pub invariant_of-self : goal.invariant_of-self
invariant_of-self c =
    let hs = c.self.inside.held.items in
    let x = c.index_mut.result.now in
    let e : Event = event.Submit x.session.number c.args.floor in
    let there = found-at hs c.args.self.now.names c.args.session c.args.place x (ap (λ (s : ScriptState). s.names) c.self.view_is) c.requires.place c.index_mut.ensures.value in
    let call = c.ask.ensures.call in
    record {
      held = placed-held (desk_known c.self.inside.desk) (desk_known c.ask.new.desk) c.self.inside.moment e call.0 hs c.args.place x c.ask.new.self there.within c.index_mut.ensures.value call.1 tt
          (unending x.session.number e refl) c.ask.ensures.named c.ask.ensures.held c.self.invariant.held;
      plans = c.self.invariant.plans;
    }

pub returns : goal.returns
returns c =
    let hs = c.self.inside.held.items in
    let x = c.index_mut.result.now in
    let e : Event = event.Submit x.session.number c.args.floor in
    let call = c.ask.ensures.call in
    let is = number-is c.self.inside.desk hs c.self.inside.plans c.self.inside.tables c.self.inside.moment c.args.self.now c.args.session c.args.place c.args.number x
    c.self.view_is c.requires.place c.index_mut.ensures.value c.requires.number in
    subst (λ (n : ℕ). Makes c.args.self.now (state_with c.ask.new.desk (set hs c.args.place c.ask.new.self) c.self.inside.plans c.self.inside.tables c.self.inside.moment) (event.Submit n c.args.floor) c.ask.result) (sym is)
    (makes c.self.inside.desk c.ask.new.desk hs c.self.inside.plans c.self.inside.tables c.self.inside.moment c.args.self.now c.args.place x c.ask.new.self e c.ask.result call.0
    c.self.view_is c.index_mut.ensures.value c.ask.ensures.named call.1 call.2)

use Rattle.std.proofs.Common.{ℕ, set, ap, sym, subst}
use Rattle.rm_base.specs.declared.event.Event.{Event}
use Rattle.rm_base.specs.declared.event.Event.TheVariants as event
use Rattle.sessions.specs.Held.{unnumbered}
use Rattle.sessions.specs.Host.{desk_known}
use Rattle.sessions.specs.Running.{Makes}
use Rattle.sessions.specs.Turns.{ScriptState}
use Rattle.sessions.proofs.HeldLaws.{found-at, held-at, placed-held, check-ends}
use Rattle.sessions.proofs.TurnLemmas.{makes, number-is, state_with}
use Rattle.sessions.proofs.script.Script.check_query.Goals as goal

pub check-requires : goal.check-requires
check-requires c =
    let hs = c.self.inside.held.items in
    let x = c.index_mut.result.now in
    let there = found-at hs c.args.self.now.names c.args.session c.args.place x (ap (λ (s : ScriptState). s.names) c.self.view_is) c.requires.place c.index_mut.ensures.value in
    held-at (desk_known c.self.inside.desk) hs c.args.place x there.within c.index_mut.ensures.value c.self.invariant.held

pub invariant_of-self : goal.invariant_of-self
invariant_of-self c =
    let hs = c.self.inside.held.items in
    let x = c.index_mut.result.now in
    let e : Event = event.Check x.session.number in
    let there = found-at hs c.args.self.now.names c.args.session c.args.place x (ap (λ (s : ScriptState). s.names) c.self.view_is) c.requires.place c.index_mut.ensures.value in
    let call = c.check.ensures.call in
    record {
      held = placed-held (desk_known c.self.inside.desk) (desk_known c.check.new.desk) c.self.inside.moment e call.0 hs c.args.place x c.check.new.self there.within c.index_mut.ensures.value call.1 tt
          (check-ends x.session.number) c.check.ensures.named c.check.ensures.held c.self.invariant.held;
      plans = c.self.invariant.plans;
    }

pub returns : goal.returns
returns c =
    let hs = c.self.inside.held.items in
    let x = c.index_mut.result.now in
    let e : Event = event.Check x.session.number in
    let call = c.check.ensures.call in
    let is = number-is c.self.inside.desk hs c.self.inside.plans c.self.inside.tables c.self.inside.moment c.args.self.now c.args.session c.args.place c.args.number x
    c.self.view_is c.requires.place c.index_mut.ensures.value c.requires.number in
    subst (λ (n : ℕ). Makes c.args.self.now (state_with c.check.new.desk (set hs c.args.place c.check.new.self) c.self.inside.plans c.self.inside.tables c.self.inside.moment) (event.Check n) c.check.result) (sym is)
    (makes c.self.inside.desk c.check.new.desk hs c.self.inside.plans c.self.inside.tables c.self.inside.moment c.args.self.now c.args.place x c.check.new.self e c.check.result call.0
    c.self.view_is c.index_mut.ensures.value c.check.ensures.named call.1 (ap unnumbered (sym call.2)))

use Rattle.std.proofs.Common.{◌≡◌, true, ap, sym, ◌∙◌, rules}
use Rattle.std.specs.Option.{is_some}
use Rattle.sessions.specs.Plans.{plan_of}
use Rattle.sessions.specs.Turns.{ScriptState}
use Rattle.sessions.proofs.TurnLemmas.{checked-did}
use Rattle.sessions.proofs.script.Script.done.Goals as goal

pub returns-clause-turn : goal.returns-clause-turn
returns-clause-turn g c =
    let s = c.args.self.now in
    let n = c.args.number in
    let has : c.has.result ≡ true = search rules in
    let kept : is_some (plan_of s.plans n) ≡ true = ap (λ (t : ScriptState). is_some (plan_of t.plans n)) (sym c.self.view_is) ∙ sym c.has.ensures ∙ has in
    checked-did s c.check_query-verdict.new.self c.go_on.new.self c.args.session n (plan_of s.plans n) c.check_query-verdict.result c.go_on.result c.check_query-verdict.ensures kept c.go_on.ensures.turn

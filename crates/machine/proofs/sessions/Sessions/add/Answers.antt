use Rattle.std.proofs.Common.{◌≡◌, ◌<◌, true, ltb, subst, sym, List, length}
use Rattle.std.specs.List.{list_all}
use Rattle.rm_base.specs.declared.limits.TheConstants.{SESSIONS_MOST}
use Rattle.rm_rules.specs.declared.state.Session.{Session}
use Rattle.machine.proofs.Rising.{order-push}
use Rattle.machine.proofs.sessions.Sessions.add.Goals as goal

pub invariant_of-self : goal.invariant_of-self
invariant_of-self c =
    order-push c.self.inside c.args.session c.add.new.self
    (subst (λ (l : List Session). length l < SESSIONS_MOST) (sym c.self.view_is) c.requires.room)
    (subst (λ (l : List Session). list_all (λ (x : Session). ltb x.number c.args.session.number) l ≡ true) (sym c.self.view_is) c.requires.newest)
    c.requires.idle c.self.invariant c.add.ensures

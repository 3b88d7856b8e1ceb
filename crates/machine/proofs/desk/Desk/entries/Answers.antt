use Rattle.std.proofs.Common.{subst}
use Rattle.rm_rules.specs.State.{start}
use Rattle.rm_rules.specs.Sound.{IsSound}
use Rattle.rm_rules.specs.Conserved.{ConservedAfterEach}
use Rattle.rm_rules.specs.Grants.{BytesAreKept}
use Rattle.rm_rules.proofs.Laws.{healthy-start, conserved-after-each}
use Rattle.rm_rules.proofs.Histories.{bytes-from}
use Rattle.machine.specs.Desk.{DeskState, beginning}
use Rattle.machine.proofs.desk.Desk.entries.Goals as goal

pub returns-clause-sound : goal.returns-clause-sound
returns-clause-sound c = subst (λ (d : DeskState). IsSound d.first) c.self.view_is c.self.invariant.sound

pub returns-clause-conserved : goal.returns-clause-conserved
returns-clause-conserved c =
    let state = c.self.inside.machine in
    subst (λ (d : DeskState). ConservedAfterEach (beginning d) d.state.journal) c.self.view_is (conserved-after-each c.self.inside.first state.room state.journal c.self.invariant.sound c.self.invariant.legal)

pub returns-clause-bytes : goal.returns-clause-bytes
returns-clause-bytes c =
    let state = c.self.inside.machine in
    subst (λ (d : DeskState). BytesAreKept (beginning d) d.state.journal) c.self.view_is
    (bytes-from (start c.self.inside.first state.room) state.journal c.self.invariant.legal (healthy-start c.self.inside.first state.room c.self.invariant.sound))

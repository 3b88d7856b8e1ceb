use Rattle.std.proofs.Common.{◌≡◌, ap}
use Rattle.machine.specs.Desk.{DeskState}
use Rattle.workload.proofs.Opening.{HasBegun}
use Rattle.workload.proofs.Standing.{new-begun, nobody-holds, nobody-runs}
use Rattle.workload.proofs.lone.Lone.new.Goals as goal

pub invariant_of-result : goal.invariant_of-result
invariant_of-result c =
    let h =
    new-begun c.args.memory c.args.cores c.args.at c.in_ok-definitions.definitions c.in_ok-desk.desk.state c.apply.new.self.state c.apply-2.new.self.state
    c.apply-3.new.self.state c.apply-4.new.self.state c.create_w0.result c.create_w1.result c.create_w2.result c.dbadmin-user.result
    c.requires.memory_least c.requires.memory_most c.requires.cores_least c.requires.cores_most c.in_ok-definitions.ensures c.in_ok-desk.ensures.state
    c.create_w0.ensures c.create_w1.ensures c.create_w2.ensures c.dbadmin-user.ensures (ap (λ (x : DeskState). x.state) c.apply.ensures.state)
    (ap (λ (x : DeskState). x.state) c.apply-2.ensures.state) (ap (λ (x : DeskState). x.state) c.apply-3.ensures.state)
    (ap (λ (x : DeskState). x.state) c.apply-4.ensures.state) in
    h.lone

pub returns-clause-definitions : goal.returns-clause-definitions
returns-clause-definitions c =
    let h =
    new-begun c.args.memory c.args.cores c.args.at c.in_ok-definitions.definitions c.in_ok-desk.desk.state c.apply.new.self.state c.apply-2.new.self.state
    c.apply-3.new.self.state c.apply-4.new.self.state c.create_w0.result c.create_w1.result c.create_w2.result c.dbadmin-user.result
    c.requires.memory_least c.requires.memory_most c.requires.cores_least c.requires.cores_most c.in_ok-definitions.ensures c.in_ok-desk.ensures.state
    c.create_w0.ensures c.create_w1.ensures c.create_w2.ensures c.dbadmin-user.ensures (ap (λ (x : DeskState). x.state) c.apply.ensures.state)
    (ap (λ (x : DeskState). x.state) c.apply-2.ensures.state) (ap (λ (x : DeskState). x.state) c.apply-3.ensures.state)
    (ap (λ (x : DeskState). x.state) c.apply-4.ensures.state) in
    h.definitions

pub returns-clause-begun : goal.returns-clause-begun
returns-clause-begun c =
    let h =
    new-begun c.args.memory c.args.cores c.args.at c.in_ok-definitions.definitions c.in_ok-desk.desk.state c.apply.new.self.state c.apply-2.new.self.state
    c.apply-3.new.self.state c.apply-4.new.self.state c.create_w0.result c.create_w1.result c.create_w2.result c.dbadmin-user.result
    c.requires.memory_least c.requires.memory_most c.requires.cores_least c.requires.cores_most c.in_ok-definitions.ensures c.in_ok-desk.ensures.state
    c.create_w0.ensures c.create_w1.ensures c.create_w2.ensures c.dbadmin-user.ensures (ap (λ (x : DeskState). x.state) c.apply.ensures.state)
    (ap (λ (x : DeskState). x.state) c.apply-2.ensures.state) (ap (λ (x : DeskState). x.state) c.apply-3.ensures.state)
    (ap (λ (x : DeskState). x.state) c.apply-4.ensures.state) in
    h.last_query

pub returns-clause-runs_in : goal.returns-clause-runs_in
returns-clause-runs_in c =
    let h =
    new-begun c.args.memory c.args.cores c.args.at c.in_ok-definitions.definitions c.in_ok-desk.desk.state c.apply.new.self.state c.apply-2.new.self.state
    c.apply-3.new.self.state c.apply-4.new.self.state c.create_w0.result c.create_w1.result c.create_w2.result c.dbadmin-user.result
    c.requires.memory_least c.requires.memory_most c.requires.cores_least c.requires.cores_most c.in_ok-definitions.ensures c.in_ok-desk.ensures.state
    c.create_w0.ensures c.create_w1.ensures c.create_w2.ensures c.dbadmin-user.ensures (ap (λ (x : DeskState). x.state) c.apply.ensures.state)
    (ap (λ (x : DeskState). x.state) c.apply-2.ensures.state) (ap (λ (x : DeskState). x.state) c.apply-3.ensures.state)
    (ap (λ (x : DeskState). x.state) c.apply-4.ensures.state) in
    nobody-runs c.apply-4.new.self.state h.running

pub returns-clause-held : goal.returns-clause-held
returns-clause-held c =
    let h =
    new-begun c.args.memory c.args.cores c.args.at c.in_ok-definitions.definitions c.in_ok-desk.desk.state c.apply.new.self.state c.apply-2.new.self.state
    c.apply-3.new.self.state c.apply-4.new.self.state c.create_w0.result c.create_w1.result c.create_w2.result c.dbadmin-user.result
    c.requires.memory_least c.requires.memory_most c.requires.cores_least c.requires.cores_most c.in_ok-definitions.ensures c.in_ok-desk.ensures.state
    c.create_w0.ensures c.create_w1.ensures c.create_w2.ensures c.dbadmin-user.ensures (ap (λ (x : DeskState). x.state) c.apply.ensures.state)
    (ap (λ (x : DeskState). x.state) c.apply-2.ensures.state) (ap (λ (x : DeskState). x.state) c.apply-3.ensures.state)
    (ap (λ (x : DeskState). x.state) c.apply-4.ensures.state) in
    nobody-holds c.apply-4.new.self.state h.running

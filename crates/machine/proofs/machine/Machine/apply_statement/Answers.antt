use Rattle.std.proofs.Common.{◌≡◌, ◌++◌, ◌∷◌, [], ◌∙◌, ap, sym, subst, refl, Ok, IsOk, List, length, get_or, arith}
use Rattle.rm_base.specs.declared.entry.EndCounts.{EndCounts}
use Rattle.rm_base.specs.declared.rows.PoolRow.{PoolRow}
use Rattle.rm_rules.specs.declared.state.Runner.{Runner}
use Rattle.rm_rules.specs.State.{State}
use Rattle.rm_rules.specs.Acceptance.{accepted}
use Rattle.machine.specs.Inside.{seen_state}
use Rattle.machine.proofs.Inside.{sound_inside, sized_inside, name_inside, bytes_under}
use Rattle.machine.proofs.Defining.{added, altered, reserves-count, bytes-added, bytes-altered, state-added, state-altered}
use Rattle.machine.proofs.machine.Machine.apply_statement.Goals as goal

pub apply-requires-clause-sound : goal.apply-requires-clause-sound
apply-requires-clause-sound c = sound_inside c.self.inside c.args.self.now c.self.view_is c.requires.sound

pub apply-requires-clause-accepted : goal.apply-requires-clause-accepted
apply-requires-clause-accepted c = subst (λ (s : State). IsOk (accepted s.definitions c.args.statement.now)) (sym c.self.view_is) c.requires.accepted

pub add_pool-requires-clause-absent : goal.add_pool-requires-clause-absent
add_pool-requires-clause-absent c =
    let m = c.self.inside in
    let sound = sound_inside m c.args.self.now c.self.view_is c.requires.sound in
    let sized = sized_inside m c.args.self.now c.self.view_is c.requires.sized in
    let row = get_or c.rows-rows.result.now c.len-pools.result c.index-rows-pools.result in
    let h = added m.definitions c.apply.new.definitions c.args.statement.now c.index-rows-pools.result c.len-pools.result c.rows-rows.result.now sound c.requires.drops_none c.apply.ensures.changed c.len-pools.ensures.value c.rows-rows.ensures.rows c.if-pools-rows.true in
    name_inside m (seen_state m) row.name refl c.self.invariant sound sized ∙ h.absent

pub add_pool-requires-clause-room : goal.add_pool-requires-clause-room
add_pool-requires-clause-room c =
    let m = c.self.inside in
    let sound = sound_inside m c.args.self.now c.self.view_is c.requires.sound in
    let sized = sized_inside m c.args.self.now c.self.view_is c.requires.sized in
    omega (arith, reserves-count m sound sized, c.if-pools-rows.true, c.len-pools.ensures.value, ap (λ (l : List PoolRow). length l) c.rows-rows.ensures.rows, c.rows-rows.ensures.room)

pub invariant_of-self : goal.invariant_of-self
invariant_of-self c =
    let m = c.self.inside in
    let sound = sound_inside m c.args.self.now c.self.view_is c.requires.sound in
    let sized = sized_inside m c.args.self.now c.self.view_is c.requires.sized in
    let row = get_or c.rows-rows.result.now c.len-pools.result c.index-rows-pools.result in
    let h = added m.definitions c.apply.new.definitions c.args.statement.now c.index-rows-pools.result c.len-pools.result c.rows-rows.result.now sound c.requires.drops_none c.apply.ensures.changed c.len-pools.ensures.value c.rows-rows.ensures.rows c.if-pools-rows.true in
    record {
      bytes = ap (bytes_under c.apply.new.definitions c.add_pool.new.self.accounts) c.add_pool.ensures.running
          ∙ bytes-added m c.apply.new.definitions row c.add_pool.new.self.accounts c.self.invariant sized h c.add_pool.ensures.accounts;
      journal = c.self.invariant.journal;
      counted = c.self.invariant.counted;
    }

pub invariant_of-self-else-pools-rows : goal.invariant_of-self-else-pools-rows
invariant_of-self-else-pools-rows c =
    let m = c.self.inside in
    let sound = sound_inside m c.args.self.now c.self.view_is c.requires.sound in
    let sized = sized_inside m c.args.self.now c.self.view_is c.requires.sized in
    let h = altered m.definitions c.apply.new.definitions c.args.statement.now c.len-pools.result c.rows-rows.result.now sound c.requires.drops_none c.apply.ensures.changed c.len-pools.ensures.value c.rows-rows.ensures.rows c.if-pools-rows.false in
    record {
      bytes = bytes-altered m c.apply.new.definitions c.self.invariant sized h;
      journal = c.self.invariant.journal;
      counted = c.self.invariant.counted;
    }

pub returns-then-pools-rows-clause-definitions : goal.returns-then-pools-rows-clause-definitions
returns-then-pools-rows-clause-definitions c =
    subst (λ (s : State). accepted s.definitions c.args.statement.now ≡ Ok c.apply.new.definitions) c.self.view_is c.apply.ensures.changed

pub returns-else-pools-rows-clause-definitions : goal.returns-else-pools-rows-clause-definitions
returns-else-pools-rows-clause-definitions c =
    subst (λ (s : State). accepted s.definitions c.args.statement.now ≡ Ok c.apply.new.definitions) c.self.view_is c.apply.ensures.changed

pub returns-then-pools-rows-clause-state : goal.returns-then-pools-rows-clause-state
returns-then-pools-rows-clause-state c =
    let m = c.self.inside in
    let sound = sound_inside m c.args.self.now c.self.view_is c.requires.sound in
    let row = get_or c.rows-rows.result.now c.len-pools.result c.index-rows-pools.result in
    let h = added m.definitions c.apply.new.definitions c.args.statement.now c.index-rows-pools.result c.len-pools.result c.rows-rows.result.now sound c.requires.drops_none c.apply.ensures.changed c.len-pools.ensures.value c.rows-rows.ensures.rows c.if-pools-rows.true in
    ap (λ (l : List Runner). seen_state (record m { definitions = c.apply.new.definitions; runs = record { accounts = c.add_pool.new.self.accounts; running = l }; counters = c.add.new.self })) c.add_pool.ensures.running
    ∙ state-added m c.args.self.now c.apply.new.definitions row c.add_pool.new.self.accounts c.add.new.self c.self.view_is h c.add_pool.ensures.accounts
    (c.add.ensures ∙ ap (λ (e : EndCounts). m.counters ++ e ∷ []) c.none_ended.ensures)

pub returns-else-pools-rows-clause-state : goal.returns-else-pools-rows-clause-state
returns-else-pools-rows-clause-state c =
    let m = c.self.inside in
    let sound = sound_inside m c.args.self.now c.self.view_is c.requires.sound in
    let h = altered m.definitions c.apply.new.definitions c.args.statement.now c.len-pools.result c.rows-rows.result.now sound c.requires.drops_none c.apply.ensures.changed c.len-pools.ensures.value c.rows-rows.ensures.rows c.if-pools-rows.false in
    state-altered m c.args.self.now c.apply.new.definitions c.self.view_is h

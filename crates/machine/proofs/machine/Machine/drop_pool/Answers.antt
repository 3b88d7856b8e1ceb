use Rattle.std.proofs.Common.{◌∙◌, ap, List}
use Rattle.rm_base.specs.declared.rows.PoolRow.{PoolRow}
use Rattle.rm_rules.specs.DropPool.{transferred, without_place}
use Rattle.machine.proofs.Inside.{sound_inside, sized_inside, name_inside}
use Rattle.machine.proofs.DropLemmas.{HasDropped, drop-there, drop-is, state-dropped, tied-dropped}
use Rattle.machine.proofs.machine.Machine.drop_pool.Goals as goal

pub apply-requires-clause-sound : goal.apply-requires-clause-sound
apply-requires-clause-sound c = sound_inside c.self.inside c.args.self.now c.self.view_is c.requires.sound

pub fold_into_general-requires-clause-known : goal.fold_into_general-requires-clause-known
fold_into_general-requires-clause-known c =
    name_inside c.self.inside c.args.self.now c.args.pool c.self.view_is c.self.invariant c.requires.sound c.requires.sized
    ∙ (drop-there c.args.self.now.definitions c.args.pool c.requires.accepted).0

pub fold_into_general-requires-clause-not_general : goal.fold_into_general-requires-clause-not_general
fold_into_general-requires-clause-not_general c = (drop-there c.args.self.now.definitions c.args.pool c.requires.accepted).1

pub invariant_of-self : goal.invariant_of-self
invariant_of-self c =
    let m = c.self.inside in
    let new = c.apply.new.definitions in
    let h : HasDropped m c.args.pool new c.fold_into_general.new.self.accounts c.put_beside.new.self c.fold_into_general.new.self.running c.transfer.new.self c.remove_count.new.counters = record {
      accounts = c.fold_into_general.ensures.accounts;
      sessions_are = c.put_beside.ensures;
      running_are = c.fold_into_general.ensures.running;
      waiting_are = c.transfer.ensures.items ∙ ap (transferred m.waiting c.args.pool) c.goes_before-front.ensures;
      counters_are = c.remove_count.ensures ∙ ap (λ (rows : List PoolRow). without_place rows c.args.pool m.counters) c.rows.ensures.rows;
    } in
    let sound = sound_inside m c.args.self.now c.self.view_is c.requires.sound in
    let sized = sized_inside m c.args.self.now c.self.view_is c.requires.sized in
    let drops = drop-is m.definitions c.args.pool new c.apply.ensures.changed in
    record {
      bytes = tied-dropped m c.args.pool new c.fold_into_general.new.self.accounts c.put_beside.new.self c.fold_into_general.new.self.running c.transfer.new.self c.remove_count.new.counters
          h drops c.self.invariant sound sized;
      journal = c.self.invariant.journal;
      counted = c.self.invariant.counted;
    }

pub returns-clause-state : goal.returns-clause-state
returns-clause-state c =
    let m = c.self.inside in
    let new = c.apply.new.definitions in
    let h : HasDropped m c.args.pool new c.fold_into_general.new.self.accounts c.put_beside.new.self c.fold_into_general.new.self.running c.transfer.new.self c.remove_count.new.counters = record {
      accounts = c.fold_into_general.ensures.accounts;
      sessions_are = c.put_beside.ensures;
      running_are = c.fold_into_general.ensures.running;
      waiting_are = c.transfer.ensures.items ∙ ap (transferred m.waiting c.args.pool) c.goes_before-front.ensures;
      counters_are = c.remove_count.ensures ∙ ap (λ (rows : List PoolRow). without_place rows c.args.pool m.counters) c.rows.ensures.rows;
    } in
    let sound = sound_inside m c.args.self.now c.self.view_is c.requires.sound in
    let sized = sized_inside m c.args.self.now c.self.view_is c.requires.sized in
    state-dropped m c.args.self.now c.args.pool new c.fold_into_general.new.self.accounts c.put_beside.new.self c.fold_into_general.new.self.running c.transfer.new.self c.remove_count.new.counters
    c.self.view_is h c.self.invariant sound sized

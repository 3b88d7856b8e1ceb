use Rattle.std.proofs.Common.{◌≡◌, ◌<◌, ◌^◌, true, get_or, rules}
use Rattle.std.proofs.lemmas.Result.{err_from_is_err_and}
use Rattle.rm_outside.specs.Slots.{is_file, slot_at}
use Rattle.rm_outside.proofs.SlotLemmas.{nothing_taken}
use Rattle.rm_outside.proofs.memory_spool.MemorySpoolSpool.append.Goals as goal

pub returns-in_err-append-clause-err : goal.returns-in_err-append-clause-err
returns-in_err-append-clause-err c =
    let written : c.self.inside.written < 2 ^ 64 = search rules in
    let p = err_from_is_err_and c.from_residual.result c.from_residual.ensures.1 in
    let live : is_file (slot_at c.self.inside.slots.items c.args.id.0) ≡ true = search rules in
    let slot : c.append.new.self ≡ get_or c.self.inside.slots.items c.args.id.0 c.append.new.self = cc (c.in_err-append.ensures.err) in
    rw (p.1, ← c.self.view_is) (nothing_taken c.self.inside.slots.items c.args.id.0 c.append.new.self c.args.piece.now c.self.inside.written live written slot)

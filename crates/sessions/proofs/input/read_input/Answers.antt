use Rattle.std.proofs.Common.{ℕ, ◌++◌, take, arith}
use Rattle.std.proofs.KnownBytes.{Consumes-trans}
use Rattle.std.proofs.lemmas.List.{length-take, length-append}
use Rattle.sessions.proofs.input.read_input.Goals as goal

pub returns-in_err-extend_from_slice-clause-reads : goal.returns-in_err-extend_from_slice-clause-reads
returns-in_err-extend_from_slice-clause-reads g c =
    let bytes = c.loop-piece.bytes.items in
    let piece = take c.in-Ok.count c.read.new.into in
    record {
      bytes = bytes ++ piece;
      read = Consumes-trans _ _ _ bytes piece c.loop-piece.invariant.read c.in-Ok.ensures.bytes.0;
      within = omega (arith, length-append bytes piece, length-take {A = ℕ}, c.in-Ok.ensures.bound);
    }

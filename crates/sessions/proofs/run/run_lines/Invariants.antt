use Rattle.std.proofs.Common.{◌≡◌, ◌≤◌, ◌+◌, length}
use Rattle.std.specs.Prelude.{IsSome}
use Rattle.sessions.specs.World.{WhereTold, TellsRows}
use Rattle.sessions.proofs.RunLemmas.{HasRun}
use Rattle.sessions.proofs.run.run_lines.Given as goal

abbrev pub invariant-loop-line : goal.invariant-loop-line
invariant-loop-line g l = record {
  later : g.O.Sink.faults l.initial.out ≤ g.O.Sink.faults l.out;
  shelf_later : g.H.Shelf.faults l.initial.shelf ≤ g.H.Shelf.faults l.shelf;
  keeper_later : g.K.Keeper.faults l.initial.keeper ≤ g.K.Keeper.faults l.keeper;
  told : IsSome (g.K.Keeper.stored l.keeper) → IsSome (g.K.Keeper.stored l.initial.keeper);
  agrees : TellsRows (g.K.Keeper.stored l.keeper) l.script.machine.definitions;
  files : g.H.Shelf.files l.shelf ≡ g.H.Shelf.files l.initial.shelf;
  spool : l.spool ≡ l.initial.spool;
  counted : l.number + length l.rest ≤ length l.bytes + 1;
  run : WhereTold (g.H.Shelf.files l.initial.shelf) (λ files. HasRun files l.bytes l.rest l.initial.script l.script l.number (g.O.Sink.written l.initial.out) (g.O.Sink.written l.out));
}

abbrev pub decreases-loop-line : goal.decreases-loop-line
decreases-loop-line g l = length l.rest

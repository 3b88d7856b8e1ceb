use Rattle.std.proofs.Common.{◌≡◌, drop}
use Rattle.rm_outside.specs.Shelf.{file_at}
use Rattle.rm_outside.proofs.memory_shelf.first_with.Given as goal

abbrev pub invariant-loop-file : goal.invariant-loop-file
invariant-loop-file l = file_at l.files l.path ≡ file_at (drop l.file-index l.files) l.path

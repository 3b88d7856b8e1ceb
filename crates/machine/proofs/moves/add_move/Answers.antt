use Rattle.std.proofs.Common.{◌∷◌, ◌++◌, [], List, length, ap, ◌∙◌}
use Rattle.rm_base.specs.declared.entry.MoveSeen.{MoveSeen}
use Rattle.rm_base.specs.declared.limits.TheConstants.{MOVES_KEPT}
use Rattle.machine.proofs.Marking.{has-room, moves-full, moves-room}
use Rattle.machine.proofs.moves.add_move.Goals.{then-is_full, else-is_full}
use Rattle.machine.proofs.moves.add_move.Goals as goal

pub returns : goal.returns
returns c =
    let moves = c.args.moves.now in
    let seen = c.args.seen in
    elim c.if-is_full.branch [
      | then-is_full w ↦
          moves-full moves w.remove.new.self c.add.new.self seen (c.is_full.ensures.full.0 w.if-is_full.true) w.remove.ensures.rest
          (c.add.ensures ∙ ap (λ (l : List MoveSeen). l ++ seen ∷ []) w.moves-is)
      | else-is_full w ↦
          moves-room moves c.add.new.self seen (has-room (length moves) MOVES_KEPT c.is_full.result c.is_full.ensures.room c.is_full.ensures.full.1 w.if-is_full.false)
          (c.add.ensures ∙ ap (λ (l : List MoveSeen). l ++ seen ∷ []) w.moves-is)
    ]

-- A target names a pool only to a query that may be moved once more.
use Rattle.std.proofs.Common.{◌≡◌, ◌<◌, ℕ, Bool, true, false, cond, ltb, Option, Some, None, refl, arith}
use Rattle.std.proofs.lemmas.Bool.Decides.{nat_tests}
use Rattle.std.specs.List.{find}
use Rattle.rm_base.specs.declared.definitions.Definitions.{Definitions}
use Rattle.rm_base.specs.declared.limits.TheConstants.{MOVES_MOST}
use Rattle.rm_base.specs.declared.name.Name.{Name}
use Rattle.rm_rules.specs.Target.{target, leaves_time, pools_behind}

turn : (b : Bool) (moves : ℕ) (o : Option Name) (to : Name) → ltb moves MOVES_MOST ≡ b → cond b o None ≡ Some to → moves < MOVES_MOST
turn true moves o to fewer some = grind (arith, nat_tests)
turn false moves o to fewer some = let none : None ≡ Some to = some in absurd (cc)

pub target-moves : (d : Definitions) (pool : Name) (running moves : ℕ) (to : Name) → target d pool running moves ≡ Some to → moves < MOVES_MOST
target-moves d pool running moves to some =
    turn (ltb moves MOVES_MOST) moves (find (leaves_time d running) (pools_behind d.pools pool)) to refl some

-- A spool in memory after an append that took nothing.
use Rattle.std.proofs.Common.{◌≡◌, ◌∙◌, ◌<◌, ◌^◌, ℕ, List, Option, get_or, set, true, refl, sym, ap, subst, arith}
use Rattle.std.proofs.lemmas.List.{set-get_or}
use Rattle.std.proofs.lemmas.Grind.{common_steps}
use Rattle.rm_outside.specs.Slots.{files_of, is_file, slot_at}
use Rattle.rm_outside.specs.Spool.{ExtendsByFront}

-- nothing of a piece is its front
nothing_of : (slots : List (Option (List ℕ))) (number : ℕ) (piece : List ℕ) (written : ℕ)
    → is_file (slot_at slots number) ≡ true → written < 2 ^ 64
    → ExtendsByFront (files_of slots) (files_of slots) number piece written written
nothing_of slots number piece written live small = (
  0,
  record {
    is_live = live;
    size = grind (arith, common_steps);
    bytes = grind (arith, common_steps);
    others = λ other apart. record { is_live = refl; size = refl; bytes = refl };
  },
  omega arith,
)

-- the slot as it was, written back, is no change
pub nothing_taken : (slots : List (Option (List ℕ))) (number : ℕ) (slot : Option (List ℕ)) (piece : List ℕ) (written : ℕ)
    → is_file (slot_at slots number) ≡ true → written < 2 ^ 64 → slot ≡ get_or slots number slot
    → ExtendsByFront (files_of slots) (files_of (set slots number slot)) number piece written written
nothing_taken slots number slot piece written live small is =
    let same : set slots number slot ≡ slots = ap (set slots number) is ∙ set-get_or slots number slot in
    let Q : List (Option (List ℕ)) → Type 0 = λ new. ExtendsByFront (files_of slots) (files_of new) number piece written written in
    subst Q (sym same) (nothing_of slots number piece written live small)

-- What it says that nothing refuses.
use Rattle.std.specs.Prelude.{◌≡◌, ℕ, ◌≤◌, ◌<◌, Bool, true, false, not, nat_lt, nat_le, List, ◌∷◌, Option, Some, None, Ok, is_ok, refl}
use Rattle.std.proofs.Common.{arith}
use Rattle.std.proofs.lemmas.Bool.{false≢true}
use Rattle.std.proofs.lemmas.Bool.Decides.{nat_tests}
use Rattle.rm_base.specs.declared.limits.TheConstants.{CHANGES_MOST}
use Rattle.rm_base.specs.declared.definitions.Definitions.{Definitions}
use Rattle.rm_base.specs.declared.refusal.Refusal.{Refusal}
use Rattle.rm_base.specs.declared.refusal.TableKind.{TableKind}
use Rattle.rm_rules.specs.Refusals.{refused_if, first_refusal, unless_refused, table_full}
use Rattle.rm_rules.specs.Sound.{IsSound}
use Rattle.rm_rules.proofs.Taken.{not_true}

-- what is not refused
pub not-refused : (b : Bool) (r : Refusal) → refused_if b r ≡ None → b ≡ false
not-refused true r h = absurd (cc)
not-refused false r h = refl

pub first-none : (o : Option Refusal) (more : List (Option Refusal)) → first_refusal (o ∷ more) ≡ None → (o ≡ None) × (first_refusal more ≡ None)
first-none None more h = (refl, h)
first-none (Some r) more h = absurd (cc)

pub not_below : (a b : ℕ) → nat_lt a b ≡ false → b ≤ a
not_below a b h = grind (arith, nat_tests)

pub not_above : (a b : ℕ) → nat_le a b ≡ false → b < a
not_above a b h = grind (arith, nat_tests)

-- what is not refused for want of it is there, and a table that is not refused as full has room
pub not-missing : (b : Bool) (r : Refusal) → refused_if (not b) r ≡ None → b ≡ true
not-missing b r h = not_true b (not-refused (not b) r h)

pub not-full : (kind : TableKind) (most count : ℕ) → table_full kind most count ≡ None → count < most
not-full kind most count h = not_above most count (not-refused (nat_le most count) _ h)

-- what is done where nothing refuses it
pub unless-ok : {A : Type 0} (o : Option Refusal) (next new : A) → unless_refused o next ≡ Ok new → (o ≡ None) × (next ≡ new)
unless-ok None next new h = (refl, cc)
unless-ok (Some r) next new h = absurd (cc)

pub ok-free : {A : Type 0} (o : Option Refusal) (next : A) → is_ok (unless_refused o next) ≡ true → o ≡ None
ok-free None next h = refl
ok-free (Some r) next h = absurd (false≢true h)

pub ok-done : {A : Type 0} (o : Option Refusal) (next : A) → is_ok (unless_refused o next) ≡ true → unless_refused o next ≡ Ok next
ok-done None next h = refl
ok-done (Some r) next h = absurd (false≢true h)

-- what a statement leaves that nothing refuses: sound definitions, and room for the change
pub record IsLeft (d new : Definitions) : Type 0 where
  pub sound : IsSound new
  pub changes : d.changes < CHANGES_MOST

-- Soundness and its test.
use Rattle.std.specs.Prelude.{◌≡◌, ◌&&◌, Bool, true, false, ◌↔◌, IsTrue}
use Rattle.std.proofs.Common.{refl, sym, ◌∙◌}
use Rattle.rm_base.specs.declared.definitions.Definitions.{Definitions}
use Rattle.rm_rules.specs.Sound.{IsSound}
use Rattle.rm_rules.proofs.Taken.{and_left, and_right, and_both}
use Rattle.pool_table.proofs.SoundParts.{parts-sound, sound-parts}
use Rattle.pool_table.specs.Soundness.{are_numbers_in_range, are_counts_in_range, are_values_in_range, are_names_right, is_total_right}
use Rattle.keeper_rows.specs.Opening.{is_sound}

pub sound-tested : (d : Definitions) → IsSound d → is_sound d ≡ true
sound-tested d s =
    let p = parts-sound d s in
    and_both _ _ p.numbers (and_both _ _ p.counts (and_both _ _ p.values (and_both _ _ p.names (and_both _ _ p.totals p.links))))

pub tested-sound : (d : Definitions) → is_sound d ≡ true → IsSound d
tested-sound d h =
    let h1 = and_right (are_numbers_in_range d) _ h in
    let h2 = and_right (are_counts_in_range d) _ h1 in
    let h3 = and_right (are_values_in_range d) _ h2 in
    let h4 = and_right (are_names_right d) _ h3 in
    sound-parts d (record {
      numbers = and_left (are_numbers_in_range d) _ h;
      counts = and_left (are_counts_in_range d) _ h1;
      values = and_left (are_values_in_range d) _ h2;
      names = and_left (are_names_right d) _ h3;
      totals = and_left (is_total_right d) _ h4;
      links = and_right (is_total_right d) _ h4;
    })

-- a test that holds exactly where the definitions are sound is theirs
pub is-test : (d : Definitions) (b : Bool) → (IsTrue b ↔ IsSound d) → b ≡ is_sound d
is-test d true h = sym (sound-tested d (h.0 refl))
is-test d false h = aux (is_sound d) refl where
  aux : (t : Bool) → is_sound d ≡ t → false ≡ is_sound d
  aux true e = h.1 (tested-sound d e) ∙ sym e
  aux false e = sym e

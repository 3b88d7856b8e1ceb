use Rattle.std.proofs.Common.{sym, ◌∙◌}
use Rattle.pool_table.proofs.SoundParts.{parts-sound, sound-parts}
use Rattle.pool_table.proofs.soundness.sound.Goals as goal

pub returns-then-is_total_right : goal.returns-then-is_total_right
returns-then-is_total_right c =
    let d = c.args.definitions.now in (
      λ links. sound-parts d (record {
        numbers = sym c.are_numbers_in_range.ensures ∙ c.if-are_numbers_in_range.true;
        counts = sym c.are_counts_in_range.ensures ∙ c.if-are_counts_in_range.true;
        values = sym c.are_values_in_range.ensures ∙ c.if-are_values_in_range.true;
        names = sym c.are_names_right.ensures ∙ c.if-are_names_right.true;
        totals = sym c.is_total_right.ensures ∙ c.if-is_total_right.true;
        links = sym c.are_links_right.ensures ∙ links;
      }),
      λ sound. c.are_links_right.ensures ∙ (parts-sound d sound).links,
    )

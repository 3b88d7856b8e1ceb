use Rattle.std.proofs.Common.{◌≡◌, ◌∙◌, ◌∷◌, [], ℕ, List, Bool, true, false, sym, refl, ap, inl, Bor, subst}
use Rattle.std.proofs.lemmas.Bool.{false≢true}
use Rattle.csv.specs.Machine.{ends_at_end}
use Rattle.csv.specs.Reading.{Reached, ReadRecord, default_config}
use Rattle.csv.specs.declared.reader.Reader.{Reader}
use Rattle.csv.specs.Records.{fields_of}
use Rattle.csv.proofs.ReadFacts.{rows-more, rows-end}
use Rattle.csv_tables.specs.Left.{known, left_of, left_in, left_from, IsReading, TakesNext}
use Rattle.csv_tables.proofs.RecordsLemmas.{left_more, left_none}
use Rattle.csv_tables.proofs.load.next_record.Goals as goal

abbrev Rd : Type 0
Rd = Reader (Bor (List ℕ))

took : (a b : Rd) (found : Bool) (f : List (List ℕ)) → IsReading a → ReadRecord known a b found f
    → TakesNext (left_of a) (left_of b) found f × (found ≡ true → b.first ≡ true → IsReading b)
unfolding Reached
took a b false f is r =
    (ap (left_in a.state) is.told ∙ left_none a.state is.text (rows-end known a b f default_config is.text is.config is.told r), λ e h. absurd (false≢true e))
took a b true f is r =
    let m = rows-more known a b f default_config a.state is.text is.text [] is.config is.told (refl, refl) r in
    let p = m.2.0 in
    let step = left_more a.state is.text p is.between m.2.1 in
    let state : p.1 ≡ b.state = m.2.3.0 in
    let text : p.2 ≡ m.0 = m.2.3.1 in (
      ap (left_in a.state) is.told ∙ step.0 ∙ ap (λ x. x ∷ left_from p.1 p.2) (sym m.2.2)
          ∙ ap (λ s. f ∷ left_from s p.2) state ∙ ap (λ t. f ∷ left_from b.state t) text
          ∙ sym (ap (λ o. f ∷ left_in b.state o) m.1),
      λ e first. record {
        trim = r.3 ∙ is.trim;
        ready = inl first;
        config = r.2 ∙ is.config;
        between = subst (λ s. ends_at_end s ≡ false) state step.1;
        text = m.0;
        told = m.1;
      },
    )

pub returns-clause-took : goal.returns-clause-took
returns-clause-took c =
    (took c.args.reader.now c.read_byte_record.new.self c.in-Ok.found (fields_of c.read_byte_record.new.row) c.requires
    (c.in-Ok.ensures.reads c.requires.trim c.requires.ready)).0

pub returns-clause-reading : goal.returns-clause-reading
returns-clause-reading c = λ e.
    (took c.args.reader.now c.read_byte_record.new.self c.in-Ok.found (fields_of c.read_byte_record.new.row) c.requires
    (c.in-Ok.ensures.reads c.requires.trim c.requires.ready)).1 e (c.in-Ok.ensures.ready c.requires.trim)

-- laws of whole texts
use Rattle.std.proofs.Common.{◌≡◌, ◌↔◌, ℕ, Result, Ok, Err, IfOk, IfErr, List, refl, sym, ◌∙◌, ap}
use Rattle.rm_base.specs.declared.catalog.CatalogTable.{CatalogTable}
use Rattle.rm_base.specs.declared.refusal.Refusal.{Refusal}
use Rattle.rm_base.specs.declared.select.Select.{Select}
use Rattle.rm_words.specs.Reading.{IsRefused as IsRefusedBy, SpellsText as Says}
use Rattle.rm_words.proofs.Readings.{IsReaderOf, read_of-spells as reads-spells, read_of-refused as reads-refused}
use Rattle.rm_words.proofs.Results.{ok_is, err_is, err_ok}
use Rattle.query_plan.specs.declared.raw.RawSelect.{RawSelect}
use Rattle.query_plan.specs.declared.reading.ReadError.{ReadError}
use Rattle.query_plan.specs.declared.reading.ReadError.TheVariants.{Refused, Memory}
use Rattle.query_plan.specs.Machine.{reader}
use Rattle.query_plan.specs.Resolving.{IsAnswer, IsRaw, and_then, resolved}
use Rattle.query_plan.specs.Text.{IsRefused, unread, unresolved, SpellsText, selects}
use Rattle.query_plan.specs.Reading.{IsReadError, raw_of, read_of}
use Rattle.query_plan.proofs.Complete.{front-read, spells-gives}
use Rattle.query_plan.proofs.Fronts.{read-front}
use Rattle.query_plan.proofs.Kept.{spells-raw}
use Rattle.query_plan.proofs.Means.{finish-spells, sound}

one_reason : (a b : Unit {0}) → a ≡ b
one_reason a b = refl

pub reads_selects : (catalog : List CatalogTable) → IsReaderOf (selects catalog) (reader catalog)
reads_selects catalog = record {
  read_front = λ ws p h. read-front catalog ws p h;
  front_read = λ ws front. front-read catalog ws front;
  finish_spells = λ ws p said h is. finish-spells catalog p ws said (sound catalog ws p h) is;
  spells_finish = λ ws said spells. let gives = spells-gives catalog ws said spells in (gives.last, gives.reads, gives.gives);
  stop_why = λ ws w p why h is. tt;
  one_why = λ ws w a b x y. one_reason a b;
}

pub raw_of-spells : (catalog : List CatalogTable) (text : List ℕ) (raw : RawSelect)
    → raw_of catalog text ≡ Ok raw ↔ Says (selects catalog) text raw
raw_of-spells catalog text raw = reads-spells (selects catalog) (reader catalog) (reads_selects catalog) text raw

pub raw_of-refused : (catalog : List CatalogTable) (text : List ℕ) (why : Refusal)
    → raw_of catalog text ≡ Err why ↔ IsRefusedBy (selects catalog) text why
raw_of-refused catalog text why = reads-refused (selects catalog) (reader catalog) (reads_selects catalog) text why

-- what holds of each SELECT that a text is
pub raw_of-raw : (catalog : List CatalogTable) (text : List ℕ) (raw : RawSelect) → raw_of catalog text ≡ Ok raw → IsRaw catalog raw
raw_of-raw catalog text raw h =
    let says = (raw_of-spells catalog text raw).0 h in spells-raw catalog _ raw says.2

-- what is read is the plan that the text spells
plan-turn : (catalog : List CatalogTable) (text : List ℕ) (plan : Select) (r : Result RawSelect Refusal) → raw_of catalog text ≡ r
    → and_then r (λ raw. resolved catalog raw) ≡ Ok plan → SpellsText catalog text plan
plan-turn catalog text plan (Ok raw) is h = (raw, (raw_of-spells catalog text raw).0 is, h)
plan-turn catalog text plan (Err why) is h = absurd (err_ok why plan h)

pub read_of-spells : (catalog : List CatalogTable) (text : List ℕ) (plan : Select)
    → read_of catalog text ≡ Ok plan ↔ SpellsText catalog text plan
read_of-spells catalog text plan = (
  λ h. plan-turn catalog text plan (raw_of catalog text) refl h,
  λ is. ap (λ r. and_then r (λ raw. resolved catalog raw)) ((raw_of-spells catalog text is.0).1 is.1) ∙ is.2,
)

refusal-turn : (catalog : List CatalogTable) (text : List ℕ) (why : Refusal) (r : Result RawSelect Refusal) → raw_of catalog text ≡ r
    → and_then r (λ raw. resolved catalog raw) ≡ Err why → IsRefused catalog text why
refusal-turn catalog text why (Ok raw) is h = unresolved text raw why ((raw_of-spells catalog text raw).0 is) h
refusal-turn catalog text why (Err other) is h =
    unread text why ((raw_of-refused catalog text why).0 (is ∙ ap (λ x. Err x) (err_is other why h)))

refused-reads : (catalog : List CatalogTable) (text : List ℕ) (why : Refusal) → IsRefused catalog text why → read_of catalog text ≡ Err why
refused-reads catalog _ _ (unread text why is) =
    ap (λ r. and_then r (λ raw. resolved catalog raw)) ((raw_of-refused catalog text why).1 is)
refused-reads catalog _ _ (unresolved text raw why says is) =
    ap (λ r. and_then r (λ x. resolved catalog x)) ((raw_of-spells catalog text raw).1 says) ∙ is

pub read_of-refused : (catalog : List CatalogTable) (text : List ℕ) (why : Refusal)
    → read_of catalog text ≡ Err why ↔ IsRefused catalog text why
read_of-refused catalog text why =
    (λ h. refusal-turn catalog text why (raw_of catalog text) refl h, λ is. refused-reads catalog text why is)

pub text-one_plan : (catalog : List CatalogTable) (text : List ℕ) (a b : Select) → SpellsText catalog text a → SpellsText catalog text b → a ≡ b
text-one_plan catalog text a b x y = ok_is a b (sym ((read_of-spells catalog text a).1 x) ∙ (read_of-spells catalog text b).1 y)

pub text-one_refusal : (catalog : List CatalogTable) (text : List ℕ) (a b : Refusal) → IsRefused catalog text a → IsRefused catalog text b → a ≡ b
text-one_refusal catalog text a b x y = err_is a b (sym ((read_of-refused catalog text a).1 x) ∙ (read_of-refused catalog text b).1 y)

pub text-refused_spells_none : (catalog : List CatalogTable) (text : List ℕ) (why : Refusal) (plan : Select) → IsRefused catalog text why
    → SpellsText catalog text plan → ⊥
text-refused_spells_none catalog text why plan x y =
    err_ok why plan (sym ((read_of-refused catalog text why).1 x) ∙ (read_of-spells catalog text plan).1 y)

-- what the program answers
pub answer-plan : (catalog : List CatalogTable) (text : List ℕ) (raw : RawSelect) (answer : Result Select ReadError) → raw_of catalog text ≡ Ok raw
    → IsAnswer (resolved catalog raw) answer → IfOk answer (SpellsText catalog text)
answer-plan catalog text raw (Ok plan) is h = (raw, (raw_of-spells catalog text raw).0 is, h)
answer-plan catalog text raw (Err error) is h = tt

pub answer-refused : (catalog : List CatalogTable) (text : List ℕ) (raw : RawSelect) (answer : Result Select ReadError) → raw_of catalog text ≡ Ok raw
    → IsAnswer (resolved catalog raw) answer → IfErr answer (IsReadError catalog text)
answer-refused catalog text raw (Ok plan) is h = tt
answer-refused catalog text raw (Err (Refused why)) is h = unresolved text raw why ((raw_of-spells catalog text raw).0 is) h
answer-refused catalog text raw (Err Memory) is h = tt

pub error-refused : (catalog : List CatalogTable) (text : List ℕ) (error : ReadError)
    → (let answer : Result RawSelect ReadError = Err error in IsAnswer (raw_of catalog text) answer) → IsReadError catalog text error
error-refused catalog text (Refused why) h = unread text why ((raw_of-refused catalog text why).0 h)
error-refused catalog text Memory h = tt

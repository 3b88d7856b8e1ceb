-- which texts are which plan over a catalog, and how a text that is none is refused
use Rattle.std.specs.Prelude.{◌≡◌, ℕ, Ok, Err, List}
use Rattle.rm_base.specs.declared.catalog.CatalogTable.{CatalogTable}
use Rattle.rm_base.specs.declared.refusal.Refusal.{Refusal}
use Rattle.rm_base.specs.declared.refusal.Refusal.TheVariants.{Syntax}
use Rattle.rm_base.specs.declared.select.Select.{Select}
use Rattle.rm_words.specs.Reading.{Grammar, IsRefused as IsRefusedBy, SpellsText as Says}
use Rattle.query_plan.specs.declared.raw.RawSelect.{RawSelect}
use Rattle.query_plan.specs.Grammar.{IsFront, Spells}
use Rattle.query_plan.specs.Resolving.{resolved}
use Rattle.query_plan.specs.Word.{Word, word_in}

-- the grammar of SELECTs over a catalog: each refusal of reading is Syntax
abbrev pub selects : List CatalogTable → Grammar Word RawSelect (Unit {0}) Refusal
selects catalog = record {
  word_in = λ text span. word_in text span;
  Spells = λ ws raw. Spells catalog ws raw;
  IsFront = λ ws. IsFront catalog ws;
  IsWhy = λ front w why. Unit {0};
  refusal_at = λ place why. Syntax place;
  syntax = λ place. Syntax place;
}

-- the words of the text are a SELECT whose plan this is
abbrev pub SpellsText : List CatalogTable → List ℕ → Select → Type 0
SpellsText catalog text plan = (raw : RawSelect) × Says (selects catalog) text raw × (resolved catalog raw ≡ Ok plan)

-- some text is the plan
abbrev pub IsSpelled : List CatalogTable → Select → Type 0
IsSpelled catalog plan = (text : List ℕ) × SpellsText catalog text plan

-- why a text is no plan: its words are no SELECT, or the names of the SELECT that they are don't stand for a plan
pub data IsRefused (catalog : List CatalogTable) : List ℕ → Refusal → Type 0 where
  unread : (text : List ℕ) (why : Refusal) → IsRefusedBy (selects catalog) text why → IsRefused catalog text why
  unresolved : (text : List ℕ) (raw : RawSelect) (why : Refusal)
      → Says (selects catalog) text raw → resolved catalog raw ≡ Err why → IsRefused catalog text why

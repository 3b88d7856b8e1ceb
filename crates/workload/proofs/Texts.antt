-- What the four texts are read as, and that they can be run.
use Rattle.std.proofs.Common.{◌≡◌, ℕ, Bool, true, false, cond, List, Ok, codes, refl, ap, ◌∙◌}
use Rattle.std.specs.Prelude.{◌==◌, ◌%◌}
use Rattle.rm_base.specs.declared.catalog.CatalogTable.{CatalogTable}
use Rattle.rm_words.specs.Names as names
use Rattle.query_plan.specs.Reading.{read_of}
use Rattle.workload.specs.Queries.{catalog, counting, grouping, joining, select_at, summing, text_at}

counting_read : read_of catalog (codes "SELECT COUNT(*) FROM a") ≡ Ok counting
unfolding names.name_called
counting_read = refl

joining_read : read_of catalog (codes "SELECT COUNT(*) FROM a JOIN b ON a.k = b.k") ≡ Ok joining
unfolding names.name_called
joining_read = refl

grouping_read : read_of catalog (codes "SELECT k, COUNT(*) FROM a GROUP BY k") ≡ Ok grouping
unfolding names.name_called
grouping_read = refl

summing_read : read_of catalog (codes "SELECT SUM(v) FROM a") ≡ Ok summing
unfolding names.name_called
summing_read = refl

pub texts-read : (i : ℕ) → read_of catalog (text_at i) ≡ Ok (select_at i)
texts-read i = turn (i % 4 == 0) (i % 4 == 1) (i % 4 == 2)
  where
    turn : (a b c : Bool)
        → read_of catalog (cond a (codes "SELECT COUNT(*) FROM a") (cond b (codes "SELECT COUNT(*) FROM a JOIN b ON a.k = b.k")
        (cond c (codes "SELECT k, COUNT(*) FROM a GROUP BY k") (codes "SELECT SUM(v) FROM a"))))
        ≡ Ok (cond a counting (cond b joining (cond c grouping summing)))
    turn true b c = counting_read
    turn false true c = joining_read
    turn false false true = grouping_read
    turn false false false = summing_read

-- the same, of a text and a catalog that are those
pub text-read : (tables : List CatalogTable) (i : ℕ) (text : List ℕ) → tables ≡ catalog → text ≡ text_at i → read_of tables text ≡ Ok (select_at i)
text-read tables i text known is = ap (λ c. read_of c text) known ∙ ap (read_of catalog) is ∙ texts-read i

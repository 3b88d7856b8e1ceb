-- the columns of the tables, table by table
use Rattle.std.proofs.Common.{◌≡◌, ℕ, ◌+◌, ◌-◌, ◌*◌, ◌<◌, ◌≤◌, ◌^◌, nat_eq, nat_le, nat_lt, Bool, true, false, ◌&&◌, if◌then◌else◌, Option, Some, None, find, Result, Ok, Err, List, [], ◌∷◌, ◌++◌, length, drop, get_or, refl, sym, ◌∙◌, ap, subst, arith, append_assoc, add-one, drop-cons}
use Rattle.std.specs.List.{list_all}
use Rattle.std.proofs.lemmas.Bool.Decides.{nat_tests}
use Rattle.std.proofs.lemmas.List.{length-append, length-map}
use Rattle.rm_base.specs.declared.limits.TheConstants.{COLUMNS_MOST, ROW_VALUES_MOST, SELECT_TABLES_MOST}
use Rattle.rm_base.specs.declared.name.Name.{Name}
use Rattle.rm_base.specs.Catalog.{is_narrow}
use Rattle.rm_base.specs.Name.{same_name}
use Rattle.rm_words.proofs.Results.{some_is, none_some, ok_is, err_ok}
use Rattle.rm_base.specs.declared.catalog.CatalogTable.{CatalogTable}
use Rattle.rm_base.specs.declared.refusal.Refusal.{Refusal}
use Rattle.query_plan.specs.declared.raw.KeyBy.{KeyBy}
use Rattle.query_plan.specs.declared.raw.KeyBy.TheVariants as by
use Rattle.query_plan.specs.declared.raw.RawSelect.{RawSelect}
use Rattle.query_plan.specs.declared.raw.RawTable.{RawTable}
use Rattle.query_plan.specs.declared.scope.Here.{Here}
use Rattle.query_plan.specs.Scope.{behind_table, columns_here, counts_within, reaches, scope_from, table_named, with_table}
use Rattle.query_plan.specs.Resolving.{column_name, counts_among, counts_output, is_key_listed, item_name, output_names}
use Rattle.query_plan.proofs.Eaches.{onto}

onto-table : (out : List Here) (n : ℕ) (t : RawTable) (found : CatalogTable) (more : Result (List Here) Refusal)
    → onto out (with_table n t (Some found) more) ≡ onto (out ++ columns_here n t.call found.columns) more
onto-table out n t found (Ok more) = ap (λ l. Ok l) (sym (append_assoc out (columns_here n t.call found.columns) more))
onto-table out n t found (Err why) = refl

-- one turn at a place of the list
pub scope-goes : (catalog : List CatalogTable) (out : List Here) (tables : List RawTable) (i : ℕ) (t : RawTable) (found : CatalogTable) (next : List Here) (all : Result (List Here) Refusal)
    → i < length tables → t ≡ get_or tables i t → Some found ≡ table_named catalog t.name → next ≡ out ++ columns_here i t.call found.columns
    → onto out (scope_from catalog i (drop i tables)) ≡ all → onto next (scope_from catalog (i + 1) (drop (i + 1) tables)) ≡ all
scope-goes catalog out tables i t found next all within at is more so_far =
    let rest : Result (List Here) Refusal = scope_from catalog (i + 1) (drop (i + 1) tables) in
    let here : drop i tables ≡ get_or tables i t ∷ drop (i + 1) tables = rw (add-one, drop-cons tables i t) refl in
    ap (λ l. onto l rest) more
    ∙ sym (onto-table out i t found rest)
    ∙ ap (λ o. onto out (with_table i t o rest)) is
    ∙ ap (λ z. onto out (scope_from catalog i (z ∷ drop (i + 1) tables))) at
    ∙ ap (λ l. onto out (scope_from catalog i l)) (sym here)
    ∙ so_far

-- what is found passes a test that all pass
find-turn : {T : Type 0} (f q : T → Bool) (x : T) (xs : List T) (found : T) (b c : Bool) → f x ≡ b → q x ≡ c → (b && list_all f xs) ≡ true
    → (if c then Some x else find q xs) ≡ Some found → (list_all f xs ≡ true → find q xs ≡ Some found → f found ≡ true) → f found ≡ true
find-turn f q x xs found false c is test all h rest = absurd cc
find-turn f q x xs found true true is test all h rest = ap f (sym (some_is x found h)) ∙ is
find-turn f q x xs found true false is test all h rest = rest all h

find-all : {T : Type 0} (f q : T → Bool) (xs : List T) (found : T) → list_all f xs ≡ true → find q xs ≡ Some found → f found ≡ true
find-all f q [] found all h = absurd (none_some found h)
find-all f q (x ∷ xs) found all h = find-turn f q x xs found (f x) (q x) refl refl all h (λ a r. find-all f q xs found a r)

narrow-found : (catalog : List CatalogTable) (name : Name) (found : CatalogTable) → list_all is_narrow catalog ≡ true
    → table_named catalog name ≡ Some found → length found.columns ≤ COLUMNS_MOST
narrow-found catalog name found narrow h =
    let is : is_narrow found ≡ true = find-all is_narrow (λ t. same_name t.name name) catalog found narrow h in
    within (length found.columns) COLUMNS_MOST is
  where
    within : (m n : ℕ) → nat_le m n ≡ true → m ≤ n
    within m n h = grind (arith, nat_tests)

-- a table's columns stand first
pub record Split (n : ℕ) (t : RawTable) (o : Option CatalogTable) (r : Result (List Here) Refusal) (scope : List Here) : Type 0 where
  pub found : CatalogTable
  pub more : List Here
  pub is : o ≡ Some found
  pub rest : r ≡ Ok more
  pub whole : scope ≡ columns_here n t.call found.columns ++ more

pub split : (n : ℕ) (t : RawTable) (o : Option CatalogTable) (r : Result (List Here) Refusal) (scope : List Here) → with_table n t o r ≡ Ok scope
    → Split n t o r scope
split n t None r scope h = absurd (err_ok _ scope h)
split n t (Some found) (Err why) scope h = absurd (err_ok why scope h)
split n t (Some found) (Ok more) scope h = record {
  found = found;
  more = more;
  is = refl;
  rest = refl;
  whole = sym (ok_is (columns_here n t.call found.columns ++ more) scope h);
}

pub split-length : (n : ℕ) (t : RawTable) (o : Option CatalogTable) (r : Result (List Here) Refusal) (scope : List Here) (s : Split n t o r scope)
    → length scope ≡ length s.found.columns + length s.more
split-length n t o r scope s =
    ap length s.whole ∙ length-append (columns_here n t.call s.found.columns) s.more
    ∙ ap (λ k. k + length s.more) (length-map s.found.columns _)

-- tables have no more columns together than so many each
pub scope-length : (catalog : List CatalogTable) (n : ℕ) (tables : List RawTable) (scope : List Here) → list_all is_narrow catalog ≡ true
    → scope_from catalog n tables ≡ Ok scope → length scope ≤ COLUMNS_MOST * length tables
scope-length catalog n [] scope narrow h = subst (λ l. length l ≤ 0) (ok_is [] scope h) (omega arith)
scope-length catalog n (t ∷ tables) scope narrow h =
    let s = split n t (table_named catalog t.name) (scope_from catalog (n + 1) tables) scope h in
    let first : length s.found.columns ≤ COLUMNS_MOST = narrow-found catalog t.name s.found narrow s.is in
    let rest : length s.more ≤ COLUMNS_MOST * length tables = scope-length catalog (n + 1) tables s.more narrow s.rest in
    omega (arith, split-length n t (table_named catalog t.name) (scope_from catalog (n + 1) tables) scope s)

-- a number that counts no further than the tables' columns
pub reaches-scope : (catalog : List CatalogTable) (n : ℕ) (tables : List RawTable) (scope : List Here) (k : ℕ)
    → scope_from catalog n tables ≡ Ok scope → reaches catalog tables k ≡ true → k ≤ length scope
reaches-scope catalog n [] scope k h reach = let zero_left : k ≡ 0 = zero_is k reach in omega arith
  where
    zero_is : (k : ℕ) → nat_eq k 0 ≡ true → k ≡ 0
    zero_is k h = grind (arith, nat_tests)
reaches-scope catalog n (t ∷ tables) scope k h reach =
    let s = split n t (table_named catalog t.name) (scope_from catalog (n + 1) tables) scope h in
    let left : reaches catalog tables (k - length s.found.columns) ≡ true =
    sym (ap (λ o. behind_table o k (λ rest. reaches catalog tables rest)) s.is) ∙ reach in
    omega (
      arith,
      split-length n t (table_named catalog t.name) (scope_from catalog (n + 1) tables) scope s,
      reaches-scope catalog (n + 1) tables s.more (k - length s.found.columns) s.rest left,
    )

pub scope-few : (catalog : List CatalogTable) (raw : RawSelect) (scope : List Here) → list_all is_narrow catalog ≡ true
    → length raw.tables ≤ SELECT_TABLES_MOST → scope_from catalog 0 raw.tables ≡ Ok scope → length scope ≤ ROW_VALUES_MOST
scope-few catalog raw scope narrow few h = omega (arith, scope-length catalog 0 raw.tables scope narrow h)

-- the numbers among the keys are those of output columns
within-true : (m n : ℕ) → m ≤ n → nat_le m n ≡ true
within-true m n h = grind (arith, nat_tests)

within-is : (m n : ℕ) → nat_le m n ≡ true → m ≤ n
within-is m n h = grind (arith, nat_tests)

pub third_true : (a b c : Bool) → (a && b && c) ≡ true → c ≡ true
third_true true true c h = h
third_true true false c h = absurd cc
third_true false b c h = absurd cc

pub counts-names : (catalog : List CatalogTable) (raw : RawSelect) (scope : List Here) (o : Option ℕ) (n : ℕ) → scope_from catalog 0 raw.tables ≡ Ok scope
    → counts_within catalog raw o n ≡ true → n ≤ length (output_names scope o raw.items)
counts-names catalog raw scope None n h counts = omega (arith, within-is n (length raw.items) counts, length-map raw.items item_name)
counts-names catalog raw scope (Some place) n h counts =
    omega (arith, reaches-scope catalog 0 raw.tables scope n h counts, length-map scope column_name)

key-counts : (catalog : List CatalogTable) (raw : RawSelect) (scope : List Here) (k : KeyBy) → scope_from catalog 0 raw.tables ≡ Ok scope
    → is_key_listed catalog raw k ≡ true → counts_output (length (output_names scope raw.all raw.items)) k ≡ true
key-counts catalog raw scope (by.Name n) h listed = refl
key-counts catalog raw scope (by.Number n) h listed =
    within-true n (length (output_names scope raw.all raw.items))
    (counts-names catalog raw scope raw.all n h
    (third_true (nat_lt 0 n) (nat_lt n (2 ^ 63)) (counts_within catalog raw raw.all n) listed))

weaker-turn : {T : Type 0} (f g : T → Bool) (x : T) (xs : List T) (b : Bool) → f x ≡ b → (f x ≡ true → g x ≡ true)
    → (list_all f xs ≡ true → list_all g xs ≡ true) → (b && list_all f xs) ≡ true → (g x && list_all g xs) ≡ true
weaker-turn f g x xs true is here rest h = ap (λ b. b && list_all g xs) (here is) ∙ rest h
weaker-turn f g x xs false is here rest h = absurd cc

all-weaker : {T : Type 0} (f g : T → Bool) (xs : List T) → ((x : T) → f x ≡ true → g x ≡ true) → list_all f xs ≡ true → list_all g xs ≡ true
all-weaker f g [] each h = refl
all-weaker f g (x ∷ xs) each h = weaker-turn f g x xs (f x) refl (each x) (λ rest. all-weaker f g xs each rest) h

pub keys-count : (catalog : List CatalogTable) (raw : RawSelect) (scope : List Here) → scope_from catalog 0 raw.tables ≡ Ok scope
    → list_all (λ x. is_key_listed catalog raw x.by) raw.keys ≡ true
    → list_all (counts_among (length (output_names scope raw.all raw.items))) raw.keys ≡ true
keys-count catalog raw scope h listed =
    all-weaker (λ x. is_key_listed catalog raw x.by) (counts_among (length (output_names scope raw.all raw.items))) raw.keys
    (λ x is. key-counts catalog raw scope x.by h is) listed

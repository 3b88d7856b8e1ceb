-- what is spelled fits the tables that it names
use Rattle.std.proofs.Common.{◌≡◌, ◌≢◌, ℕ, suc, max, ◌+◌, ◌-◌, ◌<◌, ◌≤◌, ◌^◌, nat_eq, nat_lt, Bool, true, false, ◌&&◌, ◌||◌, not, if◌then◌else◌, Option, Some, None, map, take, count_by, Result, Ok, Err, List, [], ◌∷◌, ◌++◌, length, refl, sym, ◌∙◌, ap, subst, arith, add-zero}
use Rattle.std.specs.List.{list_all, list_any, position_from}
use Rattle.std.specs.Str.{bytes_eq}
use Rattle.std.proofs.lemmas.Bool.{and_parts}
use Rattle.std.proofs.lemmas.Bool.Decides.{nat_tests}
use Rattle.std.proofs.lemmas.List.{length-map, map-append}
use Rattle.rm_base.specs.declared.catalog.CatalogColumn.{CatalogColumn}
use Rattle.rm_base.specs.declared.catalog.CatalogTable.{CatalogTable}
use Rattle.rm_base.specs.declared.name.Name.{Name}
use Rattle.rm_base.specs.declared.catalog.ColumnKind.TheVariants as kind
use Rattle.rm_base.specs.declared.limits.TheConstants.{ITEMS_MOST, ROW_VALUES_MOST, SELECT_TABLES_MOST}
use Rattle.rm_base.specs.declared.refusal.Refusal.{Refusal}
use Rattle.rm_base.specs.declared.refusal.Refusal.TheVariants.{NoSuchColumn, Ambiguous, TypeClash, NotGrouped, TooManyTables}
use Rattle.rm_base.specs.declared.select.Item.{Item}
use Rattle.rm_base.specs.declared.select.Item.TheVariants as item
use Rattle.rm_base.specs.declared.select.Operand.TheVariants.{Column, Fixed}
use Rattle.rm_base.specs.declared.select.OrderKey.{OrderKey}
use Rattle.rm_base.specs.declared.select.Select.{Select}
use Rattle.rm_base.specs.declared.select.Test.{Test}
use Rattle.rm_base.specs.declared.value.Value.TheVariants.{Int, Words}
use Rattle.rm_base.specs.Name.{name_text}
use Rattle.rm_words.proofs.Results.{some_is, none_some, ok_is, err_ok}
use Rattle.query_plan.specs.declared.raw.Function.{Function}
use Rattle.query_plan.specs.declared.raw.Function.TheVariants as function
use Rattle.query_plan.specs.declared.raw.KeyBy.{KeyBy}
use Rattle.query_plan.specs.declared.raw.KeyBy.TheVariants as by
use Rattle.query_plan.specs.declared.raw.RawCondition.{RawCondition}
use Rattle.query_plan.specs.declared.raw.RawItem.{RawItem}
use Rattle.query_plan.specs.declared.raw.RawKey.{RawKey}
use Rattle.query_plan.specs.declared.raw.RawOperand.{RawOperand}
use Rattle.query_plan.specs.declared.raw.RawOperand.TheVariants as operand
use Rattle.query_plan.specs.declared.raw.RawSelect.{RawSelect}
use Rattle.query_plan.specs.declared.raw.RawTable.{RawTable}
use Rattle.query_plan.specs.declared.raw.RawTest.{RawTest}
use Rattle.query_plan.specs.declared.raw.RawValue.{RawValue}
use Rattle.query_plan.specs.declared.raw.RawValue.TheVariants as value
use Rattle.query_plan.specs.declared.raw.Reference.{Reference}
use Rattle.query_plan.specs.declared.resolving.Compared.{Compared}
use Rattle.query_plan.specs.declared.scope.Found.{Found}
use Rattle.query_plan.specs.declared.scope.Here.{Here}
use Rattle.query_plan.specs.Scope.{columns_here, counts_within, scope_from, table_named}
use Rattle.query_plan.specs.Resolving.{IsRaw, all_from, and_then, called_twice, column_name, column_of, compared_at, condition_of, each, found_from, function_item, group_of, grouped_by, groups_of, is_aggregate, is_ambiguous, is_found_at, is_group, is_grouped, is_int, is_key_listed, is_meant, item_name, item_of, items_of, key_of, looked_up, may_stand, named_output, operand_of, output_names, output_of, plain_item, planned, same_kind, test_of, unless_twice, value_of}
use Rattle.query_plan.specs.Fitting.{FitsCatalog, columns_behind, columns_named, group_columns, is_int_in, item_within, operand_within, stands_in, sums_ints, test_within}
use Rattle.query_plan.specs.Text.{IsSpelled}
use Rattle.query_plan.proofs.Kept.{spells-raw}
use Rattle.query_plan.proofs.Scopes.{counts-names, scope-few, split, third_true}

-- the columns of the tables in order
abbrev columns_in : List Here → List CatalogColumn
columns_in scope = map (λ h. h.column) scope

columns_here-columns : (n : ℕ) (call : Name) (columns : List CatalogColumn) → columns_in (columns_here n call columns) ≡ columns
columns_here-columns n call [] = refl
columns_here-columns n call (c ∷ cs) = ap (λ l. c ∷ l) (columns_here-columns n call cs)

scope-columns : (catalog : List CatalogTable) (n : ℕ) (tables : List RawTable) (scope : List Here) → scope_from catalog n tables ≡ Ok scope
    → columns_named catalog (map (λ t. t.name) tables) ≡ Some (columns_in scope)
scope-columns catalog n [] scope h = ap (λ l. Some (columns_in l)) (ok_is [] scope h)
scope-columns catalog n (t ∷ tables) scope h =
    let s = split n t (table_named catalog t.name) (scope_from catalog (n + 1) tables) scope h in
    let first : List Here = columns_here n t.call s.found.columns in
    ap (λ o. columns_behind o (columns_named catalog (map (λ x. x.name) tables))) s.is
    ∙ ap (λ o. columns_behind (Some s.found) o) (scope-columns catalog (n + 1) tables s.more s.rest)
    ∙ ap (λ l. Some (l ++ columns_in s.more)) (sym (columns_here-columns n t.call s.found.columns))
    ∙ ap (λ l. Some l) (sym (map-append (λ x. x.column) first s.more))
    ∙ ap (λ l. Some (columns_in l)) (sym s.whole)

below-true : (m n : ℕ) → m < n → nat_lt m n ≡ true
below-true m n h = grind (arith, nat_tests)

below-is : (m n : ℕ) → nat_lt m n ≡ true → m < n
below-is m n h = grind (arith, nat_tests)

-- a column that is found is one of them, and Ints are where it says so
record IsFound (n : ℕ) (scope : List Here) (f : Found) : Type 0 where
  place : ℕ
  is_there : f.column ≡ n + place
  below : place < length scope
  kind : is_int_in (columns_in scope) place ≡ is_int f.kind

found-turn : (count n : ℕ) (r : Reference) (h : Here) (hs : List Here) (f : Found) (b : Bool)
    → (if b then Some (record { column = n; table = h.table; kind = h.column.kind }) else found_from count (n + 1) r hs) ≡ Some f
    → (found_from count (n + 1) r hs ≡ Some f → IsFound (n + 1) hs f) → IsFound n (h ∷ hs) f
found-turn count n r h hs f true is rest =
    let here : Found = record { column = n; table = h.table; kind = h.column.kind } in
    let same : here ≡ f = some_is here f is in
    record {
      place = 0;
      is_there = sym (ap (λ x. x.column) same) ∙ sym (add-zero n);
      below = omega arith;
      kind = ap (λ x. is_int x.kind) same;
    }
found-turn count n r h hs f false is rest =
    let later = rest is in
    record {
      place = suc later.place;
      is_there = omega (arith, later.is_there);
      below = omega (arith, later.below);
      kind = later.kind;
    }

found-there : (count n : ℕ) (r : Reference) (scope : List Here) (f : Found) → found_from count n r scope ≡ Some f → IsFound n scope f
found-there count n r [] f is = absurd (none_some f is)
found-there count n r (h ∷ hs) f is = found-turn count n r h hs f (is_meant count r h) is (λ rest. found-there count (n + 1) r hs f rest)

no_choice : {A : Type 0} (b : Bool) (why : Refusal) (x y : A) → (if b then Err why else Ok x) ≡ Ok y → x ≡ y
no_choice true why x y h = absurd (err_ok why y h)
no_choice false why x y h = ok_is x y h

looked_up-there : (tables : List RawTable) (scope : List Here) (r : Reference) (f : Found) (o : Option Found) → found_from (length tables) 0 r scope ≡ o
    → looked_up tables scope r o ≡ Ok f → IsFound 0 scope f
looked_up-there tables scope r f None is h = absurd (err_ok _ f h)
looked_up-there tables scope r f (Some g) is h =
    let same : g ≡ f = no_choice (is_ambiguous (length tables) r g scope) (Ambiguous r.column) g f h in
    subst (λ x. IsFound 0 scope x) same (found-there (length tables) 0 r scope g is)

column-there : (tables : List RawTable) (scope : List Here) (r : Reference) (f : Found) → column_of tables scope r ≡ Ok f → IsFound 0 scope f
column-there tables scope r f h = looked_up-there tables scope r f (found_from (length tables) 0 r scope) refl h

column-below : (tables : List RawTable) (scope : List Here) (r : Reference) (f : Found) → column_of tables scope r ≡ Ok f → f.column < length scope
column-below tables scope r f h = let there = column-there tables scope r f h in omega (arith, there.is_there, there.below)

column-kind : (tables : List RawTable) (scope : List Here) (r : Reference) (f : Found) → column_of tables scope r ≡ Ok f
    → is_int_in (columns_in scope) f.column ≡ is_int f.kind
column-kind tables scope r f h =
    let there = column-there tables scope r f h in
    let same : f.column ≡ there.place = omega (arith, there.is_there) in
    ap (is_int_in (columns_in scope)) same ∙ there.kind

-- the answer of a step that went well
record Stepped {A B : Type 0} (r : Result A Refusal) (next : A → Result B Refusal) (y : B) : Type 0 where
  first : A
  was : r ≡ Ok first
  goes_on : next first ≡ Ok y

stepped : {A B : Type 0} (r : Result A Refusal) (next : A → Result B Refusal) (y : B) → and_then r next ≡ Ok y → Stepped r next y
stepped (Ok x) next y h = record { first = x; was = refl; goes_on = h }
stepped (Err why) next y h = absurd (err_ok why y h)

-- what holds of each answer holds of all
each-all : {A B : Type 0} (f : A → Result B Refusal) (p : A → Bool) (q : B → Bool) (xs : List A) (ys : List B)
    → ((x : A) (y : B) → p x ≡ true → f x ≡ Ok y → q y ≡ true) → list_all p xs ≡ true → each f xs ≡ Ok ys → list_all q ys ≡ true
each-all f p q [] ys one all h = subst (λ l. list_all q l ≡ true) (ok_is [] ys h) refl
each-all f p q (x ∷ xs) ys one all h =
    let parts = and_parts (p x) (list_all p xs) all in
    let first = stepped (f x) (λ y. and_then (each f xs) (λ zs. Ok (y ∷ zs))) ys h in
    let rest = stepped (each f xs) (λ zs. Ok (first.first ∷ zs)) ys first.goes_on in
    subst (λ l. list_all q l ≡ true) (ok_is (first.first ∷ rest.first) ys rest.goes_on)
    (ap (λ b. b && list_all q rest.first) (one x first.first parts.0 first.was) ∙ each-all f p q xs rest.first one parts.1 rest.was)

each-length : {A B : Type 0} (f : A → Result B Refusal) (xs : List A) (ys : List B) → each f xs ≡ Ok ys → length ys ≡ length xs
each-length f [] ys h = ap length (sym (ok_is [] ys h))
each-length f (x ∷ xs) ys h =
    let first = stepped (f x) (λ y. and_then (each f xs) (λ zs. Ok (y ∷ zs))) ys h in
    let rest = stepped (each f xs) (λ zs. Ok (first.first ∷ zs)) ys first.goes_on in
    ap length (sym (ok_is (first.first ∷ rest.first) ys rest.goes_on)) ∙ ap (λ n. suc n) (each-length f xs rest.first rest.was)

all_pass : {A : Type 0} (xs : List A) → list_all (λ _. true) xs ≡ true
all_pass [] = refl
all_pass (x ∷ xs) = all_pass xs

-- comparisons
operand-within : (tables : List RawTable) (scope : List Here) (o : RawOperand) (c : Compared) → operand_of tables scope o ≡ Ok c
    → operand_within (length scope) c.operand ≡ true
operand-within tables scope (operand.Column r) c h =
    let s = stepped (column_of tables scope r) (λ found. Ok (record { operand = Column found.column; kind = found.kind })) c h in
    subst (λ x. operand_within (length scope) x.operand ≡ true) (ok_is (record { operand = Column s.first.column; kind = s.first.kind }) c s.goes_on)
    (below-true s.first.column (length scope) (column-below tables scope r s.first s.was))
operand-within tables scope (operand.Int z) c h =
    subst (λ x. operand_within (length scope) x.operand ≡ true) (ok_is (record { operand = Fixed (Int z); kind = kind.Int }) c h) refl
operand-within tables scope (operand.Words text) c h =
    subst (λ x. operand_within (length scope) x.operand ≡ true) (ok_is (record { operand = Fixed (Words text); kind = kind.Words }) c h) refl

compared-turn : (n : ℕ) (t : RawTest) (l r : Compared) (x : Test) (b : Bool)
    → (if b then Ok (record { left = l.operand; op = t.op; right = r.operand }) else Err (TypeClash t.place)) ≡ Ok x
    → operand_within n l.operand ≡ true → operand_within n r.operand ≡ true → test_within n x ≡ true
compared-turn n t l r x true h left right =
    subst (λ y. test_within n y ≡ true) (ok_is (record { left = l.operand; op = t.op; right = r.operand }) x h)
    (ap (λ b. b && operand_within n r.operand) left ∙ right)
compared-turn n t l r x false h left right = absurd (err_ok (TypeClash t.place) x h)

test-within : (tables : List RawTable) (scope : List Here) (t : RawTest) (x : Test) → test_of tables scope t ≡ Ok x
    → test_within (length scope) x ≡ true
test-within tables scope t x h =
    let left = stepped (operand_of tables scope t.left)
    (λ l. and_then (operand_of tables scope t.right) (λ r. compared_at t.place t.op l r)) x h in
    let right = stepped (operand_of tables scope t.right) (λ r. compared_at t.place t.op left.first r) x left.goes_on in
    compared-turn (length scope) t left.first right.first x (same_kind left.first.kind right.first.kind) right.goes_on
    (operand-within tables scope t.left left.first left.was) (operand-within tables scope t.right right.first right.was)

condition-turn : (o : Option Name) (t : Result Test Refusal) (x : Test) → unless_twice o t ≡ Ok x → t ≡ Ok x
condition-turn None t x h = h
condition-turn (Some name) t x h = absurd (err_ok (Ambiguous name) x h)

condition-within : (tables : List RawTable) (scope : List Here) (c : RawCondition) (x : Test) → condition_of tables scope c ≡ Ok x
    → test_within (length scope) x ≡ true
condition-within tables scope c x h =
    let there : List RawTable = take c.tables tables in
    test-within there scope c.test x (condition-turn (called_twice there 0 there) (test_of there scope c.test) x h)

-- where there are no groups an item is a column, and else a column of theirs or an aggregate
abbrev may_be : RawSelect → List Here → Item → Bool
may_be raw scope (item.Column c) = may_stand raw scope c
may_be raw scope _ = is_grouped raw

-- what holds of an item: it is one of the columns, sums are of Ints, and a column stands alone or is one of the groups
record IsFitItem (raw : RawSelect) (scope : List Here) (x : Item) : Type 0 where
  within : item_within (length scope) x ≡ true
  sums : sums_ints (columns_in scope) x ≡ true
  stands : may_be raw scope x ≡ true

function-fit : (raw : RawSelect) (scope : List Here) (place : ℕ) (f : Function) (found : Found) (x : Item) → found.column < length scope
    → is_int_in (columns_in scope) found.column ≡ is_int found.kind → is_grouped raw ≡ true → function_item place f found ≡ Ok x
    → IsFitItem raw scope x
function-fit raw scope place function.Count found x below kind grouped h =
    subst (λ y. IsFitItem raw scope y) (ok_is (item.Count found.column) x h)
    (record { within = below-true found.column (length scope) below; sums = refl; stands = grouped })
function-fit raw scope place function.Min found x below kind grouped h =
    subst (λ y. IsFitItem raw scope y) (ok_is (item.Min found.column) x h)
    (record { within = below-true found.column (length scope) below; sums = refl; stands = grouped })
function-fit raw scope place function.Max found x below kind grouped h =
    subst (λ y. IsFitItem raw scope y) (ok_is (item.Max found.column) x h)
    (record { within = below-true found.column (length scope) below; sums = refl; stands = grouped })
function-fit raw scope place function.Sum found x below kind grouped h = sum-turn (is_int found.kind) kind h
  where
    sum-turn : (b : Bool) → is_int_in (columns_in scope) found.column ≡ b
        → (if b then Ok (item.Sum found.column) else Err (TypeClash place)) ≡ Ok x → IsFitItem raw scope x
    sum-turn true is so =
        subst (λ y. IsFitItem raw scope y) (ok_is (item.Sum found.column) x so)
        (record { within = below-true found.column (length scope) below; sums = is; stands = grouped })
    sum-turn false is so = absurd (err_ok (TypeClash place) x so)

plain-turn : (raw : RawSelect) (scope : List Here) (place : ℕ) (found : Found) (x : Item) (b : Bool) → may_stand raw scope found.column ≡ b
    → found.column < length scope → (if b then Ok (item.Column found.column) else Err (NotGrouped place)) ≡ Ok x → IsFitItem raw scope x
plain-turn raw scope place found x true is below h =
    subst (λ y. IsFitItem raw scope y) (ok_is (item.Column found.column) x h)
    (record { within = below-true found.column (length scope) below; sums = refl; stands = is })
plain-turn raw scope place found x false is below h = absurd (err_ok (NotGrouped place) x h)

value-fit : (raw : RawSelect) (scope : List Here) (place : ℕ) (v : RawValue) (x : Item) → (is_aggregate v ≡ true → is_grouped raw ≡ true)
    → value_of raw scope place v ≡ Ok x → IsFitItem raw scope x
value-fit raw scope place (value.Column r) x grouped h =
    let s = stepped (column_of raw.tables scope r) (plain_item raw scope place) x h in
    plain-turn raw scope place s.first x (may_stand raw scope s.first.column) refl (column-below raw.tables scope r s.first s.was) s.goes_on
value-fit raw scope place value.CountAll x grouped h =
    subst (λ y. IsFitItem raw scope y) (ok_is item.CountAll x h) (record { within = refl; sums = refl; stands = grouped refl })
value-fit raw scope place (value.Of f r) x grouped h =
    let s = stepped (column_of raw.tables scope r) (function_item place f) x h in
    function-fit raw scope place f s.first x (column-below raw.tables scope r s.first s.was) (column-kind raw.tables scope r s.first s.was)
    (grouped refl) s.goes_on

-- an aggregate among the items makes groups
or_true : (b c : Bool) → c ≡ true → (b || c) ≡ true
or_true true c h = refl
or_true false c h = h

all-length : (n : ℕ) (scope : List Here) → length (all_from n scope) ≡ length scope
all-length n [] = refl
all-length n (x ∷ xs) = ap (λ k. suc k) (all-length (n + 1) xs)

-- an item with an aggregate only where there are groups
abbrev is_counted : RawSelect → RawItem → Bool
is_counted raw i = not (is_aggregate i.value) || is_grouped raw

counted-turn : (raw : RawSelect) (i : RawItem) (b : Bool) → is_aggregate i.value ≡ b → is_counted raw i ≡ true → b ≡ true → is_grouped raw ≡ true
counted-turn raw i true is counted h = sym (ap (λ a. not a || is_grouped raw) is) ∙ counted
counted-turn raw i false is counted h = absurd cc

any-turn : (b c : Bool) (g : Bool) → ((b || c) ≡ true → g ≡ true) → (not b || g) ≡ true
any-turn true c g h = h refl
any-turn false c g h = refl

all-counted : (raw : RawSelect) (items : List RawItem) → (list_any (λ i. is_aggregate i.value) items ≡ true → is_grouped raw ≡ true)
    → list_all (is_counted raw) items ≡ true
all-counted raw [] h = refl
all-counted raw (i ∷ is) h =
    ap (λ b. b && list_all (is_counted raw) is) (any-turn (is_aggregate i.value) (list_any (λ k. is_aggregate k.value) is) (is_grouped raw) h)
    ∙ all-counted raw is (λ more. h (or_true (is_aggregate i.value) (list_any (λ k. is_aggregate k.value) is) more))

items-counted : (raw : RawSelect) → list_all (is_counted raw) raw.items ≡ true
items-counted raw =
    all-counted raw raw.items (λ more. or_true (nat_lt 0 (length raw.groups)) (list_any (λ i. is_aggregate i.value) raw.items) more)

item-fit : (raw : RawSelect) (scope : List Here) (i : RawItem) (x : Item) → is_counted raw i ≡ true → item_of raw scope i ≡ Ok x
    → IsFitItem raw scope x
item-fit raw scope i x counted h =
    value-fit raw scope i.place i.value x (counted-turn raw i (is_aggregate i.value) refl counted) h

-- all columns are fit where there are no groups
all-pass : (q : Item → Bool) (n count : ℕ) (scope : List Here) → ((c : ℕ) → c < count → q (item.Column c) ≡ true) → n + length scope ≤ count
    → list_all q (all_from n scope) ≡ true
all-pass q n count [] each h = refl
all-pass q n count (x ∷ xs) each h =
    ap (λ b. b && list_all q (all_from (n + 1) xs)) (each n (omega arith)) ∙ all-pass q (n + 1) count xs each (omega arith)

-- what holds of the items: each passes a test that fit items pass
items-pass : (raw : RawSelect) (scope : List Here) (q : Item → Bool) (o : Option ℕ) (xs : List Item) → items_of raw scope o ≡ Ok xs
    → ((x : Item) → IsFitItem raw scope x → q x ≡ true) → list_all q xs ≡ true
items-pass raw scope q None xs h fit =
    each-all (item_of raw scope) (is_counted raw) q raw.items xs
    (λ i x counted is. fit x (item-fit raw scope i x counted is)) (items-counted raw) h
items-pass raw scope q (Some place) xs h fit = all-turn (is_grouped raw) refl h
  where
    ungrouped : (b g : Bool) → b ≡ false → (not b || g) ≡ true
    ungrouped false g is = refl
    ungrouped true g is = absurd cc

    all-turn : (b : Bool) → is_grouped raw ≡ b → (if b then Err (NotGrouped place) else Ok (all_from 0 scope)) ≡ Ok xs → list_all q xs ≡ true
    all-turn true is so = absurd (err_ok (NotGrouped place) xs so)
    all-turn false is so =
        subst (λ l. list_all q l ≡ true) (ok_is (all_from 0 scope) xs so)
        (all-pass q 0 (length scope) scope
        (λ c below. fit (item.Column c) (record {
          within = below-true c (length scope) below;
          sums = refl;
          stands = ungrouped (is_grouped raw) (is_group raw scope c) is;
        })) (omega arith))

no_clash : (b : Bool) (place : ℕ) (x y : List Item) → (if b then Err (NotGrouped place) else Ok x) ≡ Ok y → x ≡ y
no_clash b place x y h = no_choice b (NotGrouped place) x y h

names-length : (raw : RawSelect) (scope : List Here) (o : Option ℕ) (xs : List Item) → items_of raw scope o ≡ Ok xs
    → length (output_names scope o raw.items) ≡ length xs
names-length raw scope None xs h = length-map raw.items item_name ∙ sym (each-length (item_of raw scope) raw.items xs h)
names-length raw scope (Some place) xs h =
    length-map scope column_name ∙ sym (all-length 0 scope) ∙ ap length (no_clash (is_grouped raw) place (all_from 0 scope) xs h)

-- how many items there are
items-few : (raw : RawSelect) (scope : List Here) (o : Option ℕ) (xs : List Item) → length raw.items ≤ ITEMS_MOST → items_of raw scope o ≡ Ok xs
    → length xs ≤ max ITEMS_MOST (length scope)
items-few raw scope None xs few h = omega (arith, each-length (item_of raw scope) raw.items xs h)
items-few raw scope (Some place) xs few h =
    omega (arith, all-length 0 scope, ap length (no_clash (is_grouped raw) place (all_from 0 scope) xs h))

grouped-few : (raw : RawSelect) (scope : List Here) (o : Option ℕ) (xs : List Item) → length raw.items ≤ ITEMS_MOST → items_of raw scope o ≡ Ok xs
    → is_grouped raw ≡ true → length xs ≤ ITEMS_MOST
grouped-few raw scope None xs few h grouped = omega (arith, each-length (item_of raw scope) raw.items xs h)
grouped-few raw scope (Some place) xs few h grouped =
    absurd (err_ok (NotGrouped place) xs (sym (ap (λ b. if b then Err (NotGrouped place) else Ok (all_from 0 scope)) grouped) ∙ h))

-- groups
record IsFitGroups (raw : RawSelect) (scope : List Here) (groups : Option (List ℕ)) : Type 0 where
  within : list_all (λ c. nat_lt c (length scope)) (group_columns groups) ≡ true
  few : length (group_columns groups) ≤ length raw.groups
  stands : (x : Item) → may_be raw scope x ≡ true → stands_in groups x ≡ true
  there : groups ≢ None → is_grouped raw ≡ true

group-within : (tables : List RawTable) (scope : List Here) (r : Reference) (c : ℕ) → group_of tables scope r ≡ Ok c → nat_lt c (length scope) ≡ true
group-within tables scope r c h =
    let s = stepped (column_of tables scope r) (λ found. Ok found.column) c h in
    subst (λ k. nat_lt k (length scope) ≡ true) (ok_is s.first.column c s.goes_on)
    (below-true s.first.column (length scope) (column-below tables scope r s.first s.was))

found_at-turn : (r : Result Found Refusal) (c d : ℕ) → and_then r (λ found. Ok found.column) ≡ Ok d → is_found_at c r ≡ nat_eq c d
found_at-turn (Err why) c d h = absurd (err_ok why d h)
found_at-turn (Ok found) c d h = nat_eq-sym found.column c ∙ ap (nat_eq c) (ok_is found.column d h)
  where
    nat_eq-sym : (a b : ℕ) → nat_eq a b ≡ nat_eq b a
    nat_eq-sym a b = grind (arith, nat_tests)

-- the columns of GROUP BY are those that the list has
group-columns : (tables : List RawTable) (scope : List Here) (groups : List Reference) (cs : List ℕ) (c : ℕ) → each (group_of tables scope) groups ≡ Ok cs
    → list_any (λ r. is_found_at c (column_of tables scope r)) groups ≡ list_any (nat_eq c) cs
group-columns tables scope [] cs c h = ap (λ l. list_any (nat_eq c) l) (ok_is [] cs h)
group-columns tables scope (g ∷ gs) cs c h =
    let first = stepped (group_of tables scope g) (λ y. and_then (each (group_of tables scope) gs) (λ zs. Ok (y ∷ zs))) cs h in
    let rest = stepped (each (group_of tables scope) gs) (λ zs. Ok (first.first ∷ zs)) cs first.goes_on in
    ap (λ b. b || list_any (λ r. is_found_at c (column_of tables scope r)) gs) (found_at-turn (column_of tables scope g) c first.first first.was)
    ∙ ap (λ b. nat_eq c first.first || b) (group-columns tables scope gs rest.first c rest.was)
    ∙ ap (λ l. list_any (nat_eq c) l) (ok_is (first.first ∷ rest.first) cs rest.goes_on)

alone-stands : (raw : RawSelect) (scope : List Here) (x : Item) → is_grouped raw ≡ false → may_be raw scope x ≡ true → stands_in None x ≡ true
alone-stands raw scope (item.Column c) is h = refl
alone-stands raw scope item.CountAll is h = sym is ∙ h
alone-stands raw scope (item.Count c) is h = sym is ∙ h
alone-stands raw scope (item.Sum c) is h = sym is ∙ h
alone-stands raw scope (item.Min c) is h = sym is ∙ h
alone-stands raw scope (item.Max c) is h = sym is ∙ h

grouped-stands : (raw : RawSelect) (scope : List Here) (cs : List ℕ) (x : Item) → is_grouped raw ≡ true
    → each (group_of raw.tables scope) raw.groups ≡ Ok cs → may_be raw scope x ≡ true → stands_in (Some cs) x ≡ true
grouped-stands raw scope cs (item.Column c) is listed h =
    sym (group-columns raw.tables scope raw.groups cs c listed) ∙ sym (ap (λ b. not b || is_group raw scope c) is) ∙ h
grouped-stands raw scope cs item.CountAll is listed h = refl
grouped-stands raw scope cs (item.Count c) is listed h = refl
grouped-stands raw scope cs (item.Sum c) is listed h = refl
grouped-stands raw scope cs (item.Min c) is listed h = refl
grouped-stands raw scope cs (item.Max c) is listed h = refl

groups-turn : (raw : RawSelect) (scope : List Here) (groups : Option (List ℕ)) (b : Bool) → is_grouped raw ≡ b
    → grouped_by b (each (group_of raw.tables scope) raw.groups) ≡ Ok groups → IsFitGroups raw scope groups
groups-turn raw scope groups false is h =
    subst (λ g. IsFitGroups raw scope g) (ok_is None groups h)
    (record {
      within = refl;
      few = omega arith;
      stands = λ x may. alone-stands raw scope x is may;
      there = λ some. absurd (some refl);
    })
groups-turn raw scope groups true is h =
    let s = stepped (each (group_of raw.tables scope) raw.groups) (λ cs. Ok (Some cs)) groups h in
    subst (λ g. IsFitGroups raw scope g) (ok_is (Some s.first) groups s.goes_on)
    (record {
      within =
          each-all (group_of raw.tables scope) (λ _. true) (λ c. nat_lt c (length scope)) raw.groups s.first
          (λ r c all so. group-within raw.tables scope r c so) (all_pass raw.groups) s.was;
      few = omega (arith, each-length (group_of raw.tables scope) raw.groups s.first s.was);
      stands = λ x may. grouped-stands raw scope s.first x is s.was may;
      there = λ some. is;
    })

-- keys
position-turn : {K : Type 0} (p : K → Bool) (n : ℕ) (x : K) (xs : List K) (i : ℕ) (b : Bool)
    → (if b then Some n else position_from p (n + 1) xs) ≡ Some i → (position_from p (n + 1) xs ≡ Some i → i < n + 1 + length xs)
    → i < n + length (x ∷ xs)
position-turn p n x xs i true h rest = let same : n ≡ i = some_is n i h in omega arith
position-turn p n x xs i false h rest = omega (arith, rest h)

position-below : {K : Type 0} (p : K → Bool) (n : ℕ) (xs : List K) (i : ℕ) → position_from p n xs ≡ Some i → i < n + length xs
position-below p n [] i h = absurd (none_some i h)
position-below p n (x ∷ xs) i h = position-turn p n x xs i (p x) h (λ rest. position-below p (n + 1) xs i rest)

named-below : (names : List (List ℕ)) (n : Name) (i : ℕ) (o : Option ℕ) → position_from (bytes_eq (name_text n)) 0 names ≡ o
    → named_output names n o ≡ Ok i → i < length names
named-below names n i None is h = absurd (err_ok (NoSuchColumn n) i h)
named-below names n i (Some k) is h =
    let same : k ≡ i = no_choice (nat_lt 1 (count_by (bytes_eq (name_text n)) names)) (Ambiguous n) k i h in
    omega (arith, position-below (bytes_eq (name_text n)) 0 names k is)

output-below : (catalog : List CatalogTable) (raw : RawSelect) (scope : List Here) (k : KeyBy) (i : ℕ) → scope_from catalog 0 raw.tables ≡ Ok scope
    → is_key_listed catalog raw k ≡ true → output_of (output_names scope raw.all raw.items) k ≡ Ok i → i < length (output_names scope raw.all raw.items)
output-below catalog raw scope (by.Name n) i so_far listed h =
    let names = output_names scope raw.all raw.items in
    named-below names n i (position_from (bytes_eq (name_text n)) 0 names) refl h
output-below catalog raw scope (by.Number n) i so_far listed h =
    let count : counts_within catalog raw raw.all n ≡ true =
    third_true (nat_lt 0 n) (nat_lt n (2 ^ 63)) (counts_within catalog raw raw.all n) listed in
    let some : 0 < n = below-is 0 n (first_true (nat_lt 0 n) (nat_lt n (2 ^ 63)) (counts_within catalog raw raw.all n) listed) in
    let most : n ≤ length (output_names scope raw.all raw.items) = counts-names catalog raw scope raw.all n so_far count in
    let same : n - 1 ≡ i = ok_is (n - 1) i h in
    omega arith
  where
    first_true : (a b c : Bool) → (a && b && c) ≡ true → a ≡ true
    first_true true b c h = refl
    first_true false b c h = absurd cc

key-below : (catalog : List CatalogTable) (raw : RawSelect) (scope : List Here) (k : RawKey) (x : OrderKey) → scope_from catalog 0 raw.tables ≡ Ok scope
    → is_key_listed catalog raw k.by ≡ true → key_of (output_names scope raw.all raw.items) k ≡ Ok x
    → nat_lt x.column (length (output_names scope raw.all raw.items)) ≡ true
key-below catalog raw scope k x so_far listed h =
    let names = output_names scope raw.all raw.items in
    let s = stepped (output_of names k.by) (λ i. Ok (record { column = i; falling = k.falling })) x h in
    subst (λ y. nat_lt y.column (length names) ≡ true) (ok_is (record { column = s.first; falling = k.falling }) x s.goes_on)
    (below-true s.first (length names) (output-below catalog raw scope k.by s.first so_far listed s.was))

-- what a SELECT over tables that are known stands for fits them
planned-fits : (catalog : List CatalogTable) (raw : RawSelect) (scope : List Here) (plan : Select) → IsRaw catalog raw
    → length raw.tables ≤ SELECT_TABLES_MOST → scope_from catalog 0 raw.tables ≡ Ok scope → planned raw scope ≡ Ok plan → FitsCatalog catalog plan
planned-fits catalog raw scope plan is few so_far h =
    let items = stepped (items_of raw scope raw.all) with_items plan h in
    let tests = stepped (each (condition_of raw.tables scope) raw.tests) (with_tests items.first) plan items.goes_on in
    let groups = stepped (groups_of raw scope) (with_groups items.first tests.first) plan tests.goes_on in
    let names = output_names scope raw.all raw.items in
    let keys = stepped (each (key_of names) raw.keys) (λ keys. Ok (whole items.first tests.first groups.first keys)) plan groups.goes_on in
    let fit = groups-turn raw scope groups.first (is_grouped raw) refl groups.was in
    let same_length : length names ≡ length items.first = names-length raw scope raw.all items.first items.was in
    let columns : length (columns_in scope) ≡ length scope = length-map scope _ in
    subst (λ p. FitsCatalog catalog p) (ok_is (whole items.first tests.first groups.first keys.first) plan keys.goes_on)
    (record {
      columns = columns_in scope;
      known = scope-columns catalog 0 raw.tables scope so_far;
      some_table = subst (λ n. 0 < n) (sym (length-map raw.tables _)) is.some_table;
      few_tables = subst (λ n. n ≤ SELECT_TABLES_MOST) (sym (length-map raw.tables _)) few;
      few_columns = λ narrow. subst (λ n. n ≤ ROW_VALUES_MOST) (sym columns) (scope-few catalog raw scope narrow few so_far);
      tests =
          subst (λ n. list_all (test_within n) tests.first ≡ true) (sym columns)
          (each-all (condition_of raw.tables scope) (λ _. true) (test_within (length scope)) raw.tests tests.first
          (λ t x all so. condition-within raw.tables scope t x so) (all_pass raw.tests) tests.was);
      items =
          subst (λ n. list_all (item_within n) items.first ≡ true) (sym columns)
          (items-pass raw scope (item_within (length scope)) raw.all items.first items.was (λ x fits. fits.within));
      sums = items-pass raw scope (sums_ints (columns_in scope)) raw.all items.first items.was (λ x fits. fits.sums);
      few_items =
          subst (λ n. length items.first ≤ max ITEMS_MOST n) (sym columns) (items-few raw scope raw.all items.first is.few_items items.was);
      few_group_items = λ some. grouped-few raw scope raw.all items.first is.few_items items.was (fit.there some);
      names = same_length;
      groups = subst (λ n. list_all (λ c. nat_lt c n) (group_columns groups.first) ≡ true) (sym columns) fit.within;
      few_groups = omega (arith, fit.few, is.few_groups);
      stand = items-pass raw scope (stands_in groups.first) raw.all items.first items.was (λ x fits. fit.stands x fits.stands);
      keys =
          subst (λ n. list_all (λ k. nat_lt k.column n) keys.first ≡ true) same_length
          (each-all (key_of names) (λ k. is_key_listed catalog raw k.by) (λ k. nat_lt k.column (length names)) raw.keys keys.first
          (λ k x listed so. key-below catalog raw scope k x so_far listed so) is.listed keys.was);
    })
  where
    whole : List Item → List Test → Option (List ℕ) → List OrderKey → Select
    whole items tests groups keys = record {
      tables = map (λ t. t.name) raw.tables;
      tests = tests;
      items = items;
      names = output_names scope raw.all raw.items;
      groups = groups;
      order = record { keys = keys; limit = raw.limit };
    }

    with_groups : List Item → List Test → Option (List ℕ) → Result Select Refusal
    with_groups items tests groups =
        and_then (each (key_of (output_names scope raw.all raw.items)) raw.keys) (λ keys. Ok (whole items tests groups keys))

    with_tests : List Item → List Test → Result Select Refusal
    with_tests items tests = and_then (groups_of raw scope) (with_groups items tests)

    with_items : List Item → Result Select Refusal
    with_items items = and_then (each (condition_of raw.tables scope) raw.tests) (with_tests items)

-- what a SELECT stands for fits its tables
resolved-turn : (catalog : List CatalogTable) (raw : RawSelect) (plan : Select) (b : Bool) → nat_lt SELECT_TABLES_MOST (length raw.tables) ≡ b
    → IsRaw catalog raw
    → (if b then Err (TooManyTables SELECT_TABLES_MOST) else and_then (scope_from catalog 0 raw.tables) (λ scope. planned raw scope)) ≡ Ok plan
    → FitsCatalog catalog plan
resolved-turn catalog raw plan true many is h = absurd (err_ok (TooManyTables SELECT_TABLES_MOST) plan h)
resolved-turn catalog raw plan false many is h =
    let scope = stepped (scope_from catalog 0 raw.tables) (planned raw) plan h in
    planned-fits catalog raw scope.first plan is (not_above SELECT_TABLES_MOST (length raw.tables) many) scope.was scope.goes_on
  where
    not_above : (m n : ℕ) → nat_lt m n ≡ false → n ≤ m
    not_above m n h = grind (arith, nat_tests)

pub spelled-fits : (catalog : List CatalogTable) (plan : Select) → IsSpelled catalog plan → FitsCatalog catalog plan
spelled-fits catalog plan is =
    let raw = is.1.0 in
    let says = is.1.1 in
    resolved-turn catalog raw plan (nat_lt SELECT_TABLES_MOST (length raw.tables)) refl (spells-raw catalog _ raw says.2) is.1.2

-- what holds of every SELECT so far
use Rattle.std.proofs.Common.{◌≡◌, ℕ, ◌+◌, ◌<◌, ◌≤◌, nat_lt, Bool, true, false, ◌&&◌, Some, List, [], ◌∷◌, ◌++◌, length, refl, sym, ◌∙◌, ap, subst, arith}
use Rattle.std.specs.List.{list_all}
use Rattle.std.proofs.lemmas.Bool.Decides.{nat_tests}
use Rattle.std.proofs.lemmas.List.{length-append}
use Rattle.rm_base.specs.declared.catalog.CatalogTable.{CatalogTable}
use Rattle.rm_base.specs.declared.limits.TheConstants.{GROUP_COLUMNS_MOST, ITEMS_MOST}
use Rattle.query_plan.specs.declared.part.Clause.{Clause}
use Rattle.query_plan.specs.declared.part.Clause.TheVariants as clause
use Rattle.query_plan.specs.declared.raw.KeyBy.{KeyBy}
use Rattle.query_plan.specs.declared.raw.RawKey.{RawKey}
use Rattle.query_plan.specs.declared.raw.RawPart.{RawPart}
use Rattle.query_plan.specs.declared.raw.RawPart.TheVariants as part
use Rattle.query_plan.specs.declared.raw.RawSelect.{RawSelect}
use Rattle.query_plan.specs.declared.raw.Slot.{Slot}
use Rattle.query_plan.specs.declared.raw.Slot.TheVariants as slot
use Rattle.query_plan.specs.Raw.{added, has_room}
use Rattle.query_plan.specs.Word.{Word}
use Rattle.query_plan.specs.Grammar.{IsKey, undirected, rising, falling, IsKeyBy, by_name, by_number, IsPart, all, item, table, test, group, key, limit, IsSelect, nothing, more, Leads, select, item_comma, from, join, on, and_on, filter, and, group_by, group_comma, order_by, key_comma, limit_to, Spells, unended, ended, clause_of, is_joinable, is_list, is_ungrouped, is_unlimited, is_unordered, is_whole, table_clause, test_clause, takes_item, takes_table, takes_test}
use Rattle.query_plan.specs.Resolving.{IsRaw, is_key_listed}

-- a table stands before the end of a clause
abbrev has_table : Clause → Bool
has_table clause.Begin = false
has_table clause.All = false
has_table clause.Items = false
has_table _ = true

-- keys may stand before the end of a clause
abbrev pub may_order : Clause → Bool
may_order clause.Keys = true
may_order clause.Limited = true
may_order _ = false

-- nothing stands before the end of a clause
abbrev is_begin : Clause → Bool
is_begin clause.Begin = true
is_begin _ = false

pub record IsKept (catalog : List CatalogTable) (k : Clause) (raw : RawSelect) : Type 0 where
  pub some_table : has_table k ≡ true → 0 < length raw.tables
  pub groups : length raw.groups ≤ GROUP_COLUMNS_MOST
  pub items : length raw.items ≤ ITEMS_MOST
  pub no_items : is_begin k ≡ true → raw.items ≡ []
  pub no_keys : may_order k ≡ false → raw.keys ≡ []
  pub listed : list_all (λ x. is_key_listed catalog raw x.by) raw.keys ≡ true

none_listed : (catalog : List CatalogTable) (raw : RawSelect) (keys : List RawKey) → keys ≡ []
    → list_all (λ x. is_key_listed catalog raw x.by) keys ≡ true
none_listed catalog raw keys h = subst (λ l. list_all (λ x. is_key_listed catalog raw x.by) l ≡ true) (sym h) refl

one_more : (n most : ℕ) → nat_lt n most ≡ true → n + 1 ≤ most
one_more n most h = let below : n < most = grind (arith, nat_tests) in omega arith

snoc-within : {T : Type 0} (xs : List T) (x : T) (most : ℕ) → nat_lt (length xs) most ≡ true → length (xs ++ x ∷ []) ≤ most
snoc-within xs x most h = omega (arith, length-append xs (x ∷ []), one_more (length xs) most h)

true_false : ◌≡◌ {A = Bool} true false → ⊥
true_false h = cc

false_true : ◌≡◌ {A = Bool} false true → ⊥
false_true h = cc

list_clause : (k : Clause) → is_list k ≡ true → may_order k ≡ false
list_clause clause.Begin h = absurd cc
list_clause clause.All h = refl
list_clause clause.Items h = refl
list_clause clause.Tables h = absurd cc
list_clause clause.Joined h = absurd cc
list_clause clause.Ons h = absurd cc
list_clause clause.Tests h = absurd cc
list_clause clause.Groups h = absurd cc
list_clause clause.Keys h = absurd cc
list_clause clause.Limited h = absurd cc

ungrouped_clause : (k : Clause) → is_ungrouped k ≡ true → may_order k ≡ false
ungrouped_clause clause.Begin h = absurd cc
ungrouped_clause clause.All h = absurd cc
ungrouped_clause clause.Items h = absurd cc
ungrouped_clause clause.Tables h = refl
ungrouped_clause clause.Joined h = absurd cc
ungrouped_clause clause.Ons h = refl
ungrouped_clause clause.Tests h = refl
ungrouped_clause clause.Groups h = absurd cc
ungrouped_clause clause.Keys h = absurd cc
ungrouped_clause clause.Limited h = absurd cc

joinable_clause : (k : Clause) → is_joinable k ≡ true → is_ungrouped k ≡ true
joinable_clause clause.Begin h = absurd cc
joinable_clause clause.All h = absurd cc
joinable_clause clause.Items h = absurd cc
joinable_clause clause.Tables h = refl
joinable_clause clause.Joined h = absurd cc
joinable_clause clause.Ons h = refl
joinable_clause clause.Tests h = absurd cc
joinable_clause clause.Groups h = absurd cc
joinable_clause clause.Keys h = absurd cc
joinable_clause clause.Limited h = absurd cc

unlimited_clause : (k : Clause) → is_unlimited k ≡ true → has_table k ≡ true
unlimited_clause clause.Begin h = absurd cc
unlimited_clause clause.All h = absurd cc
unlimited_clause clause.Items h = absurd cc
unlimited_clause clause.Tables h = refl
unlimited_clause clause.Joined h = absurd cc
unlimited_clause clause.Ons h = refl
unlimited_clause clause.Tests h = refl
unlimited_clause clause.Groups h = refl
unlimited_clause clause.Keys h = refl
unlimited_clause clause.Limited h = absurd cc

unordered_clause : (k : Clause) → is_unordered k ≡ true → is_unlimited k ≡ true
unordered_clause clause.Begin h = absurd cc
unordered_clause clause.All h = absurd cc
unordered_clause clause.Items h = absurd cc
unordered_clause clause.Tables h = refl
unordered_clause clause.Joined h = absurd cc
unordered_clause clause.Ons h = refl
unordered_clause clause.Tests h = refl
unordered_clause clause.Groups h = refl
unordered_clause clause.Keys h = absurd cc
unordered_clause clause.Limited h = absurd cc

grouped_clause : (k : Clause) → is_ungrouped k ≡ true → is_unordered k ≡ true
grouped_clause clause.Begin h = absurd cc
grouped_clause clause.All h = absurd cc
grouped_clause clause.Items h = absurd cc
grouped_clause clause.Tables h = refl
grouped_clause clause.Joined h = absurd cc
grouped_clause clause.Ons h = refl
grouped_clause clause.Tests h = refl
grouped_clause clause.Groups h = absurd cc
grouped_clause clause.Keys h = absurd cc
grouped_clause clause.Limited h = absurd cc

whole_clause : (k : Clause) → is_whole k ≡ true → has_table k ≡ true
whole_clause clause.Begin h = absurd cc
whole_clause clause.All h = absurd cc
whole_clause clause.Items h = absurd cc
whole_clause clause.Tables h = refl
whole_clause clause.Joined h = absurd cc
whole_clause clause.Ons h = refl
whole_clause clause.Tests h = refl
whole_clause clause.Groups h = refl
whole_clause clause.Keys h = refl
whole_clause clause.Limited h = refl

-- an order or a limit is due
abbrev is_late : Slot → Bool
is_late slot.Key = true
is_late slot.Limit = true
is_late _ = false

-- what is due stands behind a table
abbrev is_behind : Slot → Bool
is_behind slot.List = false
is_behind slot.Item = false
is_behind slot.Table = false
is_behind _ = true

ungrouped_table : (k : Clause) → is_ungrouped k ≡ true → has_table k ≡ true
ungrouped_table k h = unlimited_clause k (unordered_clause k (grouped_clause k h))

-- no keys stand before what is due, where that is no order and no limit
lead-early : (k : Clause) (lead : List Word) (s : Slot) → Leads k lead s → is_late s ≡ false → may_order k ≡ false
lead-early _ _ _ (select a) h = refl
lead-early _ _ _ (item_comma a) h = refl
lead-early _ _ _ (from k a is) h = list_clause k is
lead-early _ _ _ (join k a is) h = ungrouped_clause k (joinable_clause k is)
lead-early _ _ _ (on a) h = refl
lead-early _ _ _ (and_on a) h = refl
lead-early _ _ _ (filter k a is) h = ungrouped_clause k (joinable_clause k is)
lead-early _ _ _ (and a) h = refl
lead-early _ _ _ (group_by k a b is) h = ungrouped_clause k is
lead-early _ _ _ (group_comma a) h = refl
lead-early _ _ _ (order_by k a b is) h = absurd (true_false h)
lead-early _ _ _ (key_comma a) h = absurd (true_false h)
lead-early _ _ _ (limit_to k a is) h = absurd (true_false h)

-- a table stands before what is due behind one
lead-table : (k : Clause) (lead : List Word) (s : Slot) → Leads k lead s → is_behind s ≡ true → has_table k ≡ true
lead-table _ _ _ (select a) h = absurd (false_true h)
lead-table _ _ _ (item_comma a) h = absurd (false_true h)
lead-table _ _ _ (from k a is) h = absurd (false_true h)
lead-table _ _ _ (join k a is) h = ungrouped_table k (joinable_clause k is)
lead-table _ _ _ (on a) h = refl
lead-table _ _ _ (and_on a) h = refl
lead-table _ _ _ (filter k a is) h = ungrouped_table k (joinable_clause k is)
lead-table _ _ _ (and a) h = refl
lead-table _ _ _ (group_by k a b is) h = ungrouped_table k is
lead-table _ _ _ (group_comma a) h = refl
lead-table _ _ _ (order_by k a b is) h = unlimited_clause k (unordered_clause k is)
lead-table _ _ _ (key_comma a) h = refl
lead-table _ _ _ (limit_to k a is) h = unlimited_clause k is

lead-begin : (k : Clause) (lead : List Word) (s : Slot) → Leads k lead s → s ≡ slot.List → is_begin k ≡ true
lead-begin _ _ _ (select a) h = refl
lead-begin _ _ _ (item_comma a) h = absurd cc
lead-begin _ _ _ (from k a is) h = absurd cc
lead-begin _ _ _ (join k a is) h = absurd cc
lead-begin _ _ _ (on a) h = absurd cc
lead-begin _ _ _ (and_on a) h = absurd cc
lead-begin _ _ _ (filter k a is) h = absurd cc
lead-begin _ _ _ (and a) h = absurd cc
lead-begin _ _ _ (group_by k a b is) h = absurd cc
lead-begin _ _ _ (group_comma a) h = absurd cc
lead-begin _ _ _ (order_by k a b is) h = absurd cc
lead-begin _ _ _ (key_comma a) h = absurd cc
lead-begin _ _ _ (limit_to k a is) h = absurd cc

by_listed : (catalog : List CatalogTable) (raw : RawSelect) (k : KeyBy) (ws : List Word) → IsKeyBy catalog raw k ws
    → is_key_listed catalog raw k ≡ true
by_listed catalog raw _ _ (by_name a n) = refl
by_listed catalog raw _ _ (by_number a n is) = is

key_listed : (catalog : List CatalogTable) (raw : RawSelect) (k : RawKey) (ws : List Word) → IsKey catalog raw k ws
    → is_key_listed catalog raw k.by ≡ true
key_listed catalog raw _ _ (undirected k ws is) = by_listed catalog raw k ws is
key_listed catalog raw _ _ (rising a k ws is) = by_listed catalog raw k ws is
key_listed catalog raw _ _ (falling a k ws is) = by_listed catalog raw k ws is

snoc-turn : {T : Type 0} (f : T → Bool) (ys zs : List T) (b : Bool) → (list_all f ys ≡ true → list_all f zs ≡ true)
    → (b && list_all f ys) ≡ true → (b && list_all f zs) ≡ true
snoc-turn f ys zs true rest h = rest h
snoc-turn f ys zs false rest h = absurd (false_true h)

all-snoc : {T : Type 0} (f : T → Bool) (xs : List T) (x : T) → list_all f xs ≡ true → f x ≡ true → list_all f (xs ++ x ∷ []) ≡ true
all-snoc f [] x h is = ap (λ b. b && true) is
all-snoc f (y ∷ ys) x h is = snoc-turn f ys (ys ++ x ∷ []) (f y) (λ rest. all-snoc f ys x rest is) h

item_early : (s : Slot) → takes_item s ≡ true → is_late s ≡ false
item_early slot.List h = refl
item_early slot.Item h = refl
item_early slot.Table h = absurd cc
item_early slot.Joined h = absurd cc
item_early slot.On h = absurd cc
item_early slot.Test h = absurd cc
item_early slot.Group h = absurd cc
item_early slot.Key h = absurd cc
item_early slot.Limit h = absurd cc

table_early : (s : Slot) → takes_table s ≡ true → is_late s ≡ false
table_early slot.List h = absurd cc
table_early slot.Item h = absurd cc
table_early slot.Table h = refl
table_early slot.Joined h = refl
table_early slot.On h = absurd cc
table_early slot.Test h = absurd cc
table_early slot.Group h = absurd cc
table_early slot.Key h = absurd cc
table_early slot.Limit h = absurd cc

test_early : (s : Slot) → takes_test s ≡ true → is_late s ≡ false
test_early slot.List h = absurd cc
test_early slot.Item h = absurd cc
test_early slot.Table h = absurd cc
test_early slot.Joined h = absurd cc
test_early slot.On h = refl
test_early slot.Test h = refl
test_early slot.Group h = absurd cc
test_early slot.Key h = absurd cc
test_early slot.Limit h = absurd cc

test_behind : (s : Slot) → takes_test s ≡ true → is_behind s ≡ true
test_behind slot.List h = absurd cc
test_behind slot.Item h = absurd cc
test_behind slot.Table h = absurd cc
test_behind slot.Joined h = absurd cc
test_behind slot.On h = refl
test_behind slot.Test h = refl
test_behind slot.Group h = absurd cc
test_behind slot.Key h = absurd cc
test_behind slot.Limit h = absurd cc

table_begins : (s : Slot) → is_begin (table_clause s) ≡ false
table_begins slot.List = refl
table_begins slot.Item = refl
table_begins slot.Table = refl
table_begins slot.Joined = refl
table_begins slot.On = refl
table_begins slot.Test = refl
table_begins slot.Group = refl
table_begins slot.Key = refl
table_begins slot.Limit = refl

test_begins : (s : Slot) → is_begin (test_clause s) ≡ false
test_begins slot.List = refl
test_begins slot.Item = refl
test_begins slot.Table = refl
test_begins slot.Joined = refl
test_begins slot.On = refl
test_begins slot.Test = refl
test_begins slot.Group = refl
test_begins slot.Key = refl
test_begins slot.Limit = refl

item-room : (catalog : List CatalogTable) (k : Clause) (raw : RawSelect) (s : Slot) (lead : List Word) → IsKept catalog k raw → Leads k lead s
    → has_room raw s ≡ true → takes_item s ≡ true → nat_lt (length raw.items) ITEMS_MOST ≡ true
item-room catalog k raw slot.List lead kept leads room takes =
    ap (λ l. nat_lt (length l) ITEMS_MOST) (kept.no_items (lead-begin k lead slot.List leads refl))
item-room catalog k raw slot.Item lead kept leads room takes = room
item-room catalog k raw slot.Table lead kept leads room takes = absurd cc
item-room catalog k raw slot.Joined lead kept leads room takes = absurd cc
item-room catalog k raw slot.On lead kept leads room takes = absurd cc
item-room catalog k raw slot.Test lead kept leads room takes = absurd cc
item-room catalog k raw slot.Group lead kept leads room takes = absurd cc
item-room catalog k raw slot.Key lead kept leads room takes = absurd cc
item-room catalog k raw slot.Limit lead kept leads room takes = absurd cc

kept-more : (catalog : List CatalogTable) (k : Clause) (raw : RawSelect) (s : Slot) (x : RawPart) (lead vs : List Word) → IsKept catalog k raw
    → Leads k lead s → has_room raw s ≡ true → IsPart catalog raw s x vs → IsKept catalog (clause_of s x) (added raw x)
kept-more catalog k raw _ _ lead _ kept leads room (all a) =
    let none : raw.keys ≡ [] = kept.no_keys (lead-early k lead slot.List leads refl) in
    record {
      some_table = λ h. absurd (false_true h);
      groups = kept.groups;
      items = kept.items;
      no_items = λ h. absurd (false_true h);
      no_keys = λ h. none;
      listed = none_listed catalog (record raw { all = Some a }) raw.keys none;
    }
kept-more catalog k raw _ _ lead _ kept leads room (item s i ws takes is) =
    let none : raw.keys ≡ [] = kept.no_keys (lead-early k lead s leads (item_early s takes)) in
    record {
      some_table = λ h. absurd (false_true h);
      groups = kept.groups;
      items = snoc-within raw.items i ITEMS_MOST (item-room catalog k raw s lead kept leads room takes);
      no_items = λ h. absurd (false_true h);
      no_keys = λ h. none;
      listed = none_listed catalog (record raw { items = raw.items ++ i ∷ [] }) raw.keys none;
    }
kept-more catalog k raw _ _ lead _ kept leads room (table s t ws takes is) =
    let none : raw.keys ≡ [] = kept.no_keys (lead-early k lead s leads (table_early s takes)) in
    record {
      some_table = λ h. omega (arith, length-append raw.tables (t ∷ []));
      groups = kept.groups;
      items = kept.items;
      no_items = λ h. absurd (false_true (sym (table_begins s) ∙ h));
      no_keys = λ h. none;
      listed = none_listed catalog (record raw { tables = raw.tables ++ t ∷ [] }) raw.keys none;
    }
kept-more catalog k raw _ _ lead _ kept leads room (test s t ws takes is) =
    let none : raw.keys ≡ [] = kept.no_keys (lead-early k lead s leads (test_early s takes)) in
    record {
      some_table = λ h. kept.some_table (lead-table k lead s leads (test_behind s takes));
      groups = kept.groups;
      items = kept.items;
      no_items = λ h. absurd (false_true (sym (test_begins s) ∙ h));
      no_keys = λ h. none;
      listed = none_listed catalog (added raw (part.Test t)) raw.keys none;
    }
kept-more catalog k raw _ _ lead _ kept leads room (group a r ws is) =
    let none : raw.keys ≡ [] = kept.no_keys (lead-early k lead slot.Group leads refl) in
    record {
      some_table = λ h. kept.some_table (lead-table k lead slot.Group leads refl);
      groups = snoc-within raw.groups r GROUP_COLUMNS_MOST room;
      items = kept.items;
      no_items = λ h. absurd (false_true h);
      no_keys = λ h. none;
      listed = none_listed catalog (record raw { groups = raw.groups ++ r ∷ [] }) raw.keys none;
    }
kept-more catalog k raw _ _ lead _ kept leads room (key x ws is) = record {
  some_table = λ h. kept.some_table (lead-table k lead slot.Key leads refl);
  groups = kept.groups;
  items = kept.items;
  no_items = λ h. absurd (false_true h);
  no_keys = λ h. absurd (true_false h);
  listed = all-snoc (λ y. is_key_listed catalog raw y.by) raw.keys x kept.listed (key_listed catalog raw x ws is);
}
kept-more catalog k raw _ _ lead _ kept leads room (limit a n is) = record {
  some_table = λ h. kept.some_table (lead-table k lead slot.Limit leads refl);
  groups = kept.groups;
  items = kept.items;
  no_items = λ h. absurd (false_true h);
  no_keys = λ h. absurd (true_false h);
  listed = kept.listed;
}

pub select-kept : (catalog : List CatalogTable) (k : Clause) (raw : RawSelect) (ws : List Word) → IsSelect catalog k raw ws
    → IsKept catalog k raw
select-kept catalog _ _ _ nothing = record {
  some_table = λ h. absurd (false_true h);
  groups = omega arith;
  items = omega arith;
  no_items = λ h. refl;
  no_keys = λ h. refl;
  listed = refl;
}
select-kept catalog _ _ _ (more k raw s x ws lead vs so_far leads room is) =
    kept-more catalog k raw s x lead vs (select-kept catalog k raw ws so_far) leads room is

whole-raw : (catalog : List CatalogTable) (k : Clause) (raw : RawSelect) (ws : List Word) → IsSelect catalog k raw ws → is_whole k ≡ true
    → IsRaw catalog raw
whole-raw catalog k raw ws so_far whole =
    let kept = select-kept catalog k raw ws so_far in
    record {
      some_table = kept.some_table (whole_clause k whole);
      few_items = kept.items;
      few_groups = kept.groups;
      listed = kept.listed;
    }

pub spells-raw : (catalog : List CatalogTable) (ws : List Word) (raw : RawSelect) → Spells catalog ws raw → IsRaw catalog raw
spells-raw catalog _ _ (unended k raw ws so_far whole) = whole-raw catalog k raw ws so_far whole
spells-raw catalog _ _ (ended k raw a ws so_far whole) = whole-raw catalog k raw ws so_far whole

-- rows that were given to a batch or to a table of groups
use Rattle.std.proofs.Common.{◌≡◌, ℕ, ◌+◌, ◌<◌, ◌≤◌, ◌^◌, true, false, ◌&&◌, le-leb, Option, Some, None, Result, Ok, Err, List, [], ◌∷◌, ◌++◌, map, length, sym, ap, ◌∙◌, subst, arith}
use Rattle.std.specs.Prelude.{ℤ, OnOk, IfErr}
use Rattle.std.proofs.lemmas.List.{map-append}
use Rattle.std.proofs.lemmas.List.Sums.{sum_by-append, sum_by-cons}
use Rattle.rm_base.specs.declared.select.GroupSpec.{GroupSpec}
use Rattle.rm_base.specs.declared.select.Item.{Item}
use Rattle.rm_base.specs.declared.select.OrderSpec.{OrderSpec}
use Rattle.rm_base.specs.declared.select.Select.{Select}
use Rattle.rm_base.specs.declared.value.Value.{Value}
use Rattle.rm_base.specs.Values.{row_measure, rows_measure}
use Rattle.rm_rules.specs.AllFits.{group_rows_fit, groups_charge, result_fits}
use Rattle.rm_rules.specs.Grouping.{first_bad, grouped}
use Rattle.rm_rules.specs.Meaning.{answer_of, meant, meant_groups, meant_of, shown}
use Rattle.rm_rules.specs.Ordering.{in_order}
use Rattle.spill_files.specs.declared.error.RunError.{RunError}
use Rattle.spill_files.specs.declared.error.RunError.TheVariants.{NeedsSpill}
use Rattle.grouping.specs.Batching.{Batched, Takes}
use Rattle.grouping.specs.Gathering.{Gathered, gathered}
use Rattle.query_run.specs.declared.gathering.Gathering.{Gathering}
use Rattle.query_run.specs.declared.gathering.Gathering.TheVariants.{Shown, Grouped}
use Rattle.query_run.specs.Gathering.{Batches, Gathers, GivesFew, Groups, HasFewItems, gathered_charge, spec_of}
use Rattle.query_run.proofs.Staged.{and_false}

-- ---- a batch

pub batch_none : (select : Select) (room : ℕ) (batch : Batched) → select.groups ≡ None → Takes select.order [] batch → batch.room ≡ room
    → Batches select room [] batch
batch_none select room batch plain takes same = record { plain = plain; room_is = same; takes = takes; fits = omega arith }

shown_more : (items : List Item) (rows : List (List Value)) (row : List Value) → map (shown items) (rows ++ row ∷ []) ≡ map (shown items) rows ++ shown items row ∷ []
shown_more items rows row = map-append (shown items) rows (row ∷ [])

measure_more : (items : List Item) (rows : List (List Value)) (row : List Value)
    → rows_measure (map (shown items) (rows ++ row ∷ [])) ≡ rows_measure (map (shown items) rows) + row_measure (shown items row)
measure_more items rows row =
    omega (arith, ap rows_measure (shown_more items rows row), sum_by-append row_measure (map (shown items) rows) (shown items row ∷ []), sum_by-cons row_measure (shown items row) [])

pub batch_more : (select : Select) (room : ℕ) (rows : List (List Value)) (row : List Value) (old new : Batched) → Batches select room rows old
    → Takes select.order (map (shown select.items) rows ++ shown select.items row ∷ []) new → new.room ≡ old.room
    → old.charge + row_measure (shown select.items row) ≤ old.room → Batches select room (rows ++ row ∷ []) new
batch_more select room rows row old new given takes same fits = record {
  plain = given.plain;
  room_is = same ∙ given.room_is;
  takes = subst (λ l. Takes select.order l new) (sym (shown_more select.items rows row)) takes;
  fits = omega (arith, measure_more select.items rows row, given.takes.charge, given.room_is, fits);
}

pub batch_added : {T : Type 0} (r : Result T RunError) (select : Select) (items : List Item) (room : ℕ) (rows : List (List Value)) (row : List Value) (old new : Batched) → items ≡ select.items
    → Batches select room rows old
    → ((order : OrderSpec) (before : List (List Value)) → Takes order before old → OnOk r (Takes order (before ++ shown items row ∷ []) new)) → new.room ≡ old.room
    → OnOk r (old.charge + row_measure (shown items row) ≤ old.room) → OnOk r (Batches select room (rows ++ row ∷ []) new)
batch_added (Ok x) select items room rows row old new these given takes same fits =
    batch_more select room rows row old new given
    (subst (λ is. Takes select.order (map (shown select.items) rows ++ shown is row ∷ []) new) these (takes select.order (map (shown select.items) rows) given.takes)) same
    (subst (λ is. old.charge + row_measure (shown is row) ≤ old.room) these fits)
batch_added (Err e) select items room rows row old new these given takes same fits = tt

plain_charge : (select : Select) (rows : List (List Value)) → select.groups ≡ None → gathered_charge select.items select.groups rows ≡ rows_measure (map (shown select.items) rows)
plain_charge select rows plain = ap (λ (groups : Option (List ℕ)). gathered_charge select.items groups rows) plain

pub batch_beyond : {T : Type 0} (r : Result T RunError) (select : Select) (room : ℕ) (rows : List (List Value)) (row : List Value) (old : Batched) → Batches select room rows old
    → IfErr r (λ e. e ≡ NeedsSpill → old.room < old.charge + row_measure (shown select.items row))
    → IfErr r (λ e. e ≡ NeedsSpill → room < gathered_charge select.items select.groups (rows ++ row ∷ []))
batch_beyond (Ok x) select room rows row old given beyond = tt
batch_beyond (Err e) select room rows row old given beyond =
    λ same. omega (arith, plain_charge select (rows ++ row ∷ []) given.plain, measure_more select.items rows row, given.takes.charge, given.room_is, beyond same)

-- ---- a table of groups

pub groups_none : (select : Select) (room : ℕ) (keys columns : List ℕ) (items : List Item) (groups : Gathered) → select.groups ≡ Some keys → columns ≡ keys → items ≡ select.items
    → groups ≡ gathered (record { keys = columns; items = items }) room [] → groups_charge (record { keys = columns; items = items }) [] ≤ room
    → Groups select room [] groups
groups_none select room keys columns items groups grouped same these are fits = record {
  keys = keys;
  grouped = grouped;
  are = are ∙ (λ i. gathered (record { keys = same i; items = these i }) room []);
  fits = subst (λ n. n ≤ room) (λ i. groups_charge (record { keys = same i; items = these i }) []) fits;
}

pub groups_beyond : (select : Select) (room : ℕ) (keys columns : List ℕ) (items : List Item) → select.groups ≡ Some keys → columns ≡ keys → items ≡ select.items
    → room < groups_charge (record { keys = columns; items = items }) [] → room < gathered_charge select.items select.groups []
groups_beyond select room keys columns items grouped same these beyond =
    subst (λ n. room < n)
    ((λ i. groups_charge (record { keys = same i; items = these i }) []) ∙ ap (λ (groups : Option (List ℕ)). gathered_charge select.items groups []) (sym grouped)) beyond

pub own_room : (select : Select) (room : ℕ) (rows : List (List Value)) (old : Gathered) → (given : Groups select room rows old)
    → old ≡ gathered (spec_of select.items given.keys) old.room rows
own_room select room rows old given =
    given.are ∙ ap (λ n. gathered (spec_of select.items given.keys) n rows) (sym (ap (λ (g : Gathered). g.room) given.are))

pub groups_added : {T : Type 0} (r : Result T RunError) (select : Select) (room : ℕ) (rows : List (List Value)) (row : List Value) (old new : Gathered) → Groups select room rows old
    → ((spec : GroupSpec) (before : List (List Value)) → length before < 2 ^ 63 → old ≡ gathered spec old.room before → OnOk r (new ≡ gathered spec old.room (before ++ row ∷ [])))
    → ((spec : GroupSpec) (before : List (List Value)) → old ≡ gathered spec old.room before → OnOk r (groups_charge spec (before ++ row ∷ []) ≤ old.room))
    → length rows < 2 ^ 63 → OnOk r (Groups select room (rows ++ row ∷ []) new)
groups_added (Ok x) select room rows row old new given ok fits few =
    let spec = spec_of select.items given.keys in
    let same : old.room ≡ room = ap (λ (g : Gathered). g.room) given.are in
    let own = own_room select room rows old given in
    record {
      keys = given.keys;
      grouped = given.grouped;
      are = ok spec rows few own ∙ ap (λ n. gathered spec n (rows ++ row ∷ [])) same;
      fits = subst (λ n. groups_charge spec (rows ++ row ∷ []) ≤ n) same (fits spec rows own);
    }
groups_added (Err e) select room rows row old new given ok fits few = tt

grouped_charge : (select : Select) (keys : List ℕ) (rows : List (List Value)) → select.groups ≡ Some keys
    → gathered_charge select.items select.groups rows ≡ groups_charge (spec_of select.items keys) rows
grouped_charge select keys rows grouped = ap (λ (groups : Option (List ℕ)). gathered_charge select.items groups rows) grouped

pub groups_spilled : {T : Type 0} (r : Result T RunError) (select : Select) (room : ℕ) (rows : List (List Value)) (row : List Value) (old : Gathered) → Groups select room rows old
    → ((spec : GroupSpec) (before : List (List Value)) → old ≡ gathered spec old.room before → IfErr r (λ e. e ≡ NeedsSpill → old.room < groups_charge spec (before ++ row ∷ [])))
    → IfErr r (λ e. e ≡ NeedsSpill → room < gathered_charge select.items select.groups (rows ++ row ∷ []))
groups_spilled (Ok x) select room rows row old given spills = tt
groups_spilled (Err e) select room rows row old given spills =
    let spec = spec_of select.items given.keys in
    let same : old.room ≡ room = ap (λ (g : Gathered). g.room) given.are in
    λ is. omega (arith, grouped_charge select given.keys (rows ++ row ∷ []) given.grouped, same, spills spec rows (own_room select room rows old given) is)

-- ---- ends

pub batch_fits : (select : Select) (room : ℕ) (rows : List (List Value)) (batch : Batched) → Batches select room rows batch
    → result_fits room select.items select.groups rows ≡ true
batch_fits select room rows batch given =
    ap (λ (groups : Option (List ℕ)). result_fits room select.items groups rows) given.plain ∙ le-leb _ room given.fits

pub batch_meant : (select : Select) (room : ℕ) (rows : List (List Value)) (batch : Batched) → Batches select room rows batch
    → meant select rows ≡ answer_of (in_order select.order (map (shown select.items) rows))
batch_meant select room rows batch given = ap (λ (groups : Option (List ℕ)). meant_of select.items select.order groups rows) given.plain

pub groups_fit : (select : Select) (room : ℕ) (rows : List (List Value)) (groups : Gathered) → (given : Groups select room rows groups)
    → group_rows_fit groups.room (first_bad (spec_of select.items given.keys) rows) (grouped (spec_of select.items given.keys) rows) ≡ true
    → result_fits room select.items select.groups rows ≡ true
groups_fit select room rows groups given fits =
    let same : groups.room ≡ room = ap (λ (g : Gathered). g.room) given.are in
    let spec = spec_of select.items given.keys in
    ap (λ (gs : Option (List ℕ)). result_fits room select.items gs rows) given.grouped
    ∙ (λ i. le-leb (groups_charge spec rows) room given.fits i && (ap (λ n. group_rows_fit n (first_bad spec rows) (grouped spec rows)) (sym same) ∙ fits) i)

pub groups_unfit : (select : Select) (room : ℕ) (rows : List (List Value)) (groups : Gathered) → (given : Groups select room rows groups)
    → group_rows_fit groups.room (first_bad (spec_of select.items given.keys) rows) (grouped (spec_of select.items given.keys) rows) ≡ false
    → result_fits room select.items select.groups rows ≡ false
groups_unfit select room rows groups given unfit =
    let same : groups.room ≡ room = ap (λ (g : Gathered). g.room) given.are in
    let spec = spec_of select.items given.keys in
    ap (λ (gs : Option (List ℕ)). result_fits room select.items gs rows) given.grouped
    ∙ and_false _ _ (ap (λ n. group_rows_fit n (first_bad spec rows) (grouped spec rows)) (sym same) ∙ unfit)

pub groups_meant : (select : Select) (room : ℕ) (rows : List (List Value)) (groups : Gathered) → (given : Groups select room rows groups)
    → meant select rows ≡ meant_groups (first_bad (spec_of select.items given.keys) rows) select.order (grouped (spec_of select.items given.keys) rows)
groups_meant select room rows groups given = ap (λ (gs : Option (List ℕ)). meant_of select.items select.order gs rows) given.grouped

some_not_none : {X : Type 0} (o : Option X) (x : X) → o ≡ Some x → ◌≡◌ {A = Option X} o None → ⊥
some_not_none o x some none = cc

pub gives_few : (select : Select) (room : ℕ) (rows : List (List Value)) (gathering : Gathering) → Gathers select room rows gathering → HasFewItems select → GivesFew gathering
gives_few select room rows (Shown batch) given few = tt
gives_few select room rows (Grouped groups) given few =
    omega (arith, ap (λ (g : Gathered). length g.spec.items) given.are, few (λ none. some_not_none select.groups given.keys given.grouped none))

pub groups_end : (order : OrderSpec) (spec : GroupSpec) (rows ordered : List (List Value)) → first_bad spec rows ≡ None → ordered ≡ in_order order (grouped spec rows)
    → meant_groups (first_bad spec rows) order (grouped spec rows) ≡ answer_of ordered
groups_end order spec rows ordered none is =
    ap (λ (bad : Option (ℕ × ℤ)). meant_groups bad order (grouped spec rows)) none ∙ ap answer_of (sym is)

pub always : {T P : Type 0} (r : Result T RunError) → P → OnOk r P
always (Ok x) h = h
always (Err e) h = tt

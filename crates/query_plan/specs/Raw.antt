-- a SELECT as its text has it, part by part
use Rattle.std.specs.Prelude.{Bool, true, nat_lt, Some, None, [], ◌∷◌, ◌++◌, length}
use Rattle.rm_base.specs.declared.limits.TheConstants.{GROUP_COLUMNS_MOST, ITEMS_MOST, ORDER_KEYS_MOST, TESTS_MOST}
use Rattle.query_plan.specs.declared.raw.RawPart.{RawPart}
use Rattle.query_plan.specs.declared.raw.RawPart.TheVariants as part
use Rattle.query_plan.specs.declared.raw.RawSelect.{RawSelect}
use Rattle.query_plan.specs.declared.raw.Slot.{Slot}
use Rattle.query_plan.specs.declared.raw.Slot.TheVariants as slot

-- nothing is read yet
abbrev pub empty : RawSelect
empty = record { all = None; items = []; tables = []; tests = []; groups = []; keys = []; limit = None }

-- one part more
abbrev pub added : RawSelect → RawPart → RawSelect
added raw (part.All place) = record raw { all = Some place }
added raw (part.Item item) = record raw { items = raw.items ++ item ∷ [] }
added raw (part.Table table) = record raw { tables = raw.tables ++ table ∷ [] }
added raw (part.Test test) =
    record raw { tests = raw.tests ++ record { test = test; tables = length raw.tables } ∷ [] }
added raw (part.Group column) = record raw { groups = raw.groups ++ column ∷ [] }
added raw (part.Key key) = record raw { keys = raw.keys ++ key ∷ [] }
added raw (part.Limit rows) = record raw { limit = Some rows }

-- there may be one more of what is due
abbrev pub has_room : RawSelect → Slot → Bool
has_room raw slot.List = true
has_room raw slot.Item = nat_lt (length raw.items) ITEMS_MOST
has_room raw slot.Table = true
has_room raw slot.Joined = true
has_room raw slot.On = nat_lt (length raw.tests) TESTS_MOST
has_room raw slot.Test = nat_lt (length raw.tests) TESTS_MOST
has_room raw slot.Group = nat_lt (length raw.groups) GROUP_COLUMNS_MOST
has_room raw slot.Key = nat_lt (length raw.keys) ORDER_KEYS_MOST
has_room raw slot.Limit = true

-- How a refusal is written: its number, and its values, each after one space.
use Rattle.std.specs.Prelude.{ℕ, List, [], ◌∷◌, ◌++◌, codes}
use Rattle.std.specs.Fmt.{decimal}
use Rattle.rm_base.specs.declared.refusal.CapKind.{CapKind}
use Rattle.rm_base.specs.declared.refusal.CapKind.TheVariants as cap
use Rattle.rm_base.specs.declared.refusal.Parameter.{Parameter}
use Rattle.rm_base.specs.declared.refusal.Parameter.TheVariants as parameter
use Rattle.rm_base.specs.declared.refusal.TableKind.{TableKind}
use Rattle.rm_base.specs.declared.refusal.TableKind.TheVariants as table
use Rattle.rm_base.specs.declared.refusal.Refusal.{Refusal}
use Rattle.rm_base.specs.declared.refusal.Refusal.TheVariants as refusal
use Rattle.rm_base.specs.declared.refusal_value.RefusalValue.{RefusalValue}
use Rattle.rm_base.specs.declared.refusal_value.RefusalValue.TheVariants as value
use Rattle.rm_base.specs.declared.reply.CapOwner.{CapOwner}
use Rattle.rm_base.specs.declared.reply.CapOwner.TheVariants as owner
use Rattle.rm_base.specs.Name.{name_text}

-- whose cap on a query's memory is the least
abbrev pub cap_kind_text : CapKind → List ℕ
cap_kind_text cap.Pool = codes "pool"
cap_kind_text cap.Query = codes "query"
cap_kind_text cap.User = codes "user"

-- whose runtime cap a query has exceeded
abbrev pub cap_owner_text : CapOwner → List ℕ
cap_owner_text owner.User = codes "user"
cap_owner_text owner.Session = codes "session"
cap_owner_text owner.Pool = codes "pool"

-- a table of the definitions
abbrev pub table_kind_text : TableKind → List ℕ
table_kind_text table.Pools = codes "pools"
table_kind_text table.Users = codes "users"
table_kind_text table.Roles = codes "roles"
table_kind_text table.Grants = codes "grants"
table_kind_text table.Changes = codes "changes"

-- a parameter's key word, in capitals
abbrev pub parameter_text : Parameter → List ℕ
parameter_text parameter.MemorySize = codes "MEMORYSIZE"
parameter_text parameter.MaxMemorySize = codes "MAXMEMORYSIZE"
parameter_text parameter.MaxQueryMemorySize = codes "MAXQUERYMEMORYSIZE"
parameter_text parameter.ExecutionParallelism = codes "EXECUTIONPARALLELISM"
parameter_text parameter.Priority = codes "PRIORITY"
parameter_text parameter.RuntimePriority = codes "RUNTIMEPRIORITY"
parameter_text parameter.RuntimePriorityThreshold = codes "RUNTIMEPRIORITYTHRESHOLD"
parameter_text parameter.QueueTimeout = codes "QUEUETIMEOUT"
parameter_text parameter.PlannedConcurrency = codes "PLANNEDCONCURRENCY"
parameter_text parameter.MaxConcurrency = codes "MAXCONCURRENCY"
parameter_text parameter.RuntimeCap = codes "RUNTIMECAP"
parameter_text parameter.Cascade = codes "CASCADE"
parameter_text parameter.ResourcePool = codes "RESOURCE"
parameter_text parameter.MemoryCap = codes "MEMORYCAP"

-- a value of a refusal
abbrev pub refusal_value_text : RefusalValue → List ℕ
refusal_value_text (value.Number number) = decimal number
refusal_value_text (value.Name name) = name_text name
refusal_value_text (value.Parameter named) = parameter_text named
refusal_value_text (value.Cap which) = cap_kind_text which
refusal_value_text (value.Table kind) = table_kind_text kind

-- a refusal's number, from 1 on in the order of the variants
abbrev pub refusal_number : Refusal → ℕ
refusal_number (refusal.Syntax place) = 1
refusal_number (refusal.UnknownParameter place) = 2
refusal_number (refusal.Repeated named) = 3
refusal_number (refusal.NotSupported place) = 4
refusal_number (refusal.Range named) = 5
refusal_number refusal.NameTaken = 6
refusal_number (refusal.NoSuchPool pool) = 7
refusal_number (refusal.NoSuchUser user) = 8
refusal_number (refusal.NoSuchRole role) = 9
refusal_number refusal.BuiltIn = 10
refusal_number (refusal.MaxBelowMemory max memory) = 11
refusal_number (refusal.GeneralTooSmall left least) = 12
refusal_number (refusal.NoSuchTarget pool) = 13
refusal_number (refusal.CascadeLoop pool) = 14
refusal_number (refusal.ChainTooLong pools) = 15
refusal_number (refusal.Dependents pool) = 16
refusal_number (refusal.TableFull kind count) = 17
refusal_number (refusal.NotGranted pool) = 18
refusal_number (refusal.TooLarge which floor most) = 19
refusal_number refusal.NoSuchSession = 20
refusal_number refusal.SessionBusy = 21
refusal_number refusal.NotLive = 22
refusal_number (refusal.NoUsage pool) = 23
refusal_number (refusal.SessionsFull most) = 24
refusal_number (refusal.JournalFull room) = 25
refusal_number (refusal.NoSuchTable table) = 26
refusal_number (refusal.NoSuchColumn column) = 27
refusal_number (refusal.Ambiguous name) = 28
refusal_number (refusal.TypeClash place) = 29
refusal_number (refusal.NotGrouped place) = 30
refusal_number (refusal.TooManyTables most) = 31

-- what it was refused for
abbrev pub refusal_values : Refusal → List RefusalValue
refusal_values (refusal.Syntax place) = value.Number place ∷ []
refusal_values (refusal.UnknownParameter place) = value.Number place ∷ []
refusal_values (refusal.Repeated named) = value.Parameter named ∷ []
refusal_values (refusal.NotSupported place) = value.Number place ∷ []
refusal_values (refusal.Range named) = value.Parameter named ∷ []
refusal_values refusal.NameTaken = []
refusal_values (refusal.NoSuchPool pool) = value.Name pool ∷ []
refusal_values (refusal.NoSuchUser user) = value.Name user ∷ []
refusal_values (refusal.NoSuchRole role) = value.Name role ∷ []
refusal_values refusal.BuiltIn = []
refusal_values (refusal.MaxBelowMemory max memory) = value.Number max ∷ value.Number memory ∷ []
refusal_values (refusal.GeneralTooSmall left least) = value.Number left ∷ value.Number least ∷ []
refusal_values (refusal.NoSuchTarget pool) = value.Name pool ∷ []
refusal_values (refusal.CascadeLoop pool) = value.Name pool ∷ []
refusal_values (refusal.ChainTooLong pools) = value.Number pools ∷ []
refusal_values (refusal.Dependents pool) = value.Name pool ∷ []
refusal_values (refusal.TableFull kind count) = value.Table kind ∷ value.Number count ∷ []
refusal_values (refusal.NotGranted pool) = value.Name pool ∷ []
refusal_values (refusal.TooLarge which floor most) = value.Cap which ∷ value.Number floor ∷ value.Number most ∷ []
refusal_values refusal.NoSuchSession = []
refusal_values refusal.SessionBusy = []
refusal_values refusal.NotLive = []
refusal_values (refusal.NoUsage pool) = value.Name pool ∷ []
refusal_values (refusal.SessionsFull most) = value.Number most ∷ []
refusal_values (refusal.JournalFull room) = value.Number room ∷ []
refusal_values (refusal.NoSuchTable table) = value.Name table ∷ []
refusal_values (refusal.NoSuchColumn column) = value.Name column ∷ []
refusal_values (refusal.Ambiguous name) = value.Name name ∷ []
refusal_values (refusal.TypeClash place) = value.Number place ∷ []
refusal_values (refusal.NotGrouped place) = value.Number place ∷ []
refusal_values (refusal.TooManyTables most) = value.Number most ∷ []

-- each value after one space
abbrev pub values_text : List RefusalValue → List ℕ
values_text [] = []
values_text (v ∷ vs) = codes " " ++ (refusal_value_text v ++ values_text vs)

-- `refused`, the number, and the values
abbrev pub refusal_text : Refusal → List ℕ
refusal_text r = codes "refused " ++ (decimal (refusal_number r) ++ values_text (refusal_values r))

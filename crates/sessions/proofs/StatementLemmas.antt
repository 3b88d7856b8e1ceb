-- What the line of an accepted statement does.
use Rattle.std.proofs.Common.{◌≡◌, leb, Result, Ok, Err, refl, sym, ap, ◌∙◌}
use Rattle.std.specs.Prelude.{IfOk}
use Rattle.std.specs.Result.{IsOk}
use Rattle.std.proofs.lemmas.Bool.{false≢true, leb-true}
use Rattle.rm_base.specs.declared.limits.TheConstants.{MEMORY_LEAST, MEMORY_MOST, CORES_MOST}
use Rattle.rm_base.specs.declared.definitions.Definitions.{Definitions}
use Rattle.rm_base.specs.declared.event.Event.TheVariants as event
use Rattle.rm_base.specs.declared.refusal.Refusal.{Refusal}
use Rattle.rm_base.specs.declared.statement.Statement.{Statement}
use Rattle.rm_rules.specs.Acceptance.{accepted}
use Rattle.rm_outside.specs.Ranges.{IsInRange}
use Rattle.rm_outside.specs.Stored.{StoredRows, rows_of}
use Rattle.rm_rules.specs.Sound.{IsSound}
use Rattle.rm_rules.proofs.Taken.{and_left, and_right}
use Rattle.sessions.specs.declared.failure.Failure.{Failure}
use Rattle.sessions.specs.declared.failure.Failure.TheVariants.{Memory}
use Rattle.sessions.specs.Running.{SeenKeeper, IsStoredBy, IsCommitFault, IsStatementFault}
use Rattle.sessions.proofs.DefinedLaws.{statement-definitions}
use Rattle.sessions.specs.Turns.{ScriptState, called, judged_turn, statement_turn}
use Rattle.sessions.specs.Texts.{bare_text}

judged-ok : (s : ScriptState) (statement : Statement) (r : Result Definitions Refusal) → IsOk r → judged_turn s statement r ≡ called s (event.Define statement) bare_text
judged-ok s statement (Ok d) ok = refl
judged-ok s statement (Err refusal) ok = absurd (false≢true ok)

pub statement-ok : (s : ScriptState) (statement : Statement) → IsOk (accepted s.machine.definitions statement)
    → statement_turn s statement ≡ called s (event.Define statement) bare_text
statement-ok s statement ok = judged-ok s statement (accepted s.machine.definitions statement) ok

-- what such a line leaves stored
stored-accepted : (s : ScriptState) (statement : Statement) (rows : StoredRows) (r : Result Definitions Refusal) → accepted s.machine.definitions statement ≡ r → IsOk r
    → IfOk r (λ next. rows ≡ rows_of next) → IsStoredBy s.machine.definitions (judged_turn s statement r) rows
stored-accepted s statement rows (Ok next) is ok h = h ∙ ap rows_of (sym (statement-definitions s.machine s.moment statement next is))
stored-accepted s statement rows (Err refusal) is ok h = absurd (false≢true ok)

pub statement-stored : (s : ScriptState) (statement : Statement) (rows : StoredRows) → IsOk (accepted s.machine.definitions statement)
    → IfOk (accepted s.machine.definitions statement) (λ next. rows ≡ rows_of next) → IsStoredBy s.machine.definitions (statement_turn s statement) rows
statement-stored s statement rows ok h = stored-accepted s statement rows (accepted s.machine.definitions statement) refl ok h

-- why an accepted statement may end a script, and that want of memory may end each
pub accepted-fault : (r : Result Definitions Refusal) (old new : SeenKeeper) (f : Failure) → IsOk r → IsCommitFault old new f → IsStatementFault r old new f
accepted-fault (Ok left) old new f ok h = h
accepted-fault (Err refusal) old new f ok h = absurd (false≢true ok)

pub memory-fault : (r : Result Definitions Refusal) (old new : SeenKeeper) → IsStatementFault r old new Memory
memory-fault (Ok left) old new = tt
memory-fault (Err refusal) old new = refl

-- definitions that are sound can be stored
pub sound-in_range : (d : Definitions) → IsSound d → IsInRange d
sound-in_range d s = record {
  memory_least = leb-true MEMORY_LEAST d.memory (and_left (leb MEMORY_LEAST d.memory) _ s.memory);
  memory_most = leb-true d.memory MEMORY_MOST (and_right (leb MEMORY_LEAST d.memory) _ s.memory);
  cores_least = leb-true 1 d.cores (and_left (leb 1 d.cores) _ s.cores);
  cores_most = leb-true d.cores CORES_MOST (and_right (leb 1 d.cores) _ s.cores);
  changes = s.changes;
  pools = s.pools_in_range;
  users = s.users_in_range;
}

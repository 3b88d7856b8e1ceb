-- What each end of a script says of its status, and of what was read and written.
use Rattle.std.proofs.Common.{◌≡◌, ◌≢◌, ◌⊎◌, inl, inr, ℕ, ◌≤◌, ◌<◌, true, false, cond, eqb, ltb, List, length, Option, Some, None, Result, Ok, Err, refl, sym, ap, ◌∙◌, subst, arith, length-append}
use Rattle.std.specs.Option.{IsSome, IfSome}
use Rattle.std.specs.Io.KnownBytes.{IsAtEnd}
use Rattle.std.proofs.lemmas.Bool.{false≢true}
use Rattle.std.proofs.lemmas.Bool.Decides.{nat_tests}
use Rattle.rm_base.specs.declared.limits.TheConstants.{SCRIPT_MOST}
use Rattle.sessions.specs.declared.failure.Failure.{Failure}
use Rattle.sessions.specs.declared.failure.Failure.TheVariants.{Usage, BadLine, ReadFault, ShelfFault, WriteFault, BadTable, OpenFault, CommitFault, Memory, TooLong, Unsound}
use Rattle.options.specs.declared.script.ScriptOptions.{ScriptOptions}
use Rattle.options.specs.declared.status.TheConstants.{DONE, USAGE, BAD_LINE, READ_FAULT, WRITE_FAULT, BAD_TABLE, KEEPER_FAULT, NO_MEMORY, TOO_LONG, UNSOUND}
use Rattle.sessions.specs.Ended.{WroteWhole, WrotePart, WroteNothing, WroteToTable, WroteToStatement, KeepsRows, HasNotOpened, with_rows, opens, EndsAs, HasEnded, IsRun}
use Rattle.sessions.specs.Running.{EndedWhole}
use Rattle.rm_outside.specs.Stored.{StoredRows}
use Rattle.sessions.specs.Failures.{status_of}
use Rattle.options.specs.Script.{script_options}
use Rattle.sessions.specs.Script.{ScriptEnd, no_script, opened_script}
use Rattle.sessions.specs.Transfers.{ReadFront, IsTooLong}
use Rattle.sessions.specs.World.{World, HasFailed, WhereTold, CountsNoFault}
use Rattle.sessions.proofs.EndedLemmas.{nothing_appended, same-some, short-turn, unopened-turn}
use Rattle.sessions.proofs.ScriptLaws.{one_history}
use Rattle.std.specs.Str.Lines.{lines}

-- how the run of a script ended
abbrev Ended : Type 0
Ended = Result (Unit {0}) Failure

-- a script that was read beyond its limit is too long
long-turn : (bytes : List ℕ) (now : Option (List ℕ)) → IsTooLong (Some bytes) now → SCRIPT_MOST < length bytes
long-turn bytes None h = absurd h.read
long-turn bytes (Some rest) h = omega (arith, h.long, ap length h.read, length-append h.bytes rest)

-- the rows that are left where none was stored
kept-rows : (stored : StoredRows) (old new : World) → (IsSome new.keeper.told → old.keeper.told ≡ Some stored) → KeepsRows old new → WhereTold new.keeper.told (λ rows. rows ≡ stored)
kept-rows stored old new told stays rows is =
    same-some rows stored (sym (stays rows is) ∙ told (subst (λ (q : Option StoredRows). IsSome q) (sym is) refl))

-- an end before the first line, where nothing was written or stored
unbegun : (stored : StoredRows) (old new : World) (status : ℕ) → (IsSome new.keeper.told → old.keeper.told ≡ Some stored) → WroteNothing old new → KeepsRows old new
    → EndedWhole (no_script status stored) old.output.told new.output.told new.keeper.told status
unbegun stored old new status told kept stays =
    record { wrote = nothing_appended old.output.told new.output.told kept; same = refl; rows = kept-rows stored old new told stays }

long-exact : (o : Option ScriptOptions) (stored : StoredRows) (old new : World) → (IsSome new.keeper.told → old.keeper.told ≡ Some stored) → IsSome o → WroteNothing old new
    → IsTooLong old.input.told new.input.told → KeepsRows old new → WroteWhole (with_rows o stored) old new TOO_LONG
long-exact None stored old new told some kept long stays = absurd (false≢true some)
long-exact (Some o) stored old new told some kept long stays = λ bytes files given.
    let too : SCRIPT_MOST < length bytes = long-turn bytes new.input.told (subst (λ (q : Option (List ℕ)). IsTooLong q new.input.told) given.of_input long) in
    let is : ltb SCRIPT_MOST (length bytes) ≡ true = grind (arith, nat_tests) in
    let P : ScriptEnd → Type 0 = λ e. EndedWhole e old.output.told new.output.told new.keeper.told TOO_LONG in
    subst P (sym (ap (λ b. cond b (no_script TOO_LONG stored) (opened_script o (lines bytes) files stored)) is)) (unbegun stored old new TOO_LONG told kept stays)

unsound-exact : (o : Option ScriptOptions) (stored : StoredRows) (old new : World) → (IsSome new.keeper.told → old.keeper.told ≡ Some stored) → HasNotOpened o stored old new
    → WroteWhole (with_rows o stored) old new UNSOUND
unsound-exact None stored old new told h = absurd (false≢true h.known)
unsound-exact (Some o) stored old new told h = λ bytes files given.
    let fits : length bytes ≤ SCRIPT_MOST = subst (λ (q : Option (List ℕ)). IfSome q (λ b. length b ≤ SCRIPT_MOST)) given.of_input h.short in
    let P : ScriptEnd → Type 0 = λ e. EndedWhole e old.output.told new.output.told new.keeper.told UNSOUND in
    subst P (sym (short-turn o bytes files stored fits ∙ unopened-turn o (lines bytes) files stored h.unsound)) (unbegun stored old new UNSOUND told h.nothing h.stays)

-- the headline: where no fault was counted and memory was not wanting, the text, the status and the rows are the script's
exact : (o : Option ScriptOptions) (stored : StoredRows) (old new : World) (r : Ended) → (IsSome new.keeper.told → old.keeper.told ≡ Some stored) → EndsAs o stored old new r
    → CountsNoFault old new → status_of r ≢ NO_MEMORY → WroteWhole (with_rows o stored) old new (status_of r)
exact o stored old new (Ok done) told h none memory = h.1
exact o stored old new (Err Usage) told h none memory =
    subst (λ (q : Option ScriptOptions). WroteWhole (with_rows q stored) old new USAGE) (sym h.0) (λ bytes files given. unbegun stored old new USAGE told h.1 h.2)
exact o stored old new (Err BadLine) told h none memory = h.1
exact o stored old new (Err ReadFault) told h none memory = absurd (none.input h.2)
exact o stored old new (Err ShelfFault) told h none memory = absurd (none.shelf h.2)
exact o stored old new (Err WriteFault) told h none memory = absurd (none.output h.2)
exact o stored old new (Err BadTable) told h none memory = h.1
exact o stored old new (Err OpenFault) told h none memory = absurd (none.keeper h.2)
exact o stored old new (Err CommitFault) told h none memory = absurd (none.keeper h.2)
exact o stored old new (Err Memory) told h none memory = absurd (memory refl)
exact o stored old new (Err TooLong) told h none memory = long-exact o stored old new told h.0 h.1 h.2 h.3
exact o stored old new (Err Unsound) told h none memory = unsound-exact o stored old new told h

some-none : {A : Type 0} (o : Option A) → IsSome o → o ≡ None → ⊥
some-none None some none = false≢true some
some-none (Some x) some none = absurd (cc)

outside : (o : Option ScriptOptions) (stored : StoredRows) (old new : World) (r : Ended) → EndsAs o stored old new r → o ≡ None → (status_of r ≡ USAGE) ⊎ (status_of r ≡ NO_MEMORY)
outside o stored old new (Ok done) h none = absurd (some-none o h.0.known none)
outside o stored old new (Err Usage) h none = inl refl
outside o stored old new (Err BadLine) h none = absurd (some-none o h.0.known none)
outside o stored old new (Err ReadFault) h none = absurd (some-none o h.0 none)
outside o stored old new (Err ShelfFault) h none = absurd (some-none o h.0.known none)
outside o stored old new (Err WriteFault) h none = absurd (some-none o h.0.known none)
outside o stored old new (Err BadTable) h none = absurd (some-none o h.0.known none)
outside o stored old new (Err OpenFault) h none = absurd (some-none o h.0 none)
outside o stored old new (Err CommitFault) h none = absurd (some-none o h.0.known none)
outside o stored old new (Err Memory) h none = inr refl
outside o stored old new (Err TooLong) h none = absurd (some-none o h.0 none)
outside o stored old new (Err Unsound) h none = absurd (some-none o h.known none)

known : (r : Ended) → (status_of r ≡ DONE) ⊎ ((status_of r ≡ USAGE) ⊎ ((status_of r ≡ BAD_LINE) ⊎ ((status_of r ≡ READ_FAULT) ⊎ ((status_of r ≡ WRITE_FAULT) ⊎ ((status_of r ≡ BAD_TABLE) ⊎ ((status_of r ≡ KEEPER_FAULT) ⊎ ((status_of r ≡ NO_MEMORY) ⊎ ((status_of r ≡ TOO_LONG) ⊎ (status_of r ≡ UNSOUND)))))))))
known (Ok done) = inl refl
known (Err Usage) = inr (inl refl)
known (Err BadLine) = inr (inr (inl refl))
known (Err ReadFault) = inr (inr (inr (inl refl)))
known (Err ShelfFault) = inr (inr (inr (inl refl)))
known (Err WriteFault) = inr (inr (inr (inr (inl refl))))
known (Err BadTable) = inr (inr (inr (inr (inr (inl refl)))))
known (Err OpenFault) = inr (inr (inr (inr (inr (inr (inl refl))))))
known (Err CommitFault) = inr (inr (inr (inr (inr (inr (inl refl))))))
known (Err Memory) = inr (inr (inr (inr (inr (inr (inr (inl refl)))))))
known (Err TooLong) = inr (inr (inr (inr (inr (inr (inr (inr (inl refl))))))))
known (Err Unsound) = inr (inr (inr (inr (inr (inr (inr (inr (inr refl))))))))

-- a script whose stored definitions are not sound is not run
abbrev NotOpened : ℕ → Type 0
NotOpened status = (status ≡ USAGE) ⊎ ((status ≡ READ_FAULT) ⊎ ((status ≡ NO_MEMORY) ⊎ ((status ≡ TOO_LONG) ⊎ ((status ≡ KEEPER_FAULT) ⊎ (status ≡ UNSOUND)))))

never_opened : (o : Option ScriptOptions) (stored : StoredRows) (old new : World) (r : Ended) → EndsAs o stored old new r → opens o stored ≡ false → NotOpened (status_of r)
never_opened o stored old new (Ok done) h unsound = absurd (false≢true (sym unsound ∙ h.0.opened))
never_opened o stored old new (Err Usage) h unsound = inl refl
never_opened o stored old new (Err BadLine) h unsound = absurd (false≢true (sym unsound ∙ h.0.opened))
never_opened o stored old new (Err ReadFault) h unsound = inr (inl refl)
never_opened o stored old new (Err ShelfFault) h unsound = absurd (false≢true (sym unsound ∙ h.0.opened))
never_opened o stored old new (Err WriteFault) h unsound = absurd (false≢true (sym unsound ∙ h.0.opened))
never_opened o stored old new (Err BadTable) h unsound = absurd (false≢true (sym unsound ∙ h.0.opened))
never_opened o stored old new (Err OpenFault) h unsound = inr (inr (inr (inr (inl refl))))
never_opened o stored old new (Err CommitFault) h unsound = absurd (false≢true (sym unsound ∙ h.0.opened))
never_opened o stored old new (Err Memory) h unsound = inr (inr (inl refl))
never_opened o stored old new (Err TooLong) h unsound = inr (inr (inr (inl refl)))
never_opened o stored old new (Err Unsound) h unsound = inr (inr (inr (inr (inr refl))))

-- a script that is too long is not run
abbrev NotRun : ℕ → Type 0
NotRun status = (status ≡ USAGE) ⊎ ((status ≡ READ_FAULT) ⊎ ((status ≡ NO_MEMORY) ⊎ (status ≡ TOO_LONG)))

always : (a : Option (List ℕ)) (P : List ℕ → Type 0) → ((b : List ℕ) → P b) → IfSome a P
always None P each = tt
always (Some x) P each = each x

was_short : (a : Option (List ℕ)) (status : ℕ) → IfSome a (λ b. length b ≤ SCRIPT_MOST) → IfSome a (λ b. SCRIPT_MOST < length b → NotRun status)
was_short None status short = tt
was_short (Some b) status short = λ long. absurd (omega (arith, short, long))

never_run : (o : Option ScriptOptions) (stored : StoredRows) (old new : World) (r : Ended) → EndsAs o stored old new r
    → IfSome old.input.told (λ bytes. SCRIPT_MOST < length bytes → NotRun (status_of r))
never_run o stored old new (Ok done) h = was_short old.input.told DONE h.0.short
never_run o stored old new (Err Usage) h = always old.input.told _ (λ bytes long. inl refl)
never_run o stored old new (Err BadLine) h = was_short old.input.told BAD_LINE h.0.short
never_run o stored old new (Err ReadFault) h = always old.input.told _ (λ bytes long. inr (inl refl))
never_run o stored old new (Err ShelfFault) h = was_short old.input.told READ_FAULT h.0.short
never_run o stored old new (Err WriteFault) h = was_short old.input.told WRITE_FAULT h.0.short
never_run o stored old new (Err BadTable) h = was_short old.input.told BAD_TABLE h.0.short
never_run o stored old new (Err OpenFault) h = was_short old.input.told KEEPER_FAULT h.3
never_run o stored old new (Err CommitFault) h = was_short old.input.told KEEPER_FAULT h.0.short
never_run o stored old new (Err Memory) h = always old.input.told _ (λ bytes long. inr (inr (inl refl)))
never_run o stored old new (Err TooLong) h = always old.input.told _ (λ bytes long. inr (inr (inr refl)))
never_run o stored old new (Err Unsound) h = was_short old.input.told UNSOUND h.short

-- an end by its status; a fault of reading may be the input's or the shelf's, and one of the store a load's or a commit's
abbrev ended_of : ℕ → Ended
ended_of n =
    cond (eqb n DONE) (Ok tt) (Err (cond (eqb n USAGE) Usage (cond (eqb n BAD_LINE) BadLine
    (cond (eqb n READ_FAULT) ReadFault (cond (eqb n WRITE_FAULT) WriteFault (cond (eqb n BAD_TABLE) BadTable
    (cond (eqb n KEEPER_FAULT) OpenFault (cond (eqb n NO_MEMORY) Memory (cond (eqb n TOO_LONG) TooLong Unsound)))))))))

abbrev IsByStatus : Ended → Type 0
IsByStatus (Ok done) = Unit {0}
IsByStatus (Err Usage) = Unit {0}
IsByStatus (Err BadLine) = Unit {0}
IsByStatus (Err ReadFault) = ⊥
IsByStatus (Err ShelfFault) = ⊥
IsByStatus (Err WriteFault) = Unit {0}
IsByStatus (Err BadTable) = Unit {0}
IsByStatus (Err OpenFault) = ⊥
IsByStatus (Err CommitFault) = ⊥
IsByStatus (Err Memory) = Unit {0}
IsByStatus (Err TooLong) = Unit {0}
IsByStatus (Err Unsound) = Unit {0}

ended_of-status : (r : Ended) → IsByStatus r → ended_of (status_of r) ≡ r
ended_of-status (Ok done) is = refl
ended_of-status (Err Usage) is = refl
ended_of-status (Err BadLine) is = refl
ended_of-status (Err ReadFault) is = absurd is
ended_of-status (Err ShelfFault) is = absurd is
ended_of-status (Err WriteFault) is = refl
ended_of-status (Err BadTable) is = refl
ended_of-status (Err OpenFault) is = absurd is
ended_of-status (Err CommitFault) is = absurd is
ended_of-status (Err Memory) is = refl
ended_of-status (Err TooLong) is = refl
ended_of-status (Err Unsound) is = refl

-- an end that is known by its status is no other with that status
same-end : (r e : Ended) → IsByStatus e → ended_of (status_of r) ≡ e → r ≡ e
same-end (Ok done) e is h = h
same-end (Err Usage) e is h = h
same-end (Err BadLine) e is h = h
same-end (Err ReadFault) e is h = absurd (subst IsByStatus (sym h) is)
same-end (Err ShelfFault) e is h = absurd (subst IsByStatus (sym h) is)
same-end (Err WriteFault) e is h = h
same-end (Err BadTable) e is h = h
same-end (Err OpenFault) e is h = absurd (subst IsByStatus (sym h) is)
same-end (Err CommitFault) e is h = absurd (subst IsByStatus (sym h) is)
same-end (Err Memory) e is h = h
same-end (Err TooLong) e is h = h
same-end (Err Unsound) e is h = h

-- two ends with one status, by which they are known, are one end, and leave the same
at_status : (o : Option ScriptOptions) (stored : StoredRows) (old new : World) (r e : Ended) → IsByStatus e → EndsAs o stored old new r → status_of r ≡ status_of e → EndsAs o stored old new e
at_status o stored old new r e is h k = subst (EndsAs o stored old new) (same-end r e is (ap ended_of k ∙ ended_of-status e is)) h

-- a fault of reading is the input's or the shelf's
unread : (o : Option ScriptOptions) (stored : StoredRows) (old new : World) (r : Ended) → EndsAs o stored old new r → status_of r ≡ READ_FAULT
    → (HasFailed old.input new.input × WroteNothing old new) ⊎ (HasFailed old.shelf new.shelf × WroteToTable o stored old new)
unread o stored old new (Ok done) h k = absurd (cc)
unread o stored old new (Err Usage) h k = absurd (cc)
unread o stored old new (Err BadLine) h k = absurd (cc)
unread o stored old new (Err ReadFault) h k = inl (h.2, h.1)
unread o stored old new (Err ShelfFault) h k = inr (h.2, h.1)
unread o stored old new (Err WriteFault) h k = absurd (cc)
unread o stored old new (Err BadTable) h k = absurd (cc)
unread o stored old new (Err OpenFault) h k = absurd (cc)
unread o stored old new (Err CommitFault) h k = absurd (cc)
unread o stored old new (Err Memory) h k = absurd (cc)
unread o stored old new (Err TooLong) h k = absurd (cc)
unread o stored old new (Err Unsound) h k = absurd (cc)

read_fault : (o : Option ScriptOptions) (stored : StoredRows) (old new : World)
    → (HasFailed old.input new.input × WroteNothing old new) ⊎ (HasFailed old.shelf new.shelf × WroteToTable o stored old new)
    → HasFailed old.input new.input ⊎ HasFailed old.shelf new.shelf
read_fault o stored old new (inl h) = inl h.0
read_fault o stored old new (inr h) = inr h.0

-- a fault of the store is a load's or a commit's
unstored : (o : Option ScriptOptions) (stored : StoredRows) (old new : World) (r : Ended) → EndsAs o stored old new r → status_of r ≡ KEEPER_FAULT
    → HasFailed old.keeper new.keeper × (WroteNothing old new ⊎ WroteToStatement o stored old new)
unstored o stored old new (Ok done) h k = absurd (cc)
unstored o stored old new (Err Usage) h k = absurd (cc)
unstored o stored old new (Err BadLine) h k = absurd (cc)
unstored o stored old new (Err ReadFault) h k = absurd (cc)
unstored o stored old new (Err ShelfFault) h k = absurd (cc)
unstored o stored old new (Err WriteFault) h k = absurd (cc)
unstored o stored old new (Err BadTable) h k = absurd (cc)
unstored o stored old new (Err OpenFault) h k = (h.2, inl h.1)
unstored o stored old new (Err CommitFault) h k = (h.2, inr h.1)
unstored o stored old new (Err Memory) h k = absurd (cc)
unstored o stored old new (Err TooLong) h k = absurd (cc)
unstored o stored old new (Err Unsound) h k = absurd (cc)

abbrev IsRead : ℕ → Type 0
IsRead status = (status ≡ DONE) ⊎ ((status ≡ BAD_LINE) ⊎ (status ≡ BAD_TABLE))

read_whole : (o : Option ScriptOptions) (stored : StoredRows) (old new : World) (r : Ended) → EndsAs o stored old new r → IsRead (status_of r) → IsAtEnd new.input.told
read_whole o stored old new r h (inl k) = (at_status o stored old new r (Ok tt) tt h k).0.read
read_whole o stored old new r h (inr (inl k)) = (at_status o stored old new r (Err BadLine) tt h k).0.read
read_whole o stored old new r h (inr (inr k)) = (at_status o stored old new r (Err BadTable) tt h k).0.read

own : (o : Option ScriptOptions) (stored : StoredRows) (old new : World) (r : Ended) → EndsAs o stored old new r → IsRead (status_of r) → WroteWhole (with_rows o stored) old new (status_of r)
own o stored old new r h (inl k) = subst (WroteWhole (with_rows o stored) old new) (sym k) (at_status o stored old new r (Ok tt) tt h k).1
own o stored old new r h (inr (inl k)) = subst (WroteWhole (with_rows o stored) old new) (sym k) (at_status o stored old new r (Err BadLine) tt h k).1
own o stored old new r h (inr (inr k)) = subst (WroteWhole (with_rows o stored) old new) (sym k) (at_status o stored old new r (Err BadTable) tt h k).1

nothing : (o : Option ScriptOptions) (stored : StoredRows) (old new : World) (r : Ended) → EndsAs o stored old new r
    → (status_of r ≡ USAGE) ⊎ ((status_of r ≡ TOO_LONG) ⊎ (status_of r ≡ UNSOUND)) → WroteNothing old new
nothing o stored old new r h (inl k) = (at_status o stored old new r (Err Usage) tt h k).1
nothing o stored old new r h (inr (inl k)) = (at_status o stored old new r (Err TooLong) tt h k).1
nothing o stored old new r h (inr (inr k)) = (at_status o stored old new r (Err Unsound) tt h k).nothing

front : (o : Option ScriptOptions) (stored : StoredRows) (old new : World) (r : Ended) → EndsAs o stored old new r → (status_of r ≡ WRITE_FAULT) ⊎ (status_of r ≡ NO_MEMORY)
    → WrotePart (with_rows o stored) old new
front o stored old new r h (inl k) = (at_status o stored old new r (Err WriteFault) tt h k).1
front o stored old new r h (inr k) = at_status o stored old new r (Err Memory) tt h k

-- what every run of a script leaves, by how it ended
pub is_run : (words : List (List ℕ)) (old new : World) (r : Ended) → HasEnded (script_options words) old new r → ReadFront old.input.told new.input.told → IsRun words old new (status_of r)
is_run words old new r ended reads =
    let o = script_options words in
    let stored = ended.stored in
    let h = ended.ends in
    record {
      stored = stored;
      told = ended.told;
      exact = exact o stored old new r ended.told h;
      one_history = λ options is sound bytes files given. one_history words bytes files stored options is sound;
      usage = λ k. (at_status o stored old new r (Err Usage) tt h k).0;
      outside = outside o stored old new r h;
      read_fault = λ k. read_fault o stored old new (unread o stored old new r h k);
      write_fault = λ k. (at_status o stored old new r (Err WriteFault) tt h k).2;
      keeper_fault = λ k. (unstored o stored old new r h k).0;
      too_long = λ k. (at_status o stored old new r (Err TooLong) tt h k).2;
      never_run = never_run o stored old new r h;
      unsound = λ k. (at_status o stored old new r (Err Unsound) tt h k).unsound;
      never_opened = never_opened o stored old new r h;
      known = known r;
      reads = reads;
      read_whole = read_whole o stored old new r h;
      own = own o stored old new r h;
      nothing = nothing o stored old new r h;
      unread = unread o stored old new r h;
      unstored = λ k. (unstored o stored old new r h k).1;
      front = front o stored old new r h;
      rows = ended.rows;
    }

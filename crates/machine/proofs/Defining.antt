-- The pools after an accepted statement: as many by the same names, or one more behind them.
use Rattle.std.proofs.Common.{◌≡◌, ◌<◌, ◌≤◌, ◌+◌, ℕ, true, false, List, [], ◌∷◌, ◌++◌, length, Ok, get_or, map, refl, sym, ap, ◌∙◌, subst, arith}
use Rattle.std.proofs.lemmas.Bool.{false≢true}
use Rattle.std.proofs.lemmas.List.{length_push, map_push}
use Rattle.rm_base.specs.declared.definitions.Definitions.{Definitions}
use Rattle.rm_base.specs.declared.entry.EndCounts.{EndCounts}
use Rattle.rm_base.specs.declared.name.Name.{Name}
use Rattle.rm_base.specs.declared.rows.PoolRow.{PoolRow}
use Rattle.rm_base.specs.declared.statement.Statement.{Statement}
use Rattle.rm_rules.specs.declared.state.Reserve.{Reserve}
use Rattle.rm_rules.specs.Definitions.{user_pools}
use Rattle.rm_rules.specs.State.{State, none_ended}
use Rattle.rm_rules.specs.Holdings.{Holdings, holdings_of}
use Rattle.rm_rules.specs.Acceptance.{accepted}
use Rattle.rm_rules.specs.DropPool.{drops_none}
use Rattle.rm_rules.specs.Change.{with_place, defined}
use Rattle.rm_rules.specs.Sound.{IsSound, has_pool, begins_with_general}
use Rattle.rm_rules.specs.Healthy.{AreSized}
use Rattle.rm_rules.proofs.Defining.{NamesAfter, keeps_names, adds_name, accepted-names, names-length, user_named, user_push, place-same, place-more}
use Rattle.accounts.specs.Accounts.{names_in, with_pool as with_reserve}
use Rattle.accounts.proofs.Standing.{kept-stand, added-stand}
use Rattle.machine.specs.declared.machine.Machine.TheInside.{Inside}
use Rattle.machine.specs.Inside.{seen_state, IsTied}
use Rattle.machine.proofs.Inside.{bytes_under}

-- one pool came behind the others, or none came
pub record IsAdded (d new : Definitions) (row : PoolRow) : Type 0 where
  pub absent : has_pool d row.name ≡ false
  pub names : names_in new ≡ names_in d ++ row.name ∷ []
  pub count : length new.pools ≡ length d.pools + 1

pub record IsAltered (d new : Definitions) : Type 0 where
  pub names : names_in new ≡ names_in d
  pub count : length new.pools ≡ length d.pools

-- the last item of a list with one more
item-last : {A : Type 0} (xs : List A) (y z : A) → get_or (xs ++ y ∷ []) (length xs) z ≡ y
item-last [] y z = refl
item-last (x ∷ xs) y z = item-last xs y z

one-more : (d new : Definitions) (z : PoolRow) → NamesAfter d new → IsSound d → length d.pools < length new.pools → IsAdded d new (get_or new.pools (length d.pools) z)
one-more d new z (keeps_names same) sound more =
    absurd (omega (arith, more, names-length new.pools, names-length d.pools, ap (λ (ns : List Name). length ns) same))
one-more d new z (adds_name row absent last) sound more =
    let item : get_or new.pools (length d.pools) z ≡ row = ap (λ (l : List PoolRow). get_or l (length d.pools) z) last ∙ item-last d.pools row z in
    subst (λ (r : PoolRow). IsAdded d new r) (sym item) (record {
      absent = absent;
      names =
          ap (λ (l : List PoolRow). map (λ (r : PoolRow). r.name) (user_pools l)) last
          ∙ ap (λ (l : List PoolRow). map (λ (r : PoolRow). r.name) l) (user_push d.pools row sound.general_first)
          ∙ map_push (λ (r : PoolRow). r.name) (user_pools d.pools) row;
      count = ap (λ (l : List PoolRow). length l) last ∙ length_push d.pools row;
    })

as-many : (d new : Definitions) → NamesAfter d new → length new.pools ≤ length d.pools → IsAltered d new
as-many d new (keeps_names same) few =
    record { names = user_named new.pools d.pools same; count = omega (arith, names-length new.pools, names-length d.pools, ap (λ (ns : List Name). length ns) same) }
as-many d new (adds_name row absent last) few = absurd (omega (arith, few, ap (λ (l : List PoolRow). length l) last, length_push d.pools row))

-- which of both it is, the code sees by the number of pools
pub added : (d new : Definitions) (statement : Statement) (z : PoolRow) (count : ℕ) (rows : List PoolRow) → IsSound d → drops_none statement ≡ true → accepted d statement ≡ Ok new
    → count ≡ length d.pools → rows ≡ new.pools → count < length rows → IsAdded d new (get_or rows count z)
added d new statement z count rows sound none accepts old now more =
    subst (λ (k : ℕ). IsAdded d new (get_or rows k z)) (sym old)
    (subst (λ (l : List PoolRow). IsAdded d new (get_or l (length d.pools) z)) (sym now)
    (one-more d new z (accepted-names d statement new none accepts) sound (omega (arith, more, old, ap (λ (l : List PoolRow). length l) now))))

pub altered : (d new : Definitions) (statement : Statement) (count : ℕ) (rows : List PoolRow) → IsSound d → drops_none statement ≡ true → accepted d statement ≡ Ok new
    → count ≡ length d.pools → rows ≡ new.pools → length rows ≤ count → IsAltered d new
altered d new statement count rows sound none accepts old now few =
    as-many d new (accepted-names d statement new none accepts) (omega (arith, few, old, ap (λ (l : List PoolRow). length l) now))

-- there are as many reserves as pools but GENERAL
sizes-count : (es : List Reserve) → length (map (λ (e : Reserve). e.size) es) ≡ length es
sizes-count [] = refl
sizes-count (e ∷ es) = omega (arith, sizes-count es)

user-count : (pools : List PoolRow) → begins_with_general pools ≡ true → length (user_pools pools) + 1 ≡ length pools
user-count [] begins = absurd (false≢true begins)
user-count (r ∷ rs) begins = omega arith

pub reserves-count : (m : Inside) → IsSound m.definitions → AreSized m.definitions (seen_state m).actual m.counters → length m.runs.accounts.reserves + 1 ≡ length m.definitions.pools
reserves-count m sound sized = omega (arith, sized.sizes, sizes-count m.runs.accounts.reserves, user-count m.definitions.pools sound.general_first)

-- the bytes under the new definitions
pub bytes-added : (m : Inside) (new : Definitions) (row : PoolRow) (a : Holdings) → IsTied m → AreSized m.definitions (seen_state m).actual m.counters → IsAdded m.definitions new row
    → a ≡ with_reserve m.runs.accounts row.name → bytes_under new a m.runs.running ≡ a
bytes-added m new row a h sized adds is =
    let e : Reserve = record { pool = row.name; size = 0 } in
    let sizes = map_push (λ (x : Reserve). x.size) m.runs.accounts.reserves e in
    subst (λ (b : Holdings). bytes_under new b m.runs.running ≡ b) (sym is)
    (ap (λ (ns : List ℕ). let s : State = record (seen_state m) { definitions = new; actual = ns } in holdings_of s) sizes
    ∙ added-stand (seen_state m) new row.name sized adds.names
    ∙ ap (λ (b : Holdings). with_reserve b row.name) h.bytes)

pub bytes-altered : (m : Inside) (new : Definitions) → IsTied m → AreSized m.definitions (seen_state m).actual m.counters → IsAltered m.definitions new → bytes_under new m.runs.accounts m.runs.running ≡ m.runs.accounts
bytes-altered m new h sized alters = kept-stand (seen_state m) new sized alters.names ∙ h.bytes

-- the state with the new definitions
seen-added : (m : Inside) (new : Definitions) (row : PoolRow) (b : Holdings) (counters : List EndCounts) → IsAdded m.definitions new row → b ≡ with_reserve m.runs.accounts row.name
    → counters ≡ m.counters ++ none_ended ∷ [] → seen_state (record m { definitions = new; runs = record { accounts = b; running = m.runs.running }; counters = counters }) ≡ defined (seen_state m) new
seen-added m new row b counters h is more =
    let sizes = map_push (λ (x : Reserve). x.size) m.runs.accounts.reserves (record { pool = row.name; size = 0 }) ∙ sym (place-more m.definitions new 0 (seen_state m).actual h.count) in
    ap (λ (x : Holdings). let t : State = record (seen_state m) { definitions = new; in_force = x.in_force; actual = map (λ (e : Reserve). e.size) x.reserves; counters = counters } in t) is
    ∙ ap (λ (ns : List ℕ). let t : State = record (seen_state m) { definitions = new; actual = ns; counters = counters } in t) sizes
    ∙ ap (λ (cs : List EndCounts). let t : State = record (seen_state m) { definitions = new; actual = with_place m.definitions new 0 (seen_state m).actual; counters = cs } in t)
    (more ∙ sym (place-more m.definitions new none_ended m.counters h.count))

pub state-added : (m : Inside) (s : State) (new : Definitions) (row : PoolRow) (b : Holdings) (counters : List EndCounts) → seen_state m ≡ s → IsAdded m.definitions new row
    → b ≡ with_reserve m.runs.accounts row.name → counters ≡ m.counters ++ none_ended ∷ []
    → seen_state (record m { definitions = new; runs = record { accounts = b; running = m.runs.running }; counters = counters }) ≡ defined s new
state-added m s new row b counters same h is more =
    seen-added m new row b counters h is more ∙ ap (λ (t : State). defined t new) same

seen-altered : (m : Inside) (new : Definitions) → IsAltered m.definitions new → seen_state (record m { definitions = new }) ≡ defined (seen_state m) new
seen-altered m new h =
    ap (λ (ns : List ℕ). let t : State = record (seen_state m) { definitions = new; actual = ns } in t) (sym (place-same m.definitions new 0 (seen_state m).actual h.count))
    ∙ ap (λ (cs : List EndCounts). let t : State = record (seen_state m) { definitions = new; actual = with_place m.definitions new 0 (seen_state m).actual; counters = cs } in t)
    (sym (place-same m.definitions new none_ended m.counters h.count))

pub state-altered : (m : Inside) (s : State) (new : Definitions) → seen_state m ≡ s → IsAltered m.definitions new → seen_state (record m { definitions = new }) ≡ defined s new
state-altered m s new same h = seen-altered m new h ∙ ap (λ (t : State). defined t new) same

-- Lemmas on rows with names: with one in its place, and without some.
use Rattle.std.specs.Prelude.{◌≡◌, ◌+◌, ◌≤◌, Bool, true, false, ◌||◌, ◌&&◌, not, cond, List, [], ◌∷◌, ◌++◌, length, Option, Some, is_some, find, map, refl}
use Rattle.std.specs.List.{list_all, list_any}
use Rattle.std.proofs.Common.{sym, ap, ◌∙◌, subst, arith, append-nil, append_assoc}
use Rattle.std.proofs.lemmas.Bool.{false≢true}
use Rattle.std.proofs.lemmas.List.{length-map, map_push}
use Rattle.std.proofs.lemmas.List.Folds.{list_any-append}
use Rattle.rm_base.specs.declared.name.Name.{Name}
use Rattle.rm_base.specs.Name.{same_name}
use Rattle.rm_base.proofs.Names.{same_name-eq, same_name-sym}
use Rattle.rm_rules.specs.Sound.{are_distinct}
use Rattle.rm_rules.specs.Tables.{with_row, all_but}
use Rattle.rm_rules.proofs.Taken.{and_left, and_right, and_both, or_left_false, or_right_false, or_both_false, not_false}

-- the row of this name
abbrev pub called : {A : Type 0} → (A → Name) → List A → Name → Option A
called name_of rows name = find (λ r. same_name (name_of r) name) rows

-- a row of this name is there just where the name is among those of the rows
is_called-turn : {A : Type 0} (name_of : A → Name) (r : A) (rows : List A) (n : Name) (b : Bool) → same_name n (name_of r) ≡ b
    → is_some (called name_of rows n) ≡ list_any (same_name n) (map name_of rows)
    → is_some (cond (same_name (name_of r) n) (Some r) (called name_of rows n)) ≡ (same_name n (name_of r) || list_any (same_name n) (map name_of rows))
is_called-turn name_of r rows n true e behind = rw (same_name-sym (name_of r) n, e) refl
is_called-turn name_of r rows n false e behind = rw (same_name-sym (name_of r) n, e) behind

pub called-named : {A : Type 0} (name_of : A → Name) (rows : List A) (n : Name) → is_some (called name_of rows n) ≡ list_any (same_name n) (map name_of rows)
called-named name_of [] n = refl
called-named name_of (r ∷ rows) n = is_called-turn name_of r rows n (same_name n (name_of r)) refl (called-named name_of rows n)

-- what all rows pass, all pass with a row that passes
pub all_with : {A : Type 0} (name_of : A → Name) (p : A → Bool) (row : A) (rows : List A) → list_all p rows ≡ true → p row ≡ true
    → list_all p (with_row name_of row rows) ≡ true
all_with name_of p row [] all here = and_both (p row) true here refl
all_with name_of p row (r ∷ rs) all here =
    let rest = all_with name_of p row rs (and_right (p r) (list_all p rs) all) here in
    elim (same_name (name_of r) (name_of row)) as (λ b. list_all p (cond b (row ∷ rs) (r ∷ with_row name_of row rs)) ≡ true) [
      | true ↦ and_both (p row) _ here (and_right (p r) (list_all p rs) all)
      | false ↦ and_both (p r) _ (and_left (p r) (list_all p rs) all) rest
    ]

-- the row is found by its name, and every other as before
found-apart : {A : Type 0} (name_of : A → Name) (row r : A) (found : Option A) (n : Name) (b : Bool) → same_name (name_of r) (name_of row) ≡ false → same_name (name_of row) n ≡ b
    → cond (same_name (name_of r) n) (Some r) (cond b (Some row) found) ≡ cond b (Some row) (cond (same_name (name_of r) n) (Some r) found)
found-apart name_of row r found n false apart e = refl
found-apart name_of row r found n true apart e =
    let other : same_name (name_of r) n ≡ false = subst (λ m. same_name (name_of r) m ≡ false) (same_name-eq (name_of row) n e) apart in
    ap (λ c. cond c (Some r) (Some row)) other

called-turn : {A : Type 0} (name_of : A → Name) (row r : A) (rs : List A) (n : Name) (b : Bool) → same_name (name_of r) (name_of row) ≡ b
    → called name_of (with_row name_of row rs) n ≡ cond (same_name (name_of row) n) (Some row) (called name_of rs n)
    → called name_of (cond b (row ∷ rs) (r ∷ with_row name_of row rs)) n ≡ cond (same_name (name_of row) n) (Some row) (called name_of (r ∷ rs) n)
called-turn {A} name_of row r rs n true e behind =
    let one : name_of r ≡ name_of row = same_name-eq (name_of r) (name_of row) e in
    let twice : (c : Bool) → cond c (Some row) (called name_of rs n) ≡ cond c (Some row) (cond c (Some r) (called name_of rs n)) =
    λ c. elim c as (λ x. cond x (Some row) (called name_of rs n) ≡ cond x (Some row) (cond x (Some r) (called name_of rs n))) [ true ↦ refl | false ↦ refl ] in
    twice (same_name (name_of row) n) ∙ ap (λ m. cond (same_name (name_of row) n) (Some row) (cond (same_name m n) (Some r) (called name_of rs n))) (sym one)
called-turn {A} name_of row r rs n false e behind =
    ap (λ (o : Option A). cond (same_name (name_of r) n) (Some r) o) behind ∙ found-apart name_of row r (called name_of rs n) n (same_name (name_of row) n) e refl

pub called_with : {A : Type 0} (name_of : A → Name) (row : A) (rows : List A) (n : Name)
    → called name_of (with_row name_of row rows) n ≡ cond (same_name (name_of row) n) (Some row) (called name_of rows n)
called_with name_of row [] n = refl
called_with name_of row (r ∷ rs) n = called-turn name_of row r rs n (same_name (name_of r) (name_of row)) refl (called_with name_of row rs n)

-- who is there stays there
pub there_with : {A : Type 0} (name_of : A → Name) (row : A) (rows : List A) (n : Name) → is_some (called name_of rows n) ≡ true
    → is_some (called name_of (with_row name_of row rows) n) ≡ true
there_with {A} name_of row rows n there =
    let turn : (b : Bool) → is_some (cond b (Some row) (called name_of rows n)) ≡ true =
    λ b. elim b as (λ c. is_some (cond c (Some row) (called name_of rows n)) ≡ true) [ true ↦ refl | false ↦ there ] in
    ap (λ (o : Option A). is_some o) (called_with name_of row rows n) ∙ turn (same_name (name_of row) n)

-- a row that is there keeps the names, another comes last
names-turn : {A : Type 0} (name_of : A → Name) (row r : A) (rs : List A) (b : Bool) → same_name (name_of r) (name_of row) ≡ b
    → is_some (cond b (Some r) (called name_of rs (name_of row))) ≡ true
    → (is_some (called name_of rs (name_of row)) ≡ true → map name_of (with_row name_of row rs) ≡ map name_of rs)
    → map name_of (cond b (row ∷ rs) (r ∷ with_row name_of row rs)) ≡ map name_of (r ∷ rs)
names-turn name_of row r rs true e there rest = ap (λ n. n ∷ map name_of rs) (sym (same_name-eq (name_of r) (name_of row) e))
names-turn name_of row r rs false e there rest = ap (λ ns. name_of r ∷ ns) (rest there)

pub names-there : {A : Type 0} (name_of : A → Name) (row : A) (rows : List A) → is_some (called name_of rows (name_of row)) ≡ true
    → map name_of (with_row name_of row rows) ≡ map name_of rows
names-there name_of row [] there = absurd (false≢true there)
names-there name_of row (r ∷ rs) there = names-turn name_of row r rs (same_name (name_of r) (name_of row)) refl there (names-there name_of row rs)

last-turn : {A : Type 0} (name_of : A → Name) (row r : A) (rs : List A) (b : Bool) → is_some (cond b (Some r) (called name_of rs (name_of row))) ≡ false
    → (is_some (called name_of rs (name_of row)) ≡ false → with_row name_of row rs ≡ rs ++ row ∷ []) → cond b (row ∷ rs) (r ∷ with_row name_of row rs) ≡ r ∷ rs ++ row ∷ []
last-turn name_of row r rs true absent rest = absurd (false≢true (sym absent))
last-turn name_of row r rs false absent rest = ap (λ l. r ∷ l) (rest absent)

pub last-absent : {A : Type 0} (name_of : A → Name) (row : A) (rows : List A) → is_some (called name_of rows (name_of row)) ≡ false
    → with_row name_of row rows ≡ rows ++ row ∷ []
last-absent name_of row [] absent = refl
last-absent name_of row (r ∷ rs) absent = last-turn name_of row r rs (same_name (name_of r) (name_of row)) absent (last-absent name_of row rs)

-- as many rows where it is there, one more at most where not
pub length_with-there : {A : Type 0} (name_of : A → Name) (row : A) (rows : List A) → is_some (called name_of rows (name_of row)) ≡ true
    → length (with_row name_of row rows) ≡ length rows
length_with-there name_of row rows there =
    omega (arith, length-map (with_row name_of row rows) name_of, length-map rows name_of, ap (λ (ns : List Name). length ns) (names-there name_of row rows there))

most-turn : {A : Type 0} (name_of : A → Name) (row r : A) (rs : List A) (b : Bool) → length (with_row name_of row rs) ≤ length rs + 1
    → length (cond b (row ∷ rs) (r ∷ with_row name_of row rs)) ≤ length (r ∷ rs) + 1
most-turn name_of row r rs true behind = omega arith
most-turn name_of row r rs false behind = omega arith

pub length_with-most : {A : Type 0} (name_of : A → Name) (row : A) (rows : List A) → length (with_row name_of row rows) ≤ length rows + 1
length_with-most name_of row [] = omega arith
length_with-most name_of row (r ∷ rs) = most-turn name_of row r rs (same_name (name_of r) (name_of row)) (length_with-most name_of row rs)

-- one name more, that none of the others is, leaves names distinct
any-insert : (m n : Name) (front rest : List Name) → same_name m n ≡ false → list_any (same_name m) (front ++ n ∷ rest) ≡ list_any (same_name m) (front ++ rest)
any-insert m n [] rest apart = ap (λ b. b || list_any (same_name m) rest) apart
any-insert m n (x ∷ xs) rest apart = ap (λ b. same_name m x || b) (any-insert m n xs rest apart)

pub distinct-insert : (n : Name) (front rest : List Name) → list_any (same_name n) (front ++ rest) ≡ false → are_distinct (front ++ rest) ≡ true
    → are_distinct (front ++ n ∷ rest) ≡ true
distinct-insert n [] rest new distinct = and_both (not (list_any (same_name n) rest)) (are_distinct rest) (ap not new) distinct
distinct-insert n (x ∷ xs) rest new distinct =
    let apart : same_name x n ≡ false = same_name-sym x n ∙ or_left_false (same_name n x) (list_any (same_name n) (xs ++ rest)) new in
    let first : not (list_any (same_name x) (xs ++ rest)) ≡ true = and_left (not (list_any (same_name x) (xs ++ rest))) (are_distinct (xs ++ rest)) distinct in
    and_both (not (list_any (same_name x) (xs ++ n ∷ rest))) (are_distinct (xs ++ n ∷ rest)) (ap not (any-insert x n xs rest apart) ∙ first)
    (distinct-insert n xs rest (or_right_false (same_name n x) (list_any (same_name n) (xs ++ rest)) new) (and_right (not (list_any (same_name x) (xs ++ rest))) (are_distinct (xs ++ rest)) distinct))

pub distinct-push : (n : Name) (names : List Name) → list_any (same_name n) names ≡ false → are_distinct names ≡ true → are_distinct (names ++ n ∷ []) ≡ true
distinct-push n names new distinct =
    distinct-insert n names [] (subst (λ ns. list_any (same_name n) ns ≡ false) (sym (append-nil names)) new) (subst (λ ns. are_distinct ns ≡ true) (sym (append-nil names)) distinct)

-- so do rows with one in its place, with other names behind them or in front of them
front-cases : {A : Type 0} (name_of : A → Name) (row : A) (rows : List A) (rest : List Name) (b : Bool) → is_some (called name_of rows (name_of row)) ≡ b
    → are_distinct (map name_of rows ++ rest) ≡ true → (b ≡ false → list_any (same_name (name_of row)) (map name_of rows ++ rest) ≡ false)
    → are_distinct (map name_of (with_row name_of row rows) ++ rest) ≡ true
front-cases name_of row rows rest true there distinct new = subst (λ ns. are_distinct (ns ++ rest) ≡ true) (sym (names-there name_of row rows there)) distinct
front-cases {A} name_of row rows rest false absent distinct new =
    let names : map name_of (with_row name_of row rows) ++ rest ≡ map name_of rows ++ name_of row ∷ rest =
    ap (λ (l : List A). map name_of l ++ rest) (last-absent name_of row rows absent) ∙ ap (λ (l : List Name). l ++ rest) (map_push name_of rows row) ∙ append_assoc (map name_of rows) (name_of row ∷ []) rest in
    subst (λ ns. are_distinct ns ≡ true) (sym names) (distinct-insert (name_of row) (map name_of rows) rest (new refl) distinct)

pub distinct_with-front : {A : Type 0} (name_of : A → Name) (row : A) (rows : List A) (rest : List Name) → are_distinct (map name_of rows ++ rest) ≡ true
    → (is_some (called name_of rows (name_of row)) ≡ false → list_any (same_name (name_of row)) (map name_of rows ++ rest) ≡ false)
    → are_distinct (map name_of (with_row name_of row rows) ++ rest) ≡ true
distinct_with-front name_of row rows rest distinct new = front-cases name_of row rows rest (is_some (called name_of rows (name_of row))) refl distinct new

behind-cases : {A : Type 0} (name_of : A → Name) (row : A) (front : List Name) (rows : List A) (b : Bool) → is_some (called name_of rows (name_of row)) ≡ b
    → are_distinct (front ++ map name_of rows) ≡ true → (b ≡ false → list_any (same_name (name_of row)) (front ++ map name_of rows) ≡ false)
    → are_distinct (front ++ map name_of (with_row name_of row rows)) ≡ true
behind-cases name_of row front rows true there distinct new = subst (λ ns. are_distinct (front ++ ns) ≡ true) (sym (names-there name_of row rows there)) distinct
behind-cases {A} name_of row front rows false absent distinct new =
    let names : front ++ map name_of (with_row name_of row rows) ≡ (front ++ map name_of rows) ++ name_of row ∷ [] =
    ap (λ (l : List A). front ++ map name_of l) (last-absent name_of row rows absent) ∙ ap (λ (l : List Name). front ++ l) (map_push name_of rows row) ∙ sym (append_assoc front (map name_of rows) (name_of row ∷ [])) in
    subst (λ ns. are_distinct ns ≡ true) (sym names) (distinct-push (name_of row) (front ++ map name_of rows) (new refl) distinct)

pub distinct_with-behind : {A : Type 0} (name_of : A → Name) (row : A) (front : List Name) (rows : List A) → are_distinct (front ++ map name_of rows) ≡ true
    → (is_some (called name_of rows (name_of row)) ≡ false → list_any (same_name (name_of row)) (front ++ map name_of rows) ≡ false)
    → are_distinct (front ++ map name_of (with_row name_of row rows)) ≡ true
distinct_with-behind name_of row front rows distinct new = behind-cases name_of row front rows (is_some (called name_of rows (name_of row))) refl distinct new

-- what all pass, and what those pass that stay, all pass that stay
all-turn : {A : Type 0} (p : A → Bool) (x : A) (xs : List A) (b : Bool) → (b ≡ false → p x ≡ true) → list_all p xs ≡ true → list_all p (cond (not b) (x ∷ xs) xs) ≡ true
all-turn p x xs true here rest = rest
all-turn p x xs false here rest = and_both (p x) (list_all p xs) (here refl) rest

pub all_but-all : {A : Type 0} (p q test : A → Bool) (xs : List A) → ((x : A) → test x ≡ false → q x ≡ true → p x ≡ true) → list_all q xs ≡ true
    → list_all p (all_but test xs) ≡ true
all_but-all p q test [] wider all = refl
all_but-all p q test (x ∷ xs) wider all =
    all-turn p x (all_but test xs) (test x) (λ stays. wider x stays (and_left (q x) (list_all q xs) all)) (all_but-all p q test xs wider (and_right (q x) (list_all q xs) all))

-- what none passes, none passes that stays
none-turn : {A : Type 0} (p : A → Bool) (x : A) (xs : List A) (b : Bool) → p x ≡ false → list_any p xs ≡ false → list_any p (cond (not b) (x ∷ xs) xs) ≡ false
none-turn p x xs true here rest = rest
none-turn p x xs false here rest = or_both_false (p x) (list_any p xs) here rest

pub all_but-none : {A : Type 0} (p test : A → Bool) (xs : List A) → list_any p xs ≡ false → list_any p (all_but test xs) ≡ false
all_but-none p test [] none = refl
all_but-none p test (x ∷ xs) none =
    none-turn p x (all_but test xs) (test x) (or_left_false (p x) (list_any p xs) none) (all_but-none p test xs (or_right_false (p x) (list_any p xs) none))

-- what is found and stays is found
find-turn : {A : Type 0} (q : A → Bool) (x : A) (xs ys : List A) (b : Bool) → (q x ≡ true → b ≡ false) → find q ys ≡ find q xs
    → find q (cond (not b) (x ∷ ys) ys) ≡ cond (q x) (Some x) (find q xs)
find-turn q x xs ys false stays rest = ap (λ o. cond (q x) (Some x) o) rest
find-turn q x xs ys true stays rest = gone (q x) refl where
  gone : (c : Bool) → q x ≡ c → find q ys ≡ cond c (Some x) (find q xs)
  gone true e = absurd (false≢true (sym (stays e)))
  gone false e = rest

pub all_but-find : {A : Type 0} (q test : A → Bool) (xs : List A) → ((x : A) → q x ≡ true → test x ≡ false) → find q (all_but test xs) ≡ find q xs
all_but-find q test [] stays = refl
all_but-find q test (x ∷ xs) stays = find-turn q x xs (all_but test xs) (test x) (stays x) (all_but-find q test xs stays)

-- no more stay than there were
fewer-turn : {A : Type 0} (x : A) (xs ys : List A) (b : Bool) → length ys ≤ length xs → length (cond (not b) (x ∷ ys) ys) ≤ length (x ∷ xs)
fewer-turn x xs ys true rest = omega arith
fewer-turn x xs ys false rest = omega arith

pub all_but-fewer : {A : Type 0} (test : A → Bool) (xs : List A) → length (all_but test xs) ≤ length xs
all_but-fewer test [] = omega arith
all_but-fewer test (x ∷ xs) = fewer-turn x xs (all_but test xs) (test x) (all_but-fewer test xs)

-- names of those that stay are distinct where all are, in front of others and behind others
none-named : {A : Type 0} (name_of : A → Name) (m : Name) (x : A) (xs : List A) (b : Bool) → same_name m (name_of x) ≡ false
    → list_any (same_name m) (map name_of xs) ≡ false → list_any (same_name m) (map name_of (cond (not b) (x ∷ xs) xs)) ≡ false
none-named name_of m x xs true here rest = rest
none-named name_of m x xs false here rest = or_both_false (same_name m (name_of x)) (list_any (same_name m) (map name_of xs)) here rest

named-none : {A : Type 0} (name_of : A → Name) (m : Name) (test : A → Bool) (xs : List A) → list_any (same_name m) (map name_of xs) ≡ false
    → list_any (same_name m) (map name_of (all_but test xs)) ≡ false
named-none name_of m test [] none = refl
named-none name_of m test (x ∷ xs) none =
    none-named name_of m x (all_but test xs) (test x) (or_left_false (same_name m (name_of x)) (list_any (same_name m) (map name_of xs)) none)
    (named-none name_of m test xs (or_right_false (same_name m (name_of x)) (list_any (same_name m) (map name_of xs)) none))

none-both : (m : Name) (front rest front' rest' : List Name) → list_any (same_name m) (front ++ rest) ≡ false
    → (list_any (same_name m) front ≡ false → list_any (same_name m) front' ≡ false) → (list_any (same_name m) rest ≡ false → list_any (same_name m) rest' ≡ false)
    → list_any (same_name m) (front' ++ rest') ≡ false
none-both m front rest front' rest' none fronts rests =
    let both : (list_any (same_name m) front || list_any (same_name m) rest) ≡ false = sym (list_any-append (same_name m) front rest) ∙ none in
    list_any-append (same_name m) front' rest'
    ∙ or_both_false (list_any (same_name m) front') (list_any (same_name m) rest') (fronts (or_left_false (list_any (same_name m) front) (list_any (same_name m) rest) both))
    (rests (or_right_false (list_any (same_name m) front) (list_any (same_name m) rest) both))

stays-turn : {A : Type 0} (name_of : A → Name) (x : A) (kept : List A) (ns rest : List Name) (b : Bool)
    → (not (list_any (same_name (name_of x)) ns) && are_distinct ns) ≡ true
    → (list_any (same_name (name_of x)) ns ≡ false → list_any (same_name (name_of x)) (map name_of kept ++ rest) ≡ false)
    → are_distinct (map name_of kept ++ rest) ≡ true → are_distinct (map name_of (cond (not b) (x ∷ kept) kept) ++ rest) ≡ true
stays-turn name_of x kept ns rest true distinct none behind = behind
stays-turn name_of x kept ns rest false distinct none behind =
    let first : list_any (same_name (name_of x)) ns ≡ false =
    not_false (list_any (same_name (name_of x)) ns) (and_left (not (list_any (same_name (name_of x)) ns)) (are_distinct ns) distinct) in
    and_both (not (list_any (same_name (name_of x)) (map name_of kept ++ rest))) (are_distinct (map name_of kept ++ rest)) (ap not (none first)) behind

pub distinct-front : {A : Type 0} (name_of : A → Name) (test : A → Bool) (rows : List A) (rest : List Name) → are_distinct (map name_of rows ++ rest) ≡ true
    → are_distinct (map name_of (all_but test rows) ++ rest) ≡ true
distinct-front name_of test [] rest distinct = distinct
distinct-front name_of test (x ∷ xs) rest distinct =
    stays-turn name_of x (all_but test xs) (map name_of xs ++ rest) rest (test x) distinct
    (λ none. none-both (name_of x) (map name_of xs) rest (map name_of (all_but test xs)) rest none (named-none name_of (name_of x) test xs) (λ same. same))
    (distinct-front name_of test xs rest (and_right (not (list_any (same_name (name_of x)) (map name_of xs ++ rest))) (are_distinct (map name_of xs ++ rest)) distinct))

pub distinct-behind : {A : Type 0} (name_of : A → Name) (test : A → Bool) (front : List Name) (rows : List A) → are_distinct (front ++ map name_of rows) ≡ true
    → are_distinct (front ++ map name_of (all_but test rows)) ≡ true
distinct-behind name_of test [] rows distinct =
    subst (λ ns. are_distinct ns ≡ true) (append-nil (map name_of (all_but test rows)))
    (distinct-front name_of test rows [] (subst (λ ns. are_distinct ns ≡ true) (sym (append-nil (map name_of rows))) distinct))
distinct-behind name_of test (n ∷ ns) rows distinct =
    let all = ns ++ map name_of rows in
    let kept = ns ++ map name_of (all_but test rows) in
    let first : list_any (same_name n) all ≡ false = not_false (list_any (same_name n) all) (and_left (not (list_any (same_name n) all)) (are_distinct all) distinct) in
    let none : list_any (same_name n) kept ≡ false =
    none-both n ns (map name_of rows) ns (map name_of (all_but test rows)) first (λ same. same) (named-none name_of n test rows) in
    and_both (not (list_any (same_name n) kept)) (are_distinct kept) (ap not none)
    (distinct-behind name_of test ns rows (and_right (not (list_any (same_name n) all)) (are_distinct all) distinct))

-- what the words of a SELECT so far are, by where the reading of them is
use Rattle.std.proofs.Common.{◌≡◌, ℕ, Bool, true, false, if◌then◌else◌, Option, Some, None, Ok, List, [], ◌∷◌, ◌++◌, refl, sym, ◌∙◌, ap, subst, append_assoc, append-nil, codes}
use Rattle.rm_base.specs.declared.catalog.CatalogTable.{CatalogTable}
use Rattle.rm_words.specs.declared.token.Symbol.TheVariants as symbol
use Rattle.rm_words.specs.Token.{is_key}
use Rattle.rm_words.specs.Reading.{onward, run}
use Rattle.rm_words.proofs.Results.{some_is, none_some, ok_is, err_ok}
use Rattle.query_plan.specs.declared.part.Clause.{Clause}
use Rattle.query_plan.specs.declared.part.Clause.TheVariants as clause
use Rattle.query_plan.specs.declared.part.Partial.{Partial}
use Rattle.query_plan.specs.declared.part.Partial.TheVariants as partial
use Rattle.query_plan.specs.declared.part.Turn.{Turn}
use Rattle.query_plan.specs.declared.part.Turn.TheVariants.{Goes, Ends, Stops}
use Rattle.query_plan.specs.declared.progress.Progress.{Progress}
use Rattle.query_plan.specs.declared.progress.Progress.TheVariants.{Start, In, By, Ended}
use Rattle.query_plan.specs.declared.raw.RawPart.{RawPart}
use Rattle.query_plan.specs.declared.raw.RawSelect.{RawSelect}
use Rattle.query_plan.specs.declared.raw.Slot.{Slot}
use Rattle.query_plan.specs.declared.raw.Slot.TheVariants as slot
use Rattle.query_plan.specs.Raw.{added, empty, has_room}
use Rattle.query_plan.specs.Word.{Word, key_at, sign_at}
use Rattle.query_plan.specs.Grammar.{IsSelect, nothing, more, Leads, select, item_comma, from, join, on, and_on, filter, and, group_by, group_comma, order_by, key_comma, limit_to, Spells, unended, ended, clause_of, is_joinable, is_ungrouped, is_unlimited, is_unordered, is_whole}
use Rattle.query_plan.specs.Machine.{Edge, Mark, Key, Comma, Semicolon, begun, closed, due, edges, finish, is_mark, joinable_edges, last_edges, led, on_edge, or_stops, part_of, reader, step, turn, turned, ungrouped_edges, unlimited_edges, unordered_edges}
use Rattle.query_plan.proofs.Parts.{IsPartial, partial-part}
use Rattle.query_plan.proofs.Tokens.{goes-some, word-comma, word-key, word-semicolon}
use Rattle.query_plan.proofs.Turns.{begun-room, turn-means, turn-part}

-- the first word of the part is due
abbrev pub is_due : Partial → Bool
is_due partial.Due = true
is_due _ = false

-- the words are a SELECT so far, words that lead on, and a part so far
pub record IsIn (catalog : List CatalogTable) (raw : RawSelect) (takes : Slot) (p : Partial) (ws : List Word) : Type 0 where
  pub behind : Clause
  pub front : List Word
  pub lead : List Word
  pub words : List Word
  pub selects : IsSelect catalog behind raw front
  pub leads : Leads behind lead takes
  pub room : is_due p ≡ false → has_room raw takes ≡ true
  pub means : IsPartial catalog raw takes p words
  pub are : ws ≡ (front ++ lead) ++ words

-- the words are a SELECT so far and GROUP or ORDER, behind which BY leads on
pub record IsBy (catalog : List CatalogTable) (raw : RawSelect) (takes : Slot) (ws : List Word) : Type 0 where
  pub behind : Clause
  pub front : List Word
  pub place : ℕ
  pub word : List ℕ
  pub selects : IsSelect catalog behind raw front
  pub leads : (b : ℕ) → Leads behind (key_at place word ∷ key_at b (codes "BY") ∷ []) takes
  pub are : ws ≡ front ++ key_at place word ∷ []

-- what the words so far are
abbrev pub Means : List CatalogTable → Progress → List Word → Type 0
Means catalog Start ws = ws ≡ []
Means catalog (In raw s p) ws = IsIn catalog raw s p ws
Means catalog (By raw s) ws = IsBy catalog raw s ws
Means catalog (Ended raw) ws = Spells catalog ws raw

-- the word of a mark
abbrev mark_at : ℕ → Mark → Word
mark_at a (Key word) = key_at a word
mark_at a Comma = sign_at a symbol.Comma
mark_at a Semicolon = sign_at a symbol.Semicolon

word-mark : (w : Word) (m : Mark) → is_mark w.says m ≡ true → w ≡ mark_at w.place m
word-mark w (Key word) h = word-key w word h
word-mark w Comma h = word-comma w h
word-mark w Semicolon h = word-semicolon w h

-- each of the marks leads to what the words then are
abbrev Lead : List CatalogTable → List Word → List Edge → Type 0
Lead catalog ws [] = Unit {0}
Lead catalog ws (e ∷ es) = ((a : ℕ) → Means catalog e.1 (ws ++ mark_at a e.0 ∷ [])) × Lead catalog ws es

edge-turn : (catalog : List CatalogTable) (ws : List Word) (m : Mark) (r : Progress) (es : List Edge) (w : Word) (q : Progress) (b : Bool)
    → is_mark w.says m ≡ b → (if b then Some r else on_edge es w.says) ≡ Some q → ((a : ℕ) → Means catalog r (ws ++ mark_at a m ∷ []))
    → (on_edge es w.says ≡ Some q → Means catalog q (ws ++ w ∷ [])) → Means catalog q (ws ++ w ∷ [])
edge-turn catalog ws m r es w q true is h leads rest =
    subst (λ v. Means catalog q (ws ++ v ∷ [])) (sym (word-mark w m is))
    (subst (λ s. Means catalog s (ws ++ mark_at w.place m ∷ [])) (some_is r q h) (leads w.place))
edge-turn catalog ws m r es w q false is h leads rest = rest h

edge-means : (catalog : List CatalogTable) (ws : List Word) (es : List Edge) (w : Word) (q : Progress) → on_edge es w.says ≡ Some q
    → Lead catalog ws es → Means catalog q (ws ++ w ∷ [])
edge-means catalog ws [] w q h leads = absurd (none_some q h)
edge-means catalog ws (e ∷ es) w q h leads =
    edge-turn catalog ws e.0 e.1 es w q (is_mark w.says e.0) refl h leads.0 (λ rest. edge-means catalog ws es w q rest leads.1)

true_false : ◌≡◌ {A = Bool} true false → ⊥
true_false h = cc

-- a part is due behind words that lead to it
pub due-means : (catalog : List CatalogTable) (raw : RawSelect) (k : Clause) (s : Slot) (us lead : List Word) → IsSelect catalog k raw us
    → Leads k lead s → IsIn catalog raw s partial.Due (us ++ lead)
due-means catalog raw k s us lead so_far leads = record {
  behind = k;
  front = us;
  lead = lead;
  words = [];
  selects = so_far;
  leads = leads;
  room = λ h. absurd (true_false h);
  means = refl;
  are = sym (append-nil (us ++ lead));
}

last-lead : (catalog : List CatalogTable) (raw : RawSelect) (k : Clause) (us : List Word) → IsSelect catalog k raw us → is_whole k ≡ true
    → Lead catalog us (last_edges raw)
last-lead catalog raw k us so_far whole = (λ a. ended k raw a us so_far whole, tt)

unlimited-lead : (catalog : List CatalogTable) (raw : RawSelect) (k : Clause) (us : List Word) → IsSelect catalog k raw us → is_unlimited k ≡ true
    → is_whole k ≡ true → Lead catalog us (unlimited_edges raw)
unlimited-lead catalog raw k us so_far open_end whole = (
  λ a. due-means catalog raw k slot.Limit us (key_at a (codes "LIMIT") ∷ []) so_far (limit_to k a open_end),
  last-lead catalog raw k us so_far whole,
)

unordered-lead : (catalog : List CatalogTable) (raw : RawSelect) (k : Clause) (us : List Word) → IsSelect catalog k raw us → is_unordered k ≡ true
    → is_unlimited k ≡ true → is_whole k ≡ true → Lead catalog us (unordered_edges raw)
unordered-lead catalog raw k us so_far open_order open_end whole = (
  λ a. record {
    behind = k;
    front = us;
    place = a;
    word = codes "ORDER";
    selects = so_far;
    leads = λ b. order_by k a b open_order;
    are = refl;
  },
  unlimited-lead catalog raw k us so_far open_end whole,
)

ungrouped-lead : (catalog : List CatalogTable) (raw : RawSelect) (k : Clause) (us : List Word) → IsSelect catalog k raw us → is_ungrouped k ≡ true
    → is_unordered k ≡ true → is_unlimited k ≡ true → is_whole k ≡ true → Lead catalog us (ungrouped_edges raw)
ungrouped-lead catalog raw k us so_far open_group open_order open_end whole = (
  λ a. record {
    behind = k;
    front = us;
    place = a;
    word = codes "GROUP";
    selects = so_far;
    leads = λ b. group_by k a b open_group;
    are = refl;
  },
  unordered-lead catalog raw k us so_far open_order open_end whole,
)

joinable-lead : (catalog : List CatalogTable) (raw : RawSelect) (k : Clause) (us : List Word) → IsSelect catalog k raw us → is_joinable k ≡ true
    → is_ungrouped k ≡ true → is_unordered k ≡ true → is_unlimited k ≡ true → is_whole k ≡ true → Lead catalog us (joinable_edges raw)
joinable-lead catalog raw k us so_far open_join open_group open_order open_end whole = (
  λ a. due-means catalog raw k slot.Joined us (key_at a (codes "JOIN") ∷ []) so_far (join k a open_join),
  (
    λ a. due-means catalog raw k slot.Test us (key_at a (codes "WHERE") ∷ []) so_far (filter k a open_join),
    ungrouped-lead catalog raw k us so_far open_group open_order open_end whole,
  ),
)

edges-lead : (catalog : List CatalogTable) (raw : RawSelect) (k : Clause) (us : List Word) → IsSelect catalog k raw us
    → Lead catalog us (edges raw k)
edges-lead catalog raw clause.Begin us so_far =
    (λ a. due-means catalog raw clause.Begin slot.List us (key_at a (codes "SELECT") ∷ []) so_far (select a), tt)
edges-lead catalog raw clause.All us so_far =
    (λ a. due-means catalog raw clause.All slot.Table us (key_at a (codes "FROM") ∷ []) so_far (from clause.All a refl), tt)
edges-lead catalog raw clause.Items us so_far = (
  λ a. due-means catalog raw clause.Items slot.Item us (sign_at a symbol.Comma ∷ []) so_far (item_comma a),
  (λ a. due-means catalog raw clause.Items slot.Table us (key_at a (codes "FROM") ∷ []) so_far (from clause.Items a refl), tt),
)
edges-lead catalog raw clause.Tables us so_far = joinable-lead catalog raw clause.Tables us so_far refl refl refl refl refl
edges-lead catalog raw clause.Joined us so_far =
    (λ a. due-means catalog raw clause.Joined slot.On us (key_at a (codes "ON") ∷ []) so_far (on a), tt)
edges-lead catalog raw clause.Ons us so_far = (
  λ a. due-means catalog raw clause.Ons slot.On us (key_at a (codes "AND") ∷ []) so_far (and_on a),
  joinable-lead catalog raw clause.Ons us so_far refl refl refl refl refl,
)
edges-lead catalog raw clause.Tests us so_far = (
  λ a. due-means catalog raw clause.Tests slot.Test us (key_at a (codes "AND") ∷ []) so_far (and a),
  ungrouped-lead catalog raw clause.Tests us so_far refl refl refl refl,
)
edges-lead catalog raw clause.Groups us so_far = (
  λ a. due-means catalog raw clause.Groups slot.Group us (sign_at a symbol.Comma ∷ []) so_far (group_comma a),
  unordered-lead catalog raw clause.Groups us so_far refl refl refl,
)
edges-lead catalog raw clause.Keys us so_far = (
  λ a. due-means catalog raw clause.Keys slot.Key us (sign_at a symbol.Comma ∷ []) so_far (key_comma a),
  unlimited-lead catalog raw clause.Keys us so_far refl refl,
)
edges-lead catalog raw clause.Limited us so_far = last-lead catalog raw clause.Limited us so_far refl

led-means : (catalog : List CatalogTable) (raw : RawSelect) (k : Clause) (us : List Word) (w : Word) (q : Progress) → IsSelect catalog k raw us
    → led raw k w.says ≡ Some q → Means catalog q (us ++ w ∷ [])
led-means catalog raw k us w q so_far h = edge-means catalog us (edges raw k) w q h (edges-lead catalog raw k us so_far)

-- a part that may end is not due
pub part-not_due : (p : Partial) (x : RawPart) → part_of p ≡ Some x → is_due p ≡ false
part-not_due partial.Due x h = absurd (none_some x h)
part-not_due (partial.All a) x h = refl
part-not_due (partial.Named p n) x h = refl
part-not_due (partial.Dotted p n) x h = refl
part-not_due (partial.Function a f) x h = refl
part-not_due (partial.Opened a f) x h = refl
part-not_due (partial.Unclosed a v) x h = refl
part-not_due (partial.Value a v) x h = refl
part-not_due (partial.ValueAs a v) x h = refl
part-not_due (partial.Item i) x h = refl
part-not_due (partial.TableNamed n) x h = refl
part-not_due (partial.TableAs n) x h = refl
part-not_due (partial.Table t) x h = refl
part-not_due (partial.Minus which) x h = refl
part-not_due (partial.Left l) x h = refl
part-not_due (partial.Compared l o a) x h = refl
part-not_due (partial.Test t) x h = refl
part-not_due (partial.Group r) x h = refl
part-not_due (partial.KeyBy k) x h = refl
part-not_due (partial.Key k) x h = refl
part-not_due (partial.Limit n) x h = refl

-- a part that goes on has room
goes-room : (catalog : List CatalogTable) (raw : RawSelect) (s : Slot) (p : Partial) (ws : List Word) (w : Word) (q : Partial)
    → IsPartial catalog raw s p ws → (is_due p ≡ false → has_room raw s ≡ true) → turn catalog raw s p w ≡ Goes q → has_room raw s ≡ true
goes-room catalog raw s partial.Due ws w q m room h =
    (begun-room catalog raw s w q (has_room raw s) (goes-some (begun catalog raw s w) q h)).0
goes-room catalog raw s (partial.All a) ws w q m room h = room refl
goes-room catalog raw s (partial.Named p n) ws w q m room h = room refl
goes-room catalog raw s (partial.Dotted p n) ws w q m room h = room refl
goes-room catalog raw s (partial.Function a f) ws w q m room h = room refl
goes-room catalog raw s (partial.Opened a f) ws w q m room h = room refl
goes-room catalog raw s (partial.Unclosed a v) ws w q m room h = room refl
goes-room catalog raw s (partial.Value a v) ws w q m room h = room refl
goes-room catalog raw s (partial.ValueAs a v) ws w q m room h = room refl
goes-room catalog raw s (partial.Item i) ws w q m room h = room refl
goes-room catalog raw s (partial.TableNamed n) ws w q m room h = room refl
goes-room catalog raw s (partial.TableAs n) ws w q m room h = room refl
goes-room catalog raw s (partial.Table t) ws w q m room h = room refl
goes-room catalog raw s (partial.Minus which) ws w q m room h = room refl
goes-room catalog raw s (partial.Left l) ws w q m room h = room refl
goes-room catalog raw s (partial.Compared l o a) ws w q m room h = room refl
goes-room catalog raw s (partial.Test t) ws w q m room h = room refl
goes-room catalog raw s (partial.Group r) ws w q m room h = room refl
goes-room catalog raw s (partial.KeyBy k) ws w q m room h = room refl
goes-room catalog raw s (partial.Key k) ws w q m room h = room refl
goes-room catalog raw s (partial.Limit n) ws w q m room h = room refl

-- a part that ends is one more part of the SELECT
pub part-select : (catalog : List CatalogTable) (raw : RawSelect) (s : Slot) (p : Partial) (x : RawPart) (ws : List Word) → IsIn catalog raw s p ws
    → part_of p ≡ Some x → IsSelect catalog (clause_of s x) (added raw x) ws
part-select catalog raw s p x ws m h =
    subst (λ l. IsSelect catalog (clause_of s x) (added raw x) l) (sym m.are)
    (more m.behind raw s x m.front m.lead m.words m.selects m.leads (m.room (part-not_due p x h))
    (partial-part catalog raw s p x m.words m.means h))

turned-means : (catalog : List CatalogTable) (raw : RawSelect) (s : Slot) (p : Partial) (ws : List Word) (w : Word) (q : Progress) (t : Turn)
    → turn catalog raw s p w ≡ t → IsIn catalog raw s p ws → turned raw s w.says t ≡ Some q → Means catalog q (ws ++ w ∷ [])
turned-means catalog raw s p ws w q (Goes r) is m h =
    subst (λ z. Means catalog z (ws ++ w ∷ [])) (some_is (In raw s r) q h)
    (record {
      behind = m.behind;
      front = m.front;
      lead = m.lead;
      words = m.words ++ w ∷ [];
      selects = m.selects;
      leads = m.leads;
      room = λ _. goes-room catalog raw s p m.words w r m.means m.room is;
      means = turn-means catalog raw s p m.words w r m.means is;
      are = ap (λ l. l ++ w ∷ []) m.are ∙ append_assoc (m.front ++ m.lead) m.words (w ∷ []);
    })
turned-means catalog raw s p ws w q (Ends x) is m h =
    led-means catalog (added raw x) (clause_of s x) ws w q (part-select catalog raw s p x ws m (turn-part catalog raw s p w x is)) h
turned-means catalog raw s p ws w q Stops is m h = absurd (none_some q h)

by-turn : (catalog : List CatalogTable) (raw : RawSelect) (s : Slot) (ws : List Word) (w : Word) (q : Progress) (b : Bool)
    → is_key w.says (codes "BY") ≡ b → IsBy catalog raw s ws → (if b then Some (due raw s) else None) ≡ Some q
    → Means catalog q (ws ++ w ∷ [])
by-turn catalog raw s ws w q true is m h =
    let first : List Word = key_at m.place m.word ∷ [] in
    subst (λ z. Means catalog z (ws ++ w ∷ [])) (some_is (due raw s) q h)
    (subst (λ l. IsIn catalog raw s partial.Due l)
    (sym (ap (λ l. l ++ w ∷ []) m.are ∙ append_assoc m.front first (w ∷ []) ∙ ap (λ v. m.front ++ key_at m.place m.word ∷ v ∷ []) (word-key w (codes "BY") is)))
    (due-means catalog raw m.behind s m.front (key_at m.place m.word ∷ key_at w.place (codes "BY") ∷ []) m.selects (m.leads w.place)))
by-turn catalog raw s ws w q false is m h = absurd (none_some q h)

-- a step keeps what the words are
pub step-means : (catalog : List CatalogTable) (p : Progress) (ws : List Word) (w : Word) (q : Progress) → Means catalog p ws
    → step catalog p w ≡ Some q → Means catalog q (ws ++ w ∷ [])
step-means catalog Start ws w q m h =
    subst (λ l. Means catalog q (l ++ w ∷ [])) (sym m) (led-means catalog empty clause.Begin [] w q nothing h)
step-means catalog (In raw s p) ws w q m h = turned-means catalog raw s p ws w q (turn catalog raw s p w) refl m h
step-means catalog (By raw s) ws w q m h = by-turn catalog raw s ws w q (is_key w.says (codes "BY")) refl m h
step-means catalog (Ended raw) ws w q m h = absurd (none_some q h)

-- what is read has its meaning
run-turn : (catalog : List CatalogTable) (p : Progress) (us : List Word) (w : Word) (ws : List Word) (q : Progress) (o : Option Progress)
    → step catalog p w ≡ o → Means catalog p us → onward (or_stops o) (λ s. run (reader catalog) s ws) ≡ Ok q
    → ((s : Progress) → Means catalog s (us ++ w ∷ []) → run (reader catalog) s ws ≡ Ok q → Means catalog q ((us ++ w ∷ []) ++ ws))
    → Means catalog q (us ++ w ∷ ws)
run-turn catalog p us w ws q (Some s) is m h rest =
    subst (λ l. Means catalog q l) (append_assoc us (w ∷ []) ws) (rest s (step-means catalog p us w s m is) h)
run-turn catalog p us w ws q None is m h rest = absurd (err_ok tt q h)

run-means : (catalog : List CatalogTable) (p : Progress) (us ws : List Word) (q : Progress) → Means catalog p us
    → run (reader catalog) p ws ≡ Ok q → Means catalog q (us ++ ws)
run-means catalog p us [] q m h = subst (λ l. Means catalog q l) (sym (append-nil us)) (subst (λ s. Means catalog s us) (ok_is p q h) m)
run-means catalog p us (w ∷ ws) q m h =
    run-turn catalog p us w ws q (step catalog p w) refl m h (λ s n rest. run-means catalog s (us ++ w ∷ []) ws q n rest)

pub sound : (catalog : List CatalogTable) (ws : List Word) (q : Progress) → run (reader catalog) Start ws ≡ Ok q → Means catalog q ws
sound catalog ws q h = run-means catalog Start [] ws q refl h

closed-turn : (catalog : List CatalogTable) (raw : RawSelect) (s : Slot) (x : RawPart) (ws : List Word) (said : RawSelect) (b : Bool) → is_whole (clause_of s x) ≡ b
    → IsSelect catalog (clause_of s x) (added raw x) ws → (if b then Some (added raw x) else None) ≡ Some said → Spells catalog ws said
closed-turn catalog raw s x ws said true whole so_far h =
    subst (λ r. Spells catalog ws r) (some_is (added raw x) said h) (unended (clause_of s x) (added raw x) ws so_far whole)
closed-turn catalog raw s x ws said false whole so_far h = absurd (none_some said h)

closed-spells : (catalog : List CatalogTable) (raw : RawSelect) (s : Slot) (p : Partial) (ws : List Word) (said : RawSelect) (o : Option RawPart) → part_of p ≡ o
    → IsIn catalog raw s p ws → closed raw s o ≡ Some said → Spells catalog ws said
closed-spells catalog raw s p ws said None is m h = absurd (none_some said h)
closed-spells catalog raw s p ws said (Some x) is m h =
    closed-turn catalog raw s x ws said (is_whole (clause_of s x)) refl (part-select catalog raw s p x ws m is) h

pub finish-spells : (catalog : List CatalogTable) (p : Progress) (ws : List Word) (said : RawSelect) → Means catalog p ws → finish p ≡ Some said
    → Spells catalog ws said
finish-spells catalog Start ws said m h = absurd (none_some said h)
finish-spells catalog (In raw s p) ws said m h = closed-spells catalog raw s p ws said (part_of p) refl m h
finish-spells catalog (By raw s) ws said m h = absurd (none_some said h)
finish-spells catalog (Ended raw) ws said m h = subst (λ r. Spells catalog ws r) (some_is raw said h) m

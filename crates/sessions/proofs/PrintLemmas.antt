-- Replies that differ in the number of the query alone do the same.
use Rattle.std.proofs.Common.{◌≡◌, ℕ, List, Option, Some, None, refl, sym, ap, ◌∙◌}
use Rattle.rm_base.specs.declared.name.Name.{Name}
use Rattle.rm_base.specs.declared.reply.Reply.{Reply}
use Rattle.rm_base.specs.declared.reply.Reply.TheVariants as reply
use Rattle.rm_base.specs.declared.select.Select.{Select}
use Rattle.csv_tables.specs.declared.tables.NamedTable.{NamedTable}
use Rattle.sessions.specs.Held.{unnumbered, PrintsAs}
use Rattle.sessions.specs.Texts.{line_text, queued_text}
use Rattle.sessions.specs.Turns.{ScriptState, Goes, after_submit, after_poll, after_finish, done_text, checked_turn}

-- what does not see the number
same-shown : {X : Type 0} (f : Reply → X) → ((r : Reply) → f (unnumbered r) ≡ f r) → (a b : Reply) → PrintsAs a b → f a ≡ f b
same-shown f blind a b h = sym (blind a) ∙ ap f h ∙ blind b

line-blind : (session : Name) (r : Reply) → line_text session (unnumbered r) ≡ line_text session r
line-blind session (reply.Admitted query pool grant own borrowed) = refl
line-blind session (reply.Waiting query place) = refl
line-blind session _ = refl

pub line-shown : (session : Name) (a b : Reply) → PrintsAs a b → line_text session a ≡ line_text session b
line-shown session = same-shown (line_text session) (line-blind session)

queued-blind : (session : Name) (r : Reply) → queued_text session (unnumbered r) ≡ queued_text session r
queued-blind session (reply.Admitted query pool grant own borrowed) = refl
queued-blind session (reply.Waiting query place) = refl
queued-blind session _ = refl

pub queued-shown : (session : Name) (a b : Reply) → PrintsAs a b → queued_text session a ≡ queued_text session b
queued-shown session = same-shown (queued_text session) (queued-blind session)

submit-blind : (s : ScriptState) (number : ℕ) (plan : Select) (r : Reply) → after_submit s number plan (unnumbered r) ≡ after_submit s number plan r
submit-blind s number plan (reply.Admitted query pool grant own borrowed) = refl
submit-blind s number plan (reply.Waiting query place) = refl
submit-blind s number plan _ = refl

pub submit-shown : (s : ScriptState) (number : ℕ) (plan : Select) (a b : Reply) → PrintsAs a b → after_submit s number plan a ≡ after_submit s number plan b
submit-shown s number plan = same-shown (after_submit s number plan) (submit-blind s number plan)

poll-blind : (s : ScriptState) (number : ℕ) (r : Reply) → after_poll s number (unnumbered r) ≡ after_poll s number r
poll-blind s number (reply.Admitted query pool grant own borrowed) = refl
poll-blind s number (reply.Waiting query place) = refl
poll-blind s number _ = refl

pub poll-shown : (s : ScriptState) (number : ℕ) (a b : Reply) → PrintsAs a b → after_poll s number a ≡ after_poll s number b
poll-shown s number = same-shown (after_poll s number) (poll-blind s number)

finish-blind : (s : ScriptState) (number : ℕ) (r : Reply) → after_finish s number (unnumbered r) ≡ after_finish s number r
finish-blind s number (reply.Admitted query pool grant own borrowed) = refl
finish-blind s number (reply.Waiting query place) = refl
finish-blind s number _ = refl

pub finish-shown : (s : ScriptState) (number : ℕ) (a b : Reply) → PrintsAs a b → after_finish s number a ≡ after_finish s number b
finish-shown s number = same-shown (after_finish s number) (finish-blind s number)

done-blind : (tables : List NamedTable) (session : Name) (plan : Option Select) (r : Reply) → done_text tables session plan (unnumbered r) ≡ done_text tables session plan r
done-blind tables session None r = line-blind session r
done-blind tables session (Some plan) (reply.Admitted query pool grant own borrowed) = refl
done-blind tables session (Some plan) (reply.Waiting query place) = refl
done-blind tables session (Some plan) _ = refl

pub done-shown : (tables : List NamedTable) (session : Name) (plan : Option Select) (a b : Reply) → PrintsAs a b → done_text tables session plan a ≡ done_text tables session plan b
done-shown tables session plan = same-shown (done_text tables session plan) (done-blind tables session plan)

checked-blind : (s : ScriptState) (session : Name) (number : ℕ) (r : Reply) → checked_turn s session number (unnumbered r) ≡ checked_turn s session number r
checked-blind s session number (reply.Admitted query pool grant own borrowed) = ap (λ (text : List ℕ). Goes text s) (line-blind session (reply.Admitted query pool grant own borrowed))
checked-blind s session number (reply.Waiting query place) = ap (λ (text : List ℕ). Goes text s) (line-blind session (reply.Waiting query place))
checked-blind s session number _ = refl

pub checked-shown : (s : ScriptState) (session : Name) (number : ℕ) (a b : Reply) → PrintsAs a b → checked_turn s session number a ≡ checked_turn s session number b
checked-shown s session number = same-shown (checked_turn s session number) (checked-blind s session number)

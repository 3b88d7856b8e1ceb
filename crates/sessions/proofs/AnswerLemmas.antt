-- The parts of an answer.
use Rattle.std.proofs.Common.{◌≡◌, ℕ, List, ◌++◌, refl, ap, ◌∙◌, append-nil}
use Rattle.rm_base.specs.declared.name.Name.{Name}
use Rattle.rm_base.specs.declared.reply.Reply.TheVariants as reply
use Rattle.sessions.specs.declared.answer.Answer.{Answer}
use Rattle.sessions.specs.declared.answer.Ran.{Ran}
use Rattle.sessions.specs.declared.answer.Ran.TheVariants as ran
use Rattle.sessions.specs.AnswerTexts.{outcome_text, rows_text}
use Rattle.sessions.specs.Answered.{ran_outcome, rows_in, head_text, told_text}
use Rattle.sessions.specs.Texts.{line_text}

outcome-parts : (session : Name) (names : List (List ℕ)) (r : Ran) → head_text session names r ++ rows_text (rows_in r) ≡ outcome_text session names (ran_outcome r)
outcome-parts session names (ran.Rows rows) = refl
outcome-parts session names (ran.SumOutOfRange column sum) = append-nil _
outcome-parts session names (ran.TooLarge rows) = append-nil _
outcome-parts session names ran.NeedsSpill = append-nil _

-- what stands before the rows, the rows, and the line of the release
pub answer-parts : (a : Answer) (head rows line : List ℕ) (names : List (List ℕ)) → head ≡ head_text a.session names a.ran → rows ≡ rows_text (rows_in a.ran) → line ≡ line_text a.session (reply.Released a.released)
    → names ≡ a.plan.names → (head ++ rows) ++ line ≡ told_text a
answer-parts a head rows line names is_head is_rows is_line is_names =
    ap (λ h. (h ++ rows) ++ line) (is_head ∙ ap (λ (n : List (List ℕ)). head_text a.session n a.ran) is_names)
    ∙ ap (λ r. (head_text a.session a.plan.names a.ran ++ r) ++ line) is_rows
    ∙ ap (λ t. t ++ line) (outcome-parts a.session a.plan.names a.ran)
    ∙ ap (λ l. outcome_text a.session a.plan.names (ran_outcome a.ran) ++ l) is_line

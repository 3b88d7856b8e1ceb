-- What the cap of its pool comes to for a query.
use Rattle.std.specs.Prelude.{◌≡◌, ℕ, Bool, true, false, cond, not, [], ◌∷◌, Option, Some, None, option_map}
use Rattle.rm_base.specs.declared.name.Name.{Name}
use Rattle.rm_base.specs.declared.reply.CapOwner.TheVariants.{Pool}
use Rattle.rm_base.specs.declared.reply.Reply.TheVariants.{Go, CapEnded}
use Rattle.rm_rules.specs.declared.verdict.Verdict.{Verdict}
use Rattle.rm_rules.specs.declared.verdict.Verdict.TheVariants.{Says, GoesTo}
use Rattle.rm_rules.specs.Target.{is_exceeded, says_if, ended_by, first_verdict}

-- the verdict by a cap, and by the target that there is
abbrev by_cap : Option ℕ → ℕ → Option Name → Verdict
by_cap cap running next = first_verdict (says_if (not (is_exceeded cap running)) Go ∷ option_map GoesTo next ∷ ended_by Pool cap running ∷ [])

-- the same, where the cap is exceeded or not
abbrev by_test : Bool → Verdict → Option Name → Verdict
by_test b end next = first_verdict (cond (not b) (Some (Says Go)) None ∷ option_map GoesTo next ∷ cond b (Some end) None ∷ [])

on-turn : (b : Bool) (end ended : Verdict) (next : Option Name) (to : Name) → cond b (Some end) None ≡ Some ended → next ≡ Some to → GoesTo to ≡ by_test b end next
on-turn true end ended None to e some = let none : None ≡ Some to = some in absurd (cc)
on-turn true end ended (Some pool) to e some = let same : Some pool ≡ Some to = some in cc
on-turn false end ended next to e some = let none : None ≡ Some ended = e in absurd (cc)

pub goes-on : (cap : Option ℕ) (running : ℕ) (ended : Verdict) (next : Option Name) (to : Name) → ended_by Pool cap running ≡ Some ended → next ≡ Some to
    → GoesTo to ≡ by_cap cap running next
goes-on None running ended next to e some = let none : None ≡ Some ended = e in absurd (cc)
goes-on (Some cap) running ended next to e some = on-turn (is_exceeded (Some cap) running) (Says (CapEnded Pool running cap)) ended next to e some

end-turn : (b : Bool) (end ended : Verdict) (next : Option Name) → cond b (Some end) None ≡ Some ended → next ≡ None → ended ≡ by_test b end next
end-turn true end ended None e none = let same : Some end ≡ Some ended = e in cc
end-turn true end ended (Some pool) e none = let some : Some pool ≡ None = none in absurd (cc)
end-turn false end ended next e none = let no : None ≡ Some ended = e in absurd (cc)

pub at-end : (cap : Option ℕ) (running : ℕ) (ended : Verdict) (next : Option Name) → ended_by Pool cap running ≡ Some ended → next ≡ None
    → ended ≡ by_cap cap running next
at-end None running ended next e none = let no : None ≡ Some ended = e in absurd (cc)
at-end (Some cap) running ended next e none = end-turn (is_exceeded (Some cap) running) (Says (CapEnded Pool running cap)) ended next e none

-- a verdict that names a pool names the target
next-turn : (b : Bool) (running cap : ℕ) (next : Option Name) (to : Name) → by_test b (Says (CapEnded Pool running cap)) next ≡ GoesTo to → next ≡ Some to
next-turn true running cap None to e = let no : Says (CapEnded Pool running cap) ≡ GoesTo to = e in absurd (cc)
next-turn true running cap (Some pool) to e = let same : GoesTo pool ≡ GoesTo to = e in cc
next-turn false running cap next to e = let no : Says Go ≡ GoesTo to = e in absurd (cc)

pub next-named : (cap : Option ℕ) (running : ℕ) (next : Option Name) (to : Name) → by_cap cap running next ≡ GoesTo to → next ≡ Some to
next-named None running next to e = let no : Says Go ≡ GoesTo to = e in absurd (cc)
next-named (Some cap) running next to e = next-turn (is_exceeded (Some cap) running) running cap next to e

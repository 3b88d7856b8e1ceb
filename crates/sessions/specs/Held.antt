-- The sessions that a script holds, each with its grant while one is out.
use Rattle.std.specs.Prelude.{◌≡◌, ◌≢◌, ℕ, Bool, List, [], ◌∷◌, map, Option, Some, None, is_some, Result, Ok, Err, if◌then◌else◌}
use Rattle.std.specs.Option.{ForSome}
use Rattle.rm_base.specs.declared.refusal.Refusal.{Refusal}
use Rattle.rm_base.specs.declared.reply.Reply.{Reply}
use Rattle.rm_base.specs.declared.reply.Reply.TheVariants as reply
use Rattle.sessions.specs.declared.held.Held.{Held}
use Rattle.sessions.specs.declared.submitted.Submitted.{Submitted}
use Rattle.sessions.specs.declared.submitted.Submitted.TheVariants.{Admitted, Waiting, Ended, Refused}
use Rattle.sessions.specs.Granted.{Granted}
use Rattle.sessions.specs.Host.{Known}
use Rattle.sessions.specs.Session.{SeesOpen, HoldsGrant, sees_leaving}
use Rattle.sessions.specs.SessionNames.{NamedSession}

-- a held session, by its name and its number
abbrev pub named_session : Held → NamedSession
named_session h = record { name = h.name; session = h.session.number }

abbrev pub held_names : List Held → List NamedSession
held_names held = map named_session held

-- The session is open, it knows whether its grant is out, the query runs to which that was given, and it is known whether
-- that is to give way.
pub record IsHeld (known : Known) (h : Held) : Type 0 where
  pub opened : SeesOpen known h.session.number
  pub told : h.session.granted ≡ is_some h.grant
  pub own : ForSome h.grant (HoldsGrant known h.session.number)
  pub leaves : h.leaving ≡ sees_leaving known h.session.number

-- none of them has this number
abbrev pub AreApart : ℕ → List Held → Type 0
AreApart number [] = Unit {0}
AreApart number (h ∷ hs) = (h.session.number ≢ number) × AreApart number hs

-- each of them is held, and no two have one number
abbrev pub AreHeld : Known → List Held → Type 0
AreHeld known [] = Unit {0}
AreHeld known (h ∷ hs) = IsHeld known h × AreApart h.session.number hs × AreHeld known hs

-- the reply that told this, but for the number of the query, which is not printed
abbrev pub printed : Submitted → Reply
printed (Admitted grant account) = reply.Admitted 0 account.pool grant.bytes account.own account.borrowed
printed (Waiting place) = reply.Waiting 0 place
printed (Ended end) = reply.Ended end
printed (Refused refusal) = reply.Refused refusal

-- a reply without the number of the query, which no line prints
abbrev pub unnumbered : Reply → Reply
unnumbered (reply.Admitted query pool grant own borrowed) = reply.Admitted 0 pool grant own borrowed
unnumbered (reply.Waiting query place) = reply.Waiting 0 place
unnumbered answer = answer

-- two replies differ in the number of the query alone, so they print the same
abbrev pub PrintsAs : Reply → Reply → Type 0
PrintsAs a b = unnumbered a ≡ unnumbered b

-- the grant that is out after a reply to Submit, Poll or GiveWay, where this one was before
abbrev pub grant_after : Submitted → Option Granted → Option Granted
grant_after (Admitted grant account) held = Some grant
grant_after (Waiting place) held = held
grant_after (Ended end) held = held
grant_after (Refused refusal) held = held

-- a grant is given up where its query is to give way; else it stays out
abbrev pub given_up : Bool → Option Granted → Option Granted
given_up leaving grant = if leaving then grant else None

abbrev pub held_back : Bool → Option Granted → Option Granted
held_back leaving grant = if leaving then None else grant

-- the reply to Close
abbrev pub closing_reply : Result (Unit {0}) (Held × Refusal) → Reply
closing_reply (Ok done) = reply.Closed
closing_reply (Err back) = reply.Refused back.1

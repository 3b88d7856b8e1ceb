-- What a script prints.
use Rattle.std.specs.Prelude.{ℕ, List, [], ◌∷◌, ◌++◌, codes}
use Rattle.std.specs.Fmt.{decimal}
use Rattle.rm_base.specs.declared.name.Name.{Name}
use Rattle.rm_base.specs.declared.reply.End.{End}
use Rattle.rm_base.specs.declared.reply.End.TheVariants as end
use Rattle.rm_base.specs.declared.reply.Reply.{Reply}
use Rattle.rm_base.specs.declared.reply.Reply.TheVariants as reply
use Rattle.rm_base.specs.Name.{name_text}
use Rattle.rm_base.specs.RefusalText.{refusal_text, cap_kind_text, cap_owner_text}

-- how a query ended in the queue
abbrev pub end_text : End → List ℕ
end_text (end.TimedOut deadline) = codes "timedout " ++ decimal deadline
end_text (end.TooLarge which floor cap) = codes "toolarge " ++ (cap_kind_text which ++ (codes " " ++ (decimal floor ++ (codes " " ++ decimal cap))))
end_text end.Cancelled = codes "cancelled"

-- what is replied, as a script prints it
abbrev pub reply_text : Reply → List ℕ
reply_text reply.Defined = codes "ok"
reply_text (reply.Opened session) = codes "opened " ++ decimal session
reply_text reply.Set = codes "set"
reply_text (reply.Admitted query pool grant own borrowed) =
    codes "admitted " ++ (decimal grant ++ (codes " " ++ (name_text pool ++ (codes " " ++ (decimal own ++ (codes " " ++ decimal borrowed))))))
reply_text (reply.Waiting query place) = codes "waiting " ++ decimal place
reply_text (reply.Ended end) = end_text end
reply_text reply.Go = codes "go"
reply_text (reply.MovedOn pool) = codes "moved " ++ name_text pool
reply_text (reply.GiveWay pool) = codes "giveway " ++ name_text pool
reply_text (reply.CapEnded which ran cap) = codes "capended " ++ (cap_owner_text which ++ (codes " " ++ (decimal ran ++ (codes " " ++ decimal cap))))
reply_text reply.Stopping = codes "stopping"
reply_text (reply.Released grant) = codes "released " ++ decimal grant
reply_text reply.Cancelled = codes "cancelled"
reply_text reply.Closed = codes "closed"
reply_text (reply.Refused refusal) = refusal_text refusal

-- the line of a reply to a session
abbrev pub line_text : Name → Reply → List ℕ
line_text session answer = name_text session ++ (codes " " ++ (reply_text answer ++ 10 ∷ []))

-- the line of a reply to Submit or GiveWay: a query that waits is `queued`
abbrev pub queued_text : Name → Reply → List ℕ
queued_text session (reply.Waiting query place) = name_text session ++ (codes " queued " ++ (decimal place ++ 10 ∷ []))
queued_text session answer = line_text session answer

-- the line of a reply to SetPool right after a session was opened: where it went well the session's number is told
abbrev pub chosen_text : Name → ℕ → Reply → List ℕ
chosen_text session number reply.Set = line_text session (reply.Opened number)
chosen_text session number answer = line_text session answer

-- the line of a reply that names no session
abbrev pub bare_text : Reply → List ℕ
bare_text answer = reply_text answer ++ 10 ∷ []

-- the line of a bad line
abbrev pub bad_text : ℕ → List ℕ
bad_text number = codes "bad line " ++ (decimal number ++ 10 ∷ [])

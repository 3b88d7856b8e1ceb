use Rattle.std.specs.Prelude.{Option, Some, None}
use Rattle.rm_base.specs.declared.reply.Reply.{Reply}
use Rattle.rm_outside.specs.declared.watch.Watched.{Watched}
use Rattle.rm_outside.specs.declared.watch.Watched.TheVariants.{Go, Stop}

-- the reply for which work stops
abbrev pub stop_in : Watched → Option Reply
stop_in Go = None
stop_in (Stop reply) = Some reply

-- For which reply work was stopped.
use Rattle.std.specs.Prelude.{Option, Some, None, Result, Ok, Err}
use Rattle.rm_base.specs.declared.reply.Reply.{Reply}
use Rattle.tuples.specs.declared.pace.Stopped.{Stopped}

abbrev pub stop_after : {T : Type 0} → Result T Stopped → Option Reply
stop_after (Ok x) = None
stop_after (Err stopped) = Some stopped.0

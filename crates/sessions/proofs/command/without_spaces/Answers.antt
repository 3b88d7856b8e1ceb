use Rattle.sessions.proofs.command.without_spaces.Goals as goal

pub starts_with-requires-text-self : goal.starts_with-requires-text-self
starts_with-requires-text-self c κs = c.loop-rest.invariant.utf8

pub split_once-requires-text-self : goal.split_once-requires-text-self
split_once-requires-text-self c κs = c.loop-rest.invariant.utf8

pub returns-text : goal.returns-text
returns-text c = c.loop-rest.invariant.utf8

use Rattle.rm_rules.proofs.NewUsers.{new_user-general}
use Rattle.rm_rules.proofs.acceptance.new_users_get_general_alone.Goals as goal

pub returns : goal.returns
returns c = λ d name pool change new sound gives h. new_user-general d new name pool change sound gives h

use Rattle.accounts.proofs.Standing.{queries-stand, grant-stands, account-stands, taken-stands, given-stands}
use Rattle.accounts.proofs.laws.queries_agree.Goals as goal

pub returns : goal.returns
returns c = record { runs = queries-stand; grant = grant-stands; account = account-stands; taken = taken-stands; given_back = given-stands }

use Rattle.pool_queue.proofs.ByNumber.{waits-by_number, found-by_number, left-by_number, place-by_number}
use Rattle.pool_queue.proofs.laws.queries_by_number.Goals as goal

pub returns : goal.returns
returns c = record {
  waits = waits-by_number;
  found = found-by_number;
  left = left-by_number;
  place = place-by_number;
}

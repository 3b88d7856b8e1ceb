use Rattle.query_plan.proofs.Texts.{text-one_refusal}
use Rattle.query_plan.proofs.laws.one_refusal.Goals as goal

pub returns : goal.returns
returns c = text-one_refusal

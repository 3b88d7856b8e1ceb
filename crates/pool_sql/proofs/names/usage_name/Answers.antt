use Rattle.std.proofs.Common.{◌≡◌, IfSome, subst, codes}
use Rattle.std.specs.Str.{str_to_ascii_lowercase}
use Rattle.rm_base.specs.Name.{name_text}
use Rattle.rm_base.proofs.Names.{name_text-eq}
use Rattle.pool_sql.specs.Names.{usage_name}
use Rattle.pool_sql.proofs.names.usage_name.Goals as goal

pub returns : goal.returns
returns c =
    name_text-eq c.unwrap.result usage_name
    (subst (λ o. IfSome o (λ n. name_text n ≡ str_to_ascii_lowercase (codes "usage"))) c.unwrap.ensures c.of.ensures.text)

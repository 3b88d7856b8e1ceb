-- the name that is a key word too
use Rattle.std.specs.Prelude.{refl, codes}
use Rattle.rm_base.specs.declared.name.Name.{Name}
use Rattle.rm_base.specs.Name.{padded}

-- a role may be called so, although USAGE is a key word behind GRANT and REVOKE
abbrev pub usage_name : Name
usage_name = record { bytes = padded (codes "usage"); kept = refl }

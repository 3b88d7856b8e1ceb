use Rattle.std.specs.Prelude.{◌≡◌, ℕ, ◌-◌, Bool, true, false, if◌then◌else◌, List, ◌++◌, length, Option, Some, None, codes, refl, replicate}
use Rattle.std.specs.Str.{bytes_eq, str_to_ascii_lowercase}
use Rattle.rm_base.specs.declared.limits.TheConstants.{NAME_MOST}
use Rattle.rm_base.specs.declared.name.Name.{Name}
use Rattle.rm_base.specs.NameText.{text_in, is_name_text, keeps_name}

-- the text of a name
abbrev pub name_text : Name → List ℕ
name_text name = text_in name.bytes

-- two names are one
abbrev pub same_name : Name → Name → Bool
same_name a b = bytes_eq a.bytes b.bytes

-- the pool that all others borrow from
abbrev pub general : Name
general = record { bytes = codes "general" ++ replicate 25 0; kept = refl }

-- the user that is there from the start
abbrev pub dbadmin : Name
dbadmin = record { bytes = codes "dbadmin" ++ replicate 25 0; kept = refl }

-- a text with zeros behind it, up to the greatest length of a name
abbrev pub padded : List ℕ → List ℕ
padded text = text ++ replicate (NAME_MOST - length text) 0

-- the name that bytes keep, where they keep one
abbrev pub name_kept : (bytes : List ℕ) (keeps : Bool) → keeps_name bytes ≡ keeps → Option Name
name_kept bytes true keeps = Some (record { bytes = bytes; kept = keeps })
name_kept bytes false keeps = None

-- the name that a word spells in any case, where its lower case is the text of a name
abbrev pub name_of : List ℕ → Option Name
name_of word =
    let text = str_to_ascii_lowercase word in
    if is_name_text text then name_kept (padded text) (keeps_name (padded text)) refl else None

-- the names and the key words among the tokens
use Rattle.std.specs.Prelude.{ℕ, if◌then◌else◌, Option, None, List, refl}
use Rattle.rm_base.specs.declared.name.Name.{Name}
use Rattle.rm_base.specs.NameText.{is_name_text, keeps_name}
use Rattle.rm_base.specs.Name.{name_kept, name_text, padded}
use Rattle.rm_words.specs.Token.{Token, Bare, folded}

-- the name whose text this is, where it is a name's. A token's word is in lower case already
unfoldable pub name_called : List ℕ → Option Name
name_called text = if is_name_text text then name_kept (padded text) (keeps_name (padded text)) refl else None

-- the name that a token is
abbrev pub name_of : Token → Option Name
name_of (Bare word) = name_called word
name_of _ = None

-- a key word
abbrev pub key : List ℕ → Token
key word = Bare (folded word)

-- a name
abbrev pub name : Name → Token
name n = Bare (name_text n)

use Rattle.std.proofs.Common.{◌∙◌, sym, ap}
use Rattle.rm_words.specs.Token.{token_told}
use Rattle.rm_words.specs.Names.{name_of}
use Rattle.rm_words.proofs.NameLemmas.{name_of-lower}
use Rattle.rm_words.proofs.token.Token.name.Goals as goal

pub returns-in-Bare : goal.returns-in-Bare
returns-in-Bare c =
    c.of.ensures.name ∙ name_of-lower c.in-Bare.word.now ∙ sym (ap (λ t. name_of (token_told t)) c.in-Bare.is)

use Rattle.std.proofs.Common.{inr, refl, lit<, None}
use Rattle.std.proofs.lemmas.Str.Pattern.{strip_prefix_char}
use Rattle.call_text.proofs.ValueWords.{unlettered}
use Rattle.call_text.proofs.values.lettered.Goals as goal

pub returns-in-None : goal.returns-in-None
returns-in-None c =
    let no_int = strip_prefix_char 105 c.args.word.now None c.in_default.ensures.cases (lit< tt) in
    let no_text = strip_prefix_char 116 c.args.word.now None c.in-None.ensures.cases (lit< tt) in
    inr (_, refl, unlettered c.args.word.now no_int no_text)

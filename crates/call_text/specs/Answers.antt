-- The texts of replies.
use Rattle.std.specs.Prelude.{◌≡◌, true, false, ◌++◌, codes}
use Rattle.map_types.specs.declared.commands.Reply.{Reply}
use Rattle.map_types.specs.declared.commands.Reply.TheVariants.{Was, Now, Did, Fault}
use Rattle.call_text.specs.Names.{Text}
use Rattle.call_text.specs.Values.{value_word}

-- the text of a reply; that of a fault is its own
abbrev pub IsReplyText : Reply → Text → Type 0
IsReplyText (Was value) text = text ≡ codes "was " ++ value_word value
IsReplyText (Now value) text = text ≡ codes "now " ++ value_word value
IsReplyText (Did true) text = text ≡ codes "did yes"
IsReplyText (Did false) text = text ≡ codes "did no"
IsReplyText (Fault fault) text = Unit {0}

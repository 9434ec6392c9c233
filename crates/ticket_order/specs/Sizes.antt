-- How large a reply is.
use Rattle.std.specs.Prelude.{ℕ, length, Option, Some, None}
use Rattle.map_types.specs.declared.commands.Reply.{Reply}
use Rattle.map_types.specs.declared.commands.Reply.TheVariants.{Was, Now, Did, Fault}
use Rattle.map_types.specs.declared.texts.Value.{Value}
use Rattle.map_types.specs.declared.texts.Value.TheVariants.{Int, Text}

abbrev pub bytes_of_value : Option Value → ℕ
bytes_of_value None = 0
bytes_of_value (Some (Int number)) = 0
bytes_of_value (Some (Text bytes)) = length bytes

-- how many bytes the text of the reply has, or 0 if it has no text
abbrev pub text_bytes : Reply → ℕ
text_bytes (Was value) = bytes_of_value value
text_bytes (Now value) = bytes_of_value value
text_bytes (Did done) = 0
text_bytes (Fault error) = 0

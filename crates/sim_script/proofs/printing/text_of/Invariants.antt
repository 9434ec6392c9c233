use Rattle.std.proofs.Common.{◌+◌, ◌++◌, drop, string_bytes}
use Rattle.call_text.specs.Names.{Text}
use Rattle.sim_script.specs.Texts.{IsScriptText}
use Rattle.sim_script.proofs.printing.text_of.Given as goal

abbrev pub invariant-spans : goal.invariant-spans
invariant-spans l = (behind : Text) → IsScriptText (l.index + 1) (drop l.index l.spans) l.rest behind → IsScriptText 1 l.spans l.outcomes (string_bytes l.text ++ behind)

use Rattle.std.proofs.Common.{◌≡◌, ℕ, Bool, true, false, List, map, Err, refl, sym}
use Rattle.std.specs.Borrow.{Bor}
use Rattle.std.specs.Str.{IsUtf8, is_utf8}
use Rattle.std.proofs.lemmas.Str.{IsUtf8-from_is_utf8, is_utf8-from_IsUtf8}
use Rattle.call_text.specs.Whole.{parse_words}
use Rattle.cmd_call.specs.Lines.{asked_by, asked_in, words_of}
use Rattle.cmd_call.specs.declared.lines.BadLine.TheVariants.{NotText}
use Rattle.cmd_call.proofs.lines.asked_in.Goals as goal

asked_text : (line : List ℕ) → IsUtf8 line → asked_in line ≡ asked_by (parse_words (words_of line))
unfolding asked_in
asked_text line is = rw (is_utf8-from_IsUtf8 line is) refl

asked_none : (line : List ℕ) (is : Bool) → is_utf8 line ≡ is → (IsUtf8 line → ⊥) → asked_in line ≡ Err NotText
unfolding asked_in
asked_none line true e other = absurd (other (IsUtf8-from_is_utf8 line e))
asked_none line false e other = rw e refl

pub returns-in_ok-words-in-Ok : goal.returns-in_ok-words-in-Ok
returns-in_ok-words-in-Ok c =
    let line : asked_in c.args.line.now ≡ asked_by (parse_words (words_of c.args.line.now)) = asked_text c.args.line.now c.in-Ok.ensures.cases.1 in
    let words : map (λ (word : Bor (List ℕ)). word.now) c.as_slice.result.now ≡ words_of c.args.line.now =
    rw (c.as_slice.ensures.value, c.in_ok-words-in-Ok.ensures, c.in-Ok.ensures.cases.0) refl in
    rw (line, sym words) c.asked_by.ensures

pub returns-in-Err : goal.returns-in-Err
returns-in-Err c = sym (asked_none c.args.line.now (is_utf8 c.args.line.now) refl c.in-Err.ensures.cases.0)

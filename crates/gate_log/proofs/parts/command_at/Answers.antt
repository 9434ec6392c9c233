use Rattle.std.proofs.Common.{◌++◌, ℕ, List, refl, ap₂, sym, ◌∙◌}
use Rattle.std.proofs.lemmas.List.{take-append-drop}
use Rattle.log_records.specs.Layout.{layout_of}
use Rattle.log_records.specs.Spelling.{record_bytes}
use Rattle.gate_log.proofs.Scanning.{slice_rest}
use Rattle.gate_log.proofs.parts.command_at.Goals as goal

pub returns-in-Ok-clause-some : goal.returns-in-Ok-clause-some
returns-in-Ok-clause-some c =
    let bytes : List ℕ = c.args.bytes.now in
    let found = c.in-Ok.ensures.found.0 in
    (found.fits, sym (take-append-drop c.in-Ok.used bytes) ∙ ap₂ (λ (a b : List ℕ). a ++ b) found.spelled (sym (slice_rest c.in-Ok.used bytes)))

pub returns-in_default : goal.returns-in_default
returns-in_default c = record {
  some = tt;
  none = λ command rest fits e. c.in_default.not-NoMemory (c.in-Err.ensures.only (record_bytes (layout_of c.args.version) command) rest command (record { fits = fits; spelled = refl }) e);
  err = tt;
}

use Rattle.std.proofs.Common.{ℕ, ap, ◌∷◌, ◌∙◌}
use Rattle.recovery.proofs.FirstBytes.{first_log_is, zeros}
use Rattle.log_records.specs.Layout.{layout_of}
use Rattle.recovery.proofs.first_bytes.first_log.Goals as goal

pub returns : goal.returns
returns c = ap (λ (version : ℕ). version ∷ zeros) c.byte.ensures ∙ first_log_is (layout_of c.args.version)

-- Why reading files may be refused, from why reading one of them is.
use Rattle.std.proofs.Common.{◌≡◌, ◌⊎◌, inl, inr, ℕ, ◌<◌}
use Rattle.map_types.specs.declared.refusals.Refusal.{Refusal}
use Rattle.map_types.specs.declared.refusals.Refusal.TheVariants.{Failed}
use Rattle.store_layout.specs.Failures.{AreFilesRefused, IsFileFault, IsFileRefused}

-- a call failed, or the file is at fault
pub at_fault : (file : ℕ) (refusal : Refusal) → (refusal ≡ Failed) ⊎ IsFileFault file refusal → IsFileRefused file refusal
at_fault file refusal (inl failed) = inl failed
at_fault file refusal (inr fault) = inr (inr fault)

pub of_files : (file : ℕ) (refusal : Refusal) → file < 4 → IsFileRefused file refusal → AreFilesRefused refusal
of_files file refusal few refused = inr (file, few, refused)

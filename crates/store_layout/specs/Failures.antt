-- How many device calls failed in what a call gives, and why reading files may be refused.
use Rattle.std.specs.Prelude.{◌≡◌, ◌⊎◌, ℕ, ◌<◌, Result, Err}
use Rattle.map_types.specs.declared.refusals.Refusal.{Refusal}
use Rattle.map_types.specs.declared.refusals.Refusal.TheVariants.{Damaged, Failed, NoMemory, NotFormatted, WrongVersion}

-- how many device calls failed
abbrev pub failed_in : {X : Type 0} → Result X Refusal → ℕ
failed_in (Err Failed) = 1
failed_in _ = 0

-- ---- what may be refused, whatever a device gives

-- the file is at fault: its version isn't read, or it is damaged at an offset
abbrev pub IsFileFault : ℕ → Refusal → Type 0
IsFileFault file refusal = (refusal ≡ WrongVersion) ⊎ ((offset : ℕ) × (refusal ≡ Damaged file offset))

-- reading the file is refused: a device call failed, or memory was wanting, or the file is at fault
abbrev pub IsFileRefused : ℕ → Refusal → Type 0
IsFileRefused file refusal = (refusal ≡ Failed) ⊎ ((refusal ≡ NoMemory) ⊎ IsFileFault file refusal)

-- reading the four files is refused: one of them is, or no checkpoint is sealed
abbrev pub AreFilesRefused : Refusal → Type 0
AreFilesRefused refusal = (refusal ≡ NotFormatted) ⊎ ((file : ℕ) × (file < 4) × IsFileRefused file refusal)

-- What came of reading bytes.
use Rattle.std.specs.Prelude.{ℕ, Result, Err}
use Rattle.file_pieces.specs.declared.fault.ReadFault.{ReadFault}
use Rattle.file_pieces.specs.declared.fault.ReadFault.TheVariants.{Failed}

-- how many device calls failed
abbrev pub failed_in : {X : Type 0} → Result X ReadFault → ℕ
failed_in (Err Failed) = 1
failed_in _ = 0

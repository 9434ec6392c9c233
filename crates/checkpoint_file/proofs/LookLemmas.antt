-- What a look at a disk leaves of a checkpoint's file.
use Rattle.std.proofs.Common.{◌≡◌, ℕ, List, refl, ap₂, subst}
use Rattle.disk_model.specs.Calls.{Looks}
use Rattle.disk_model.specs.Files.{Files}
use Rattle.disk_model.proofs.LookLemmas.{same_now}
use Rattle.file_pieces.specs.Pieces.{ReaderState, Holds}
use Rattle.checkpoint_file.specs.Loads.{seen_in}

module _ {D : Type 0} (states : D → List Files) (failures : D → ℕ) (honest : D → Type 0) where
  -- a file reads as it did
  pub same_seen : (old new : D) (file number : ℕ) → number ≡ file → Looks states failures honest 0 old new → seen_in states new number ≡ seen_in states old file
  same_seen old new file number is look = ap₂ (λ (files : Files) (n : ℕ). (files n).seen) (same_now states failures honest 0 old new look) is

  -- a reader holds what the file had
  pub held_before : (old new : D) (file : ℕ) (reader : ReaderState) → Looks states failures honest 0 old new → Holds (seen_in states new file) reader → Holds (seen_in states old file) reader
  held_before old new file reader look held = subst (λ (content : List ℕ). Holds content reader) (same_seen old new file file refl look) held

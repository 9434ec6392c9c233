-- A file as it is kept in memory.
use Rattle.std.specs.Prelude.{◌≡◌, ℕ, ◌<◌, List, length, slice_index_or, true}
use Rattle.disk_model.specs.Files.{File, Files, is_written}
use Rattle.disk_model.specs.declared.kept.Kept.{Kept}

-- it keeps this file
pub record IsKept (kept : Kept) (file : File) : Type 0 where
  pub seen : kept.seen.items ≡ file.seen
  pub base : kept.base.items ≡ file.base
  pub marks : length kept.reached.items ≡ length file.base
  pub reached : (i : ℕ) → i < length file.base → slice_index_or kept.reached.items i true ≡ is_written i file.pending
  pub greatest : kept.greatest ≡ file.greatest

-- they keep these four files
pub record AreKept (kept : List Kept) (files : Files) : Type 0 where
  pub count : length kept ≡ 4
  pub each : (n : ℕ) (other : Kept) → n < 4 → IsKept (slice_index_or kept n other) (files n)

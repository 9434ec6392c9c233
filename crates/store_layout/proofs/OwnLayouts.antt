-- A file that is written in the layout of a version is read in it.
use Rattle.std.proofs.Common.{◌≡◌, ℕ, ◌+◌, List, refl, sym, ap, ◌∙◌, subst}
use Rattle.std.specs.Prelude.{slice_index_or}
use Rattle.log_records.specs.declared.versions.Version.{Version}
use Rattle.log_records.specs.declared.versions.Version.TheVariants.{First, Second}
use Rattle.log_records.specs.Layout.{Layout, layout_of}
use Rattle.store_layout.specs.Logs.{Batch, IsClosed, IsEnded, layout_for}
use Rattle.store_layout.specs.Checkpoints.{Checkpoint, IsCheckpoint}
use Rattle.store_layout.specs.Readings.{Reading, Reads, closed, ended}
use Rattle.store_layout.specs.Faults.{version_in}
use Rattle.store_layout.specs.Opening.{checkpoint_layout, log_layout, IsCheckpointIn, IsClosedIn, IsEndedIn, ReadsIn}
use Rattle.store_layout.proofs.CheckpointFields.{has_version}
use Rattle.store_layout.proofs.LogOutcomes.{reads_header}
use Rattle.store_layout.proofs.Versions.{header_layout}

-- the layout is the one of its version
abbrev pub IsOwn : Layout → Type 0
IsOwn layout = layout_for layout.version ≡ layout

pub own_of : (version : Version) → IsOwn (layout_of version)
own_of First = refl
own_of Second = refl

module _ (layout : Layout) (own : IsOwn layout) where
  pub checkpoint_reads : (k : Checkpoint) (content : List ℕ) → IsCheckpoint layout k content → checkpoint_layout content ≡ layout
  checkpoint_reads k content is = ap layout_for (has_version layout k content is) ∙ own

  pub checkpoint_in_own : (k : Checkpoint) (content : List ℕ) → IsCheckpoint layout k content → IsCheckpointIn k content
  checkpoint_in_own k content is = subst (λ (x : Layout). IsCheckpoint x k content) (sym (checkpoint_reads k content is)) is

  pub log_reads : (g l : ℕ) (content : List ℕ) (reading : Reading) → Reads layout g l content reading → log_layout content ≡ layout
  log_reads g l content reading is = header_layout layout.version g l content (reads_header layout g l content reading is) ∙ own

  pub reads_in_own : (g l : ℕ) (content : List ℕ) (reading : Reading) → Reads layout g l content reading → ReadsIn g l content reading
  reads_in_own g l content reading is = subst (λ (x : Layout). Reads x g l content reading) (sym (log_reads g l content reading is)) is

  pub closed_in_own : (g l : ℕ) (batches : List Batch) (content : List ℕ) → IsClosed layout g l batches content → IsClosedIn g l batches content
  closed_in_own g l batches content is = reads_in_own g l content (closed batches) is

  pub ended_in_own : (g l : ℕ) (batches : List Batch) (content : List ℕ) → IsEnded layout g l batches (g + 1) content → IsEndedIn g l batches (g + 1) content
  ended_in_own g l batches content is = reads_in_own g l content (ended batches) is

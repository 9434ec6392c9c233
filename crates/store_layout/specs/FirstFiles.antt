-- The files of a store without a change.
use Rattle.std.specs.Prelude.{ℕ, ◌==◌, if◌then◌else◌, List, [], ◌∷◌, ◌++◌}
use Rattle.disk_model.specs.Files.{Contents, Files, at_rest}
use Rattle.disk_model.specs.Gates.{open_gate}
use Rattle.log_records.specs.Layout.{Layout, first_layout}
use Rattle.store_layout.specs.Checkpoints.{checkpoint_bytes}
use Rattle.store_layout.specs.Logs.{log_front, new_layout}
use Rattle.store_layout.specs.Opening.{first_checkpoint}

-- a log without batches, behind whose header the gate is closed
abbrev pub first_log_in : Layout → List ℕ
first_log_in layout = log_front layout 0 0 [] ++ 0 ∷ []

-- What the files hold: a sealed checkpoint of `stripes` stripes without entries, and the log that goes on from it.
abbrev pub contents_in : Layout → ℕ → Contents
contents_in layout stripes = λ number.
    if number == 0 then open_gate ∷ checkpoint_bytes layout (first_checkpoint stripes)
    else if number == 2 then first_log_in layout
    else []

-- and nothing of them is pending
abbrev pub files_in : Layout → ℕ → Files
files_in layout stripes = λ number. at_rest (contents_in layout stripes number)

-- what empty files hold once they are those of a new store
abbrev pub first_log : List ℕ
first_log = first_log_in new_layout

abbrev pub new_contents : ℕ → Contents
new_contents stripes = contents_in new_layout stripes

abbrev pub new_files : ℕ → Files
new_files stripes = files_in new_layout stripes

-- the files of a store that was formatted in version 01
abbrev pub old_files : ℕ → Files
old_files stripes = files_in first_layout stripes

-- What a schedule begins with, and what a call leaves within which a stop falls.
use Rattle.std.proofs.Common.{◌≡◌, ◌≤◌, ◌+◌, ℕ, None, List, [], ◌∷◌, length, take, max, refl, sym, ap, ◌∙◌, arith}
use Rattle.std.proofs.lemmas.List.{append-nil, ext_get_or, length-append, length-drop, length-take, take_all}
use Rattle.std.proofs.lemmas.List.FromFn.{get_or-map-range_with_len, length-map-range_with_len}
use Rattle.disk_model.specs.declared.fill.Fill.TheVariants.{New}
use Rattle.disk_model.specs.Files.{File, byte_at, overwritten, reached, with_file, written}
use Rattle.disk_model.specs.Fills.{bytes_by, torn}
use Rattle.log_records.specs.declared.versions.Version.{Version}
use Rattle.log_records.specs.declared.versions.Version.TheVariants.{First}
use Rattle.log_records.specs.Layout.{Layout, layout_of}
use Rattle.store_layout.specs.Checkpoints.{checkpoint_bytes}
use Rattle.store_layout.specs.FirstFiles.{contents_in, files_in}
use Rattle.store_layout.specs.Logs.{new_version}
use Rattle.store_layout.specs.Opening.{IsCheckpointIn, IsClosedIn, first_checkpoint}
use Rattle.store_layout.specs.OpeningLaws.{FirstIsWhole, FirstStands}
use Rattle.store_layout.proofs.OwnLayouts.{checkpoint_in_own, closed_in_own, own_of}
use Rattle.sim_rules.specs.declared.outcome.DeviceCall.TheVariants.{Write, Sync}
use Rattle.sim_rules.specs.World.{World, old_start, seen_of, start}
use Rattle.sim_rules.specs.Laws.{BeginsEmpty, EnteredAsFailed}

-- ---- the beginning

-- of a store of this version without a change
module _ (version : Version) where
  abbrev pub layout : Layout
  layout = layout_of version

  abbrev pub first_world : World
  first_world = record { files = files_in layout 16; history = []; life = None }

  pub first_sealed : FirstIsWhole → IsCheckpointIn (first_checkpoint 16) (contents_in layout 16 0)
  first_sealed whole = checkpoint_in_own layout (own_of version) (first_checkpoint 16) (contents_in layout 16 0) (record {
    rest = [];
    bytes = ap (λ (bytes : List ℕ). 165 ∷ bytes) (sym (append-nil (checkpoint_bytes layout (first_checkpoint 16))));
    whole = (whole layout 16 refl).0;
  })

  pub first_closed : IsClosedIn 0 0 [] (contents_in layout 16 2)
  first_closed = closed_in_own layout (own_of version) 0 0 [] (contents_in layout 16 2) (record {
    gate = 0;
    rest = [];
    bytes = refl;
    closed = λ e. omega (arith, e);
    log = record { generation_fits = omega arith; low_fits = omega arith; in_order = tt };
  })

  pub first_is_empty : FirstIsWhole → FirstStands → BeginsEmpty first_world
  first_is_empty whole stands = stands (seen_of first_world.files) 16 (first_sealed whole) refl first_closed

pub begins_empty : FirstIsWhole → FirstStands → BeginsEmpty start
unfolding start
begins_empty whole stands = first_is_empty new_version whole stands

pub old_begins_empty : FirstIsWhole → FirstStands → BeginsEmpty old_start
unfolding old_start
old_begins_empty whole stands = first_is_empty First whole stands

-- ---- a call within which a stop falls

pub all_bytes : (bytes : List ℕ) → bytes_by (length bytes) (λ i. byte_at i bytes) ≡ bytes
all_bytes bytes =
    ext_get_or 0 (bytes_by (length bytes) (λ i. byte_at i bytes)) bytes (length-map-range_with_len (λ i. byte_at i bytes) 0 (length bytes))
    (λ i l. get_or-map-range_with_len (λ j. byte_at j bytes) 0 (length bytes) i i 0 (omega (arith, l, length-map-range_with_len (λ j. byte_at j bytes) 0 (length bytes))) (omega arith))

no_longer : (at : ℕ) (bytes old : List ℕ) → at ≤ length old → length (overwritten at bytes old) ≤ max (length old) (at + length bytes)
no_longer at bytes old l = simp (length-append, length-take, length-drop) (omega (arith, l))

-- all of it is read
torn_whole : (number at : ℕ) (bytes : List ℕ) (file : File) → at ≤ length file.seen → torn New number at bytes file ≡ written at bytes file
torn_whole number at bytes file l =
    ap (λ (seen : List ℕ). reached at bytes seen file)
    (ap (λ (left : List ℕ). take (max (length file.seen) (at + length bytes)) (overwritten at left file.seen)) (all_bytes bytes)
    ∙ take_all (max (length file.seen) (at + length bytes)) (overwritten at bytes file.seen) (no_longer at bytes file.seen l))

pub entered_as_failed : EnteredAsFailed
entered_as_failed (Write file at bytes) files possible = ap (λ (left : File). with_file file left files) (sym (torn_whole file at bytes.items (files file) possible.place))
entered_as_failed (Sync file) files possible = refl

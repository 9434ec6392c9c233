-- A new store is opened.
use Rattle.std.proofs.Common.{◌≡◌, ℕ, zero, suc, ◌+◌, ◌*◌, inl, None, Some, List, [], length, map, refl, sym, ap, ◌∙◌, arith}
use Rattle.std.proofs.lemmas.List.{length-append}
use Rattle.std.specs.List.{range_with_len}
use Rattle.std.specs.FinMap as finite
use Rattle.map_model.specs.Maps.{Map}
use Rattle.log_records.specs.declared.versions.Version.{Version}
use Rattle.log_records.specs.declared.versions.Version.TheVariants.{First, Second}
use Rattle.log_records.specs.Layout.{Layout, first_layout, second_layout}
use Rattle.store_layout.specs.Calls.{checkpoint_calls, logs_calls, opening_calls}
use Rattle.store_layout.specs.Checkpoints.{checkpoint_header, section_bytes, sections_bytes}
use Rattle.store_layout.specs.Logs.{header, new_version}
use Rattle.store_layout.specs.Opening.{Holds, StandsFor, empty_section, first_checkpoint, map_of}
use Rattle.store_layout.specs.OpeningLaws.{FirstIsWhole, FirstStands, OneStanding}
use Rattle.store_layout.proofs.NewStores.{no_entries, section_size}
use Rattle.sim_rules.specs.declared.outcome.MapEntry.{MapEntry}
use Rattle.sim_rules.specs.World.{begun_by, old_start, seen_of, start}
use Rattle.sim_rules.specs.After.{after, synced_below}
use Rattle.sim_rules.specs.Cases.{entry_of}
use Rattle.sim_rules.specs.Examples.{FailsAmongThem, NewStoreOpens, OldStoreOpens, OpensFrom, new_store}
use Rattle.sim_rules.proofs.FileLaws.{first_closed, first_is_empty, first_sealed, first_world}

abbrev nothing : Map
nothing = finite.empty

-- a store of this version without a change
module _ (version : Version) (whole : FirstIsWhole) where
  first_holds : Holds (seen_of (first_world version).files) new_store
  first_holds = record { checkpoint = first_sealed version whole; other = inl refl; logs = first_closed version; reaches = omega arith }

  pub first_map : FirstStands → OneStanding → map_of new_store ≡ nothing
  first_map stands one =
      let contents = seen_of (first_world version).files in
      let found : StandsFor contents 0 (map_of new_store) = record { found = new_store; holds = first_holds; prefix = refl; map = refl } in
      (one contents 0 0 (map_of new_store) nothing found (first_is_empty version whole stands)).1

pub new_map : FirstIsWhole → FirstStands → OneStanding → map_of new_store ≡ nothing
new_map whole stands one = first_map new_version whole stands one

body_size : (layout : Layout) (from count : ℕ) → length (sections_bytes layout (map (λ stripe. empty_section) (range_with_len from count))) ≡ 12 * count
body_size layout from zero = refl
body_size layout from (suc count) =
    let rest = body_size layout (from + 1) count in
    let both = length-append (section_bytes layout empty_section) (sections_bytes layout (map (λ stripe. empty_section) (range_with_len (from + 1) count))) in
    omega (arith, rest, both, section_size layout)

opening_takes : (version : Version) → opening_calls (seen_of (first_world version).files) new_store ≡ 12
unfolding header checkpoint_header
opening_takes First = ap (λ (size : ℕ). 4 + (2 + checkpoint_calls size + logs_calls (seen_of (first_world First).files) (first_checkpoint 16) [] None + 1)) (body_size first_layout 0 16)
opening_takes Second = ap (λ (size : ℕ). 4 + (2 + checkpoint_calls size + logs_calls (seen_of (first_world Second).files) (first_checkpoint 16) [] None + 1)) (body_size second_layout 0 16)

pub opens_from : (version : Version) → FirstIsWhole → FirstStands → OneStanding → OpensFrom (first_world version)
unfolding after
opens_from version whole stands one stripes entries calls count none exact = (
  (
    exact ∙ sym (opening_takes version),
    refl,
    record {
      holds = first_holds version whole;
      prefix_is = refl;
      entries_are = ap (λ (es : List MapEntry). map entry_of es) none ∙ sym (ap (λ (m : Map). finite.entries m) (first_map version whole stands one) ∙ no_entries);
    },
  ),
  ap (λ (n : ℕ). record { files = synced_below 4 (first_world version).files; history = []; life = Some (begun_by n (seen_of (first_world version).files) new_store) }) count,
)

pub new_store_opens : FirstIsWhole → FirstStands → OneStanding → NewStoreOpens
unfolding start
new_store_opens = opens_from new_version

pub old_store_opens : FirstIsWhole → FirstStands → OneStanding → OldStoreOpens
unfolding old_start
old_store_opens = opens_from First

pub fails_among_them : FirstIsWhole → FailsAmongThem
unfolding start
fails_among_them whole found stripes fails_at calls meets =
    let most = meets.2 new_store (first_holds new_version whole) in
    omega (arith, most, opening_takes new_version)

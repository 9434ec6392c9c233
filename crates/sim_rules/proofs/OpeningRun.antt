-- The opening of a store without a change is a run, whatever its version is.
use Rattle.std.proofs.Common.{◌≡◌, ℕ, List, [], ◌∷◌, None, refl, sym, ap, subst, arith}
use Rattle.std.specs.FinMap as finite
use Rattle.std.specs.Global.{Vec}
use Rattle.java_hash.specs.declared.stripe_count.StripeCount.{StripeCount}
use Rattle.disk_model.specs.Files.{Contents, Leaves}
use Rattle.log_records.specs.declared.versions.Version.{Version}
use Rattle.log_records.specs.declared.versions.Version.TheVariants.{First}
use Rattle.store_layout.specs.Checkpoints.{is_sealed}
use Rattle.store_layout.specs.FirstFiles.{contents_in}
use Rattle.store_layout.specs.Logs.{new_version}
use Rattle.store_layout.specs.Opening.{IsCheckpointIn, IsClosedIn, StandsFor, first_checkpoint}
use Rattle.store_layout.specs.OpeningLaws.{FirstIsWhole, FirstStands, OneStanding}
use Rattle.sim_rules.specs.declared.event.Event.TheVariants as event
use Rattle.sim_rules.specs.declared.outcome.MapEntry.{MapEntry}
use Rattle.sim_rules.specs.declared.outcome.Outcome.TheVariants as outcome
use Rattle.sim_rules.specs.World.{World, begun_by, old_start, seen_of, start}
use Rattle.sim_rules.specs.After.{after}
use Rattle.sim_rules.specs.Runs.{IsRunFrom, Row, least_of, rows_onto}
use Rattle.sim_rules.specs.Sound.{AreAbove, IsSound, Stays}
use Rattle.sim_rules.specs.Examples.{OldBeginsRun, OpeningIsRun, SecondOldIsSkipped, new_store, opened_from}
use Rattle.sim_rules.proofs.FileLaws.{first_closed, first_sealed, first_world, layout}
use Rattle.sim_rules.proofs.LeftExamples.{stays_at_rest}
use Rattle.sim_rules.proofs.LifeGoing.{life_goes_on}
use Rattle.sim_rules.proofs.NextLife.{next_life_begins}
use Rattle.sim_rules.proofs.OpeningExamples.{first_map, opens_from}
use Rattle.sim_rules.proofs.RunLaws.{sound_at, sound_is_run}

-- contents that stand for nothing are a front of any history of which nothing is committed
pub none_above : (w : World) (contents : Contents) → least_of w.life ≡ 0 → StandsFor contents 0 finite.empty → AreAbove w 0 contents
none_above w contents none stands = record {
  front = record { count = 0; stands = stands; from_first = omega arith; within = omega arith; from_least = omega (arith, none); to_most = omega arith };
  above = omega arith;
}

-- a store of this version without a change
module _ (version : Version) (whole : FirstIsWhole) (stands : FirstStands) where
  abbrev once : World
  once = opened_from (first_world version)

  first_stands : (contents : Contents) → contents 0 ≡ contents_in (layout version) 16 0 → contents 1 ≡ [] → contents 2 ≡ contents_in (layout version) 16 2 → StandsFor contents 0 finite.empty
  first_stands contents first second third = stands contents 16
      (subst (λ (content : List ℕ). IsCheckpointIn (first_checkpoint 16) content) (sym first) (first_sealed version whole))
      (ap is_sealed second)
      (subst (λ (content : List ℕ). IsClosedIn 0 0 [] content) (sym third) (first_closed version))

  -- before the opening and after it
  at_first : (contents : Contents) → Leaves (first_world version).files contents → AreAbove (first_world version) 0 contents
  at_first contents leaves = none_above (first_world version) contents refl (first_stands contents
      (stays_at_rest (contents_in (layout version) 16 0) (contents 0) (leaves 0 (omega arith)))
      (stays_at_rest [] (contents 1) (leaves 1 (omega arith)))
      (stays_at_rest (contents_in (layout version) 16 2) (contents 2) (leaves 2 (omega arith))))

  once_opened : (contents : Contents) → Leaves once.files contents → AreAbove once 0 contents
  unfolding begun_by
  once_opened contents leaves = none_above once contents refl (first_stands contents
      (stays_at_rest (contents_in (layout version) 16 0) (contents 0) (leaves 0 (omega arith)))
      (stays_at_rest [] (contents 1) (leaves 1 (omega arith)))
      (stays_at_rest (contents_in (layout version) 16 2) (contents 2) (leaves 2 (omega arith))))

  read_then : AreAbove once 0 (seen_of once.files)
  unfolding begun_by
  read_then = none_above once (seen_of once.files) refl (first_stands (seen_of once.files) refl refl refl)

  pub opened_sound : OneStanding → (stripes : StripeCount) (entries : Vec MapEntry) (calls : ℕ) → stripes.count ≡ 16 → entries.items ≡ [] → calls ≡ 12
      → IsSound (first_world version) ((event.Open stripes None, outcome.Opened calls 0 entries) ∷ []) once 0 []
  unfolding begun_by
  opened_sound one stripes entries calls count none exact =
      let row : Row = (event.Open stripes None, outcome.Opened calls 0 entries) in
      let opening = opens_from version whole stands one stripes entries calls count none exact in
      let stays : Stays (first_world version) 0 row once 0 = record { within = at_first; left = once_opened; read = read_then } in
      next_life_begins (first_world version) [] (first_world version) [] 0 row.0 row.1 once refl (sound_at (first_world version).files)
      (record { found = new_store; meets = opening.0; world = sym opening.1 }) stays
      (record { from_least = omega arith; within = omega arith; map = first_map version whole stands one })

  -- the opening alone is a run
  opening_runs : OneStanding → (stripes : StripeCount) (entries : Vec MapEntry) (calls : ℕ) → stripes.count ≡ 16 → entries.items ≡ [] → calls ≡ 12
      → IsRunFrom (first_world version) (event.Open stripes None ∷ []) (outcome.Opened calls 0 entries ∷ [])
  unfolding begun_by rows_onto
  opening_runs one stripes entries calls count none exact =
      sound_is_run (first_world version) (event.Open stripes None ∷ []) (outcome.Opened calls 0 entries ∷ []) once 0 [] refl
      (opened_sound one stripes entries calls count none exact) (tt, tt)

  -- and with an Old behind it that is skipped
  skipping_runs : OneStanding → (stripes : StripeCount) (entries : Vec MapEntry) (calls : ℕ) → stripes.count ≡ 16 → entries.items ≡ [] → calls ≡ 12
      → IsRunFrom (first_world version) (event.Open stripes None ∷ event.Old ∷ []) (outcome.Opened calls 0 entries ∷ outcome.Skipped ∷ [])
  unfolding after begun_by rows_onto
  skipping_runs one stripes entries calls count none exact =
      let opening : Row = (event.Open stripes None, outcome.Opened calls 0 entries) in
      let row : Row = (event.Old, outcome.Skipped) in
      let stays : Stays once 0 row once 0 = record { within = once_opened; left = once_opened; read = read_then } in
      let sound : IsSound (first_world version) (row ∷ opening ∷ []) once 0 [] =
      life_goes_on (first_world version) (opening ∷ []) once (begun_by 16 (seen_of (first_world version).files) new_store) [] 0 row.0 row.1 once refl
      (opened_sound one stripes entries calls count none exact) (record { found = new_store; meets = refl; world = refl }) stays tt (omega arith) (omega arith) in
      sound_is_run (first_world version) (opening.0 ∷ row.0 ∷ []) (opening.1 ∷ row.1 ∷ []) once 0 [] refl sound (tt, (tt, tt))

pub opening_is_run : FirstIsWhole → FirstStands → OneStanding → OpeningIsRun
unfolding start
opening_is_run whole stands one = opening_runs new_version whole stands one

pub old_begins_run : FirstIsWhole → FirstStands → OneStanding → OldBeginsRun
unfolding old_start
old_begins_run whole stands one = opening_runs First whole stands one

pub second_old_is_skipped : FirstIsWhole → FirstStands → OneStanding → SecondOldIsSkipped
unfolding start
second_old_is_skipped whole stands one = skipping_runs new_version whole stands one

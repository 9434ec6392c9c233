-- What a directory stands for once it is upgraded, and which version its newest log has.
use Rattle.std.proofs.Common.{◌≡◌, ◌≢◌, ◌⊎◌, inl, inr, ℕ, ◌+◌, ◌<◌, List, ◌++◌, Bool, true, false, Option, None, Some, Result, Ok, refl, sym, ap, subst, ◌∙◌, arith}
use Rattle.disk_model.specs.Files.{Contents, File, Files, Leaves, now}
use Rattle.disk_model.proofs.MomentLemmas.{in_the_end, no_call, weaker}
use Rattle.map_types.specs.declared.refusals.Refusal.{Refusal}
use Rattle.map_model.specs.Laws.{PartsMakeTheMap}
use Rattle.map_model.specs.Maps.{Map}
use Rattle.map_model.specs.Parts.{union_of}
use Rattle.log_records.specs.Layout.{Layout, layout_of}
use Rattle.log_records.specs.declared.versions.Version.{Version}
use Rattle.log_records.specs.declared.versions.Version.TheVariants.{First, Second}
use Rattle.atomic_methods.specs.PartState.{PartState}
use Rattle.ticket_order.specs.declared.record.Opening.{Opening}
use Rattle.ticket_order.specs.declared.record.Record.{Record}
use Rattle.ticket_order.specs.Legality.{history_of}
use Rattle.one_history.specs.Turns.{maps_of}
use Rattle.store_layout.specs.Checkpoints.{Checkpoint, checkpoint_file}
use Rattle.store_layout.specs.Faults.{stripes_in}
use Rattle.store_layout.proofs.CheckpointFields.{has_stripes}
use Rattle.store_layout.specs.Logs.{Batch, log_file, new_layout, new_version}
use Rattle.store_layout.specs.Readings.{closed, ended}
use Rattle.store_layout.specs.Opening.{AreLogs, Holds, IsCheckpointIn, IsClosedIn, IsEndedIn, IsOlder, Opened as FoundStore, StandsFor, checkpoint_layout, log_layout, map_of, newest_by, newest_of, prefix_of}
use Rattle.store_layout.specs.OpeningLaws.{OpensOneWay}
use Rattle.store_layout.specs.declared.checkpoint_phase.CheckpointPhase.TheVariants as phase
use Rattle.store_layout.specs.declared.log_phase.Phase.TheVariants.{Idle}
use Rattle.store_layout.proofs.OwnLayouts.{log_reads, own_of}
use Rattle.store_layout.proofs.ReadingLemmas.{one_reading}
use Rattle.store_layout.proofs.Versions.{room_for}
use Rattle.checkpoint_file.specs.States.{CheckpointState, begun as first_writer}
use Rattle.gate_log.specs.States.{LogState, begun}
use Rattle.gate_log.specs.LogStates as log
use Rattle.gate_log.proofs.StandingLemmas.{reads_in}
use Rattle.store_invariant.specs.Laws.{IsUnsealing, StopsUseCheckpoint}
use Rattle.store_invariant.specs.StoreStates.{LogsStand}
use Rattle.flusher.specs.declared.keeper.Keeper.{Keeper}
use Rattle.flusher.specs.Fitting.{HoldsFor, store_of}
use Rattle.recovery.specs.LogReading.{GoesOnIn, contents_of}
use Rattle.recovery.specs.Opening.{IsOpenedAs}
use Rattle.recovery.specs.Syncing.{LeavesOnly, SyncsAndLooks}
use Rattle.recovery.specs.Upgrading.{HasRotated, IsLastGeneration, IsNewest, IsRefusedBehind, IsUnmoved, IsUpgraded, RefusesBehind, SealsOne, StandsAt, StandsThroughout, StaysStanding, UsesStripes, sealed_stripes}
use Rattle.recovery.proofs.RefusedBehind.{behind}

ok_inj : (a b : FoundStore) → ◌≡◌ {A = Result FoundStore Refusal} (Ok a) (Ok b) → a ≡ b
ok_inj a b e = cc

pub one_found : (law : OpensOneWay) (contents : Contents) (a b : FoundStore) → Holds contents a → Holds contents b → a ≡ b
one_found law contents a b x y = ok_inj a b (law contents (Ok a) (Ok b) x y)

-- ---- the same files

module _ (old new : Contents) (same : (n : ℕ) → n < 4 → new n ≡ old n) where
  checkpoint_same : (g : ℕ) → new (checkpoint_file g) ≡ old (checkpoint_file g)
  checkpoint_same g = same (checkpoint_file g) (omega arith)

  pub log_same : (g : ℕ) → new (log_file g) ≡ old (log_file g)
  log_same g = same (log_file g) (omega arith)

  logs_same : (k : Checkpoint) (first : List Batch) (second : Option (List Batch)) → AreLogs old k first second → AreLogs new k first second
  logs_same k first None logs = subst (λ (c : List ℕ). IsClosedIn k.generation k.low first c) (sym (log_same k.generation)) logs
  logs_same k first (Some second) logs = (
    subst (λ (c : List ℕ). IsEndedIn k.generation k.low first (k.generation + 1) c) (sym (log_same k.generation)) logs.0,
    subst (λ (c : List ℕ). IsClosedIn (k.generation + 1) (newest_by k first (Some second)).low second c) (sym (log_same (k.generation + 1))) logs.1,
  )

  pub same_holds : (found : FoundStore) → Holds old found → Holds new found
  same_holds found h = record {
    checkpoint = subst (λ (c : List ℕ). IsCheckpointIn found.checkpoint c) (sym (checkpoint_same found.checkpoint.generation)) h.checkpoint;
    other = subst (λ (c : List ℕ). IsOlder found.checkpoint.generation (checkpoint_file (found.checkpoint.generation + 1)) c) (sym (checkpoint_same (found.checkpoint.generation + 1))) h.other;
    logs = logs_same found.checkpoint found.first found.second h.logs;
    reaches = h.reaches;
  }

pub second_of : (v : Version) → layout_of v ≡ new_layout → v ≡ new_version
second_of First e = absurd (let x : ◌≡◌ {A = ℕ} 1 2 = ap (λ (l : Layout). l.version) e in cc)
second_of Second e = refl

-- ---- what an opening found

module _ {D : Type 0} (states : D → List Files) (failures : D → ℕ) (honest : D → Type 0) (law : PartsMakeTheMap) (n : ℕ) (some : 0 < n) (disk : D) (keeper : Keeper D) (parts : List PartState) (first limit : ℕ)
    (ok : honest keeper.disk → honest disk × IsOpenedAs (contents_of states disk) n keeper parts first limit) where
  abbrev m : Map
  m = union_of (maps_of parts)

  map_found : (h : honest keeper.disk) → m ≡ map_of (ok h).1.found
  map_found h = ap union_of (ok h).1.divided.maps ∙ law n (map_of (ok h).1.found) some

  pub standing : (after : D) → SyncsAndLooks states failures honest 4 0 disk keeper.disk → StandsThroughout states honest first m keeper.disk after → StaysStanding states failures honest disk after
  standing after calls stands = record {
    middle = keeper.disk;
    opened = calls;
    was_honest = λ h. (ok (stands.was_honest h)).0;
    keeps = λ h.
        let at = stands.was_honest h in
        let found = (ok at).1.found in
        record {
          found = found;
          holds = (ok at).1.holds;
          moments = weaker states keeper.disk after (StandsAt first m) (StandsAt (prefix_of found) (map_of found))
              (λ files stand contents leaves. subst (λ (x : Map). StandsFor contents (prefix_of found) x) (map_found at) (subst (λ (x : ℕ). StandsFor contents x m) (ok at).1.first_is (stand contents leaves)))
              (stands.moments h);
        };
  }

  pub unchanged : (after : D) → after ≡ keeper.disk → LeavesOnly (now (states keeper.disk)) (contents_of states disk) → StandsThroughout states honest first m keeper.disk after
  unchanged after e stops = record {
    was_honest = λ h. subst honest e h;
    moments = λ h.
        let at = subst honest e h in
        no_call states keeper.disk after (StandsAt first m) (ap states e)
        (λ contents leaves. record {
          found = (ok at).1.found;
          holds = same_holds (contents_of states disk) contents (stops contents leaves) (ok at).1.found (ok at).1.holds;
          prefix = sym (ok at).1.first_is;
          map = sym (map_found at);
        });
  }

  pub upgraded_before : (after : D) → after ≡ keeper.disk → LeavesOnly (now (states keeper.disk)) (contents_of states disk) → OpensOneWay → keeper.log.version ≡ new_version → honest after → (found : FoundStore) → Holds (contents_of states disk) found
      → (contents : Contents) → Leaves (now (states after)) contents → IsUpgraded (prefix_of found) (map_of found) contents
  upgraded_before after e stops one_way version h found holds contents leaves =
      let at = subst honest e h in
      let opened = (ok at).1 in
      let one : opened.found ≡ found = one_found one_way (contents_of states disk) opened.found found opened.holds holds in
      let goes : GoesOnIn (contents_of states disk) (newest_of found) keeper.log = subst (λ (x : FoundStore). GoesOnIn (contents_of states disk) (newest_of x) keeper.log) one opened.log in
      let same = stops contents (subst (λ (d : D). Leaves (now (states d)) contents) e leaves) in
      record {
        found = found;
        holds = same_holds (contents_of states disk) contents same found holds;
        prefix = refl;
        map = refl;
        newest = ap log_layout (log_same (contents_of states disk) contents same (newest_of found).generation) ∙ sym goes.version ∙ ap layout_of version;
      }

  pub stripes_before : (after : D) → after ≡ keeper.disk → LeavesOnly (now (states keeper.disk)) (contents_of states disk) → OpensOneWay → (found : FoundStore) → Holds (contents_of states disk) found
      → (contents : Contents) → Leaves (now (states after)) contents → UsesStripes found.checkpoint.stripes contents
  stripes_before after e stops one_way found holds contents leaves x here =
      let same = stops contents (subst (λ (d : D). Leaves (now (states d)) contents) e leaves) in
      ap (λ (f : FoundStore). f.checkpoint.stripes) (one_found one_way contents x found here (same_holds (contents_of states disk) contents same found holds))

  pub newest_found : OpensOneWay → honest keeper.disk → (found : FoundStore) → Holds (contents_of states disk) found → keeper.log.version ≡ new_version → IsNewest (contents_of states disk) found
  newest_found one_way at found holds version =
      let opened = (ok at).1 in
      let one : opened.found ≡ found = one_found one_way (contents_of states disk) opened.found found opened.holds holds in
      let goes : GoesOnIn (contents_of states disk) (newest_of found) keeper.log = subst (λ (x : FoundStore). GoesOnIn (contents_of states disk) (newest_of x) keeper.log) one opened.log in
      sym goes.version ∙ ap layout_of version

  -- what the file of the sealed checkpoint names
  pub opened_stripes : LeavesOnly (now (states keeper.disk)) (contents_of states disk) → Leaves (now (states keeper.disk)) (contents_of states keeper.disk) → OpensOneWay → honest keeper.disk → (found : FoundStore) → Holds (contents_of states disk) found
      → sealed_stripes states keeper ≡ found.checkpoint.stripes
  opened_stripes stops left one_way at found holds =
      let opened = (ok at).1 in
      let one : opened.found ≡ found = one_found one_way (contents_of states disk) opened.found found opened.holds holds in
      let sealed : keeper.sealed ≡ found.checkpoint.generation = opened.sealed ∙ ap (λ (x : FoundStore). x.checkpoint.generation) one in
      let content : List ℕ = contents_of states disk (checkpoint_file found.checkpoint.generation) in
      ap stripes_in (stops (contents_of states keeper.disk) left (checkpoint_file keeper.sealed) (omega arith)) ∙ ap (λ (g : ℕ). stripes_in (contents_of states disk (checkpoint_file g))) sealed
      ∙ has_stripes (checkpoint_layout content) found.checkpoint content holds.checkpoint

  pub newest_before : OpensOneWay → honest keeper.disk → (found : FoundStore) → Holds (contents_of states disk) found → IsNewest (contents_of states disk) found → keeper.log.version ≡ new_version
  newest_before one_way at found holds newest =
      let opened = (ok at).1 in
      let one : opened.found ≡ found = one_found one_way (contents_of states disk) opened.found found opened.holds holds in
      let goes : GoesOnIn (contents_of states disk) (newest_of found) keeper.log = subst (λ (x : FoundStore). GoesOnIn (contents_of states disk) (newest_of x) keeper.log) one opened.log in
      second_of keeper.log.version (goes.version ∙ newest)

  pub either : (h : honest keeper.disk) → (keeper.log.generation ≡ keeper.sealed) ⊎ (keeper.log.generation ≡ keeper.sealed + 1)
  either h = by (ok h).1.found.second (ok h).1.log.generation
    where
      by : (second : Option (List Batch)) → keeper.log.generation ≡ (newest_by (ok h).1.found.checkpoint (ok h).1.found.first second).generation → (keeper.log.generation ≡ keeper.sealed) ⊎ (keeper.log.generation ≡ keeper.sealed + 1)
      by None e = inl (e ∙ sym (ok h).1.sealed)
      by (Some second) e = inr (e ∙ ap (λ (g : ℕ). g + 1) (sym (ok h).1.sealed))

  -- whether the newest log is that of the sealed checkpoint
  pub seals_one : OpensOneWay → honest keeper.disk → (found : FoundStore) → Holds (contents_of states disk) found → SealsOne (contents_of states disk) found → keeper.log.generation ≢ keeper.sealed
  seals_one one_way at found holds seals e =
      let opened = (ok at).1 in
      let one : opened.found ≡ found = one_found one_way (contents_of states disk) opened.found found opened.holds holds in
      seals.1 (sym (opened.log.generation ∙ ap (λ (x : FoundStore). (newest_of x).generation) one) ∙ e ∙ opened.sealed ∙ ap (λ (x : FoundStore). x.checkpoint.generation) one)

  pub seals_none : OpensOneWay → (at : honest keeper.disk) → (found : FoundStore) → Holds (contents_of states disk) found → (IsNewest (contents_of states disk) found → ⊥) → (SealsOne (contents_of states disk) found → ⊥) → keeper.log.generation ≡ keeper.sealed
  seals_none one_way at found holds earlier never =
      let opened = (ok at).1 in
      let one : opened.found ≡ found = one_found one_way (contents_of states disk) opened.found found opened.holds holds in
      let newest : keeper.log.generation ≡ (newest_of found).generation = opened.log.generation ∙ ap (λ (x : FoundStore). (newest_of x).generation) one in
      let sealed : keeper.sealed ≡ found.checkpoint.generation = opened.sealed ∙ ap (λ (x : FoundStore). x.checkpoint.generation) one in
      elim (either at) [
        | inl same ↦ same
        | inr next ↦ absurd (never (earlier, λ e. absurd (omega (arith, e, next, newest, sealed))))
      ]

  -- what was refused behind the opening, of what it found
  pub refuses_behind : (after : D) (e : Refusal) → SyncsAndLooks states failures honest 4 0 disk keeper.disk → keeper.stripes.count ≡ n → honest keeper.disk
      → IsRefusedBehind (failures after ≡ failures keeper.disk + 1) ((keeper.log.generation ≡ keeper.sealed) ⊎ (keeper.log.generation ≡ keeper.sealed + 1) → IsLastGeneration keeper.log.generation) keeper.stripes.count m keeper.log.generation keeper.sealed e
      → RefusesBehind (failures after ≡ failures disk + 1) n (contents_of states disk) e
  refuses_behind after e calls count h refused =
      let Failing : Type 0 = failures after ≡ failures disk + 1 in
      let opened = (ok h).1 in
      let found = opened.found in
      let synced = calls.synced.counted in
      let looked = calls.looks.failed_so in
      let none : failures keeper.disk ≡ failures disk = omega (arith, synced, looked) in
      let here = behind (failures after ≡ failures keeper.disk + 1) Failing _ (IsLastGeneration keeper.log.generation) keeper.stripes.count m keeper.log.generation keeper.sealed e (λ failing. failing ∙ ap (λ (x : ℕ). x + 1) none) (λ last. last (either h)) refused in
      let of_map = subst (λ (x : Map). IsRefusedBehind Failing (IsLastGeneration keeper.log.generation) keeper.stripes.count x keeper.log.generation keeper.sealed e) (map_found h) here in
      let of_stripes = subst (λ (x : ℕ). IsRefusedBehind Failing (IsLastGeneration keeper.log.generation) x (map_of found) keeper.log.generation keeper.sealed e) count of_map in
      let of_log = subst (λ (x : ℕ). IsRefusedBehind Failing (IsLastGeneration x) n (map_of found) x keeper.sealed e) opened.log.generation of_stripes in
      record { found = found; holds = opened.holds; cause = subst (λ (x : ℕ). IsRefusedBehind Failing (IsLastGeneration (newest_of found).generation) n (map_of found) (newest_of found).generation x e) opened.sealed of_log }

-- ---- the version of the newest log

unsealing : (must : Bool) (g l s : ℕ) (w : CheckpointState) → first_writer g l s must ≡ w → (w.phase ≢ phase.HeaderSynced) × (w.phase ≢ phase.Opened)
unsealing true g l s w e = (λ x. let y : phase.Gate ≡ phase.HeaderSynced = ap (λ (w : CheckpointState). w.phase) e ∙ x in absurd cc, λ x. let y : phase.Gate ≡ phase.Opened = ap (λ (w : CheckpointState). w.phase) e ∙ x in absurd cc)
unsealing false g l s w e = (λ x. let y : phase.GateWritten ≡ phase.HeaderSynced = ap (λ (w : CheckpointState). w.phase) e ∙ x in absurd cc, λ x. let y : phase.GateWritten ≡ phase.Opened = ap (λ (w : CheckpointState). w.phase) e ∙ x in absurd cc)

some_inj : (a b : CheckpointState) → Some a ≡ Some b → a ≡ b
some_inj a b e = cc

module _ {D : Type 0} (states : D → List Files) (honest : D → Type 0) (n : ℕ) (o : Opening) (keeper : Keeper D) (p : Record) (is : IsUnmoved states honest n o keeper p) (rot : HasRotated keeper) (uses_checkpoint : StopsUseCheckpoint)
    (one_way : OpensOneWay) (h : honest keeper.disk) (contents : Contents) (leaves : Leaves (now (states keeper.disk)) contents) (found : FoundStore) (holds : Holds contents found) where
  abbrev files : Files
  files = now (states keeper.disk)

  abbrev begun_log : LogState
  begun_log = record (begun (keeper.sealed + 1) keeper.log.committed) { phase = Idle }

  front : HoldsFor (history_of p) keeper files
  front = is.fits.stores.works is.works h

  not_sealing : IsUnsealing (store_of keeper)
  not_sealing w e = unsealing rot.must_close rot.generation rot.low rot.stripes w (some_inj _ _ (sym rot.checkpoint ∙ e))

  uses : (x : FoundStore) × Holds contents x × (x.checkpoint ≡ front.held.found.checkpoint)
  uses = uses_checkpoint (history_of p) (store_of keeper) front.held files front.stands not_sealing contents leaves

  k : found.checkpoint ≡ front.held.found.checkpoint
  k = ap (λ (x : FoundStore). x.checkpoint) (one_found one_way contents found uses.0 holds uses.1) ∙ uses.2

  pub stripes_used : found.checkpoint.stripes ≡ sealed_stripes states keeper
  stripes_used =
      let c = front.held.found.checkpoint in
      let sealed = front.stands.kept.checkpoint in
      ap (λ (x : Checkpoint). x.stripes) k
      ∙ sym (ap (λ (file : File). stripes_in file.seen) sealed.settled ∙ has_stripes (checkpoint_layout sealed.content) c sealed.content sealed.checkpoint)

  pub newest : IsNewest contents found
  newest = by front.held.found.second front.stands.kept.logs
    where
      at_second : (second : List Batch) → LogsStand front.held.found.checkpoint front.held.found.first (Some second) keeper.log front.held.staged files → (batches : Option (List Batch)) → AreLogs contents found.checkpoint found.first batches
          → log_layout (contents (log_file (newest_by found.checkpoint found.first batches).generation)) ≡ new_layout
      at_second second logs None are =
          let c = front.held.found.checkpoint in
          let content = contents (log_file c.generation) in
          let first : IsClosedIn c.generation c.low found.first content = subst (λ (x : Checkpoint). IsClosedIn x.generation x.low found.first (contents (log_file x.generation))) k are in
          let over : IsEndedIn c.generation c.low front.held.found.first (c.generation + 1) content = logs.3 content (leaves (log_file c.generation) (omega arith)) in
          let both : closed found.first ≡ ended front.held.found.first = one_reading (log_layout content) (room_for _) c.generation c.low content (closed found.first) (ended front.held.found.first) first over in
          absurd cc
      at_second second logs (Some batches) are =
          let c = front.held.found.checkpoint in
          let content = contents (log_file (c.generation + 1)) in
          let stand : log.Stands begun_log second front.held.staged (files (log_file (c.generation + 1))) = subst (λ (l : LogState). log.Stands l second front.held.staged (files (log_file (c.generation + 1)))) rot.log logs.2 in
          let left = leaves (log_file (c.generation + 1)) (omega arith) in
          ap (λ (x : Checkpoint). log_layout (contents (log_file (x.generation + 1)))) k
          ∙ reads content (reads_in begun_log second stand.knows Idle front.held.staged (files (log_file (c.generation + 1))) stand.stands tt content left)
        where
          reads : (content : List ℕ) → log.IsBeforeOrAfter begun_log second front.held.staged content → log_layout content ≡ new_layout
          reads content (inl before) = log_reads new_layout (own_of new_version) (keeper.sealed + 1) keeper.log.committed content (closed second) before
          reads content (inr after) = log_reads new_layout (own_of new_version) (keeper.sealed + 1) keeper.log.committed content (closed (second ++ front.held.staged)) after

      by : (second : Option (List Batch)) → LogsStand front.held.found.checkpoint front.held.found.first second keeper.log front.held.staged files → IsNewest contents found
      by None logs =
          let one : keeper.log.generation ≡ front.held.found.checkpoint.generation = logs.0 in
          let two : front.held.found.checkpoint.generation ≡ keeper.sealed = front.stands.kept.sealed in
          let three : keeper.log.generation ≡ keeper.sealed + 1 = ap (λ (l : LogState). l.generation) rot.log in
          absurd (omega (arith, one, two, three))
      by (Some second) logs = at_second second logs found.second holds.logs

module _ {D : Type 0} (states : D → List Files) (honest : D → Type 0) (n : ℕ) (o : Opening) (keeper : Keeper D) (p : Record) (is : IsUnmoved states honest n o keeper p) (rot : HasRotated keeper) (uses_checkpoint : StopsUseCheckpoint)
    (one_way : OpensOneWay) (h : honest keeper.disk) where
  -- whatever a stop leaves is in the newest version
  pub upgraded_after : StandsAt o.first o.map (now (states keeper.disk)) → (contents : Contents) → Leaves (now (states keeper.disk)) contents → IsUpgraded o.first o.map contents
  upgraded_after stands contents leaves =
      let at = stands contents leaves in
      record {
        found = at.found;
        holds = at.holds;
        prefix = at.prefix;
        map = at.map;
        newest = newest states honest n o keeper p is rot uses_checkpoint one_way h contents leaves at.found at.holds;
      }

module _ {D : Type 0} (states : D → List Files) (failures : D → ℕ) (honest : D → Type 0) (law : PartsMakeTheMap) (n : ℕ) (some : 0 < n) (disk : D) (keeper : Keeper D) (parts : List PartState) (first limit : ℕ)
    (ok : honest keeper.disk → honest disk × IsOpenedAs (contents_of states disk) n keeper parts first limit) (calls : SyncsAndLooks states failures honest 4 0 disk keeper.disk) where
  pub upgraded_kept : (new : Keeper D) (after : D) → after ≡ new.disk → StandsThroughout states honest first (union_of (maps_of parts)) keeper.disk new.disk → (o : Opening)
      → ((keeper.log.generation ≡ keeper.sealed) ⊎ (keeper.log.generation ≡ keeper.sealed + 1) → ((m : ℕ) × (p : Record) × IsUnmoved states honest m o new p) × HasRotated new) → StopsUseCheckpoint → OpensOneWay
      → o.first ≡ first → o.map ≡ union_of (maps_of parts) → honest after → (found : FoundStore) → Holds (contents_of states disk) found
      → (contents : Contents) → Leaves (now (states after)) contents → IsUpgraded (prefix_of found) (map_of found) contents
  upgraded_kept new after e stands o rotates uses one_way first_is map_is h found holds contents leaves =
      let here = subst honest e h in
      let at = stands.was_honest here in
      let opened = (ok at).1 in
      let rotated = rotates (either states failures honest law n some disk keeper parts first limit ok at) in
      let one : opened.found ≡ found = one_found one_way (contents_of states disk) opened.found found opened.holds holds in
      let map : o.map ≡ map_of found = map_is ∙ map_found states failures honest law n some disk keeper parts first limit ok at ∙ ap map_of one in
      let prefix : o.first ≡ prefix_of found = first_is ∙ opened.first_is ∙ ap prefix_of one in
      let end = in_the_end states keeper.disk new.disk (StandsAt first (union_of (maps_of parts))) (stands.moments here) in
      let end_o : StandsAt o.first o.map (now (states new.disk)) = subst (λ (x : Map). StandsAt o.first x (now (states new.disk))) (sym map_is) (subst (λ (x : ℕ). StandsAt x (union_of (maps_of parts)) (now (states new.disk))) (sym first_is) end) in
      let left : Leaves (now (states new.disk)) contents = subst (λ (d : D). Leaves (now (states d)) contents) e leaves in
      subst (λ (x : Map). IsUpgraded (prefix_of found) x contents) map
      (subst (λ (x : ℕ). IsUpgraded x o.map contents) prefix
      (upgraded_after states honest rotated.0.0 o new rotated.0.1 rotated.0.2 rotated.1 uses one_way here end_o contents left))

  pub stripes_kept : (new : Keeper D) (after : D) → after ≡ new.disk → StandsThroughout states honest first (union_of (maps_of parts)) keeper.disk new.disk → (o : Opening)
      → ((keeper.log.generation ≡ keeper.sealed) ⊎ (keeper.log.generation ≡ keeper.sealed + 1) → ((m : ℕ) × (p : Record) × IsUnmoved states honest m o new p) × HasRotated new) → StopsUseCheckpoint → OpensOneWay
      → honest after → (contents : Contents) → Leaves (now (states after)) contents → (x : FoundStore) → Holds contents x → x.checkpoint.stripes ≡ sealed_stripes states new
  stripes_kept new after e stands o rotates uses one_way h contents leaves x here =
      let now_honest = subst honest e h in
      let at = stands.was_honest now_honest in
      let rotated = rotates (either states failures honest law n some disk keeper parts first limit ok at) in
      let left : Leaves (now (states new.disk)) contents = subst (λ (d : D). Leaves (now (states d)) contents) e leaves in
      stripes_used states honest rotated.0.0 o new rotated.0.1 rotated.0.2 rotated.1 uses one_way now_honest contents left x here

-- What opening a directory finds.
use Rattle.std.specs.Prelude.{◌≡◌, ◌≤◌, ℕ, ◌+◌, false, List, [], length, Option, None}
use Rattle.java_hash.specs.declared.stripe_count.StripeCount.{StripeCount}
use Rattle.map_types.specs.declared.refusals.Refusal.{Refusal}
use Rattle.disk_model.specs.Files.{Files}
use Rattle.atomic_methods.specs.PartState.{PartState}
use Rattle.flusher.specs.declared.keeper.Keeper.{Keeper}
use Rattle.flusher.specs.declared.sweeper.Walking.TheVariants.{Rests}
use Rattle.ticket_order.specs.declared.record.Opening.{Opening}
use Rattle.store_layout.specs.Calls.{body_bytes, checkpoint_calls, logs_calls}
use Rattle.store_layout.specs.Checkpoints.{Checkpoint, greatest_mark}
use Rattle.store_layout.specs.Failures.{AreFilesRefused}
use Rattle.store_layout.specs.Logs.{Batch}
use Rattle.store_layout.specs.SectionsAndLog.{restored}
use Rattle.store_layout.specs.Opening.{Contents, Opened, Holds, Refuses, AreLogs, key_limit_of, logged_by, map_of}
use Rattle.store_layout.specs.Opening.{newest_by, newest_of, prefix_of}
use Rattle.recovery.specs.declared.reading.Restored.{Restored}
use Rattle.recovery.specs.Dividing.{IsDivided}
use Rattle.recovery.specs.LogReading.{GoesOnIn, IsResumed, RefusesFor, contents_of}
use Rattle.recovery.specs.Syncing.{Stopped}

-- the calls that read the heads of both checkpoints, the checkpoint that is used, and its logs
abbrev pub files_calls : Contents → Opened → ℕ
files_calls contents found =
    2 + checkpoint_calls
    (body_bytes contents found.checkpoint) + logs_calls contents found.checkpoint found.first found.second

-- the map of this checkpoint and its logs, divided for `stripes` stripes
pub record IsRestored (contents : Contents) (k : Checkpoint) (stripes : ℕ) (found : Restored) : Type 0 where
  pub first : List Batch
  pub second : Option (List Batch)
  pub logs : AreLogs contents k first second
  pub reaches : greatest_mark k.sections ≤ k.low + length (logged_by first second)
  pub sealed : found.sealed ≡ k.generation
  pub goes_on : GoesOnIn contents (newest_by k first second) found.log
  pub committed : found.log.committed ≡ k.low + length (logged_by first second)
  pub divided : IsDivided stripes (restored k.stripes k.sections k.low (logged_by first second)) found.parts.items

-- These are the parts of the map that the files stand for, one for each of `stripes` stripes; the checkpoint that was
-- used; and the newest log. That goes on behind its last batch, and the commands up to there are committed.
pub record IsOpened (contents : Contents) (stripes : ℕ) (restored : Restored) : Type 0 where
  pub found : Opened
  pub holds : Holds contents found
  pub sealed : restored.sealed ≡ found.checkpoint.generation
  pub log : GoesOnIn contents (newest_of found) restored.log
  pub committed : restored.log.committed ≡ prefix_of found
  pub divided : IsDivided stripes (map_of found) restored.parts.items

-- These are the parts of the map that the files stand for after the first `first` commands, one for each of `stripes`
-- stripes. The keeper knows the checkpoint that is used, and goes on behind the last batch of the newest log. A key may
-- have `limit` bytes, as many as in a record of that log.
pub record IsOpenedAs {D : Type 0} (contents : Contents) (stripes : ℕ) (keeper : Keeper D) (parts : List PartState)
    (first limit : ℕ) : Type 0 where
  pub found : Opened
  pub holds : Holds contents found
  pub sealed : keeper.sealed ≡ found.checkpoint.generation
  pub log : GoesOnIn contents (newest_of found) keeper.log
  pub first_is : first ≡ prefix_of found
  pub limit_is : limit ≡ key_limit_of contents found
  pub divided : IsDivided stripes (map_of found) parts

-- A life begins with what the files hold: how many commands they stand for, the map after these, and the most bytes
-- that a key may have.
pub record OpensWith (contents : Contents) (opening : Opening) : Type 0 where
  pub found : Opened
  pub holds : Holds contents found
  pub first_is : opening.first ≡ prefix_of found
  pub map_is : opening.map ≡ map_of found
  pub limit_is : opening.key_limit ≡ key_limit_of contents found

-- The keeper has done nothing yet. The first `first` commands are committed and published, none is in hand or staged,
-- and neither a sweep, a rotation nor a checkpoint is under way.
pub record IsAtStart {D : Type 0} (stripes : StripeCount) (first : ℕ) (keeper : Keeper D) : Type 0 where
  pub resumed : IsResumed keeper.log
  pub committed : keeper.log.committed ≡ first
  pub published : keeper.published ≡ first
  pub hand : keeper.sweeper.in_hand ≡ record { next = first; slots = [] }
  pub sweep : keeper.sweeper.sweep ≡ None
  pub walking : keeper.sweeper.walking ≡ Rests
  pub staged : keeper.staged.items ≡ []
  pub next : keeper.next ≡ None
  pub checkpoint : keeper.checkpoint ≡ None
  pub capture : keeper.capture ≡ None
  pub stripes_are : keeper.stripes ≡ stripes
  pub working : keeper.is_broken ≡ false
  pub unfailed : keeper.has_failed ≡ false

-- Opening the disk was refused (7, 9, 11, 12 or 13), and nothing was written to it. On an honest disk the files give
-- the reason.
pub record IsNotOpened {D : Type 0} (states : D → List Files) (failures : D → ℕ) (honest : D → Type 0) (old new : D)
    (refusal : Refusal) : Type 0 where
  pub stopped : Stopped states failures honest 4 old new refusal
  pub listed : AreFilesRefused refusal
  pub reason : honest new → honest old × RefusesFor (Refuses (contents_of states old) refusal) refusal

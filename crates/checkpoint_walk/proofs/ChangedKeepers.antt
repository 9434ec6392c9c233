-- What a keeper fits once its checkpoint is changed, and its disk is as it was.
use Rattle.std.proofs.Common.{◌≡◌, ℕ, List, Option, None, Some, Bool, false, is_some, IfSome, refl}
use Rattle.disk_model.specs.Files.{Files, now}
use Rattle.map_types.specs.declared.commands.Command.{Command}
use Rattle.ticket_order.specs.declared.record.Record.{Record}
use Rattle.ticket_order.specs.declared.walk.Walk.{Walk}
use Rattle.ticket_order.specs.Legality.{history_of}
use Rattle.gate_log.specs.States.{LogState}
use Rattle.checkpoint_file.specs.States.{CheckpointState}
use Rattle.flusher.specs.declared.keeper.Keeper.{Keeper}
use Rattle.flusher.specs.Fitting.{Fits, HoldsFront, IsUnbroken, store_of}
use Rattle.flusher.specs.Rotating.{MayRotate}
use Rattle.flusher.proofs.Committing.{two_ways}

-- a test that there is none
pub none_there : {A : Type 0} (o : Option A) (b : Bool) → b ≡ is_some o → b ≡ false → o ≡ None
none_there None b is off = refl
none_there (Some x) b is off = cc

-- another log follows, another checkpoint is written, or another capture is under way
pub fits_changed : {D : Type 0} (states : D → List Files) (honest : D → Type 0) (n : ℕ) (done : List Command) (old : Keeper D) (p : Record) (next : Option LogState) (writer : Option CheckpointState) (capture : Option Walk)
    → Fits states honest n done old p → old.is_broken ≡ false → IfSome writer (λ w. w.stripes ≡ n) → MayRotate next old.log old.staged.items → IsUnbroken (record (store_of old) { next = next; writer = writer })
    → (honest old.disk → HoldsFront (history_of p) (record (store_of old) { next = next; writer = writer }) old.staged.items old.must_close (now (states old.disk)))
    → Fits states honest n done (record old { next = next; checkpoint = writer; capture = capture }) p
fits_changed {D} states honest n done old p next writer capture f works stripes rotates unbroken holds = record {
  stands = f.stands;
  counts = record { committed = f.counts.committed; next = f.counts.next; count = f.counts.count; tickets = f.counts.tickets; fits = f.counts.fits; empty = f.counts.empty };
  tells = record { published = f.tells.published; durable = f.tells.durable; failed = f.tells.failed };
  stripes = record { count = f.stripes.count; writer = stripes };
  rotation = rotates;
  keys = f.keys;
  stores = record { unbroken = λ _. unbroken; works = λ _ h. holds h; stopped = λ broken h. absurd (two_ways old.is_broken broken works) };
}

-- another capture is under way
pub fits_capture : {D : Type 0} (states : D → List Files) (honest : D → Type 0) (n : ℕ) (done : List Command) (old : Keeper D) (p : Record) (capture : Option Walk) → Fits states honest n done old p
    → Fits states honest n done (record old { capture = capture }) p
fits_capture {D} states honest n done old p capture f = record {
  stands = f.stands;
  counts = record { committed = f.counts.committed; next = f.counts.next; count = f.counts.count; tickets = f.counts.tickets; fits = f.counts.fits; empty = f.counts.empty };
  tells = record { published = f.tells.published; durable = f.tells.durable; failed = f.tells.failed };
  stripes = record { count = f.stripes.count; writer = f.stripes.writer };
  rotation = f.rotation;
  keys = f.keys;
  stores = record { unbroken = f.stores.unbroken; works = f.stores.works; stopped = f.stores.stopped };
}

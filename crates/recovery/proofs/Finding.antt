-- What an opening finds, as a keeper is begun with it.
use Rattle.std.proofs.Common.{◌≡◌, ℕ, ◌+◌, ◌<◌, Bool, Option, None, Some, List, [], ◌∷◌, length, refl, sym, ap, subst, ◌∙◌, arith, length-append}
use Rattle.disk_model.specs.Files.{Files, at_rest}
use Rattle.disk_model.specs.Gates.{IsShut}
use Rattle.map_model.specs.Laws.{PartsMakeTheMap}
use Rattle.map_model.specs.Maps.{Map}
use Rattle.map_model.specs.Parts.{union_of}
use Rattle.log_records.specs.declared.versions.Version.{Version}
use Rattle.log_records.specs.Layout.{Layout, layout_of}
use Rattle.atomic_methods.specs.PartState.{PartState}
use Rattle.ticket_order.specs.declared.record.Opening.{Opening}
use Rattle.ticket_order.specs.declared.record.Record.{Record}
use Rattle.one_history.specs.Turns.{maps_of, opening_of}
use Rattle.store_layout.specs.Checkpoints.{Checkpoint, checkpoint_file, is_to_close}
use Rattle.store_layout.specs.Logs.{Batch, IsClosed, commands_in, log_file, log_front}
use Rattle.store_layout.specs.Readings.{gate_behind}
use Rattle.store_layout.specs.Opening.{Contents, FoundLog, Opened, AreLogs, IsClosedIn, key_limit_of, map_of, newest_by, newest_of, StandsFor}
use Rattle.gate_log.specs.States.{LogState, resumed}
use Rattle.gate_log.specs.LogStates as log
use Rattle.flusher.specs.Fitting.{IsFoundFor}
use Rattle.flusher.specs.declared.keeper.Keeper.{Keeper}
use Rattle.recovery.specs.declared.reading.Restored.{Restored}
use Rattle.recovery.specs.LogReading.{GoesOnFrom, GoesOnIn, IsResumed}
use Rattle.recovery.specs.Opening.{IsOpened, IsOpenedAs, OpensWith}

-- the newest log is closed behind its batches
newest_closed : (contents : Contents) (k : Checkpoint) (first : List Batch) (second : Option (List Batch)) → AreLogs contents k first second
    → IsClosedIn (newest_by k first second).generation (newest_by k first second).low (newest_by k first second).batches (contents (log_file (newest_by k first second).generation))
newest_closed contents k first None logs = logs
newest_closed contents k first (Some second) logs = logs.1

-- nothing is pending in its file
shut : (layout : Layout) (generation low : ℕ) (batches : List Batch) (content : List ℕ) → IsClosed layout generation low batches content
    → IsShut (log_front layout generation low batches) [] (at_rest content)
shut layout generation low batches content closed =
    let front = log_front layout generation low batches in
    let size : length content ≡ length front + length (closed.gate ∷ closed.rest) = ap length closed.bytes ∙ length-append front _ in
    record {
      gate = closed.gate;
      rest = closed.rest;
      seen = closed.bytes;
      closed = closed.closed;
      sure = record { long = omega (arith, size); clear = λ i low high. refl };
    }

-- a log that goes on behind the batches of a closed one
resumes : (found : FoundLog) (content : List ℕ) (l : LogState) → IsClosedIn found.generation found.low found.batches content → GoesOnFrom content found l → IsResumed l
    → log.Stands l found.batches [] (at_rest content)
resumes found content l closed from is =
    let layout : Layout = layout_of l.version in
    let whole = subst (λ (x : Layout). IsClosed x found.generation found.low found.batches content) (sym from.version) closed in
    let front : List ℕ = log_front layout found.generation found.low found.batches in
    let gate : l.gate ≡ length front = from.gate ∙ ap (λ (x : Layout). gate_behind x found.generation found.low found.batches) (sym from.version) in
    let here : LogState = resumed l.version found.generation found.low (length front) (found.low + length (commands_in found.batches)) in
    let same : l ≡ here = is ∙ four l.version l.generation found.generation l.low found.low l.gate (length front) l.committed (found.low + length (commands_in found.batches))
    from.generation from.low gate from.committed in
    subst (λ (x : LogState). log.Stands x found.batches [] (at_rest content)) (sym same) (record {
      knows = record { gate = refl; committed = refl; in_order = whole.log };
      stands = (record { none_staged = refl; frame = refl; count = refl }, shut layout found.generation found.low found.batches content whole);
    })
  where
    four : (v : Version) (a a' b b' c c' d d' : ℕ) → a ≡ a' → b ≡ b' → c ≡ c' → d ≡ d' → resumed v a b c d ≡ resumed v a' b' c' d'
    four v a a' b b' c c' d d' e f g h = rw (e, f, g, h) refl

module _ (law : PartsMakeTheMap) (contents : Contents) (n : ℕ) (some : 0 < n) (restored : Restored) (opened : IsOpened contents n restored) (p : Record) where
  pub found_for : (limit : ℕ) (files : Files) (must_close : Bool) → ((number : ℕ) → number < 4 → files number ≡ at_rest (contents number))
      → must_close ≡ is_to_close (contents (checkpoint_file (restored.sealed + 1))) → IsResumed restored.log
      → p.opening ≡ opening_of restored.log.committed restored.parts.items limit → IsFoundFor p restored.sealed restored.log must_close files
  found_for limit files must_close settled gate is opening =
      let found = opened.found in
      let map : union_of (maps_of restored.parts.items) ≡ map_of found = ap union_of opened.divided.maps ∙ law n (map_of found) some in
      let closed = newest_closed contents found.checkpoint found.first found.second opened.holds.logs in
      let goes_on = resumes (newest_of found) (contents (log_file (newest_of found).generation)) restored.log closed opened.log is in
      record {
        contents = contents;
        settled = settled;
        found = found;
        holds = opened.holds;
        sealed_is = opened.sealed;
        generation = opened.log.generation;
        low = opened.log.low;
        goes_on = subst (λ g. log.Stands restored.log (newest_of found).batches [] (at_rest (contents (log_file g)))) (sym opened.log.generation) goes_on;
        must_close_is = gate;
        first = ap (λ (o : Opening). o.first) opening ∙ opened.committed;
        map = ap {B = Map} (λ (o : Opening). o.map) opening ∙ map;
      }

-- the files stand for what the stripes begin with
pub opens_with : {D : Type 0} (law : PartsMakeTheMap) (contents : Contents) (n : ℕ) → 0 < n → (keeper : Keeper D) (parts : List PartState) (first limit : ℕ) (o : Opening)
    → IsOpenedAs contents n keeper parts first limit → o ≡ opening_of first parts limit → OpensWith contents o
opens_with law contents n some keeper parts first limit o opened is = record {
  found = opened.found;
  holds = opened.holds;
  first_is = ap (λ (x : Opening). x.first) is ∙ opened.first_is;
  map_is = ap {B = Map} (λ (x : Opening). x.map) is ∙ (ap union_of opened.divided.maps ∙ law n (map_of opened.found) some);
  limit_is = ap (λ (x : Opening). x.key_limit) is ∙ opened.limit_is;
}

pub stands_for : (contents : Contents) (o : Opening) → OpensWith contents o → StandsFor contents o.first o.map
stands_for contents o opens = record { found = opens.found; holds = opens.holds; prefix = sym opens.first_is; map = sym opens.map_is }

-- the limit for keys is that of the newest log's version
pub limit_found : (contents : Contents) (found : Opened) (l : LogState) → GoesOnIn contents (newest_of found) l → (layout_of l.version).key_limit ≡ key_limit_of contents found
limit_found contents found l from = ap (λ (x : Layout). x.key_limit) from.version

-- A log that is read frame by frame.
use Rattle.std.proofs.Common.{◌≡◌, ◌⊎◌, inl, inr, ℕ, suc, ◌+◌, ◌≤◌, ◌<◌, ◌^◌, List, [], ◌∷◌, ◌++◌, length, map, max, sym, ap, ap₂, subst, ◌∙◌, arith, length-append}
use Rattle.std.proofs.lemmas.List.{append-nil}
use Rattle.disk_model.specs.Calls.{Looks}
use Rattle.disk_model.specs.Files.{Files}
use Rattle.file_pieces.specs.Pieces.{pieces_in}
use Rattle.map_types.specs.declared.commands.Command.{Command}
use Rattle.map_types.specs.declared.refusals.Refusal.{Refusal}
use Rattle.map_types.specs.declared.refusals.Refusal.TheVariants.{Damaged}
use Rattle.map_model.specs.Maps.{Map}
use Rattle.map_model.specs.Steps.{map_after}
use Rattle.map_model.proofs.FoldLaws.{map_after-append}
use Rattle.log_records.specs.Layout.{Layout, layout_of}
use Rattle.ticket_order.specs.declared.stripe.Entry.{Entry}
use Rattle.store_layout.specs.Logs.{Batch, commands_in, frame, header, log_file, log_front, opened}
use Rattle.store_layout.specs.Readings.{IsBroken}
use Rattle.store_layout.specs.SectionsAndLog.{counted}
use Rattle.store_layout.proofs.Growing.{counted-append}
use Rattle.gate_log.specs.States.{batch_of, commands_of}
use Rattle.gate_log.specs.Scan as scanning
use Rattle.gate_log.specs.Scan.{HasRead, IsNextBatch, ScanState, log_bytes}
use Rattle.gate_log.proofs.Scanning.{same_bytes}
use Rattle.recovery.specs.declared.restoring.Restoring.{Restoring}
use Rattle.recovery.specs.Counting.{counted_of}
use Rattle.recovery.specs.Restoring.{HasMap, IsSameFrame}
use Rattle.recovery.specs.LogReading.{IsBrokenFor, IsReading, RefusesFor}
use Rattle.recovery.proofs.CountingLemmas.{counted_is}

-- ---- frames

front_long : (layout : Layout) (batches : List Batch) → length batches ≤ length (opened layout batches)
front_long layout [] = omega arith
front_long layout (b ∷ batches) =
    let rest = front_long layout batches in
    let both = length-append (frame layout b) (opened layout batches) in
    omega (arith, rest, both)

-- each batch takes a byte at least
pub few_batches : (layout : Layout) (low : ℕ) (batches : List Batch) (scan : ScanState) (content : List ℕ) → HasRead layout low batches scan content → length batches ≤ scan.gate
few_batches layout low batches scan content read =
    let place = read.place in
    let both = length-append (header layout scan.generation low) (opened layout batches) in
    let rest = front_long layout batches in
    omega (arith, place, both, rest)

commands_in-push : (batches : List Batch) (b : Batch) → commands_in (batches ++ b ∷ []) ≡ commands_in batches ++ b.commands
commands_in-push [] b = append-nil b.commands
commands_in-push (x ∷ batches) b = ap (λ (l : List Command). x.commands ++ l) (commands_in-push batches b) ∙ sym (Rattle.std.proofs.Common.append_assoc x.commands (commands_in batches) b.commands)

pub frame_on : (a b c : Restoring) → IsSameFrame a b → IsSameFrame b c → IsSameFrame a c
frame_on a b c one two = record { stripes = two.stripes ∙ one.stripes; of = two.of ∙ one.of; marks = two.marks ∙ one.marks }

-- one batch more
pub batch_more : (layout : Layout) (low : ℕ) (content : List ℕ) (before mid after : Restoring) (scan new : ScanState) (count : ℕ) (entries : List Entry) → IsSameFrame before mid
    → (reading : IsReading layout low content before scan count mid) → IsNextBatch layout low reading.batches entries scan new content
    → ((m : Map) → HasMap mid m → HasMap after (map_after m (counted_of mid.of.count mid.marks.items entries))) → IsReading layout low content before new (count + 1) after
batch_more layout low content before mid after scan new count entries same reading next made = record {
  batches = reading.batches ++ batch_of scan.expected entries ∷ [];
  read = next.read;
  many = let many = reading.many in omega (arith, many, length-append reading.batches (batch_of scan.expected entries ∷ []));
  applied = λ sections m marks has.
      let n = before.of.count in
      let done = counted n sections low (commands_in reading.batches) in
      let here : counted_of mid.of.count mid.marks.items entries ≡ counted n sections (low + length (commands_in reading.batches)) (commands_of entries) =
      ap (λ of. counted_of of.count mid.marks.items entries) same.of
      ∙ counted_is n sections mid.marks.items scan.expected entries (marks ∙ sym (ap (λ ms. ms.items) same.marks)) next.tickets
      ∙ ap (λ t. counted n sections t (commands_of entries)) reading.read.tickets in
      let all : counted n sections low (commands_in (reading.batches ++ batch_of scan.expected entries ∷ [])) ≡ done ++ counted_of mid.of.count mid.marks.items entries =
      ap (counted n sections low) (commands_in-push reading.batches (batch_of scan.expected entries))
      ∙ counted-append n sections low (commands_in reading.batches) (commands_of entries)
      ∙ ap (λ (l : List Command). done ++ l) (sym here) in
      subst (λ (x : Map). HasMap after x) (sym (ap (map_after m) all ∙ map_after-append m done (counted_of mid.of.count mid.marks.items entries)))
      (made (map_after m done) (reading.applied sections m marks has));
}

-- ---- device calls

pieces_max : (a b : ℕ) → pieces_in (max a b) ≡ max (pieces_in a) (pieces_in b)
pieces_max a b = omega arith

pieces_up : (a b : ℕ) → a ≤ b → pieces_in a ≤ pieces_in b
pieces_up a b below = omega (arith, below)

-- reading on from the gate of the scan takes no piece behind the last gate
pub pieces_further : (start mid new first here gate size last : ℕ) → mid + pieces_in first ≡ start + pieces_in here → pieces_in here ≡ max (pieces_in first) (pieces_in (gate + 1)) → 1 ≤ size
    → gate + size ≤ last + 1 → new + pieces_in here ≤ mid + pieces_in (max here (gate + size)) → new + pieces_in first ≤ start + pieces_in (max first (last + 1))
pieces_further start mid new first here gate size last called pieces some inside tried =
    sum start mid new (pieces_in first) (pieces_in here) (pieces_in (gate + 1)) (pieces_in (gate + size)) (pieces_in (last + 1)) (pieces_in (max here (gate + size))) (pieces_in (max first (last + 1)))
    called pieces (pieces_up (gate + 1) (last + 1) (omega (arith, some, inside))) (pieces_up (gate + size) (last + 1) inside) (pieces_max here (gate + size)) (pieces_max first (last + 1)) tried
  where
    sum : (start mid new p q a b z m n : ℕ) → mid + p ≡ start + q → q ≡ max p a → a ≤ z → b ≤ z → m ≡ max q b → n ≡ max p z → new + q ≤ mid + m → new + p ≤ start + n
    sum start mid new p q a b z m n called pieces low high is more tried = omega (arith, called, pieces, low, high, is, more, tried)

-- nor does a batch that was read
pub pieces_upto : (start mid new first here next gate later size last : ℕ) → mid + pieces_in first ≡ start + pieces_in here → pieces_in here ≡ max (pieces_in first) (pieces_in (gate + 1))
    → new + pieces_in here ≡ mid + pieces_in next → pieces_in next ≡ max (pieces_in here) (pieces_in (later + 1)) → gate ≤ later → 1 ≤ size → later + size ≤ last + 1
    → new + pieces_in first ≤ start + pieces_in (max first (last + 1))
pieces_upto start mid new first here next gate later size last called pieces more next_pieces forward some inside =
    sum start mid new (pieces_in first) (pieces_in here) (pieces_in next) (pieces_in (gate + 1)) (pieces_in (later + 1)) (pieces_in (last + 1)) (pieces_in (max first (last + 1)))
    called pieces more next_pieces (pieces_up (gate + 1) (later + 1) (omega (arith, forward))) (pieces_up (later + 1) (last + 1) (omega (arith, some, inside))) (pieces_max first (last + 1))
  where
    sum : (start mid new p q r a b z n : ℕ) → mid + p ≡ start + q → q ≡ max p a → new + q ≡ mid + r → r ≡ max q b → a ≤ b → b ≤ z → n ≡ max p z → new + p ≤ start + n
    sum start mid new p q r a b z n called pieces more next low high is = omega (arith, called, pieces, more, next, low, high, is)

-- ---- refusals

module _ {D : Type 0} (states : D → List Files) (failures : D → ℕ) (honest : D → Type 0) (start mid : D) (looks : Looks states failures honest 0 start mid) where
  -- the file of the log reads as at the start
  pub same_log : (scan : ScanState) (generation : ℕ) → scan.generation ≡ generation → log_bytes states mid scan.generation ≡ log_bytes states start generation
  same_log scan generation e = same_bytes states failures honest 0 start mid scan.generation looks ∙ ap (log_bytes states start) e

  pub broken_for : (layout : Layout) (new : D) (first scan : ScanState) (before after : Restoring) (generation count : ℕ) (refusal : Refusal) → layout_of scan.version ≡ layout → scan.generation ≡ generation → (honest new → honest mid)
      → (honest mid → (low : ℕ) → HasRead layout low [] first (log_bytes states start generation) → IsReading (layout_of scan.version) low (log_bytes states start generation) before scan count after)
      → scanning.RefusesFor scan (honest new → (low : ℕ) (batches : List Batch) → HasRead (layout_of scan.version) low batches scan (log_bytes states mid scan.generation)
      → IsBroken (layout_of scan.version) scan.generation low batches (log_bytes states mid scan.generation)) refusal
      → RefusesFor (honest new → (low : ℕ) → HasRead layout low [] first (log_bytes states start generation) → IsBrokenFor layout generation low (log_bytes states start generation) refusal) refusal
  broken_for layout new first scan before after generation count refusal own e was read (inl failed) = inl failed
  broken_for layout new first scan before after generation count refusal own e was read (inr (inl memory)) = inr (inl memory)
  broken_for layout new first scan before after generation count refusal own e was read (inr (inr why)) = inr (inr (λ is low begun.
      let so_far = read (was is) low begun in
      let same = same_log scan generation e in
      let broken = why.1 is low so_far.batches (subst (λ content. HasRead (layout_of scan.version) low so_far.batches scan content) (sym same) so_far.read) in
      subst (λ (x : Layout). IsBrokenFor x generation low (log_bytes states start generation) refusal) own (record {
        batches = so_far.batches;
        reads = subst (λ g. IsBroken (layout_of scan.version) g low so_far.batches (log_bytes states start generation)) e
            (subst (λ content. IsBroken (layout_of scan.version) scan.generation low so_far.batches content) same broken);
        damage = why.0 ∙ ap₂ Damaged (ap log_file e) (so_far.read.place ∙ ap (λ g. length (log_front (layout_of scan.version) g low so_far.batches)) e);
      })))

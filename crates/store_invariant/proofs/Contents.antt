-- What four contents stand for that hold a checkpoint, and logs of its history.
use Rattle.std.proofs.Common.{◌≡◌, ◌⊎◌, inl, inr, ℕ, ◌+◌, ◌≤◌, List, [], ◌∷◌, ◌++◌, length, Option, refl, sym, ◌∙◌, ap, subst, arith, append_assoc, length-append}
use Rattle.disk_model.specs.Files.{Contents}
use Rattle.map_types.specs.declared.commands.Command.{Command}
use Rattle.map_model.specs.Histories.{History}
use Rattle.store_layout.specs.Checkpoints.{Section, Checkpoint, checkpoint_file, greatest_mark}
use Rattle.store_layout.specs.Logs.{Batch, commands_in}
use Rattle.store_layout.specs.Opening.{AreLogs, Holds, IsCheckpointIn, IsOlder, Opened, StandsForFront, log_of, logged_by, prefix_of}
use Rattle.store_layout.specs.OpeningLaws.{RestoredStands}
use Rattle.store_layout.specs.Laws.{RestoringGoesOn}
use Rattle.store_layout.specs.SectionsAndLog.{AreMarks, IsNextOf, Restores}

-- ---- marks and files

pub commands_append : (batches more : List Batch) → commands_in (batches ++ more) ≡ commands_in batches ++ commands_in more
commands_append [] more = refl
commands_append (batch ∷ batches) more = ap (λ (l : List Command). batch.commands ++ l) (commands_append batches more) ∙ sym (append_assoc batch.commands (commands_in batches) (commands_in more))

pub greatest_below : (low high : ℕ) (sections : List Section) → AreMarks low high sections → greatest_mark sections ≤ high
greatest_below low high [] marks = omega arith
greatest_below low high (section ∷ sections) marks = omega (arith, marks.1, greatest_below low high sections marks.2)

pub marks_below : (low high reached : ℕ) (sections : List Section) → AreMarks low high sections → greatest_mark sections ≤ reached → AreMarks low reached sections
marks_below low high reached [] marks below = tt
marks_below low high reached (section ∷ sections) marks below = (marks.0, omega (arith, below), marks_below low high reached sections marks.2 (omega (arith, below)))

-- ---- four contents

-- logs of the checkpoint, with these commands, or the new ones besides
pub record LogsRead (contents : Contents) (k : Checkpoint) (log new : List Command) : Type 0 where
  pub first : List Batch
  pub second : Option (List Batch)
  pub are : AreLogs contents k first second
  pub logged : (logged_by first second ≡ log) ⊎ (logged_by first second ≡ log ++ new)

-- the checkpoint, and no newer one beside it
pub record HasCheckpoint (contents : Contents) (k : Checkpoint) : Type 0 where
  pub checkpoint : IsCheckpointIn k (contents (checkpoint_file k.generation))
  pub other : IsOlder k.generation (checkpoint_file (k.generation + 1)) (contents (checkpoint_file (k.generation + 1)))

module _ (h : History) (contents : Contents) (k : Checkpoint) (log new : List Command) (has : HasCheckpoint contents k) (read : LogsRead contents k log new) where
  abbrev found : Opened
  found = record { checkpoint = k; first = read.first; second = read.second }

  abbrev Restored : List Command → Type 0
  Restored l = Restores h k.stripes k.sections k.low l

  -- what is found, and how many commands
  abbrev IsFound : Type 0
  IsFound = Restored (log_of found) × (k.low + length log ≤ prefix_of found) × (prefix_of found ≤ k.low + length log + length new)

  is_found : RestoringGoesOn → Restored log → IsNextOf h (k.low + length log) new → (log_of found ≡ log) ⊎ (log_of found ≡ log ++ new) → IsFound
  is_found goes_on restores next (inl same) =
      (subst (λ (l : List Command). Restored l) (sym same) restores, omega (arith, ap length same), omega (arith, ap length same))
  is_found goes_on restores next (inr more) =
      let whole : Restored (log ++ new) = goes_on h k.stripes k.low k.sections log new restores next in
      (subst (λ (l : List Command). Restored l) (sym more) whole, omega (arith, ap length more, length-append log new), omega (arith, ap length more, length-append log new))

  pub holds_found : RestoringGoesOn → Restored log → IsNextOf h (k.low + length log) new → Holds contents found
  holds_found goes_on restores next =
      let is = is_found goes_on restores next read.logged in
      record { checkpoint = has.checkpoint; other = has.other; logs = read.are; reaches = greatest_below k.low (prefix_of found) k.sections is.0.marks }

  pub stands_for_front : RestoringGoesOn → RestoredStands → Restored log → IsNextOf h (k.low + length log) new
      → StandsForFront h (k.low + length log) (k.low + length log + length new) contents
  stands_for_front goes_on stands restores next =
      let is = is_found goes_on restores next read.logged in
      let front : StandsForFront h (prefix_of found) (prefix_of found) contents = stands h contents found (holds_found goes_on restores next) is.0 in
      record {
        count = front.count;
        stands = front.stands;
        from_first = front.from_first;
        within = front.within;
        from_least = omega (arith, front.from_least, is.1);
        to_most = omega (arith, front.to_most, is.2);
      }

-- A keeper stays unmoved, and no stop loses the map, from one call to the next.
use Rattle.std.proofs.Common.{◌≡◌, ℕ, List, [], ap}
use Rattle.disk_model.specs.Files.{Files, now}
use Rattle.map_types.specs.declared.commands.Command.{Command}
use Rattle.ticket_order.specs.declared.record.Opening.{Opening}
use Rattle.ticket_order.specs.declared.record.Record.{Record}
use Rattle.ticket_order.specs.Legality.{history_of}
use Rattle.one_history.specs.declared.book.Book.{Book}
use Rattle.one_history.specs.Turns.{record_of}
use Rattle.plain_words.specs.declared.at.At.{At}
use Rattle.flusher.specs.declared.keeper.Keeper.{Keeper}
use Rattle.flusher.specs.Fitting.{Fits, StopsFit}
use Rattle.checkpoint_walk.specs.Checkpointing.{sealing}
use Rattle.recovery.specs.Upgrading.{IsUnmoved, IsUnmovedWith, StandsThroughout}
use Rattle.recovery.proofs.Unmoved.{begun_unmoved, stays, still, through}
use Rattle.recovery.proofs.Sections.{sealing_unmoved, unmoved_with}

module _ {D : Type 0} (states : D → List Files) (honest : D → Type 0) where
  -- the keeper is unmoved with these words, if it was so before
  pub record StaysUnmoved (old : Keeper D) (before : At) (new : Keeper D) (after : At) : Type 0 where
    pub unmoved : (o : Opening) → IsUnmovedWith states honest o old before.pass before.words.now → IsUnmovedWith states honest o new after.pass after.words.now
    pub stands : (o : Opening) → IsUnmovedWith states honest o old before.pass before.words.now → StandsThroughout states honest o.first o.map old.disk new.disk

  module _ (old : Keeper D) (before : At) where
    abbrev book : Book
    book = before.words.now

    abbrev record_before : Record
    record_before = record_of before.pass book

    -- a checkpoint is begun
    pub begun : (new : Keeper D) → new ≡ record old { next = new.next; checkpoint = new.checkpoint }
        → ((n : ℕ) (done : List Command) (p : Record) → Fits states honest n done old p → Fits states honest n done new p)
        → ((n : ℕ) (done : List Command) (p : Record) → Fits states honest n done old p → honest old.disk → StopsFit (history_of p) old (now (states old.disk)))
        → StaysUnmoved old before new before
    begun new same fits stops = record {
      unmoved = λ o is. unmoved_with states honest o old new before.pass book is (begun_unmoved states honest book.stripes o old record_before is.unmoved new same (fits book.stripes [] record_before is.unmoved.fits));
      stands = λ o is. stays states honest book.stripes o old record_before is.unmoved new.disk (ap (λ (k : Keeper D). k.disk) same) stops;
    }

    module _ (mid : Keeper D) (at : At) (so_far : StaysUnmoved old before mid at) where
      abbrev mid_book : Book
      mid_book = at.words.now

      abbrev Unmoved : Opening → Keeper D → Type 0
      Unmoved o k = IsUnmoved states honest mid_book.stripes o k (record_of at.pass mid_book)

      -- a step that lost nothing was made
      pub stood : (new : Keeper D) → ((o : Opening) → Unmoved o mid → StandsThroughout states honest o.first o.map mid.disk new.disk)
          → (o : Opening) → IsUnmovedWith states honest o old before.pass book → StandsThroughout states honest o.first o.map old.disk new.disk
      stood new stands o is = through states honest o.first o.map old.disk mid.disk new.disk (so_far.stands o is) (stands o (so_far.unmoved o is).unmoved)

      -- calls were made, with the same words
      pub called : (new : Keeper D) → ((o : Opening) → Unmoved o mid → StandsThroughout states honest o.first o.map mid.disk new.disk) → ((o : Opening) → Unmoved o mid → Unmoved o new) → StaysUnmoved old before new at
      called new stands unmoved = record {
        unmoved = λ o is. let was = so_far.unmoved o is in unmoved_with states honest o mid new at.pass mid_book was (unmoved o was.unmoved);
        stands = stood new stands;
      }

      -- the stripes were captured
      pub captured : (new : Keeper D) (after : At) → ((o : Opening) → IsUnmovedWith states honest o mid at.pass mid_book → StandsThroughout states honest o.first o.map mid.disk new.disk)
          → ((o : Opening) → IsUnmovedWith states honest o mid at.pass mid_book → IsUnmovedWith states honest o new after.pass after.words.now) → StaysUnmoved old before new after
      captured new after stands unmoved = record {
        unmoved = λ o is. unmoved o (so_far.unmoved o is);
        stands = λ o is. through states honest o.first o.map old.disk mid.disk new.disk (so_far.stands o is) (stands o (so_far.unmoved o is));
      }

      -- the keeper was left as it was
      pub left : (new : Keeper D) → new ≡ mid → (o : Opening) → IsUnmovedWith states honest o old before.pass book → StandsThroughout states honest o.first o.map old.disk new.disk
      left new same o is = still states honest o.first o.map old.disk mid.disk new.disk (so_far.stands o is) (ap (λ (k : Keeper D). k.disk) same)

      -- a seal is begun
      pub sealed : (new : Keeper D) → new ≡ record mid { checkpoint = sealing mid.checkpoint } → ((n : ℕ) (done : List Command) (p : Record) → Fits states honest n done mid p → Fits states honest n done new p) → StaysUnmoved old before new at
      sealed new same fits = record {
        unmoved = λ o is.
            let was = so_far.unmoved o is in
            unmoved_with states honest o mid new at.pass mid_book was
            (sealing_unmoved states honest mid_book.stripes o mid (record_of at.pass mid_book) was.unmoved new same (fits mid_book.stripes [] (record_of at.pass mid_book) was.unmoved.fits));
        stands = λ o is. still states honest o.first o.map old.disk mid.disk new.disk (so_far.stands o is) (ap (λ (k : Keeper D). k.disk) same);
      }

-- What a journal shows, and what it keeps.
use Rattle.std.specs.Prelude.{◌≡◌, ℕ, List, false, None}
use Rattle.disk_model.specs.Files.{Files}
use Rattle.ticket_order.specs.declared.record.Record.{Record}
use Rattle.flusher.specs.declared.keeper.Keeper.{Keeper}
use Rattle.flusher.specs.Fitting.{IsKept}
use Rattle.flusher.specs.KeeperSteps.{is_walking}

-- the keeper, and the steps of its pass
pub record Owned (D S : Type 0) : Type 0 where
  pub keeper : Keeper D
  pub steps : S

-- The keeper fits its files and the record of its pass, and neither a sweep nor a capture walks.
pub record Rests {D S : Type 0} (states : D → List Files) (honest : D → Type 0) (stripe_count : S → ℕ)
    (recorded : S → Record) (keeper : Keeper D) (steps : S) : Type 0 where
  pub kept : IsKept states honest (stripe_count steps) keeper (recorded steps)
  pub still : is_walking keeper.sweeper.walking ≡ false
  pub over : keeper.capture ≡ None

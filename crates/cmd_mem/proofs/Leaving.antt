-- What a keeper leaves on its disk.
use Rattle.std.proofs.Common.{◌≡◌, List, sym, subst}
use Rattle.disk_model.specs.Files.{Files, now}
use Rattle.ticket_order.specs.Legality.{history_of}
use Rattle.flusher.specs.declared.keeper.Keeper.{Keeper}
use Rattle.flusher.specs.Fitting.{StopsFit}
use Rattle.cmd_mem.specs.Maps.{Leaves, MapState}

module _ {D : Type 0} (states : D → List Files) (honest : D → Type 0) where
  pub leaves : (keeper : Keeper D) (map view : MapState) (disk : D) → view ≡ map → keeper.log ≡ view.log → disk ≡ keeper.disk
      → (honest keeper.disk → StopsFit (history_of view.pass) keeper (now (states keeper.disk)))
      → honest disk → Leaves states map disk
  leaves keeper map view disk is log same law told =
      subst (λ (m : MapState). Leaves states m disk) is (record {
        keeper = keeper;
        own = sym same;
        log = log;
        stops = subst (λ (d : D). StopsFit (history_of view.pass) keeper (now (states d))) (sym same) (law (subst honest same told));
      })

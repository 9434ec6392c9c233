-- What a stop leaves between the steps of a capture.
use Rattle.std.proofs.Common.{◌≡◌, inl, inr, ℕ, ◌+◌, List, length, Option, None, Some, sym, ◌∙◌, ap, subst}
use Rattle.disk_model.specs.Files.{Files, now}
use Rattle.map_types.specs.declared.commands.Command.{Command}
use Rattle.ticket_order.specs.declared.record.Opening.{Opening}
use Rattle.ticket_order.specs.declared.record.Record.{Record}
use Rattle.ticket_order.specs.declared.walk.Walk.{Walk}
use Rattle.ticket_order.specs.Legality.{history_from, history_of}
use Rattle.store_layout.specs.Opening.{StandsForFront}
use Rattle.store_layout.specs.OpeningLaws.{FrontStays}
use Rattle.store_layout.specs.SectionsAndLog as layout
use Rattle.flusher.specs.declared.keeper.Keeper.{Keeper}
use Rattle.flusher.specs.Fitting.{Fits, IsBeside, StopsFit}
use Rattle.checkpoint_walk.specs.Walking.{FitsBy}
use Rattle.checkpoint_walk.proofs.Walked.{looked_beside, taken_beside}

-- the pass has seen more
stops_beside : {D : Type 0} (keeper : Keeper D) (b p : Record) (files : Files) → FrontStays → IsBeside b p → StopsFit (history_of b) keeper files → StopsFit (history_of p) keeper files
stops_beside {D} keeper b p files stay k stops =
    let is : history_of p ≡ layout.grown (history_of b) k.seen.more = ap (λ (o : Opening). history_from o p.seen) k.opening ∙ ap (λ (xs : List Command). history_from b.opening xs) k.seen.is in
    λ contents leaves. subst (λ h. StandsForFront h keeper.log.committed (keeper.log.committed + length keeper.staged.items) contents) (sym is) (stay (history_of b) keeper.log.committed (keeper.log.committed + length keeper.staged.items) contents k.seen.more (stops contents leaves))

abbrev pub StopsOf : {D : Type 0} → (D → List Files) → (D → Type 0) → Keeper D → Type 0
StopsOf {D} states honest keeper = (n : ℕ) (done : List Command) (p : Record) → Fits states honest n done keeper p → honest keeper.disk → StopsFit (history_of p) keeper (now (states keeper.disk))

pub stops_by : {D : Type 0} (states : D → List Files) (honest : D → Type 0) (n : ℕ) (done : List Command) (keeper : Keeper D) (p : Record) (o : Option Walk) → FrontStays → StopsOf states honest keeper → FitsBy o states honest n done keeper p → honest keeper.disk
    → StopsFit (history_of p) keeper (now (states keeper.disk))
stops_by {D} states honest n done keeper p None stay stops f h = stops n done p f h
stops_by {D} states honest n done keeper p (Some walk) stay stops f h =
    let at : StopsFit (history_of f.begun) keeper (now (states keeper.disk)) = stops n done f.begun f.fits h in
    elim f.walked [
      | inl t ↦ stops_beside keeper f.begun p (now (states keeper.disk)) stay (taken_beside n f.begun f.stripe walk p t) at
      | inr l ↦ stops_beside keeper f.begun p (now (states keeper.disk)) stay (looked_beside n f.begun f.stripe walk p l) at
    ]

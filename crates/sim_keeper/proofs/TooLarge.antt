-- A section that is too large.
use Rattle.std.proofs.Common.{◌≡◌, ℕ, List, length, take, Option, Some, None, sym, ◌∙◌, ap, subst, arith}
use Rattle.std.specs.FinMap as finite
use Rattle.map_model.specs.Histories.{fold_to}
use Rattle.map_model.specs.Maps.{Map}
use Rattle.map_model.specs.Parts.{part_of}
use Rattle.map_model.specs.Steps.{fold_of}
use Rattle.ticket_order.specs.declared.record.Record.{Record}
use Rattle.ticket_order.specs.Legality.{history_of}
use Rattle.ticket_order.specs.Records.{reach}
use Rattle.disk_model.specs.Files.{Files, now}
use Rattle.checkpoint_file.specs.States.{CheckpointState}
use Rattle.gate_log.specs.States.{LogState}
use Rattle.checkpoint_walk.specs.Checkpointing.{IsNextStripe}
use Rattle.checkpoint_walk.specs.Walking.{FitsBy, IsCapturing}
use Rattle.sim_rules.specs.World.{World, Life, Running, next_section}
use Rattle.sim_rules.specs.Cases.{section_size}
use Rattle.sim_keeper.specs.Laws.{TooManyAreTooLarge}
use Rattle.sim_keeper.specs.KeeperInWorld.{IsWritten, SeesHistory}
use Rattle.sim_keeper.proofs.Captured.{same_fold}
use Rattle.sim_keeper.proofs.CaptureSteps.{next_is}
use Rattle.sim_keeper.proofs.Held.{captured_holds, same_held}

-- the next section of the world is this part
size_is : (o : Option CheckpointState) (running : Option Running) (next : Option LogState) (files : Files) (p : Record) (w : World) (l : Life) (n i : ℕ) (part : Map) → IsWritten o running files → IsNextStripe i next o → SeesHistory p w l → l.stripes ≡ n → i ≡ next_section running
    → part_of n i (fold_to (history_of p) (reach p)) ≡ part → section_size w l (reach p) running ≡ length (finite.entries part)
size_is None running next files p w l n i part is k seen stripes at part_is = absurd k
size_is (Some v) running next files p w l n i part is k seen stripes at part_is =
    let place : length is.0 ≡ i = sym (at ∙ ap next_section is.1) in
    let fold : fold_of (take (reach p) w.history) ≡ fold_to (history_of p) (reach p) = sym (same_fold p w l (reach p) seen (omega arith) (omega arith)) in
    ap (section_size w l (reach p)) is.1
    ∙ ap (λ (m : Map). length (finite.entries m)) (ap (λ x. part_of x (length is.0) (fold_of (take (reach p) w.history))) stripes ∙ ap (λ x. part_of n x (fold_of (take (reach p) w.history))) place ∙ ap (part_of n i) fold ∙ part_is)

pub too_many_are_too_large : {D : Type 0} (states : D → List Files) (honest : D → Type 0) → TooManyAreTooLarge states honest
too_many_are_too_large {D} states honest n done walk keeper p w l i part fw s is holds part_is many =
    let f : IsCapturing states honest n done keeper walk p = subst (λ o. FitsBy o states honest n done keeper p) is fw in
    let k = s.store f.works in
    let same : i ≡ f.stripe = same_held p i f.stripe holds (captured_holds n f.begun f.stripe walk p f.walked) in
    let place : i ≡ next_section l.checkpoint = same ∙ next_is keeper.checkpoint l.checkpoint keeper.next (now (states keeper.disk)) f.stripe k.checkpoint f.next in
    let size = size_is keeper.checkpoint l.checkpoint keeper.next (now (states keeper.disk)) p w l n i part k.checkpoint (subst (λ j. IsNextStripe j keeper.next keeper.checkpoint) (sym same) f.next) s.history (s.stripes ∙ f.fits.stripes.count) place part_is in
    omega (arith, size, many)

-- What the keeper's files hold once the history has grown, and after an opening.
use Rattle.std.proofs.Common.{◌≡◌, ℕ, ◌+◌, List, [], length, Bool, None, refl, sym, ◌∙◌, ap, subst}
use Rattle.disk_model.specs.Files.{Files, now}
use Rattle.map_types.specs.declared.commands.Command.{Command}
use Rattle.map_model.specs.Histories.{History}
use Rattle.ticket_order.specs.declared.stripe.Entry.{Entry}
use Rattle.ticket_order.specs.declared.record.Opening.{Opening}
use Rattle.ticket_order.specs.declared.record.Record.{Record}
use Rattle.ticket_order.specs.Legality.{history_from, history_of}
use Rattle.store_layout.specs.Checkpoints.{checkpoint_file, is_to_close}
use Rattle.store_layout.specs.OpeningLaws.{FrontStays}
use Rattle.store_layout.specs.SectionsAndLog as layout
use Rattle.gate_log.specs.States.{LogState, resumed}
use Rattle.store_invariant.specs.States.{StoreState}
use Rattle.store_invariant.specs.StoreStates as store
use Rattle.store_invariant.specs.Laws.{OpenedStands, StandingStays}
use Rattle.flusher.specs.declared.keeper.Keeper.{Keeper}
use Rattle.flusher.specs.Fitting.{HasSeenMore, HoldsFor, HoldsFront, IsFoundFor, StopsFit, Stores, store_of}

history_grown : (p w : Record) → w.opening ≡ p.opening → (m : HasSeenMore p w) → history_of w ≡ layout.grown (history_of p) m.more
history_grown p w o m = ap (λ (x : Opening). history_from x w.seen) o ∙ ap (λ (xs : List Command). history_from p.opening xs) m.is

holds_grown : (h : History) (more : List Command) (state : StoreState) (staged : List Entry) (must_close : Bool) (files : Files) → StandingStays → HoldsFront h state staged must_close files
    → HoldsFront (layout.grown h more) state staged must_close files
holds_grown h more state staged must_close files stay k = record {
  held = k.held;
  stands = stay h state k.held files more k.stands;
  staged_is = k.staged_is;
  must_close_is = k.must_close_is;
}

stops_grown : (h : History) (more : List Command) (least most : ℕ) (files : Files) → FrontStays → store.StopsStand h least most files → store.StopsStand (layout.grown h more) least most files
stops_grown h more least most files stay k = λ contents leaves. stay h least most contents more (k contents leaves)

-- the pass sees more
pub stores_seen : {D : Type 0} (states : D → List Files) (honest : D → Type 0) (keeper : Keeper D) (p w : Record) → StandingStays → FrontStays → w.opening ≡ p.opening → HasSeenMore p w
    → Stores states honest keeper p → Stores states honest keeper w
stores_seen {D} states honest keeper p w stands stops o m k =
    let is : history_of w ≡ layout.grown (history_of p) m.more = history_grown p w o m in
    record {
      unbroken = k.unbroken;
      works = λ works h. subst (λ (x : History). HoldsFor x keeper (now (states keeper.disk))) (sym is) (holds_grown (history_of p) m.more (store_of keeper) keeper.staged.items keeper.must_close (now (states keeper.disk)) stands (k.works works h));
      stopped = λ failed h. subst (λ (x : History). StopsFit x keeper (now (states keeper.disk))) (sym is) (stops_grown (history_of p) m.more keeper.log.committed (keeper.log.committed + length keeper.staged.items) (now (states keeper.disk)) stops (k.stopped failed h));
    }

-- a directory was opened
pub holds_found : (p : Record) (sealed : ℕ) (log : LogState) (must_close : Bool) (files : Files) → OpenedStands → log ≡ resumed log.version log.generation log.low log.gate log.committed → IsFoundFor p sealed log must_close files
    → HoldsFront (history_of p) (record { sealed = sealed; log = log; next = None; writer = None }) [] must_close files
holds_found p sealed log must_close files stands is f = record {
  held = record { found = f.found; staged = []; other = f.contents (checkpoint_file (f.found.checkpoint.generation + 1)); sections = [] };
  stands = subst (λ (g : ℕ). store.Stands (history_of p) (record { sealed = g; log = log; next = None; writer = None })
      (record { found = f.found; staged = []; other = f.contents (checkpoint_file (f.found.checkpoint.generation + 1)); sections = [] }) files) (sym f.sealed_is)
      (stands (history_of p) f.found f.contents log files f.holds f.settled f.first f.map f.generation f.low (ap (λ (x : LogState). x.phase) is, ap (λ (x : LogState). x.ending) is) f.goes_on);
  staged_is = refl;
  must_close_is = f.must_close_is ∙ ap (λ (g : ℕ). is_to_close (f.contents (checkpoint_file (g + 1)))) f.sealed_is;
}

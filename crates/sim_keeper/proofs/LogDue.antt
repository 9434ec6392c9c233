-- Which call of the log is due.
use Rattle.std.proofs.Common.{◌≡◌, ℕ, ◌+◌, List, [], ◌∷◌, ◌++◌, length, Option, None, Some, false, refl, sym, ◌∙◌, ap, subst}
use Rattle.map_types.specs.declared.commands.Command.{Command}
use Rattle.ticket_order.specs.declared.record.Record.{Record}
use Rattle.ticket_order.specs.declared.stripe.Entry.{Entry}
use Rattle.ticket_order.specs.Legality.{history_of}
use Rattle.disk_model.specs.Files.{Files, now}
use Rattle.disk_model.specs.Gates.{Call, writes}
use Rattle.log_records.specs.declared.versions.Version.{Version}
use Rattle.log_records.specs.Layout.{Layout, layout_of}
use Rattle.store_layout.specs.Logs.{end_frame, frame, header, log_file, new_layout, new_version}
use Rattle.store_layout.specs.declared.log_phase.Phase.{Phase}
use Rattle.store_layout.specs.declared.log_phase.Phase.TheVariants.{Idle, Header, HeaderWritten, Staged, Written, Synced, Opened}
use Rattle.gate_log.specs.States.{LogState, batch_of, begun, bytes_staged, call_in}
use Rattle.gate_log.specs.LogStates as log
use Rattle.store_invariant.specs.StoreStates.{IsTurn}
use Rattle.store_invariant.specs.States.{newest_batches}
use Rattle.flusher.specs.declared.keeper.Keeper.{Keeper}
use Rattle.flusher.specs.Fitting.{Fits, batches_of, store_of}
use Rattle.flusher.specs.Rotating.{MayRotate, due_by, due_in}
use Rattle.flusher.proofs.StoreSteps.{log_in}
use Rattle.sim_rules.specs.World.{World, Life, Rotating, next_batch, next_commands}
use Rattle.sim_rules.specs.Due.{log_call, log_number}
use Rattle.sim_keeper.specs.Showing.{calls_left, committing, work_by}
use Rattle.sim_keeper.specs.KeeperInWorld.{KeeperStands, KnowsStore}
use Rattle.sim_keeper.proofs.Known.{staged_next}

one_staged : (committed : ℕ) (es : List Entry) (lg : LogState) → log.HasNext None lg (batches_of committed es) → lg.frame ≡ frame (layout_of lg.version) (batch_of committed es) ++ 0 ∷ []
one_staged committed [] lg has = absurd cc
one_staged committed (e ∷ es) lg has =
    let is : has.0 ≡ batch_of committed (e ∷ es) = sym (heads has.1) in
    has.2.frame ∙ ap (λ b. frame (layout_of lg.version) b ++ 0 ∷ []) is
  where
    heads : {A : Type 0} {x y : A} → (x ∷ []) ≡ (y ∷ []) → x ≡ y
    heads e = cc

some_is : {A : Type 0} {x y : A} → Some x ≡ Some y → y ≡ x
some_is e = cc

module _ {D : Type 0} (states : D → List Files) (honest : D → Type 0) (n : ℕ) (done : List Command) (keeper : Keeper D) (p : Record) (w : World) (l : Life)
    (f : Fits states honest n done keeper p) (h : honest keeper.disk) (works : keeper.is_broken ≡ false) (s : KeeperStands states keeper p w l) where
  k : KnowsStore states keeper l
  k = s.store works

  m : ℕ
  m = length keeper.staged.items

  -- the frame of what is staged
  framed : keeper.log.phase ≡ Staged → keeper.log.ending ≡ None → keeper.log.frame ≡ frame l.layout (next_batch w l m) ++ 0 ∷ []
  unfolding m
  framed staged goes =
      let holds = f.stores.works works h in
      let at = log_in (history_of p) (store_of keeper) holds.held (now (states keeper.disk)) holds.stands in
      let stands = subst (λ ph. log.AtPhase ph keeper.log (newest_batches holds.held.found.first holds.held.found.second) holds.held.staged (now (states keeper.disk) (log_file keeper.log.generation))) staged at.stands in
      let next : log.HasNext None keeper.log (batches_of keeper.log.committed keeper.staged.items) = subst (λ o. log.HasNext o keeper.log (batches_of keeper.log.committed keeper.staged.items)) goes
      (subst (λ bs. log.HasNext keeper.log.ending keeper.log bs) holds.staged_is stands.0) in
      one_staged keeper.log.committed keeper.staged.items keeper.log next
      ∙ ap (λ cs. frame (layout_of keeper.log.version) (record { first = keeper.log.committed; commands = cs }) ++ 0 ∷ []) (sym (staged_next states honest n done keeper p w l f s))
      ∙ ap (λ c. frame (layout_of keeper.log.version) (record { first = c; commands = next_commands w l (length keeper.staged.items) }) ++ 0 ∷ []) (sym s.committed)
      ∙ ap (λ (x : Layout). frame x (next_batch w l (length keeper.staged.items)) ++ 0 ∷ []) (sym k.layout)

  -- no log follows
  alone : (ph : Phase) (call : Call) → keeper.log.phase ≡ ph → log.IsReady ph → keeper.log.ending ≡ None → call_in ph keeper.log ≡ Some call
      → (call ≡ log_call w l (committing ph m)) × (log_file keeper.log.generation ≡ log_number l (committing ph m))
  alone Idle call at ready goes due = absurd cc
  alone Header call at ready goes due = absurd ready
  alone HeaderWritten call at ready goes due = absurd ready
  alone Staged call at ready goes due = (
    some_is due ∙ ap (λ o. writes (keeper.log.gate + 1) (bytes_staged o keeper.log.frame)) goes ∙ ap (λ g. writes (g + 1) keeper.log.frame) (sym k.gate) ∙ ap (λ xs. writes (l.gate + 1) xs) (framed at goes),
    ap log_file (sym k.newest),
  )
  alone Written call at ready goes due = (some_is due, ap log_file (sym k.newest))
  alone Synced call at ready goes due = (some_is due ∙ ap (λ g. writes g (165 ∷ [])) (sym k.gate), ap log_file (sym k.newest))
  alone Opened call at ready goes due = (some_is due, ap log_file (sym k.newest))

  -- the newest log ends
  ends : (ph : Phase) (call : Call) → log.IsReady ph → keeper.log.ending ≡ Some (keeper.log.generation + 1) → call_in ph keeper.log ≡ Some call
      → (call ≡ log_call w l (Rotating (calls_left ph))) × (log_file keeper.log.generation ≡ log_number l (Rotating (calls_left ph)))
  ends Idle call ready goes due = absurd cc
  ends Header call ready goes due = absurd ready
  ends HeaderWritten call ready goes due = absurd ready
  ends Staged call ready goes due = (
    some_is due ∙ ap (λ o. writes (keeper.log.gate + 1) (bytes_staged o keeper.log.frame)) goes ∙ ap (λ g. writes (g + 1) (end_frame (keeper.log.generation + 1) ++ 0 ∷ [])) (sym k.gate)
        ∙ ap (λ g. writes (l.gate + 1) (end_frame (g + 1) ++ 0 ∷ [])) (sym k.newest),
    ap log_file (sym k.newest),
  )
  ends Written call ready goes due = (some_is due, ap log_file (sym k.newest))
  ends Synced call ready goes due = (some_is due ∙ ap (λ g. writes g (165 ∷ [])) (sym k.gate), ap log_file (sym k.newest))
  ends Opened call ready goes due = (some_is due, ap log_file (sym k.newest))

  -- one follows
  turns : (ph : Phase) (next : LogState) (call : Call) → next.phase ≡ ph → IsTurn ph keeper.log → log.IsReady keeper.log.phase
      → next ≡ record (begun (keeper.log.generation + 1) keeper.log.committed) { phase = next.phase; is_broken = next.is_broken }
      → call_in (due_in ph keeper.log next).phase (due_in ph keeper.log next) ≡ Some call
      → (call ≡ log_call w l (Rotating (calls_left (due_in ph keeper.log next).phase))) × (log_file (due_in ph keeper.log next).generation ≡ log_number l (Rotating (calls_left (due_in ph keeper.log next).phase)))
  turns Idle next call at turn ready is due = ends keeper.log.phase call ready turn.1 due
  turns Header next call at turn ready is due =
      let generation : next.generation ≡ l.newest + 1 = ap (λ (x : LogState). x.generation) is ∙ ap (λ g. g + 1) (sym k.newest) in
      let low : next.low ≡ l.committed = ap (λ (x : LogState). x.low) is ∙ sym s.committed in
      let version : next.version ≡ new_version = ap (λ (x : LogState). x.version) is in
      subst (λ ph. call_in ph next ≡ Some call → (call ≡ log_call w l (Rotating (calls_left ph))) × (log_file next.generation ≡ log_number l (Rotating (calls_left ph)))) (sym at)
      (λ due. (
        some_is due ∙ ap (λ (v : Version). writes 0 (header (layout_of v) next.generation next.low ++ 0 ∷ [])) version
            ∙ ap (λ g. writes 0 (header new_layout g next.low ++ 0 ∷ [])) generation ∙ ap (λ t. writes 0 (header new_layout (l.newest + 1) t ++ 0 ∷ [])) low,
        ap log_file generation,
      )) due
  turns HeaderWritten next call at turn ready is due =
      let generation : next.generation ≡ l.newest + 1 = ap (λ (x : LogState). x.generation) is ∙ ap (λ g. g + 1) (sym k.newest) in
      subst (λ ph. call_in ph next ≡ Some call → (call ≡ log_call w l (Rotating (calls_left ph))) × (log_file next.generation ≡ log_number l (Rotating (calls_left ph)))) (sym at)
      (λ due. (some_is due, ap log_file generation)) due
  turns Staged next call at turn ready is due = absurd turn
  turns Written next call at turn ready is due = absurd turn
  turns Synced next call at turn ready is due = absurd turn
  turns Opened next call at turn ready is due = absurd turn

  by_next : (next : Option LogState) (call : Call) → MayRotate next keeper.log keeper.staged.items → log.IsReady keeper.log.phase
      → call_in (due_by keeper.log next).phase (due_by keeper.log next) ≡ Some call
      → (call ≡ log_call w l (work_by keeper.log next m)) × (log_file (due_by keeper.log next).generation ≡ log_number l (work_by keeper.log next m))
  by_next None call may ready due = alone keeper.log.phase call refl ready may due
  by_next (Some next) call may ready due = turns next.phase next call refl may.turn ready may.is due

  -- the call that is due in the keeper's logs is the one that the world says
  pub log_due : (call : Call) → call_in (due_by keeper.log keeper.next).phase (due_by keeper.log keeper.next) ≡ Some call
      → (call ≡ log_call w l l.log) × (log_file (due_by keeper.log keeper.next).generation ≡ log_number l l.log)
  unfolding m
  log_due call due =
      subst (λ g. (call ≡ log_call w l g) × (log_file (due_by keeper.log keeper.next).generation ≡ log_number l g)) (sym k.log)
      (by_next keeper.next call f.rotation (f.stores.works works h).stands.kept.ready due)

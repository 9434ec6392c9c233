-- What is staged comes next in the history of the world.
use Rattle.std.proofs.Common.{◌≡◌, ℕ, ◌+◌, List, [], ◌∷◌, ◌++◌, length, None, false, sym, ◌∙◌, ap, subst, arith}
use Rattle.std.proofs.lemmas.List.{append_assoc, length-append, length-map}
use Rattle.map_types.specs.declared.commands.Command.{Command}
use Rattle.ticket_order.specs.declared.record.Record.{Record}
use Rattle.ticket_order.specs.declared.stripe.Entry.{Entry}
use Rattle.ticket_order.specs.Legality.{history_of}
use Rattle.disk_model.specs.Files.{File, Files, now}
use Rattle.log_records.specs.Layout.{Layout, layout_of}
use Rattle.store_layout.specs.Logs.{Batch, frame, log_file}
use Rattle.store_layout.specs.declared.log_phase.Phase.TheVariants.{Opened}
use Rattle.gate_log.specs.States.{batch_of, commands_of}
use Rattle.gate_log.specs.LogStates as log
use Rattle.store_invariant.specs.States.{newest_batches}
use Rattle.flusher.specs.declared.keeper.Keeper.{Keeper}
use Rattle.flusher.specs.Fitting.{Fits, batches_of, store_of}
use Rattle.flusher.proofs.FittingKeepers.{knows_by}
use Rattle.flusher.proofs.StoreSteps.{log_in}
use Rattle.sim_rules.specs.World.{World, Life, gate_after, next_batch, next_commands}
use Rattle.sim_keeper.specs.KeeperInWorld.{KeeperStands}
use Rattle.sim_keeper.proofs.Lists.{part_after}

module _ {D : Type 0} (states : D → List Files) (honest : D → Type 0) (n : ℕ) (done : List Command) (keeper : Keeper D) (p : Record) (w : World) (l : Life) (f : Fits states honest n done keeper p) (s : KeeperStands states keeper p w l) where
  pub staged_next : next_commands w l (length keeper.staged.items) ≡ commands_of keeper.staged.items
  staged_next =
      let staged : List Command = commands_of keeper.staged.items in
      let k = knows_by n keeper.sweeper.sweep keeper.sweeper.walking keeper.sweeper.in_hand (done ++ staged) p f.stands in
      let all = s.history.added ∙ ap (λ xs. xs ++ s.history.unseen) (k.front.1 ∙ append_assoc done staged k.front.0) ∙ append_assoc done (staged ++ k.front.0) s.history.unseen ∙ ap (λ xs. done ++ xs) (append_assoc staged k.front.0 s.history.unseen) in
      let place : l.first + length done ≡ l.committed = ap (λ n. n + length done) (sym s.history.first) ∙ f.counts.committed ∙ sym s.committed in
      let long : length keeper.staged.items ≡ length staged = sym (length-map keeper.staged.items (λ (e : Entry). e.command)) in
      ap (λ k. next_commands w l k) long ∙ part_after l.first l.committed w.history done staged (k.front.0 ++ s.history.unseen) all place

  framed : (batches : List Batch) (file : File) (es : List Entry) → log.HasNext None keeper.log (batches_of keeper.log.committed es) → length keeper.log.frame ≡ length (frame (layout_of keeper.log.version) (batch_of keeper.log.committed es)) + 1
  framed batches file [] has = absurd cc
  framed batches file (e ∷ es) has =
      let is : has.0 ≡ batch_of keeper.log.committed (e ∷ es) = sym (heads has.1) in
      ap (λ (xs : List ℕ). length xs) (has.2.frame ∙ ap (λ b. frame (layout_of keeper.log.version) b ++ 0 ∷ []) is) ∙ length-append (frame (layout_of keeper.log.version) (batch_of keeper.log.committed (e ∷ es))) (0 ∷ [])
    where
      heads : {A : Type 0} {x y : A} → (x ∷ []) ≡ (y ∷ []) → x ≡ y
      heads e = cc

  -- where the gate stands behind the staged batch
  pub staged_gate : honest keeper.disk → keeper.is_broken ≡ false → keeper.log.phase ≡ Opened → keeper.log.ending ≡ None → l.layout ≡ layout_of keeper.log.version → l.gate ≡ keeper.log.gate → gate_after w l (length keeper.staged.items) ≡ keeper.log.gate + length keeper.log.frame
  staged_gate h works opened goes lies gate =
      let holds = f.stores.works works h in
      let at = log_in (history_of p) (store_of keeper) holds.held (now (states keeper.disk)) holds.stands in
      let stands = subst (λ ph. log.AtPhase ph keeper.log (newest_batches holds.held.found.first holds.held.found.second) holds.held.staged (now (states keeper.disk) (log_file keeper.log.generation))) opened at.stands in
      let next : log.HasNext None keeper.log (batches_of keeper.log.committed keeper.staged.items) = subst (λ o. log.HasNext o keeper.log (batches_of keeper.log.committed keeper.staged.items)) goes
      (subst (λ bs. log.HasNext keeper.log.ending keeper.log bs) holds.staged_is stands.0) in
      let long = framed (newest_batches holds.held.found.first holds.held.found.second) (now (states keeper.disk) (log_file keeper.log.generation)) keeper.staged.items next in
      let own : Layout = layout_of keeper.log.version in
      let same : length (frame l.layout (next_batch w l (length keeper.staged.items))) ≡ length (frame own (batch_of keeper.log.committed keeper.staged.items)) =
      ap (λ (x : Layout). length (frame x (next_batch w l (length keeper.staged.items)))) lies
      ∙ ap (λ c. length (frame own (record { first = c; commands = next_commands w l (length keeper.staged.items) }))) s.committed
      ∙ ap (λ cs. length (frame own (record { first = keeper.log.committed; commands = cs }))) staged_next in
      omega (arith, same, long, gate)

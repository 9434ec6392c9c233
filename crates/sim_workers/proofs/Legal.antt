-- What is legal for a pass is legal in the whole history of the world.
use Rattle.std.proofs.Common.{ℕ, zero, suc, ◌≡◌, ◌+◌, ◌-◌, ◌<◌, ◌≤◌, List, [], ◌∷◌, ◌++◌, Some, length, take, refl, arith, sym, ◌∙◌, ap, subst, length-append}
use Rattle.std.specs.Prelude.{slice_get, slice_index_or}
use Rattle.std.specs.List.{Contains}
use Rattle.std.specs.FinMap as finite
use Rattle.std.proofs.Math.Seq.{take-append-add}
use Rattle.std.proofs.lemmas.List.{get_or-append-add}
use Rattle.std.proofs.lemmas.Option.{get_or_from_slice_get, slice_get_read, slice_get_within}
use Rattle.map_types.specs.declared.commands.Command.{Command}
use Rattle.map_types.specs.declared.commands.Reply.{Reply}
use Rattle.map_model.specs.Steps.{answer, fold_of, map_after, step}
use Rattle.map_model.specs.Histories.{fold_to}
use Rattle.map_model.proofs.FoldLaws.{map_after-append}
use Rattle.ticket_order.specs.declared.record.Asked.{Asked}
use Rattle.ticket_order.specs.declared.record.Asked.TheVariants.{Changing, Reading}
use Rattle.ticket_order.specs.declared.record.Call.{Call}
use Rattle.ticket_order.specs.declared.record.Opening.{Opening}
use Rattle.ticket_order.specs.declared.record.Record.{Record}
use Rattle.ticket_order.specs.Legality.{IsLegal, IsLegalCall, history_from, history_of}
use Rattle.ticket_order.specs.StepRules.{AllLegalCalls}
use Rattle.one_history.specs.declared.book.Book.{Book}
use Rattle.one_history.specs.Turns.{record_of}
use Rattle.one_history.specs.OneHistory.{Knows}
use Rattle.one_history.proofs.Legal.{legal_longer}
use Rattle.sim_rules.specs.World.{World, Life}
use Rattle.sim_rules.specs.Machine.{whole}
use Rattle.sim_workers.specs.WordsInWorld.{WordsStand}

-- one of the calls of a record
pub of_calls : (v : Record) (xs : List Call) (x : Call) → AllLegalCalls v xs → Contains xs x → IsLegalCall (history_of v) x
of_calls v [] x all has = absurd (omega (arith, has.1))
of_calls v (y ∷ ys) x all has = elim has.0 as (λ k. (k < length (y ∷ ys)) → (slice_index_or (y ∷ ys) k x ≡ x) → IsLegalCall (history_of v) x) [
  | zero ↦ λ lt is. subst (IsLegalCall (history_of v)) is all.0
  | suc k ↦ λ lt is. of_calls v ys x all.1 (k, omega (arith, lt), is)
] has.1 has.2

-- the commands before those of the history
module _ (o : Opening) (h before : List Command) (count : length before ≡ o.first) (map : o.map ≡ fold_of before) where
  same_fold : (q : ℕ) → o.first ≤ q → fold_to (whole (before ++ h)) q ≡ fold_to (history_from o h) q
  same_fold q l =
      let at : q - 0 ≡ length before + (q - o.first) = omega (arith, l, count) in
      ap (λ k. map_after finite.empty (take k (before ++ h))) at
      ∙ (ap (map_after finite.empty) (take-append-add before h (q - o.first))
      ∙ (map_after-append finite.empty before (take (q - o.first) h)
      ∙ ap (λ m. map_after m (take (q - o.first) h)) (sym map)))

  same_command : (t : ℕ) (c : Command) → o.first ≤ t → slice_get h (t - o.first) ≡ Some c → slice_get (before ++ h) (t - 0) ≡ Some c
  same_command t c l is =
      let within : t - o.first < length h = slice_get_within h (t - o.first) c is in
      let at : t - 0 ≡ length before + (t - o.first) = omega (arith, l, count) in
      slice_get_read (before ++ h) (length (before ++ h)) (t - 0) c refl (omega (arith, within, count, l, length-append before h))
      (sym (get_or_from_slice_get h (t - o.first) c c is) ∙ (sym (get_or-append-add before h (t - o.first) c) ∙ ap (λ k. slice_index_or (before ++ h) k c) (sym at)))

  legal_from : (position : ℕ) (asked : Asked) (reply : Reply) → IsLegal (history_from o h) position asked reply → IsLegal (whole (before ++ h)) position asked reply
  legal_from position (Changing c) reply l = record {
    ticket = l.ticket;
    position_is = l.position_is;
    from_first = omega arith;
    command = same_command l.ticket c l.from_first l.command;
    reply_is = l.reply_is ∙ ap (λ m. (step m c).reply) (sym (same_fold l.ticket l.from_first));
  }
  legal_from position (Reading r) reply l = record {
    from_first = omega arith;
    within = omega (arith, l.within, count, length-append before h);
    reply_is = l.reply_is ∙ ap (λ m. answer m r) (sym (same_fold position l.from_first));
  }

-- a call that a pass has made, in the history since the opening
pub legal_in_book : (b : Book) (w : World) (l : Life) (j : ℕ) (x : Call) → WordsStand b w l → j < length b.passes → Contains (record_of j b).calls x → IsLegalCall (history_from b.opening b.history) x
legal_in_book b w l j x words within has =
    let v : Record = record_of j b in
    let knows : Knows b.opening b.stripes b.history b.authors b.effects j v = words.one.passes j within in
    let own : IsLegalCall (history_of v) x = of_calls v v.calls x knows.calls has in
    let seen : IsLegal (history_from b.opening v.seen) x.position x.asked x.reply = subst (λ (o : Opening). IsLegal (history_from o v.seen) x.position x.asked x.reply) knows.opening own in
    let longer : IsLegal (history_from b.opening (v.seen ++ knows.front.rest)) x.position x.asked x.reply = legal_longer b.opening v.seen knows.front.rest x.position x.asked x.reply seen in
    subst (λ (h : List Command). IsLegal (history_from b.opening h) x.position x.asked x.reply) (sym knows.front.is) longer

-- and in the whole history of the world
pub legal_in_world : (b : Book) (w : World) (l : Life) (j : ℕ) (x : Call) → WordsStand b w l → j < length b.passes → Contains (record_of j b).calls x → IsLegalCall (whole w.history) x
legal_in_world b w l j x words within has =
    subst (λ (h : List Command). IsLegal (whole h) x.position x.asked x.reply) (sym words.history)
    (legal_from b.opening b.history words.before words.count words.map x.position x.asked x.reply (legal_in_book b w l j x words within has))

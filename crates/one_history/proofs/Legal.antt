-- What is legal in a history is legal in each longer one.
use Rattle.std.proofs.Common.{ℕ, ◌≡◌, ◌-◌, ◌<◌, ◌≤◌, ◌++◌, List, [], ◌∷◌, length, Some, None, slice_get, suc, zero, true, arith, sym, ◌∙◌, ap, length-append}
use Rattle.std.proofs.lemmas.Option.{slice_get_within}
use Rattle.map_types.specs.declared.commands.Command.{Command}
use Rattle.map_types.specs.declared.commands.Read.{Read}
use Rattle.map_types.specs.declared.commands.Reply.{Reply}
use Rattle.map_model.specs.Maps.{Map}
use Rattle.map_model.specs.Parts.{is_in_stripe}
use Rattle.map_model.specs.Steps.{step, answer}
use Rattle.map_model.specs.Histories.{History, fold_to, IsLegalRead}
use Rattle.map_model.proofs.MapLaws.{answer-part_of}
use Rattle.ticket_order.specs.declared.record.Opening.{Opening}
use Rattle.ticket_order.specs.declared.record.Asked.{Asked}
use Rattle.ticket_order.specs.declared.record.Asked.TheVariants.{Changing, Reading}
use Rattle.ticket_order.specs.declared.record.Call.{Call}
use Rattle.ticket_order.specs.declared.record.Section.{Section}
use Rattle.ticket_order.specs.declared.record.Record.{Record}
use Rattle.ticket_order.specs.Legality.{history_from, IsLegal, IsLegalSection}
use Rattle.ticket_order.specs.StepRules.{AllLegalCalls}
use Rattle.ticket_order.proofs.Longer.{fold_longer}

get_longer : (h more : List Command) (i : ℕ) (c : Command) → slice_get h i ≡ Some c → slice_get (h ++ more) i ≡ Some c
get_longer [] more i c e = let no : None ≡ Some c = e in cc
get_longer (x ∷ h) more zero c e = e
get_longer (x ∷ h) more (suc i) c e = get_longer h more i c e

pub legal_longer : (o : Opening) (h more : List Command) (position : ℕ) (asked : Asked) (reply : Reply) → IsLegal (history_from o h) position asked reply → IsLegal (history_from o (h ++ more)) position asked reply
legal_longer o h more position (Changing c) reply l =
    let within : l.ticket - o.first < length h = slice_get_within h (l.ticket - o.first) c l.command in
    record {
      ticket = l.ticket;
      position_is = l.position_is;
      from_first = l.from_first;
      command = get_longer h more (l.ticket - o.first) c l.command;
      reply_is = l.reply_is ∙ ap (λ (m : Map). (step m c).reply) (sym (fold_longer o h more l.ticket (let from : o.first ≤ l.ticket = l.from_first in omega arith)));
    }
legal_longer o h more position (Reading r) reply l = record {
  from_first = l.from_first;
  within = omega (arith, l.within, length-append h more);
  reply_is = l.reply_is ∙ ap (λ (m : Map). answer m r) (sym (fold_longer o h more position l.within));
}

-- all calls stay legal when the record sees more
pub calls_longer : (v w : Record) (more : List Command) → w.opening ≡ v.opening → w.seen ≡ v.seen ++ more → (xs : List Call) → AllLegalCalls v xs → AllLegalCalls w xs
calls_longer v w more o s [] l = tt
calls_longer v w more o s (x ∷ xs) l = (rw (o, s) (legal_longer v.opening v.seen more x.position x.asked x.reply l.0), calls_longer v w more o s xs l.1)

pub calls_both : (v : Record) (xs ys : List Call) → AllLegalCalls v xs → AllLegalCalls v ys → AllLegalCalls v (xs ++ ys)
calls_both v [] ys l k = k
calls_both v (x ∷ xs) ys l k = (l.0, calls_both v xs ys l.1 k)

-- a read of a key of the stripe is legal where the part was looked at
pub read_of_section : (n : ℕ) (h : History) (x : Section) (r : Read) → is_in_stripe n x.stripe r.key ≡ true → IsLegalSection n h x → IsLegalRead h x.mark r (answer x.part r)
read_of_section n h x r own l = record {
  from_first = l.from_first;
  within = l.within;
  reply_is = ap (λ (m : Map). answer m r) (sym l.part_is) ∙ answer-part_of n x.stripe (fold_to h x.mark) r own;
}

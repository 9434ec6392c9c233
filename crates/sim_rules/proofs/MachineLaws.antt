-- What was released stays legal.
use Rattle.std.proofs.Common.{◌≡◌, ◌≤◌, ◌<◌, ◌-◌, ℕ, List, [], ◌∷◌, ◌++◌, length, take, get_or, refl, sym, ap, ◌∙◌, arith}
use Rattle.std.specs.List.{AllByRecursion}
use Rattle.std.specs.FinMap as finite
use Rattle.std.proofs.lemmas.List.{get_or-take, length-append, length-take-le, take-append-le, take-take}
use Rattle.std.proofs.lemmas.Option.{get_or_from_slice_get, slice_get_read, slice_get_within}
use Rattle.map_types.specs.declared.commands.Command.{Command}
use Rattle.map_types.specs.declared.commands.Reply.{Reply}
use Rattle.map_model.specs.Histories.{fold_to}
use Rattle.map_model.specs.Steps.{answer, map_after, step}
use Rattle.ticket_order.specs.declared.record.Asked.{Asked}
use Rattle.ticket_order.specs.declared.record.Asked.TheVariants.{Changing, Reading}
use Rattle.ticket_order.specs.declared.record.Call.{Call}
use Rattle.ticket_order.specs.Legality.{IsLegal, IsLegalCall}
use Rattle.sim_rules.specs.Machine.{Machine, Move, Calls, Releases, Stops, Opens, AreReleasedTo, IsAllowed, begun, machine_after, moved, whole}
use Rattle.sim_rules.specs.Laws.{ReleasedStayLegal}

-- a legal call stands within the history
pub legal_within : (h : List Command) (q : ℕ) (asked : Asked) (reply : Reply) → IsLegal (whole h) q asked reply → q ≤ length h
legal_within h q (Changing c) reply legal = omega (arith, legal.position_is, slice_get_within h (legal.ticket - 0) c legal.command)
legal_within h q (Reading r) reply legal = omega (arith, legal.within)

-- two histories with the same first n commands
module _ (h k : List Command) (n : ℕ) (same : take n h ≡ take n k) (long : n ≤ length k) where
  same_front : (t : ℕ) → t ≤ n → take t h ≡ take t k
  same_front t l = sym (take-take t n h l) ∙ (ap (take t) same ∙ take-take t n k l)

  same_fold : (t : ℕ) → t ≤ n → fold_to (whole h) t ≡ fold_to (whole k) t
  same_fold t l = ap (map_after finite.empty) (same_front (t - 0) (omega (arith, l)))

  -- what is legal among these commands in one is legal in the other
  pub legal_same : (q : ℕ) (asked : Asked) (reply : Reply) → q ≤ n → IsLegal (whole h) q asked reply → IsLegal (whole k) q asked reply
  legal_same q (Changing c) reply l legal =
      let below : legal.ticket - 0 < n = omega (arith, legal.position_is, l) in
      record {
        ticket = legal.ticket;
        position_is = legal.position_is;
        from_first = legal.from_first;
        command = slice_get_read k (length k) (legal.ticket - 0) c refl (omega (arith, below, long))
            (sym (get_or_from_slice_get h (legal.ticket - 0) c c legal.command)
            ∙ (sym (get_or-take n h (legal.ticket - 0) c below)
            ∙ (ap (λ (x : List Command). get_or x (legal.ticket - 0) c) same ∙ get_or-take n k (legal.ticket - 0) c below)));
        reply_is = legal.reply_is ∙ ap (λ m. (step m c).reply) (same_fold legal.ticket (omega (arith, below)));
      }
  legal_same q (Reading r) reply l legal = record {
    from_first = legal.from_first;
    within = omega (arith, l, long);
    reply_is = legal.reply_is ∙ ap (λ m. answer m r) (same_fold q l);
  }

legal_longer : (h : List Command) (c : Command) (call : Call) → IsLegalCall (whole h) call → IsLegalCall (whole (h ++ c ∷ [])) call
legal_longer h c call legal =
    legal_same h (h ++ c ∷ []) (length h) (sym (take-append-le (length h) h (c ∷ []) (omega arith))) (omega (arith, length-append h (c ∷ []))) call.position call.asked call.reply
    (legal_within h call.position call.asked call.reply legal) legal

legal_shorter : (h : List Command) (p : ℕ) (call : Call) → p ≤ length h → call.position ≤ p → IsLegalCall (whole h) call → IsLegalCall (whole (take p h)) call
legal_shorter h p call l within legal =
    legal_same h (take p h) p (sym (take-take p p h (omega arith))) (omega (arith, length-take-le p h l)) call.position call.asked call.reply within legal

all_longer : (h : List Command) (c : Command) (calls : List Call) → AllByRecursion (IsLegalCall (whole h)) calls → AllByRecursion (IsLegalCall (whole (h ++ c ∷ []))) calls
all_longer h c [] all = tt
all_longer h c (call ∷ calls) all = (legal_longer h c call all.0, all_longer h c calls all.1)

all_shorter : (h : List Command) (p : ℕ) (calls : List Call) → p ≤ length h → AreReleasedTo p calls → AllByRecursion (IsLegalCall (whole h)) calls
    → AllByRecursion (IsLegalCall (whole (take p h))) calls
all_shorter h p [] l within all = tt
all_shorter h p (call ∷ calls) l within all = (legal_shorter h p call l within.0 all.0, all_shorter h p calls l within.1 all.1)

-- after one move more
legal_moved : (m : Machine) (move : Move) → IsAllowed m move → AllByRecursion (IsLegalCall (whole m.history)) m.released
    → AllByRecursion (IsLegalCall (whole (moved m move).history)) (moved m move).released
legal_moved m (Calls c) allowed all = all_longer m.history c m.released all
legal_moved m (Releases call) allowed all = (allowed, all)
legal_moved m (Stops p) allowed all = all_shorter m.history p m.released allowed.within allowed.released all
legal_moved m (Opens p map) allowed all = all

pub released_stay_legal : ReleasedStayLegal
unfolding begun
released_stay_legal [] allowed = tt
released_stay_legal (move ∷ moves) allowed = legal_moved (machine_after moves) move allowed.0 (released_stay_legal moves allowed.1)

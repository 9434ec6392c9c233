-- A history that is known from its opening on is a front of the whole list.
use Rattle.std.proofs.Common.{◌≡◌, ◌≤◌, ◌<◌, ◌+◌, ◌-◌, ℕ, List, [], ◌∷◌, ◌++◌, length, take, get_or, Some, refl, sym, ap, ◌∙◌, subst, arith}
use Rattle.std.specs.FinMap as finite
use Rattle.std.specs.Prelude.{slice_get}
use Rattle.std.proofs.lemmas.List.{get_or-append-add, get_or_append_left, length-append, take-append-le}
use Rattle.std.proofs.lemmas.Option.{get_or_from_slice_get, slice_get_read, slice_get_within}
use Rattle.std.proofs.Math.Seq.{take-append-add}
use Rattle.map_types.specs.declared.commands.Command.{Command}
use Rattle.map_types.specs.declared.commands.Reply.{Reply}
use Rattle.map_model.specs.Histories.{History, fold_to}
use Rattle.map_model.specs.Maps.{Map}
use Rattle.map_model.specs.Steps.{answer, fold_of, map_after, step}
use Rattle.ticket_order.specs.declared.record.Asked.{Asked}
use Rattle.ticket_order.specs.declared.record.Asked.TheVariants.{Changing, Reading}
use Rattle.ticket_order.specs.Legality.{IsLegal}
use Rattle.store_layout.specs.Opening.{StandsFor}
use Rattle.store_layout.specs.SectionsAndLog.{reach}
use Rattle.sim_rules.specs.Laws.{KnownFolds, KnownIsLegal, KnownStands}
use Rattle.sim_rules.specs.Machine.{whole}
use Rattle.sim_rules.specs.Sound.{IsKnownOf}

map_after_both : (m : Map) (a b : List Command) → map_after m (a ++ b) ≡ map_after (map_after m a) b
map_after_both m [] b = refl
map_after_both m (c ∷ a) b = map_after_both (step m c).map a b

module _ (h : History) (history : List Command) (known : IsKnownOf h history) where
  -- the first q commands
  front_taken : (q k : ℕ) → q ≡ length known.front + k → k ≤ length h.commands → take q history ≡ known.front ++ take k h.commands
  front_taken q k is l =
      ap (λ (n : ℕ). take n history) is
      ∙ (ap (λ (x : List Command). take (length known.front + k) x) known.history_is
      ∙ (take-append-add known.front (h.commands ++ known.more) k
      ∙ ap (λ (x : List Command). known.front ++ x) (take-append-le k h.commands known.more l)))

  pub known_fold : (q : ℕ) → h.first ≤ q → q ≤ reach h → fold_to h q ≡ fold_of (take q history)
  known_fold q low high =
      let k : ℕ = q - h.first in
      ap (λ (m : Map). map_after m (take k h.commands)) known.opening
      ∙ (sym (map_after_both finite.empty known.front (take k h.commands))
      ∙ ap fold_of (sym (front_taken q k (omega (arith, low, known.first)) (omega (arith, high)))))

  known_length : reach h ≤ length history
  known_length = subst (λ (x : List Command). reach h ≤ length x) (sym known.history_is)
      (omega (arith, known.first, length-append known.front (h.commands ++ known.more), length-append h.commands known.more))

  -- the command with a ticket that is known by itself
  known_command : (ticket : ℕ) (c : Command) → h.first ≤ ticket → slice_get h.commands (ticket - h.first) ≡ Some c → slice_get history (ticket - 0) ≡ Some c
  known_command ticket c low is =
      let k : ℕ = ticket - h.first in
      let inside : k < length h.commands = slice_get_within h.commands k c is in
      slice_get_read history (length history) (ticket - 0) c refl (omega (arith, inside, low, known_length))
      (sym (ap (λ (x : List Command). get_or x (ticket - 0) c) known.history_is
      ∙ (ap (λ (n : ℕ). get_or (known.front ++ (h.commands ++ known.more)) n c) (let place : ticket - 0 ≡ length known.front + k = omega (arith, low, known.first) in place)
      ∙ (get_or-append-add known.front (h.commands ++ known.more) k c
      ∙ (get_or_append_left h.commands known.more c k inside
      ∙ get_or_from_slice_get h.commands k c c is)))))

  -- the map of the whole list, by its own definition
  whole_fold : (q : ℕ) → h.first ≤ q → q ≤ reach h → fold_to h q ≡ fold_to (whole history) q
  whole_fold q low high = known_fold q low high ∙ ap (λ (n : ℕ). fold_of (take n history)) (let same : q ≡ q - 0 = omega arith in same)

  legal_known : (q : ℕ) (asked : Asked) (reply : Reply) → IsLegal h q asked reply → IsLegal (whole history) q asked reply
  legal_known q (Changing c) reply legal =
      let inside : legal.ticket - h.first < length h.commands = slice_get_within h.commands (legal.ticket - h.first) c legal.command in
      record {
        ticket = legal.ticket;
        position_is = legal.position_is;
        from_first = omega arith;
        command = known_command legal.ticket c legal.from_first legal.command;
        reply_is = legal.reply_is ∙ ap (λ (m : Map). (step m c).reply) (whole_fold legal.ticket legal.from_first (omega (arith, inside, legal.from_first)));
      }
  legal_known q (Reading r) reply legal = record {
    from_first = omega arith;
    within = omega (arith, legal.within, known_length);
    reply_is = legal.reply_is ∙ ap (λ (m : Map). answer m r) (whole_fold q legal.from_first legal.within);
  }

pub known_folds : KnownFolds
known_folds h history known q low high = known_fold h history known q low high

pub known_is_legal : KnownIsLegal
known_is_legal h history known call legal = legal_known h history known call.position call.asked call.reply legal

pub known_stands : KnownStands
known_stands h history known least most contents front = record {
  count = front.count;
  stands = subst (λ (m : Map). StandsFor contents front.count m) (whole_fold h history known front.count front.from_first front.within) front.stands;
  from_first = omega arith;
  within = omega (arith, front.within, known_length h history known);
  from_least = front.from_least;
  to_most = front.to_most;
}

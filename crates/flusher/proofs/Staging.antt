-- A run that is staged, or put back.
use Rattle.std.proofs.Common.{◌≡◌, inl, inr, ℕ, ◌+◌, ◌-◌, ◌<◌, ◌≤◌, List, [], ◌∷◌, ◌++◌, length, get_or, drop, map, replicate, Option, Some, None, refl, sym, ◌∙◌, ap, subst, arith}
use Rattle.std.specs.List.{Contains}
use Rattle.std.proofs.lemmas.Bool.{cases_lt}
use Rattle.std.proofs.lemmas.List.{length-append, length-map, length-replicate, get_or_append_left, get_or-append_right, get_or-replicate, get_or-drop, get_or-map}
use Rattle.map_types.specs.declared.commands.Command.{Command}
use Rattle.ticket_order.specs.declared.stripe.Entry.{Entry}
use Rattle.ticket_order.specs.Records.{entry}
use Rattle.ticket_order.specs.Legality.{entries_from}
use Rattle.gate_log.specs.States.{AreFrom, commands_of}
use Rattle.store_layout.specs.Hands.{Hand, Holds, IsRun}
use Rattle.flusher.specs.HandSteps.{Gains, SameEntries}
use Rattle.flusher.specs.Gathering.{Accounts}
use Rattle.ticket_order.proofs.Entries.{found, there_is, same_command, grown, shrunk}
use Rattle.flusher.proofs.Runs.{none_is_some}

pub from_there : (t : ℕ) (xs : List Command) → AreFrom t (entries_from t xs)
from_there t [] = tt
from_there t (x ∷ xs) = (refl, from_there (t + 1) xs)

pub commands_there : (t : ℕ) (xs : List Command) → commands_of (entries_from t xs) ≡ xs
commands_there t [] = refl
commands_there t (x ∷ xs) = ap (λ z. x ∷ z) (commands_there (t + 1) xs)

low_place : (slots : List (Option Command)) (n k : ℕ) → k < n → get_or (replicate {A = Option Command} n None ++ drop n slots) k None ≡ None
low_place slots n k low = get_or_append_left (replicate {A = Option Command} n None) (drop n slots) None k (subst (λ z. k < z) (sym (length-replicate {A = Option Command} n None)) low) ∙ get_or-replicate n k None None low

high_place : (slots : List (Option Command)) (n k : ℕ) → n ≤ k → get_or (replicate {A = Option Command} n None ++ drop n slots) k None ≡ get_or slots k None
high_place slots n k high = get_or-append_right (replicate {A = Option Command} n None) (drop n slots) n k None (length-replicate {A = Option Command} n None) high ∙ get_or-drop n slots (k - n) None ∙ ap (λ z. get_or slots z None) (omega arith)

some_same : (c d : Command) → Some c ≡ Some d → c ≡ d
some_same c d e = cc

in_slots : (hand : Hand) (commands : List Command) → IsRun hand commands → (k : ℕ) (d : Command) → k < length commands → get_or hand.slots k None ≡ Some (get_or commands k d)
in_slots hand commands run k d within =
    ap (λ z. get_or z k None) run.1 ∙ get_or_append_left (map Some commands) run.0 None k (omega (arith, length-map commands Some)) ∙ get_or-map Some commands k d None within

pub put_back_run : (hand new : Hand) (commands : List Command) → IsRun hand commands → Gains (record hand { slots = replicate (length commands) None ++ drop (length commands) hand.slots }) (entries_from hand.next commands) new → SameEntries hand new
put_back_run hand new commands run g =
    let n = length commands in
    let mid : Hand = record hand { slots = replicate n None ++ drop n hand.slots } in
    let batch = entries_from hand.next commands in
    let long : n ≤ length mid.slots = omega (arith, length-append (replicate {A = Option Command} n None) (drop n hand.slots), length-replicate {A = Option Command} n None) in
    let in_batch : (t : ℕ) (c : Command) → Holds hand t c → t < hand.next + n → Contains batch (entry t c) =
    λ t c k low. (
    let place : t - hand.next < n = omega (arith, k.reached) in
    let is : get_or commands (t - hand.next) c ≡ c = some_same _ _ (sym (in_slots hand commands run (t - hand.next) c place) ∙ k.there) in
    there_is hand.next commands (entry t c) (record { low = k.reached; high = low; there = is })
    ) in
    let not_mid : (t : ℕ) (c : Command) → Holds mid t c → t < hand.next + n → ⊥ = λ t c k low. none_is_some c (sym (low_place hand.slots n (t - hand.next) (omega (arith, k.reached))) ∙ k.there) in
    record {
      next = g.next;
      kept = λ t c k. elim (cases_lt t (hand.next + n)) [
        | inl low ↦ (
            let has = in_batch t c k low in
            let h = g.all (entry t c) has (k.reached, omega (arith, long, low)) in
            elim (g.only t h.0 h.1) [
              | inl before ↦ absurd (not_mid t h.0 before low)
              | inr also ↦ subst (λ x. Holds new t x) (same_command hand.next commands (entry t h.0) (entry t c) also has refl) h.1
            ]
            )
        | inr high ↦ (
            let h = g.kept t c (record { reached = k.reached; there = high_place hand.slots n (t - hand.next) (omega arith) ∙ k.there }) in
            elim (g.only t h.0 h.1) [
              | inl before ↦ subst (λ x. Holds new t x) (some_same h.0 c (sym before.there ∙ high_place hand.slots n (t - hand.next) (omega arith) ∙ k.there)) h.1
              | inr also ↦ (let x = found hand.next commands (entry t h.0) also in absurd (omega (arith, x.high, high)))
            ]
            )
      ];
      only = λ t c k. elim (g.only t c k) [
        | inl before ↦ elim (cases_lt t (hand.next + n)) [
          | inl low ↦ absurd (not_mid t c before low)
          | inr high ↦ record { reached = before.reached; there = sym (high_place hand.slots n (t - hand.next) (omega arith)) ∙ before.there }
        ]
        | inr also ↦ (let x = found hand.next commands (entry t c) also in record { reached = x.low; there = in_slots hand commands run (t - hand.next) c (omega (arith, x.low, x.high)) ∙ ap Some x.there })
      ];
    }

pub same_entries : (hand : Hand) → SameEntries hand hand
same_entries hand = record { next = refl; kept = λ t c k. k; only = λ t c k. k }

-- ---- what is gone, once a run is staged, and once it is committed

pub accounts_staged : (hand : Hand) (gone commands : List Command) (first : ℕ) (taken : List Entry) (seen : List Command) → Accounts hand gone first taken seen → first + length gone ≡ hand.next → IsRun hand commands
    → Accounts (record hand { slots = replicate (length commands) None ++ drop (length commands) hand.slots }) (gone ++ commands) first taken seen
accounts_staged hand gone commands first taken seen a at run =
    let n = length commands in
    let both : length (gone ++ commands) ≡ length gone + n = length-append gone commands in
    record {
      low = a.low;
      reached = omega (arith, a.reached, both);
      each = λ e has. elim (a.each e has) [
        | inl before ↦ inl (grown first gone commands e before)
        | inr h ↦ elim (cases_lt e.ticket (hand.next + n)) [
          | inl low ↦ inl (there_is first (gone ++ commands) e (record {
            low = omega (arith, a.low, h.reached);
            high = omega (arith, both, at, low);
            there = get_or-append_right gone commands (length gone) (e.ticket - first) e.command refl (omega (arith, at, h.reached)) ∙ ap (λ k. get_or commands k e.command) (omega (arith, at, h.reached))
                ∙ some_same _ _ (sym (in_slots hand commands run (e.ticket - hand.next) e.command (omega (arith, low, h.reached))) ∙ h.there);
          }))
          | inr high ↦ inr (record { reached = h.reached; there = high_place hand.slots n (e.ticket - hand.next) (omega (arith, high)) ∙ h.there })
        ]
      ];
      was_taken = λ e has. elim (cases_lt e.ticket (first + length gone)) [
        | inl low ↦ a.was_taken e (shrunk first gone commands e has low)
        | inr high ↦ (
            let x = found first (gone ++ commands) e has in
            let there : get_or commands (e.ticket - hand.next) e.command ≡ e.command =
            ap (λ k. get_or commands k e.command) (omega (arith, at, high)) ∙ sym (get_or-append_right gone commands (length gone) (e.ticket - first) e.command refl (omega (arith, high))) ∙ x.there in
            a.held e.ticket e.command (record { reached = omega (arith, at, high); there = in_slots hand commands run (e.ticket - hand.next) e.command (omega (arith, at, high, x.high, both)) ∙ ap Some there })
            )
      ];
      held = λ t c k. elim (cases_lt t (hand.next + n)) [
        | inl low ↦ absurd (none_is_some c (sym (low_place hand.slots n (t - hand.next) (omega (arith, low, k.reached))) ∙ k.there))
        | inr high ↦ a.held t c (record { reached = k.reached; there = sym (high_place hand.slots n (t - hand.next) (omega (arith, high))) ∙ k.there })
      ];
      known = a.known;
    }

-- a run in hand was taken
pub taken_in_hand : (hand : Hand) (gone commands : List Command) (first : ℕ) (taken : List Entry) (seen : List Command) → Accounts hand gone first taken seen → IsRun hand commands → (e : Entry) → Contains (entries_from hand.next commands) e → Contains taken e
taken_in_hand hand gone commands first taken seen a run e has =
    let x = found hand.next commands e has in
    a.held e.ticket e.command (record { reached = x.low; there = in_slots hand commands run (e.ticket - hand.next) e.command (omega (arith, x.low, x.high)) ∙ ap Some x.there })

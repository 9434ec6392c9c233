-- The words and the slots at the start.
use Rattle.std.proofs.Common.{ℕ, ◌≡◌, ◌+◌, ◌*◌, ◌<◌, List, [], ◌∷◌, false, Option, Some, None, length, get_or, set, map, replicate, zero, suc, refl, arith, sym, ◌∙◌, ap, subst, length-set}
use Rattle.std.proofs.lemmas.List.{get_or-set_same, get_or-set_other, get_or-replicate, length-replicate, length-map}
use Rattle.std.proofs.lemmas.List.Elements.{All-nil}
use mathlib.Core.Option.{some, some-injective, some-ne-none}
use lib.ListN.{get_elem?}
use Rattle.atomic_table.specs.Table.{opening}
use Rattle.atomic_methods.specs.PartState.{PartState}
use Rattle.ticket_order.specs.declared.stripe.Stripe.{Stripe}
use Rattle.ticket_order.specs.declared.record.Opening.{Opening}
use Rattle.ticket_order.specs.Records.{newcomer}
use Rattle.one_history.specs.declared.slot.Slot.{Slot}
use Rattle.one_history.specs.declared.slot.Slot.TheVariants.{Home, HeldBy}
use Rattle.one_history.specs.Turns.{opening_of, at_start}
use Rattle.one_history.specs.OneHistory.{AreParts}
use Rattle.one_history.specs.SharedWords.{slot_of, IsPlaced, IsKept, no_part}
use Rattle.one_history.proofs.Starts.{kept_at_start, count_at_start}
use Rattle.stripe_locks.specs.declared.view.SeatView.{SeatView}
use Rattle.stripe_locks.specs.Rule.{Stands, Sits, Kept}
use Rattle.stripe_locks.specs.Plays.{stepless}
use Rattle.stripe_locks.specs.Placed.{slot_with, AreStored}

at_home : (xs : List (Option Stripe)) (i : ℕ) (content : Stripe) → i < length xs → slot_of i (map slot_with xs) ≡ Home content → get_elem? (map some xs) i ≡ some (some (Some content))
at_home [] i content lt e = absurd (omega arith)
at_home (Some x ∷ xs) zero content lt e = let same : x ≡ content = (let f : Home x ≡ Home content = e in cc) in ap (λ y. some (some (Some y))) same
at_home (None ∷ xs) zero content lt e = absurd (let f : HeldBy 0 ≡ Home content = e in cc)
at_home (x ∷ xs) (suc i) content lt e = at_home xs i content (omega arith) e

stands_first : (words : List ℕ) (xs : List (Option Stripe)) (i first : ℕ) (p : PartState) (slot : Slot) → i < length xs → get_or words (i * 8 + 32) 0 ≡ 0 → slot_of i (map slot_with xs) ≡ slot → IsPlaced first p slot → Stands words (map some xs) i slot
stands_first words xs i first p (Home content) lt zero_there e here = (zero_there, at_home xs i content lt e)
stands_first words xs i first p (HeldBy j) lt zero_there e here = absurd here

alone : (P : ℕ → SeatView → Type 0) (v : SeatView) → P 0 v → (l : ℕ) (u : SeatView) → get_elem? (v ∷ []) l ≡ some u → P l u
alone P v here zero u e = subst (P 0) (some-injective v u e) here
alone P v here (suc l) u e = absurd (some-ne-none u (sym e))

pub opens : (n first limit : ℕ) (parts : List PartState) (ws : List ℕ) (xs : List (Option Stripe)) → length parts ≡ n → AreParts n parts → AreStored first parts xs → ws ≡ set (set (replicate (n * 8 + 32) 0) 0 first) 8 first → Kept (opening_of first parts limit) (opening ws xs (stepless (newcomer (opening_of first parts limit))))
opens n first limit parts ws xs count are stored is =
    let o : Opening = opening_of first parts limit in
    let blank : List ℕ = replicate (n * 8 + 32) 0 in
    let blank_long : length blank ≡ n * 8 + 32 = length-replicate {A = ℕ} (n * 8 + 32) 0 in
    let long : length ws ≡ n * 8 + 32 = ap length is ∙ (length-set (set blank 0 first) 8 first ∙ (length-set blank 0 first ∙ blank_long)) in
    let wide : length (map some xs) ≡ n = length-map xs some ∙ (sym (length-map xs slot_with) ∙ (stored.count ∙ count)) in
    let size : length xs ≡ n = sym (length-map xs some) ∙ wide in
    let word : (i : ℕ) → 8 < i → i < n * 8 + 32 → get_or ws i 0 ≡ 0 = λ i big lt. ap (λ (w : List ℕ). get_or w i 0) is ∙ (get_or-set_other (set blank 0 first) 8 i first 0 (λ e. omega arith) ∙ (get_or-set_other blank 0 i first 0 (λ e. omega arith) ∙ get_or-replicate (n * 8 + 32) i 0 0 lt)) in
    let tickets : get_or ws 0 0 ≡ first = ap (λ (w : List ℕ). get_or w 0 0) is ∙ (get_or-set_other (set blank 0 first) 8 0 first 0 (λ e. omega arith) ∙ get_or-set_same blank 0 first 0 (omega (arith, blank_long))) in
    let durable : get_or ws 8 0 ≡ first = ap (λ (w : List ℕ). get_or w 8 0) is ∙ get_or-set_same (set blank 0 first) 8 first 0 (omega (arith, length-set blank 0 first, blank_long)) in
    let three : get_or ws 24 0 ≡ 0 = word 24 (omega arith) (omega arith) in
    let law : IsKept n first first false (map slot_with xs) (at_start first parts limit 0) = kept_at_start n first limit 0 parts (map slot_with xs) count are stored (omega arith) in
    record {
      book = at_start first parts limit 0;
      slots = map slot_with xs;
      seats = λ place. 0;
      opening = refl;
      wide = omega arith;
      kept = rw (wide, tickets, durable) law;
      failure = word 16 (omega arith) (omega arith);
      few = omega arith;
      joined = (let one : length (at_start first parts limit 0).passes ≡ 0 + 1 = count_at_start o (length parts) 0 in omega arith);
      keeper = refl;
      unjoined = λ e. refl;
      each_stripe = λ i lt. stands_first ws xs i first (get_or parts i no_part) (slot_of i (map slot_with xs)) (omega arith) (word (i * 8 + 32) (omega arith) (omega arith)) refl (stored.each i (omega arith));
      each_seat = alone (λ l u. Sits (λ place. 0) (at_start first parts limit 0) (get_or ws 24 0) l u u.pass.enrolled) (stepless (newcomer o)) (record { few = omega arith; front = record { rest = []; is = refl }; other_front = record { rest = []; is = refl }; borne_out = All-nil _; goes_on = record { later = []; is = refl }; listed = All-nil _ });
      each_pass = λ j lt. absurd (omega (arith, three));
    }

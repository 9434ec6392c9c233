-- The calls of a pass, when one is added.
use Rattle.std.proofs.Common.{ℕ, ◌≡◌, ◌≢◌, ◌+◌, ◌<◌, ◌++◌, ◌==◌, List, [], ◌∷◌, true, false, length, suc, refl, arith, ap}
use Rattle.std.specs.Prelude.{if◌then◌else◌}
use Rattle.std.specs.List.{All}
use Rattle.std.proofs.lemmas.List.Elements.{All-head, All-tail, All-push}
use Rattle.std.proofs.lemmas.Bool.Decides.{nat_tests}
use Rattle.map_types.specs.declared.commands.Command.{Command}
use Rattle.map_types.specs.declared.commands.Read.{Read}
use Rattle.map_types.specs.declared.commands.Reply.{Reply}
use Rattle.ticket_order.specs.declared.record.Asked.TheVariants.{Changing, Reading}
use Rattle.ticket_order.specs.declared.record.Call.{Call}
use Rattle.ticket_order.specs.Records.{call}
use Rattle.one_history.specs.OneHistory.{changes_by, changes_in, if_change, Follows, StandsAfter, AreInOrder}

pub order_push : (xs : List Call) (y : Call) → AreInOrder xs → All (λ (x : Call). Follows x.position y.asked y.position) xs → AreInOrder (xs ++ y ∷ [])
order_push [] y o a = (λ k d l. absurd (let none : k < 0 = l in omega arith), tt)
order_push (x ∷ xs) y o a = (All-push (StandsAfter x.position) xs y o.0 (All-head (λ (z : Call). Follows z.position y.asked y.position) x xs a), order_push xs y o.1 (All-tail (λ (z : Call). Follows z.position y.asked y.position) x xs a))

pub push_change : (xs : List Call) (position : ℕ) (c : Command) (reply : Reply) → changes_in (xs ++ call position (Changing c) reply ∷ []) ≡ changes_in xs ++ (position, c) ∷ []
unfolding changes_in
push_change [] position c reply = refl
push_change (x ∷ xs) position c reply =
    elim x.asked as (λ a. if_change a x.position (changes_in (xs ++ call position (Changing c) reply ∷ [])) ≡ if_change a x.position (changes_in xs) ++ (position, c) ∷ []) [
      | Changing d ↦ ap (λ w. (x.position, d) ∷ w) (push_change xs position c reply)
      | Reading r ↦ push_change xs position c reply
    ]

pub push_read : (xs : List Call) (position : ℕ) (r : Read) (reply : Reply) → changes_in (xs ++ call position (Reading r) reply ∷ []) ≡ changes_in xs
unfolding changes_in
push_read [] position r reply = refl
push_read (x ∷ xs) position r reply =
    elim x.asked as (λ a. if_change a x.position (changes_in (xs ++ call position (Reading r) reply ∷ [])) ≡ if_change a x.position (changes_in xs)) [
      | Changing d ↦ ap (λ w. (x.position, d) ∷ w) (push_read xs position r reply)
      | Reading s ↦ push_read xs position r reply
    ]

pub own_more : (j q : ℕ) (authors : List ℕ) (h : List Command) (c : Command) → length authors ≡ length h → changes_by j q (authors ++ j ∷ []) (h ++ c ∷ []) ≡ changes_by j q authors h ++ (q + length h, c) ∷ []
unfolding changes_by
own_more j q [] [] c e = grind (arith, nat_tests)
own_more j q [] (d ∷ h) c e = absurd (omega arith)
own_more j q (a ∷ authors) [] c e = absurd (omega arith)
own_more j q (a ∷ authors) (d ∷ h) c e =
    let ih : changes_by j (q + 1) (authors ++ j ∷ []) (h ++ c ∷ []) ≡ changes_by j (q + 1) authors h ++ (q + 1 + length h, c) ∷ [] = own_more j (q + 1) authors h c (omega arith) in
    let n : q + 1 + length h ≡ q + suc (length h) = omega arith in
    elim (a == j) as (λ b. (if b then (q, d) ∷ changes_by j (q + 1) (authors ++ j ∷ []) (h ++ c ∷ []) else changes_by j (q + 1) (authors ++ j ∷ []) (h ++ c ∷ [])) ≡ (if b then (q, d) ∷ changes_by j (q + 1) authors h else changes_by j (q + 1) authors h) ++ (q + suc (length h), c) ∷ []) [
      | true ↦ rw (ih, n)
      | false ↦ rw (ih, n)
    ]

pub other_more : (l j q : ℕ) (authors : List ℕ) (h : List Command) (c : Command) → j ≢ l → length authors ≡ length h → changes_by l q (authors ++ j ∷ []) (h ++ c ∷ []) ≡ changes_by l q authors h
unfolding changes_by
other_more l j q [] [] c ne e = grind (arith, nat_tests)
other_more l j q [] (d ∷ h) c ne e = absurd (omega arith)
other_more l j q (a ∷ authors) [] c ne e = absurd (omega arith)
other_more l j q (a ∷ authors) (d ∷ h) c ne e =
    let ih : changes_by l (q + 1) (authors ++ j ∷ []) (h ++ c ∷ []) ≡ changes_by l (q + 1) authors h = other_more l j (q + 1) authors h c ne (omega arith) in
    elim (a == l) as (λ b. (if b then (q, d) ∷ changes_by l (q + 1) (authors ++ j ∷ []) (h ++ c ∷ []) else changes_by l (q + 1) (authors ++ j ∷ []) (h ++ c ∷ [])) ≡ (if b then (q, d) ∷ changes_by l (q + 1) authors h else changes_by l (q + 1) authors h)) [
      | true ↦ rw ih
      | false ↦ ih
    ]

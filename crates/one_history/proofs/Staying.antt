-- What a step found of the durable count, of the failure word and of a stripe's holder stays so.
use Rattle.std.proofs.Common.{ℕ, ◌≡◌, ◌≤◌, List, [], ◌∷◌, true, Option, Some, None, refl, arith, sym, ◌∙◌, ap, subst, inl, inr}
use Rattle.std.specs.Prelude.{if◌then◌else◌}
use Rattle.std.specs.List.{All, Contains}
use Rattle.std.proofs.lemmas.List.Elements.{All-nil, All-cons, All-head, All-tail, All-contains_itself}
use Rattle.std.proofs.lemmas.Bool.{cases_eq, eq-eqb, ne_eqb, not-false}
use Rattle.std.proofs.Math.Nat.{le-max_left}
use Rattle.ticket_order.specs.declared.stripe.Entry.{Entry}
use Rattle.ticket_order.specs.declared.record.StepMade.{StepMade}
use Rattle.ticket_order.specs.declared.record.StepMade.TheVariants.{Took, FoundHeld, Gave, Drew, Looked, Published, Saw, Failed, FoundAlive}
use Rattle.one_history.specs.declared.book.Book.{Book}
use Rattle.one_history.specs.declared.book.PassStep.{PassStep}
use Rattle.one_history.specs.Interleaving.{Words, words_at, with_holder, moved_by, Finds, words_after, AreFound, steps_by}
use Rattle.one_history.specs.Turns.{record_of, pass_step, words_of}
use Rattle.one_history.specs.OneHistory.{AreOf, IsOneHistory, StaysSo}

durable_moved : (j : ℕ) (s : StepMade) (w : Words) → w.durable ≤ (moved_by j s w).durable
durable_moved j (Took i outbox last) w = omega arith
durable_moved j (FoundHeld i) w = omega arith
durable_moved j (Gave i) w = omega arith
durable_moved j (Drew t) w = omega arith
durable_moved j (Looked q) w = omega arith
durable_moved j (Published x) w = le-max_left w.durable x
durable_moved j (Saw d) w = omega arith
durable_moved j Failed w = omega arith
durable_moved j (FoundAlive is_alive) w = omega arith

failed_moved : (j : ℕ) (s : StepMade) (w : Words) → w.failed ≡ true → (moved_by j s w).failed ≡ true
failed_moved j (Took i outbox last) w f = f
failed_moved j (FoundHeld i) w f = f
failed_moved j (Gave i) w f = f
failed_moved j (Drew t) w f = f
failed_moved j (Looked q) w f = f
failed_moved j (Published x) w f = f
failed_moved j (Saw d) w f = f
failed_moved j Failed w f = refl
failed_moved j (FoundAlive is_alive) w f = f

durable_after : (w : Words) (xs : List PassStep) → w.durable ≤ (words_after w xs).durable
unfolding words_after
durable_after w [] = omega arith
durable_after w (s ∷ xs) = omega (arith, durable_moved s.pass s.step w, durable_after (moved_by s.pass s.step w) xs)

failed_after : (w : Words) (xs : List PassStep) → w.failed ≡ true → (words_after w xs).failed ≡ true
unfolding words_after
failed_after w [] f = f
failed_after w (s ∷ xs) f = failed_after (moved_by s.pass s.step w) xs (failed_moved s.pass s.step w f)

module _ (b : Book) where
  abbrev Took_in : ℕ → ℕ → Type 0
  Took_in l i = (outbox : List Entry) × (last : ℕ) × Contains b.interleaving (pass_step l (Took i outbox last))

  -- each holder has taken its stripe
  abbrev HaveTaken : Words → Type 0
  HaveTaken w = (i l : ℕ) → w.holders i ≡ Some l → Took_in l i

  held_as : (i j k l : ℕ) (holder : Option ℕ) (before : ℕ → Option ℕ) → ((k l : ℕ) → before k ≡ Some l → Took_in l k) → (holder ≡ Some l → Took_in l i) → with_holder i holder before k ≡ Some l → Took_in l k
  held_as i j k l holder before had new is = elim (cases_eq k i) [
    | inl e ↦ subst (Took_in l) (sym e) (new (sym (ap (λ t. if t then holder else before k) (eq-eqb k i e)) ∙ is))
    | inr ne ↦ had k l (sym (ap (λ t. if t then holder else before k) (ne_eqb k i ne)) ∙ is)
  ]

  holders_moved : (j : ℕ) (s : StepMade) (w : Words) → HaveTaken w → Contains b.interleaving (pass_step j s) → HaveTaken (moved_by j s w)
  holders_moved j (Took i outbox last) w had there = λ k l is. held_as i j k l (Some j) w.holders had (λ e. (outbox, last, subst (λ u. Contains b.interleaving (pass_step u (Took i outbox last))) (let f : Some j ≡ Some l = e in cc) there)) is
  holders_moved j (FoundHeld i) w had there = λ k l is. had k l is
  holders_moved j (Gave i) w had there = λ k l is. held_as i j k l None w.holders had (λ e. absurd (let no : None ≡ Some l = e in cc)) is
  holders_moved j (Drew t) w had there = λ k l is. had k l is
  holders_moved j (Looked q) w had there = λ k l is. had k l is
  holders_moved j (Published x) w had there = λ k l is. had k l is
  holders_moved j (Saw d) w had there = λ k l is. had k l is
  holders_moved j Failed w had there = λ k l is. had k l is
  holders_moved j (FoundAlive is_alive) w had there = λ k l is. had k l is

  stays : (j : ℕ) (s : StepMade) (w : Words) → w.durable ≤ b.effects.durable → (w.failed ≡ true → b.effects.failed ≡ true) → HaveTaken w → Finds j s w → StaysSo b j s
  stays j (Took i outbox last) w low failed had f = tt
  stays j (FoundHeld i) w low failed had f = let x = had i f.other f.is in record { taker = f.other; outbox = x.0; last = x.1; apart = f.apart; took = x.2 }
  stays j (Gave i) w low failed had f = tt
  stays j (Drew t) w low failed had f = tt
  stays j (Looked q) w low failed had f = tt
  stays j (Published x) w low failed had f = tt
  stays j (Saw d) w low failed had f = omega (arith, f)
  stays j Failed w low failed had f = tt
  stays j (FoundAlive is_alive) w low failed had f = λ no. failed (not-false w.failed (sym f ∙ no))

  all_stay : (j : ℕ) (w : Words) (xs : List PassStep) → AreFound w xs → (words_after w xs).durable ≡ b.effects.durable → (words_after w xs).failed ≡ b.effects.failed → HaveTaken w → All (Contains b.interleaving) xs → All (StaysSo b j) (steps_by j xs)
  unfolding words_after AreFound steps_by
  all_stay j w [] found durable failed had there = All-nil (StaysSo b j)
  all_stay j w (s ∷ xs) found durable failed had there =
      let w' : Words = moved_by s.pass s.step w in
      let here : StaysSo b s.pass s.step =
      stays s.pass s.step w (omega (arith, durable, durable_moved s.pass s.step w, durable_after w' xs)) (λ f. sym failed ∙ failed_after w' xs (failed_moved s.pass s.step w f)) had found.0 in
      let rest : All (StaysSo b j) (steps_by j xs) = all_stay j w' xs found.1 durable failed (holders_moved s.pass s.step w had (All-head (Contains b.interleaving) s xs there)) (All-tail (Contains b.interleaving) s xs there) in
      elim (cases_eq s.pass j) [
        | inl e ↦ subst (All (StaysSo b j)) (ap (λ t. if t then s.step ∷ steps_by j xs else steps_by j xs) (sym (eq-eqb s.pass j e))) (All-cons (StaysSo b j) s.step (steps_by j xs) (subst (λ u. StaysSo b u s.step) e here) rest)
        | inr ne ↦ subst (All (StaysSo b j)) (ap (λ t. if t then s.step ∷ steps_by j xs else steps_by j xs) (sym (ne_eqb s.pass j ne))) rest
      ]

  -- A law: what the passes found stays so.
  pub steps_stay : IsOneHistory b → (j : ℕ) → All (StaysSo b j) (record_of j b).steps
  steps_stay one j =
      let words : AreOf b (words_of b) = one.words in
      subst (All (StaysSo b j)) (sym (one.steps j))
      (all_stay j (words_at b.opening) b.interleaving one.found words.durable words.failed (λ i l is. absurd (let no : None ≡ Some l = is in cc)) (All-contains_itself b.interleaving))

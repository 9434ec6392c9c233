-- One more step in an interleaving.
use Rattle.std.proofs.Common.{ℕ, zero, suc, ◌≡◌, ◌≢◌, ◌==◌, ◌++◌, List, [], ◌∷◌, true, false, get_or, refl, sym, ◌∙◌, ap, append_assoc, append-nil}
use Rattle.std.specs.Prelude.{if◌then◌else◌}
use Rattle.std.specs.List.{All}
use Rattle.std.proofs.lemmas.List.Elements.{All-head, All-tail}
use Rattle.std.proofs.lemmas.Bool.{eq-eqb, ne_eqb}
use Rattle.ticket_order.specs.declared.record.StepMade.{StepMade}
use Rattle.ticket_order.specs.declared.record.Record.{Record}
use Rattle.one_history.specs.declared.book.PassStep.{PassStep}
use Rattle.one_history.specs.Interleaving.{Words, moved_by, Finds, words_after, AreFound, GoesOn, steps_by}
use Rattle.one_history.specs.Turns.{pass_step}

pub after_push : (w : Words) (xs : List PassStep) (s : PassStep) → words_after w (xs ++ s ∷ []) ≡ moved_by s.pass s.step (words_after w xs)
unfolding words_after
after_push w [] s = refl
after_push w (x ∷ xs) s = after_push (moved_by x.pass x.step w) xs s

pub found_push : (w : Words) (xs : List PassStep) (s : PassStep) → AreFound w xs → Finds s.pass s.step (words_after w xs) → AreFound w (xs ++ s ∷ [])
unfolding words_after AreFound
found_push w [] s all here = (here, tt)
found_push w (x ∷ xs) s all here = (all.0, found_push (moved_by x.pass x.step w) xs s all.1 here)

pub by_own : (j : ℕ) (s : StepMade) (xs : List PassStep) → steps_by j (xs ++ pass_step j s ∷ []) ≡ steps_by j xs ++ s ∷ []
unfolding steps_by
by_own j s [] = ap (λ t. if t then s ∷ [] else []) (eq-eqb j j refl)
by_own j s (x ∷ xs) =
    let more : List PassStep = xs ++ pass_step j s ∷ [] in
    elim (x.pass == j) as (λ t. (if t then x.step ∷ steps_by j more else steps_by j more) ≡ (if t then x.step ∷ steps_by j xs else steps_by j xs) ++ s ∷ []) [
      | true ↦ ap (λ r. x.step ∷ r) (by_own j s xs)
      | false ↦ by_own j s xs
    ]

pub by_other : (j l : ℕ) (s : StepMade) (xs : List PassStep) → j ≢ l → steps_by l (xs ++ pass_step j s ∷ []) ≡ steps_by l xs
unfolding steps_by
by_other j l s [] ne = ap (λ t. if t then s ∷ [] else []) (ne_eqb j l ne)
by_other j l s (x ∷ xs) ne = ap (λ r. if x.pass == l then x.step ∷ r else r) (by_other j l s xs ne)

pub goes_on_itself : (xs : List PassStep) → GoesOn xs xs
goes_on_itself xs = record { later = []; is = sym (append-nil xs) }

-- it goes on by one step more
pub goes_on_by : (earlier xs ys : List PassStep) (x : PassStep) → ys ≡ xs ++ x ∷ [] → GoesOn earlier xs → GoesOn earlier ys
goes_on_by earlier xs ys x e g = record { later = g.later ++ x ∷ []; is = e ∙ (ap (λ r. r ++ x ∷ []) g.is ∙ append_assoc earlier g.later (x ∷ [])) }

-- where no pass made a step, none has one
pub none_made : (xs : List Record) (d : Record) (j : ℕ) → d.steps ≡ [] → All (λ (v : Record). v.steps ≡ []) xs → (get_or xs j d).steps ≡ []
none_made [] d j none all = none
none_made (x ∷ xs) d zero none all = All-head (λ (v : Record). v.steps ≡ []) x xs all
none_made (x ∷ xs) d (suc j) none all = none_made xs d j none (All-tail (λ (v : Record). v.steps ≡ []) x xs all)

-- one more pass, which made no step
pub none_more : (xs : List Record) (w d : Record) (j : ℕ) → w.steps ≡ d.steps → (get_or (xs ++ w ∷ []) j d).steps ≡ (get_or xs j d).steps
none_more [] w d zero same = same
none_more [] w d (suc j) same = refl
none_more (x ∷ xs) w d zero same = refl
none_more (x ∷ xs) w d (suc j) same = none_more xs w d j same

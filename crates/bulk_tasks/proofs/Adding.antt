-- What one more part adds to what is made of the sections.
use Rattle.std.proofs.Common.{◌≡◌, ℕ, ◌+◌, min, List, ◌++◌, length, fold, Some, sym, ap, ◌∙◌, arith, length-append}
use Rattle.std.proofs.lemmas.Grind.{fold-append}
use Rattle.std.specs.FinMap as finite
use Rattle.atomic_methods.specs.PartState.{PartState}
use Rattle.map_types.specs.declared.texts.Value.{Value}
use Rattle.ticket_order.specs.declared.record.Section.{Section}
use Rattle.view_walk.specs.Walking.{sections_of}
use Rattle.bulk_tasks.specs.Answering.{entries_kept}
use Rattle.bulk_tasks.proofs.Answering.{kept_more}

-- the section of this part
abbrev of_part : ℕ → ℕ → PartState → Section
of_part i mark part = record { stripe = i; mark = mark; part = part.map }

fold_more : {B : Type 0} (step : B → List ℕ × Value → B) (start : B) (xs : List Section) (i mark : ℕ) (part : PartState) → fold step start (entries_kept (xs ++ sections_of i (Some (mark, part)))) ≡ fold step (fold step start (entries_kept xs)) (finite.entries part.map)
fold_more step start xs i mark part = ap (fold step start) (kept_more xs (of_part i mark part)) ∙ fold-append step start (entries_kept xs) (finite.entries part.map)

-- what a fold from there over the part comes to
pub folded_on : {B : Type 0} (step other : B → List ℕ × Value → B) (start from result : B) (es : List (List ℕ × Value)) (xs : List Section) (i mark : ℕ) (part : PartState) → other ≡ step → from ≡ fold step start (entries_kept xs) → es ≡ finite.entries part.map
    → result ≡ fold other from es → result ≡ fold step start (entries_kept (xs ++ sections_of i (Some (mark, part))))
folded_on step other start from result es xs i mark part same begun entries is =
    is
    ∙ (ap (λ f. fold f from es) same
    ∙ (ap (λ b. fold step b es) begun
    ∙ (ap (fold step (fold step start (entries_kept xs))) entries ∙ sym (fold_more step start xs i mark part))))

length_more : (xs : List Section) (i mark : ℕ) (part : PartState) → length (entries_kept (xs ++ sections_of i (Some (mark, part)))) ≡ length (entries_kept xs) + finite.len part.map
length_more xs i mark part = ap length (kept_more xs (of_part i mark part))
    ∙ (length-append (entries_kept xs) (finite.entries part.map) ∙ ap (λ (k : ℕ). length (entries_kept xs) + k) (sym (finite.len-entries part.map)))

-- the number of entries, of which the greatest number stands for all that are greater
pub count_more : (most first old more new : ℕ) (xs : List Section) (i mark : ℕ) (part : PartState) → old ≡ min (first + length (entries_kept xs)) most → more ≡ min (finite.len part.map) most → new ≡ min (old + more) most
    → new ≡ min (first + length (entries_kept (xs ++ sections_of i (Some (mark, part))))) most
count_more most first old more new xs i mark part is part_is sum = omega (arith, is, part_is, sum, length_more xs i mark part)

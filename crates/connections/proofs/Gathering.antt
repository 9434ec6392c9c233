-- Replies that are gathered.
use Rattle.std.proofs.Common.{◌≡◌, ℕ, List, ◌++◌, length, take, ap, ◌∙◌}
use Rattle.std.proofs.Math.Seq.{take-append_seam}

-- what was gathered is as it was, where a reply was cut off behind it
pub gathered_stays : (old new after front : List ℕ) (n : ℕ) → n ≡ length old → new ≡ old ++ front → after ≡ take n new → after ≡ old
gathered_stays old new after front n size e cut =
    cut ∙ ap (λ (m : ℕ). take m new) size ∙ ap (λ (x : List ℕ). take (length old) x) e ∙ take-append_seam old front

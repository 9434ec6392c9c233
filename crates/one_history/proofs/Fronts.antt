-- Fronts of the history, and how far a pass sees.
use Rattle.std.proofs.Common.{ℕ, zero, suc, ◌≡◌, ◌+◌, ◌-◌, ◌≤◌, ◌⊎◌, ◌++◌, List, [], ◌∷◌, length, take, drop, refl, arith, sym, ◌∙◌, ap, inl, inr, append_assoc, append-nil, length-append}
use Rattle.std.proofs.lemmas.List.{take-append-drop, length-take-le}
use Rattle.std.proofs.Math.Seq.{drop-append_seam, take-append-add}
use Rattle.std.proofs.lemmas.Bool.{cases_lt}
use Rattle.map_types.specs.declared.commands.Command.{Command}
use Rattle.one_history.specs.OneHistory.{IsFront}

pub front_refl : (h : List Command) → IsFront h h
front_refl h = record { rest = []; is = sym (append-nil h) }

pub front_trans : (xs ys zs : List Command) → IsFront xs ys → IsFront ys zs → IsFront xs zs
front_trans xs ys zs p q = record { rest = p.rest ++ q.rest; is = q.is ∙ (ap (λ w. w ++ q.rest) p.is ∙ append_assoc xs p.rest q.rest) }

pub front_one : (h : List Command) (c : Command) → IsFront h (h ++ c ∷ [])
front_one h c = record { rest = c ∷ []; is = refl }

pub front_length : (xs ys : List Command) → IsFront xs ys → length xs ≤ length ys
front_length xs ys p = omega (arith, ap length p.is, length-append xs p.rest)

-- what was seen and what was not are the history
pub all_seen : (seen h : List Command) → IsFront seen h → seen ++ drop (length seen) h ≡ h
all_seen seen h p = rw p.is (ap (λ w. seen ++ w) (drop-append_seam seen p.rest))

drop_all : (n : ℕ) (xs : List Command) → length xs ≤ n → drop n xs ≡ []
drop_all zero [] l = refl
drop_all (suc n) [] l = refl
drop_all zero (x ∷ xs) l = absurd (omega arith)
drop_all (suc n) (x ∷ xs) l = drop_all n xs (omega arith)

-- of what a pass has not seen, the part up to the position n
pub record SeesTo (first n : ℕ) (seen between h : List Command) : Type 0 where
  pub front : IsFront (seen ++ between) h
  pub rises : ((n ≤ first + length seen) × (first + length (seen ++ between) ≡ first + length seen)) ⊎ ((first + length seen ≤ n) × (first + length (seen ++ between) ≡ n))

no_news : (first n : ℕ) (seen between h : List Command) → IsFront seen h → between ≡ [] → n ≤ first + length seen → SeesTo first n seen between h
no_news first n seen between h p none l =
    let same : seen ++ between ≡ seen = ap (λ w. seen ++ w) none ∙ append-nil seen in
    record { front = rw same p; rises = inl (l, ap (λ w. first + length w) same) }

some_news : (first n m : ℕ) (seen between h : List Command) → seen ++ between ≡ take m h → m ≤ length h → first + length seen ≤ n → n ≡ first + m → SeesTo first n seen between h
some_news first n m seen between h is l low at = record {
  front = record { rest = drop m h; is = sym (ap (λ w. w ++ drop m h) is ∙ take-append-drop m h) };
  rises = inr (low, omega (arith, ap length is, length-take-le m h l));
}

taken_past : (m : ℕ) (seen rest : List Command) → length seen ≤ m → seen ++ drop (length seen) (take m (seen ++ rest)) ≡ take m (seen ++ rest)
taken_past m seen rest l =
    let k : length seen + (m - length seen) ≡ m = omega arith in
    let all : take (length seen + (m - length seen)) (seen ++ rest) ≡ seen ++ take (m - length seen) rest = take-append-add seen rest (m - length seen) in
    rw (sym k, all) (ap (λ w. seen ++ w) (drop-append_seam seen (take (m - length seen) rest)))

pub sees_to : (first n : ℕ) (seen h : List Command) → IsFront seen h → n ≤ first + length h → SeesTo first n seen (drop (length seen) (take (n - first) h)) h
sees_to first n seen h p l = elim (cases_lt (length seen) (n - first)) [
  | inl more ↦ some_news first n (n - first) seen _ h (rw p.is (taken_past (n - first) seen p.rest (omega arith))) (omega arith) (omega arith) (omega arith)
  | inr few ↦
      no_news first n seen _ h p
      (drop_all (length seen) (take (n - first) h) (omega (arith, length-take-le (n - first) h (omega (arith, front_length seen h p)))))
      (omega arith)
]

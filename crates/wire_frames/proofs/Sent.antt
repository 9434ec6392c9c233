-- What a writer has taken so far.
use Rattle.std.proofs.Common.{◌≡◌, ◌<◌, ℕ, List, [], ◌∷◌, ◌++◌, length, take, drop, Option, Some, None, Result, Ok, Err, sym, ap, subst, ◌∙◌, append_assoc, arith}
use Rattle.std.specs.Io.KnownBytes.{Appends, Keeps}
use Rattle.std.proofs.lemmas.List.{append-nil, take-append-drop}
use Rattle.wire_frames.specs.Replies.{Writes, IsCut}

pub record Sent (old new : Option (List ℕ)) (bytes rest : List ℕ) : Type 0 where
  pub front : List ℕ
  pub parts : bytes ≡ front ++ rest
  pub grown : Appends old new front

pub Appends-nil : (a : Option (List ℕ)) → Appends a a []
Appends-nil None = tt
Appends-nil (Some xs) = sym (append-nil xs)

pub Appends-then : (a b c : Option (List ℕ)) (x y : List ℕ) → Appends a b x → Appends b c y → Appends a c (x ++ y)
Appends-then None b c x y p q = tt
Appends-then (Some xs) None c x y p q = absurd p
Appends-then (Some xs) (Some ys) None x y p q = absurd q
Appends-then (Some xs) (Some ys) (Some zs) x y p q = q ∙ ap (λ (t : List ℕ). t ++ y) p ∙ append_assoc xs x y

pub keeps_appends : (a b : Option (List ℕ)) → Keeps a b → Appends a b []
keeps_appends None b k = tt
keeps_appends (Some xs) None k = absurd k
keeps_appends (Some xs) (Some ys) k = k ∙ sym (append-nil xs)

pub sent_next : (a b c : Option (List ℕ)) (bytes rest after : List ℕ) (n : ℕ) → Sent a b bytes rest → Appends b c (take n rest) → after ≡ drop n rest → Sent a c bytes after
sent_next a b c bytes rest after n s p e = rw e (record {
  front = s.front ++ take n rest;
  parts = s.parts ∙ ap (λ (t : List ℕ). s.front ++ t) (sym (take-append-drop n rest)) ∙ sym (append_assoc s.front (take n rest) (drop n rest));
  grown = Appends-then a b c s.front (take n rest) s.grown p;
})

abbrev Cut : Option (List ℕ) → Option (List ℕ) → List ℕ → Type 0
Cut old new bytes = (front : List ℕ) × IsCut front bytes × Appends old new front

-- the writer failed with a byte left
pub stops_here : (a b c : Option (List ℕ)) (bytes rest : List ℕ) → Sent a b bytes rest → 0 < length rest → Appends b c [] → Cut a c bytes
stops_here a b c bytes [] s h k = absurd (omega (arith, h))
stops_here a b c bytes (next ∷ rest) s h k =
    (s.front, (next, rest, s.parts), subst (Appends a c) (append-nil s.front) (Appends-then a b c s.front [] s.grown k))

-- one text behind another
pub then_writes : {Y E : Type 0} (a b c : Option (List ℕ)) (x y : List ℕ) (s : Result Y E) → Appends a b x → Writes b c s y → Writes a c s (x ++ y)
then_writes a b c x y (Ok u) p q = Appends-then a b c x y p q
then_writes a b c x y (Err e) p q =
    (x ++ q.0, (q.1.0, q.1.1, ap (λ (t : List ℕ). x ++ t) q.1.2 ∙ sym (append_assoc x q.0 (q.1.0 ∷ q.1.1))), Appends-then a b c x q.0 p q.2)

pub stops_within : (a b : Option (List ℕ)) (x y : List ℕ) → Cut a b x → Cut a b (x ++ y)
stops_within a b x y p =
    (p.0, (p.1.0, p.1.1 ++ y, ap (λ (t : List ℕ). t ++ y) p.1.2 ∙ append_assoc p.0 (p.1.0 ∷ p.1.1) y), p.2)

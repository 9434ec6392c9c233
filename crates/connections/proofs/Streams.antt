-- What is read behind what was read before, and messages behind messages.
use Rattle.std.proofs.Common.{◌≡◌, ℕ, List, [], ◌∷◌, ◌++◌, Option, Some, None, Err, refl, sym, ap, ◌∙◌, append_assoc, inl, inr}
use Rattle.std.specs.List.{flat_map, AllByRecursion, AllZip}
use Rattle.std.specs.Io.KnownBytes.{Consumes, Keeps}
use Rattle.std.proofs.lemmas.List.{append-nil}
use Rattle.std.proofs.lemmas.List.Concat.{flat_map-append}
use Rattle.map_types.specs.declared.refusals.Refusal.TheVariants.{BadFrame}
use Rattle.wire_frames.specs.Messages.{frame, Message, IsBody, Says, Begins, FirstMessages}

-- ---- known bytes

pub Consumes-nil : (a : Option (List ℕ)) → Consumes a a []
Consumes-nil None = tt
Consumes-nil (Some xs) = refl

pub Consumes-kept : (a b : Option (List ℕ)) → Keeps a b → Consumes a b []
Consumes-kept None b k = tt
Consumes-kept (Some xs) None k = absurd k
Consumes-kept (Some xs) (Some ys) k = sym k

-- ---- messages

each_append : (xs ys : List (List ℕ)) → AllByRecursion IsBody xs → AllByRecursion IsBody ys → AllByRecursion IsBody (xs ++ ys)
each_append [] ys p q = q
each_append (x ∷ xs) ys p q = (p.0, each_append xs ys p.1 q)

said_append : (xs : List (List ℕ)) (ms : List Message) (ys : List (List ℕ)) (ns : List Message) → AllZip Says xs ms → AllZip Says ys ns → AllZip Says (xs ++ ys) (ms ++ ns)
said_append [] [] ys ns p q = q
said_append [] (m ∷ ms) ys ns p q = absurd p
said_append (x ∷ xs) [] ys ns p q = absurd p
said_append (x ∷ xs) (m ∷ ms) ys ns p q = (p.0, said_append xs ms ys ns p.1 q)

pub begins_none : (a : List ℕ) → Begins a [] a
begins_none a = record { bodies = []; parts = refl; each = tt; said = tt }

pub begins_one : (a b body : List ℕ) (m : Message) → IsBody body → a ≡ frame body ++ b → Says body m → Begins a (m ∷ []) b
begins_one a b body m is e s = record {
  bodies = body ∷ [];
  parts = e ∙ ap (λ (x : List ℕ). x ++ b) (sym (append-nil (frame body)));
  each = (is, tt);
  said = (s, tt);
}

pub begins_then : (a b c : List ℕ) (ms ns : List Message) → Begins a ms b → Begins b ns c → Begins a (ms ++ ns) c
begins_then a b c ms ns p q = record {
  bodies = p.bodies ++ q.bodies;
  parts = p.parts ∙ ap (λ (x : List ℕ). flat_map frame p.bodies ++ x) q.parts ∙ sym (append_assoc (flat_map frame p.bodies) (flat_map frame q.bodies) c) ∙ ap (λ (x : List ℕ). x ++ c) (sym (flat_map-append frame p.bodies q.bodies));
  each = each_append p.bodies q.bodies p.each q.each;
  said = said_append p.bodies ms q.bodies ns p.said q.said;
}

pub begins_feed : (a b piece : List ℕ) (ms : List Message) → Begins a ms b → Begins (a ++ piece) ms (b ++ piece)
begins_feed a b piece ms p = record {
  bodies = p.bodies;
  parts = ap (λ (x : List ℕ). x ++ piece) p.parts ∙ append_assoc (flat_map frame p.bodies) b piece;
  each = p.each;
  said = p.said;
}

pub first_then : (a b : List ℕ) (ms ns : List Message) → Begins a ms b → FirstMessages b ns → FirstMessages a (ms ++ ns)
first_then a b ms ns p (inl q) = inl (q.0, begins_then a b q.0 ms ns p q.1)
first_then a b ms ns p (inr q) =
    inr (ms ++ q.0, q.1, begins_then a b q.1 ms q.0 p q.2, q.3, ap (λ (x : List Message). ms ++ x) q.4 ∙ sym (append_assoc ms q.0 (Err BadFrame ∷ [])))

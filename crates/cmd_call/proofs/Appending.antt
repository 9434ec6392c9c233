-- One list, or one stream, behind another.
use Rattle.std.proofs.Common.{Result, Ok, Err, ℕ, List, [], ◌∷◌, ◌++◌, None, Some, refl, sym, ap, ◌∙◌, append_assoc}
use Rattle.std.specs.Result.{OnOk}
use Rattle.std.specs.List.{AllByRecursion, AllZip}
use Rattle.std.specs.Io.KnownBytes.{Appends, Consumes, append_known}
use Rattle.std.proofs.lemmas.List.{append-nil}
use Rattle.cmd_call.specs.Client.{Known}

pub zip_then : {A B : Type 0} (R : A → B → Type 0) (xs : List A) (ys : List B) (more : List A) (others : List B) → AllZip R xs ys → AllZip R more others → AllZip R (xs ++ more) (ys ++ others)
zip_then R [] [] more others p q = q
zip_then R [] (y ∷ ys) more others p q = absurd p
zip_then R (x ∷ xs) [] more others p q = absurd p
zip_then R (x ∷ xs) (y ∷ ys) more others p q = (p.0, zip_then R xs ys more others p.1 q)

pub all_then : {A : Type 0} (P : A → Type 0) (xs more : List A) → AllByRecursion P xs → AllByRecursion P more → AllByRecursion P (xs ++ more)
all_then P [] more p q = q
all_then P (x ∷ xs) more p q = (p.0, all_then P xs more p.1 q)

pub appends_none : (a : Known) → Appends a a []
appends_none None = tt
appends_none (Some xs) = sym (append-nil xs)

pub appends_then : (a b c : Known) (x y : List ℕ) → Appends a b x → Appends b c y → Appends a c (x ++ y)
appends_then None b c x y p q = tt
appends_then (Some xs) None c x y p q = absurd p
appends_then (Some xs) (Some ys) None x y p q = absurd q
appends_then (Some xs) (Some ys) (Some zs) x y p q = q ∙ ap (λ (t : List ℕ). t ++ y) p ∙ append_assoc xs x y

-- what was appended in one is appended in two
pub appends_parts : (a c : Known) (x y : List ℕ) → Appends a c (x ++ y) → Appends a (append_known a x) x × Appends (append_known a x) c y
appends_parts None c x y p = (tt, tt)
appends_parts (Some xs) None x y p = absurd p
appends_parts (Some xs) (Some zs) x y p = (refl, p ∙ sym (append_assoc xs x y))

pub consumes_none : (a : Known) → Consumes a a []
consumes_none None = tt
consumes_none (Some xs) = refl

pub consumes_then : (a b c : Known) (x y : List ℕ) → Consumes a b x → Consumes b c y → Consumes a c (x ++ y)
consumes_then None b c x y p q = tt
consumes_then (Some xs) None c x y p q = absurd p
consumes_then (Some xs) (Some ys) None x y p q = absurd q
consumes_then (Some xs) (Some ys) (Some zs) x y p q = p ∙ ap (λ (t : List ℕ). x ++ t) q ∙ sym (append_assoc x y zs)

-- ---- what is said of a result

pub on_ok_two : {T E P Q R : Type 0} (r : Result T E) → (P → Q → R) → OnOk r P → OnOk r Q → OnOk r R
on_ok_two (Ok x) f p q = f p q
on_ok_two (Err e) f p q = tt

-- What follows where a reader and a spelling fit together.
use Rattle.std.proofs.Common.{◌≡◌, ◌⊎◌, ◌≤◌, ℕ, ◌+◌, ◌-◌, List, ◌∷◌, ◌++◌, length, take, Result, Ok, Err, refl, sym, ap, subst, ◌∙◌, append_assoc, arith, inl, inr}
use Rattle.std.proofs.lemmas.List.{take_at, length-append}
use Rattle.map_types.specs.declared.refusals.Refusal.{Refusal}
use Rattle.map_types.specs.declared.refusals.Refusal.TheVariants.{NoMemory}
use Rattle.log_records.specs.Agreement.{IsBytes, Takes, Agrees}
use Rattle.log_records.specs.Reading.{◌>>=◌, made, both_at}

-- the value of a step that did not fail
pub bind_ok : {A B : Type 0} (r : Result A Refusal) (f : A → Result B Refusal) (y : B) → (r >>= f) ≡ Ok y → (x : A) × (r ≡ Ok x) × (f x ≡ Ok y)
bind_ok (Ok x) f y e = (x, refl, e)
bind_ok (Err d) f y e = absurd cc

abbrev done : {A : Type 0} → A → Result A Refusal
done x = Ok x

pub ok_is : {A : Type 0} (x y : A) → done x ≡ done y → x ≡ y
ok_is x y e = cc

pub Takes-then : (a x b y c : List ℕ) → Takes a x b → Takes b y c → Takes a (x ++ y) c
Takes-then a x b y c p q = record { parts = p.parts ∙ ap (λ (t : List ℕ). x ++ t) q.parts ∙ sym (append_assoc x y c); rest_fits = q.rest_fits }

pub Takes-behind : (h : ℕ) (a x b : List ℕ) → Takes a x b → Takes (h ∷ a) (h ∷ x) b
Takes-behind h a x b p = record { parts = ap (λ (t : List ℕ). h ∷ t) p.parts; rest_fits = p.rest_fits }

-- one field and then another
pub both_agree : {A B : Type 0} (first_at : List ℕ → Result (A × List ℕ) Refusal) (second_at : List ℕ → Result (B × List ℕ) Refusal)
    (first_bytes : A → List ℕ) (second_bytes : B → List ℕ) (First : A → Type 0) (Second : B → Type 0)
    → Agrees first_at first_bytes First → Agrees second_at second_bytes Second
    → Agrees (both_at first_at second_at) (λ p. first_bytes p.0 ++ second_bytes p.1) (λ p. First p.0 × Second p.1)
both_agree {A = A} {B = B} first_at second_at first_bytes second_bytes First Second one two = record {
  takes = λ bytes p rest fits e.
      let a = bind_ok (first_at bytes) (λ x. second_at x.1 >>= λ y. Ok ((x.0, y.0), y.1)) (p, rest) e in
      let b = bind_ok (second_at a.0.1) (λ y. Ok ((a.0.0, y.0), y.1)) (p, rest) a.2 in
      let t = one.takes bytes a.0.0 a.0.1 fits a.1 in
      let u = two.takes a.0.1 b.0.0 b.0.1 t.0.rest_fits b.1 in
      let is = ok_is ((a.0.0, b.0.0), b.0.1) (p, rest) b.2 in
      let Both : (A × B) × List ℕ → Type 0 = λ z. Takes bytes (first_bytes z.0.0 ++ second_bytes z.0.1) z.1 × (First z.0.0 × Second z.0.1) in
      subst Both is (Takes-then bytes (first_bytes a.0.0) a.0.1 (second_bytes b.0.0) b.0.1 t.0 u.0, (t.1, u.1));
  again = λ p rest fits.
      let whole = append_assoc (first_bytes p.0) (second_bytes p.1) rest in
      let x = one.again p.0 (second_bytes p.1 ++ rest) fits.0 in
      let y = two.again p.1 rest fits.1 in
      ap (both_at first_at second_at) whole ∙ rw (x, y) refl;
}

-- what was read and then made into something else
pub made_ok : {A B : Type 0} (make : A → B) (r : Result (A × List ℕ) Refusal) (y : B) (rest : List ℕ) → made make r ≡ Ok (y, rest) → (x : A) × (r ≡ Ok (x, rest)) × (make x ≡ y)
made_ok {A = A} {B = B} make r y rest e =
    let b = bind_ok r (λ x. Ok (make x.0, x.1)) (y, rest) e in
    let is = ok_is (make b.0.0, b.0.1) (y, rest) b.2 in
    let same_rest : b.0.1 ≡ rest = ap (λ (z : B × List ℕ). z.1) is in
    (b.0.0, b.1 ∙ ap (λ (t : List ℕ). done (b.0.0, t)) same_rest, ap (λ (z : B × List ℕ). z.0) is)

-- no spelling begins another, and none has two meanings
pub same_meaning : {A : Type 0} (read : List ℕ → Result (A × List ℕ) Refusal) (bytes_of : A → List ℕ) (Fits : A → Type 0) → Agrees read bytes_of Fits
    → (x y : A) (after_x after_y : List ℕ) → Fits x → Fits y → bytes_of x ++ after_x ≡ bytes_of y ++ after_y → x ≡ y
same_meaning {A = A} read bytes_of Fits agrees x y after_x after_y p q e =
    let is = ok_is (x, after_x) (y, after_y) (sym (agrees.again x after_x p) ∙ ap read e ∙ agrees.again y after_y q) in
    ap (λ (z : A × List ℕ). z.0) is

-- what is read stands at the front, and the rest behind it
pub read_front : {A : Type 0} (read : List ℕ → Result (A × List ℕ) Refusal) (bytes_of : A → List ℕ) (Fits : A → Type 0) → Agrees read bytes_of Fits
    → (bytes : List ℕ) (x : A) (rest : List ℕ) → IsBytes bytes → read bytes ≡ Ok (x, rest)
    → (length rest ≤ length bytes) × (take (length bytes - length rest) bytes ≡ bytes_of x) × Fits x
read_front read bytes_of Fits agrees bytes x rest fits e =
    let t = agrees.takes bytes x rest fits e in
    let len : length bytes ≡ length (bytes_of x) + length rest = ap (λ (z : List ℕ). length z) t.0.parts ∙ length-append (bytes_of x) rest in
    let used : length (bytes_of x) ≡ length bytes - length rest = omega (arith, len) in
    let front : take (length bytes - length rest) bytes ≡ bytes_of x =
    ap (λ (z : List ℕ). take (length bytes - length rest) z) t.0.parts ∙ take_at (bytes_of x) rest (length bytes - length rest) used in
    (omega (arith, len), front, t.1)

-- what is spelled at the front is read, and it takes its own length
pub only_front : {A : Type 0} (read : List ℕ → Result (A × List ℕ) Refusal) (bytes_of : A → List ℕ) (Fits : A → Type 0) → Agrees read bytes_of Fits
    → (bytes rest rest' : List ℕ) (x y : A) → Fits x → bytes ≡ bytes_of x ++ rest → read bytes ≡ Ok (y, rest')
    → (y ≡ x) × (length bytes - length rest' ≡ length (bytes_of x))
only_front {A = A} read bytes_of Fits agrees bytes rest rest' x y fits e h =
    let is = ok_is (y, rest') (x, rest) (sym h ∙ ap read e ∙ agrees.again x rest fits) in
    let len : length bytes ≡ length (bytes_of x) + length rest = ap (λ (z : List ℕ). length z) e ∙ length-append (bytes_of x) rest in
    let same : length rest' ≡ length rest = ap (λ (z : A × List ℕ). length z.1) is in
    (ap (λ (z : A × List ℕ). z.0) is, omega (arith, len, same))

-- where something is spelled at the front, only memory can be wanting
pub only_memory : {A : Type 0} (read : List ℕ → Result (A × List ℕ) Refusal) (bytes_of : A → List ℕ) (Fits : A → Type 0) → Agrees read bytes_of Fits
    → (bytes rest : List ℕ) (x : A) (refusal : Refusal) → Fits x → bytes ≡ bytes_of x ++ rest → (refusal ≡ NoMemory) ⊎ (read bytes ≡ Err refusal) → refusal ≡ NoMemory
only_memory read bytes_of Fits agrees bytes rest x refusal fits e (inl h) = h
only_memory read bytes_of Fits agrees bytes rest x refusal fits e (inr h) =
    let impossible = sym (ap read e ∙ agrees.again x rest fits) ∙ h in absurd cc

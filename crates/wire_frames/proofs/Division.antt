-- A stream has one division, and each list of bytes has one.
use Rattle.std.proofs.Common.{◌≡◌, ◌⊎◌, ◌<◌, ◌≤◌, ℕ, zero, suc, ◌+◌, ◌*◌, ◌/◌, ◌%◌, List, [], ◌∷◌, ◌++◌, length, get_or, take, drop, refl, sym, ap, subst, ◌∙◌, append_assoc, arith, inl, inr}
use Rattle.std.specs.List.{flat_map}
use Rattle.std.specs.Int.{w16, from_be_bytes, to_be_bytes}
use Rattle.std.proofs.lemmas.Bool.{cases_lt}
use Rattle.std.proofs.lemmas.List.{take_at, drop_at, length-append, length-take, length-drop, take-append-drop}
use Rattle.std.proofs.lemmas.Nat.{be_bytes_2, from_be_bytes-to_be_bytes_2}
use Rattle.wire_frames.specs.Messages.{frame, IsBody, IsPartial, IsRefusedLength, Splits, AreBytes, OneDivision, EveryDivision}

-- a frame's two bytes of length
head_is : (n : ℕ) → n ≤ 16384 → 256 * (n / 256 % 256) + n % 256 ≡ n
head_is n le = let back = from_be_bytes-to_be_bytes_2 n (omega (arith, le)) in omega (arith, back)

-- where a frame stands the division goes on
goes_on : (body more : List ℕ) → IsBody body → (IsPartial (frame body ++ more)) ⊎ (IsRefusedLength (frame body ++ more)) → ⊥
goes_on body more is (inl p) =
    let h = head_is (length body) is.1 in let len = length-append body more in omega (arith, p.2, h, len)
goes_on body more is (inr (inl e)) = let h = head_is (length body) is.1 in let pos = is.0 in omega (arith, e, h, pos)
goes_on body more is (inr (inr lt)) = let h = head_is (length body) is.1 in let most = is.1 in omega (arith, lt, h, most)

-- two frames at the front of one stream are one
one_frame : (a b x y : List ℕ) → IsBody a → IsBody b → frame a ++ x ≡ frame b ++ y → (a ≡ b) × (x ≡ y)
one_frame a b x y p q e =
    let n = length a in
    let m = length b in
    let heads : from_be_bytes w16 (take 2 (frame a ++ x)) ≡ from_be_bytes w16 (take 2 (frame b ++ y)) = ap (λ (t : List ℕ). from_be_bytes w16 (take 2 t)) e in
    let same : n ≡ m = sym (from_be_bytes-to_be_bytes_2 n (let k = p.1 in omega (arith, k))) ∙ heads ∙ from_be_bytes-to_be_bytes_2 m (let k = q.1 in omega (arith, k)) in
    let tails : a ++ x ≡ b ++ y = ap (λ (t : List ℕ). drop 2 t) e in
    let bodies : a ≡ b = sym (take_at a x n refl) ∙ ap (λ (t : List ℕ). take n t) tails ∙ take_at b y n (sym same) in
    (bodies, sym (drop_at a x n refl) ∙ ap (λ (t : List ℕ). drop n t) tails ∙ drop_at b y n (sym same))

rest_of : (x : List ℕ) (xs : List (List ℕ)) (r : List ℕ) → flat_map frame (x ∷ xs) ++ r ≡ frame x ++ (flat_map frame xs ++ r)
rest_of x xs r = append_assoc (frame x) (flat_map frame xs) r

pub one_division : OneDivision
one_division s [] [] r t p q = (refl, sym p.parts ∙ q.parts)
one_division s [] (y ∷ ys) r t p q =
    let e : r ≡ frame y ++ (flat_map frame ys ++ t) = sym p.parts ∙ q.parts ∙ rest_of y ys t in
    absurd (goes_on y (flat_map frame ys ++ t) q.each.0 (subst (λ (z : List ℕ). IsPartial z ⊎ IsRefusedLength z) e p.ended))
one_division s (x ∷ xs) [] r t p q =
    let e : t ≡ frame x ++ (flat_map frame xs ++ r) = sym q.parts ∙ p.parts ∙ rest_of x xs r in
    absurd (goes_on x (flat_map frame xs ++ r) p.each.0 (subst (λ (z : List ℕ). IsPartial z ⊎ IsRefusedLength z) e q.ended))
one_division s (x ∷ xs) (y ∷ ys) r t p q =
    let one = one_frame x y (flat_map frame xs ++ r) (flat_map frame ys ++ t) p.each.0 q.each.0 (sym (rest_of x xs r) ∙ sym p.parts ∙ q.parts ∙ rest_of y ys t) in
    let a : Splits (flat_map frame xs ++ r) xs r = record { parts = refl; each = p.each.1; ended = p.ended } in
    let b : Splits (flat_map frame xs ++ r) ys t = record { parts = one.1; each = q.each.1; ended = q.ended } in
    let more = one_division (flat_map frame xs ++ r) xs ys r t a b in
    (subst (λ (z : List ℕ). x ∷ xs ≡ z ∷ xs) one.0 refl ∙ ap (λ (z : List (List ℕ)). y ∷ z) more.0, more.1)

-- ---- every list of bytes has a division

abbrev Division : List ℕ → Type 0
Division stream = (bodies : List (List ℕ)) × (rest : List ℕ) × Splits stream bodies rest

two_bytes : (high low : ℕ) → high < 256 → low < 256 → (i : ℕ) → get_or (high ∷ low ∷ []) i 0 < 256
two_bytes high low h l zero = h
two_bytes high low h l (suc zero) = l
two_bytes high low h l (suc (suc i)) = omega arith

drop_bytes : (n : ℕ) (bytes : List ℕ) → AreBytes bytes → AreBytes (drop n bytes)
drop_bytes zero bytes are = are
drop_bytes (suc n) [] are = tt
drop_bytes (suc n) (byte ∷ bytes) are = drop_bytes n bytes are.1

ends_here : (rest : List ℕ) → IsPartial rest ⊎ IsRefusedLength rest → Division rest
ends_here rest ended = ([], rest, record { parts = refl; each = tt; ended = ended })

module _ (high low : ℕ) (bytes : List ℕ) (are : AreBytes (high ∷ low ∷ bytes)) where
  whole_frame : (len : ℕ) → len ≡ 256 * high + low → len ≤ length bytes → high ∷ low ∷ bytes ≡ frame (take len bytes) ++ drop len bytes
  whole_frame len e le =
      let size : length (take len bytes) ≡ len = omega (arith, length-take len bytes) in
      let head : to_be_bytes w16 (length (take len bytes)) ≡ high ∷ low ∷ [] =
      be_bytes_2 (high ∷ low ∷ []) (length (take len bytes)) refl (two_bytes high low are.0 are.1.0) (omega (arith, size, e)) in
      ap (λ (t : List ℕ). high ∷ low ∷ t) (sym (take-append-drop len bytes))
      ∙ ap (λ (t : List ℕ). (t ++ take len bytes) ++ drop len bytes) (sym head)

  divided_on : (len : ℕ) → len ≡ 256 * high + low → 0 < len → len ≤ 16384 → len ≤ length bytes → Division (drop len bytes) → Division (high ∷ low ∷ bytes)
  divided_on len e pos most le more =
      let size : length (take len bytes) ≡ len = omega (arith, length-take len bytes) in (
        take len bytes ∷ more.0,
        more.1,
        record {
          parts = whole_frame len e le ∙ ap (λ (t : List ℕ). frame (take len bytes) ++ t) more.2.parts ∙ sym (rest_of (take len bytes) more.0 more.1);
          each = ((omega (arith, size, pos), omega (arith, size, most)), more.2.each);
          ended = more.2.ended;
        },
      )

-- over a bound on the length, which a frame makes smaller
divided : (n : ℕ) (stream : List ℕ) → length stream ≤ n → AreBytes stream → Division stream
divided n [] le are = ends_here [] (inl tt)
divided n (byte ∷ []) le are = ends_here (byte ∷ []) (inl tt)
divided zero (high ∷ low ∷ bytes) le are = absurd (omega (arith, le))
divided (suc n) (high ∷ low ∷ bytes) le are =
    let len : ℕ = 256 * high + low in
    elim (cases_lt 0 len) [
      | inr none ↦ ends_here (high ∷ low ∷ bytes) (inr (inl (omega (arith, none))))
      | inl some ↦ elim (cases_lt 16384 len) [
        | inl long ↦ ends_here (high ∷ low ∷ bytes) (inr (inr long))
        | inr short ↦ elim (cases_lt (length bytes) len) [
          | inl missing ↦ ends_here (high ∷ low ∷ bytes) (inl (some, short, missing))
          | inr whole ↦
              divided_on high low bytes are len refl some short whole
              (divided n (drop len bytes) (omega (arith, length-drop len bytes, le)) (drop_bytes len bytes are.1.1))
        ]
      ]
    ]

pub every_division : EveryDivision
every_division stream are = divided (length stream) stream (omega arith) are

-- A number of so many bytes has one spelling.
use Rattle.std.proofs.Common.{◌≡◌, ◌≤◌, ◌<◌, ℕ, zero, suc, ◌+◌, ◌*◌, ◌^◌, List, [], ◌∷◌, length, take, drop, refl, sym, ap, ap₂, ◌∙◌, arith, inl, inr}
use Rattle.std.proofs.Math.Nat.{add-mul, mod-lt, mul-le-mul_right}
use Rattle.std.proofs.lemmas.Bool.{cases_lt}
use Rattle.std.proofs.lemmas.List.{get_or-take, get_or-drop, get_or_past, length-take, length-take-le}
use Rattle.std.specs.Int.{byte_at, bytes_high_first}
use Rattle.log_records.specs.Agreement.{IsBytes}
use Rattle.byteorder.specs.Endian.{big_number, big_bytes, big_from}
use Rattle.byteorder.specs.Numbers.{big_from-cons, big_from-take, big_from-append, big_from-lt, big_number-reads_back, length-bytes_high_first}

pub IsBytes-rest : (b : ℕ) (bytes : List ℕ) → IsBytes (b ∷ bytes) → IsBytes bytes
IsBytes-rest b bytes h i = h (suc i)

pub IsBytes-take : (n : ℕ) (bytes : List ℕ) → IsBytes bytes → IsBytes (take n bytes)
IsBytes-take n bytes h i =
    elim (cases_lt i n) [
      | inl lt ↦ rw (get_or-take n bytes i 0 lt) (h i)
      | inr le ↦ rw (get_or_past (take n bytes) i 0 (omega (arith, length-take n bytes))) (omega arith)
    ]

pub IsBytes-drop : (n : ℕ) (bytes : List ℕ) → IsBytes bytes → IsBytes (drop n bytes)
IsBytes-drop n bytes h i = rw get_or-drop (h (n + i))

byte_at-lt : (k n : ℕ) → byte_at k n < 256
byte_at-lt zero n = mod-lt n (omega arith)
byte_at-lt (suc k) n = mod-lt _ (omega arith)

IsBytes-big : (n x : ℕ) → IsBytes (bytes_high_first n x)
IsBytes-big zero x i = omega arith
IsBytes-big (suc n) x zero = byte_at-lt n x
IsBytes-big (suc n) x (suc i) = IsBytes-big n x i

-- two digits to a base
digits : (p x y r s : ℕ) → r < p → s < p → x * p + r ≡ y * p + s → (x ≡ y) × (r ≡ s)
digits p x y r s small_r small_s e = elim (cases_lt x y) [
  | inl lt ↦
      let more : (x + 1) * p ≤ y * p = mul-le-mul_right p (omega arith) in
      let open_up : (x + 1) * p ≡ x * p + 1 * p = add-mul x 1 p in
      absurd (omega (arith, more, open_up))
  | inr ge ↦ elim (cases_lt y x) [
    | inl lt ↦
        let more : (y + 1) * p ≤ x * p = mul-le-mul_right p (omega arith) in
        let open_up : (y + 1) * p ≡ y * p + 1 * p = add-mul y 1 p in
        absurd (omega (arith, more, open_up))
    | inr le ↦
        let same : x ≡ y = omega arith in
        let tops : x * p ≡ y * p = ap (λ (t : ℕ). t * p) same in
        (same, omega (arith, tops))
  ]
]

same_bytes : (n : ℕ) (xs ys : List ℕ) → length xs ≡ n → length ys ≡ n → IsBytes xs → IsBytes ys → big_from 0 n xs ≡ big_from 0 n ys → xs ≡ ys
same_bytes zero [] [] lx ly bx by_ e = refl
same_bytes zero [] (y ∷ ys) lx ly bx by_ e = absurd (omega arith)
same_bytes zero (x ∷ xs) ys lx ly bx by_ e = absurd (omega arith)
same_bytes (suc n) [] ys lx ly bx by_ e = absurd (omega arith)
same_bytes (suc n) (x ∷ xs) [] lx ly bx by_ e = absurd (omega arith)
same_bytes (suc n) (x ∷ xs) (y ∷ ys) lx ly bx by_ e =
    let rest_x = IsBytes-rest x xs bx in
    let rest_y = IsBytes-rest y ys by_ in
    let is : x * 256 ^ n + big_from 0 n xs ≡ y * 256 ^ n + big_from 0 n ys =
    ap (λ (t : ℕ). x * 256 ^ n + t) (sym (big_from-cons 0 n x xs)) ∙ e ∙ ap (λ (t : ℕ). y * 256 ^ n + t) (big_from-cons 0 n y ys) in
    let both = digits (256 ^ n) x y (big_from 0 n xs) (big_from 0 n ys) (big_from-lt 0 n xs rest_x) (big_from-lt 0 n ys rest_y) is in
    ap₂ (λ (h : ℕ) (t : List ℕ). h ∷ t) both.0 (same_bytes n xs ys (omega arith) (omega arith) rest_x rest_y both.1)

-- the bytes of the number that the first n bytes say are those bytes
pub big_bytes-big_number : (n : ℕ) (bytes : List ℕ) → n ≤ length bytes → IsBytes bytes → big_bytes n (big_number n bytes) ≡ take n bytes
big_bytes-big_number n bytes long fits =
    let number : ℕ = big_from 0 n bytes in
    let below : number < 256 ^ n = big_from-lt 0 n bytes fits in
    let len : length (bytes_high_first n number) ≡ n = length-bytes_high_first n number in
    let left : big_from 0 n (bytes_high_first n number) ≡ number =
    sym (big_from-append n (bytes_high_first n number) [] (omega (arith, len))) ∙ big_number-reads_back n number [] below in
    let right : big_from 0 n (take n bytes) ≡ number = big_from-take 0 n n bytes (omega arith) in
    same_bytes n (bytes_high_first n number) (take n bytes) (length-bytes_high_first n number) (length-take-le n bytes long)
    (IsBytes-big n number) (IsBytes-take n bytes fits) (left ∙ sym right)

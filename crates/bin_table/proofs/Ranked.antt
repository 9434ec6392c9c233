-- A lesser rank is that of a lesser key.
use Rattle.std.proofs.Common.{◌≡◌, ◌⊎◌, inl, inr, ℕ, zero, suc, ◌+◌, ◌*◌, ◌<◌, ◌≤◌, ◌-◌, List, [], ◌∷◌, ◌++◌, length, take, drop, replicate, get_or, refl, sym, ◌∙◌, ap, subst, arith}
use Rattle.std.proofs.Math.ListN.{get_or-append, get_or-eq_default}
use Rattle.std.proofs.Math.Seq.{get_or-append_right}
use Rattle.std.proofs.lemmas.Bool.{cases_lt}
use Rattle.std.proofs.lemmas.List.{get_or-drop, get_or-replicate, get_or-take, length-take-le}
use Rattle.std.specs.Int.{from_be_bytes, w128}
use Rattle.std.specs.Ordering.{nat_cmp}
use Rattle.std.specs.Cmp.Lexicographic.{slice_cmp}
use Rattle.std.specs.declared.cmp.Ordering.{Ordering}
use Rattle.std.specs.declared.cmp.Ordering.TheVariants.{Less, Equal, Greater}
use Rattle.bin_table.specs.Ranks.{HasDigits, rank}

fewer : (n : ℕ) (xs : List ℕ) → HasDigits (suc n) xs → HasDigits n xs
fewer n xs digits i i<n = digits i (omega (arith, i<n))

-- a digit at which the one is less, behind digits that are the same
record Differs (n : ℕ) (xs ys : List ℕ) : Type 0 where
  pub place : ℕ
  pub within : place < n
  pub same : (i : ℕ) → i < place → get_or xs i 0 ≡ get_or ys i 0
  pub less : get_or xs place 0 < get_or ys place 0

digits_same : (n : ℕ) (xs ys : List ℕ) → HasDigits n xs → HasDigits n ys → rank n xs ≡ rank n ys → (i : ℕ) → i < n → get_or xs i 0 ≡ get_or ys i 0
digits_same zero xs ys dx dy e i i<n = absurd (omega (arith, i<n))
digits_same (suc n) xs ys dx dy e i i<n = elim (at_last i n i<n) [
  | inl before ↦ digits_same n xs ys (fewer n xs dx) (fewer n ys dy) fronts i before
  | inr last ↦ subst (λ j. get_or xs j 0 ≡ get_or ys j 0) (sym last) (omega (arith, e, dx n (omega arith), dy n (omega arith)))
]
  where
    fronts : rank n xs ≡ rank n ys
    fronts = omega (arith, e, dx n (omega arith), dy n (omega arith))

    at_last : (i n : ℕ) → i < suc n → (i < n) ⊎ (i ≡ n)
    at_last i n h = elim (cases_lt i n) [ inl low ↦ inl low | inr high ↦ inr (omega (arith, h, high)) ]

differs : (n : ℕ) (xs ys : List ℕ) → HasDigits n xs → HasDigits n ys → rank n xs < rank n ys → Differs n xs ys
differs zero xs ys dx dy less = absurd (omega (arith, less))
differs (suc n) xs ys dx dy less = elim (either (rank n xs) (rank n ys) (get_or xs n 0) (get_or ys n 0) (dx n (omega arith)) (dy n (omega arith)) less) [
  | inl front ↦ (let d = differs n xs ys (fewer n xs dx) (fewer n ys dy) front in record { place = d.place; within = omega (arith, d.within); same = d.same; less = d.less })
  | inr last ↦ record { place = n; within = omega arith; same = digits_same n xs ys (fewer n xs dx) (fewer n ys dy) last.0; less = last.1 }
]
  where
    either : (a b x y : ℕ) → x < 256 → y < 256 → a * 256 + x < b * 256 + y → (a < b) ⊎ ((a ≡ b) × (x < y))
    either a b x y hx hy h = elim (cases_lt a b) [
      | inl low ↦ inl low
      | inr high ↦ (let same : a ≡ b = omega (arith, hx, hy, h, high) in inr (same, omega (arith, same, h)))
    ]

nat_less : (x y : ℕ) → x < y → nat_cmp x y ≡ Less
nat_less x y h = search (arith, h)

nat_greater : (x y : ℕ) → y < x → nat_cmp x y ≡ Greater
nat_greater x y h = search (arith, h)

nat_same : (x y : ℕ) → x ≡ y → nat_cmp x y ≡ Equal
nat_same x y h = search (arith, h)

before : (k : ℕ) (xs ys : List ℕ) → ((i : ℕ) → i < k → get_or xs i 0 ≡ get_or ys i 0) → get_or xs k 0 < get_or ys k 0 → slice_cmp nat_cmp xs ys ≡ Less
before k [] [] same less = absurd (omega (arith, less))
before k [] (y ∷ ys) same less = refl
before k (x ∷ xs) [] same less = absurd (omega (arith, less))
before zero (x ∷ xs) (y ∷ ys) same less = rw (nat_less x y less) refl
before (suc k) (x ∷ xs) (y ∷ ys) same less = rw (nat_same x y (same 0 (omega arith))) (before k xs ys (λ i h. same (suc i) (omega (arith, h))) less)

behind : (k : ℕ) (xs ys : List ℕ) → ((i : ℕ) → i < k → get_or xs i 0 ≡ get_or ys i 0) → get_or ys k 0 < get_or xs k 0 → slice_cmp nat_cmp xs ys ≡ Greater
behind k [] [] same less = absurd (omega (arith, less))
behind k [] (y ∷ ys) same less = absurd (omega (arith, less))
behind k (x ∷ xs) [] same less = refl
behind zero (x ∷ xs) (y ∷ ys) same less = rw (nat_greater x y less) refl
behind (suc k) (x ∷ xs) (y ∷ ys) same less = rw (nat_same x y (same 0 (omega arith))) (behind k xs ys (λ i h. same (suc i) (omega (arith, h))) less)

pub less_by_rank : (n : ℕ) (xs ys : List ℕ) → HasDigits n xs → HasDigits n ys → rank n xs < rank n ys → slice_cmp nat_cmp xs ys ≡ Less
less_by_rank n xs ys dx dy less = (let d = differs n xs ys dx dy less in before d.place xs ys d.same d.less)

pub greater_by_rank : (n : ℕ) (xs ys : List ℕ) → HasDigits n xs → HasDigits n ys → rank n ys < rank n xs → slice_cmp nat_cmp xs ys ≡ Greater
greater_by_rank n xs ys dx dy less = (let d = differs n ys xs dy dx less in behind d.place xs ys (λ i h. sym (d.same i h)) d.less)

-- keys of other ranks are in the order of their ranks
pub by_rank : (xs ys : List ℕ) (a b : ℕ) (o : Ordering) → (a ≡ rank 16 xs) × HasDigits 16 xs → (b ≡ rank 16 ys) × HasDigits 16 ys → nat_cmp a b ≡ o → (o ≡ Equal → ⊥) → o ≡ slice_cmp nat_cmp xs ys
by_rank xs ys a b o kx ky is unequal = elim (cases_lt a b) [
  | inl low ↦ sym is ∙ nat_less a b low ∙ sym (less_by_rank 16 xs ys kx.1 ky.1 (subst (λ n. rank 16 xs < n) ky.0 (subst (λ n. n < b) kx.0 low)))
  | inr high ↦ elim (cases_lt b a) [
    | inl above ↦ sym is ∙ nat_greater a b above ∙ sym (greater_by_rank 16 xs ys kx.1 ky.1 (subst (λ n. rank 16 ys < n) kx.0 (subst (λ n. n < a) ky.0 above)))
    | inr below ↦ absurd (unequal (sym is ∙ nat_same a b (omega (arith, high, below))))
  ]
]

-- the number of 16 bytes is their rank
pub number_is_rank : (xs : List ℕ) (m : ℕ) → m ≡ from_be_bytes w128 xs → m ≡ rank 16 xs
number_is_rank xs m is = omega (arith, is)

pub rank_same : (n : ℕ) (xs ys : List ℕ) → ((i : ℕ) → i < n → get_or xs i 0 ≡ get_or ys i 0) → rank n xs ≡ rank n ys
rank_same zero xs ys same = refl
rank_same (suc n) xs ys same = (let front = rank_same n xs ys (λ i h. same i (omega (arith, h))) in omega (arith, front, same n (omega arith)))

-- zeros behind the first bytes, in place of those that are missing
pub padded : (xs : List ℕ) (len i : ℕ) → len ≤ length xs → (len < length xs → 16 ≤ len) → i < 16 → get_or (take len xs ++ drop len (replicate 16 0)) i 0 ≡ get_or xs i 0
padded xs len i within whole below = elim (cases_lt i len) [
  | inl front ↦ get_or-append (take len xs) _ 0 i (omega (arith, front, long)) ∙ get_or-take len xs i 0 front
  | inr behind ↦
      get_or-append_right (take len xs) (drop len (replicate 16 0)) i 0 (omega (arith, behind, long))
      ∙ get_or-drop len (replicate 16 0) (i - length (take len xs)) 0
      ∙ get_or-replicate 16 (len + (i - length (take len xs))) 0 0 (omega (arith, behind, long, below))
      ∙ sym (get_or-eq_default xs 0 (short (cases_lt len (length xs)) behind))
]
  where
    long : length (take len xs) ≡ len
    long = length-take-le len xs within

    short : (len < length xs) ⊎ (length xs ≤ len) → len ≤ i → length xs ≤ i
    short (inl less) behind = absurd (omega (arith, whole less, behind, below))
    short (inr all) behind = omega (arith, all, behind)

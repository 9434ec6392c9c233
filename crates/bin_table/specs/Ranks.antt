-- The first bytes of a key as one number.
use Rattle.std.specs.Prelude.{ℕ, zero, suc, ◌+◌, ◌*◌, ◌<◌, List, get_or}

-- the number whose n digits of base 256 are the first n bytes, with a 0 for each that is missing
abbrev pub rank : ℕ → List ℕ → ℕ
rank zero bytes = 0
rank (suc n) bytes = rank n bytes * 256 + get_or bytes n 0

-- the first n are bytes
abbrev pub HasDigits : ℕ → List ℕ → Type 0
HasDigits n bytes = (i : ℕ) → i < n → get_or bytes i 0 < 256

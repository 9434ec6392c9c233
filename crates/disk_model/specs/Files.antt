-- Four numbered files: what a read gives of each, and what a stop of the machine may leave.
use Rattle.std.specs.Prelude.{◌≡◌, ℕ, ◌+◌, ◌<◌, ◌≤◌, max, List, [], ◌∷◌, ◌++◌, length, take, drop, slice_index_or, Bool}
use Rattle.std.specs.Prelude.{false, ◌&&◌, ◌||◌, nat_lt, nat_le, ◌==◌, if◌then◌else◌}
use Rattle.std.specs.List.{AllByRecursion, AllByRecursion-prop}
use Rattle.std.specs.Coded.{le_prop}
use Rattle.std.proofs.Common.{refl, arith}
use native.Mathlib.Nat.{ℕ_set}

-- what one write was to write, and from which place on; it may have reached that range
pub record Range : Type 0 where
  pub at : ℕ
  pub bytes : List ℕ

pub record File : Type 0 where
  -- what a read gives
  pub seen : List ℕ
  -- the content at the last successful sync; a stop leaves nothing shorter
  pub base : List ℕ
  -- what was written since then, by a write that succeeded or failed, the newest first
  pub pending : List Range
  -- the greatest end written since then, or the length of base; a stop leaves nothing longer
  pub greatest : ℕ

-- the files by their numbers, of which a disk has those below four
abbrev pub Files : Type 0
Files = ℕ → File

-- the bytes of the files by their numbers
abbrev pub Contents : Type 0
Contents = ℕ → List ℕ

abbrev pub byte_at : ℕ → List ℕ → ℕ
byte_at i bytes = slice_index_or bytes i 0

-- each of them is a byte
abbrev pub AreBytes : List ℕ → Type 0
AreBytes bytes = (i : ℕ) → byte_at i bytes < 256

-- place i is one of the `size` places from `at` on
abbrev pub is_between : ℕ → ℕ → ℕ → Bool
is_between i at size = nat_le at i && nat_lt i (at + size)

abbrev pub is_in : ℕ → Range → Bool
is_in i range = is_between i range.at (length range.bytes)

abbrev pub is_written : ℕ → List Range → Bool
is_written i [] = false
is_written i (range ∷ ranges) = is_in i range || is_written i ranges

-- byte i may hold anything after a stop: a write reached it, or it stands past the old end
abbrev pub is_pending : File → ℕ → Bool
is_pending file i = is_written i file.pending || nat_le (length file.base) i

-- a stop now may leave this content
pub record MayLeave (file : File) (content : List ℕ) : Type 0 where
  pub no_shorter : length file.base ≤ length content
  pub no_longer : length content ≤ file.greatest
  pub bytes : AreBytes content
  pub same : (i : ℕ) → is_pending file i ≡ false → byte_at i content ≡ byte_at i file.seen

-- a stop now may leave these contents of the four files
abbrev pub Leaves : Files → Contents → Type 0
Leaves files contents = (n : ℕ) → n < 4 → MayLeave (files n) (contents n)

-- What every file of a disk keeps: what is not pending reads as at the last successful sync. So what is read is among
-- what a stop may leave.
pub record IsCoherent (file : File) : Type 0 where
  pub no_shorter : length file.base ≤ length file.seen
  pub no_longer : length file.seen ≤ file.greatest
  pub same : (i : ℕ) → is_pending file i ≡ false → byte_at i file.base ≡ byte_at i file.seen
  pub bytes : AreBytes file.seen
  pub base_bytes : AreBytes file.base

abbrev pub AreCoherent : Files → Type 0
AreCoherent files = (n : ℕ) → n < 4 → IsCoherent (files n)

-- the bytes from low up to high are on the disk, and nothing is pending there
pub record IsSure (low high : ℕ) (file : File) : Type 0 where
  pub long : high ≤ length file.base
  pub clear : (i : ℕ) → low ≤ i → i < high → is_written i file.pending ≡ false

-- this content is on the disk, and nothing is pending
abbrev pub at_rest : List ℕ → File
at_rest content = record { seen = content; base = content; pending = []; greatest = length content }

abbrev pub empty_files : Files
empty_files = λ _. at_rest []

-- the files with one of them changed
abbrev pub with_file : ℕ → File → Files → Files
with_file number file files = λ n. if n == number then file else files n

abbrev pub overwritten : ℕ → List ℕ → List ℕ → List ℕ
overwritten at bytes old = take at old ++ (bytes ++ drop (at + length bytes) old)

-- after a write of these bytes at this place, which left this to be read
abbrev pub reached : ℕ → List ℕ → List ℕ → File → File
reached at bytes seen file =
    record {
      seen = seen;
      base = file.base;
      pending = record { at = at; bytes = bytes } ∷ file.pending;
      greatest = max file.greatest (at + length bytes);
    }

-- after a write
abbrev pub written : ℕ → List ℕ → File → File
written at bytes file = reached at bytes (overwritten at bytes file.seen) file

-- After a write of these bytes that failed: any bytes in its range, and any length up to its end. What was pending and
-- the range are pending.
pub record IsTorn (at : ℕ) (bytes : List ℕ) (old new : File) : Type 0 where
  pub before : take at new.seen ≡ take at old.seen
  pub after : drop (at + length bytes) new.seen ≡ drop (at + length bytes) old.seen
  pub no_shorter : length old.seen ≤ length new.seen
  pub no_longer : length new.seen ≤ max (length old.seen) (at + length bytes)
  pub base : new.base ≡ old.base
  pub pending : new.pending ≡ record { at = at; bytes = bytes } ∷ old.pending
  pub greatest : new.greatest ≡ max old.greatest (at + length bytes)

-- after a successful sync
abbrev pub synced : File → File
synced file = at_rest file.seen

-- the present state, of the states after each call of a disk, the newest first
abbrev pub now : List Files → Files
now [] = empty_files
now (files ∷ past) = files

abbrev pub AllCoherent : List Files → Type 0
AllCoherent states = AllByRecursion AreCoherent states

pub empty_coherent : AreCoherent empty_files
empty_coherent n low =
    record {
      no_shorter = omega arith;
      no_longer = omega arith;
      same = λ i h. refl;
      bytes = λ i. omega arith;
      base_bytes = λ i. omega arith;
    }

pub AllCoherent-prop : (states : List Files) → IsProp (AllCoherent states)
AllCoherent-prop states = AllByRecursion-prop AreCoherent (λ files. hlevel (le_prop, ℕ_set)) states

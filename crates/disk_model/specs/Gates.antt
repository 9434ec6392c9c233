-- A gate is one byte of a file. A write of its own opens it, once what stands behind it is on the disk.
-- It is open if the byte is `open_gate`, and closed for every other byte.
use Rattle.std.specs.Prelude.{◌≡◌, ◌≢◌, ℕ, ◌+◌, ◌≤◌, List, ◌∷◌, ◌++◌, length}
use Rattle.disk_model.specs.Files.{File, IsSure, IsTorn, written, synced}

-- The byte of an open gate, A5 in hexadecimal. It isn't 0, the byte that is written to close a gate.
abbrev pub open_gate : ℕ
open_gate = 165

-- these bytes and a closed gate are on the disk; what is behind the gate is read so, and need not be on the disk
pub record IsShut (front behind : List ℕ) (file : File) : Type 0 where
  pub gate : ℕ
  pub rest : List ℕ
  pub seen : file.seen ≡ front ++ gate ∷ (behind ++ rest)
  pub closed : gate ≢ open_gate
  pub sure : IsSure 0 (length front + 1) file

-- what stands before the gate and behind it is on the disk; of the gate nothing is known
pub record IsOpening (front behind : List ℕ) (file : File) : Type 0 where
  pub gate : ℕ
  pub rest : List ℕ
  pub seen : file.seen ≡ front ++ gate ∷ (behind ++ rest)
  pub sure_front : IsSure 0 (length front) file
  pub sure_behind : IsSure (length front + 1) (length front + 1 + length behind) file

-- these bytes, an open gate and what stands behind it are on the disk
pub record IsOpen (front behind : List ℕ) (file : File) : Type 0 where
  pub rest : List ℕ
  pub seen : file.seen ≡ front ++ open_gate ∷ (behind ++ rest)
  pub sure : IsSure 0 (length front + 1 + length behind) file

-- a device call that changes what a stop may leave of one file
pub data Call : Type 0 where
  writes : (at : ℕ) → (bytes : List ℕ) → Call
  syncs : Call

-- it begins at the file's end or before
abbrev pub IsPlaced : Call → File → Type 0
IsPlaced (writes at bytes) file = at ≤ length file.seen
IsPlaced syncs file = Unit {0}

-- the file after a call that succeeded
abbrev pub called : Call → File → File
called (writes at bytes) file = written at bytes file
called syncs file = synced file

-- a call that failed may leave the file so
abbrev pub MayFailTo : Call → File → File → Type 0
MayFailTo (writes at bytes) old new = IsTorn at bytes old new
MayFailTo syncs old new = new ≡ old

-- What is wrong with a sealed checkpoint file: its first fault, and the refusal.
use Rattle.std.specs.Prelude.{◌≡◌, ◌≢◌, ◌⊎◌, ℕ, ◌+◌, ◌%◌, ◌<◌, ◌^◌, ◌==◌, not, nat_lt, if◌then◌else◌, List, [], ◌∷◌}
use Rattle.std.specs.Prelude.{◌++◌, length, take, drop, slice_index_or, Option, None, Some}
use Rattle.std.specs.List.{AllByRecursion}
use Rattle.std.specs.List.Sorted.{IsStrictlySortedBy}
use Rattle.std.specs.Map.{keys_of}
use Rattle.std.specs.Ordering.{nat_cmp}
use Rattle.std.specs.Cmp.Lexicographic.{slice_cmp}
use Rattle.byteorder.specs.Endian.{big_number, big_bytes}
use Rattle.java_hash.specs.Stripes.{is_stripe_count}
use Rattle.map_types.specs.declared.texts.Value.{Value}
use Rattle.map_types.specs.declared.refusals.Refusal.{Refusal}
use Rattle.map_types.specs.declared.refusals.Refusal.TheVariants.{Damaged, WrongVersion}
use Rattle.log_records.specs.Layout.{Layout}
use Rattle.store_layout.specs.Logs.{is_read}
use Rattle.store_layout.specs.Checkpoints.{Section, Checkpoint, IsEntryOf, AreSections, AreMarkedFrom}
use Rattle.store_layout.specs.Checkpoints.{body_length_offset, body_offset, entries_bytes, entry_bytes}
use Rattle.store_layout.specs.Checkpoints.{generation_offset, greatest_mark, greatest_offset, is_sealed, low_offset}
use Rattle.store_layout.specs.Checkpoints.{section_head_bytes, sections_bytes, stripes_offset}

-- ---- the fields, each at its offset

-- the number that `width` bytes from this offset on spell
abbrev pub number_in : ℕ → ℕ → List ℕ → ℕ
number_in width offset content = big_number width (drop offset content)

abbrev pub version_in : List ℕ → ℕ
version_in content = slice_index_or content 1 0

abbrev pub generation_in : List ℕ → ℕ
generation_in content = number_in 8 generation_offset content

abbrev pub low_in : List ℕ → ℕ
low_in content = number_in 8 low_offset content

abbrev pub greatest_in : List ℕ → ℕ
greatest_in content = number_in 8 greatest_offset content

abbrev pub stripes_in : List ℕ → ℕ
stripes_in content = number_in 2 stripes_offset content

abbrev pub body_length_in : List ℕ → ℕ
body_length_in content = number_in 8 body_length_offset content

-- the bytes that the sections are to fill
abbrev pub body_in : List ℕ → List ℕ
body_in content = take (body_length_in content) (drop body_offset content)

-- the checkpoint that the fields name, with these sections
abbrev pub checkpoint_in : List ℕ → List Section → Checkpoint
checkpoint_in content sections =
    record {
      generation = generation_in content;
      low = low_in content;
      stripes = stripes_in content;
      sections = sections;
    }

-- ---- fields that may not be

-- of a file that is sealed, used or not: a version that isn't read, or a generation that belongs into the other file
abbrev pub head_fault : ℕ → List ℕ → Option Refusal
head_fault file content =
    if not (is_sealed content) then None
    else if not (is_read (version_in content)) then Some WrongVersion
    else if not (generation_in content % 2 == file) then Some (Damaged file generation_offset)
    else None

-- of the file that is used: no count of stripes, or a body that reaches past the file
abbrev pub size_fault : ℕ → List ℕ → Option Refusal
size_fault file content =
    if not (is_stripe_count (stripes_in content)) then Some (Damaged file stripes_offset)
    else if nat_lt (length content) (body_offset + body_length_in content) then Some (Damaged file body_length_offset)
    else None

-- ---- the sections

-- well-formed entries of the stripe, in rising order of their keys
pub record AreEntries (layout : Layout) (stripes stripe : ℕ) (entries : List (List ℕ × Value)) : Type 0 where
  pub each : AllByRecursion (IsEntryOf layout stripes stripe) entries
  pub rising : IsStrictlySortedBy (slice_cmp nat_cmp) (keys_of entries)

-- A section's mark and count, then fewer entries than the count, and behind these no entry that may come next.
pub record HasBadEntry (layout : Layout) (stripes stripe : ℕ) (bytes : List ℕ) (offset : ℕ) : Type 0 where
  pub mark : ℕ
  pub count : ℕ
  pub mark_fits : mark < 2 ^ 64
  pub count_fits : count < 2 ^ 32
  pub before : List (List ℕ × Value)
  pub are : AreEntries layout stripes stripe before
  pub rest : List ℕ
  pub spelled : bytes ≡ big_bytes 8 mark ++ (big_bytes 4 count ++ (entries_bytes layout before ++ rest))
  pub fewer : length before < count
  pub none_next : (entry : List ℕ × Value) (others : List ℕ) → rest ≡ entry_bytes layout entry ++ others
      → AreEntries layout stripes stripe (before ++ entry ∷ []) → ⊥
  pub place : offset ≡ section_head_bytes + length (entries_bytes layout before)

-- What is wrong where the section of this stripe is to stand, or the body is to end, and how far from there.
pub data IsFault (layout : Layout) (stripes stripe : ℕ) (bytes : List ℕ) (offset : ℕ) : Type 0 where
  no_head : stripe < stripes → length bytes < section_head_bytes → offset ≡ 0
      → IsFault layout stripes stripe bytes offset
  bad_entry : stripe < stripes → HasBadEntry layout stripes stripe bytes offset
      → IsFault layout stripes stripe bytes offset
  left_over : stripe ≡ stripes → 0 < length bytes → offset ≡ 0 → IsFault layout stripes stripe bytes offset

-- some whole sections, and then a fault
pub record HasFault (layout : Layout) (stripes : ℕ) (body : List ℕ) (offset : ℕ) : Type 0 where
  pub before : List Section
  pub are : AreSections layout stripes 0 before
  pub rest : List ℕ
  pub spelled : body ≡ sections_bytes layout before ++ rest
  pub distance : ℕ
  pub fault : IsFault layout stripes (length before) rest distance
  pub place : offset ≡ length (sections_bytes layout before) + distance

-- all sections are there, but the header names another greatest mark, or a mark is below the low ticket
pub record HasBadMarks (layout : Layout) (content : List ℕ) : Type 0 where
  pub sections : List Section
  pub are : AreSections layout (stripes_in content) 0 sections
  pub one_each : length sections ≡ stripes_in content
  pub spelled : body_in content ≡ sections_bytes layout sections
  pub wrong : (greatest_mark sections ≢ greatest_in content) ⊎ (AreMarkedFrom (low_in content) sections → ⊥)

-- What is wrong with the file that is used, and its refusal.
pub data IsBadCheckpoint (layout : Layout) (file : ℕ) (content : List ℕ) (refusal : Refusal) : Type 0 where
  bad_size : size_fault file content ≡ Some refusal → IsBadCheckpoint layout file content refusal
  bad_section : (offset : ℕ) → size_fault file content ≡ None
      → HasFault layout (stripes_in content) (body_in content) offset
      → refusal ≡ Damaged file (body_offset + offset) → IsBadCheckpoint layout file content refusal
  bad_marks : size_fault file content ≡ None → HasBadMarks layout content → refusal ≡ Damaged file greatest_offset
      → IsBadCheckpoint layout file content refusal

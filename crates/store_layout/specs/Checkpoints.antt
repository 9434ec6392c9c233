-- The bytes of a checkpoint file: a gate, a header, and a section for each stripe.
use Rattle.std.specs.Prelude.{◌≡◌, ℕ, ◌+◌, ◌%◌, ◌<◌, ◌≤◌, ◌^◌, max, Bool, true, ◌&&◌, ◌==◌, nat_le, List, [], ◌∷◌, ◌++◌}
use Rattle.std.specs.Prelude.{length, slice_index_or, Some}
use Rattle.std.specs.List.{AllByRecursion}
use Rattle.std.specs.FinMap as finite
use Rattle.byteorder.specs.Endian.{big_bytes}
use Rattle.disk_model.specs.Gates.{open_gate}
use Rattle.java_hash.specs.Stripes.{is_stripe_count, stripe_of}
use Rattle.map_types.specs.declared.texts.Value.{Value}
use Rattle.map_model.specs.Maps.{Map}
use Rattle.log_records.specs.Layout.{Layout}
use Rattle.log_records.specs.Spelling.{IsText, IsValue, key_bytes, value_bytes}

-- How many bytes the header behind the gate has: version (1), generation (8), low ticket (8), greatest mark (8),
-- stripes (2) and the length of the body (8).
abbrev pub checkpoint_header_bytes : ℕ
checkpoint_header_bytes = 35

-- the place where the body begins, behind the gate (1 byte) and the header
abbrev pub body_offset : ℕ
body_offset = 36

-- The places of the header's fields, behind the gate (1 byte) and the version (1). A refusal names that of the field
-- which is at fault.
abbrev pub generation_offset : ℕ
generation_offset = 2

abbrev pub low_offset : ℕ
low_offset = 10

abbrev pub greatest_offset : ℕ
greatest_offset = 18

abbrev pub stripes_offset : ℕ
stripes_offset = 26

abbrev pub body_length_offset : ℕ
body_length_offset = 28

-- how many bytes stand before the entries of a section: its mark (8) and its count (4)
abbrev pub section_head_bytes : ℕ
section_head_bytes = 12

-- the number of the file that has the checkpoint of this generation
abbrev pub checkpoint_file : ℕ → ℕ
checkpoint_file generation = generation % 2

-- what a stripe held after the first `mark` commands
pub record Section : Type 0 where
  pub mark : ℕ
  pub map : Map

-- the sections of all stripes, in order; the log of this generation goes on from the low ticket
pub record Checkpoint : Type 0 where
  pub generation : ℕ
  pub low : ℕ
  pub stripes : ℕ
  pub sections : List Section

-- a key and its value
abbrev pub entry_bytes : Layout → List ℕ × Value → List ℕ
entry_bytes layout entry = key_bytes layout entry.0 ++ value_bytes (Some entry.1)

-- the entries, one behind the other
abbrev pub entries_bytes : Layout → List (List ℕ × Value) → List ℕ
entries_bytes layout [] = []
entries_bytes layout (entry ∷ entries) = entry_bytes layout entry ++ entries_bytes layout entries

-- mark, count, entries
unfoldable pub marked_bytes : Layout → ℕ → List (List ℕ × Value) → List ℕ
marked_bytes layout mark entries = big_bytes 8 mark ++ (big_bytes 4 (length entries) ++ entries_bytes layout entries)

-- a section has its entries in rising byte order of their keys
abbrev pub section_bytes : Layout → Section → List ℕ
section_bytes layout section = marked_bytes layout section.mark (finite.entries section.map)

-- the sections, one behind the other
abbrev pub sections_bytes : Layout → List Section → List ℕ
sections_bytes layout [] = []
sections_bytes layout (section ∷ sections) = section_bytes layout section ++ sections_bytes layout sections

-- the greatest of the marks
abbrev pub greatest_mark : List Section → ℕ
greatest_mark [] = 0
greatest_mark (section ∷ sections) = max section.mark (greatest_mark sections)

-- version, generation, low ticket, greatest mark, stripes, length of the body
unfoldable pub checkpoint_header : Layout → ℕ → ℕ → ℕ → ℕ → ℕ → List ℕ
checkpoint_header layout generation low greatest stripes body =
    layout.version ∷ (big_bytes 8 generation ++ (big_bytes 8 low
    ++ (big_bytes 8 greatest ++ (big_bytes 2 stripes ++ big_bytes 8 body))))

-- the header of this checkpoint, and its sections: what stands behind the gate
abbrev pub checkpoint_bytes : Layout → Checkpoint → List ℕ
checkpoint_bytes layout k =
    checkpoint_header layout k.generation k.low (greatest_mark k.sections) k.stripes
    (length (sections_bytes layout k.sections)) ++ sections_bytes layout k.sections

-- a well-formed entry whose key belongs to the stripe, of `stripes` stripes
abbrev pub IsEntryOf : Layout → ℕ → ℕ → List ℕ × Value → Type 0
IsEntryOf layout stripes stripe entry =
    IsText layout.key_limit entry.0 × IsValue entry.1 × (stripe_of stripes entry.0 ≡ stripe)

-- a section of the stripe, of `stripes` stripes
pub record IsSection (layout : Layout) (stripes stripe : ℕ) (section : Section) : Type 0 where
  pub mark_fits : section.mark < 2 ^ 64
  pub count_fits : length (finite.entries section.map) < 2 ^ 32
  pub entries : AllByRecursion (IsEntryOf layout stripes stripe) (finite.entries section.map)

-- the sections of the stripes from this one on
abbrev pub AreSections : Layout → ℕ → ℕ → List Section → Type 0
AreSections layout stripes stripe [] = Unit {0}
AreSections layout stripes stripe (section ∷ sections) =
    IsSection layout stripes stripe section × AreSections layout stripes (stripe + 1) sections

-- no mark is below the low ticket
abbrev pub AreMarkedFrom : ℕ → List Section → Type 0
AreMarkedFrom low sections = AllByRecursion (λ section. low ≤ section.mark) sections

-- a checkpoint that may stand in a file
pub record IsWhole (layout : Layout) (k : Checkpoint) : Type 0 where
  pub generation_fits : k.generation < 2 ^ 64
  pub low_fits : k.low < 2 ^ 64
  pub body_fits : length (sections_bytes layout k.sections) < 2 ^ 64
  pub stripes : is_stripe_count k.stripes ≡ true
  pub one_each : length k.sections ≡ k.stripes
  pub sections : AreSections layout k.stripes 0 k.sections
  pub marks : AreMarkedFrom k.low k.sections

-- A sealed checkpoint: an open gate, its header and its sections, then anything.
pub record IsCheckpoint (layout : Layout) (k : Checkpoint) (content : List ℕ) : Type 0 where
  pub rest : List ℕ
  pub bytes : content ≡ open_gate ∷ (checkpoint_bytes layout k ++ rest)
  pub whole : IsWhole layout k

-- an open gate, and room for a header behind it
abbrev pub is_sealed : List ℕ → Bool
is_sealed content = nat_le body_offset (length content) && slice_index_or content 0 0 == open_gate

-- the gate reads open, or there is none
abbrev pub is_to_close : List ℕ → Bool
is_to_close [] = true
is_to_close (gate ∷ rest) = gate == open_gate

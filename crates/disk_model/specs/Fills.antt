-- What a fill picks: of what a stop may leave, and of what a failed write may leave to be read.
use Rattle.std.specs.Prelude.{ℕ, ◌+◌, ◌<◌, max, min, List, length, take, map, slice_index_or, nat_lt, if◌then◌else◌}
use Rattle.std.specs.Prelude.{sum}
use Rattle.std.specs.List.{filter, range_with_len}
use Rattle.disk_model.specs.Files.{File, Files, Contents, AreBytes, byte_at, is_pending, overwritten, reached, at_rest}
use Rattle.disk_model.specs.declared.fill.Fill.{Fill}
use Rattle.disk_model.specs.declared.fill.Fill.TheVariants.{Old, New, Byte, Chosen}

-- its bytes are bytes
abbrev pub HasBytes : Fill → Type 0
HasBytes Old = Unit {0}
HasBytes New = Unit {0}
HasBytes (Byte byte) = byte < 256
HasBytes (Chosen bytes lens) = AreBytes bytes.items

-- the list of f 0, f 1, up to n of them
abbrev pub bytes_by : ℕ → (ℕ → ℕ) → List ℕ
bytes_by n f = map f (range_with_len 0 n)

-- brought between two bounds
abbrev pub within : ℕ → ℕ → ℕ → ℕ
within low high n = max low (min high n)

-- ---- at a stop

-- how many of the first n bytes are pending
abbrev pub pending_below : File → ℕ → ℕ
pending_below file n = length (filter (is_pending file) (range_with_len 0 n))

-- how many bytes are pending in the files before this one
abbrev pub pending_before : Files → ℕ → ℕ
pending_before files number = sum (map (λ n. pending_below (files n) (files n).greatest) (range_with_len 0 number))

abbrev pub length_left : Fill → ℕ → File → ℕ
length_left Old number file = length file.base
length_left New number file = length file.seen
length_left (Byte byte) number file = file.greatest
length_left (Chosen bytes lens) number file = within (length file.base) file.greatest (slice_index_or lens number 0)

-- Byte i of a file, if `count` pending bytes are before it, counting those of the files before this one.
abbrev pub byte_left : Fill → ℕ → File → ℕ → ℕ
byte_left Old count file i = byte_at i file.base
byte_left New count file i = byte_at i file.seen
byte_left (Byte byte) count file i = if is_pending file i then byte else byte_at i file.seen
byte_left (Chosen bytes lens) count file i =
    if is_pending file i then slice_index_or bytes.items count (byte_at i file.seen) else byte_at i file.seen

-- the contents that the fill picks; chosen bytes go to pending bytes in order of file and place
abbrev pub left_by : Fill → Files → Contents
left_by fill files = λ number.
    bytes_by (length_left fill number (files number))
    (λ i. byte_left fill (pending_before files number + pending_below (files number) i) (files number) i)

-- the life after a stop begins with those contents, and nothing is pending
abbrev pub after_stop : Fill → Files → Files
after_stop fill files = λ number. at_rest (left_by fill files number)

-- ---- at a failing write of these bytes

abbrev pub length_torn : Fill → ℕ → ℕ → List ℕ → File → ℕ
length_torn Old number at bytes file = length file.seen
length_torn New number at bytes file = max (length file.seen) (at + length bytes)
length_torn (Byte byte) number at bytes file = max (length file.seen) (at + length bytes)
length_torn (Chosen chosen lens) number at bytes file =
    within (length file.seen) (max (length file.seen) (at + length bytes)) (slice_index_or lens number 0)

-- the byte of the range that stands i places behind its beginning
abbrev pub byte_torn : Fill → ℕ → List ℕ → File → ℕ → ℕ
byte_torn Old at bytes file i =
    if nat_lt (at + i) (length file.base) then byte_at (at + i) file.base else byte_at (at + i) file.seen
byte_torn New at bytes file i = byte_at i bytes
byte_torn (Byte byte) at bytes file i = byte
byte_torn (Chosen chosen lens) at bytes file i = slice_index_or chosen.items i (byte_at i bytes)

abbrev pub bytes_torn : Fill → ℕ → List ℕ → File → List ℕ
bytes_torn fill at bytes file = bytes_by (length bytes) (byte_torn fill at bytes file)

abbrev pub seen_torn : Fill → ℕ → ℕ → List ℕ → File → List ℕ
seen_torn fill number at bytes file =
    take (length_torn fill number at bytes file) (overwritten at (bytes_torn fill at bytes file) file.seen)

abbrev pub torn : Fill → ℕ → ℕ → List ℕ → File → File
torn fill number at bytes file = reached at bytes (seen_torn fill number at bytes file) file

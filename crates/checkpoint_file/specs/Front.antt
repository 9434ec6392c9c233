-- Where the reader of a checkpoint's file has come to.
use Rattle.std.specs.Prelude.{◌≡◌, ◌<◌, ◌≤◌, ◌^◌, ◌+◌, ℕ, min}
use Rattle.file_pieces.specs.Pieces.{ReaderState, end_of, pieces_in}
use Rattle.checkpoint_file.specs.declared.unread.Unread.{Unread}

-- The most bytes of an entry, whatever its version: the length of its key (at most 2), a key of 4,095, and a text of
-- 4,096 behind its kind and its length (3).
abbrev pub most_entry_bytes : ℕ
most_entry_bytes = 8196

-- The reader has not let go of what is unread, all of which the file has, and has read no piece behind it.
pub record IsBefore (reader : ReaderState) (unread : Unread) : Type 0 where
  pub file : reader.file ≡ unread.file
  pub some : unread.file < 4
  pub held : reader.from ≤ unread.at
  pub inside : unread.at + unread.left ≤ reader.len
  pub fits : unread.at + unread.left < 2 ^ 64
  pub no_more : pieces_in (end_of reader) ≤ pieces_in (unread.at + unread.left)

-- besides, the reader has read as far as the unread bytes
pub record IsAt (reader : ReaderState) (unread : Unread) : Type 0 where
  pub before : IsBefore reader unread
  pub reached : unread.at ≤ end_of reader

-- the next bytes were read, as many as the longest entry has, or all if these are fewer
abbrev pub Reaches : ReaderState → Unread → Type 0
Reaches reader unread = unread.at + min unread.left most_entry_bytes ≤ end_of reader

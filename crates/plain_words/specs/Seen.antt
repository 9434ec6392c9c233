-- What each pass has seen, as numbers.
use Rattle.std.specs.Prelude.{◌≡◌, ℕ, ◌<◌, max, List, length, slice_index_or, slice_set}
use Rattle.ticket_order.specs.declared.record.Purpose.{Purpose}
use Rattle.ticket_order.specs.declared.record.Purpose.TheVariants.{Answer}
use Rattle.ticket_order.specs.Records.{reach}
use Rattle.one_history.specs.declared.book.Book.{Book}
use Rattle.one_history.specs.Turns.{record_of}

-- of each pass, the greatest position that it has seen
pub record HaveSeen (seen : List ℕ) (b : Book) : Type 0 where
  pub count : length seen ≡ length b.passes
  pub each : (j : ℕ) → j < length b.passes → slice_index_or seen j 0 ≡ reach (record_of j b)

-- the pass j has seen up to n, if it had not before
abbrev pub raised : ℕ → ℕ → List ℕ → List ℕ
raised j n seen = slice_set seen j (max (slice_index_or seen j 0) n)

-- GIVE: a read has seen the changes of its stripe, of which the last is before `last`
abbrev pub raised_by : Purpose → ℕ → ℕ → List ℕ → List ℕ
raised_by (Answer r) j last seen = raised j last seen
raised_by p j last seen = seen

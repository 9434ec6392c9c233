-- What callers see of a lock and of a loan.
use Rattle.std.specs.Prelude.{◌≡◌, Option}
use Rattle.std.specs.declared.snapshot.Snapshot.{Snapshot}
use Rattle.atomic_table.specs.declared.shared.Seat.{Seat}
use Rattle.keyed_lock.specs.declared.guarding.KeyedLock.{KeyedLock}
use Rattle.keyed_lock.specs.declared.guarding.Loan.{Loan}
use Rattle.keyed_lock.specs.Guarding.{HasSlot}

module _ {T K : Type 0} where
  -- the key that the lock was made with
  abbrev pub key_of : KeyedLock T K → K
  key_of lock = lock.table.shared.key.value

  -- the seat has the lock's slot
  abbrev pub IsOutOf : KeyedLock T K → Seat (Option T) (Snapshot K) → Type 0
  IsOutOf lock seat = (seat.table_id ≡ lock.table.shared.table_id) × HasSlot seat.me

  -- the loan is this lock's
  abbrev pub IsLoanOf : KeyedLock T K → Loan T K → Type 0
  IsLoanOf lock loan = IsOutOf lock loan.seat

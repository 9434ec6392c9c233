-- What callers see of the shared stripes and of a pass.
use Rattle.std.specs.Prelude.{◌≡◌, ℕ, ◌<◌, List, ◌∷◌}
use Rattle.atomic_table.specs.Seated.{TableId}
use Rattle.ticket_order.specs.declared.record.Opening.{Opening}
use Rattle.ticket_order.specs.declared.record.Record.{Record}
use Rattle.stripe_locks.specs.declared.rule.Pass.{Pass}
use Rattle.stripe_locks.specs.declared.stripes.Stripes.{Stripes}
use Rattle.stripe_locks.specs.Plays.{joining}

-- all that the pass did and saw
abbrev pub recorded : Pass → Record
recorded p = p.seat.me.0.pass

abbrev pub stripe_count : Stripes → ℕ
stripe_count s = s.count.count

-- the pass comes from these stripes
abbrev pub IsPassOf : Stripes → Pass → Type 0
IsPassOf s p = p.seat.table_id ≡ s.table.shared.table_id

-- the numbers that tell a table from every other
abbrev pub name_of : TableId → List ℕ
name_of z = z.words ∷ z.slots ∷ z.views_name ∷ z.atom ∷ z.block ∷ z.offset ∷ z.slot_names

abbrev pub IsSamePass : Pass → Pass → Type 0
IsSamePass p q = (q.seat.table_id ≡ p.seat.table_id) × (q.seat.id ≡ p.seat.id)

-- where the history of the stripes begins
abbrev pub begun_with : Stripes → Opening
begun_with s = s.table.shared.key.opening

-- the pass came after fewer than 4,096 others, and has made no step
pub record Joins (o : Opening) (p : Pass) : Type 0 where
  pub found : ℕ
  pub few : found < 4096
  pub is : recorded p ≡ joining o found

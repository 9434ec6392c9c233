-- What callers see of a held reply: its position, its reply, and the stripes on which its call was made.
use Rattle.std.specs.Prelude.{◌≡◌, ℕ, List}
use Rattle.std.specs.List.{Contains}
use Rattle.map_types.specs.declared.commands.Reply.{Reply}
use Rattle.ticket_order.specs.declared.held.Released.{Released}
use Rattle.ticket_order.specs.declared.held.Released.TheVariants as ticketed
use Rattle.ticket_order.specs.declared.record.Asked.{Asked}
use Rattle.ticket_order.specs.Records.{call}
use Rattle.stripe_locks.specs.declared.held.Held.{Held}
use Rattle.stripe_locks.specs.declared.held.Released as over_stripes
use Rattle.stripe_locks.specs.declared.held.Released.TheVariants as released
use Rattle.stripe_locks.specs.declared.stripes.Stripes.{Stripes}
use Rattle.stripe_locks.specs.Passes.{recorded, name_of, IsPassOf}

abbrev pub position_of : Held → ℕ
position_of h = h.held.position

abbrev pub reply_of : Held → Reply
reply_of h = h.held.reply

-- A pass of these stripes made the call, and this is its answer.
pub record IsHeldOf (s : Stripes) (h : Held) : Type 0 where
  pub own : IsPassOf s h.maker.value
  pub asked : Asked
  pub made : Contains (recorded h.maker.value).calls (call (position_of h) asked (reply_of h))

-- the numbers that tell the words of these stripes from those of all others
abbrev pub name_of_words : Stripes → List ℕ
name_of_words s = name_of s.table.shared.table_id

-- it is held of stripes whose words have this name
pub record IsHeldAt (name : List ℕ) (h : Held) : Type 0 where
  pub stripes : Stripes
  pub named : name_of_words stripes ≡ name
  pub held : IsHeldOf stripes h

-- what a release returned, but for whose reply it is
abbrev pub answer_of : over_stripes.Released → Released
answer_of (released.Reply position reply) = ticketed.Reply position reply
answer_of (released.NotYet h) = ticketed.NotYet h.held
answer_of released.Failed = ticketed.Failed

-- a reply that is still held is one of these stripes
abbrev pub StaysHeldOf : Stripes → over_stripes.Released → Type 0
StaysHeldOf s (released.Reply position reply) = Unit {0}
StaysHeldOf s (released.NotYet h) = IsHeldOf s h
StaysHeldOf s released.Failed = Unit {0}

-- What holds of a store in memory between two of its calls.
use Rattle.std.specs.Prelude.{◌≡◌, List, None}
use Rattle.std.specs.List.{All}
use Rattle.stripe_locks.specs.declared.held.Held.{Held}
use Rattle.stripe_locks.specs.declared.rule.Pass.{Pass}
use Rattle.stripe_locks.specs.declared.stripes.Stripes.{Stripes}
use Rattle.stripe_locks.specs.Holding.{IsHeldOf, name_of_words}
use Rattle.stripe_locks.specs.Passes.{recorded, IsPassOf}

-- The journal's pass is of the words of these stripes. The worker is of these stripes, and holds none.
-- So are the replies.
abbrev pub IsStore : Stripes → Stripes → Pass → List Held → Type 0
IsStore kept stripes worker held = (name_of_words kept ≡ name_of_words stripes)
    × IsPassOf stripes worker × ((recorded worker).holding ≡ None) × All (IsHeldOf stripes) held

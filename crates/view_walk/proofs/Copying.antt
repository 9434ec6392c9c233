-- What a view has copied of the parts that were lent.
use Rattle.std.proofs.Common.{◌≡◌, ◌++◌, List, [], ◌∷◌}
use Rattle.std.specs.FinMap as finite
use Rattle.ticket_order.specs.declared.record.Section.{Section}
use Rattle.view_walk.specs.declared.walk.Captured.{Captured}
use Rattle.view_walk.specs.Viewing.{Shows}

-- one more
pub shows_more : (zs : List Captured) (xs : List Section) (z : Captured) (x : Section) → z.mark ≡ x.mark → z.entries.items ≡ finite.entries x.part → Shows zs xs → Shows (zs ++ z ∷ []) (xs ++ x ∷ [])
shows_more [] [] z x mark entries s = (mark, entries, tt)
shows_more [] (y ∷ xs) z x mark entries s = absurd s
shows_more (y ∷ zs) [] z x mark entries s = absurd s
shows_more (y ∷ zs) (v ∷ xs) z x mark entries s = (s.0, s.1, shows_more zs xs z x mark entries s.2)

-- The entry of a change that was made.
use Rattle.std.proofs.Common.{◌≡◌, ℕ, ◌+◌, List, [], ◌∷◌, ◌++◌, length, sym, ap, subst, arith}
use Rattle.std.specs.List.{Contains}
use Rattle.std.proofs.lemmas.List.{length-append}
use Rattle.std.proofs.lemmas.List.Elements.{Contains-append_right}
use Rattle.map_types.specs.declared.commands.Command.{Command}
use Rattle.map_types.specs.declared.commands.Reply.{Reply}
use Rattle.ticket_order.specs.declared.record.Record.{Record}
use Rattle.ticket_order.specs.Records.{entry}
use Rattle.ticket_order.specs.Legality.{entries_from}
use Rattle.ticket_order.specs.Calls.{MakesCall}
use Rattle.wire_frames.specs.declared.requests.Request.{Request}
use Rattle.wire_frames.specs.declared.requests.Request.TheVariants.{Change, Read as AskRead, Bulk as AskBulk}
use Rattle.cmd_mem.specs.Served.{AreTaken, IsTaken, Makes}

last_there : (t : ℕ) (xs : List Command) (c : Command) → Contains (entries_from t (xs ++ c ∷ [])) (entry (t + length xs) c)
last_there t [] c = (0, omega arith, ap (λ k. entry k c) (omega arith))
last_there t (x ∷ xs) c =
    subst (λ k. Contains (entries_from t ((x ∷ xs) ++ c ∷ [])) (entry k c)) (omega arith)
    (Contains-append_right (entry t x ∷ []) (entries_from (t + 1) (xs ++ c ∷ [])) (entry ((t + 1) + length xs) c) (last_there (t + 1) xs c))

own_at : (first position ticket : ℕ) (xs seen : List Command) (c : Command) → seen ≡ xs ++ c ∷ [] → position ≡ first + length seen → position ≡ ticket + 1 → Contains (entries_from first seen) (entry ticket c)
own_at first position ticket xs seen c is at next =
    subst (λ z. Contains (entries_from first z) (entry ticket c)) (sym is)
    (subst (λ k. Contains (entries_from first (xs ++ c ∷ [])) (entry k c)) (omega (arith, at, next, ap (λ (z : List Command). length z) is, length-append xs (c ∷ []))) (last_there first xs c))

own_call : (n : ℕ) (v : Record) (c : Command) (position : ℕ) (reply : Reply) (made w : Record) → MakesCall n v c position reply made → AreTaken position made w → IsTaken (Change c) position w
own_call n v c position reply made w k all = λ ticket next.
    all (entry ticket c) (own_at made.opening.first position ticket _ made.seen c (ap (λ (r : Record). r.seen) k.is) k.position_is next) (omega (arith, next))

pub own_taken : (n : ℕ) (v : Record) (request : Request) (position : ℕ) (reply : Reply) (made w : Record) → Makes n v request position reply made → AreTaken position made w → IsTaken request position w
own_taken n v (Change c) position reply made w k all = own_call n v c position reply made w k all
own_taken n v (AskRead r) position reply made w k all = tt
own_taken n v (AskBulk b) position reply made w k all = tt

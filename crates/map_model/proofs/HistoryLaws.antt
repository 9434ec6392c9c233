-- A call is legal where it stands.
use Rattle.std.proofs.Common.{◌≡◌, ℕ, ◌+◌, ◌-◌, List, [], ◌∷◌, ◌++◌, length, take, Some, slice_get, refl, sym, ap, arith, length-append}
use Rattle.map_types.specs.declared.commands.Command.{Command}
use Rattle.map_types.specs.declared.commands.Read.{Read}
use Rattle.map_model.specs.Steps.{step, answer, map_after}
use Rattle.map_model.specs.Histories.{History, fold_to, IsLegalChange, IsLegalRead}

past_first : (first n : ℕ) → first + n - first ≡ n
past_first first n = omega arith

take_front : (before rest : List Command) → take (length before) (before ++ rest) ≡ before
take_front [] rest = refl
take_front (b ∷ before) rest = ap (λ xs. b ∷ xs) (take_front before rest)

get_next : (before after : List Command) (c : Command) → slice_get (before ++ (c ∷ after)) (length before) ≡ Some c
get_next [] after c = refl
get_next (b ∷ before) after c = get_next before after c

pub fold_to_front : (h : History) (before rest : List Command) → h.commands ≡ before ++ rest → fold_to h (h.first + length before) ≡ map_after h.opening before
fold_to_front h before rest is =
    let front : take (h.first + length before - h.first) h.commands ≡ before = rw (past_first h.first (length before), is) (take_front before rest) in
    ap (map_after h.opening) front

pub legal_change : (h : History) (before after : List Command) (c : Command) → h.commands ≡ before ++ (c ∷ after) → IsLegalChange h (h.first + length before + 1) c (step (map_after h.opening before) c).reply
legal_change h before after c is = record {
  ticket = h.first + length before;
  position_is = refl;
  from_first = omega arith;
  command = rw (past_first h.first (length before), is) (get_next before after c);
  reply_is = ap (λ m. (step m c).reply) (sym (fold_to_front h before (c ∷ after) is));
}

pub legal_read : (h : History) (before after : List Command) (r : Read) → h.commands ≡ before ++ after → IsLegalRead h (h.first + length before) r (answer (map_after h.opening before) r)
legal_read h before after r is = record {
  from_first = omega arith;
  within = rw is (omega (arith, length-append before after));
  reply_is = ap (λ m. answer m r) (sym (fold_to_front h before after is));
}

-- The map of a list of entries, as entries are added and taken out.
use Rattle.std.proofs.Common.{◌≡◌, ℕ, ◌+◌, Bool, true, false, cond, is_some, Option, None, Some, List, [], ◌∷◌, length, refl, sym, ap, ◌∙◌, arith}
use Rattle.std.specs.Ordering.{nat_cmp}
use Rattle.std.specs.Cmp.Lexicographic.{slice_cmp, nat_list_cmp_total}
use Rattle.std.specs.FinMap as finite
use Rattle.map_types.specs.declared.texts.Value.{Value}
use Rattle.map_model.specs.Maps.{Map}
use Rattle.bin_table.specs.Chains.{Entries, find_in, HasDistinctKeys, map_of}
use Rattle.map_model.proofs.MapLaws.{ties, same_gets}
use Rattle.bin_table.proofs.DetachLaws.{detached, find-detached_all}

pub get-map_of : (es : Entries) (q : List ℕ) → finite.get (map_of es) q ≡ find_in q es
get-map_of es q = finite.get-from_entries nat_list_cmp_total es q

pub map_of-detached : (k : List ℕ) (es : Entries) → HasDistinctKeys es → map_of (detached k es []) ≡ finite.remove (map_of es) k
map_of-detached k es one = same_gets _ _ (λ q.
    get-map_of (detached k es []) q ∙ find-detached_all q k es one
    ∙ sym (finite.get-remove nat_list_cmp_total (map_of es) k q ∙ ap (cond (ties q k) None) (get-map_of es q)))

twice : (t : Bool) (v : Value) (o : Option Value) → cond t (Some v) (cond t None o) ≡ cond t (Some v) o
twice true v o = refl
twice false v o = refl

pub insert-remove : (m : Map) (k : List ℕ) (v : Value) → finite.insert (finite.remove m k) k v ≡ finite.insert m k v
insert-remove m k v = same_gets _ _ (λ q.
    finite.get-insert nat_list_cmp_total (finite.remove m k) k v q
    ∙ ap (cond (ties q k) (Some v)) (finite.get-remove nat_list_cmp_total m k q)
    ∙ twice (ties q k) v (finite.get m q)
    ∙ sym (finite.get-insert nat_list_cmp_total m k v q))

pub len-map_of : (es : Entries) → HasDistinctKeys es → finite.len (map_of es) ≡ length es
len-map_of [] one = finite.len-empty (slice_cmp nat_cmp) Value
len-map_of (e ∷ es) one =
    let m = map_of es in
    let longer : finite.len (finite.insert m e.0 e.1) ≡ finite.len m + 1 = finite.len-insert nat_list_cmp_total m e.0 e.1 ∙ ap (λ o. cond (is_some o) (finite.len m) (finite.len m + 1)) (get-map_of es e.0 ∙ one.0) in
    let rest : finite.len m ≡ length es = len-map_of es one.1 in
    omega arith

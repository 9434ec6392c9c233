-- Lanes in which all that was due is made.
use Rattle.std.proofs.Common.{◌≡◌, ℕ, zero, suc, ◌<◌, List, [], ◌∷◌, ◌++◌, length, map, false, refl, sym, ap, ap₂, subst, ◌∙◌, arith}
use Rattle.std.proofs.lemmas.List.{map-append}
use Rattle.std.specs.List.{AllByRecursion}
use Rattle.map_model.specs.Maps.{Map}
use Rattle.map_model.specs.Laws.{PartsMakeTheMap}
use Rattle.map_model.specs.Steps.{map_after, step}
use Rattle.map_model.proofs.FoldLaws.{map_after-append}
use Rattle.atomic_methods.specs.PartState.{PartState}
use Rattle.recovery.specs.declared.due.Due.{Due}
use Rattle.recovery.specs.declared.lanes.Lane.{Lane}
use Rattle.recovery.specs.Dividing.{ArePartsOf, IsDivided}
use Rattle.recovery.specs.Lanes.{AreLanesOf, AreTaken, HasRun, IsLaid, IsLaidFor, RunsEach, commands_due, content_map, promised}
use Rattle.recovery.proofs.DividingLemmas.{all_push, own_parts}
use Rattle.recovery.proofs.GroupingLemmas.{many_made}

-- ---- changes in their order

pub made_next : (m : Map) (changes : List Due) (change : Due) → map_after m (commands_due (changes ++ change ∷ [])) ≡ (step (map_after m (commands_due changes)) change.command).map
made_next m changes change =
    ap (map_after m) (map-append (λ (due : Due). due.command) changes (change ∷ [])) ∙ map_after-append m (commands_due changes) (change.command ∷ [])

-- ---- all lanes

abbrev pub IsDone : Lane → Type 0
IsDone lane = lane.due.items ≡ []

later : (x y : Lane) (old new : List Lane) → RunsEach (x ∷ old) (y ∷ new) → RunsEach old new
later x y old new each i d low = each (suc i) d (omega (arith, low))

pub all_done : (old new : List Lane) → length new ≡ length old → AllByRecursion (λ (lane : Lane). lane.is_refused ≡ false) new → RunsEach old new → AllByRecursion IsDone new
all_done [] [] size unrefused each = tt
all_done [] (y ∷ new) size unrefused each = absurd (omega (arith, size))
all_done (x ∷ old) [] size unrefused each = absurd (omega (arith, size))
all_done (x ∷ old) (y ∷ new) size unrefused each =
    ((each zero y (omega arith) unrefused.0).none, all_done old new (omega (arith, size)) unrefused.1 (later x y old new each))

kept_one : (x y : Lane) → HasRun x y → promised y ≡ promised x
kept_one x y run = ap (λ (l : List Due). map_after (content_map y.content) (commands_due l)) run.none ∙ run.map

laid_one : (n : ℕ) (x y : Lane) → HasRun x y → IsLaidFor n x → IsLaidFor n y
laid_one n x y run before = record {
  stripes_are = ap (λ s. s.count) run.stripes ∙ before.stripes_are;
  laid = subst (λ k. IsLaid k y.content) before.stripes_are (run.laid (subst (λ k. IsLaid k x.content) (sym before.stripes_are) before.laid));
}

kept_maps : (old new : List Lane) → length new ≡ length old → AllByRecursion (λ (lane : Lane). lane.is_refused ≡ false) new → RunsEach old new → map promised new ≡ map promised old
kept_maps [] [] size unrefused each = refl
kept_maps [] (y ∷ new) size unrefused each = absurd (omega (arith, size))
kept_maps (x ∷ old) [] size unrefused each = absurd (omega (arith, size))
kept_maps (x ∷ old) (y ∷ new) size unrefused each =
    ap₂ (λ (m : Map) (ms : List Map). m ∷ ms) (kept_one x y (each zero y (omega arith) unrefused.0))
    (kept_maps old new (omega (arith, size)) unrefused.1 (later x y old new each))

kept_laid : (n : ℕ) (old new : List Lane) → length new ≡ length old → AllByRecursion (λ (lane : Lane). lane.is_refused ≡ false) new → RunsEach old new
    → AllByRecursion (IsLaidFor n) old → AllByRecursion (IsLaidFor n) new
kept_laid n [] [] size unrefused each laid = tt
kept_laid n [] (y ∷ new) size unrefused each laid = absurd (omega (arith, size))
kept_laid n (x ∷ old) [] size unrefused each laid = absurd (omega (arith, size))
kept_laid n (x ∷ old) (y ∷ new) size unrefused each laid =
    (laid_one n x y (each zero y (omega arith) unrefused.0) laid.0, kept_laid n old new (omega (arith, size)) unrefused.1 (later x y old new each) laid.1)

pub all_run : (n : ℕ) (m : Map) (old new : List Lane) → length new ≡ length old → AllByRecursion (λ (lane : Lane). lane.is_refused ≡ false) new → RunsEach old new → AreLanesOf n m old → AreLanesOf n m new
all_run n m old new size unrefused each are = record {
  maps = kept_maps old new size unrefused each ∙ are.maps;
  laid = kept_laid n old new size unrefused each are.laid;
}

-- ---- the parts

pub one_taken : (lanes : List Lane) (parts : List PartState) (lane : Lane) (part : PartState) → AreTaken lanes parts → part.map ≡ content_map lane.content
    → (IsLaid lane.stripes.count lane.content → part.growth.stripes ≡ lane.stripes.count) → AreTaken (lanes ++ lane ∷ []) (parts ++ part ∷ [])
one_taken lanes parts lane part taken map_is laid_is = record {
  maps = map-append (λ (p : PartState). p.map) parts (part ∷ []) ∙ ap₂ (λ (ms : List Map) (m : Map). ms ++ m ∷ []) taken.maps map_is
      ∙ sym (map-append (λ (l : Lane). content_map l.content) lanes (lane ∷ []));
  laid = λ n laid.
      let last = last_laid n lanes lane laid in
      all_push _ parts part (taken.laid n (first_laid n lanes lane laid))
      (laid_is (subst (λ k. IsLaid k lane.content) (sym last.stripes_are) last.laid) ∙ last.stripes_are);
}
  where
    first_laid : (n : ℕ) (xs : List Lane) (x : Lane) → AllByRecursion (IsLaidFor n) (xs ++ x ∷ []) → AllByRecursion (IsLaidFor n) xs
    first_laid n [] x all = tt
    first_laid n (y ∷ xs) x all = (all.0, first_laid n xs x all.1)

    last_laid : (n : ℕ) (xs : List Lane) (x : Lane) → AllByRecursion (IsLaidFor n) (xs ++ x ∷ []) → IsLaidFor n x
    last_laid n [] x all = all.0
    last_laid n (y ∷ xs) x all = last_laid n xs x all.1

done_maps : (lanes : List Lane) → AllByRecursion IsDone lanes → map (λ (lane : Lane). content_map lane.content) lanes ≡ map promised lanes
done_maps [] done = refl
done_maps (x ∷ lanes) done =
    ap₂ (λ (m : Map) (ms : List Map). m ∷ ms) (sym (ap (λ (l : List Due). map_after (content_map x.content) (commands_due l)) done.0)) (done_maps lanes done.1)

-- with nothing due the parts are those of the map
pub divided_of : (n : ℕ) (m : Map) (lanes : List Lane) (parts : List PartState) → AllByRecursion IsDone lanes → AreTaken lanes parts → AreLanesOf n m lanes → IsDivided n m parts
divided_of n m lanes parts done taken are = record { maps = taken.maps ∙ done_maps lanes done ∙ are.maps; laid = taken.laid n are.laid }

pub own_of : (law : PartsMakeTheMap) (n : ℕ) (some : 0 < n) (m : Map) (parts : List PartState) → IsDivided n m parts → ArePartsOf n parts
own_of law n some m parts divided = record { one_each = many_made (λ (part : PartState). part.map) n m parts divided.maps; own = own_parts law n some m parts divided.maps divided.laid }

use borrow.Author.Count.{below_more}
use Rattle.std.proofs.Common.{◌≡◌, ◌<◌, false, List, length, get_or, set, sym, subst, ◌∙◌, arith}
use Rattle.std.proofs.lemmas.List.{get_or-set_same, get_or-set_other, get_or_default, length-set}
use Rattle.recovery.specs.declared.lanes.Lane.{Lane}
use Rattle.recovery.specs.Lanes.{HasRun}
use Rattle.recovery.proofs.running.run_all.Goals as goal

pub loop-place-preserved : goal.loop-place-preserved
loop-place-preserved c =
    let k = c.loop-place.place in
    let xs : List Lane = c.args.lanes.now in
    let ys : List Lane = c.loop-place.lanes in
    let y : Lane = c.run.new.self in
    let inv = c.loop-place.invariant in
    let R : Lane → Lane → Type 0 = λ old new. new.is_refused ≡ false → HasRun old new in
    let low : k < length ys = omega arith in
    record {
      len = length-set ys k y ∙ inv.len;
      others = λ i d above. get_or-set_other ys k i y d (λ e. omega (arith, above, e)) ∙ inv.others i d (omega (arith, above));
      run = λ i d below. below_more (λ j. R (get_or xs j d) (get_or (set ys k y) j d)) k
          (λ j less. subst (R (get_or xs j d)) (sym (get_or-set_other ys k j y d (λ e. omega (arith, less, e)))) (inv.run j d less))
          (subst (R (get_or xs k d)) (sym (get_or-set_same ys k y d low))
          (subst (λ x. R x y) (get_or_default ys k _ d low ∙ inv.others k d (omega arith)) c.run.ensures))
          i below;
    }

pub returns : goal.returns
returns c =
    let inv = c.loop-place.invariant in
    record { len = inv.len; each = λ i d low. inv.run i d (omega (arith, low)) }

use Rattle.std.proofs.Common.{◌≡◌, ◌+◌, ◌-◌, length, ap, arith}
use mir.Val.{bool_byte}
use Rattle.disk_model.specs.Fills.{pending_below}
use Rattle.disk_model.proofs.FillLemmas.{pending_more, pending_past, at_most_one}
use Rattle.disk_model.proofs.kept.Kept.pending_count.Goals as goal

pub loop-place-preserved : goal.loop-place-preserved
loop-place-preserved c = (
  omega (arith, c.loop-place.invariant.0, c.from-count.ensures, at_most_one c.is_pending.result),
  λ file h. omega (arith, c.loop-place.invariant.1 file h, c.from-count.ensures, ap bool_byte (c.is_pending.ensures file h), pending_more file c.loop-place.place),
)

pub returns-clause-exact : goal.returns-clause-exact
returns-clause-exact c = λ file h long.
    let size : length file.base ≡ c.loop-place.place = omega (arith, h.marks) in
    let whole : length file.base + (file.greatest - length file.base) ≡ file.greatest = omega arith in
    let end = ap (λ k. pending_below file k) whole in
    let start = ap (λ k. pending_below file k) size in
    omega (arith, c.loop-place.invariant.1 file h, pending_past file (file.greatest - length file.base), end, start, h.greatest, h.marks, c.saturating_sub.ensures)

use Rattle.std.proofs.Common.{◌≡◌, ℕ, ◌+◌, ◌∙◌, ap, arith}
use mir.Val.{bool_byte}
use Rattle.disk_model.specs.Fills.{pending_below, byte_left}
use Rattle.disk_model.proofs.FillLemmas.{bytes_by_more, pending_more, at_most_one}
use Rattle.disk_model.proofs.kept.Kept.left.Goals as goal

pub loop-place-preserved : goal.loop-place-preserved
loop-place-preserved c = (
  omega (arith, c.loop-place.invariant.0, c.from-count.ensures, at_most_one c.is_pending.result),
  λ file h.
      let before = c.loop-place.invariant.1 file h in
      let this = c.is_pending.ensures file h in
      let here = ap bool_byte this in
      let count = pending_more file c.loop-place.place in
      let byte = c.byte_left.ensures file h in
      let f : ℕ → ℕ = λ i. byte_left c.args.fill.now (c.args.before + pending_below file i) file i in
      let more = bytes_by_more c.loop-place.place f in
      let counted : c.loop-place.count ≡ c.args.before + pending_below file c.loop-place.place = before.0 in
      let read : c.byte_left.result ≡ f c.loop-place.place = byte ∙ ap (λ k. byte_left c.args.fill.now k file c.loop-place.place) counted in
      (omega (arith, c.from-count.ensures, here, count, counted), cc (c.in_ok-push.ensures.items, before.1)),
)

use Rattle.std.proofs.Common.{◌≡◌, ◌-◌, ◌≤◌, ℕ, List, true, false, Bool, get_or, replicate, ◌++◌, take, length, ◌∙◌, ap, arith}
use Rattle.disk_model.proofs.KeptLemmas.{clean_seen, rewritten, cleared}
use Rattle.disk_model.proofs.kept.Kept.settle.Goals as goal

pub invariant_of-self-2 : goal.invariant_of-self-2
invariant_of-self-2 c =
    let old = c.args.self.now in
    let len = c.len-len.result in
    let size : len ≡ length old.seen.items = omega (arith, c.len-len.ensures, old.seen.ok) in
    let low : old.clean ≤ length old.seen.items = clean_seen old.clean old.base.items old.seen.items old.inside old.same in
    let base : c.replace_from.new.items.items ≡ old.seen.items =
    c.replace_from.ensures
    ∙ rewritten old.clean old.base.items old.seen.items old.inside old.same c.make_room.new.items.items c.deref.result.now c.make_room.ensures.items c.deref.ensures.value in
    let fresh : c.deref-2.result.now ≡ replicate (len - old.clean) false = c.deref-2.ensures.value ∙ c.in_ok-marks.ensures.items_if_clones_equal (λ y e. e) in
    let marks : c.replace_from-2.new.items.items ≡ take old.clean old.reached.items ++ replicate (len - old.clean) false =
    c.replace_from-2.ensures
    ∙ ap (λ (l : List Bool). take old.clean l ++ c.deref-2.result.now) c.make_room-2.ensures.items
    ∙ ap (λ (l : List Bool). take old.clean old.reached.items ++ l) fresh in
    record {
      bounded = omega (arith, size);
      bytes = old.bytes;
      inside = omega (arith, ap length base, size);
      same = ap (λ (l : List ℕ). take len l) base;
      clear = λ i below. ap (λ (l : List Bool). get_or l i true) marks ∙ cleared old.clean old.reached.items old.clear (len - old.clean) i (omega (arith, size, low, below));
    }

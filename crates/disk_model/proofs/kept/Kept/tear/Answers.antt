use Rattle.std.proofs.Common.{◌≡◌, ◌≤◌, List, ℕ, ◌+◌, ◌∙◌, sym, ap, max, length, take, arith, Vec, Global}
use Rattle.std.proofs.lemmas.List.FromFn.{length-map-range_with_len}
use Rattle.disk_model.specs.Files.{overwritten}
use Rattle.disk_model.specs.Fills.{bytes_torn, byte_torn, length_torn}
use Rattle.disk_model.proofs.FileLemmas.{length-overwritten}
use Rattle.disk_model.proofs.KeptLemmas.{before_write}
use Rattle.disk_model.proofs.kept.Kept.tear.Goals as goal

pub returns-clause-ok : goal.returns-clause-ok
returns-clause-ok c = λ file h.
    let fill = c.args.fill.now in
    let at = c.args.at in
    let bytes = c.args.bytes.now in
    let left = bytes_torn fill at bytes file in
    let same_copy : c.in_ok-next.next.items ≡ c.args.self.now.seen.items = c.in_ok-next.ensures.items_if_clones_equal (λ x y e. e) ∙ c.deref.ensures.value in
    let is_next : c.overwrite.new.content.items ≡ overwritten at left file.seen =
    c.in_ok-overwrite.ensures.ok
    ∙ ap (λ (l : List ℕ). overwritten at l c.in_ok-next.next.items) (c.deref-2.ensures.value ∙ c.in_ok-left.ensures file h)
    ∙ ap (λ (l : List ℕ). overwritten at left l) (same_copy ∙ h.seen) in
    let inside : at ≤ length file.seen = omega (arith, ap length h.seen, c.requires.place) in
    let size : length left ≡ length bytes = length-map-range_with_len (byte_torn fill at bytes file) 0 (length bytes) in
    let wide : c.len-2.result ≡ max (length file.seen) (at + length bytes) =
    omega (arith, c.len-2.ensures, c.overwrite.new.content.ok, ap length is_next, length-overwritten at left file.seen inside, size) in
    let short : c.len.result ≡ length file.seen = omega (arith, c.len.ensures, c.args.self.now.seen.ok, ap length h.seen) in
    let cut : c.len_torn-len.result ≡ length_torn fill c.args.number at bytes file = c.len_torn-len.ensures.exact file at bytes short wide in
    let touched = c.touch.ensures.kept file h in
    record {
      seen = c.truncated-next.ensures.items ∙ ap (λ k. take k c.overwrite.new.content.items) cut ∙ ap (λ (l : List ℕ). take (length_torn fill c.args.number at bytes file) l) is_next;
      base = touched.base;
      marks = touched.marks;
      reached = touched.reached;
      greatest = touched.greatest;
    }

pub invariant_of-self-clause-same : goal.invariant_of-self-clause-same
invariant_of-self-clause-same c =
    let old = c.args.self.now in
    let one = c.touch.new.self in
    let at = c.args.at in
    let left = c.deref-2.result.now in
    let len = c.len_torn-len.result in
    let same_copy : c.in_ok-next.next.items ≡ old.seen.items = c.in_ok-next.ensures.items_if_clones_equal (λ x y e. e) ∙ c.deref.ensures.value in
    let is_next : c.overwrite.new.content.items ≡ overwritten at left old.seen.items = c.in_ok-overwrite.ensures.ok ∙ ap (λ (l : List ℕ). overwritten at left l) same_copy in
    let wide : c.len-2.result ≡ max (length old.seen.items) (at + length left) =
    omega (arith, c.len-2.ensures, c.overwrite.new.content.ok, ap length is_next, length-overwritten at left old.seen.items c.requires.place) in
    let short : c.len.result ≡ length old.seen.items = omega (arith, c.len.ensures, old.seen.ok) in
    let long : c.len.result ≤ len = c.len_torn-len.ensures.low (omega (arith, wide, short)) in
    one.same
    ∙ ap (λ (v : Vec ℕ Global). take one.clean v.items) c.touch.ensures.seen
    ∙ sym (before_write one.clean at len left old.seen.items c.touch.ensures.clean c.requires.place (omega (arith, long, short, c.requires.place)))
    ∙ sym (ap (λ (l : List ℕ). take one.clean l) (c.truncated-next.ensures.items ∙ ap (λ (l : List ℕ). take len l) is_next))

pub invariant_of-self-clause-bytes : goal.invariant_of-self-clause-bytes
invariant_of-self-clause-bytes c = c.truncated-next.ensures.bytes

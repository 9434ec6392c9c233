-- The pieces of a file, and what is held of them.
use Rattle.std.proofs.Common.{◌≡◌, ℕ, ◌+◌, ◌-◌, ◌*◌, ◌%◌, ◌<◌, ◌≤◌, max, min, List, ◌++◌, length, take, drop, refl, sym, ap, ap₂, ◌∙◌, arith}
use Rattle.std.proofs.lemmas.List.{drop-take, drop-drop, length-drop, length-take-le, length-append, take-take}
use lib.Seq.{take-add}
use Rattle.file_pieces.specs.Pieces.{ReaderState, Holds, pieces_in}

-- a piece more, up to the end of the file
pub one_more : (len place : ℕ) → place < len → place % 65536 ≡ 0 → pieces_in (min len (place + 65536)) ≡ pieces_in place + 1
one_more len place inside whole = omega arith

-- behind some whole pieces, a place that is not reached lies in a later one
pub later : (place end : ℕ) → place < end → place % 65536 ≡ 0 → pieces_in place + 1 ≤ pieces_in end
later place end before whole = omega arith

-- the held bytes with more behind them
pub holds_more : (content : List ℕ) (r : ReaderState) (count : ℕ) (held : List ℕ) → Holds content r → r.from + length r.held + count ≤ r.len
    → held ≡ r.held ++ take count (drop (r.from + length r.held) content) → held ≡ take (length held) (drop r.from content)
holds_more content r count held holds fits is =
    let whole = holds.whole in
    let tail : List ℕ = drop r.from content in
    let size : length (take count (drop (r.from + length r.held) content)) ≡ count = length-take-le count (drop (r.from + length r.held) content) (omega (arith, length-drop (r.from + length r.held) content)) in
    let len : length held ≡ length r.held + count = omega (arith, ap (λ (l : List ℕ). length l) is, length-append r.held (take count (drop (r.from + length r.held) content)), size) in
    let behind : drop (r.from + length r.held) content ≡ drop (length r.held) tail = sym (drop-drop (length r.held) r.from content) in
    is ∙ ap₂ (λ (a b : List ℕ). a ++ take count b) holds.held behind ∙ sym (take-add (length r.held) count tail) ∙ ap (λ (n : ℕ). take n tail) (sym len)

-- the held bytes without the first of them
pub holds_less : (content held : List ℕ) (from gone : ℕ) → gone ≤ length held → held ≡ take (length held) (drop from content)
    → drop gone held ≡ take (length (drop gone held)) (drop (from + gone) content)
holds_less content held from gone few is =
    let parts : length held ≡ gone + length (drop gone held) = omega (arith, length-drop gone held) in
    ap (drop gone) (is ∙ ap (λ (n : ℕ). take n (drop from content)) parts) ∙ drop-take gone (length (drop gone held)) (drop from content) ∙ ap (take (length (drop gone held))) (drop-drop gone from content)

-- a part of the held bytes is that part of the content
pub part_of : (content held : List ℕ) (from at end : ℕ) → from ≤ at → at ≤ end → end ≤ from + length held → held ≡ take (length held) (drop from content)
    → take (end - from - (at - from)) (drop (at - from) held) ≡ take (end - at) (drop at content)
part_of content held from at end held_from ordered reached is =
    let k : ℕ = at - from in
    let j : ℕ = length held - k in
    let n : ℕ = end - at in
    let parts : length held ≡ k + j = omega arith in
    let place : from + k ≡ at = omega arith in
    let count : end - from - k ≡ n = omega arith in
    ap (λ (m : ℕ). take m (drop k held)) count
    ∙ ap (λ (l : List ℕ). take n (drop k l)) (is ∙ ap (λ (m : ℕ). take m (drop from content)) parts)
    ∙ ap (take n) (drop-take k j (drop from content))
    ∙ take-take n j (drop k (drop from content)) (omega arith)
    ∙ ap (take n) (drop-drop k from content ∙ ap (λ (m : ℕ). drop m content) place)

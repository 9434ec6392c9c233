use Rattle.std.proofs.Common.{ℕ, ◌≡◌, ◌<◌, ◌≤◌, ◌++◌, List, length, get_or, take, drop, replicate, ap, ◌∙◌, arith}
use Rattle.bin_table.proofs.Ranked.{number_is_rank, padded, rank_same}
use Rattle.bin_table.proofs.lent_entries.rank_of.Goals as goal

pub returns-clause-value : goal.returns-clause-value
returns-clause-value c =
    let text = c.args.text.now in
    let len = c.min-len.result in
    let whole = c.copy_from_slice.new.self ++ drop len (replicate 16 0) in
    let front : c.copy_from_slice.new.self ≡ take len text = c.copy_from_slice.ensures.after ∙ ap (λ (l : List ℕ). take len l) c.as_bytes.ensures.value in
    let within : len ≤ length text = omega (arith, c.min-len.ensures) in
    let all : len < length text → 16 ≤ len = λ less. omega (arith, c.min-len.ensures, less) in
    let same : (i : ℕ) → i < 16 → get_or whole i 0 ≡ get_or text i 0 = λ i h. ap (λ (l : List ℕ). get_or (l ++ drop len (replicate 16 0)) i 0) front ∙ padded text len i within all h in
    number_is_rank whole _ c.from_be_bytes.ensures ∙ rank_same 16 whole text same

use Rattle.std.proofs.Common.{◌≡◌, ◌++◌, ap, ◌∙◌}
use Rattle.std.specs.FinMap as finite
use Rattle.bin_table.specs.Chains.{map_of}
use Rattle.bin_transfer.proofs.growing.Growing.lent_sorted.Goals as goal

pub sort_lent-requires : goal.sort_lent-requires
sort_lent-requires c = rw (c.in_ok-lend_entries.ensures.added, c.in_ok-entries.ensures.items) c.in_ok-lend_entries.ensures.distinct

pub returns : goal.returns
returns c =
    let copied = c.in_ok-lend_entries.ensures in
    let all : c.lend_entries.new.entries.items ≡ copied.entries = copied.added ∙ ap (λ l. l ++ copied.entries) c.in_ok-entries.ensures.items in
    c.sort_lent.ensures ∙ ap (λ es. finite.entries (map_of es)) all ∙ ap finite.entries copied.map

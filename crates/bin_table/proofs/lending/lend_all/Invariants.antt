use Rattle.std.proofs.Common.{◌≡◌, ◌++◌, take}
use Rattle.bin_table.specs.Tables.{all_entries}
use Rattle.bin_table.proofs.lending.lend_all.Given as goal

abbrev pub invariant-loop-chain : goal.invariant-loop-chain
invariant-loop-chain l = l.entries.items ≡ l.initial.entries.items ++ all_entries (take l.chain-index l.chains.items)

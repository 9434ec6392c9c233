use Rattle.std.proofs.Common.{◌≡◌, ◌++◌}
use Rattle.bin_table.specs.Chains.{chain_entries}
use Rattle.bin_table.proofs.lending.lend_chain.Given as goal

abbrev pub invariant-loop-rest : goal.invariant-loop-rest
invariant-loop-rest l = l.entries.items ++ chain_entries l.rest ≡ l.initial.entries.items ++ chain_entries l.fn.chain

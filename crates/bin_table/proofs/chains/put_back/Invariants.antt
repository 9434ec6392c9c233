use Rattle.std.proofs.Common.{◌≡◌, ◌++◌, reverse}
use Rattle.bin_table.specs.Chains.{chain_entries}
use Rattle.bin_table.proofs.chains.put_back.Given as goal

abbrev pub invariant-loop-left : goal.invariant-loop-left
invariant-loop-left l = reverse (chain_entries l.left) ++ chain_entries l.chain ≡ reverse (chain_entries l.fn.passed) ++ chain_entries l.fn.rest

use Rattle.std.proofs.Common.{◌≡◌, ◌++◌, reverse}
use Rattle.bin_table.specs.Chains.{chain_entries}
use Rattle.bin_table.proofs.WriteLaws.{written}
use Rattle.bin_table.proofs.chains.write_value.Given as goal

abbrev pub invariant-loop-rest : goal.invariant-loop-rest
invariant-loop-rest l = reverse (chain_entries l.passed) ++ written l.fn.key l.fn.value (chain_entries l.rest) ≡ written l.fn.key l.fn.value (chain_entries l.fn.chain)

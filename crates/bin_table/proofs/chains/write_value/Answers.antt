use Rattle.std.proofs.Common.{◌≡◌, rules}
use Rattle.bin_table.specs.Chains.{chain_entries}
use Rattle.bin_table.proofs.WriteLaws.{written, distinct-written, map_of-written}
use Rattle.bin_table.proofs.chains.write_value.Goals.{in-Link+then-eq, in_default}
use Rattle.bin_table.proofs.chains.write_value.Goals as goal

all_written : (c : goal.Joined-drop) → chain_entries c.put_back.result ≡ written c.args.key.now c.args.value (chain_entries c.args.chain)
all_written c =
    elim c.match-rest.branch [
      | in-Link+then-eq w ↦ search rules
      | in_default w ↦ search rules
    ]

pub returns-clause-distinct : goal.returns-clause-distinct
returns-clause-distinct c = rw (all_written c) (distinct-written c.args.key.now c.args.value (chain_entries c.args.chain) c.requires.mapped c.requires.distinct)

pub returns-clause-map : goal.returns-clause-map
returns-clause-map c = rw (all_written c) (map_of-written c.args.key.now c.args.value (chain_entries c.args.chain) c.requires.mapped)

use Rattle.std.proofs.Common.{◌≡◌, length, ap, arith, append_assoc}
use Rattle.byteorder.specs.Endian.{big_bytes}
use Rattle.store_layout.specs.Logs.{new_layout}
use Rattle.store_layout.specs.Checkpoints.{entries_bytes, marked_bytes}
use Rattle.store_layout.proofs.CheckpointLemmas.{length-marked}
use Rattle.checkpoint_file.proofs.Bounds.{entries_bound, new_short}
use Rattle.checkpoint_file.proofs.sections.section_bytes.Goals as goal

pub returns-clause-ok : goal.returns-clause-ok
unfolding marked_bytes
returns-clause-ok c =
    rw (c.in_ok-append_entries.ensures.ok, c.in_ok-put_number-2.ensures.ok, c.in_ok-put_number.ensures.ok, c.new-bytes.ensures.items)
    (append_assoc (big_bytes 8 c.args.mark) (big_bytes 4 (length c.args.entries.now)) (entries_bytes new_layout c.args.entries.now))

pub returns-clause-bound : goal.returns-clause-bound
returns-clause-bound c =
    let whole : c.append_entries.new.out.items ≡ marked_bytes new_layout c.args.mark c.args.entries.now = returns-clause-ok c in
    omega (arith, ap length whole, length-marked new_layout c.args.mark c.args.entries.now, entries_bound new_layout new_short c.args.entries.now c.in_ok-append_entries.ensures.fits, c.requires)

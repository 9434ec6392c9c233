use Rattle.std.proofs.Common.{◌≡◌, ◌+◌, ◌<◌, ◌^◌, length, arith, rules}
use Rattle.store_layout.specs.Logs.{new_layout}
use Rattle.store_layout.specs.Checkpoints.{marked_bytes}
use Rattle.store_layout.specs.declared.checkpoint_phase.CheckpointPhase.TheVariants.{Ready}
use Rattle.checkpoint_file.proofs.StagingLemmas.{staged_stands}
use Rattle.checkpoint_file.proofs.writer.CheckpointWriter.section.Goals as goal

pub returns-clause-staged : goal.returns-clause-staged
returns-clause-staged c =
    let w = c.args.self.now in
    let mark = c.args.mark in
    let entries = c.args.entries.now in
    let ready : w.phase ≡ Ready = search rules in
    let few : length entries < 2 ^ 32 = omega arith in
    let fits : w.body + length (marked_bytes new_layout mark entries) < 2 ^ 64 = search rules in
    staged_stands w _ mark entries (search rules) ready c.ranges.mark.fits few c.in_ok-self-inside.ensures.fits fits

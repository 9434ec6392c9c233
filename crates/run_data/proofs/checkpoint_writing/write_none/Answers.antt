use Rattle.std.proofs.Common.{[], ◌≤◌, rules}
use Rattle.run_data.proofs.WritingLemmas.{may_stage}
use Rattle.run_data.proofs.checkpoint_writing.write_none.Goals as goal

pub advance_times-requires : goal.advance_times-requires
advance_times-requires g c =
    let w = c.args.writer.now in
    let low : w.low ≤ c.args.mark = search rules in
    may_stage g.D.Disk.states g.D.Disk.honest w c.section.new.self c.args.disk.now c.args.mark [] c.requires c.in_ok-section.ensures.ok c.in_ok-section.ensures.staged tt tt low

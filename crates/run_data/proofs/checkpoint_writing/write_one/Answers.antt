use Rattle.std.proofs.Common.{◌≡◌, [], ◌∷◌, ◌≤◌, rules, ap, ◌∙◌}
use Rattle.java_hash.specs.Stripes.{stripe_of}
use Rattle.run_data.proofs.WritingLemmas.{may_stage}
use Rattle.run_data.proofs.checkpoint_writing.write_one.Goals as goal

pub advance_times-requires : goal.advance_times-requires
advance_times-requires g c =
    let w = c.args.writer.now in
    let low : w.low ≤ c.args.mark = search rules in
    let key : stripe_of w.stripes c.args.entry.0 ≡ w.count = search rules in
    let lent : stripe_of w.stripes c.new.result.0 ≡ w.count = ap (λ e. stripe_of w.stripes e.0) c.new.ensures ∙ key in
    may_stage g.D.Disk.states g.D.Disk.honest w c.section.new.self c.args.disk.now c.args.mark (c.new.result ∷ []) c.requires c.in_ok-section.ensures.ok c.in_ok-section.ensures.staged tt (lent, tt) low

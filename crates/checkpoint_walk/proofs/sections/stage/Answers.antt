use Rattle.std.proofs.Common.{rules, ap, sym, ◌∙◌}
use Rattle.std.specs.Option.{option_map}
use Rattle.checkpoint_walk.proofs.Walked.{held_part, staged_ok}
use Rattle.checkpoint_walk.proofs.sections.stage.Goals as goal

pub returns-in-Ok : goal.returns-in-Ok
returns-in-Ok c =
    let z = c.in-Some.captured.now in
    let part = c.in-Some.part.now in
    let captured = sym c.captured.ensures.captured ∙ ap (option_map (λ found. found.0.now)) c.in-Some.is in
    let held = sym c.captured.ensures.part ∙ ap (option_map (λ found. found.1.now)) c.in-Some.is in
    staged_ok c.args.writer.now c.stage_part-staged.new.writer c.args.walk z part captured
    (held_part c.requires.looked.0 c.requires.looked.1 c.requires.looked.2 c.args.walk c.requires.looked.3 z part c.requires.looked.4 captured held) c.in-Ok.ensures.ok

pub returns-in-Err : goal.returns-in-Err
returns-in-Err c = record { looked = search rules; given = search rules; same = search rules; cause = search rules }

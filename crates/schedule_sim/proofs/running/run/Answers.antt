use Rattle.std.proofs.Common.{◌≡◌, ◌∷◌, sym, ◌∙◌, subst}
use Rattle.sim_rules.specs.declared.outcome.Outcome.TheVariants as outcome
use Rattle.sim_rules.specs.Runs.{IsRun, IsRunFrom}
use Rattle.sim_rules.specs.World.{old_start, start}
use Rattle.schedule_sim.proofs.Openings.{new_begins, old_begins}
use Rattle.schedule_sim.proofs.Runs.{inserted_first}
use Rattle.schedule_sim.proofs.running.run.Goals as goal

pub play-requires : goal.play-requires
play-requires c = (start, new_begins c.steps_between_lives.ensures.start c.in_ok-formatted.field-0 c.in_ok-formatted.ensures)

pub returns-then-not-begins_old : goal.returns-then-not-begins_old
returns-then-not-begins_old c =
    c.ends_of_runs.ensures.new c.args.events.now c.in_ok-outcomes.outcomes.items (sym c.begins_old.ensures ∙ c.if-not-begins_old.true)
    (c.in_ok-outcomes.ensures start (new_begins c.steps_between_lives.ensures.start c.in_ok-formatted.field-0 c.in_ok-formatted.ensures))

pub play-requires-2 : goal.play-requires-2
play-requires-2 c = (old_start, old_begins c.steps_between_lives.ensures.old c.in_ok-old_directory.field-0 c.in_ok-old_directory.ensures)

pub returns : goal.returns
returns c =
    let outcomes = c.in_ok-outcomes-2.outcomes.items in
    let begins = old_begins c.steps_between_lives.ensures.old c.in_ok-old_directory.field-0 c.in_ok-old_directory.ensures in
    let run = subst (λ events. IsRunFrom old_start events outcomes) c.behind_first.ensures (c.in_ok-outcomes-2.ensures old_start begins) in
    let items : c.insert.new.self.items ≡ outcome.Old ∷ outcomes = c.in_ok-insert.ensures.items ∙ inserted_first outcomes outcome.Old in
    subst (λ xs. IsRun c.args.events.now xs) (sym items) (c.ends_of_runs.ensures.old c.args.events.now outcomes (sym c.begins_old.ensures ∙ c.if-not-begins_old.false) run)

use Rattle.sim_rules.proofs.CaseLaws.{old_is_skipped, skipped_where_unfit}
use Rattle.sim_rules.proofs.RunLaws.{outcomes_are_moves, rows_go_on, runs_answer_as_one_thread, runs_begin}
use Rattle.sim_rules.proofs.laws.laws_of_runs.Goals as goal

pub returns : goal.returns
returns c = record { begins = runs_begin; moves = outcomes_are_moves; answers = runs_answer_as_one_thread; skipped = skipped_where_unfit; old = old_is_skipped; rows = rows_go_on }

use Rattle.sim_keeper.proofs.Counts.{fail_answers, publish_answers}
use Rattle.sim_keeper.proofs.laws.laws_of_counts.Goals as goal

pub returns-clause-publish : goal.returns-clause-publish
returns-clause-publish g c = publish_answers g.D.Disk.states g.D.Disk.honest

pub returns-clause-fail : goal.returns-clause-fail
returns-clause-fail g c = fail_answers g.D.Disk.states

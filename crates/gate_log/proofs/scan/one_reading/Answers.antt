use Rattle.store_layout.proofs.ReadingLemmas.{one_reading, one_end, never_both}
use Rattle.gate_log.proofs.scan.one_reading.Goals as goal

pub returns-clause-one : goal.returns-clause-one
returns-clause-one c = λ layout generation low content a b room. one_reading layout room generation low content a b

pub returns-clause-one_end : goal.returns-clause-one_end
returns-clause-one_end c = λ layout generation low m n content a b room. one_end layout room generation low m n content a b

pub returns-clause-never_both : goal.returns-clause-never_both
returns-clause-never_both c = λ layout generation low next content a b room. never_both layout room generation low next content a b

use Rattle.store_invariant.proofs.Beginnings.{opened_stands, standing_stays}
use Rattle.store_invariant.proofs.laws.beginnings_of_stores.Goals as goal

pub returns-clause-opened : goal.returns-clause-opened
returns-clause-opened c = opened_stands c.laws_of_found.ensures.restores c.laws_of_restoring.ensures.stays c.laws_of_logs.ensures.opened

pub returns-clause-stays : goal.returns-clause-stays
returns-clause-stays c = standing_stays c.laws_of_restoring.ensures.stays c.laws_of_logs.ensures.next c.laws_of_logs.ensures.stays c.laws_of_sections.ensures.stay c.laws_of_sections.ensures.widen

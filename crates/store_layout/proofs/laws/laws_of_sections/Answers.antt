use Rattle.store_layout.proofs.Growing.{marks_push, marks_widen, parts_grown, parts_push}
use Rattle.store_layout.proofs.laws.laws_of_sections.Goals as goal

pub returns : goal.returns
returns c = record { stay = parts_grown; go_on = parts_push; marks = marks_push; widen = marks_widen }

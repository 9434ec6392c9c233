use Rattle.std.proofs.Common.{refl}
use Rattle.view_walk.proofs.Growing.{gains_begin}
use Rattle.view_walk.proofs.parts.PartsWalk.new.Goals as goal

pub returns-clause-fits : goal.returns-clause-fits
returns-clause-fits c = λ n b some none. record { count_is = refl; greatest_is = refl; stands = (gains_begin n b, none, some) }

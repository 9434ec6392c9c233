use Rattle.std.proofs.Common.{inr, refl}
use Rattle.std.proofs.lemmas.Bool.{false≢true}
use Rattle.sim_script.proofs.Numbers.{stripes_found, stripes_refused}
use Rattle.sim_script.proofs.words.stripes_of.Goals as goal

pub returns-in-Some-new : goal.returns-in-Some-new
returns-in-Some-new c = stripes_found c.args.word.now c.in-Some.count c.in-Some-new.stripes c.in-Some.ensures c.in-Some-new.ensures.value

pub returns-in-None : goal.returns-in-None
returns-in-None c =
    inr (_, refl, stripes_refused c.args.word.now c.in-Some.count c.in-Some.ensures (λ e. false≢true (c.in-None.ensures.allowed.1 e)))

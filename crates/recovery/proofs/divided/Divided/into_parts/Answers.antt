use Rattle.std.proofs.lemmas.Result.{IfOk-weaker}
use Rattle.java_hash.proofs.StripeLaws.{some_stripe}
use Rattle.recovery.proofs.LaneLemmas.{divided_of, own_of}
use Rattle.recovery.proofs.divided.Divided.into_parts.Goals as goal

pub returns-clause-ok : goal.returns-clause-ok
returns-clause-ok g c =
    IfOk-weaker c.parts_of.result _ _ (λ parts taken m are.
    divided_of c.args.self.stripes.count m c.run.new.self.lanes.items parts.items c.in_ok-run.ensures.none taken (c.in_ok-run.ensures.ok m are)) c.parts_of.ensures.ok

pub returns-clause-own : goal.returns-clause-own
returns-clause-own g c =
    IfOk-weaker c.parts_of.result _ _ (λ parts taken m are.
    let n = c.args.self.stripes.count in
    own_of c.laws_of_parts.ensures.union n (some_stripe n c.args.self.stripes.allowed) m parts.items
    (divided_of n m c.run.new.self.lanes.items parts.items c.in_ok-run.ensures.none taken (c.in_ok-run.ensures.ok m are))) c.parts_of.ensures.ok

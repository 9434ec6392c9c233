use Rattle.std.proofs.Common.{◌≡◌, Bool, true, false, not, refl, sym, ◌∙◌}
use Rattle.schedule_sim.proofs.OpenedStores.{failed_did, other_did}
use Rattle.schedule_sim.proofs.store.refused.Goals as goal
use Rattle.schedule_sim.proofs.store.refused.Goals.{in-Failed, in_default}

denied : (b : Bool) → not b ≡ true → b ≡ false
denied false e = refl
denied true e = absurd (let no : false ≡ true = e in cc)

pub returns-then-is_told-clause-did : goal.returns-then-is_told-clause-did
returns-then-is_told-clause-did c = λ w least stripes old made tried stopped reason closed.
    let law = c.steps_between_lives.ensures.well in
    let told = c.if-is_told.true in
    elim c.match-refusal.branch [
      | in-Failed f ↦
          let last = f.is_last-is_told.ensures (sym f.is_told-is ∙ told) in
          failed_did law w least stripes c.args.fails_at c.args.calls c.args.refusal old c.args.disk closed f.in-Failed.is stopped made tried last.0 last.1
      | in_default d ↦ other_did law w least stripes c.args.fails_at c.args.calls c.args.refusal old c.args.disk closed d.in_default.not-Failed
          (sym d.names_within.ensures ∙ denied d.names_within.result (sym d.is_told-is ∙ told)) made tried stopped reason
    ]

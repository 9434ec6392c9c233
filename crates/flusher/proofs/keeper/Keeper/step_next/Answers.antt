use Rattle.std.proofs.Common.{◌≡◌, ◌≢◌, ℕ, Some, Result, Ok, Err, OnOk, OnErr, true, rules, sym, ◌∙◌, ap, subst}
use Rattle.map_types.specs.declared.refusals.Refusal.{Refusal}
use Rattle.store_layout.specs.declared.log_phase.Phase.{Phase}
use Rattle.store_layout.specs.declared.log_phase.Phase.TheVariants.{Idle, Staged}
use Rattle.gate_log.specs.LogSteps.{Advances}
use Rattle.flusher.specs.declared.keeper.Keeper.{Keeper}
use Rattle.flusher.specs.Rotating.{IsTold}
use Rattle.flusher.proofs.Advancing.{told_nothing}
use Rattle.flusher.proofs.keeper.Keeper.step_next.Goals as goal

pub returns-in_err-phase-clause-advances : goal.returns-in_err-phase-clause-advances
returns-in_err-phase-clause-advances g c =
    let then = c.advance-stepped.new.self in
    let made = c.advance-stepped.result in
    let refusal = c.in_err-phase.field-0.0 in
    let is : made ≡ Err refusal = sym c.noted.ensures.result ∙ c.in_err-phase.was in
    let as_then : Keeper g.row.D.Denot = record c.args.self.now { disk = c.advance-stepped.new.disk; next = Some then; is_broken = true } in
    let same : c.noted.new.self ≡ as_then = subst (λ (r : Result Phase Refusal). OnErr r (c.noted.new.self ≡ as_then)) is c.noted.ensures.err in
    let result : c.from_residual.result ≡ Err refusal = search rules in (
      then,
      made,
      ap (λ (k : Keeper g.row.D.Denot). k.next) same,
      subst (λ (d : g.row.D.Denot). Advances g.D.Disk.states g.D.Disk.failures g.D.Disk.honest c.args.next then c.args.self.now.disk d made) (sym (ap (λ (k : Keeper g.row.D.Denot). k.disk) same)) (c.advance-stepped.ensures.advances c.requires.works.1 c.requires.moves),
      subst (λ (r : Result Phase Refusal). IsTold r c.args.next.generation c.args.self.now.log c.noted.new.self.log c.from_residual.result) (sym is) (result, ap (λ (k : Keeper g.row.D.Denot). k.log) same),
    )

pub returns-clause-advances : goal.returns-clause-advances
returns-clause-advances g c =
    let then = c.advance-stepped.new.self in
    let made = c.advance-stepped.result in
    let phase = c.in_ok-phase.phase in
    let is : made ≡ Ok phase = sym c.noted.ensures.result ∙ c.in_ok-phase.was in
    let as_then : Keeper g.row.D.Denot = record c.args.self.now { disk = c.advance-stepped.new.disk; next = Some then } in
    let same : c.noted.new.self ≡ as_then = subst (λ (r : Result Phase Refusal). OnOk r (c.noted.new.self ≡ as_then)) is c.noted.ensures.ok in
    let moves : phase ≢ Idle = search rules in (
      then,
      made,
      ap (λ (k : Keeper g.row.D.Denot). k.next) same,
      subst (λ (d : g.row.D.Denot). Advances g.D.Disk.states g.D.Disk.failures g.D.Disk.honest c.args.next then c.args.self.now.disk d made) (sym (ap (λ (k : Keeper g.row.D.Denot). k.disk) same)) (c.advance-stepped.ensures.advances c.requires.works.1 c.requires.moves),
      subst (λ (r : Result Phase Refusal). IsTold r c.args.next.generation c.args.self.now.log c.noted.new.self.log (Ok phase)) (sym is)
          (told_nothing phase c.args.next.generation c.args.self.now.log c.noted.new.self.log moves (ap (λ (k : Keeper g.row.D.Denot). k.log) same)),
    )

pub returns-then-eq-clause-advances : goal.returns-then-eq-clause-advances
returns-then-eq-clause-advances g c =
    let then = c.advance-stepped.new.self in
    let made = c.advance-stepped.result in
    let idle : c.in_ok-phase.phase ≡ Idle = search rules in
    let is : made ≡ Ok Idle = sym c.noted.ensures.result ∙ c.in_ok-phase.was ∙ ap (λ (x : Phase). let r : Result Phase Refusal = Ok x in r) idle in
    let as_then : Keeper g.row.D.Denot = record c.args.self.now { disk = c.advance-stepped.new.disk; next = Some then } in
    let noted : c.noted.new.self ≡ as_then = subst (λ (r : Result Phase Refusal). OnOk r (c.noted.new.self ≡ as_then)) is c.noted.ensures.ok in
    let named : c.generation-generation.result ≡ c.args.next.generation = search rules in
    let told : Keeper g.row.D.Denot = record as_then { log = record c.args.self.now.log { phase = Staged; ending = Some c.args.next.generation } } in
    let same : c.end_newest.new.self ≡ told =
    c.end_newest.ensures.same
    ∙ ap (λ (k : Keeper g.row.D.Denot). let x : Keeper g.row.D.Denot = record k { log = record k.log { phase = Staged; ending = Some c.generation-generation.result } } in x) noted
    ∙ ap (λ (n : ℕ). let x : Keeper g.row.D.Denot = record as_then { log = record c.args.self.now.log { phase = Staged; ending = Some n } } in x) named in (
      then,
      made,
      ap (λ (k : Keeper g.row.D.Denot). k.next) same,
      subst (λ (d : g.row.D.Denot). Advances g.D.Disk.states g.D.Disk.failures g.D.Disk.honest c.args.next then c.args.self.now.disk d made) (sym (ap (λ (k : Keeper g.row.D.Denot). k.disk) same)) (c.advance-stepped.ensures.advances c.requires.works.1 c.requires.moves),
      subst (λ (r : Result Phase Refusal). IsTold r c.args.next.generation c.args.self.now.log c.end_newest.new.self.log c.end_newest.result) (sym is) (c.end_newest.ensures.ok, ap (λ (k : Keeper g.row.D.Denot). k.log) same),
    )

use Rattle.std.proofs.Common.{◌≡◌, ◌+◌, ◌<◌, ◌≤◌, ◌^◌, Ok, Err, List, length, Result, refl, sym, ◌∙◌, ap, subst, arith, rules, ℕ, None}
use Rattle.map_types.specs.declared.commands.Command.{Command}
use Rattle.map_types.specs.declared.refusals.Refusal.{Refusal}
use Rattle.map_types.specs.declared.refusals.Refusal.TheVariants.{LogFull, NoMemory}
use Rattle.log_records.specs.declared.versions.Version.{Version}
use Rattle.log_records.specs.Layout.{layout_of}
use Rattle.store_layout.specs.Logs.{frame}
use Rattle.store_layout.specs.Hands.{Hand, IsLongest}
use Rattle.gate_log.specs.States.{IsResting, LogState}
use Rattle.flusher.specs.KeeperSteps.{IsFull}
use Rattle.flusher.proofs.Runs.{not_full}
use Rattle.flusher.proofs.FittingKeepers.{run_allowed}
use Rattle.flusher.proofs.Committing.{fits_staged, fits_same}
use Rattle.flusher.proofs.keeper.Keeper.stage_batch.Goals as goal

no_ok : (x : ℕ) → (let a : Result ℕ Refusal = Ok x in let b : Result ℕ Refusal = Err LogFull in a ≡ b) → ⊥
no_ok x e = cc

not_this : (e : Refusal) → e ≡ NoMemory → (let a : Result ℕ Refusal = Err e in let b : Result ℕ Refusal = Err LogFull in a ≡ b) → ⊥
not_this e is h = cc

-- the longest run carries the log past its greatest length
is_full : (version : Version) (most : ℕ) (log : LogState) (hand : Hand) (commands : List Command) (len : ℕ) → version ≡ log.version → IsLongest (layout_of version) most hand commands → hand.next ≡ log.committed
    → len ≡ length (frame (layout_of version) (record { first = hand.next; commands = commands })) → 1 ≤ length commands → 2 ^ 40 < log.gate + 1 + len + 1 → IsFull most log hand
is_full version most log hand commands len of_log longest next is some over =
    let layout = layout_of log.version in
    let there : len ≡ length (frame layout (record { first = log.committed; commands = commands })) =
    is ∙ ap (λ (v : Version). length (frame (layout_of v) (record { first = hand.next; commands = commands }))) of_log ∙ ap (λ (t : ℕ). length (frame layout (record { first = t; commands = commands }))) next in
    record {
      commands = commands;
      longest = subst (λ (v : Version). IsLongest (layout_of v) most hand commands) of_log longest;
      some = some;
      too_long = omega (arith, there, over);
    }

pub returns-in-Ok-clause-fits : goal.returns-in-Ok-clause-fits
returns-in-Ok-clause-fits g c = λ n done p f.
    let run = c.longest_run-run.ensures in
    let resting : IsResting c.args.self.now.log = search rules in
    let alone : c.args.self.now.next ≡ None = search rules in
    fits_staged g.D.Disk.states g.D.Disk.honest n done c.args.self.now c.stage_run.new.self p run.0 c.steps_of_logs.ensures.staged f c.in-Ok.ensures.same c.if-self.false (resting, alone) run.1.run (omega (arith, run.1.fits.fits, f.counts.next)) (omega (arith, c.if-run-eq0.false, run.2))
    (c.in-Ok.ensures.ok run.0 run.1.run (sym run.2)) c.in-Ok.ensures.stands

pub returns-in-Err-clause-fits : goal.returns-in-Err-clause-fits
returns-in-Err-clause-fits g c = λ n done p f.
    fits_same g.D.Disk.states g.D.Disk.honest n done c.args.self.now c.stage_run.new.self p f c.in-Err.ensures.same c.in-Err.ensures.err.0 c.in-Err.ensures.err.1 c.in-Err.ensures.err.2

pub returns-in-Ok-clause-full : goal.returns-in-Ok-clause-full
returns-in-Ok-clause-full g c =
    let run = c.longest_run-run.ensures in
    (λ e. absurd (no_ok _ e), λ k. absurd (not_full c.version.result c.args.most c.args.self.now.log c.args.self.now.sweeper.in_hand run.0 c.longest_run-run.result.frame_len c.version.ensures run.1 c.requires.3.counts.next run.3 (omega (arith, c.if-gate-run.false, c.gate-gate.ensures.place, run.1.fits.short, run.3)) k.2))

pub returns-in-Err-clause-full : goal.returns-in-Err-clause-full
returns-in-Err-clause-full g c =
    let run = c.longest_run-run.ensures in
    (λ e. absurd (not_this _ c.in-Err.ensures.no_other e), λ k. absurd (not_full c.version.result c.args.most c.args.self.now.log c.args.self.now.sweeper.in_hand run.0 c.longest_run-run.result.frame_len c.version.ensures run.1 c.requires.3.counts.next run.3 (omega (arith, c.if-gate-run.false, c.gate-gate.ensures.place, run.1.fits.short, run.3)) k.2))

pub returns-then-gate-run-clause-full : goal.returns-then-gate-run-clause-full
returns-then-gate-run-clause-full g c =
    let run = c.longest_run-run.ensures in
    let resting : IsResting c.args.self.now.log = search rules in
    let alone : c.args.self.now.next ≡ None = search rules in
    let full : IsFull c.args.most c.args.self.now.log c.args.self.now.sweeper.in_hand =
    is_full c.version.result c.args.most c.args.self.now.log c.args.self.now.sweeper.in_hand run.0 c.longest_run-run.result.frame_len c.version.ensures run.1 c.requires.3.counts.next run.3 (omega (arith, c.if-run-eq0.false, run.2))
    (omega (arith, c.if-gate-run.true, c.gate-gate.ensures.place, run.1.fits.short, run.3)) in
    (λ e. (c.if-self.false, (resting, alone), full), λ k. refl)

pub stage_run-requires-clause-keys : goal.stage_run-requires-clause-keys
stage_run-requires-clause-keys g c = run_allowed g.D.Disk.states g.D.Disk.honest c.requires.0 c.requires.1 c.args.self.now c.requires.2 c.requires.3

-- When a stripe may be captured.
use Rattle.std.proofs.Common.{◌≡◌, ℕ, ◌<◌, List, length, Option, Some, None, Bool, true, false, ◌&&◌, ◌==◌, not, nat_lt, refl, sym, ◌∙◌, ap, arith}
use Rattle.disk_model.specs.Files.{File, Files}
use Rattle.store_layout.specs.Checkpoints.{Section, checkpoint_file}
use Rattle.gate_log.specs.States.{LogState}
use Rattle.store_layout.specs.declared.checkpoint_phase.CheckpointPhase.{CheckpointPhase}
use Rattle.store_layout.specs.declared.checkpoint_phase.CheckpointPhase.TheVariants.{Idle, Gate, GateWritten, GateSynced, Ready, Staged, Header, HeaderWritten, HeaderSynced, Opened, Sealed}
use Rattle.store_layout.proofs.CheckpointReading.{both_true}
use Rattle.checkpoint_file.specs.CheckpointStates as checkpoint
use Rattle.checkpoint_file.specs.States.{CheckpointState, first_phase}
use Rattle.store_invariant.specs.StoreStates.{IsUnderWay}
use Rattle.checkpoint_walk.specs.Checkpointing.{HasGiven, IsNextStripe}
use Rattle.sim_rules.specs.World.{Life, Running}
use Rattle.sim_rules.specs.Cases.{may_capture}
use Rattle.sim_keeper.specs.Showing.{clears_left, is_waiting_in, running_shown}
use Rattle.sim_keeper.specs.KeeperInWorld.{BeginsBoth, IsWritten}
use Rattle.sim_keeper.proofs.Deciding.{and_true, is_less, is_same, less_is, not_true, same_is, two_ways}

-- no write is left, and not all sections were given
takes_section : (w : CheckpointState) (old : List ℕ) (sections : List Section) (file : File) (phase : CheckpointPhase) (next : Option LogState) → w.phase ≡ phase → IsUnderWay phase next → checkpoint.AtPhase phase w old sections file
    → (w.count ≡ w.stripes → ⊥) → clears_left phase ≡ 0 → is_waiting_in phase ≡ false → w.phase ≡ Ready
takes_section w old sections file Idle next e way at some clears waits = absurd way
takes_section w old sections file Gate next e way at some clears waits = absurd (omega (arith, clears))
takes_section w old sections file GateWritten next e way at some clears waits = absurd (omega (arith, clears))
takes_section w old sections file GateSynced next e way at some clears waits = absurd (omega (arith, clears))
takes_section w old sections file Ready next e way at some clears waits = e
takes_section w old sections file Staged next e way at some clears waits = absurd cc
takes_section w old sections file Header next e way at some clears waits = absurd (some at.0)
takes_section w old sections file HeaderWritten next e way at some clears waits = absurd (some at.0)
takes_section w old sections file HeaderSynced next e way at some clears waits = absurd (some at.0)
takes_section w old sections file Opened next e way at some clears waits = absurd (some at.0)
takes_section w old sections file Sealed next e way at some clears waits = absurd way

first_clears : (must_close : Bool) → clears_left (first_phase must_close) ≡ 0 → ⊥
first_clears true e = omega (arith, e)
first_clears false e = omega (arith, e)

none_next : (next : Option LogState) (w : CheckpointState) (must_close : Bool) → BeginsBoth next (Some w) must_close → clears_left w.phase ≡ 0 → next ≡ None
none_next None w must_close both clears = refl
none_next (Some next) w must_close both clears = absurd (first_clears must_close (sym (ap clears_left both) ∙ clears))

module _ (l : Life) (files : Files) (n : ℕ) (stripes : l.stripes ≡ n) (stripe : ℕ) where
  may : (w : CheckpointState) (sections : List Section) (next : Option LogState) → w.stripes ≡ n → HasGiven (Some w) sections files → IsNextStripe stripe next (Some w) → may_capture l (Some (running_shown w sections)) stripe ≡ true
  may w sections next theirs given k =
      let within : stripe < l.stripes = (let low : w.count < w.stripes = k.1.1 in omega (arith, low, k.2, theirs, stripes)) in
      let long : stripe ≡ length sections = sym k.2 ∙ given.1.knows.count in
      and_true (nat_lt stripe l.stripes) ((stripe == length sections) && ((clears_left w.phase == 0) && not (is_waiting_in w.phase))) (less_is stripe l.stripes within)
      (and_true (stripe == length sections) ((clears_left w.phase == 0) && not (is_waiting_in w.phase)) (same_is stripe (length sections) long)
      (and_true (clears_left w.phase == 0) (not (is_waiting_in w.phase)) (ap (λ ph. clears_left ph == 0) k.1.0) (ap (λ ph. not (is_waiting_in ph)) k.1.0)))

  is_next : (w : CheckpointState) (sections : List Section) (next : Option LogState) (must_close : Bool) → w.stripes ≡ n → HasGiven (Some w) sections files → IsUnderWay w.phase next → BeginsBoth next (Some w) must_close
      → may_capture l (Some (running_shown w sections)) stripe ≡ true → IsNextStripe stripe next (Some w)
  is_next w sections next must_close theirs given way both e =
      let a = both_true (nat_lt stripe l.stripes) ((stripe == length sections) && ((clears_left w.phase == 0) && not (is_waiting_in w.phase))) e in
      let b = both_true (stripe == length sections) ((clears_left w.phase == 0) && not (is_waiting_in w.phase)) a.1 in
      let c = both_true (clears_left w.phase == 0) (not (is_waiting_in w.phase)) b.1 in
      let within : stripe < l.stripes = is_less stripe l.stripes a.0 in
      let at : w.count ≡ stripe = given.1.knows.count ∙ sym (is_same stripe (length sections) b.0) in
      let low : w.count < w.stripes = omega (arith, within, at, theirs, stripes) in
      let clears : clears_left w.phase ≡ 0 = is_same (clears_left w.phase) 0 c.0 in (
        none_next next w must_close both clears,
        (takes_section w given.0 sections (files (checkpoint_file w.generation)) w.phase next refl way given.1.stands (λ all. omega (arith, low, all)) clears (not_true (is_waiting_in w.phase) c.1), low),
        at,
      )

  pub may_by : (o : Option CheckpointState) (running : Option Running) (next : Option LogState) → IsWritten o running files → ((w : CheckpointState) → o ≡ Some w → w.stripes ≡ n) → IsNextStripe stripe next o → may_capture l running stripe ≡ true
  may_by None running next is theirs k = absurd k
  may_by (Some w) running next is theirs k = ap (λ r. may_capture l r stripe) is.1 ∙ may w is.0 next (theirs w refl) is.2 k

  pub next_by : (o : Option CheckpointState) (running : Option Running) (next : Option LogState) (must_close : Bool) → IsWritten o running files → ((w : CheckpointState) → o ≡ Some w → w.stripes ≡ n) → ((w : CheckpointState) → o ≡ Some w → IsUnderWay w.phase next)
      → BeginsBoth next o must_close → may_capture l running stripe ≡ true → IsNextStripe stripe next o
  next_by None running next must_close is theirs way both e = absurd (two_ways (may_capture l running stripe) e (ap (λ r. may_capture l r stripe) is))
  next_by (Some w) running next must_close is theirs way both e = is_next w is.0 next must_close (theirs w refl) is.2 (way w refl) both (sym (ap (λ r. may_capture l r stripe) is.1) ∙ e)

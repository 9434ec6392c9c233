-- A stripe is held in the world exactly where a pass holds it.
use Rattle.std.proofs.Common.{ℕ, zero, suc, ◌≡◌, ◌<◌, ◌⊎◌, List, [], ◌∷◌, Option, Some, None, Bool, true, false, length, refl, arith, sym, ◌∙◌, ap, subst, inl, inr}
use Rattle.std.specs.Prelude.{◌&&◌, ◌||◌, ◌==◌, slice_index_or}
use Rattle.std.proofs.lemmas.List.{append_cancel_left}
use Rattle.std.proofs.lemmas.Bool.{cases_eq, eqb-true, eq-eqb, false_from_ne_true}
use Rattle.ticket_order.specs.declared.record.Asked.{Asked}
use Rattle.ticket_order.specs.declared.record.Holding.{Holding}
use Rattle.ticket_order.specs.declared.record.Record.{Record}
use Rattle.ticket_order.specs.declared.walk.Walk.{Walk}
use Rattle.one_history.specs.declared.book.Book.{Book}
use Rattle.one_history.specs.Turns.{record_of}
use Rattle.one_history.specs.OneHistory.{HoldsStripe, stripe_in}
use Rattle.one_history.specs.Moves.{IsFree, IsHeldByAnother}
use Rattle.sim_rules.specs.World.{World, Life, Job, Idle, Walks, Keeps, Releasing, Stage, Asking, any_holds, has_stripe, is_held, job_holds, job_of, keeper_holds, stripe_asked}
use Rattle.sim_workers.specs.Doings.{Doing, Rests, Calls, Waits, Releases, IsCalling, IsReleasing, JobStands, stage_from, stage_of}
use Rattle.sim_workers.specs.Laws.{FreeIsTold, HeldIsTold}
use Rattle.sim_workers.specs.WordsInWorld.{drawn_at}
use Rattle.sim_workers.specs.Workers.{WorkersStand}
use Rattle.sim_workers.proofs.Ways.{Way, Starts, HasStripe, Lives, FindsNone, Sees, Draws, GoesBy, Knows, call_goes, steps_on, stripe_on}
use Rattle.sim_workers.proofs.Asks as asks

-- ---- one job

none_held : (holding : Option Holding) (s : ℕ) → holding ≡ None → stripe_in holding ≡ Some s → ⊥
none_held holding s free has = let no : None ≡ Some s = sym (ap stripe_in free) ∙ has in cc

-- the stage tells whether a stripe is held
way_holds : (i s : ℕ) (way : Way) → stripe_on i way ≡ Some s → (has_stripe (stage_of (steps_on i way)) && i == s) ≡ true
unfolding stage_from
way_holds i s Starts has = absurd cc
way_holds i s (HasStripe found) has = eq-eqb i s cc
way_holds i s (Lives found) has = eq-eqb i s cc
way_holds i s (FindsNone found) has = eq-eqb i s cc
way_holds i s (Sees found q) has = eq-eqb i s cc
way_holds i s (Draws found q t) has = eq-eqb i s cc

holds_way : (i s : ℕ) (way : Way) → (has_stripe (stage_of (steps_on i way)) && i == s) ≡ true → stripe_on i way ≡ Some s
unfolding stage_from
holds_way i s Starts has = absurd cc
holds_way i s (HasStripe found) has = ap (λ k. Some k) (eqb-true i s has)
holds_way i s (Lives found) has = ap (λ k. Some k) (eqb-true i s has)
holds_way i s (FindsNone found) has = ap (λ k. Some k) (eqb-true i s has)
holds_way i s (Sees found q) has = ap (λ k. Some k) (eqb-true i s has)
holds_way i s (Draws found q t) has = ap (λ k. Some k) (eqb-true i s has)

-- how the walk of the call has come to where it stands
pub way_of : (n : ℕ) (p : Record) (walk : Walk) (asked : Asked) (stage : Stage) (calling : IsCalling n p walk asked stage) → GoesBy n calling.begun asked p
way_of n p walk asked stage calling = call_goes n calling.begun asked walk.stage p calling.fits

pub stage_by : (n : ℕ) (p : Record) (walk : Walk) (asked : Asked) (stage : Stage) (calling : IsCalling n p walk asked stage)
    → stage ≡ stage_of (steps_on (stripe_asked n asked) (way_of n p walk asked stage calling).way)
stage_by n p walk asked stage calling =
    let by : GoesBy n calling.begun asked p = way_of n p walk asked stage calling in
    calling.stage_is ∙ ap stage_of (append_cancel_left calling.begun.steps calling.made (steps_on (stripe_asked n asked) by.way) (sym calling.steps ∙ by.steps))

callless : (i : ℕ) (begun p : Record) (asked : Asked) (way : Way) → Knows begun asked way p → drawn_at (stage_of (steps_on i way)) ≡ None → p.calls ≡ begun.calls
unfolding stage_from
callless i begun p asked Starts knows none = knows
callless i begun p asked (HasStripe found) knows none = knows
callless i begun p asked (Lives found) knows none = knows
callless i begun p asked (FindsNone found) knows none = knows
callless i begun p asked (Sees found q) knows none = knows.1
callless i begun p asked (Draws found q t) knows none = absurd cc

-- before its TICKET the walk made no call
pub calls_since : (n : ℕ) (p : Record) (walk : Walk) (asked : Asked) (stage : Stage) (calling : IsCalling n p walk asked stage) → drawn_at stage ≡ None → p.calls ≡ calling.begun.calls
calls_since n p walk asked stage calling none =
    let by : GoesBy n calling.begun asked p = way_of n p walk asked stage calling in
    callless (stripe_asked n asked) calling.begun p asked by.way by.knows (sym (ap drawn_at (stage_by n p walk asked stage calling)) ∙ none)

-- a release holds no stripe
pub release_free : (n : ℕ) (p : Record) (walk : Walk) (asked : Asked) (position : ℕ) (asking : Asking) → IsReleasing n p walk asked position asking → p.holding ≡ None
release_free n p walk asked position asking r = (asks.release_goes n r.begun position r.reply p walk.stage r.fits).by.holding ∙ r.free

pub job_when_held : (n s : ℕ) (p : Record) (doing : Doing) (job : Job) → JobStands n p doing job → stripe_in p.holding ≡ Some s → job_holds n s job ≡ true
job_when_held n s p Rests Idle stands has = absurd (none_held p.holding s stands has)
job_when_held n s p (Calls walk) (Walks asked stage) stands has =
    let by : GoesBy n stands.begun asked p = way_of n p walk asked stage stands in
    rw (stage_by n p walk asked stage stands) (way_holds (stripe_asked n asked) s by.way (sym by.holds ∙ has))
job_when_held n s p (Waits held) (Keeps asked position) stands has = absurd (none_held p.holding s stands.free has)
job_when_held n s p (Releases walk) (Releasing asked position asking) stands has = absurd (none_held p.holding s (release_free n p walk asked position asking stands) has)
job_when_held n s p doing job stands has = absurd stands

pub held_when_job : (n s : ℕ) (p : Record) (doing : Doing) (job : Job) → JobStands n p doing job → job_holds n s job ≡ true → stripe_in p.holding ≡ Some s
held_when_job n s p Rests Idle stands has = absurd cc
held_when_job n s p (Calls walk) (Walks asked stage) stands has =
    let by : GoesBy n stands.begun asked p = way_of n p walk asked stage stands in
    by.holds ∙ holds_way (stripe_asked n asked) s by.way (rw (sym (stage_by n p walk asked stage stands)) has)
held_when_job n s p (Waits held) (Keeps asked position) stands has = absurd cc
held_when_job n s p (Releases walk) (Releasing asked position asking) stands has = absurd cc
held_when_job n s p doing job stands has = absurd stands

-- ---- all jobs

or_cases : (x y : Bool) → (x || y) ≡ true → (x ≡ true) ⊎ (y ≡ true)
or_cases true y is = inl refl
or_cases false y is = inr is

or_left : (x y : Bool) → x ≡ true → (x || y) ≡ true
or_left true y is = refl
or_left false y is = absurd cc

or_right : (x y : Bool) → y ≡ true → (x || y) ≡ true
or_right true y is = refl
or_right false y is = is

any_there : (n s : ℕ) (jobs : List Job) (j : ℕ) → j < length jobs → job_holds n s (slice_index_or jobs j Idle) ≡ true → any_holds n s jobs ≡ true
any_there n s [] j lt is = absurd (omega (arith, lt))
any_there n s (job ∷ jobs) zero lt is = or_left (job_holds n s job) (any_holds n s jobs) is
any_there n s (job ∷ jobs) (suc j) lt is = or_right (job_holds n s job) (any_holds n s jobs) (any_there n s jobs j (omega (arith, lt)) is)

FoundJob : ℕ → ℕ → List Job → Type 0
FoundJob n s jobs = (j : ℕ) × (j < length jobs) × (job_holds n s (slice_index_or jobs j Idle) ≡ true)

any_found : (n s : ℕ) (jobs : List Job) → any_holds n s jobs ≡ true → FoundJob n s jobs
unfolding FoundJob
any_found n s [] is = absurd cc
any_found n s (job ∷ jobs) is = elim (or_cases (job_holds n s job) (any_holds n s jobs) is) [
  | inl here ↦ (0, omega arith, here)
  | inr there ↦ let found : FoundJob n s jobs = any_found n s jobs there in (suc found.0, omega (arith, found.1), found.2)
]

-- ---- the world

module _ (b : Book) (w : World) (l : Life) (doings : ℕ → Doing) (stand : WorkersStand b w l doings) where
  by_worker : (i j : ℕ) → j < 64 → HoldsStripe b j i → is_held l i ≡ true
  by_worker i j lt holds =
      let one : job_holds b.stripes i (job_of l j) ≡ true = job_when_held b.stripes i (record_of j b) (doings j) (job_of l j) (stand.each j lt) holds.has in
      or_left (any_holds l.stripes i l.jobs) (keeper_holds l i l.walk) (any_there l.stripes i l.jobs j (omega (arith, lt, stand.jobs)) (rw stand.words.stripes one))

  pub held_by : (i j : ℕ) → HoldsStripe b j i → is_held l i ≡ true
  held_by i j holds = elim (cases_eq j 64) [
    | inl e ↦ or_right (any_holds l.stripes i l.jobs) (keeper_holds l i l.walk) ((stand.held i).1 (subst (λ k. HoldsStripe b k i) e holds))
    | inr ne ↦ by_worker i j (omega (arith, holds.within, stand.passes, ne)) holds
  ]

  pub held_by_another : (i j : ℕ) → IsHeldByAnother j i b → is_held l i ≡ true
  held_by_another i j another = held_by i another.holder another.holds

  worker_holds : (i : ℕ) → FoundJob l.stripes i l.jobs → (j : ℕ) × HoldsStripe b j i
  unfolding FoundJob
  worker_holds i found =
      let lt : found.0 < 64 = omega (arith, found.1, stand.jobs) in (
        found.0,
        record {
          within = omega (arith, lt, stand.passes);
          has = held_when_job b.stripes i (record_of found.0 b) (doings found.0) (job_of l found.0) (stand.each found.0 lt) (rw (sym stand.words.stripes) found.2);
        },
      )

  found_holder : (i : ℕ) → is_held l i ≡ true → (j : ℕ) × HoldsStripe b j i
  found_holder i is = elim (or_cases (any_holds l.stripes i l.jobs) (keeper_holds l i l.walk) is) [
    | inl any ↦
        let found : FoundJob l.stripes i l.jobs = any_found l.stripes i l.jobs any in
        worker_holds i found
    | inr keeper ↦ (64, (stand.held i).0 keeper)
  ]

  pub held_by_none : (i : ℕ) → IsFree i b → is_held l i ≡ false
  held_by_none i free = false_from_ne_true (is_held l i) (λ is. (let holder : (j : ℕ) × HoldsStripe b j i = found_holder i is in free holder.0 holder.1))

pub free_is_told : FreeIsTold
free_is_told b w l doings i stand free = held_by_none b w l doings stand i free

pub held_is_told : HeldIsTold
held_is_told b w l doings j i stand holds = held_by b w l doings stand i j holds

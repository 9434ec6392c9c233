-- The places of tickets, after a worker drew one or gave its stripe back.
use Rattle.std.proofs.Common.{ℕ, ◌≡◌, ◌≢◌, ◌↔◌, ◌+◌, ◌-◌, ◌<◌, ◌⊎◌, List, [], ◌∷◌, ◌++◌, Some, None, length, refl, arith, sym, ◌∙◌, ap, subst, inl, inr, length-append}
use Rattle.std.specs.Prelude.{slice_index_or, slice_set}
use Rattle.std.proofs.Math.ListN.{get_or-append, length-set}
use Rattle.std.proofs.Math.Seq.{get_or-append_seam}
use Rattle.std.proofs.lemmas.Bool.{cases_eq}
use Rattle.std.proofs.lemmas.List.{get_or-set_same, get_or-set_other}
use Rattle.map_types.specs.declared.commands.Command.{Command}
use Rattle.ticket_order.proofs.Entries.{grown}
use Rattle.one_history.specs.declared.book.Book.{Book}
use Rattle.sim_rules.specs.World.{Life, Job, Idle, Place, WithWorker, InOutbox, InHand, job_of, place_of}
use Rattle.sim_workers.specs.WordsInWorld.{IsDrawn, IsOfLife, IsTaken, PlacesStand, drawn_by}
use Rattle.sim_workers.proofs.WorkersInWorld.{changed}

-- the places differ from each other
in_outbox_not_with : InOutbox ≡ WithWorker → ⊥
in_outbox_not_with e = cc

in_outbox_not_in_hand : InOutbox ≡ InHand → ⊥
in_outbox_not_in_hand e = cc

with_not_in_hand : WithWorker ≡ InHand → ⊥
with_not_in_hand e = cc

never : (t : ℕ) → None ≡ Some t → ⊥
never t e = cc

same_ticket : (t u : ℕ) → Some t ≡ Some u → t ≡ u
same_ticket t u e = cc

-- the job of worker j changes
module _ (l : Life) (j : ℕ) (job : Job) (seen : List ℕ) (places : List Place) (within : j < length l.jobs) where
  drawn_here : drawn_by (job_of (changed l j job seen places) j) ≡ drawn_by job
  drawn_here = ap drawn_by (get_or-set_same l.jobs j job Idle within)

  drawn_there : (i : ℕ) → i ≢ j → drawn_by (job_of (changed l j job seen places) i) ≡ drawn_by (job_of l i)
  drawn_there i ne = ap drawn_by (get_or-set_other l.jobs j i job Idle ne)

-- a taken entry is one still, where the sweeps took nothing more
still_taken : (b b' : Book) (t : ℕ) → b'.effects.taken ≡ b.effects.taken → IsTaken b t → IsTaken b' t
still_taken b b' t taken is = (is.0, rw taken is.1, is.2)

-- the worker drew the ticket that is the next
module _ (b b' : Book) (l : Life) (j t : ℕ) (job : Job) (seen : List ℕ) (stand : PlacesStand b l) (within : j < length l.jobs) (first : l.first ≡ b.opening.first) (begins : b'.opening.first ≡ b.opening.first)
    (command : Command) (history : b'.history ≡ b.history ++ command ∷ []) (taken : b'.effects.taken ≡ b.effects.taken) (next : t ≡ b.opening.first + length b.history) (before : drawn_by (job_of l j) ≡ None) (now : drawn_by job ≡ Some t) where
  abbrev drew : Life
  drew = changed l j job seen (l.places ++ WithWorker ∷ [])

  many : length b'.history ≡ length b.history + 1
  many = ap length history ∙ length-append b.history (command ∷ [])

  drew_of_life : (u : ℕ) → IsOfLife b' u → u ≢ t → IsOfLife b u
  drew_of_life u is ne = (omega (arith, is.0, begins), omega (arith, is.1, begins, many, next, ne))

  drew_still : (u : ℕ) → IsOfLife b u → IsOfLife b' u
  drew_still u is = (omega (arith, is.0, begins), omega (arith, is.1, begins, many))

  drew_next : IsOfLife b' t
  drew_next = (omega (arith, next, begins), omega (arith, next, begins, many))

  drew_here : drawn_by (job_of drew j) ≡ Some t
  drew_here = drawn_here l j job seen (l.places ++ WithWorker ∷ []) within ∙ now

  drew_there : (i : ℕ) → i ≢ j → drawn_by (job_of drew i) ≡ drawn_by (job_of l i)
  drew_there i ne = drawn_there l j job seen (l.places ++ WithWorker ∷ []) within i ne

  -- a ticket that a worker has drawn is that one, or was drawn before by the same
  drew_or : (i u : ℕ) → drawn_by (job_of drew i) ≡ Some u → ((i ≡ j) × (u ≡ t)) ⊎ ((i ≢ j) × (drawn_by (job_of l i) ≡ Some u))
  drew_or i u is = elim (cases_eq i j) [
    | inl e ↦ inl (e, same_ticket u t (sym is ∙ (ap (λ k. drawn_by (job_of drew k)) e ∙ drew_here)))
    | inr ne ↦ inr (ne, sym (drew_there i ne) ∙ is)
  ]

  -- one that was drawn before was drawn by another
  drew_other : (i u : ℕ) → drawn_by (job_of l i) ≡ Some u → i ≢ j
  drew_other i u is e = never u (sym before ∙ (sym (ap (λ k. drawn_by (job_of l k)) e) ∙ is))

  drew_kept : (i u : ℕ) → drawn_by (job_of l i) ≡ Some u → drawn_by (job_of drew i) ≡ Some u
  drew_kept i u is = drew_there i (drew_other i u is) ∙ is

  drew_old : (u : ℕ) → IsOfLife b u → u ≢ t
  drew_old u is e = omega (arith, is.1, next, e)

  drew_place : (u : ℕ) → IsOfLife b u → place_of drew u ≡ place_of l u
  drew_place u is = get_or-append l.places (WithWorker ∷ []) WithWorker (u - l.first) (omega (arith, is.0, is.1, first, stand.count))

  drew_place_next : place_of drew t ≡ WithWorker
  drew_place_next =
      let at : t - l.first ≡ length l.places = omega (arith, next, first, stand.count) in
      ap (λ k. slice_index_or (l.places ++ WithWorker ∷ []) k WithWorker) at ∙ get_or-append_seam l.places WithWorker [] WithWorker

  drew_untaken : IsTaken b' t → ⊥
  drew_untaken is = (let old : IsOfLife b t = stand.taken t (still_taken b' b t (sym taken) is) in drew_old t old refl)

  drew_drawn : (u : ℕ) → IsDrawn drew u → IsOfLife b' u
  drew_drawn u is = elim (drew_or is.0 u is.1) [
    | inl this ↦ subst (IsOfLife b') (sym this.1) drew_next
    | inr other ↦ drew_still u (stand.drawn u (is.0, other.1))
  ]

  -- which of the two it was, for each of two workers
  drew_once : (i k u : ℕ) → drawn_by (job_of drew i) ≡ Some u → drawn_by (job_of drew k) ≡ Some u → i ≡ k
  drew_once i k u x y = elim (drew_or i u x) [
    | inl here ↦ elim (drew_or k u y) [
      | inl too ↦ here.0 ∙ sym too.0
      | inr other ↦ absurd (drew_old u (stand.drawn u (k, other.1)) here.1)
    ]
    | inr there ↦ elim (drew_or k u y) [
      | inl too ↦ absurd (drew_old u (stand.drawn u (i, there.1)) too.1)
      | inr other ↦ stand.drawn_once i k u there.1 other.1
    ]
  ]

  drew_with : (u : ℕ) → IsOfLife b u → (place_of drew u ≡ WithWorker) ↔ IsDrawn drew u
  drew_with u is = (
    λ at. (let was : IsDrawn l u = (stand.with_worker u is).0 (sym (drew_place u is) ∙ at) in (was.0, drew_kept was.0 u was.1)),
    λ x. drew_place u is ∙ elim (drew_or x.0 u x.1) [
      | inl this ↦ absurd (drew_old u is this.1)
      | inr other ↦ (stand.with_worker u is).1 (x.0, other.1)
    ],
  )

  drew_hand : (u : ℕ) → IsOfLife b u → (place_of drew u ≡ InHand) ↔ IsTaken b' u
  drew_hand u is = (
    λ at. still_taken b b' u taken ((stand.in_hand u is).0 (sym (drew_place u is) ∙ at)),
    λ x. drew_place u is ∙ (stand.in_hand u is).1 (still_taken b' b u (sym taken) x),
  )

  drew_with_next : (place_of drew t ≡ WithWorker) ↔ IsDrawn drew t
  drew_with_next = (λ at. (j, drew_here), λ x. drew_place_next)

  drew_hand_next : (place_of drew t ≡ InHand) ↔ IsTaken b' t
  drew_hand_next = (λ at. absurd (with_not_in_hand (sym drew_place_next ∙ at)), λ x. absurd (drew_untaken x))

  pub places_drawn : PlacesStand b' drew
  places_drawn = record {
    count = omega (arith, length-append l.places (WithWorker ∷ []), stand.count, many);
    drawn = drew_drawn;
    drawn_once = drew_once;
    taken = λ u is. drew_still u (stand.taken u (still_taken b' b u (sym taken) is));
    entries = λ e has. rw (begins, history) (grown b.opening.first b.history (command ∷ []) e (stand.entries e (rw (sym taken) has)));
    with_worker = λ u is. elim (cases_eq u t) [
      | inl e ↦ subst (λ k. (place_of drew k ≡ WithWorker) ↔ IsDrawn drew k) (sym e) drew_with_next
      | inr ne ↦ drew_with u (drew_of_life u is ne)
    ];
    in_hand = λ u is. elim (cases_eq u t) [
      | inl e ↦ subst (λ k. (place_of drew k ≡ InHand) ↔ IsTaken b' k) (sym e) drew_hand_next
      | inr ne ↦ drew_hand u (drew_of_life u is ne)
    ];
  }

-- the worker gave back the stripe of the ticket that it had drawn
module _ (b b' : Book) (l : Life) (j t : ℕ) (job : Job) (seen : List ℕ) (stand : PlacesStand b l) (within : j < length l.jobs) (first : l.first ≡ b.opening.first) (begins : b'.opening.first ≡ b.opening.first)
    (history : b'.history ≡ b.history) (taken : b'.effects.taken ≡ b.effects.taken) (before : drawn_by (job_of l j) ≡ Some t) (now : drawn_by job ≡ None) where
  abbrev gave : Life
  gave = changed l j job seen (slice_set l.places (t - l.first) InOutbox)

  gave_of_life : (u : ℕ) → IsOfLife b' u → IsOfLife b u
  gave_of_life u is = (omega (arith, is.0, begins), omega (arith, is.1, begins, ap length history))

  gave_still : (u : ℕ) → IsOfLife b u → IsOfLife b' u
  gave_still u is = (omega (arith, is.0, begins), omega (arith, is.1, begins, ap length history))

  gave_own : IsOfLife b t
  gave_own = stand.drawn t (j, before)

  gave_here : drawn_by (job_of gave j) ≡ None
  gave_here = drawn_here l j job seen (slice_set l.places (t - l.first) InOutbox) within ∙ now

  gave_there : (i : ℕ) → i ≢ j → drawn_by (job_of gave i) ≡ drawn_by (job_of l i)
  gave_there i ne = drawn_there l j job seen (slice_set l.places (t - l.first) InOutbox) within i ne

  -- a ticket that a worker has drawn was drawn before, by another worker than that
  gave_other : (i u : ℕ) → drawn_by (job_of gave i) ≡ Some u → i ≢ j
  gave_other i u is e = never u (sym gave_here ∙ (sym (ap (λ k. drawn_by (job_of gave k)) e) ∙ is))

  gave_was : (i u : ℕ) → drawn_by (job_of gave i) ≡ Some u → drawn_by (job_of l i) ≡ Some u
  gave_was i u is = sym (gave_there i (gave_other i u is)) ∙ is

  gave_not : (i u : ℕ) → drawn_by (job_of gave i) ≡ Some u → u ≢ t
  gave_not i u is e = gave_other i u is (stand.drawn_once i j u (gave_was i u is) (before ∙ ap (λ k. Some k) (sym e)))

  gave_kept : (i u : ℕ) → u ≢ t → drawn_by (job_of l i) ≡ Some u → drawn_by (job_of gave i) ≡ Some u
  gave_kept i u ne is = gave_there i (λ e. ne (same_ticket u t (sym is ∙ (ap (λ k. drawn_by (job_of l k)) e ∙ before)))) ∙ is

  gave_place : (u : ℕ) → IsOfLife b u → u ≢ t → place_of gave u ≡ place_of l u
  gave_place u is ne = get_or-set_other l.places (t - l.first) (u - l.first) InOutbox WithWorker (λ e. ne (omega (arith, e, is.0, gave_own.0, first)))

  gave_place_own : place_of gave t ≡ InOutbox
  gave_place_own = get_or-set_same l.places (t - l.first) InOutbox WithWorker (omega (arith, gave_own.0, gave_own.1, first, stand.count))

  gave_with : (u : ℕ) → IsOfLife b u → u ≢ t → (place_of gave u ≡ WithWorker) ↔ IsDrawn gave u
  gave_with u is ne = (
    λ at. (let was : IsDrawn l u = (stand.with_worker u is).0 (sym (gave_place u is ne) ∙ at) in (was.0, gave_kept was.0 u ne was.1)),
    λ x. gave_place u is ne ∙ (stand.with_worker u is).1 (x.0, gave_was x.0 u x.1),
  )

  gave_hand : (u : ℕ) → IsOfLife b u → u ≢ t → (place_of gave u ≡ InHand) ↔ IsTaken b' u
  gave_hand u is ne = (
    λ at. still_taken b b' u taken ((stand.in_hand u is).0 (sym (gave_place u is ne) ∙ at)),
    λ x. gave_place u is ne ∙ (stand.in_hand u is).1 (still_taken b' b u (sym taken) x),
  )

  gave_with_own : (place_of gave t ≡ WithWorker) ↔ IsDrawn gave t
  gave_with_own = (λ at. absurd (in_outbox_not_with (sym gave_place_own ∙ at)), λ x. absurd (gave_not x.0 t x.1 refl))

  gave_untaken : IsTaken b' t → ⊥
  gave_untaken is = with_not_in_hand (sym ((stand.with_worker t gave_own).1 (j, before)) ∙ (stand.in_hand t gave_own).1 (still_taken b' b t (sym taken) is))

  gave_hand_own : (place_of gave t ≡ InHand) ↔ IsTaken b' t
  gave_hand_own = (λ at. absurd (in_outbox_not_in_hand (sym gave_place_own ∙ at)), λ x. absurd (gave_untaken x))

  pub places_given : PlacesStand b' gave
  places_given = record {
    count = length-set l.places (t - l.first) InOutbox ∙ (stand.count ∙ sym (ap length history));
    drawn = λ u is. gave_still u (stand.drawn u (is.0, gave_was is.0 u is.1));
    drawn_once = λ i k u x y. stand.drawn_once i k u (gave_was i u x) (gave_was k u y);
    taken = λ u is. gave_still u (stand.taken u (still_taken b' b u (sym taken) is));
    entries = λ e has. rw (begins, history) (stand.entries e (rw (sym taken) has));
    with_worker = λ u is. elim (cases_eq u t) [
      | inl e ↦ subst (λ k. (place_of gave k ≡ WithWorker) ↔ IsDrawn gave k) (sym e) gave_with_own
      | inr ne ↦ gave_with u (gave_of_life u is) ne
    ];
    in_hand = λ u is. elim (cases_eq u t) [
      | inl e ↦ subst (λ k. (place_of gave k ≡ InHand) ↔ IsTaken b' k) (sym e) gave_hand_own
      | inr ne ↦ gave_hand u (gave_of_life u is) ne
    ];
  }

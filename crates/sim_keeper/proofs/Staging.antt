-- The longest run in hand is the longest run of tickets in hand.
use Rattle.std.proofs.Common.{◌≡◌, inl, inr, ℕ, zero, suc, ◌+◌, ◌-◌, ◌<◌, ◌≤◌, List, [], ◌∷◌, ◌++◌, length, map, get_or, Option, Some, None, true, false, append-nil, refl, sym, ◌∙◌, ap, subst, arith}
use Rattle.std.specs.List.{Contains}
use Rattle.std.proofs.lemmas.Bool.{cases_lt}
use Rattle.std.proofs.lemmas.List.{append_assoc, get_or_past}
use Rattle.map_types.specs.declared.commands.Command.{Command}
use Rattle.ticket_order.specs.declared.record.Record.{Record}
use Rattle.ticket_order.specs.declared.stripe.Entry.{Entry}
use Rattle.ticket_order.specs.declared.walk.Walk.{Walk}
use Rattle.ticket_order.specs.Records.{entry, reach}
use Rattle.ticket_order.specs.Walks.{Kind, Take, Give, Ticket, Look, Durable, See, Fail, Alive, next_kind}
use Rattle.disk_model.specs.Files.{Files}
use Rattle.log_records.specs.Layout.{Layout, layout_of}
use Rattle.store_layout.specs.Logs.{frame}
use Rattle.gate_log.specs.States.{LogState, commands_of}
use Rattle.flusher.specs.declared.keeper.Keeper.{Keeper}
use Rattle.flusher.specs.declared.sweeper.Walking.{Walking}
use Rattle.flusher.specs.declared.sweeper.Walking.TheVariants as walking
use Rattle.flusher.specs.Fitting.{Fits, IsEmptyIn}
use Rattle.flusher.specs.Gathering.{Accounts}
use Rattle.store_layout.specs.Hands.{FitsBatch, IsLongest, IsRun}
use Rattle.flusher.specs.KeeperSteps.{IsFull, MayStage, is_walking}
use Rattle.flusher.specs.Rotating.{MayRotate}
use Rattle.ticket_order.proofs.Entries.{at_ticket, found}
use Rattle.flusher.proofs.FittingKeepers.{is_free}
use Rattle.flusher.proofs.Passing.{front_of_all}
use Rattle.flusher.proofs.Staging.{accounts_staged, taken_in_hand}
use Rattle.sim_rules.specs.World.{World, Life, WithWorker, InHand, gate_after, is_resting, next_batch, next_commands, place_of, rests}
use Rattle.sim_rules.specs.Cases.{CanStage, IsLongestRun, IsPastFull}
use Rattle.sim_keeper.specs.Showing.{capture_shown, committing, walk_by, walking_shown, work_by}
use Rattle.sim_keeper.specs.KeeperInWorld.{KeeperStands, TellsPlaces}
use Rattle.sim_keeper.proofs.Deciding.{resting_idle, two_ways}
use Rattle.sim_keeper.proofs.Lists.{part_after}

-- ---- where nothing walks

pub capture_walks : (kind : Kind) (mark : ℕ) → rests (capture_shown kind mark) ≡ false
capture_walks (Take i) mark = refl
capture_walks (Give i) mark = refl
capture_walks Ticket mark = refl
capture_walks Look mark = refl
capture_walks Durable mark = refl
capture_walks See mark = refl
capture_walks Fail mark = refl
capture_walks Alive mark = refl

pub walks_not : (walks : Walking) → rests (walking_shown walks) ≡ true → is_walking walks ≡ false
walks_not walking.Rests e = refl
walks_not walking.SweepTakes e = absurd cc
walks_not (walking.SweepGives walk) e = absurd cc

pub no_walk : (n : ℕ) (walks : Walking) (o : Option Walk) (p : Record) → rests (walk_by n walks o p) ≡ true → (is_walking walks ≡ false) × (o ≡ None)
no_walk n walks None p e = (walks_not walks e, refl)
no_walk n walks (Some walk) p e = absurd (two_ways (rests (capture_shown (next_kind n walk) (reach p))) e (capture_walks (next_kind n walk) (reach p)))

-- ---- when a batch may be staged

pub may_rest : (log : LogState) (next : Option LogState) (n : ℕ) → MayStage log next → is_resting (work_by log next n) ≡ true
may_rest log next n may = ap (λ o. is_resting (work_by log o n)) may.1 ∙ ap (λ ph. is_resting (committing ph n)) may.0.0

pub rest_may : (log : LogState) (next : Option LogState) (n : ℕ) (staged : List Entry) → MayRotate next log staged → is_resting (work_by log next n) ≡ true → MayStage log next
rest_may log None n staged goes e = ((resting_idle log.phase n e, goes), refl)
rest_may log (Some next) n staged goes e = absurd cc

-- ---- runs

-- the commands of the first places, where each has one
slots_run : (m : ℕ) (slots : List (Option Command)) → ((i : ℕ) → i < m → (c : Command) × (get_or slots i None ≡ Some c)) → (cs : List Command) × ((rest : List (Option Command)) × (slots ≡ map Some cs ++ rest)) × (length cs ≡ m)
slots_run zero slots f = ([], (slots, refl), refl)
slots_run (suc m) [] f = absurd (none_some (f 0 (omega arith)).1)
  where
    none_some : {c : Command} → None ≡ Some c → ⊥
    none_some e = cc
slots_run (suc m) (x ∷ xs) f =
    let first = f 0 (omega arith) in
    let tail = slots_run m xs (λ i lt. f (suc i) (omega (arith, lt))) in
    (first.0 ∷ tail.0, (tail.1.0, ap (λ y. y ∷ xs) first.1 ∙ ap (λ ys. Some first.0 ∷ ys) tail.1.1), omega (arith, tail.2))

-- past the last of the tickets there is no place
place_within : (l : Life) (t : ℕ) → l.first ≤ t → place_of l t ≡ InHand → t < l.first + length l.places
place_within l t low place = elim (cases_lt t (l.first + length l.places)) [
  | inl within ↦ within
  | inr past ↦ absurd (other (sym (get_or_past l.places (t - l.first) WithWorker (omega (arith, low, past))) ∙ place))
]
  where
    other : WithWorker ≡ InHand → ⊥
    other e = cc

module _ {D : Type 0} (states : D → List Files) (honest : D → Type 0) (n : ℕ) (done : List Command) (old : Keeper D) (p : Record) (w : World) (l : Life)
    (f : Fits states honest n done old p) (s : KeeperStands states old p w l) (places : TellsPlaces p l) (rest : is_walking old.sweeper.walking ≡ false) (may : MayStage old.log old.next)
    (lies : l.layout ≡ layout_of old.log.version) where
  abbrev own : Layout
  own = layout_of old.log.version

  none_staged : old.staged.items ≡ []
  none_staged = subst (λ ph. IsEmptyIn ph old.staged.items) may.0.0 f.counts.empty

  accounts : Accounts old.sweeper.in_hand done p.opening.first p.taken p.seen
  accounts = subst (λ gone. Accounts old.sweeper.in_hand gone p.opening.first p.taken p.seen) (ap (λ xs. done ++ commands_of xs) none_staged ∙ append-nil done) (is_free states honest n done old p f rest).gathers.accounts

  at : p.opening.first + length done ≡ old.sweeper.in_hand.next
  at = f.counts.committed ∙ sym f.counts.next

  next_is : old.sweeper.in_hand.next ≡ l.committed
  next_is = f.counts.next ∙ sym s.committed

  pub run_next : (cs : List Command) → IsRun old.sweeper.in_hand cs → next_commands w l (length cs) ≡ cs
  run_next cs run =
      let a = accounts_staged old.sweeper.in_hand done cs p.opening.first p.taken p.seen accounts at run in
      let front = front_of_all p.opening.first (done ++ cs) p.seen (λ e has. a.known e (a.was_taken e has)) in
      let all = s.history.added ∙ ap (λ xs. xs ++ s.history.unseen) (front.1 ∙ append_assoc done cs front.0) ∙ append_assoc done (cs ++ front.0) s.history.unseen ∙ ap (λ xs. done ++ xs) (append_assoc cs front.0 s.history.unseen) in
      let place : l.first + length done ≡ l.committed = ap (λ k. k + length done) (sym s.history.first) ∙ f.counts.committed ∙ sym s.committed in
      part_after l.first l.committed w.history done cs (front.0 ++ s.history.unseen) all place

  can : (most : ℕ) (cs : List Command) → IsRun old.sweeper.in_hand cs → FitsBatch own most old.sweeper.in_hand.next cs → CanStage w l most (length cs)
  can most cs run fits = record {
    in_hand = λ i lt.
        let x = at_ticket old.sweeper.in_hand.next cs (old.sweeper.in_hand.next + i) (omega arith) (omega (arith, lt)) in
        let has = taken_in_hand old.sweeper.in_hand done cs p.opening.first p.taken p.seen accounts run (entry (old.sweeper.in_hand.next + i) x.0) x.1 in
        subst (λ t. place_of l (t + i) ≡ InHand) next_is (places.taken (entry (old.sweeper.in_hand.next + i) x.0) has);
    fits = subst (λ (x : Layout). FitsBatch x most l.committed (next_commands w l (length cs))) (sym lies)
        (subst (λ t. FitsBatch own most t (next_commands w l (length cs))) next_is (subst (FitsBatch own most old.sweeper.in_hand.next) (sym (run_next cs run)) fits));
  }

  -- a ticket in hand has its command there
  entry_at : (i : ℕ) → (e : Entry) → Contains p.taken e → e.ticket ≡ old.sweeper.in_hand.next + i → (c : Command) × (get_or old.sweeper.in_hand.slots i None ≡ Some c)
  entry_at i e has is = elim (accounts.each e has) [
    | inl gone ↦ absurd (omega (arith, at, is, (found p.opening.first done e gone).high))
    | inr holds ↦ (e.command, ap (λ k. get_or old.sweeper.in_hand.slots k None) {x = i} {y = e.ticket - old.sweeper.in_hand.next} (omega (arith, is)) ∙ holds.there)
  ]

  held_at : (i : ℕ) → place_of l (l.committed + i) ≡ InHand → (c : Command) × (get_or old.sweeper.in_hand.slots i None ≡ Some c)
  held_at i place =
      let low : l.first ≤ old.sweeper.in_hand.next + i = omega (arith, at, s.history.first) in
      let there : place_of l (old.sweeper.in_hand.next + i) ≡ InHand = subst (λ t. place_of l (t + i) ≡ InHand) (sym next_is) place in
      let x = places.in_hand (old.sweeper.in_hand.next + i) low (place_within l (old.sweeper.in_hand.next + i) low there) there in
      entry_at i x.0 x.1 x.2

  run_of : (most m : ℕ) (cs : List Command) → FitsBatch l.layout most l.committed (next_commands w l m) → IsRun old.sweeper.in_hand cs → length cs ≡ m → FitsBatch own most old.sweeper.in_hand.next cs
  run_of most m cs fits run long =
      subst (λ t. FitsBatch own most t cs) (sym next_is) (subst (FitsBatch own most l.committed) (run_next cs run)
      (subst (λ k. FitsBatch own most l.committed (next_commands w l k)) (sym long) (subst (λ (x : Layout). FitsBatch x most l.committed (next_commands w l m)) lies fits)))

  back : (most m : ℕ) → CanStage w l most m → (cs : List Command) × IsRun old.sweeper.in_hand cs × (length cs ≡ m) × FitsBatch own most old.sweeper.in_hand.next cs
  back most m c =
      let r = slots_run m old.sweeper.in_hand.slots (λ i lt. held_at i (c.in_hand i lt)) in
      (r.0, r.1, r.2, run_of most m r.0 c.fits r.1 r.2)

  pub longest : (most : ℕ) (cs : List Command) → IsLongest own most old.sweeper.in_hand cs → IsLongestRun w l most (length cs)
  longest most cs k = record {
    can = can most cs k.run k.fits;
    no_longer = λ c. let b = back most (length cs + 1) c in omega (arith, b.2, k.longest b.0 b.1 b.3);
  }

  -- where the gate would stand
  gate_is : (cs : List Command) → IsRun old.sweeper.in_hand cs → l.gate ≡ old.log.gate → gate_after w l (length cs) ≡ old.log.gate + 1 + length (frame own (record { first = old.log.committed; commands = cs }))
  gate_is cs run gate =
      let same : length (frame l.layout (next_batch w l (length cs))) ≡ length (frame own (record { first = old.log.committed; commands = cs })) =
      ap (λ (x : Layout). length (frame x (next_batch w l (length cs)))) lies
      ∙ ap (λ c. length (frame own (record { first = c; commands = next_commands w l (length cs) }))) s.committed
      ∙ ap (λ xs. length (frame own (record { first = old.log.committed; commands = xs }))) (run_next cs run) in
      omega (arith, same, gate)

  pub past_full : (most : ℕ) (cs : List Command) → IsLongest own most old.sweeper.in_hand cs → l.gate ≡ old.log.gate → IsPastFull w l (length cs) → IsFull most old.log old.sweeper.in_hand
  past_full most cs k gate past = record { commands = cs; longest = k; some = past.0; too_long = omega (arith, past.1, gate_is cs k.run gate) }

  pub full_past : (most : ℕ) (k : IsFull most old.log old.sweeper.in_hand) → l.gate ≡ old.log.gate → IsPastFull w l (length k.commands)
  full_past most k gate = (k.some, let long = k.too_long in omega (arith, long, gate_is k.commands k.longest.run gate))

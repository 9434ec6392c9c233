-- LOOK, SEE, ALIVE, DURABLE, FAIL, and a TAKE that finds the stripe held.
use Rattle.std.proofs.Common.{ℕ, ◌≡◌, ◌≢◌, ◌+◌, ◌<◌, ◌≤◌, ◌++◌, List, [], ◌∷◌, Bool, true, false, not, Option, Some, None, length, max, refl, arith, sym, ◌∙◌, ap, subst, append-nil}
use Rattle.std.specs.Prelude.{if◌then◌else◌}
use Rattle.std.proofs.Math.ListN.{length-set}
use Rattle.ticket_order.specs.declared.record.Opening.{Opening}
use Rattle.ticket_order.specs.declared.record.StepMade.{StepMade}
use Rattle.ticket_order.specs.declared.record.StepMade.TheVariants as made
use Rattle.ticket_order.specs.declared.record.Holding.{Holding}
use Rattle.ticket_order.specs.declared.record.Record.{Record}
use Rattle.ticket_order.specs.Records.{reach, looking, looking_at, seeing, living, missing, publishing, failing}
use Rattle.ticket_order.specs.StepRules.{Looks, Sees, Lives, MayPublish}
use Rattle.ticket_order.specs.Legality.{IsContent}
use Rattle.map_types.specs.declared.commands.Command.{Command}
use Rattle.one_history.specs.declared.book.Book.{Book}
use Rattle.one_history.specs.declared.book.KeeperEffects.{KeeperEffects}
use Rattle.one_history.specs.declared.slot.Slot.{Slot}
use Rattle.one_history.specs.declared.slot.Slot.TheVariants.{HeldBy}
use Rattle.one_history.specs.Interleaving.{IsAnother, Finds, moved_by}
use Rattle.one_history.specs.Turns.{record_of, pass_step, words_of, unseen, unseen_to, looked, saw, found_alive, found_held, published, failed}
use Rattle.one_history.specs.OneHistory.{IsFront, HasDone, Holds, Knows, AreOf, IsOneHistory, HoldsStripe, stripe_in}
use Rattle.one_history.specs.Moves.{BookMoves, WordsMove, Raises, SameWords}
use Rattle.one_history.specs.SharedWords.{slot_of, holder_in, Lies, draws_left, IsKept}
use Rattle.one_history.proofs.Fronts.{front_refl, all_seen, sees_to, SeesTo, front_length}
use Rattle.one_history.proofs.Knowing.{SeesMore, nothing_more, holds_longer, holds_looked, watches, done_same, only_keeper, stands_by}
use Rattle.one_history.proofs.Slots.{turned, IsStep, one_turned, same_record, other_records, room_turned, room_looked, kept_turned}

stripe_looked : (q : ℕ) (x : Option Holding) → stripe_in (looking_at q x) ≡ stripe_in x
stripe_looked q None = refl
stripe_looked q (Some d) = refl

held_looked : (o : Opening) (n : ℕ) (h : List Command) (authors : List ℕ) (k : KeeperEffects) (v w : Record) (q : ℕ) → w.opening ≡ o → w.seen ≡ h → q ≡ reach w
    → (x : Option Holding) → ((d : Holding) → x ≡ Some d → Holds o n h authors k v d) → (d' : Holding) → looking_at q x ≡ Some d' → Holds o n h authors k w d'
held_looked o n h authors k v w q wo ws at None held d' e = absurd (let no : None ≡ Some d' = e in cc)
held_looked o n h authors k v w q wo ws at (Some d) held d' e =
    let new : Option ℕ = if d.has_drawn then None else Some q in
    let is : (p : ℕ) → new ≡ Some p → p ≡ reach w = λ p.
    elim d.has_drawn as (λ x. (if x then None else Some q) ≡ Some p → p ≡ reach w) [
      | true ↦ λ f. absurd (let no : None ≡ Some p = f in cc)
      | false ↦ λ f. (let same : Some q ≡ Some p = f in cc)
    ] in
    let same : record d { looked = new } ≡ d' = (let f : Some (record d { looked = new }) ≡ Some d' = e in cc) in
    subst (Holds o n h authors k w) same (holds_looked o n h authors k v w d new wo ws is (held d refl))

module _ (n t durable : ℕ) (has_failed : Bool) (slots : List Slot) (b : Book) (j : ℕ) (kept : IsKept n t durable has_failed slots b) (within : j < length b.passes) where
  here : Knows b.opening b.stripes b.history b.authors b.effects j (record_of j b)
  here = kept.one.passes j within

  -- another record of this pass, of the same history and effects
  one_watched : (s : StepMade) (w : Record) → Knows b.opening b.stripes b.history b.authors b.effects j w → IsStep b j s w b.history b.authors b.effects → IsOneHistory (turned b j s w b.history b.authors b.effects)
  one_watched s w x step = one_turned b j s w b.history b.authors b.effects kept.one within kept.one.authors kept.one.by_passes refl kept.one.begun kept.one.reached kept.one.within x (λ l lt ne. kept.one.passes l lt) step

  -- the step was recorded and found what its word holds, and no word changes
  step_watched : (s : StepMade) (w : Record) → w.steps ≡ (record_of j b).steps ++ s ∷ [] → Finds j s (words_of b) → moved_by j s (words_of b) ≡ words_of b → IsStep b j s w b.history b.authors b.effects
  step_watched s w recorded finds same = record {
    recorded = recorded;
    finds = finds;
    words = subst (AreOf (turned b j s w b.history b.authors b.effects)) (sym same) (record { tickets = kept.one.words.tickets; durable = kept.one.words.durable; failed = kept.one.words.failed; lasts = kept.one.words.lasts });
  }

  pub whole : (record_of j b).seen ++ unseen (record_of j b) b.history ≡ b.history
  whole = all_seen (record_of j b).seen b.history here.front

  first_is : (record_of j b).opening.first ≡ b.opening.first
  first_is = ap (λ (o : Opening). o.first) here.opening

  knows_looked : Knows b.opening b.stripes b.history b.authors b.effects j (looking (record_of j b) (unseen (record_of j b) b.history))
  unfolding here
  knows_looked =
      let r : Record = record_of j b in let w : Record = looking r (unseen r b.history) in
      let s : SeesMore r w (unseen r b.history) = record { opening = refl; seen = refl; calls = refl } in
      watches b.opening b.stripes b.history b.authors b.effects b.effects j r w (unseen r b.history) here s
      (subst (λ x. IsFront x b.history) (sym whole) (front_refl b.history)) refl refl refl
      (done_same b.opening b.effects r w refl refl refl refl here.done)
      (held_looked b.opening b.stripes b.history b.authors b.effects r w (reach w) here.opening whole refl r.holding here.held)

  pub kept_looked : IsKept n t durable has_failed slots (looked j b)
  kept_looked =
      let r : Record = record_of j b in let w : Record = looking r (unseen r b.history) in
      let s : StepMade = made.Looked (reach w) in
      let all : reach w ≡ b.opening.first + length b.history = omega (arith, first_is, ap length whole) in
      kept_turned n t durable has_failed slots b j s w durable b.effects.durable has_failed b.effects.failed kept within (stripe_looked (reach w) r.holding) refl kept.durable_is kept.failed_is
      (room_looked b j s r (unseen r b.history) b.effects within all kept.room)
      (one_watched s w knows_looked (step_watched s w refl (all ∙ sym kept.one.words.tickets) refl))

  pub looks : Looks (record_of j b) t (record_of j (looked j b))
  looks =
      let r : Record = record_of j b in let w : Record = looking r (unseen r b.history) in
      let same : record_of j (looked j b) ≡ w = same_record b j (made.Looked (reach w)) w b.history b.authors b.effects within in
      rw same (record { between = unseen r b.history; is = refl; count_is = (let c : t ≡ b.opening.first + length b.history = kept.counted in omega (arith, first_is, ap length whole)) })

  -- its LOOK finds the count of tickets
  looks_all : t ≡ reach (looking (record_of j b) (unseen (record_of j b) b.history))
  looks_all = (let c : t ≡ b.opening.first + length b.history = kept.counted in omega (arith, first_is, ap length whole))

  -- what no step of one pass changes
  moved : (w : Record) (s m : StepMade) (h : List Command) (authors : List ℕ) (k : KeeperEffects) → s ≡ m → WordsMove j m b (turned b j s w h authors k) → Raises j m b (turned b j s w h authors k) → BookMoves j m b (turned b j s w h authors k)
  moved w s m h authors k is x raises = record { opening = refl; stripes = refl; passes = length-set b.passes j w; others = λ l ne. other_records b j l s w h authors k ne; order = ap (λ z. b.interleaving ++ pass_step j z ∷ []) is; words = x; raises = raises }

  -- the pass has seen no more
  not_raised : (s : StepMade) (w : Record) (k : KeeperEffects) → w.opening ≡ (record_of j b).opening → w.seen ≡ (record_of j b).seen → reach (record_of j (turned b j s w b.history b.authors k)) ≡ reach (record_of j b)
  not_raised s w k opening seen = ap reach (same_record b j s w b.history b.authors k within) ∙ (ap (λ (o : Opening). o.first + length w.seen) opening ∙ ap (λ (cs : List Command). (record_of j b).opening.first + length cs) seen)

  same_words : (s : StepMade) (w : Record) → SameWords b (turned b j s w b.history b.authors b.effects)
  same_words s w = record { same = record { history = refl; authors = refl }; effects = refl }

  pub moves_looked : BookMoves j (made.Looked t) b (looked j b)
  moves_looked = let w : Record = looking (record_of j b) (unseen (record_of j b) b.history) in let s : StepMade = made.Looked (reach w) in moved w s (made.Looked t) b.history b.authors b.effects (ap made.Looked (sym looks_all)) (same_words s w, kept.counted) (sym looks.count_is)

  -- SEE
  sees_all : (x : ℕ) → x ≤ b.opening.first + length b.history → SeesTo (record_of j b).opening.first x (record_of j b).seen (unseen_to x (record_of j b) b.history) b.history
  unfolding here
  sees_all x l = sees_to (record_of j b).opening.first x (record_of j b).seen b.history here.front (omega (arith, first_is))

  -- a record that sees more, and holds what it held
  knows_more : (w : Record) (more : List Command) → SeesMore (record_of j b) w more → IsFront w.seen b.history → w.sections ≡ (record_of j b).sections → w.keeper ≡ (record_of j b).keeper → w.taken ≡ (record_of j b).taken → w.published ≡ (record_of j b).published → w.failed ≡ (record_of j b).failed
      → w.holding ≡ (record_of j b).holding → Knows b.opening b.stripes b.history b.authors b.effects j w
  unfolding here
  knows_more w more s front sections keeper taken_is published_is failed_is holding =
      let r : Record = record_of j b in
      watches b.opening b.stripes b.history b.authors b.effects b.effects j r w more here s front sections keeper refl
      (done_same b.opening b.effects r w keeper taken_is published_is failed_is here.done)
      (λ d e. holds_longer b.opening b.stripes b.history b.authors b.effects r w more d s (here.held d (sym holding ∙ e)))

  kept_more : (s : StepMade) (w : Record) (more : List Command) → (moved_by j s (words_of b)).holders ≡ (words_of b).holders → IsStep b j s w b.history b.authors b.effects → SeesMore (record_of j b) w more → IsFront w.seen b.history → w.sections ≡ (record_of j b).sections → w.keeper ≡ (record_of j b).keeper → w.taken ≡ (record_of j b).taken → w.published ≡ (record_of j b).published → w.failed ≡ (record_of j b).failed
      → w.holding ≡ (record_of j b).holding → w.fresh ≡ (record_of j b).fresh → IsKept n t durable has_failed slots (turned b j s w b.history b.authors b.effects)
  kept_more s w more holders step sees front sections keeper taken_is published_is failed_is holding fresh =
      kept_turned n t durable has_failed slots b j s w durable b.effects.durable has_failed b.effects.failed kept within (ap stripe_in holding) holders kept.durable_is kept.failed_is
      (room_turned b j s w b.effects within (let e : draws_left w ≡ draws_left (record_of j b) = ap (λ x. if x then 1 else 0) fresh in omega arith) kept.room)
      (one_watched s w (knows_more w more sees front sections keeper taken_is published_is failed_is holding) step)

  pub kept_saw : IsKept n t durable has_failed slots (saw j b)
  kept_saw =
      let r : Record = record_of j b in let between : List Command = unseen_to b.effects.durable r b.history in
      let s : StepMade = made.Saw b.effects.durable in let w : Record = seeing r b.effects.durable between in
      kept_more s w between refl (step_watched s w refl (sym kept.one.words.durable) refl) (record { opening = refl; seen = refl; calls = refl }) (sees_all b.effects.durable kept.one.reached).front refl refl refl refl refl refl refl

  published_low : (x : Bool) → HasDone b.opening b.effects (record_of j b) x → (record_of j b).published ≤ b.effects.durable
  published_low true d = omega (arith, d.1)
  published_low false d = (let low : b.opening.first ≤ b.effects.durable = kept.one.begun in omega (arith, d.1))

  pub sees : Sees (record_of j b) durable (record_of j (saw j b))
  unfolding here
  sees =
      let r : Record = record_of j b in let between : List Command = unseen_to b.effects.durable r b.history in
      let w : Record = seeing r b.effects.durable between in
      let same : record_of j (saw j b) ≡ w = same_record b j (made.Saw b.effects.durable) w b.history b.authors b.effects within in
      rw (kept.durable_is, same) (record { between = between; is = refl; published = published_low r.keeper here.done; rises = (sees_all b.effects.durable kept.one.reached).rises })

  pub moves_saw : BookMoves j (made.Saw durable) b (saw j b)
  moves_saw =
      let r : Record = record_of j b in let w : Record = seeing r b.effects.durable (unseen_to b.effects.durable r b.history) in let s : StepMade = made.Saw b.effects.durable in
      moved w s (made.Saw durable) b.history b.authors b.effects (ap made.Saw (sym kept.durable_is)) (same_words s w, kept.durable_is) sees.rises

  -- ALIVE
  pub kept_found_alive : IsKept n t durable has_failed slots (found_alive j b)
  unfolding here
  kept_found_alive =
      let r : Record = record_of j b in
      let s : StepMade = made.FoundAlive (not b.effects.failed) in let w : Record = living r (not b.effects.failed) in
      kept_more s w [] refl (step_watched s w refl (ap not (sym kept.one.words.failed)) refl) (nothing_more r (living r (not b.effects.failed)) refl refl refl) here.front refl refl refl refl refl refl refl

  not_keeper : (x y : Bool) → HasDone b.opening b.effects (record_of j b) x → x ≡ true → b.effects.failed ≡ (record_of j b).failed
  not_keeper true y d e = sym d.2
  not_keeper false y d e = absurd (let no : false ≡ true = e in cc)

  pub lives : Lives (record_of j b) (not has_failed) (record_of j (found_alive j b))
  unfolding here
  lives =
      let r : Record = record_of j b in let w : Record = living r (not b.effects.failed) in
      let same : record_of j (found_alive j b) ≡ w = same_record b j (made.FoundAlive (not b.effects.failed)) w b.history b.authors b.effects within in
      rw (kept.failed_is, same) (record { is = refl; by_keeper = λ e. ap not (not_keeper r.keeper true here.done e) })

  pub moves_found_alive : BookMoves j (made.FoundAlive (not has_failed)) b (found_alive j b)
  moves_found_alive =
      let w : Record = living (record_of j b) (not b.effects.failed) in let s : StepMade = made.FoundAlive (not b.effects.failed) in
      moved w s (made.FoundAlive (not has_failed)) b.history b.authors b.effects (ap (λ x. made.FoundAlive (not x)) (sym kept.failed_is)) (same_words s w, ap not kept.failed_is) (not_raised s w b.effects refl refl)

  -- TAKE of a stripe that another holds
  pub misses : (i : ℕ) → record_of j (found_held j i b) ≡ missing (record_of j b) i
  misses i = same_record b j (made.FoundHeld i) (missing (record_of j b) i) b.history b.authors b.effects within

  module _ (i l : ℕ) (lt : i < b.stripes) (empty : (record_of j b).holding ≡ None) (is : slot_of i slots ≡ HeldBy l) where
    holder : HoldsStripe b l i
    holder = subst (λ x. Lies b i x) is (kept.each_slot i lt)

    another : l ≢ j
    another e = let has : stripe_in (record_of j b).holding ≡ Some i = subst (λ m. stripe_in (record_of m b).holding ≡ Some i) e holder.has in let none : None ≡ Some i = sym (ap stripe_in empty) ∙ has in cc

    pub kept_found_held : IsKept n t durable has_failed slots (found_held j i b)
    unfolding here
    kept_found_held =
        let r : Record = record_of j b in let s : StepMade = made.FoundHeld i in
        let finds : IsAnother j ((words_of b).holders i) = record { other = l; is = kept.holders i lt ∙ ap holder_in is; apart = another } in
        kept_more s (missing r i) [] refl (step_watched s (missing r i) refl finds refl) (nothing_more r (missing r i) refl refl refl) here.front refl refl refl refl refl refl refl

    pub moves_found_held : BookMoves j (made.FoundHeld i) b (found_held j i b)
    moves_found_held =
        let w : Record = missing (record_of j b) i in let s : StepMade = made.FoundHeld i in
        moved w s s b.history b.authors b.effects refl (same_words s w, record { holder = l; other = another; holds = holder }) (not_raised s w b.effects refl refl)

  -- DURABLE and FAIL, which the keeper makes
  module _ (k' : KeeperEffects) (s : StepMade) (w : Record) (keeper : (record_of j b).keeper ≡ true) (same : k'.keeper ≡ b.effects.keeper) (taken_is : k'.taken ≡ b.effects.taken) (begun : b.opening.first ≤ k'.durable) (reached : k'.durable ≤ b.opening.first + length b.history)
      (sees : SeesMore (record_of j b) w []) (sections : w.sections ≡ (record_of j b).sections) (wk : w.keeper ≡ (record_of j b).keeper) (holding : w.holding ≡ (record_of j b).holding) (done : HasDone b.opening k' w w.keeper) (step : IsStep b j s w b.history b.authors k') where
    one_kept : IsOneHistory (turned b j s w b.history b.authors k')
    unfolding here
    one_kept =
        let r : Record = record_of j b in
        one_turned b j s w b.history b.authors k' kept.one within kept.one.authors kept.one.by_passes same begun reached kept.one.within
        (watches b.opening b.stripes b.history b.authors b.effects k' j r w [] here sees (subst (λ x. IsFront x b.history) (sym (sees.seen ∙ append-nil r.seen)) here.front) sections wk same done
        (λ d e. let was : Holds b.opening b.stripes b.history b.authors b.effects w d = holds_longer b.opening b.stripes b.history b.authors b.effects r w [] d sees (here.held d (sym holding ∙ e)) in record {
          within = was.within;
          content = subst (λ es. IsContent b.opening b.stripes b.history es d.stripe d.part d.outbox d.last) (sym taken_is) was.content;
          looked = was.looked;
        }))
        (λ l lt ne. let x = kept.one.passes l lt in stands_by b.opening b.stripes b.history b.authors b.effects k' l (record_of l b) x same taken_is (only_keeper j l b.effects r (record_of l b) here.keeper x.keeper keeper ne)) step

  done_of : (x : Bool) → HasDone b.opening b.effects (record_of j b) x → x ≡ true → HasDone b.opening b.effects (record_of j b) true
  done_of true d e = d
  done_of false d e = absurd (let no : false ≡ true = e in cc)

  pub kept_published : (x : ℕ) → MayPublish (record_of j b) x → IsKept n t (max durable x) has_failed slots (published j x b)
  unfolding here
  kept_published x may =
      let r : Record = record_of j b in let w : Record = publishing r x in
      let k' : KeeperEffects = record b.effects { durable = max b.effects.durable x } in
      let was : HasDone b.opening b.effects r true = done_of r.keeper here.done may.keeper in
      let low : b.opening.first ≤ b.effects.durable = kept.one.begun in let high : b.effects.durable ≤ b.opening.first + length b.history = kept.one.reached in let own : x ≤ r.opening.first + length r.seen = may.seen in
      let s : StepMade = made.Published x in
      let own_failed : r.failed ≡ b.effects.failed = was.2 in
      let words : AreOf b (words_of b) = kept.one.words in
      let counted : (words_of b).tickets ≡ b.opening.first + length b.history = words.tickets in
      let within_count : x ≤ (words_of b).tickets = omega (arith, first_is, front_length r.seen b.history here.front) in
      kept_turned n t durable has_failed slots b j s w (max durable x) (max b.effects.durable x) has_failed b.effects.failed kept within refl refl (ap (λ y. max y x) kept.durable_is) kept.failed_is
      (room_turned b j s w k' within (omega arith) kept.room)
      (one_kept k' s w may.keeper refl refl (omega arith) (omega (arith, first_is, front_length r.seen b.history here.front)) (nothing_more r w refl refl refl) refl refl refl
      (subst (HasDone b.opening k' w) (sym may.keeper) (was.0, ap (λ y. max y x) was.1, was.2))
      (record {
        recorded = refl;
        finds = (within_count, words.failed ∙ (sym own_failed ∙ may.unfailed));
        words = record { tickets = words.tickets; durable = ap (λ y. max y x) words.durable; failed = words.failed; lasts = words.lasts };
      }))

  pub publishes : (x : ℕ) → record_of j (published j x b) ≡ publishing (record_of j b) x
  publishes x = same_record b j (made.Published x) (publishing (record_of j b) x) b.history b.authors (record b.effects { durable = max b.effects.durable x }) within

  pub moves_published : (x : ℕ) → BookMoves j (made.Published x) b (published j x b)
  moves_published x =
      let w : Record = publishing (record_of j b) x in let k' : KeeperEffects = record b.effects { durable = max b.effects.durable x } in
      moved w (made.Published x) (made.Published x) b.history b.authors k' refl (record { history = refl; authors = refl }, refl) (not_raised (made.Published x) w k' refl refl)

  pub kept_failed : (record_of j b).keeper ≡ true → IsKept n t durable true slots (failed j b)
  unfolding here
  kept_failed keeper =
      let r : Record = record_of j b in let w : Record = failing r in
      let k' : KeeperEffects = record b.effects { failed = true } in
      let was : HasDone b.opening b.effects r true = done_of r.keeper here.done keeper in
      let words : AreOf b (words_of b) = kept.one.words in
      kept_turned n t durable has_failed slots b j made.Failed w durable b.effects.durable true true kept within refl refl kept.durable_is refl
      (room_turned b j made.Failed w k' within (omega arith) kept.room)
      (one_kept k' made.Failed w keeper refl refl kept.one.begun kept.one.reached (nothing_more r w refl refl refl) refl refl refl
      (subst (HasDone b.opening k' w) (sym keeper) (was.0, was.1, refl))
      (record { recorded = refl; finds = tt; words = record { tickets = words.tickets; durable = words.durable; failed = refl; lasts = words.lasts } }))

  pub fails : record_of j (failed j b) ≡ failing (record_of j b)
  fails = same_record b j made.Failed (failing (record_of j b)) b.history b.authors (record b.effects { failed = true }) within

  pub moves_failed : BookMoves j made.Failed b (failed j b)
  moves_failed =
      let w : Record = failing (record_of j b) in let k' : KeeperEffects = record b.effects { failed = true } in
      moved w made.Failed made.Failed b.history b.authors k' refl (record { history = refl; authors = refl }, refl) (not_raised made.Failed w k' refl refl)

-- The sections of a checkpoint that is taken while no change is made.
use Rattle.std.proofs.Common.{◌≡◌, ℕ, ◌+◌, ◌<◌, ◌≤◌, List, [], Option, None, Some, IfSome, Bool, true, false, refl, sym, ap, subst, ◌∙◌, arith}
use Rattle.disk_model.specs.Files.{Files}
use Rattle.ticket_order.specs.declared.record.Record.{Record}
use Rattle.flusher.specs.Fitting.{Fits}
use Rattle.flusher.specs.KeeperSteps.{is_walking}
use Rattle.ticket_order.specs.declared.record.Opening.{Opening}
use Rattle.one_history.specs.declared.book.Book.{Book}
use Rattle.one_history.specs.Turns.{record_of}
use Rattle.checkpoint_file.specs.States.{CheckpointState, begun}
use Rattle.store_layout.specs.declared.checkpoint_phase.CheckpointPhase.TheVariants.{Header, Ready}
use Rattle.flusher.specs.declared.keeper.Keeper.{Keeper}
use Rattle.checkpoint_walk.specs.Checkpointing.{Checkpoints, HasAllSections, IsMarkedAbove, IsNextStripe, checkpoints_of, sealing}
use Rattle.recovery.specs.Upgrading.{HasSections, IsGivenAt, IsUnmoved, IsUnmovedWith, advanced_by, checkpoints_after}

some_inj : {A : Type 0} {x y : A} → Some x ≡ Some y → x ≡ y
some_inj e = cc

module _ {D : Type 0} (states : D → List Files) (honest : D → Type 0) (o : Opening) (k : Keeper D) (j : ℕ) (b : Book) (is : IsUnmovedWith states honest o k j b) where
  -- the section of the stripe with this number is the next
  pub is_next : (generation count : ℕ) → HasSections generation count o.first k.checkpoint → k.next ≡ None → count < k.stripes.count → IsNextStripe count k.next k.checkpoint
  is_next generation count has no_next below =
      let of : has.state.stripes ≡ b.stripes = subst (λ (c : Option CheckpointState). IfSome c (λ w. w.stripes ≡ b.stripes)) has.is is.unmoved.fits.stripes.writer in
      let n : k.stripes.count ≡ b.stripes = is.unmoved.fits.stripes.count in
      let at = has.count_is in
      let room : has.state.count < has.state.stripes = omega (arith, of, n, at, below) in
      subst (λ (c : Option CheckpointState). IsNextStripe count k.next c) (sym has.is) (no_next, (has.ready, room), has.count_is)

  -- the marks are published
  pub published_all : (generation count : ℕ) → HasSections generation count o.first k.checkpoint → IsMarkedAbove k.published k.checkpoint → ⊥
  published_all generation count has above =
      let over : k.published < has.state.greatest = subst (λ (c : Option CheckpointState). IsMarkedAbove k.published c) has.is above in
      let low = has.marked in
      let at = is.unmoved.published in
      absurd (omega (arith, over, low, at))

  -- all sections are given, so that the seal is due
  pub all_given : (generation : ℕ) → HasSections generation k.stripes.count o.first k.checkpoint → HasAllSections k.checkpoint
  all_given generation has =
      let of : has.state.stripes ≡ b.stripes = subst (λ (c : Option CheckpointState). IfSome c (λ w. w.stripes ≡ b.stripes)) has.is is.unmoved.fits.stripes.writer in
      let n : k.stripes.count ≡ b.stripes = is.unmoved.fits.stripes.count in
      subst HasAllSections (sym has.is) (has.ready, has.count_is ∙ n ∙ sym of)

-- one section more is given and written
pub one_more : {D : Type 0} (k k1 k2 : Keeper D) (generation count first : ℕ) → HasSections generation count first k.checkpoint → IsGivenAt first k.checkpoint k1.checkpoint
    → checkpoints_of k2 ≡ checkpoints_after 1 (checkpoints_of k1) → HasSections generation (count + 1) first k2.checkpoint
one_more k k1 k2 generation count first has given is =
    let same : given.state ≡ has.state = some_inj (sym given.was ∙ has.is) in
    let low = given.low in
    let marked : given.state.greatest ≤ first = subst (λ (w : CheckpointState). w.greatest ≤ first) (sym same) has.marked in
    let written : k2.checkpoint ≡ (advanced_by k1.checkpoint (checkpoints_of k1)).writer = ap (λ (c : Checkpoints). c.writer) is in
    record {
      state = _;
      is = written ∙ ap (λ (c : Option CheckpointState). (advanced_by c (checkpoints_of k1)).writer) given.is;
      generation_is = ap (λ (w : CheckpointState). w.generation) same ∙ has.generation_is;
      ready = refl;
      count_is = ap (λ (w : CheckpointState). w.count + 1) same ∙ ap (λ (n : ℕ). n + 1) has.count_is;
      marked = omega (arith, marked, low);
    }

pub one_sealed : {D : Type 0} (k k1 k2 : Keeper D) (first : ℕ) → IsGivenAt first k.checkpoint k1.checkpoint → checkpoints_of k2 ≡ checkpoints_after 1 (checkpoints_of k1) → k2.sealed ≡ k1.sealed
one_sealed k k1 k2 first given is =
    ap (λ (c : Checkpoints). c.sealed) is ∙ ap (λ (c : Option CheckpointState). (advanced_by c (checkpoints_of k1)).sealed) given.is

-- ---- the first calls of a checkpoint, and those of its seal

opened : (sealed generation low stripes : ℕ) (must closes : Bool)
    → checkpoints_after 3 (record { sealed = sealed; writer = Some (begun generation low stripes must); must_close = closes })
    ≡ record { sealed = sealed; writer = Some (record (begun generation low stripes must) { phase = Ready }); must_close = closes }
opened sealed generation low stripes true closes = refl
opened sealed generation low stripes false closes = refl

pub opens : {D : Type 0} (k k1 : Keeper D) (generation low stripes first : ℕ) (must : Bool) → k.checkpoint ≡ Some (begun generation low stripes must) → checkpoints_of k1 ≡ checkpoints_after 3 (checkpoints_of k)
    → HasSections generation 0 first k1.checkpoint
opens k k1 generation low stripes first must begins is =
    let all = is ∙ ap (λ (c : Option CheckpointState). checkpoints_after 3 (record { sealed = k.sealed; writer = c; must_close = k.must_close })) begins ∙ opened k.sealed generation low stripes must k.must_close in
    record {
      state = _;
      is = ap (λ (c : Checkpoints). c.writer) all;
      generation_is = refl;
      ready = refl;
      count_is = refl;
      marked = omega arith;
    }

pub opens_sealed : {D : Type 0} (k k1 : Keeper D) (generation low stripes : ℕ) (must : Bool) → k.checkpoint ≡ Some (begun generation low stripes must) → checkpoints_of k1 ≡ checkpoints_after 3 (checkpoints_of k) → k1.sealed ≡ k.sealed
opens_sealed k k1 generation low stripes must begins is =
    let all = is ∙ ap (λ (c : Option CheckpointState). checkpoints_after 3 (record { sealed = k.sealed; writer = c; must_close = k.must_close })) begins ∙ opened k.sealed generation low stripes must k.must_close in
    ap (λ (c : Checkpoints). c.sealed) all

pub seals : {D : Type 0} (k k1 k2 : Keeper D) (generation count first : ℕ) → HasSections generation count first k.checkpoint → k1.checkpoint ≡ sealing k.checkpoint → checkpoints_of k2 ≡ checkpoints_after 4 (checkpoints_of k1)
    → (k2.sealed ≡ generation) × (k2.checkpoint ≡ None)
seals k k1 k2 generation count first has sealed is =
    let begun_seal : k1.checkpoint ≡ Some (record has.state { phase = Header }) = sealed ∙ ap sealing has.is in
    let all = is ∙ ap (λ (c : Option CheckpointState). checkpoints_after 4 (record { sealed = k1.sealed; writer = c; must_close = k1.must_close })) begun_seal in
    (ap (λ (c : Checkpoints). c.sealed) all ∙ has.generation_is, ap (λ (c : Checkpoints). c.writer) all)

-- the words are as they were
pub unmoved_with : {D : Type 0} (states : D → List Files) (honest : D → Type 0) (o : Opening) (k k1 : Keeper D) (j : ℕ) (b : Book) → IsUnmovedWith states honest o k j b → IsUnmoved states honest b.stripes o k1 (record_of j b) → IsUnmovedWith states honest o k1 j b
unmoved_with states honest o k k1 j b is then = record { unmoved = then; first = is.first; one = is.one; none_made = is.none_made }

pub sealing_unmoved : {D : Type 0} (states : D → List Files) (honest : D → Type 0) (n : ℕ) (o : Opening) (k : Keeper D) (p : Record) → IsUnmoved states honest n o k p → (new : Keeper D) → new ≡ record k { checkpoint = sealing k.checkpoint } → Fits states honest n [] new p
    → IsUnmoved states honest n o new p
sealing_unmoved states honest n o k p is new same fits = record {
  fits = fits;
  opening = is.opening;
  staged = ap (λ (x : Keeper _). x.staged.items) same ∙ is.staged;
  rests = ap (λ (x : Keeper _). is_walking x.sweeper.walking) same ∙ is.rests;
  over = ap (λ (x : Keeper _). x.capture) same ∙ is.over;
  works = ap (λ (x : Keeper _). x.is_broken) same ∙ is.works;
  published = ap (λ (x : Keeper _). x.published) same ∙ is.published;
}

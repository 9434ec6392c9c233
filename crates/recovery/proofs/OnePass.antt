-- A capture by the only pass of words in which no change was made.
use Rattle.std.specs.FinMap as finite
use Rattle.std.proofs.Common.{◌≡◌, ◌≢◌, ◌⊎◌, inl, inr, ℕ, ◌+◌, ◌<◌, ◌≤◌, ◌^◌, List, [], ◌∷◌, length, Option, None, Some, Result, Ok, Err, refl, sym, ap, subst, ◌∙◌, arith}
use Rattle.disk_model.specs.Files.{Files}
use Rattle.map_types.specs.declared.commands.Command.{Command}
use Rattle.map_types.specs.declared.refusals.Refusal.{Refusal}
use Rattle.map_types.specs.declared.refusals.Refusal.TheVariants.{LogFull, NoMemory}
use Rattle.map_model.specs.Maps.{Map}
use Rattle.map_model.specs.Parts.{part_of}
use Rattle.map_model.specs.Steps.{map_after}
use Rattle.ticket_order.specs.declared.record.Opening.{Opening}
use Rattle.ticket_order.specs.declared.record.Record.{Record}
use Rattle.ticket_order.specs.declared.record.StepMade.{StepMade}
use Rattle.ticket_order.specs.declared.record.StepMade.TheVariants.{Took, FoundHeld, Gave, Drew, Looked, Published, Saw, Failed, FoundAlive}
use Rattle.ticket_order.specs.declared.walk.Walk.{Walk}
use Rattle.ticket_order.specs.Records.{reach}
use Rattle.ticket_order.specs.Legality.{last_of}
use Rattle.ticket_order.specs.StepRules.{Rises}
use Rattle.ticket_order.specs.declared.walk.Stage.{Stage}
use Rattle.ticket_order.specs.declared.walk.Stage.TheVariants as stage
use Rattle.ticket_order.specs.Calls.{HasTooMany}
use Rattle.ticket_order.specs.Walks.{FitsStage, Give, Kind, Look, MakesOne, Ticket, ToCapture, kind_of, next_kind, refusal_of_stage}
use Rattle.one_history.specs.declared.book.Book.{Book}
use Rattle.one_history.specs.Turns.{record_of}
use Rattle.one_history.specs.Moves.{BookMoves, Raises, WordsMove}
use Rattle.one_history.specs.OneHistory.{IsOneHistory}
use Rattle.one_history.proofs.Undrawn.{history_stays}
use Rattle.plain_words.specs.declared.at.At.{At}
use Rattle.checkpoint_file.specs.States.{CheckpointState, with_section}
use Rattle.flusher.specs.declared.keeper.Keeper.{Keeper}
use Rattle.flusher.specs.KeeperSteps.{is_walking}
use Rattle.checkpoint_walk.specs.Capturing.{HasLooked, HasTaken, IsCauseOf}
use Rattle.checkpoint_walk.specs.Walking.{AfterStep, AfterTake, AfterWalk, FitsBy, FitsWalking, GivesSection, LooksAt, PutsBack, TakesStripe}
use Rattle.recovery.specs.Upgrading.{HasLargeStripe, IsGivenAt, IsSectionRefused, IsUnmovedWith}

-- ---- the words

-- a LOOK finds all tickets, and has then seen them
looks_at : (j : ℕ) (made : StepMade) (b b' : Book) → kind_of made ≡ Look → WordsMove j made b b' → Raises j made b b' → reach (record_of j b') ≡ b.opening.first + length b.history
looks_at j (Took i es last) b b' e h r = absurd cc
looks_at j (FoundHeld i) b b' e h r = absurd cc
looks_at j (Gave i) b b' e h r = absurd cc
looks_at j (Drew t) b b' e h r = absurd cc
looks_at j (Looked q) b b' e h r = r ∙ h.1
looks_at j (Published x) b b' e h r = absurd cc
looks_at j (Saw d) b b' e h r = absurd cc
looks_at j Failed b b' e h r = absurd cc
looks_at j (FoundAlive is_alive) b b' e h r = absurd cc

none_last : (n i first : ℕ) (h : List Command) → h ≡ [] → last_of n i first h ≡ first
none_last n i first h e = ap (last_of n i first) e ∙ omega arith

risen : (v w : Record) (n first : ℕ) → reach v ≡ first → n ≡ first → Rises v n w → reach w ≡ first
risen v w n first e f (inl up) = up.1 ∙ e
risen v w n first e f (inr up) = up.1 ∙ f

-- a GIVE sees no more, if there is no more
gives_at : (j : ℕ) (made : StepMade) (b b' : Book) (i : ℕ) → kind_of made ≡ Give i → b.history ≡ [] → reach (record_of j b) ≡ b.opening.first → Raises j made b b' → reach (record_of j b') ≡ b.opening.first
gives_at j (Took i es last) b b' m e none at r = absurd cc
gives_at j (FoundHeld i) b b' m e none at r = absurd cc
gives_at j (Gave i) b b' m e none at (inl same) = same.reach ∙ at
gives_at j (Gave i) b b' m e none at (inr read) = risen (record_of j b) (record_of j b') (last_of b.stripes i b.opening.first b.history) b.opening.first at (none_last b.stripes i b.opening.first b.history none) read.rises
gives_at j (Drew t) b b' m e none at r = absurd cc
gives_at j (Looked q) b b' m e none at r = absurd cc
gives_at j (Published x) b b' m e none at r = absurd cc
gives_at j (Saw d) b b' m e none at r = absurd cc
gives_at j Failed b b' m e none at r = absurd cc
gives_at j (FoundAlive is_alive) b b' m e none at r = absurd cc

give_same : (i j : ℕ) → Give i ≡ Give j → i ≡ j
give_same i j e = cc

not_both : (i : ℕ) (kind : Kind) → kind ≡ Look → kind ≡ Give i → ⊥
not_both i kind a b = let e : Look ≡ Give i = sym a ∙ b in absurd cc

some_refusal : (x y : Refusal) → Some x ≡ Some y → x ≡ y
some_refusal x y e = cc

-- ---- a stripe that is too large

-- if no change was made, the part that the pass holds is the map's
large_stripe : (b : Book) (j i : ℕ) (o : Opening) (v : Record) → IsOneHistory b → j < length b.passes → b.history ≡ [] → v.opening ≡ o → HasTooMany v i (record_of j b) → HasLargeStripe b.stripes o.map
large_stripe b j i o v one within none opening many =
    let at = many.at in
    let knows = one.passes j within in
    let held = knows.held _ (ap (λ (w : Record). w.holding) at.is) in
    let same : b.opening ≡ o = sym knows.opening ∙ ap (λ (w : Record). w.opening) at.is ∙ opening in
    let part : part_of b.stripes i o.map ≡ at.part =
    ap (λ (x : Opening). part_of b.stripes i x.map) (sym same) ∙ ap (λ (h : List Command). part_of b.stripes i (map_after b.opening.map h)) (sym none) ∙ held.content.part_is in
    record {
      stripe = i;
      within = held.within;
      many = subst (λ (m : Map). 2 ^ 32 ≤ length (finite.entries m)) (sym part) many.many;
    }

pub section_refused : (b : Book) (j i n : ℕ) (o : Opening) (v : Record) (e : Refusal) → IsOneHistory b → j < length b.passes → b.history ≡ [] → v.opening ≡ o → b.stripes ≡ n
    → (e ≡ NoMemory) ⊎ ((e ≡ LogFull) × HasTooMany v i (record_of j b)) → IsSectionRefused n o.map e
section_refused b j i n o v e one within none opening count (inl wanting) = inl wanting
section_refused b j i n o v e one within none opening count (inr full) =
    inr (full.0, subst (λ (m : ℕ). HasLargeStripe m o.map) count (large_stripe b j i o v one within none opening full.1))

-- ---- the three steps

module _ {T D : Type 0} (book : T → Book) (pass : T → ℕ) (states : D → List Files) (honest : D → Type 0) (stripe : ℕ) where
  abbrev recorded : T → Record
  recorded = λ t. record_of (pass t) (book t)

  abbrev moves : T → StepMade → T → Type 0
  moves = λ t made u. BookMoves (pass t) made (book t) (book u)

  abbrev N : T → ℕ
  N t = (book t).stripes

  -- what the books are, between the steps
  pub record IsSame (a b : T) : Type 0 where
    pub place : pass b ≡ pass a
    pub stripes : N b ≡ N a
    pub opening : (book b).opening ≡ (book a).opening
    pub passes : length (book b).passes ≡ length (book a).passes
    pub history : (book b).history ≡ (book a).history

  pub same_by : (kind : Kind) (a b : T) → kind ≢ Ticket → pass b ≡ pass a → MakesOne recorded moves kind a b → IsSame a b
  same_by kind a b other at one = record {
    place = at;
    stripes = one.moved.stripes;
    opening = one.moved.opening;
    passes = one.moved.passes;
    history = history_stays (pass a) one.made (book a) (book b) (λ t e. other (sym one.kind_is ∙ ap kind_of e)) one.moved.words;
  }

  module _ (k k1 : Keeper D) (a a1 : T) (r : Result (Option ℕ) Refusal) (free : k.capture ≡ None)
      (after : AfterStep (N a) stripe k.capture k k1 (recorded a) (recorded a1) r) where
    take : (x : Option ℕ) → AfterTake (N a) stripe k k1 (recorded a) (recorded a1) (Ok x) → TakesStripe (N a) stripe k k1 (recorded a) (recorded a1)
    take None h = h
    take (Some mark) h = absurd h

    pub takes : (x : Option ℕ) → r ≡ Ok x → TakesStripe (N a) stripe k k1 (recorded a) (recorded a1)
    takes x e =
        take x (subst (λ (y : Result (Option ℕ) Refusal). AfterTake (N a) stripe k k1 (recorded a) (recorded a1) y) e
        (subst (λ (c : Option Walk). AfterStep (N a) stripe c k k1 (recorded a) (recorded a1) r) free after))

  module _ (k k1 k2 : Keeper D) (a a1 a2 : T) (t : TakesStripe (N a) stripe k k1 (recorded a) (recorded a1)) (n1 : N a1 ≡ N a) (r : Result (Option ℕ) Refusal)
      (after : AfterStep (N a1) stripe k1.capture k1 k2 (recorded a1) (recorded a2) r) where
    pub taken : HasTaken (N a1) (recorded a) stripe t.walk (recorded a1)
    taken = subst (λ (n : ℕ). HasTaken n (recorded a) stripe t.walk (recorded a1)) (sym n1) t.taken

    pub captures_one : k1.capture ≡ Some t.walk
    captures_one = ap (λ (x : Keeper D). x.capture) t.is

    walked : AfterWalk (N a1) t.walk k1 k2 (recorded a1) (recorded a2) r
    walked = subst (λ (c : Option Walk). AfterStep (N a1) stripe c k1 k2 (recorded a1) (recorded a2) r) captures_one after

    look : (x : Result (Option ℕ) Refusal) → AfterWalk (N a1) t.walk k1 k2 (recorded a1) (recorded a2) x → LooksAt (N a1) t.walk k1 k2 (recorded a1) (recorded a2)
    look (Ok None) h = h
    look (Ok (Some mark)) h = absurd (not_both h.0 (next_kind (N a1) t.walk) taken.next h.1)
    look (Err refusal) h = absurd (not_both h.0 (next_kind (N a1) t.walk) taken.next h.1)

    pub looks : LooksAt (N a1) t.walk k1 k2 (recorded a1) (recorded a2)
    looks = look r walked

    pub no_refusal : (e : Refusal) → r ≡ Err e → ⊥
    no_refusal e is = let h = subst (λ (x : Result (Option ℕ) Refusal). AfterWalk (N a1) t.walk k1 k2 (recorded a1) (recorded a2) x) is walked in not_both h.0 (next_kind (N a1) t.walk) taken.next h.1

    pub has_looked : HasLooked (N a1) (recorded a) stripe looks.next (recorded a2)
    has_looked = looks.looked (recorded a) stripe taken

    module _ (k3 : Keeper D) (a3 : T) (n2 : N a2 ≡ N a1) (r3 : Result (Option ℕ) Refusal) (after3 : AfterStep (N a2) stripe k2.capture k2 k3 (recorded a2) (recorded a3) r3) where
      still : HasLooked (N a2) (recorded a) stripe looks.next (recorded a2)
      still = subst (λ (n : ℕ). HasLooked n (recorded a) stripe looks.next (recorded a2)) (sym n2) has_looked

      pub captures_two : k2.capture ≡ Some looks.next
      captures_two = ap (λ (x : Keeper D). x.capture) looks.is

      given_walk : AfterWalk (N a2) looks.next k2 k3 (recorded a2) (recorded a3) r3
      given_walk = subst (λ (c : Option Walk). AfterStep (N a2) stripe c k2 k3 (recorded a2) (recorded a3) r3) captures_two after3

      give : (x : Option ℕ) → AfterWalk (N a2) looks.next k2 k3 (recorded a2) (recorded a3) (Ok x) → (mark : ℕ) × GivesSection (N a2) (recorded a) stripe mark k2 k3 (recorded a3)
      give None h = absurd (not_both stripe (next_kind (N a2) looks.next) h.kind still.next)
      give (Some mark) h =
          let same : stripe ≡ h.0 = give_same stripe h.0 (sym still.next ∙ h.1) in
          (mark, subst (λ (i : ℕ). GivesSection (N a2) (recorded a) i mark k2 k3 (recorded a3)) (sym same) (h.2 (recorded a) (subst (λ (i : ℕ). HasLooked (N a2) (recorded a) i looks.next (recorded a2)) same still)))

      pub gives : (x : Option ℕ) → r3 ≡ Ok x → (mark : ℕ) × GivesSection (N a2) (recorded a) stripe mark k2 k3 (recorded a3)
      gives x e = give x (subst (λ (y : Result (Option ℕ) Refusal). AfterWalk (N a2) looks.next k2 k3 (recorded a2) (recorded a3) y) e given_walk)

      pub puts_back : (e : Refusal) → r3 ≡ Err e → PutsBack (recorded a) stripe e k2 k3 (recorded a3)
      puts_back e is =
          let h = subst (λ (y : Result (Option ℕ) Refusal). AfterWalk (N a2) looks.next k2 k3 (recorded a2) (recorded a3) y) is given_walk in
          let same : stripe ≡ h.0 = give_same stripe h.0 (sym still.next ∙ h.1) in
          subst (λ (i : ℕ). PutsBack (recorded a) i e k2 k3 (recorded a3)) (sym same) (h.2 (recorded a) (subst (λ (i : ℕ). HasLooked (N a2) (recorded a) i looks.next (recorded a2)) same still))

      -- a walk that is to put its stripe back as too large holds too many entries
      too_many_in : (s : Stage) → FitsStage (N a2) (recorded a) (ToCapture stripe) s (recorded a2) → refusal_of_stage s ≡ Some LogFull → HasTooMany (recorded a) stripe (recorded a2)
      too_many_in (stage.Change s) fits e = absurd cc
      too_many_in (stage.Read s) fits e = absurd cc
      too_many_in (stage.Release s) fits e = absurd cc
      too_many_in (stage.Sweep s) fits e = absurd cc
      too_many_in (stage.Capture s) fits e = absurd cc
      too_many_in (stage.GivingBack held refusal) fits e = fits.too_many (some_refusal refusal LogFull e) stripe refl

      -- a capture is refused for want of memory, or since it holds too many entries
      pub cause_of : (e : Refusal) → PutsBack (recorded a) stripe e k2 k3 (recorded a3) → IsCauseOf looks.next e → (e ≡ NoMemory) ⊎ ((e ≡ LogFull) × HasTooMany (recorded a) stripe (recorded a2))
      cause_of e back cause = by back.no_other cause
        where
          by : (e ≡ NoMemory) ⊎ (e ≡ LogFull) → IsCauseOf looks.next e → (e ≡ NoMemory) ⊎ ((e ≡ LogFull) × HasTooMany (recorded a) stripe (recorded a2))
          by (inl none) c = inl none
          by (inr full) (inl none) = inl none
          by (inr full) (inr refused) = inr (full, too_many_in looks.next.stage still.fits (refused ∙ ap Some full))

      pub same_two : k2 ≡ record k { capture = Some looks.next }
      same_two = looks.is ∙ ap (λ (x : Keeper D). record x { capture = Some looks.next }) t.is

      pub same_back : (e : Refusal) → PutsBack (recorded a) stripe e k2 k3 (recorded a3) → k3 ≡ record k { capture = None }
      same_back e back =
          back.is ∙ ap (λ (x : Keeper D). record x { capture = None }) looks.is ∙ ap (λ (x : Keeper D). record x { capture = None }) t.is

-- the keeper has changed in these fields alone
pub same_frame : {D : Type 0} (k new : Keeper D) (writer : Option CheckpointState) (walk : Option Walk) → new ≡ record k { checkpoint = writer; capture = walk } → new ≡ record k { checkpoint = new.checkpoint; capture = new.capture }
same_frame k new writer walk e = subst (λ (x : Keeper _). x ≡ record k { checkpoint = x.checkpoint; capture = x.capture }) (sym e) refl

module _ {T D : Type 0} (book : T → Book) (pass : T → ℕ) (states : D → List Files) (honest : D → Type 0) (stripe : ℕ) (k k1 k2 k3 : Keeper D) (a a1 a2 a3 : T)
    (one : IsSame book pass states honest stripe a a1) (two : IsSame book pass states honest stripe a1 a2) (three : IsSame book pass states honest stripe a2 a3)
    (look_kind give_kind : Kind) (is_look : look_kind ≡ Look) (is_give : give_kind ≡ Give stripe)
    (looked : MakesOne (recorded book pass states honest stripe) (moves book pass states honest stripe) look_kind a1 a2) (gave : MakesOne (recorded book pass states honest stripe) (moves book pass states honest stripe) give_kind a2 a3)
    (mark : ℕ) (walk : Walk) (same : k2 ≡ record k { capture = Some walk }) (n : ℕ) (given : GivesSection n (record_of (pass a) (book a)) stripe mark k2 k3 (record_of (pass a3) (book a3))) where
  pub same_given : k3 ≡ record k { checkpoint = Some (with_section mark given.entries given.writer); capture = None }
  same_given = given.is ∙ ap (λ (x : Keeper D). record x { checkpoint = Some (with_section mark given.entries given.writer); capture = None }) same

  none_two : (book a).history ≡ [] → (book a2).history ≡ []
  none_two e = two.history ∙ one.history ∙ e

  module _ (o : Opening) (is : IsUnmovedWith states honest o k (pass a) (book a)) where
    first_one : (book a1).opening.first + length (book a1).history ≡ o.first
    first_one =
        let none : length (book a1).history ≡ 0 = ap length (one.history ∙ is.none_made) in
        let first : (book a1).opening.first ≡ o.first = ap (λ (x : Opening). x.first) one.opening ∙ is.first in
        omega (arith, none, first)

    first_two : (book a2).opening.first ≡ o.first
    first_two = ap (λ (x : Opening). x.first) (two.opening ∙ one.opening) ∙ is.first

    reach_two : reach (record_of (pass a2) (book a2)) ≡ o.first
    reach_two = ap (λ (j : ℕ). reach (record_of j (book a2))) two.place ∙ looks_at (pass a1) looked.made (book a1) (book a2) (looked.kind_is ∙ is_look) looked.moved.words looked.moved.raises ∙ first_one

    reach_three : reach (record_of (pass a3) (book a3)) ≡ o.first
    reach_three =
        ap (λ (j : ℕ). reach (record_of j (book a3))) three.place
        ∙ gives_at (pass a2) gave.made (book a2) (book a3) stripe (gave.kind_is ∙ is_give) (none_two is.none_made) (reach_two ∙ sym first_two) gave.moved.raises ∙ first_two

    pub given_at : IsGivenAt o.first k.checkpoint k3.checkpoint
    given_at = record {
      state = given.writer;
      was = sym (ap (λ (x : Keeper D). x.checkpoint) same) ∙ given.was;
      mark = mark;
      entries = given.entries;
      is = ap (λ (x : Keeper D). x.checkpoint) same_given;
      low = let e : mark ≡ o.first = given.captures.mark_is ∙ reach_three in omega (arith, e);
    }

    pub unmoved_then : FitsBy k3.capture states honest (book a3).stripes [] k3 (record_of (pass a3) (book a3)) → IsUnmovedWith states honest o k3 (pass a3) (book a3)
    unmoved_then fits = record {
      unmoved = record {
        fits = subst (λ (c : Option Walk). FitsBy c states honest (book a3).stripes [] k3 (record_of (pass a3) (book a3))) (ap (λ (x : Keeper D). x.capture) same_given) fits;
        opening = ap (λ (w : Record). w.opening) given.captures.is ∙ is.unmoved.opening;
        staged = ap (λ (x : Keeper D). x.staged.items) same_given ∙ is.unmoved.staged;
        rests = ap (λ (x : Keeper D). is_walking x.sweeper.walking) same_given ∙ is.unmoved.rests;
        over = ap (λ (x : Keeper D). x.capture) same_given;
        works = ap (λ (x : Keeper D). x.is_broken) same_given ∙ is.unmoved.works;
        published = ap (λ (x : Keeper D). x.published) same_given ∙ is.unmoved.published;
      };
      first = ap (λ (x : Opening). x.first) three.opening ∙ first_two;
      one = three.passes ∙ two.passes ∙ one.passes ∙ is.one;
      none_made = three.history ∙ none_two is.none_made;
    }

pub start_fits : {D : Type 0} (states : D → List Files) (honest : D → Type 0) (o : Opening) (k : Keeper D) (j : ℕ) (b : Book) → IsUnmovedWith states honest o k j b → FitsWalking states honest b.stripes [] k (record_of j b)
start_fits states honest o k j b is = subst (λ (c : Option Walk). FitsBy c states honest b.stripes [] k (record_of j b)) (sym is.unmoved.over) is.unmoved.fits

pub not_failed : (r : Result (Option ℕ) Refusal) (x : Option ℕ) (e : Refusal) → r ≡ Ok x → r ≢ Err e
not_failed r x e is other = let z : ◌≡◌ {A = Result (Option ℕ) Refusal} (Ok x) (Err e) = sym is ∙ other in absurd cc

pub same_place : (a b : At) → b.words.ghost_name ∷ b.pass ∷ [] ≡ a.words.ghost_name ∷ a.pass ∷ [] → b.pass ≡ a.pass
same_place a b e = cc

-- What a keeper fits after each step of a capture.
use Rattle.std.proofs.Common.{◌≡◌, inl, inr, ℕ, ◌+◌, ◌≤◌, max, List, [], ◌∷◌, ◌++◌, length, Option, None, Some, false, Result, Ok, Err, IfOk, IfErr, refl, sym, ◌∙◌, ap, subst, arith}
use Rattle.std.proofs.lemmas.List.{length-append}
use Rattle.std.specs.FinMap as finite
use Rattle.disk_model.specs.Files.{File, Files, now}
use Rattle.map_types.specs.declared.commands.Command.{Command}
use Rattle.map_types.specs.declared.refusals.Refusal.{Refusal}
use Rattle.map_types.specs.declared.texts.Value.{Value}
use Rattle.map_model.specs.Histories.{History, fold_to}
use Rattle.map_model.specs.Parts.{part_of}
use Rattle.ticket_order.specs.declared.record.Record.{Record}
use Rattle.ticket_order.specs.declared.walk.Walk.{Walk}
use Rattle.ticket_order.specs.Legality.{history_of}
use Rattle.ticket_order.specs.Calls.{CapturesStripe}
use Rattle.ticket_order.specs.Records.{missing}
use Rattle.ticket_order.specs.Walks.{Give, Look, next_kind}
use Rattle.store_layout.specs.Checkpoints.{Checkpoint, Section, checkpoint_file}
use Rattle.store_layout.specs.Logs.{Batch}
use Rattle.store_layout.specs.SectionsAndLog.{IsNextOf, reach}
use Rattle.gate_log.specs.States.{LogState}
use Rattle.gate_log.specs.LogStates as gate_log
use Rattle.checkpoint_file.specs.States.{AreKeysOf, CheckpointState, TakesSection, with_section}
use Rattle.checkpoint_file.specs.CheckpointStates as checkpoint
use Rattle.store_invariant.specs.Laws.{SectionIsGiven}
use Rattle.store_invariant.specs.States.{low_after}
use Rattle.store_invariant.specs.StoreStates as store
use Rattle.flusher.specs.declared.keeper.Keeper.{Keeper}
use Rattle.flusher.specs.Fitting.{Fits, HoldsFor, IsBeside, store_of}
use Rattle.flusher.specs.KeeperSteps.{is_walking}
use Rattle.checkpoint_walk.specs.Capturing.{HasLooked, HasTaken, StandsWith}
use Rattle.checkpoint_walk.specs.Checkpointing.{HasGiven, IsNextStripe}
use Rattle.checkpoint_walk.specs.Walking.{AfterTake, AfterWalk, FitsBy, FitsWalking, GivesPart, GivesPartIn, GivesSection, IsCapturing, PutsBack}
use Rattle.checkpoint_walk.proofs.Keys.{keys_of_part}
use Rattle.checkpoint_walk.proofs.Sealed.{of_writer, writes_in}
use Rattle.checkpoint_walk.proofs.ChangedKeepers.{fits_capture, fits_changed}
use Rattle.checkpoint_walk.proofs.Walked.{beside_missed, captured_beside, captured_free, refused_beside, refused_free}

-- ---- a section is a part at its mark

-- the log's low ticket is committed
low_there : (log : LogState) (batches staged : List Batch) (file : File) → gate_log.Stands log batches staged file → log.low ≤ log.committed
low_there log batches staged file k = omega (arith, k.knows.committed)

newest_low : (k : Checkpoint) (first : List Batch) (second : Option (List Batch)) (newest : LogState) (staged : List Batch) (files : Files) → store.LogsStand k first second newest staged files → newest.low ≤ newest.committed
newest_low k first None newest staged files x = low_there newest first staged _ x.2
newest_low k first (Some second) newest staged files x = low_there newest second staged _ x.2

-- and what is committed is of the history
committed_there : (h : History) (ticket : ℕ) (new : List Command) → IsNextOf h ticket new → ticket ≤ reach h
committed_there h ticket new k = (
    let long : length h.commands ≡ length (k.front ++ (new ++ k.back)) = ap (λ (xs : List Command). length xs) k.commands in
    omega (arith, long, length-append k.front (new ++ k.back), k.place)
    )

next_of : (stripe : ℕ) (next : Option LogState) (writer : Option CheckpointState) (w : CheckpointState) → writer ≡ Some w → IsNextStripe stripe next writer → (next ≡ None) × TakesSection w × (w.count ≡ stripe)
next_of stripe next writer w is k = subst (IsNextStripe stripe next) is k

-- What is known of a section that was captured, for the checkpoint that runs.
pub record Belongs (h : History) (content : List ℕ) (sections : List Section) (w : CheckpointState) (mark : ℕ) (entries : List (List ℕ × Value)) (section : Section) (file : File) : Type 0 where
  pub mark_is : section.mark ≡ mark
  pub map : section.map ≡ part_of w.stripes (length sections) (fold_to h mark)
  pub low : max h.first w.low ≤ mark
  pub within : mark ≤ reach h
  pub entries_are : entries ≡ finite.entries section.map
  pub keys : AreKeysOf w.stripes w.count entries
  pub stands : checkpoint.Stands w content sections file

belongs : {D : Type 0} (n : ℕ) (old : Keeper D) (b w : Record) (stripe mark : ℕ) (entries : List (List ℕ × Value)) (writer : CheckpointState) (files : Files) (content : List ℕ) (sections : List Section) (k : HoldsFor (history_of w) old files)
    (c : CapturesStripe n b stripe mark entries w) → checkpoint.Stands writer content sections (files (checkpoint_file writer.generation)) → old.checkpoint ≡ Some writer → IsNextStripe stripe old.next old.checkpoint → writer.stripes ≡ n
    → Belongs (history_of w) content sections writer mark entries (record { mark = mark; map = c.part }) (files (checkpoint_file writer.generation))
belongs {D} n old b w stripe mark entries writer files content sections k c at is next stripes =
    let x : store.Writes writer (store_of old) k.held (files (checkpoint_file (old.sealed + 1))) = writes_in (store_of old) k.held _ writer is k.stands.kept.writer in
    let takes = next_of stripe old.next old.checkpoint writer is next in
    let count : stripe ≡ length sections = sym takes.2 ∙ at.knows.count in
    let part : part_of n stripe (fold_to (history_of w) mark) ≡ c.part = c.legal.part_is in
    let low : writer.low ≡ old.log.low = x.low ∙ ap (low_after old.log) takes.0 in
    let committed : old.log.low ≤ old.log.committed = newest_low k.held.found.checkpoint k.held.found.first k.held.found.second old.log k.held.staged files k.stands.kept.logs in
    let seen : old.log.committed ≤ reach (history_of w) = committed_there (history_of w) old.log.committed _ k.stands.of_history.next in
    let mark_is : mark ≡ reach (history_of w) = c.mark_is in
    let first : w.opening.first ≤ mark = c.legal.from_first in
    record {
      mark_is = refl;
      map = sym part ∙ ap (λ s. part_of s stripe (fold_to (history_of w) mark)) (sym stripes) ∙ ap (λ i. part_of writer.stripes i (fold_to (history_of w) mark)) count;
      low = omega (arith, low, committed, seen, mark_is, first);
      within = omega (arith, mark_is);
      entries_are = c.entries_are;
      keys = subst (λ (l : List (List ℕ × Value)). AreKeysOf writer.stripes writer.count l) (sym c.entries_are)
          (subst (λ s. AreKeysOf s writer.count (finite.entries c.part)) (sym stripes)
          (subst (λ i. AreKeysOf n i (finite.entries c.part)) (sym takes.2)
          (subst (λ m. AreKeysOf n stripe (finite.entries m)) part (keys_of_part n stripe (fold_to (history_of w) mark)))));
      stands = at;
    }

-- the checkpoint once it is given a section
standing : (h : History) (content : List ℕ) (sections : List Section) (w : CheckpointState) (mark : ℕ) (entries : List (List ℕ × Value)) (section : Section) (file : File) → Belongs h content sections w mark entries section file
    → StandsWith w mark entries → checkpoint.Stands (with_section section.mark entries w) content (sections ++ section ∷ []) file
standing h content sections w mark entries section file k stands =
    subst (λ m. checkpoint.Stands (with_section m entries w) content (sections ++ section ∷ []) file) (sym k.mark_is)
    (subst (λ m. checkpoint.Stands (with_section mark entries w) content (sections ++ record { mark = m; map = section.map } ∷ []) file) (sym k.mark_is)
    (stands section.map content sections file k.entries_are k.keys (omega (arith, k.low)) k.stands))

-- ---- the keeper after a step

pub gives_fit : {D : Type 0} (states : D → List Files) (honest : D → Type 0) (n : ℕ) (done : List Command) (old : Keeper D) (b w : Record) (stripe mark : ℕ) (new : Keeper D) → SectionIsGiven → Fits states honest n done old w → old.is_broken ≡ false
    → IsNextStripe stripe old.next old.checkpoint → GivesSection n b stripe mark old new w → Fits states honest n done new w
gives_fit {D} states honest n done old b w stripe mark new given f works next g =
    let u = f.stores.unbroken works in
    let stripes : g.writer.stripes ≡ n = of_writer (λ x. x.stripes ≡ n) old.checkpoint g.writer g.was f.stripes.writer in
    let section : Section = record { mark = mark; map = g.captures.part } in
    subst (λ (k : Keeper D). Fits states honest n done k w) (sym g.is)
    (fits_changed states honest n done old w old.next (Some (with_section mark g.entries g.writer)) None f works stripes f.rotation
    (record { log = u.log; next = u.next; writer = of_writer (λ x. x.is_broken ≡ false) old.checkpoint g.writer g.was u.writer })
    (λ h. (
    let k = f.stores.works works h in
    let y : store.Writes g.writer (store_of old) k.held (now (states old.disk) (checkpoint_file (old.sealed + 1))) = writes_in (store_of old) k.held _ g.writer g.was k.stands.kept.writer in
    let at : checkpoint.Stands g.writer k.held.other k.held.sections (now (states old.disk) (checkpoint_file g.writer.generation)) =
    subst (λ (z : ℕ). checkpoint.Stands g.writer k.held.other k.held.sections (now (states old.disk) (checkpoint_file z))) (sym y.generation) y.stands in
    let x = belongs n old b w stripe mark g.entries g.writer (now (states old.disk)) k.held.other k.held.sections k g.captures at g.was next stripes in
    record {
      held = record k.held { sections = k.held.sections ++ section ∷ [] };
      stands = given (history_of w) (store_of old) k.held (now (states old.disk)) g.writer g.entries section k.stands g.was x.map x.low x.within
          (standing (history_of w) k.held.other k.held.sections g.writer mark g.entries section (now (states old.disk) (checkpoint_file g.writer.generation)) x g.stands);
      staged_is = k.staged_is;
      must_close_is = k.must_close_is;
    }
    )))

-- The keeper's pass goes on beside it.
abbrev pub GoesOn : {D : Type 0} → (D → List Files) → (D → Type 0) → Keeper D → Type 0
GoesOn {D} states honest keeper = (n : ℕ) (done : List Command) (p : Record) → Fits states honest n done keeper p → is_walking keeper.sweeper.walking ≡ false → (w : Record) → IsBeside p w → w.holding ≡ None → Fits states honest n done keeper w

abbrev pub IsFreeAt : {D : Type 0} → (D → List Files) → (D → Type 0) → Keeper D → Type 0
IsFreeAt {D} states honest keeper = (n : ℕ) (done : List Command) (p : Record) → Fits states honest n done keeper p → is_walking keeper.sweeper.walking ≡ false → p.holding ≡ None

-- a whole capture has given its section
pub gives_from : {D : Type 0} (states : D → List Files) (honest : D → Type 0) (n : ℕ) (done : List Command) (old : Keeper D) (b w : Record) (stripe mark : ℕ) (new : Keeper D) → SectionIsGiven → GoesOn states honest old
    → Fits states honest n done old b → is_walking old.sweeper.walking ≡ false → old.is_broken ≡ false → IsNextStripe stripe old.next old.checkpoint → GivesSection n b stripe mark old new w → Fits states honest n done new w
gives_from {D} states honest n done old b w stripe mark new given on f rests works next g =
    gives_fit states honest n done old b w stripe mark new given
    (on n done b f rests w (captured_beside n b stripe mark g.entries w g.captures) (captured_free n b stripe mark g.entries w g.captures)) works next g

-- or has put the stripe back
pub back_from : {D : Type 0} (states : D → List Files) (honest : D → Type 0) (n : ℕ) (done : List Command) (old : Keeper D) (b w : Record) (stripe : ℕ) (e : Refusal) (new : Keeper D) → GoesOn states honest old → IsFreeAt states honest old
    → Fits states honest n done old b → is_walking old.sweeper.walking ≡ false → PutsBack b stripe e old new w → Fits states honest n done new w
back_from {D} states honest n done old b w stripe e new on free f rests g =
    subst (λ (k : Keeper D). Fits states honest n done k w) (sym g.is)
    (fits_capture states honest n done old w None (on n done b f rests w (refused_beside b stripe e w g.back) (refused_free b stripe e w (free n done b f rests) g.back)))

pub missed_from : {D : Type 0} (states : D → List Files) (honest : D → Type 0) (n : ℕ) (done : List Command) (old : Keeper D) (p : Record) (stripe : ℕ) → GoesOn states honest old → IsFreeAt states honest old
    → Fits states honest n done old p → is_walking old.sweeper.walking ≡ false → Fits states honest n done old (missing p stripe)
missed_from {D} states honest n done old p stripe on free f rests = on n done p f rests (missing p stripe) (beside_missed p stripe) (free n done p f rests)

-- either
pub whole_from : {D : Type 0} (states : D → List Files) (honest : D → Type 0) (n : ℕ) (done : List Command) (old : Keeper D) (b p w : Record) (stripe : ℕ) (walk : Walk) (r : Result ℕ Refusal) (new : Keeper D) → SectionIsGiven → GoesOn states honest old
    → IsFreeAt states honest old → Fits states honest n done old b → is_walking old.sweeper.walking ≡ false → old.is_broken ≡ false → IsNextStripe stripe old.next old.checkpoint → HasLooked n b stripe walk p
    → IfOk r (λ mark. (b : Record) (i : ℕ) → HasLooked n b i walk p → GivesSection n b i mark old new w) → IfErr r (λ e. (b : Record) (i : ℕ) → HasLooked n b i walk p → PutsBack b i e old new w) → Fits states honest n done new w
whole_from {D} states honest n done old b p w stripe walk (Ok mark) new given on free f rests works next k ok err = gives_from states honest n done old b w stripe mark new given on f rests works next (ok b stripe k)
whole_from {D} states honest n done old b p w stripe walk (Err e) new given on free f rests works next k ok err = back_from states honest n done old b w stripe e new on free f rests (err b stripe k)

-- ---- step by step

-- a keeper between its captures
pub over_fits : {D : Type 0} (states : D → List Files) (honest : D → Type 0) (n : ℕ) (done : List Command) (k : Keeper D) (p : Record) → k.capture ≡ None → Fits states honest n done k p → FitsWalking states honest n done k p
over_fits {D} states honest n done k p over f = subst (λ (o : Option Walk). FitsBy o states honest n done k p) (sym over) f

pub taking_fits : {D : Type 0} (states : D → List Files) (honest : D → Type 0) (n : ℕ) (done : List Command) (old : Keeper D) (p w : Record) (stripe : ℕ) (walk : Walk) → Fits states honest n done old p → is_walking old.sweeper.walking ≡ false → old.is_broken ≡ false
    → IsNextStripe stripe old.next old.checkpoint → HasTaken n p stripe walk w → FitsWalking states honest n done (record old { capture = Some walk }) w
taking_fits {D} states honest n done old p w stripe walk f rests works next taken = record {
  begun = p;
  stripe = stripe;
  fits = fits_capture states honest n done old p (Some walk) f;
  rests = rests;
  works = works;
  next = next;
  walked = inl taken;
}

look_give : (n i : ℕ) (walk : Walk) → next_kind n walk ≡ Look → next_kind n walk ≡ Give i → ⊥
look_give n i walk a b = not_both i (sym a ∙ b)
  where
    not_both : (i : ℕ) → Look ≡ Give i → ⊥
    not_both i e = cc

same_give : (i j : ℕ) → Give i ≡ Give j → i ≡ j
same_give i j e = cc

pub walked_fits : {D : Type 0} (states : D → List Files) (honest : D → Type 0) (n : ℕ) (done : List Command) (old new : Keeper D) (p w : Record) (walk : Walk) (r : Result (Option ℕ) Refusal) → SectionIsGiven → GoesOn states honest old → IsFreeAt states honest old
    → IsCapturing states honest n done old walk p → AfterWalk n walk old new p w r → FitsWalking states honest n done new w
walked_fits {D} states honest n done old new p w walk (Ok None) given on free k a = elim k.walked [
  | inl t ↦ subst (λ (x : Keeper D). FitsWalking states honest n done x w) (sym a.is) (record {
    begun = k.begun;
    stripe = k.stripe;
    fits = fits_capture states honest n done old k.begun (Some a.next) k.fits;
    rests = k.rests;
    works = k.works;
    next = k.next;
    walked = inr (a.looked k.begun k.stripe t);
  })
  | inr l ↦ absurd (look_give n k.stripe walk a.kind l.next)
]
walked_fits {D} states honest n done old new p w walk (Ok (Some mark)) given on free k a = elim k.walked [
  | inl t ↦ absurd (look_give n a.0 walk t.next a.1)
  | inr l ↦ (
      let same : a.0 ≡ k.stripe = same_give a.0 k.stripe (sym a.1 ∙ l.next) in
      let g : GivesSection n k.begun k.stripe mark old new w = subst (λ i. GivesSection n k.begun i mark old new w) same (a.2 k.begun (subst (λ i. HasLooked n k.begun i walk p) (sym same) l)) in
      over_fits states honest n done new w (ap (λ (x : Keeper D). x.capture) g.is) (gives_from states honest n done old k.begun w k.stripe mark new given on k.fits k.rests k.works k.next g)
      )
]
walked_fits {D} states honest n done old new p w walk (Err e) given on free k a = elim k.walked [
  | inl t ↦ absurd (look_give n a.0 walk t.next a.1)
  | inr l ↦ (
      let same : a.0 ≡ k.stripe = same_give a.0 k.stripe (sym a.1 ∙ l.next) in
      let g : PutsBack k.begun k.stripe e old new w = subst (λ i. PutsBack k.begun i e old new w) same (a.2 k.begun (subst (λ i. HasLooked n k.begun i walk p) (sym same) l)) in
      over_fits states honest n done new w (ap (λ (x : Keeper D). x.capture) g.is) (back_from states honest n done old k.begun w k.stripe e new on free k.fits k.rests g)
      )
]

-- the same step, of a keeper whose walk was taken out
pub walk_moved : {D : Type 0} (n : ℕ) (walk : Walk) (old new : Keeper D) (o : Option Walk) (p w : Record) (r : Result (Option ℕ) Refusal) → AfterWalk n walk (record old { capture = o }) new p w r → AfterWalk n walk old new p w r
walk_moved {D} n walk old new o p w (Ok None) a = record { kind = a.kind; next = a.next; looked = a.looked; is = a.is }
walk_moved {D} n walk old new o p w (Ok (Some mark)) a = (a.0, a.1, λ b l. (let g = a.2 b l in record { entries = g.entries; captures = g.captures; writer = g.writer; was = g.was; is = g.is; stands = g.stands }))
walk_moved {D} n walk old new o p w (Err e) a = (a.0, a.1, λ b l. (let g = a.2 b l in record { no_other = g.no_other; back = g.back; is = g.is }))

-- ---- which section was given

pub gives_part : {D : Type 0} (states : D → List Files) (honest : D → Type 0) (n : ℕ) (done : List Command) (old : Keeper D) (b w : Record) (stripe mark : ℕ) (new : Keeper D) (sections : List Section) → GoesOn states honest old
    → Fits states honest n done old b → is_walking old.sweeper.walking ≡ false → old.is_broken ≡ false → IsNextStripe stripe old.next old.checkpoint → GivesSection n b stripe mark old new w → honest old.disk
    → HasGiven old.checkpoint sections (now (states old.disk)) → GivesPart states n (history_of w) mark sections new
gives_part {D} states honest n done old b w stripe mark new sections on f rests works next g h given =
    let at : Fits states honest n done old w = on n done b f rests w (captured_beside n b stripe mark g.entries w g.captures) (captured_free n b stripe mark g.entries w g.captures) in
    let stripes : g.writer.stripes ≡ n = of_writer (λ x. x.stripes ≡ n) old.checkpoint g.writer g.was f.stripes.writer in
    let theirs : HasGiven (Some g.writer) sections (now (states old.disk)) = subst (λ (o : Option CheckpointState). HasGiven o sections (now (states old.disk))) g.was given in
    let x = belongs n old b w stripe mark g.entries g.writer (now (states old.disk)) theirs.0 sections (at.stores.works works h) g.captures theirs.1 g.was next stripes in
    let section : Section = record { mark = mark; map = g.captures.part } in
    let stands = standing (history_of w) theirs.0 sections g.writer mark g.entries section (now (states old.disk) (checkpoint_file g.writer.generation)) x g.stands in
    record {
      section = section;
      mark_is = refl;
      map = x.map ∙ ap (λ s. part_of s (length sections) (fold_to (history_of w) mark)) stripes;
      given = subst (λ (k : Keeper D). HasGiven k.checkpoint (sections ++ section ∷ []) (now (states k.disk))) (sym g.is) (theirs.0, stands);
    }

-- by the last step of one
pub walked_part : {D : Type 0} (states : D → List Files) (honest : D → Type 0) (n : ℕ) (done : List Command) (old new : Keeper D) (p w : Record) (walk : Walk) (r : Result (Option ℕ) Refusal) (sections : List Section) → GoesOn states honest old
    → IsCapturing states honest n done old walk p → AfterWalk n walk old new p w r → honest old.disk → HasGiven old.checkpoint sections (now (states old.disk)) → GivesPartIn states n (history_of w) r sections new
walked_part {D} states honest n done old new p w walk (Ok None) sections on k a h given = tt
walked_part {D} states honest n done old new p w walk (Ok (Some mark)) sections on k a h given = elim k.walked [
  | inl t ↦ absurd (look_give n a.0 walk t.next a.1)
  | inr l ↦ (
      let same : a.0 ≡ k.stripe = same_give a.0 k.stripe (sym a.1 ∙ l.next) in
      let g : GivesSection n k.begun k.stripe mark old new w = subst (λ i. GivesSection n k.begun i mark old new w) same (a.2 k.begun (subst (λ i. HasLooked n k.begun i walk p) (sym same) l)) in
      gives_part states honest n done old k.begun w k.stripe mark new sections on k.fits k.rests k.works k.next g h given
      )
]
walked_part {D} states honest n done old new p w walk (Err e) sections on k a h given = tt

-- its first step gives none
pub none_taken : {D : Type 0} (states : D → List Files) (n m stripe : ℕ) (old new : Keeper D) (p w : Record) (r : Result (Option ℕ) Refusal) (sections : List Section) → AfterTake n stripe old new p w r → GivesPartIn states m (history_of w) r sections new
none_taken {D} states n m stripe old new p w (Ok None) sections a = tt
none_taken {D} states n m stripe old new p w (Ok (Some mark)) sections a = absurd a
none_taken {D} states n m stripe old new p w (Err e) sections a = tt

-- by a whole capture
pub whole_given : {D : Type 0} (states : D → List Files) (honest : D → Type 0) (n m : ℕ) (done : List Command) (old : Keeper D) (b p w : Record) (stripe : ℕ) (walk : Walk) (r : Result ℕ Refusal) (new : Keeper D) (sections : List Section) → m ≡ n → GoesOn states honest old
    → Fits states honest n done old b → is_walking old.sweeper.walking ≡ false → old.is_broken ≡ false → IsNextStripe stripe old.next old.checkpoint → HasLooked m b stripe walk p
    → IfOk r (λ mark. (b : Record) (i : ℕ) → HasLooked m b i walk p → GivesSection m b i mark old new w) → honest old.disk → HasGiven old.checkpoint sections (now (states old.disk)) → IfOk r (λ mark. GivesPart states n (history_of w) mark sections new)
whole_given {D} states honest n m done old b p w stripe walk (Ok mark) new sections same on f rests works next k g h given =
    gives_part states honest n done old b w stripe mark new sections on f rests works next (subst (λ i. GivesSection i b stripe mark old new w) same (g b stripe k)) h given
whole_given {D} states honest n m done old b p w stripe walk (Err e) new sections same on f rests works next k g h given = tt

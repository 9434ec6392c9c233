-- Another record of one pass in the book.
use Rattle.std.proofs.Common.{ℕ, ◌≡◌, ◌≢◌, ◌+◌, ◌<◌, ◌≤◌, ◌^◌, ◌++◌, List, [], ◌∷◌, Bool, true, false, length, get_or, set, sum_by, refl, arith, sym, ◌∙◌, ap, subst, inl, inr}
use Rattle.std.specs.Prelude.{if◌then◌else◌}
use Rattle.std.specs.List.{All}
use Rattle.std.proofs.lemmas.List.{get_or-set_same, get_or-set_other}
use Rattle.std.proofs.lemmas.List.Sums.{sum_by-set, sum_by-cons}
use Rattle.std.proofs.Math.ListN.{length-set}
use Rattle.std.proofs.lemmas.Bool.{cases_eq, cases_lt, le-ltb}
use Rattle.map_types.specs.declared.commands.Command.{Command}
use Rattle.ticket_order.specs.declared.record.StepMade.{StepMade}
use Rattle.ticket_order.specs.declared.record.Record.{Record}
use Rattle.ticket_order.specs.Records.{IsWithin, newcomer, looking}
use Rattle.one_history.specs.declared.book.Book.{Book}
use Rattle.one_history.specs.declared.book.KeeperEffects.{KeeperEffects}
use Rattle.one_history.specs.declared.slot.Slot.{Slot}
use Rattle.one_history.specs.declared.slot.Slot.TheVariants.{Home, HeldBy}
use Rattle.one_history.specs.Interleaving.{Words, words_at, moved_by, Finds, steps_by}
use Rattle.one_history.specs.Turns.{record_of, pass_step, words_of}
use Rattle.one_history.specs.OneHistory.{Knows, AreOf, IsOneHistory, HoldsStripe, HoldApart, stripe_in}
use Rattle.one_history.specs.SharedWords.{slot_of, holder_in, Lies, draws_left, HasRoom, IsKept}
use Rattle.one_history.proofs.Interleavings.{after_push, found_push, by_own, by_other}

-- what holds of each record, after one was put in another's place
pub each : (P : ℕ → Record → Type 0) (xs : List Record) (j : ℕ) (v d : Record) → j < length xs → P j v → ((l : ℕ) → l < length xs → l ≢ j → P l (get_or xs l d)) → (l : ℕ) → l < length (set xs j v) → P l (get_or (set xs j v) l d)
each P xs j v d within here there l lt = elim (cases_eq l j) [
  | inl e ↦ let same : get_or (set xs j v) l d ≡ v = rw (e, get_or-set_same xs j v d within) in subst (λ w. P l w) (sym same) (subst (λ i. P i v) (sym e) here)
  | inr ne ↦ subst (λ w. P l w) (sym (get_or-set_other xs j l v d ne)) (there l (omega (arith, length-set xs j v)) ne)
]

draws_left-le : (v : Record) → draws_left v ≤ 1
draws_left-le v = elim v.fresh as (λ b. (if b then 1 else 0) ≤ 1) [ true ↦ omega arith | false ↦ omega arith ]

sum-le : (xs : List Record) → sum_by draws_left xs ≤ length xs
sum-le [] = omega arith
sum-le (x ∷ xs) = omega (arith, sum_by-cons draws_left x xs, draws_left-le x, sum-le xs)

-- this book after the step s of the pass j, which then has the record w, where the history and the effects are these
abbrev pub turned : Book → ℕ → StepMade → Record → List Command → List ℕ → KeeperEffects → Book
turned b j s w h authors k = record { opening = b.opening; stripes = b.stripes; history = h; authors = authors; passes = set b.passes j w; effects = k; interleaving = b.interleaving ++ pass_step j s ∷ [] }

pub same_record : (b : Book) (j : ℕ) (s : StepMade) (w : Record) (h : List Command) (authors : List ℕ) (k : KeeperEffects) → j < length b.passes → record_of j (turned b j s w h authors k) ≡ w
same_record b j s w h authors k within = get_or-set_same b.passes j w (newcomer b.opening) within

pub other_records : (b : Book) (j l : ℕ) (s : StepMade) (w : Record) (h : List Command) (authors : List ℕ) (k : KeeperEffects) → l ≢ j → record_of l (turned b j s w h authors k) ≡ record_of l b
other_records b j l s w h authors k ne = get_or-set_other b.passes j l w (newcomer b.opening) ne

-- the words after the step
pub words_turned : (b : Book) (j : ℕ) (s : StepMade) (w : Record) (h : List Command) (authors : List ℕ) (k : KeeperEffects) → words_of (turned b j s w h authors k) ≡ moved_by j s (words_of b)
words_turned b j s w h authors k = after_push (words_at b.opening) b.interleaving (pass_step j s)

-- the step was recorded, it found what the words held, and they hold then what the history and the effects say
pub record IsStep (b : Book) (j : ℕ) (s : StepMade) (w : Record) (h : List Command) (authors : List ℕ) (k : KeeperEffects) : Type 0 where
  pub recorded : w.steps ≡ (record_of j b).steps ++ s ∷ []
  pub finds : Finds j s (words_of b)
  pub words : AreOf (turned b j s w h authors k) (moved_by j s (words_of b))

steps_turned : (b : Book) (j : ℕ) (s : StepMade) (w : Record) (h : List Command) (authors : List ℕ) (k : KeeperEffects) → j < length b.passes → w.steps ≡ (record_of j b).steps ++ s ∷ [] → ((l : ℕ) → (record_of l b).steps ≡ steps_by l b.interleaving)
    → (l : ℕ) → (record_of l (turned b j s w h authors k)).steps ≡ steps_by l (b.interleaving ++ pass_step j s ∷ [])
steps_turned b j s w h authors k within recorded before l = elim (cases_eq l j) [
  | inl e ↦
      let own : (record_of j (turned b j s w h authors k)).steps ≡ steps_by j (b.interleaving ++ pass_step j s ∷ []) =
      ap (λ (v : Record). v.steps) (same_record b j s w h authors k within) ∙ (recorded ∙ (ap (λ xs. xs ++ s ∷ []) (before j) ∙ sym (by_own j s b.interleaving))) in
      subst (λ i. (record_of i (turned b j s w h authors k)).steps ≡ steps_by i (b.interleaving ++ pass_step j s ∷ [])) (sym e) own
  | inr ne ↦ ap (λ (v : Record). v.steps) (other_records b j l s w h authors k ne) ∙ (before l ∙ sym (by_other j l s b.interleaving (λ e. ne (sym e))))
]

pub one_turned : (b : Book) (j : ℕ) (s : StepMade) (w : Record) (h : List Command) (authors : List ℕ) (k : KeeperEffects) → IsOneHistory b → j < length b.passes
    → length authors ≡ length h → All (λ i. i < length b.passes) authors → k.keeper ≡ b.effects.keeper → b.opening.first ≤ k.durable → k.durable ≤ b.opening.first + length h → All (IsWithin b.opening.key_limit) h
    → Knows b.opening b.stripes h authors k j w
    → ((l : ℕ) → l < length b.passes → l ≢ j → Knows b.opening b.stripes h authors k l (record_of l b))
    → IsStep b j s w h authors k → IsOneHistory (turned b j s w h authors k)
one_turned b j s w h authors k one within lengths by keeper begun reached short here there step = record {
  authors = lengths;
  by_passes = subst (λ n. All (λ i. i < n) authors) (sym (length-set b.passes j w)) by;
  keeper = (let known : b.effects.keeper < length b.passes = one.keeper in omega (arith, length-set b.passes j w));
  begun = begun;
  reached = reached;
  passes = each (Knows b.opening b.stripes h authors k) b.passes j w (newcomer b.opening) within here there;
  steps = steps_turned b j s w h authors k within step.recorded one.steps;
  found = found_push (words_at b.opening) b.interleaving (pass_step j s) one.found step.finds;
  words = subst (AreOf (turned b j s w h authors k)) (sym (words_turned b j s w h authors k)) step.words;
  within = short;
}

-- the pass's record has no more tickets to draw than before
pub room_turned : (b : Book) (j : ℕ) (s : StepMade) (w : Record) (k : KeeperEffects) → j < length b.passes → draws_left w ≤ draws_left (record_of j b) → HasRoom b → HasRoom (turned b j s w b.history b.authors k)
room_turned b j s w k within l room = elim room [
  | inl z ↦ inl (omega (arith, sum_by-set draws_left b.passes j w (newcomer b.opening) within))
  | inr r ↦ inr (omega (arith, sum_by-set draws_left b.passes j w (newcomer b.opening) within, length-set b.passes j w))
]

-- a LOOK below the limit lets the pass draw once
pub room_looked : (b : Book) (j : ℕ) (s : StepMade) (v : Record) (between : List Command) (k : KeeperEffects) → j < length b.passes → v.opening.first + length (v.seen ++ between) ≡ b.opening.first + length b.history → HasRoom b → HasRoom (turned b j s (looking v between) b.history b.authors k)
room_looked b j s v between k within at room = elim (cases_lt (v.opening.first + length (v.seen ++ between)) (2 ^ 62)) [
  | inl l ↦ inr (omega (arith, sum-le (set b.passes j (looking v between)), length-set b.passes j (looking v between)))
  | inr l ↦
      let none : draws_left (looking v between) ≡ 0 = ap (λ t. if t then 1 else 0) (le-ltb _ _ l) in
      room_turned b j s (looking v between) k within (omega arith) room
]

-- a ticket is drawn by a pass that may draw one
pub room_drawn : (b : Book) (j : ℕ) (s : StepMade) (w : Record) (c : Command) (authors : List ℕ) (k : KeeperEffects) → j < length b.passes → draws_left (record_of j b) ≡ 1 → draws_left w ≡ 0 → length (b.history ++ c ∷ []) ≡ length b.history + 1 → HasRoom b → HasRoom (turned b j s w (b.history ++ c ∷ []) authors k)
room_drawn b j s w c authors k within one zero more room = elim room [
  | inl z ↦ absurd (omega (arith, sum_by-set draws_left b.passes j w (newcomer b.opening) within))
  | inr r ↦ inr (omega (arith, sum_by-set draws_left b.passes j w (newcomer b.opening) within, length-set b.passes j w))
]

-- the count of tickets is far below its wrap when a ticket may be drawn
pub count_small : (b : Book) (j : ℕ) → j < length b.passes → length b.passes ≤ 65536 → draws_left (record_of j b) ≡ 1 → HasRoom b → b.opening.first + length b.history < 2 ^ 63
count_small b j within few one room =
    let spent : Record = record (record_of j b) { fresh = false } in
    let sum : sum_by draws_left (set b.passes j spent) + draws_left (record_of j b) ≡ sum_by draws_left b.passes + draws_left spent = sum_by-set draws_left b.passes j spent (newcomer b.opening) within in
    elim room [ inl z ↦ absurd (omega arith) | inr r ↦ omega arith ]

pub same_stripes : (b : Book) (j : ℕ) (s : StepMade) (w : Record) (h : List Command) (authors : List ℕ) (k : KeeperEffects) → j < length b.passes → stripe_in w.holding ≡ stripe_in (record_of j b).holding
    → (l : ℕ) → l < length (set b.passes j w) → stripe_in (record_of l (turned b j s w h authors k)).holding ≡ stripe_in (record_of l b).holding
same_stripes b j s w h authors k within same = each (λ l r. stripe_in r.holding ≡ stripe_in (record_of l b).holding) b.passes j w (newcomer b.opening) within same (λ l lt ne. refl)

pub holds_still : (b : Book) (i j l : ℕ) (s : StepMade) (w : Record) (h : List Command) (authors : List ℕ) (k : KeeperEffects) → j < length b.passes → stripe_in w.holding ≡ stripe_in (record_of j b).holding → HoldsStripe b l i → HoldsStripe (turned b j s w h authors k) l i
holds_still b i j l s w h authors k within same x =
    let lt : l < length (set b.passes j w) = (let was : l < length b.passes = x.within in omega (arith, length-set b.passes j w)) in
    record { within = lt; has = same_stripes b j s w h authors k within same l lt ∙ x.has }

pub held_before : (b : Book) (i j l : ℕ) (s : StepMade) (w : Record) (h : List Command) (authors : List ℕ) (k : KeeperEffects) → j < length b.passes → stripe_in w.holding ≡ stripe_in (record_of j b).holding → HoldsStripe (turned b j s w h authors k) l i → HoldsStripe b l i
held_before b i j l s w h authors k within same x =
    record { within = (let lt : l < length (set b.passes j w) = x.within in omega (arith, length-set b.passes j w)); has = sym (same_stripes b j s w h authors k within same l x.within) ∙ x.has }

-- another pass holds what it held
pub other_holds : (b : Book) (i j l : ℕ) (s : StepMade) (w : Record) (h : List Command) (authors : List ℕ) (k : KeeperEffects) → l ≢ j → HoldsStripe b l i → HoldsStripe (turned b j s w h authors k) l i
other_holds b i j l s w h authors k ne x =
    record { within = (let was : l < length b.passes = x.within in omega (arith, length-set b.passes j w)); has = ap (λ (r : Record). stripe_in r.holding) (other_records b j l s w h authors k ne) ∙ x.has }

pub other_held : (b : Book) (i j l : ℕ) (s : StepMade) (w : Record) (h : List Command) (authors : List ℕ) (k : KeeperEffects) → l ≢ j → HoldsStripe (turned b j s w h authors k) l i → HoldsStripe b l i
other_held b i j l s w h authors k ne x =
    record { within = (let lt : l < length (set b.passes j w) = x.within in omega (arith, length-set b.passes j w)); has = sym (ap (λ (r : Record). stripe_in r.holding) (other_records b j l s w h authors k ne)) ∙ x.has }

-- the stripes' holders after a step that neither takes nor gives
pub holders_turned : (b : Book) (j : ℕ) (s : StepMade) (w : Record) (h : List Command) (authors : List ℕ) (k : KeeperEffects) (slots : List Slot) → (moved_by j s (words_of b)).holders ≡ (words_of b).holders
    → ((i : ℕ) → i < b.stripes → (words_of b).holders i ≡ holder_in (slot_of i slots)) → (i : ℕ) → i < b.stripes → (words_of (turned b j s w h authors k)).holders i ≡ holder_in (slot_of i slots)
holders_turned b j s w h authors k slots same before i lt = ap (λ (x : Words). x.holders i) (words_turned b j s w h authors k) ∙ (ap (λ holders. holders i) same ∙ before i lt)

-- a step that neither takes, gives nor draws; the keeper may publish or fail by it
pub kept_turned : (n t durable : ℕ) (failed : Bool) (slots : List Slot) (b : Book) (j : ℕ) (s : StepMade) (w : Record) (durable' x : ℕ) (failed' y : Bool) → IsKept n t durable failed slots b → j < length b.passes → stripe_in w.holding ≡ stripe_in (record_of j b).holding
    → (moved_by j s (words_of b)).holders ≡ (words_of b).holders
    → durable' ≡ x → failed' ≡ y → HasRoom (turned b j s w b.history b.authors (record b.effects { durable = x; failed = y })) → IsOneHistory (turned b j s w b.history b.authors (record b.effects { durable = x; failed = y }))
    → IsKept n t durable' failed' slots (turned b j s w b.history b.authors (record b.effects { durable = x; failed = y }))
kept_turned n t durable failed slots b j s w durable' x failed' y kept within same holders durable_is failed_is room one =
    let k' : KeeperEffects = record b.effects { durable = x; failed = y } in
    let lies : (i : ℕ) (z : Slot) → Lies b i z → Lies (turned b j s w b.history b.authors k') i z =
    λ i. elim [
      | Home content ↦ λ c. record { part_is = c.part_is; outbox_is = c.outbox_is; last_is = c.last_is }
      | HeldBy l ↦ λ c. holds_still b i j l s w b.history b.authors k' within same c
    ] in
    record {
      stripes_are = kept.stripes_are;
      sized = kept.sized;
      counted = kept.counted;
      durable_is = durable_is;
      failed_is = failed_is;
      few = (let was : length b.passes ≤ 65536 = kept.few in omega (arith, length-set b.passes j w));
      room = room;
      one = one;
      each_slot = λ i lt. lies i (slot_of i slots) (kept.each_slot i lt);
      carried = λ i l z. kept.carried i l (held_before b i j l s w b.history b.authors k' within same z);
      holders = holders_turned b j s w b.history b.authors k' slots holders kept.holders;
    }

-- no two passes hold one stripe
pub hold_apart : (n t durable : ℕ) (failed : Bool) (slots : List Slot) (b : Book) → IsKept n t durable failed slots b → HoldApart b
hold_apart n t durable failed slots b kept i j l x y = let e : HeldBy j ≡ HeldBy l = sym (kept.carried i j x) ∙ kept.carried i l y in cc

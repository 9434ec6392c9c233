-- What a step of a worker leaves of the words.
use Rattle.std.proofs.Common.{ℕ, ◌≡◌, ◌+◌, ◌<◌, List, [], ◌∷◌, ◌++◌, Some, None, false, length, drop, arith, sym, ◌∙◌, ap, subst, append-nil, append_assoc, length-append}
use Rattle.std.proofs.Math.Seq.{drop-append_seam}
use Rattle.std.proofs.lemmas.Bool.{ne_eqb}
use Rattle.map_types.specs.declared.commands.Command.{Command}
use Rattle.disk_model.specs.Files.{Files}
use Rattle.ticket_order.specs.declared.stripe.Entry.{Entry}
use Rattle.ticket_order.specs.declared.record.Opening.{Opening}
use Rattle.ticket_order.specs.declared.record.StepMade.{StepMade}
use Rattle.ticket_order.specs.declared.record.StepMade.TheVariants.{Took, FoundHeld, Gave, Drew, Looked, Published, Saw, Failed, FoundAlive}
use Rattle.ticket_order.specs.declared.record.Record.{Record}
use Rattle.one_history.specs.declared.book.Book.{Book}
use Rattle.one_history.specs.declared.book.KeeperEffects.{KeeperEffects}
use Rattle.one_history.specs.Turns.{record_of}
use Rattle.one_history.specs.OneHistory.{HasDone, HoldApart, IsOneHistory, Knows}
use Rattle.one_history.specs.Moves.{BookMoves, GainsTaken}
use Rattle.sim_rules.specs.declared.outcome.Made.{Made}
use Rattle.sim_rules.specs.World.{World, Life, Job, Place}
use Rattle.sim_rules.specs.Told.{told_of}
use Rattle.sim_workers.specs.Doings.{Doing}
use Rattle.sim_workers.specs.WordsInWorld.{WordsStand}
use Rattle.sim_workers.specs.Workers.{MakesStep, WorkersStand}
use Rattle.sim_workers.proofs.WorkersInWorld.{changed, world_of}

-- a worker changes none of what the keeper did
pub record KeepsEffects (b b' : Book) : Type 0 where
  pub keeper : b'.effects.keeper ≡ b.effects.keeper
  pub durable : b'.effects.durable ≡ b.effects.durable
  pub failed : b'.effects.failed ≡ b.effects.failed
  pub taken : b'.effects.taken ≡ b.effects.taken

same_effects : (b b' : Book) → b'.effects ≡ b.effects → KeepsEffects b b'
same_effects b b' is = record {
  keeper = ap (λ (k : KeeperEffects). k.keeper) is;
  durable = ap (λ (k : KeeperEffects). k.durable) is;
  failed = ap (λ (k : KeeperEffects). k.failed) is;
  taken = ap (λ (k : KeeperEffects). k.taken) is;
}

-- no other pass than the keeper's took entries
none_taken : (o : Opening) (k : KeeperEffects) (v : Record) → v.keeper ≡ false → HasDone o k v v.keeper → v.taken ≡ []
none_taken o k v not done = (subst (HasDone o k v) not done).0

no_entries : (xs ys : List Entry) → xs ++ ys ≡ [] → ys ≡ []
no_entries [] ys is = is
no_entries (x ∷ xs) ys is = absurd (omega (arith, ap length is, length-append xs ys))

gave_effects : (b b' : Book) (j : ℕ) → IsOneHistory b' → length b'.passes ≡ 65 → b.effects.keeper ≡ 64 → j < 64 → GainsTaken j b b' → KeepsEffects b b'
gave_effects b b' j one passes keeper worker gains =
    let same : b'.effects.keeper ≡ b.effects.keeper = ap (λ (k : KeeperEffects). k.keeper) gains.effects in
    let knows : Knows b'.opening b'.stripes b'.history b'.authors b'.effects j (record_of j b') = one.passes j (omega (arith, worker, passes)) in
    let other : (record_of j b').keeper ≡ false = knows.keeper ∙ ne_eqb j b'.effects.keeper (λ e. omega (arith, e, same, keeper, worker)) in
    let none : gains.entries ≡ [] = no_entries (record_of j b).taken gains.entries (sym gains.taken ∙ none_taken b'.opening b'.effects (record_of j b') other knows.done) in
    record {
      keeper = same;
      durable = ap (λ (k : KeeperEffects). k.durable) gains.effects;
      failed = ap (λ (k : KeeperEffects). k.failed) gains.effects;
      taken = ap (λ (k : KeeperEffects). k.taken) gains.effects ∙ (ap (λ es. b.effects.taken ++ es) none ∙ append-nil b.effects.taken);
    }

never_told : (m : Made) → None ≡ Some m → ⊥
never_told m e = cc

effects_by : (step : StepMade) (m : Made) (b b' : Book) (j : ℕ) → told_of step ≡ Some m → BookMoves j step b b' → IsOneHistory b' → length b.passes ≡ 65 → b.effects.keeper ≡ 64 → j < 64 → KeepsEffects b b'
effects_by (Took i es last) m b b' j told moved one passes keeper worker = same_effects b b' moved.words.0.effects
effects_by (FoundHeld i) m b b' j told moved one passes keeper worker = same_effects b b' moved.words.0.effects
effects_by (Gave i) m b b' j told moved one passes keeper worker = gave_effects b b' j one (moved.passes ∙ passes) keeper worker moved.words.1
effects_by (Drew t) m b b' j told moved one passes keeper worker = same_effects b b' moved.words.effects
effects_by (Looked q) m b b' j told moved one passes keeper worker = same_effects b b' moved.words.0.effects
effects_by (Published x) m b b' j told moved one passes keeper worker = absurd (never_told m told)
effects_by (Saw d) m b b' j told moved one passes keeper worker = same_effects b b' moved.words.0.effects
effects_by Failed m b b' j told moved one passes keeper worker = absurd (never_told m told)
effects_by (FoundAlive is_alive) m b b' j told moved one passes keeper worker = same_effects b b' moved.words.0.effects

pub effects_kept : (b b' : Book) (w : World) (l : Life) (doings : ℕ → Doing) (j : ℕ) (m : Made) → WorkersStand b w l doings → j < 64 → MakesStep j b b' m → KeepsEffects b b'
effects_kept b b' w l doings j m stand worker made = effects_by made.step m b b' j made.told made.moved made.one stand.passes stand.keeper worker

-- the words stand as they should, with a history that grew by these commands
pub words_moved : (b b' : Book) (files : Files) (history history' more : List Command) (l : Life) (j : ℕ) (job : Job) (seen : List ℕ) (places : List Place) → WordsStand b (world_of files history l) l → IsOneHistory b' → HoldApart b'
    → b'.opening ≡ b.opening → b'.stripes ≡ b.stripes → KeepsEffects b b' → b'.history ≡ b.history ++ more → history' ≡ history ++ more
    → WordsStand b' (world_of files history' (changed l j job seen places)) (changed l j job seen places)
words_moved b b' files history history' more l j job seen places words one apart opening stripes effects grew grows = record {
  one = one;
  apart = apart;
  stripes = words.stripes ∙ sym stripes;
  first = words.first ∙ ap (λ (o : Opening). o.first) (sym opening);
  key_limit = ap (λ (o : Opening). o.key_limit) opening ∙ words.key_limit;
  before = words.before;
  count = words.count ∙ ap (λ (o : Opening). o.first) (sym opening);
  map = ap (λ (o : Opening). o.map) opening ∙ words.map;
  history = grows ∙ (ap (λ h. h ++ more) words.history ∙ (append_assoc words.before b.history more ∙ ap (λ h. words.before ++ h) (sym grew)));
  durable = words.durable ∙ sym effects.durable;
  has_failed = words.has_failed ∙ sym effects.failed;
}

-- how many commands the world has
pub counted : (b : Book) (w : World) (l : Life) → WordsStand b w l → length w.history ≡ b.opening.first + length b.history
counted b w l words = omega (arith, ap length words.history, length-append words.before b.history, words.count)

-- those since the opening are the book's
pub all_commands : (b : Book) (w : World) (l : Life) → WordsStand b w l → drop l.first w.history ≡ b.history
all_commands b w l words =
    let at : l.first ≡ length words.before = words.first ∙ sym words.count in
    ap (λ k. drop k w.history) at ∙ (ap (drop (length words.before)) words.history ∙ drop-append_seam words.before b.history)

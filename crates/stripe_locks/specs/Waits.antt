-- What a call leaves of the pass's record that waited for its stripe.
use Rattle.std.specs.Prelude.{◌≡◌, ◌⊎◌, ℕ, ◌<◌, ◌≤◌, [], ◌∷◌, ◌++◌, replicate}
use Rattle.java_hash.specs.Stripes.{stripe_of}
use Rattle.map_types.specs.declared.commands.Command.{Command}
use Rattle.map_types.specs.declared.commands.Read.{Read}
use Rattle.map_types.specs.declared.commands.Reply.{Reply}
use Rattle.map_types.specs.declared.refusals.Refusal.{Refusal}
use Rattle.ticket_order.specs.declared.stripe.Stripe.{Stripe}
use Rattle.ticket_order.specs.declared.record.Asked.TheVariants.{Changing, Reading}
use Rattle.ticket_order.specs.declared.record.StepMade.TheVariants.{FoundHeld}
use Rattle.ticket_order.specs.declared.record.Record.{Record}
use Rattle.ticket_order.specs.Records.{IsWithin, call, reach}
use Rattle.ticket_order.specs.StepRules.{TakesStripe}
use Rattle.ticket_order.specs.Calls.{IsTooLong, MakesCall, MakesRead, RefusesChange, RefusesRead, IsNotBusy}

-- the pass found stripe i held some number of times, and did nothing else
pub record Waits (i : ℕ) (v w : Record) : Type 0 where
  pub misses : ℕ
  pub is : w ≡ record v { steps = v.steps ++ replicate misses (FoundHeld i) }

-- it waited for stripe i, and then took it with this content
pub record TakesInTime (n : ℕ) (v : Record) (i : ℕ) (content : Stripe) (w : Record) : Type 0 where
  pub waited : Record
  pub waits : Waits i v waited
  pub takes : TakesStripe n waited i content w

-- it waited for its stripe, and then made the change; the record's calls grew by this call alone
pub record MakesCallInTime (n : ℕ) (v : Record) (c : Command) (position : ℕ) (reply : Reply) (w : Record) : Type 0 where
  pub waited : Record
  pub waits : Waits (stripe_of n c.key) v waited
  pub made : MakesCall n waited c position reply w
  pub grew : w.calls ≡ v.calls ++ call position (Changing c) reply ∷ []
  pub later : reach v < position

pub record MakesReadInTime (n : ℕ) (v : Record) (r : Read) (position : ℕ) (reply : Reply) (w : Record) : Type 0 where
  pub waited : Record
  pub waits : Waits (stripe_of n r.key) v waited
  pub made : MakesRead n waited r position reply w
  pub grew : w.calls ≡ v.calls ++ call position (Reading r) reply ∷ []
  pub later : reach v ≤ position

-- it waited for stripe i, and then the change was refused; never because the stripe is held
pub record RefusesChangeInTime (v : Record) (i : ℕ) (e : Refusal) (w : Record) : Type 0 where
  pub waited : Record
  pub waits : Waits i v waited
  pub refused : RefusesChange waited i e w
  pub not_busy : IsNotBusy e

-- what a refused call leaves that was to make this change on n stripes: its key is too long, or the change is refused
-- on its stripe, perhaps after a wait
abbrev pub TurnsDownInTime : ℕ → Record → Command → Refusal → Record → Type 0
TurnsDownInTime n v c e w =
    IsTooLong v c e w ⊎ (IsWithin v.opening.key_limit c × RefusesChangeInTime v (stripe_of n c.key) e w)

pub record RefusesReadInTime (v : Record) (i : ℕ) (e : Refusal) (w : Record) : Type 0 where
  pub waited : Record
  pub waits : Waits i v waited
  pub refused : RefusesRead waited i e w
  pub not_busy : IsNotBusy e

-- A call that was refused before it was made, and what a begun call comes to.
use Rattle.std.proofs.Common.{◌≡◌, ℕ, Result, Ok, Err, IfOk, IfErr, inl, inr, ap, subst, sym, ◌∙◌}
use Rattle.java_hash.specs.Stripes.{stripe_of}
use Rattle.map_types.specs.declared.commands.Command.{Command}
use Rattle.map_types.specs.declared.commands.Read.{Read}
use Rattle.map_types.specs.declared.refusals.Refusal.{Refusal}
use Rattle.map_types.specs.declared.refusals.Refusal.TheVariants as refusal
use Rattle.ticket_order.specs.declared.record.Asked.TheVariants.{Changing, Reading}
use Rattle.ticket_order.specs.declared.record.Record.{Record}
use Rattle.ticket_order.specs.Calls.{RefusesChange, RefusesRead}
use Rattle.stripe_locks.specs.Holding.{position_of, reply_of}
use Rattle.stripe_locks.specs.declared.held.Held.{Held}
use Rattle.stripe_locks.specs.Waits.{MakesCallInTime, MakesReadInTime, RefusesReadInTime, TurnsDownInTime}
use Rattle.flusher.specs.Fitting.{GoesOnByCalls}
use Rattle.flusher.proofs.OwnCalls.{none_goes_on, refused_change_goes_on, refused_read_goes_on, then}
use Rattle.durable_map.specs.Durable.{Begins}
use Rattle.durable_map.proofs.Answering.{change_begun, read_begun, waited}

-- no call was added
change_adds_none : (v : Record) (i : ℕ) (e : Refusal) (w : Record) → RefusesChange v i e w → w.calls ≡ v.calls
change_adds_none v i (refusal.Busy j) w k = ap (λ (r : Record). r.calls) k.1
change_adds_none v i refusal.Failed w k = k.same_calls
change_adds_none v i refusal.TicketsSpent w k = k.0.same_calls
change_adds_none v i refusal.NoMemory w k = k.0.same_calls
change_adds_none v i other w k = absurd k

read_adds_none : (v : Record) (i : ℕ) (e : Refusal) (w : Record) → RefusesRead v i e w → w.calls ≡ v.calls
read_adds_none v i (refusal.Busy j) w k = ap (λ (r : Record). r.calls) k.1
read_adds_none v i refusal.Failed w k = k.same_calls
read_adds_none v i refusal.NoMemory w k = k.same_calls
read_adds_none v i other w k = absurd k

pub change_refused : (n : ℕ) (v : Record) (c : Command) (w : Record) (e : Refusal) → TurnsDownInTime n v c e w → Begins n v (Changing c) (Err e) w
change_refused n v c w e (inl k) = record {
  goes_on = subst (GoesOnByCalls v) (sym k.is) (none_goes_on v);
  adds = record { refused = inl k; calls = ap (λ (r : Record). r.calls) k.is };
}
change_refused n v c w e (inr k) = record {
  goes_on = then v k.1.waited w (waited _ v k.1.waited k.1.waits) (refused_change_goes_on k.1.waited _ e w k.1.refused);
  adds = record { refused = inr k; calls = change_adds_none k.1.waited _ e w k.1.refused ∙ ap (λ (r : Record). r.calls) k.1.waits.is };
}

pub read_refused : (n : ℕ) (v : Record) (r : Read) (w : Record) (e : Refusal) → RefusesReadInTime v (stripe_of n r.key) e w → Begins n v (Reading r) (Err e) w
read_refused n v r w e k = record {
  goes_on = then v k.waited w (waited _ v k.waited k.waits) (refused_read_goes_on k.waited _ e w k.refused);
  adds = record { refused = k; calls = read_adds_none k.waited _ e w k.refused ∙ ap (λ (z : Record). z.calls) k.waits.is };
}

-- ---- a call that was begun, by what came of it

pub change_ends_so : (n : ℕ) (v : Record) (c : Command) (w : Record) (result : Result Held Refusal) → IfOk result (λ held. MakesCallInTime n v c (position_of held) (reply_of held) w) → IfErr result (λ e. TurnsDownInTime n v c e w) → Begins n v (Changing c) result w
change_ends_so n v c w (Ok held) made refused = change_begun n v c held w made
change_ends_so n v c w (Err e) made refused = change_refused n v c w e refused

pub read_ends_so : (n : ℕ) (v : Record) (r : Read) (w : Record) (result : Result Held Refusal) → IfOk result (λ held. MakesReadInTime n v r (position_of held) (reply_of held) w) → IfErr result (λ e. RefusesReadInTime v (stripe_of n r.key) e w) → Begins n v (Reading r) result w
read_ends_so n v r w (Ok held) made refused = read_begun n v r held w made
read_ends_so n v r w (Err e) made refused = read_refused n v r w e refused

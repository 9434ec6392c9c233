-- A call that waited for its stripe.
use Rattle.std.proofs.Common.{ℕ, ◌≡◌, ◌<◌, ◌≤◌, List, None, subst, ◌++◌, [], ◌∷◌, zero, suc, replicate, refl, arith, sym, ◌∙◌, ap, append_assoc}
use Rattle.std.specs.Prelude.{Result, Ok, Err, IfOk, IfErr}
use Rattle.std.proofs.lemmas.Result.{IfErr-weaker}
use Rattle.java_hash.specs.Stripes.{stripe_of}
use Rattle.map_types.specs.declared.commands.Command.{Command}
use Rattle.map_types.specs.declared.commands.Read.{Read}
use Rattle.map_types.specs.declared.commands.Reply.{Reply}
use Rattle.map_types.specs.declared.refusals.Refusal.{Refusal}
use Rattle.map_types.specs.declared.refusals.Refusal.TheVariants as refusal
use Rattle.ticket_order.specs.declared.stripe.Stripe.{Stripe}
use Rattle.stripe_locks.specs.declared.held.Held.{Held}
use Rattle.stripe_locks.specs.declared.stripes.Stripes.{Stripes}
use Rattle.stripe_locks.specs.Holding.{position_of, reply_of, IsHeldOf}
use Rattle.stripe_locks.specs.Passes.{recorded, IsPassOf}
use Rattle.std.specs.List.{Contains}
use Rattle.std.proofs.lemmas.List.Elements.{Contains-push}
use Rattle.ticket_order.specs.declared.record.Asked.{Asked}
use Rattle.ticket_order.specs.declared.record.Call.{Call}
use Rattle.ticket_order.specs.declared.record.Asked.TheVariants.{Changing, Reading}
use Rattle.ticket_order.specs.declared.record.StepMade.{StepMade}
use Rattle.ticket_order.specs.declared.record.StepMade.TheVariants.{FoundHeld}
use Rattle.ticket_order.specs.declared.record.Record.{Record}
use Rattle.ticket_order.specs.Records.{IsWithin, missing, call, past, reach}
use Rattle.ticket_order.specs.StepRules.{Rises}
use Rattle.ticket_order.specs.Calls.{HasFound, IsNotBusy, MakesCall, MakesRead, RefusesChange, RefusesRead}
use Rattle.stripe_locks.specs.Waits.{Waits, TakesInTime, MakesCallInTime, MakesReadInTime}

replicate_push : (k : ℕ) (x : StepMade) → replicate k x ++ x ∷ [] ≡ replicate (suc k) x
replicate_push zero x = refl
replicate_push (suc k) x = ap (λ w. x ∷ w) (replicate_push k x)

pub waits_once_more : (i : ℕ) (v w u : Record) → Waits i v w → u ≡ missing w i → Waits i v u
waits_once_more i v w u k e = record {
  misses = suc k.misses;
  is = e ∙ (ap (λ (r : Record). missing r i) k.is ∙ ap (λ s. record v { steps = s }) (append_assoc v.steps (replicate k.misses (FoundHeld i)) (FoundHeld i ∷ []) ∙ ap (λ s. v.steps ++ s) (replicate_push k.misses (FoundHeld i))));
}

pub made_in_time : (n : ℕ) (v : Record) (c : Command) (content : Stripe) (t : Record) (position : ℕ) (reply : Reply) (w : Record) (k : TakesInTime n v (stripe_of n c.key) content t) → MakesCall n k.waited c position reply w → MakesCallInTime n v c position reply w
made_in_time n v c content t position reply w k m = record {
  waited = k.waited;
  waits = k.waits;
  made = m;
  grew = m.grew ∙ ap (λ (r : Record). r.calls ++ call position (Changing c) reply ∷ []) k.waits.is;
  later = (let same : reach k.waited ≡ reach v = ap reach k.waits.is in let l : reach k.waited < position = m.later in omega arith);
}

pub read_in_time : (n : ℕ) (v : Record) (r : Read) (content : Stripe) (t : Record) (position : ℕ) (reply : Reply) (w : Record) (k : TakesInTime n v (stripe_of n r.key) content t) → MakesRead n k.waited r position reply w → MakesReadInTime n v r position reply w
read_in_time n v r content t position reply w k m = record {
  waited = k.waited;
  waits = k.waits;
  made = m;
  grew = m.grew ∙ ap (λ (u : Record). u.calls ++ call position (Reading r) reply ∷ []) k.waits.is;
  later = (let same : reach k.waited ≡ reach v = ap reach k.waits.is in let l : reach k.waited ≤ position = m.later in omega arith);
}

pub found_in_time : (n : ℕ) (v : Record) (i : ℕ) (content : Stripe) (t : Record) (k : TakesInTime n v i content t) → HasFound k.waited i content t
found_in_time n v i content t k = record { between = k.takes.between; is = k.takes.is }

-- a wait and a TAKE leave the limit as it is
pub within_in_time : (n : ℕ) (v : Record) (c : Command) (i : ℕ) (content : Stripe) (t : Record) → TakesInTime n v i content t → IsWithin v.opening.key_limit c → IsWithin t.opening.key_limit c
within_in_time n v c i content t k within =
    subst (λ (r : Record). IsWithin r.opening.key_limit c) (sym k.takes.is) (subst (λ (r : Record). IsWithin r.opening.key_limit c) (sym k.waits.is) within)

-- the TAKE raised what the pass had seen
pub refused_in_time : {T : Type 0} (n : ℕ) (v : Record) (i : ℕ) (content : Stripe) (t w : Record) (k : TakesInTime n v i content t) (r : Result T Refusal)
    → IfErr r (λ e. (e ≡ refusal.Failed → Rises k.waited (past content.outbox.items) t) → RefusesChange k.waited i e w) → IfErr r (λ e. RefusesChange k.waited i e w)
refused_in_time n v i content t w k r refused = IfErr-weaker r _ _ (λ e f. f (λ failed. k.takes.rises)) refused

-- the answer of a call that the maker's record grew by
pub held_of : (s : Stripes) (x : Held) (asked : Asked) (b : Record) → IsPassOf s x.maker.value → (recorded x.maker.value).calls ≡ b.calls ++ call (position_of x) asked (reply_of x) ∷ [] → IsHeldOf s x
held_of s x asked b own grew = record { own = own; asked = asked; made = subst (λ (calls : List Call). Contains calls (call (position_of x) asked (reply_of x))) (sym grew) (Contains-push b.calls (call (position_of x) asked (reply_of x))) }

pub err_both : {A E : Type 0} (r : Result A E) (P Q Z : E → Type 0) → ((e : E) → P e → Q e → Z e) → IfErr r P → IfErr r Q → IfErr r Z
err_both (Ok x) P Q Z f a b = tt
err_both (Err e) P Q Z f a b = f e a b

pub change_refused : (b w : Record) (i : ℕ) (e : Refusal) → RefusesChange b i e w → IsNotBusy e → w.holding ≡ None
change_refused b w i refusal.NoMemory k free = ap (λ (r : Record). r.holding) k.0.is
change_refused b w i (refusal.Busy x0) k free = absurd (free x0 refl)
change_refused b w i refusal.Failed k free = ap (λ (r : Record). r.holding) k.is
change_refused b w i refusal.TicketsSpent k free = ap (λ (r : Record). r.holding) k.0.is
change_refused b w i e k free = absurd k

pub read_refused : (b w : Record) (i : ℕ) (e : Refusal) → RefusesRead b i e w → IsNotBusy e → w.holding ≡ None
read_refused b w i refusal.NoMemory k free = ap (λ (r : Record). r.holding) k.is
read_refused b w i (refusal.Busy x0) k free = absurd (free x0 refl)
read_refused b w i refusal.Failed k free = ap (λ (r : Record). r.holding) k.is
read_refused b w i e k free = absurd k

pub change_over : (n i : ℕ) (b w : Record) (c : Command) (r : Result Held Refusal) → IfOk r (λ h. MakesCall n b c (position_of h) (reply_of h) w) → IfErr r (λ e. RefusesChange b i e w) → IfErr r IsNotBusy → w.holding ≡ None
change_over n i b w c (Ok h) k f g = ap (λ (x : Record). x.holding) k.is
change_over n i b w c (Err e) k f g = change_refused b w i e f g

pub read_over : (n i : ℕ) (b w : Record) (q : Read) (r : Result Held Refusal) → IfOk r (λ h. MakesRead n b q (position_of h) (reply_of h) w) → IfErr r (λ e. RefusesRead b i e w) → IfErr r IsNotBusy → w.holding ≡ None
read_over n i b w q (Ok h) k f g = ap (λ (x : Record). x.holding) k.is
read_over n i b w q (Err e) k f g = read_refused b w i e f g

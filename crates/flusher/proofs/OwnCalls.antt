-- What the calls and releases of a pass leave of its record.
use Rattle.std.proofs.Common.{◌≡◌, inl, inr, ℕ, ◌+◌, List, [], ◌∷◌, ◌++◌, length, Bool, true, false, Result, Ok, Err, IfOk, IfErr, append-nil, refl, sym, ◌∙◌, ap, subst}
use Rattle.std.proofs.lemmas.List.{append_assoc}
use Rattle.java_hash.specs.Stripes.{stripe_of}
use Rattle.map_types.specs.declared.commands.Command.{Command}
use Rattle.map_types.specs.declared.commands.Read.{Read}
use Rattle.map_types.specs.declared.commands.Reply.{Reply}
use Rattle.map_types.specs.declared.refusals.Refusal.{Refusal}
use Rattle.map_types.specs.declared.refusals.Refusal.TheVariants as refusal_type
use Rattle.map_model.specs.Maps.{Map}
use Rattle.ticket_order.specs.declared.stripe.Entry.{Entry}
use Rattle.ticket_order.specs.declared.record.Purpose.TheVariants.{Nothing}
use Rattle.ticket_order.specs.declared.held.Held.{Held}
use Rattle.ticket_order.specs.declared.record.Record.{Record}
use Rattle.ticket_order.specs.declared.record.StepMade.TheVariants.{Took, FoundHeld, Gave, Drew, Looked, Saw, FoundAlive}
use Rattle.ticket_order.specs.Records.{answering, drawing, giving, living, looking, missing, seeing, stripe_held, taking}
use Rattle.ticket_order.specs.StepRules.{Sees, Lives}
use Rattle.ticket_order.specs.Calls.{FindsFailure, FindsNoFailure, LooksAround, MakesCall, MakesRead, RefusesChange, RefusesRead, TurnsDown, walked}
use Rattle.flusher.specs.Fitting.{GoesOnByCalls, IsBeside}
use Rattle.flusher.proofs.Seeing.{sees_none, sees_then}

pub none_goes_on : (v : Record) → GoesOnByCalls v v
none_goes_on v = record { beside = record { opening = refl; keeper = refl; taken = refl; published = refl; failed = refl; seen = sees_none v; made = []; steps = sym (append-nil v.steps) }; sections = refl }

at_last : (v t w : Record) → GoesOnByCalls v t → w ≡ t → GoesOnByCalls v w
at_last v t w b is = subst (GoesOnByCalls v) (sym is) b

both : (a b d : Record) → IsBeside a b → IsBeside b d → IsBeside a d
both a b d k j = record {
  opening = j.opening ∙ k.opening;
  keeper = j.keeper ∙ k.keeper;
  taken = j.taken ∙ k.taken;
  published = j.published ∙ k.published;
  failed = j.failed ∙ k.failed;
  seen = sees_then a b d k.seen j.seen;
  made = k.made ++ j.made;
  steps = j.steps ∙ ap (λ z. z ++ j.made) k.steps ∙ append_assoc a.steps k.made j.made;
}

pub then : (a b d : Record) → GoesOnByCalls a b → GoesOnByCalls b d → GoesOnByCalls a d
then a b d k j = record { beside = both a b d k.beside j.beside; sections = j.sections ∙ k.sections }

takes : (v : Record) (i : ℕ) (m : Map) (es : List Entry) (last : ℕ) (a : List Command) → GoesOnByCalls v (taking v i m es last a)
takes v i m es last a = record { beside = record { opening = refl; keeper = refl; taken = refl; published = refl; failed = refl; seen = record { more = a; is = refl }; made = Took i es last ∷ []; steps = refl }; sections = refl }

misses : (v : Record) (i : ℕ) → GoesOnByCalls v (missing v i)
misses v i = record { beside = record { opening = refl; keeper = refl; taken = refl; published = refl; failed = refl; seen = record { more = []; is = sym (append-nil v.seen) }; made = FoundHeld i ∷ []; steps = refl }; sections = refl }

lives_on : (v : Record) (is_alive : Bool) → GoesOnByCalls v (living v is_alive)
lives_on v is_alive = record { beside = record { opening = refl; keeper = refl; taken = refl; published = refl; failed = refl; seen = record { more = []; is = sym (append-nil v.seen) }; made = FoundAlive is_alive ∷ []; steps = refl }; sections = refl }

looks : (v : Record) (a : List Command) → GoesOnByCalls v (looking v a)
looks v a = record { beside = record { opening = refl; keeper = refl; taken = refl; published = refl; failed = refl; seen = record { more = a; is = refl }; made = Looked (v.opening.first + length (v.seen ++ a)) ∷ []; steps = refl }; sections = refl }

draws : (v : Record) (a : List Command) (c : Command) → GoesOnByCalls v (drawing v a c)
draws v a c = record {
  beside = record {
    opening = refl;
    keeper = refl;
    taken = refl;
    published = refl;
    failed = refl;
    seen = record { more = a ++ c ∷ []; is = append_assoc v.seen a (c ∷ []) };
    made = Drew (v.opening.first + length (v.seen ++ a)) ∷ [];
    steps = refl;
  };
  sections = refl;
}

gives : (v : Record) → GoesOnByCalls v (giving Nothing v)
gives v = record { beside = record { opening = refl; keeper = refl; taken = append-nil v.taken; published = refl; failed = refl; seen = record { more = []; is = sym (append-nil v.seen) }; made = Gave (stripe_held v.holding) ∷ []; steps = refl }; sections = append-nil v.sections }

answers : (v : Record) (r : Read) (a : List Command) → GoesOnByCalls v (answering r v a)
answers v r a = record { beside = record { opening = refl; keeper = refl; taken = refl; published = refl; failed = refl; seen = record { more = a; is = refl }; made = Gave (stripe_held v.holding) ∷ []; steps = refl }; sections = refl }

pub sees : (v : Record) (d : ℕ) (w : Record) → Sees v d w → GoesOnByCalls v w
sees v d w s = at_last v (seeing v d s.between) w (record { beside = record { opening = refl; keeper = refl; taken = refl; published = refl; failed = refl; seen = record { more = s.between; is = refl }; made = Saw d ∷ []; steps = refl }; sections = refl }) s.is

pub lives : (v : Record) (is_alive : Bool) (w : Record) → Lives v is_alive w → GoesOnByCalls v w
lives v is_alive w s = at_last v (living v is_alive) w (lives_on v is_alive) s.is

asked : (v : Record) (i : ℕ) (m : Map) (es : List Entry) (last : ℕ) (a : List Command) (is_alive : Bool) → GoesOnByCalls v (living (taking v i m es last a) is_alive)
asked v i m es last a is_alive = (let t : Record = taking v i m es last a in then v t (living t is_alive) (takes v i m es last a) (lives_on t is_alive))

looked_around : (v : Record) (i : ℕ) (m : Map) (es : List Entry) (last : ℕ) (a b : List Command) → GoesOnByCalls v (walked v i m es last a b)
looked_around v i m es last a b =
    let t : Record = taking v i m es last a in
    then v (living t true) (walked v i m es last a b) (asked v i m es last a true) (looks (living t true) b)

given_back : (v holder w : Record) → GoesOnByCalls v holder → w ≡ giving Nothing holder → GoesOnByCalls v w
given_back v holder w b is = at_last v (giving Nothing holder) w (then v holder (giving Nothing holder) b (gives holder)) is

finds_failure : (v : Record) (i : ℕ) (w : Record) → FindsFailure v i w → GoesOnByCalls v w
finds_failure v i w k = at_last v (living (taking v i k.part k.outbox k.last k.taken) false) w (asked v i k.part k.outbox k.last k.taken false) k.is

finds_no_failure : (v : Record) (i : ℕ) (w : Record) → FindsNoFailure v i w → GoesOnByCalls v w
finds_no_failure v i w k = at_last v (living (taking v i k.part k.outbox k.last k.taken) true) w (asked v i k.part k.outbox k.last k.taken true) k.is

looks_around : (v : Record) (i : ℕ) (w : Record) → LooksAround v i w → GoesOnByCalls v w
looks_around v i w k = at_last v (walked v i k.part k.outbox k.last k.taken k.looked) w (looked_around v i k.part k.outbox k.last k.taken k.looked) k.is

pub call_goes_on : (n : ℕ) (v : Record) (c : Command) (position : ℕ) (reply : Reply) (w : Record) → MakesCall n v c position reply w → GoesOnByCalls v w
call_goes_on n v c position reply w k =
    let t : Record = walked v _ k.part k.outbox k.last k.taken k.looked in
    given_back v (drawing t k.drawn c) w (then v t (drawing t k.drawn c) (looked_around v _ k.part k.outbox k.last k.taken k.looked) (draws t k.drawn c)) k.is

pub read_goes_on : (n : ℕ) (v : Record) (r : Read) (position : ℕ) (reply : Reply) (w : Record) → MakesRead n v r position reply w → GoesOnByCalls v w
read_goes_on n v r position reply w k =
    let t : Record = living (taking v _ k.part k.outbox k.last k.taken) true in
    at_last v (answering r t k.between) w (then v t (answering r t k.between) (asked v _ k.part k.outbox k.last k.taken true) (answers t r k.between)) k.is

pub refused_change_goes_on : (v : Record) (i : ℕ) (e : Refusal) (w : Record) → RefusesChange v i e w → GoesOnByCalls v w
refused_change_goes_on v i (refusal_type.Busy j) w r = at_last v (missing v i) w (misses v i) r.1
refused_change_goes_on v i refusal_type.Failed w r = given_back v r.holder w (finds_failure v i r.holder r.before) r.is
refused_change_goes_on v i refusal_type.TicketsSpent w r = given_back v r.0.holder w (looks_around v i r.0.holder r.0.before) r.0.is
refused_change_goes_on v i refusal_type.NoMemory w r = given_back v r.0.holder w (looks_around v i r.0.holder r.0.before) r.0.is
refused_change_goes_on v i refusal_type.NullValue w r = absurd r
refused_change_goes_on v i refusal_type.KeyTooLong w r = absurd r
refused_change_goes_on v i refusal_type.ValueTooLong w r = absurd r
refused_change_goes_on v i refusal_type.UnknownMethod w r = absurd r
refused_change_goes_on v i refusal_type.UnknownFunction w r = absurd r
refused_change_goes_on v i refusal_type.BadFrame w r = absurd r
refused_change_goes_on v i refusal_type.NotFormatted w r = absurd r
refused_change_goes_on v i (refusal_type.Damaged file offset) w r = absurd r
refused_change_goes_on v i refusal_type.WrongVersion w r = absurd r
refused_change_goes_on v i refusal_type.LogFull w r = absurd r
refused_change_goes_on v i refusal_type.AlreadyFormatted w r = absurd r
refused_change_goes_on v i refusal_type.WrongPhase w r = absurd r
refused_change_goes_on v i refusal_type.TooEarly w r = absurd r
refused_change_goes_on v i refusal_type.NotText w r = absurd r
refused_change_goes_on v i refusal_type.SeatsSpent w r = absurd r

-- a change whose key is too long leaves the record as it was
pub turned_down_goes_on : (n : ℕ) (v : Record) (c : Command) (e : Refusal) (w : Record) → TurnsDown n v c e w → GoesOnByCalls v w
turned_down_goes_on n v c e w (inl long) = at_last v v w (none_goes_on v) long.is
turned_down_goes_on n v c e w (inr refused) = refused_change_goes_on v (stripe_of n c.key) e w refused.1

pub refused_read_goes_on : (v : Record) (i : ℕ) (e : Refusal) (w : Record) → RefusesRead v i e w → GoesOnByCalls v w
refused_read_goes_on v i (refusal_type.Busy j) w r = at_last v (missing v i) w (misses v i) r.1
refused_read_goes_on v i refusal_type.Failed w r = given_back v r.holder w (finds_failure v i r.holder r.before) r.is
refused_read_goes_on v i refusal_type.NoMemory w r = given_back v r.holder w (finds_no_failure v i r.holder r.before) r.is
refused_read_goes_on v i refusal_type.TicketsSpent w r = absurd r
refused_read_goes_on v i refusal_type.NullValue w r = absurd r
refused_read_goes_on v i refusal_type.KeyTooLong w r = absurd r
refused_read_goes_on v i refusal_type.ValueTooLong w r = absurd r
refused_read_goes_on v i refusal_type.UnknownMethod w r = absurd r
refused_read_goes_on v i refusal_type.UnknownFunction w r = absurd r
refused_read_goes_on v i refusal_type.BadFrame w r = absurd r
refused_read_goes_on v i refusal_type.NotFormatted w r = absurd r
refused_read_goes_on v i (refusal_type.Damaged file offset) w r = absurd r
refused_read_goes_on v i refusal_type.WrongVersion w r = absurd r
refused_read_goes_on v i refusal_type.LogFull w r = absurd r
refused_read_goes_on v i refusal_type.AlreadyFormatted w r = absurd r
refused_read_goes_on v i refusal_type.WrongPhase w r = absurd r
refused_read_goes_on v i refusal_type.TooEarly w r = absurd r
refused_read_goes_on v i refusal_type.NotText w r = absurd r
refused_read_goes_on v i refusal_type.SeatsSpent w r = absurd r

-- an answer of either kind
either : (X : Type 0) (A : Held → Type 0) (B : Refusal → Type 0) (result : Result Held Refusal) → IfOk result A → IfErr result B → ((held : Held) → A held → X) → ((e : Refusal) → B e → X) → X
either X A B (Ok held) ok err f g = f held ok
either X A B (Err e) ok err f g = g e err

pub change_goes_on : (n : ℕ) (v : Record) (c : Command) (w : Record) (result : Result Held Refusal) → IfOk result (λ held. MakesCall n v c held.position held.reply w) → IfErr result (λ refusal. TurnsDown n v c refusal w) → GoesOnByCalls v w
change_goes_on n v c w result ok err = either (GoesOnByCalls v w) _ _ result ok err (λ held k. call_goes_on n v c held.position held.reply w k) (λ e r. turned_down_goes_on n v c e w r)

pub look_goes_on : (n : ℕ) (v : Record) (r : Read) (w : Record) (result : Result Held Refusal) → IfOk result (λ held. MakesRead n v r held.position held.reply w) → IfErr result (λ refusal. RefusesRead v (stripe_of n r.key) refusal w) → GoesOnByCalls v w
look_goes_on n v r w result ok err = either (GoesOnByCalls v w) _ _ result ok err (λ held k. read_goes_on n v r held.position held.reply w k) (λ e k. refused_read_goes_on v _ e w k)

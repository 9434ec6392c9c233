-- A call that was made, and whose position was found durable, is answered.
use Rattle.std.proofs.Common.{inl, inr, ℕ, ◌-◌, ◌≤◌, List, [], ◌∷◌, ◌++◌, append-nil, append_assoc, replicate, Result, Ok, Err, refl, sym, ap, subst, ◌∙◌, arith}
use Rattle.std.proofs.lemmas.Option.{slice_get_within}
use Rattle.map_types.specs.declared.commands.Command.{Command}
use Rattle.map_types.specs.declared.commands.Read.{Read}
use Rattle.map_types.specs.declared.commands.Reply.{Reply}
use Rattle.map_types.specs.declared.refusals.Refusal.{Refusal}
use Rattle.ticket_order.specs.declared.record.Asked.{Asked}
use Rattle.ticket_order.specs.declared.record.Call.{Call}
use Rattle.ticket_order.specs.declared.record.Asked.TheVariants.{Changing, Reading}
use Rattle.ticket_order.specs.declared.record.Opening.{Opening}
use Rattle.ticket_order.specs.declared.record.Record.{Record}
use Rattle.ticket_order.specs.declared.record.StepMade.{StepMade}
use Rattle.ticket_order.specs.declared.record.StepMade.TheVariants.{FoundHeld}
use Rattle.ticket_order.specs.Records.{call, reach}
use Rattle.ticket_order.specs.Legality.{IsLegal, history_from, history_of}
use Rattle.one_history.specs.OneHistory.{Follows}
use Rattle.one_history.proofs.Legal.{legal_longer}
use Rattle.flusher.specs.Fitting.{GoesOnByCalls, IsBeside}
use Rattle.flusher.proofs.OwnCalls.{call_goes_on, read_goes_on, then}
use Rattle.stripe_locks.specs.Holding.{position_of, reply_of}
use Rattle.stripe_locks.specs.declared.held.Held.{Held}
use Rattle.stripe_locks.specs.Waits.{MakesCallInTime, MakesReadInTime, Waits}
use Rattle.durable_map.specs.Durable.{Adds, AnswersCall, Awaits, Begins, Completes, CompletesAmong, EndsWith, Finishes, FollowEachOther, GoesOnWith, GrewBy, GrewByCall, IsMadeFirst}
use Rattle.durable_map.proofs.Growing.{ends_after, fails_after, grew_on}

pub waited : (i : ℕ) (v w : Record) → Waits i v w → GoesOnByCalls v w
waited i v w k =
    subst (GoesOnByCalls v) (sym k.is)
    (record { beside = record { opening = refl; keeper = refl; taken = refl; published = refl; failed = refl; seen = record { more = []; is = sym (append-nil v.seen) }; made = replicate k.misses (FoundHeld i); steps = refl }; sections = refl })

pub change_begun : (n : ℕ) (v : Record) (c : Command) (held : Held) (u : Record) → MakesCallInTime n v c (position_of held) (reply_of held) u → Begins n v (Changing c) (Ok held) u
change_begun n v c held u k = record {
  goes_on = then v k.waited u (waited _ v k.waited k.waits) (call_goes_on n k.waited c (position_of held) (reply_of held) u k.made);
  adds = record { grew = k.grew; made = k; later = k.later; legal = k.made.legal };
}

pub read_begun : (n : ℕ) (v : Record) (r : Read) (held : Held) (u : Record) → MakesReadInTime n v r (position_of held) (reply_of held) u → Begins n v (Reading r) (Ok held) u
read_begun n v r held u k = record {
  goes_on = then v k.waited u (waited _ v k.waited k.waits) (read_goes_on n k.waited r (position_of held) (reply_of held) u k.made);
  adds = record { grew = k.grew; made = k; later = k.later; legal = k.made.legal };
}

-- what is legal stays so while the pass sees more
pub legal_on : (u w : Record) (asked : Asked) (position : ℕ) (reply : Reply) → IsBeside u w → IsLegal (history_of u) position asked reply → IsLegal (history_of w) position asked reply
legal_on u w asked position reply k legal =
    subst (λ (o : Opening). IsLegal (history_from o w.seen) position asked reply) (sym k.opening)
    (subst (λ (xs : List Command). IsLegal (history_from u.opening xs) position asked reply) (sym k.seen.is) (legal_longer u.opening u.seen k.seen.more position asked reply legal))

-- ---- a call that is finished

-- how a call ends, seen from before the steps that led there
ends_on : (v u w : Record) (position : ℕ) (reply : Reply) (answer : Result Reply Refusal) (a : List StepMade) → GrewBy v a u → EndsWith u position reply answer w → EndsWith v position reply answer w
ends_on v u w position reply (Ok given) a grew ends = (ends.0, ends_after v u w position a grew ends.1)
ends_on v u w position reply (Err refusal) a grew ends = (ends.0, fails_after v u w position a grew ends.1)

-- what a whole call adds, by how it ended
added : (n : ℕ) (v : Record) (asked : Asked) (position : ℕ) (reply : Reply) (w : Record) (answer : Result Reply Refusal) → GrewByCall v position asked reply w → (made : IsMadeFirst n v asked position reply w) → Awaits made.at made.after w
    → Follows (reach v) asked position → IsLegal (history_of w) position asked reply → EndsWith v position reply answer w → Adds n v asked answer w
added n v asked position reply w (Ok given) grew made awaited later legal ends =
    subst (λ (r : Reply). AnswersCall n v asked r w) (sym ends.0) (record { position = position; grew = grew; made = made; awaited = awaited; later = later; legal = legal; durable = ends.1 })
added n v asked position reply w (Err refusal) grew made awaited later legal ends = inr (ends.0, record { position = position; reply = reply; grew = grew; made = made; awaited = awaited; failed = ends.1 })

-- a call that was begun was made first, whatever came after
abbrev made_first : (n : ℕ) (v u w : Record) (asked : Asked) (held : Held) (after : List StepMade) → Begins n v asked (Ok held) u → GrewBy u after w → IsMadeFirst n v asked (position_of held) (reply_of held) w
made_first n v u w asked held after begun steps = record { at = u; made = begun.adds.made; after = after; steps = steps }

-- a call that was begun, and then finished, is a whole call
pub completes : (n : ℕ) (v u w : Record) (asked : Asked) (held : Held) (answer : Result Reply Refusal) → Begins n v asked (Ok held) u → Finishes u held answer w → Completes n v asked answer w
completes n v u w asked held answer begun ended =
    let made = begun.goes_on.beside in
    let legal = legal_on u w asked (position_of held) (reply_of held) ended.beside.goes_on.beside begun.adds.legal in
    let ends = ends_on v u w (position_of held) (reply_of held) answer made.made made.steps ended.ends in
    let awaited = ended.beside.awaits in
    record {
      goes_on = then v u w begun.goes_on ended.beside.goes_on;
      adds = added n v asked (position_of held) (reply_of held) w answer (ended.beside.calls ∙ begun.adds.grew) (made_first n v u w asked held ended.beside.made begun awaited.steps) awaited begun.adds.later legal ends;
    }

-- a call that was refused when it was begun is a whole call that was refused
pub refused : (n : ℕ) (v w : Record) (asked : Asked) (refusal : Refusal) → Begins n v asked (Err refusal) w → Completes n v asked (Err refusal) w
refused n v w asked refusal begun = record { goes_on = begun.goes_on; adds = inl begun.adds }

-- a call that was begun, and then finished with others between
pub among : (n : ℕ) (v u x w : Record) (asked : Asked) (held : Held) (others : List Call) (answer : Result Reply Refusal) → Begins n v asked (Ok held) u → GoesOnWith u others x → Finishes x held answer w → CompletesAmong n v asked answer w
among n v u x w asked held others answer begun between ended =
    let made = begun.goes_on.beside in
    let since = ended.beside.goes_on.beside in
    let here = legal_on u x asked (position_of held) (reply_of held) between.beside begun.adds.legal in
    record {
      position = position_of held;
      reply = reply_of held;
      others = others;
      grew = ended.beside.calls ∙ (between.calls ∙ (ap (λ (calls : List Call). calls ++ others) begun.adds.grew ∙ append_assoc v.calls (call (position_of held) asked (reply_of held) ∷ []) others));
      made = made_first n v u w asked held (between.beside.made ++ since.made) begun (grew_on u x w between.beside.made since.made between.beside.steps since.steps);
      later = begun.adds.later;
      legal = legal_on x w asked (position_of held) (reply_of held) since here;
      ends = ends_on v x w (position_of held) (reply_of held) answer (made.made ++ between.beside.made) (grew_on v u x made.made between.beside.made made.steps between.beside.steps) ended.ends;
    }

-- ---- two calls, one after the other

-- a call that is legal is one of what was seen
pub reached : (u : Record) (asked : Asked) (position : ℕ) (reply : Reply) → IsLegal (history_of u) position asked reply → position ≤ reach u
reached u (Changing c) position reply legal = omega (arith, legal.position_is, legal.from_first, slice_get_within u.seen (legal.ticket - u.opening.first) c legal.command)
reached u (Reading r) position reply legal = legal.within

pub follows_more : (p q : ℕ) (asked : Asked) (position : ℕ) → p ≤ q → Follows q asked position → Follows p asked position
follows_more p q (Changing c) position low follows = omega (arith, low, follows)
follows_more p q (Reading r) position low follows = omega (arith, low, follows)

pub in_turn : (n : ℕ) (v u w : Record) (first second : Asked) (one other : Reply) → Completes n v first (Ok one) u → Completes n u second (Ok other) w → FollowEachOther v first one second other w
in_turn n v u w first second one other a b =
    let x = a.adds in
    let y = b.adds in
    record {
      position = x.position;
      next = y.position;
      grew = y.grew ∙ ap (λ (calls : List Call). calls ++ call y.position second other ∷ []) x.grew;
      first_legal = legal_on u w first x.position one b.goes_on.beside x.legal;
      second_legal = y.legal;
      order = follows_more x.position (reach u) second y.position (reached u first x.position one x.legal) y.later;
    }

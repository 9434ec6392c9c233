-- From the beginning of a call to its end.
use Rattle.std.proofs.Common.{◌≡◌, ℕ, List, [], ◌∷◌, ◌++◌, IfOk, Result, Ok, Err, inl, inr, refl, sym, ap, subst, ◌∙◌, arith}
use Rattle.std.proofs.lemmas.List.Elements.{Contains-append_left, Contains-append_right}
use Rattle.std.specs.List.{Contains}
use Rattle.map_types.specs.declared.commands.Command.{Command}
use Rattle.map_types.specs.declared.commands.Reply.{Reply}
use Rattle.map_types.specs.declared.refusals.Refusal.{Refusal}
use Rattle.map_types.specs.declared.refusals.Refusal.TheVariants.{Busy, NoMemory, TicketsSpent, Failed}
use Rattle.ticket_order.specs.declared.held.Held.{Held}
use Rattle.ticket_order.specs.declared.stripe.Entry.{Entry}
use Rattle.ticket_order.specs.declared.record.Asked.{Asked}
use Rattle.ticket_order.specs.declared.record.Asked.TheVariants.{Changing, Reading}
use Rattle.ticket_order.specs.declared.record.Call.{Call}
use Rattle.ticket_order.specs.declared.record.Opening.{Opening}
use Rattle.ticket_order.specs.declared.record.Record.{Record}
use Rattle.ticket_order.specs.Records.{call}
use Rattle.ticket_order.specs.Calls.{RefusesChange, RefusesRead}
use Rattle.ticket_order.specs.Legality.{entries_from}
use Rattle.gate_log.specs.States.{LogState}
use Rattle.flusher.specs.Fitting.{GoesOnByCalls, IsBeside}
use Rattle.wire_frames.specs.declared.requests.Request.{Request}
use Rattle.wire_frames.specs.declared.requests.Request.TheVariants.{Change, Read as AskRead, Bulk as AskBulk}
use Rattle.connections.specs.Dialogue.{Answer}
use Rattle.cmd_mem.specs.Served.{AreTaken, Begins, BegunIsServed, Ends, GoesOn, IsCallOf, IsGivenOut, IsWithheld, PassGoesOn, StillMade}
use Rattle.ticket_order.proofs.Entries.{grown}
use Rattle.flusher.proofs.OwnCalls.{none_goes_on, call_goes_on, read_goes_on, refused_change_goes_on, refused_read_goes_on, sees}
use Rattle.flusher.proofs.Seeing.{sees_none, sees_then}
use Rattle.cmd_mem.proofs.OwnEntry.{own_taken}

pub goes_then : (v between w : Record) → GoesOn v between → GoesOn between w → GoesOn v w
goes_then v between w p q = record { opening = q.opening ∙ p.opening; seen = sees_then v between w p.seen q.seen }

goes_same : (v : Record) → GoesOn v v
goes_same v = record { opening = refl; seen = sees_none v }

beside_goes : (v w : Record) → IsBeside v w → GoesOn v w
beside_goes v w b = record { opening = b.opening; seen = b.seen }

begun_goes : (n : ℕ) (v : Record) (request : Request) (result : Result Held Refusal) (w : Record) → Begins n v request result w → GoesOn v w
begun_goes n v (Change command) (Ok held) w b = beside_goes v w (call_goes_on n v command held.position held.reply w b).beside
begun_goes n v (AskRead read) (Ok held) w b = beside_goes v w (read_goes_on n v read held.position held.reply w b).beside
begun_goes n v (AskBulk bulk) (Ok held) w b = absurd b
begun_goes n v (Change command) (Err refusal) w (inl long) = beside_goes v w (subst (GoesOnByCalls v) (sym long.is) (none_goes_on v)).beside
begun_goes n v (Change command) (Err refusal) w (inr b) = beside_goes v w (refused_change_goes_on v _ refusal w b.1).beside
begun_goes n v (AskRead read) (Err refusal) w b = beside_goes v w (refused_read_goes_on v _ refusal w b).beside
begun_goes n v (AskBulk bulk) (Err refusal) w b = subst (λ (r : Record). GoesOn v r) (sym b.1) (goes_same v)

given_out_goes : (position : ℕ) (v w : Record) (log : LogState) → IsGivenOut position v w log → GoesOn v w
given_out_goes position v w log out =
    let swept = out.commits.swept in
    let seen = (sees out.between out.reaches.durable w out.reaches.sees).beside in
    let published : GoesOn v out.between = subst (λ (r : Record). GoesOn v r) (sym out.commits.is) (record { opening = swept.quiet.opening; seen = record { more = swept.seen.more; is = swept.seen.is } }) in
    goes_then v out.between w published (beside_goes out.between w seen)

withheld_goes : (v w : Record) (log : LogState) → IsWithheld v w log → GoesOn v w
withheld_goes v w log out =
    let swept = out.swept in
    subst (λ (r : Record). GoesOn v r) (sym out.fails) (record { opening = swept.quiet.opening; seen = record { more = swept.seen.more; is = swept.seen.is } })

ended_goes : (v : Record) (held : Held) (answer : Answer) (w : Record) (log : LogState) → Ends v held answer w log → GoesOn v w
ended_goes v held (Ok reply) w log e = given_out_goes held.position v w log e.1
ended_goes v held (Err refusal) w log e = withheld_goes v w log e.1

pub pass_goes : PassGoesOn
pass_goes = record { begun = begun_goes; ended = ended_goes; same = goes_same; then = goes_then }

-- what the sweeps took by the end is what they took of the history at the beginning
taken_still : (position : ℕ) (made before w : Record) (log : LogState) → GoesOn made before → IsGivenOut position before w log → AreTaken position made w
taken_still position made before w log on out = λ e has low.
    subst (λ (es : List Entry). Contains es e) (sym (ap (λ (r : Record). r.taken) out.reaches.sees.is))
    (out.taken e
    (subst (λ (o : Opening). Contains (entries_from o.first before.seen) e) (sym on.opening)
    (subst (λ (xs : List Command). Contains (entries_from made.opening.first xs) e) (sym on.seen.is) (grown made.opening.first made.seen on.seen.more e has)))
    low)

pub begun_served : BegunIsServed
begun_served n v request held made before reply w log makes on e = record {
  position = held.position;
  made = made;
  makes = subst (λ (x : Reply). Begins n v request (Ok (record held { reply = x })) made) (sym e.0) makes;
  before = before;
  goes_on = on;
  given_out = e.1;
  own = own_taken n v request held.position held.reply made w makes (taken_still held.position made before w log on e.1);
}

-- ---- the calls

grows : (v w : Record) (more : List Call) → w.calls ≡ v.calls ++ more → StillMade v w
grows v w more is held k =
    (k.0, subst (λ (cs : List Call). Contains cs (call held.position k.0 held.reply)) (sym is) (Contains-append_left v.calls more _ k.1))

stays : (v w : Record) → w.calls ≡ v.calls → StillMade v w
stays v w is held k = (k.0, subst (λ (cs : List Call). Contains cs (call held.position k.0 held.reply)) (sym is) k.1)

refused_stays : (v : Record) (i : ℕ) (refusal : Refusal) (w : Record) → RefusesChange v i refusal w → w.calls ≡ v.calls
refused_stays v i (Busy j) w r = ap (λ (x : Record). x.calls) r.1
refused_stays v i Failed w r = r.same_calls
refused_stays v i TicketsSpent w r = r.0.same_calls
refused_stays v i NoMemory w r = r.0.same_calls
refused_stays v i other w r = absurd r

read_stays : (v : Record) (i : ℕ) (refusal : Refusal) (w : Record) → RefusesRead v i refusal w → w.calls ≡ v.calls
read_stays v i (Busy j) w r = ap (λ (x : Record). x.calls) r.1
read_stays v i Failed w r = r.same_calls
read_stays v i NoMemory w r = r.same_calls
read_stays v i other w r = absurd r

pub begun_still : (n : ℕ) (v : Record) (request : Request) (result : Result Held Refusal) (w : Record) → Begins n v request result w → StillMade v w
begun_still n v (Change command) (Ok held) w b = grows v w _ b.grew
begun_still n v (AskRead read) (Ok held) w b = grows v w _ b.grew
begun_still n v (AskBulk bulk) (Ok held) w b = absurd b
begun_still n v (Change command) (Err refusal) w (inl long) = stays v w (ap (λ (x : Record). x.calls) long.is)
begun_still n v (Change command) (Err refusal) w (inr b) = stays v w (refused_stays v _ refusal w b.1)
begun_still n v (AskRead read) (Err refusal) w b = stays v w (read_stays v _ refusal w b)
begun_still n v (AskBulk bulk) (Err refusal) w b = stays v w (ap (λ (x : Record). x.calls) b.1)

last_made : (v w : Record) (asked : Asked) (held : Held) → w.calls ≡ v.calls ++ call held.position asked held.reply ∷ [] → IsCallOf w held
last_made v w asked held is =
    let made : Call = call held.position asked held.reply in
    (asked, subst (λ (cs : List Call). Contains cs made) (sym is) (Contains-append_right v.calls (made ∷ []) made (0, omega arith, refl)))

pub begun_made : (n : ℕ) (v : Record) (request : Request) (result : Result Held Refusal) (w : Record) → Begins n v request result w → IfOk result (IsCallOf w)
begun_made n v (Change command) (Ok held) w b = last_made v w (Changing command) held b.grew
begun_made n v (AskRead read) (Ok held) w b = last_made v w (Reading read) held b.grew
begun_made n v (AskBulk bulk) (Ok held) w b = absurd b
begun_made n v request (Err refusal) w b = tt

pub ended_still : (v : Record) (held : Held) (answer : Answer) (w : Record) (log : LogState) → Ends v held answer w log → StillMade v w
ended_still v held (Ok reply) w log e =
    let out = e.1 in
    stays v w (ap (λ (x : Record). x.calls) out.reaches.sees.is ∙ ap (λ (x : Record). x.calls) out.commits.is ∙ out.commits.swept.quiet.calls)
ended_still v held (Err refusal) w log e =
    stays v w (ap (λ (x : Record). x.calls) e.1.fails ∙ e.1.swept.quiet.calls)

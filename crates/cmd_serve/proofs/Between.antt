-- What the calls of a worker leave of the record of its pass.
use Rattle.std.proofs.Common.{◌≡◌, inl, inr, ℕ, List, [], ◌∷◌, ◌++◌, append-nil, append_assoc, Option, Result, Ok, Err, refl, sym, ap, subst, ◌∙◌}
use Rattle.map_types.specs.declared.refusals.Refusal.{Refusal}
use Rattle.ticket_order.specs.declared.record.Asked.{Asked}
use Rattle.ticket_order.specs.declared.record.Asked.TheVariants.{Changing, Reading}
use Rattle.ticket_order.specs.declared.record.Call.{Call}
use Rattle.ticket_order.specs.declared.record.Record.{Record}
use Rattle.ticket_order.specs.Records.{call}
use Rattle.stripe_locks.specs.Holding.{position_of, reply_of}
use Rattle.stripe_locks.specs.declared.held.Held.{Held}
use Rattle.durable_map.specs.Durable.{Begins, CompletesAmong, Finishes, GoesOnWith}
use Rattle.wire_frames.specs.declared.requests.Bulk.{Bulk}
use Rattle.wire_frames.specs.declared.requests.Request.{Request}
use Rattle.wire_frames.specs.declared.requests.Request.TheVariants as request
use Rattle.connections.specs.Dialogue.{Answer}
use Rattle.cmd_serve.specs.declared.begun.Begun.{Begun}
use Rattle.cmd_serve.specs.declared.begun.Begun.TheVariants as begun
use Rattle.cmd_serve.specs.WholeMap.{CompletesBulk}
use Rattle.cmd_serve.specs.Serving.{AsksFor, Began, BegunRequestsComplete, Calls, CallsThrough, Finished, WorkerState}

-- ---- the pass goes on

record GoesOn (v w : Record) : Type 0 where
  others : List Call
  goes_on : GoesOnWith v others w

then : (a b d : Record) → GoesOn a b → GoesOn b d → GoesOn a d
then a b d k j =
    let x = k.goes_on.beside in
    let y = j.goes_on.beside in
    record {
      others = k.others ++ j.others;
      goes_on = record {
        beside = record {
          opening = y.opening ∙ x.opening;
          keeper = y.keeper ∙ x.keeper;
          taken = y.taken ∙ x.taken;
          published = y.published ∙ x.published;
          failed = y.failed ∙ x.failed;
          seen = record { more = x.seen.more ++ y.seen.more; is = y.seen.is ∙ (ap (λ l. l ++ y.seen.more) x.seen.is ∙ append_assoc a.seen x.seen.more y.seen.more) };
          made = x.made ++ y.made;
          steps = y.steps ∙ (ap (λ l. l ++ y.made) x.steps ∙ append_assoc a.steps x.made y.made);
        };
        calls = j.goes_on.calls ∙ (ap (λ l. l ++ j.others) k.goes_on.calls ∙ append_assoc a.calls k.others j.others);
      };
    }

-- a list that grew by nothing
as_it_was : {A : Type 0} (l m : List A) → m ≡ l → m ≡ l ++ []
as_it_was l m is = is ∙ sym (append-nil l)

same : (v : Record) → GoesOn v v
same v = record {
  others = [];
  goes_on = record {
    beside = record { opening = refl; keeper = refl; taken = refl; published = refl; failed = refl; seen = record { more = []; is = as_it_was v.seen v.seen refl }; made = []; steps = as_it_was v.steps v.steps refl };
    calls = as_it_was v.calls v.calls refl;
  };
}

nothing : (v w : Record) → w ≡ v → GoesOn v w
nothing v w is = subst (λ (x : Record). GoesOn v x) (sym is) (same v)

-- ---- one move

begins : (n : ℕ) (v w : Record) (asked : Asked) (result : Result Held Refusal) → Begins n v asked result w → GoesOn v w
begins n v w asked (Ok held) k = record { others = call (position_of held) asked (reply_of held) ∷ []; goes_on = record { beside = k.goes_on.beside; calls = k.adds.grew } }
begins n v w asked (Err refusal) k = record { others = []; goes_on = record { beside = k.goes_on.beside; calls = as_it_was v.calls w.calls k.adds.calls } }

began : (a b : WorkerState) (r : Request) (result : Result Begun Refusal) → Began a r result b → GoesOn a.pass b.pass
began a b (request.Change command) (Ok (begun.Call number held)) k = begins a.stripes a.pass b.pass (Changing command) (Ok held) k.begins
began a b (request.Change command) (Ok (begun.View number bulk)) k = absurd k.begins
began a b (request.Change command) (Err refusal) k = begins a.stripes a.pass b.pass (Changing command) (Err refusal) k.begins
began a b (request.Read read) (Ok (begun.Call number held)) k = begins a.stripes a.pass b.pass (Reading read) (Ok held) k.begins
began a b (request.Read read) (Ok (begun.View number bulk)) k = absurd k.begins
began a b (request.Read read) (Err refusal) k = begins a.stripes a.pass b.pass (Reading read) (Err refusal) k.begins
began a b (request.Bulk bulk) (Ok (begun.Call number held)) k = absurd k.begins
began a b (request.Bulk bulk) (Ok (begun.View number kept)) k = nothing a.pass b.pass k.begins.1
began a b (request.Bulk bulk) (Err refusal) k = absurd k.begins

whole : (n : ℕ) (v w : Record) (bulk : Bulk) (answer : Answer) → CompletesBulk n v bulk answer w → GoesOn v w
whole n v w bulk answer (inl k) = record { others = []; goes_on = record { beside = k.completes.beside; calls = as_it_was v.calls w.calls k.completes.calls } }
whole n v w bulk answer (inr k) = nothing v w k.same

finished : (a b : WorkerState) (held : Begun) (answer : Answer) → Finished a held answer b → GoesOn a.pass b.pass
finished a b (begun.Call number held) answer k = record { others = []; goes_on = record { beside = k.finishes.beside.goes_on.beside; calls = as_it_was a.pass.calls b.pass.calls k.finishes.beside.calls } }
finished a b (begun.View number bulk) answer k = whole a.stripes a.pass b.pass bulk answer k.finishes

unchanged : (a b : WorkerState) → b ≡ a → GoesOn a.pass b.pass
unchanged a b is = nothing a.pass b.pass (ap (λ (s : WorkerState). s.pass) is)

called : (a b : WorkerState) → Calls a b → GoesOn a.pass b.pass
called a b (inl k) = began a b k.0 k.1 k.2
called a b (inr (inl k)) = finished a b k.0 k.1 k.2
called a b (inr (inr k)) = unchanged a b k.1

-- ---- any calls

through : (a b : WorkerState) (states : List WorkerState) → CallsThrough a states b → GoesOn a.pass b.pass
through a b [] k = unchanged a b k
through a b (next ∷ states) k = then a.pass next.pass b.pass (called a next k.0) (through next b states k.1)

call_begun : (a b : WorkerState) (r : Request) (asked : Asked) (number : Option ℕ) (held : Held) → AsksFor r asked → Began a r (Ok (begun.Call number held)) b → Begins a.stripes a.pass asked (Ok held) b.pass
call_begun a b (request.Change command) asked number held asks k = subst (λ (x : Asked). Begins a.stripes a.pass x (Ok held) b.pass) (sym asks) k.begins
call_begun a b (request.Read read) asked number held asks k = subst (λ (x : Asked). Begins a.stripes a.pass x (Ok held) b.pass) (sym asks) k.begins
call_begun a b (request.Bulk bulk) asked number held asks k = absurd asks

abbrev pub Law : Type 0
Law = (n : ℕ) (v u x w : Record) (asked : Asked) (held : Held) (others : List Call) (answer : Answer) → Begins n v asked (Ok held) u → GoesOnWith u others x → Finishes x held answer w → CompletesAmong n v asked answer w

pub complete : Law → BegunRequestsComplete
complete law = λ r asked number held states answer a b c d asks start between end.
    let on = through b c states between in
    law a.stripes a.pass b.pass c.pass d.pass asked held on.others answer (call_begun a b r asked number held asks start) on.goes_on end.finishes

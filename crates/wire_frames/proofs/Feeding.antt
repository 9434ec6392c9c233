-- What a feeder takes from the front.
use Rattle.std.proofs.Common.{◌≡◌, ℕ, ◌+◌, Bool, false, List, ◌++◌, length, drop, Ok, Err, sym, ap, ◌∙◌, arith, inl, inr}
use Rattle.std.proofs.lemmas.List.{drop_at, drop-drop}
use Rattle.map_types.specs.declared.refusals.Refusal.{Refusal}
use Rattle.log_records.specs.Reading.{Gives}
use Rattle.wire_frames.specs.declared.requests.Request.{Request}
use Rattle.wire_frames.specs.Requests.{request_of}
use Rattle.wire_frames.specs.Messages.{frame, Message, IsBody, Says}
use Rattle.wire_frames.specs.Held.{Feed}
use Rattle.wire_frames.specs.Feed.{Takes}

says : (body : List ℕ) (message : Message) → Gives (λ (request : Request). request) message (request_of body) → Says body message
says body (Ok request) g = inr (sym g)
says body (Err refusal) (inl e) = inl (ap (λ (x : Refusal). Err x) e)
says body (Err refusal) (inr e) = inr (sym e)

-- the view of a feeder's fields
abbrev feed_at : List ℕ → ℕ → Bool → Feed
feed_at held start ended = record { left = drop start held; ended = ended }

pub takes_whole : (held : List ℕ) (start : ℕ) (ended : Bool) (bytes body rest : List ℕ) (message : Message) → ended ≡ false → bytes ≡ drop start held → IsBody body → bytes ≡ frame body ++ rest → Gives (λ (request : Request). request) message (request_of body)
    → Takes (feed_at held start ended) (feed_at held (start + (2 + length body)) ended) message
takes_whole held start ended bytes body rest message on same is e g =
    let whole : drop start held ≡ frame body ++ rest = sym same ∙ e in
    let len : length (frame body) ≡ 2 + length body = omega arith in
    let after : drop (2 + length body) (drop start held) ≡ rest = ap (λ (x : List ℕ). drop (2 + length body) x) whole ∙ drop_at (frame body) rest (2 + length body) len in
    let left : drop (start + (2 + length body)) held ≡ rest = sym (drop-drop (2 + length body) start held) ∙ after in
    (on, inr (body, is, (whole ∙ ap (λ (x : List ℕ). frame body ++ x) (sym left)), on, says body message g))

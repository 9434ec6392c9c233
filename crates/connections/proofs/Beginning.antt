-- A row whose messages take their places.
use Rattle.std.proofs.Common.{◌≡◌, ◌≢◌, ◌⊎◌, ◌<◌, ◌≤◌, ◌+◌, suc, ℕ, Bool, true, false, List, [], ◌∷◌, ◌++◌, length, Result, Err, refl, sym, ap, subst, ◌∙◌, append_assoc, arith, inl, inr}
use Rattle.std.specs.List.{AllByRecursion}
use Rattle.std.specs.Int.{w16, to_be_bytes}
use Rattle.std.proofs.lemmas.List.{append-nil, map-append, length-append}
use Rattle.map_types.specs.declared.refusals.Refusal.{Refusal}
use Rattle.map_types.specs.declared.refusals.Refusal.TheVariants.{BadFrame}
use Rattle.wire_frames.specs.declared.requests.Request.{Request}
use Rattle.wire_frames.specs.Messages.{Message, AsksWholeMap, Begins, FirstMessages, IsPartial, frame}
use Rattle.wire_frames.specs.Feed.{BeginsBulk, Takes}
use Rattle.wire_frames.specs.Held.{Feed}
use Rattle.connections.specs.declared.row.Place.{Place}
use Rattle.connections.specs.Dialogue.{Answer}
use Rattle.connections.specs.Moves.{Move, Starts, IsRow, Stops, Makes, Leads}
use Rattle.connections.specs.Progress.{BeginsNext, BeginsRow, Gives, work, begin_moves, messages_in, places_in}
use Rattle.connections.proofs.Streams.{begins_none, begins_one, begins_then, first_then}
use Rattle.connections.proofs.MoveLists.{leads_then}

-- no message is refused with `BadFrame`
abbrev pub NoneBad : List Message → Type 0
NoneBad messages = AllByRecursion (λ m. m ≢ Err BadFrame) messages

-- no message asks something of the whole map
abbrev pub NoneWhole : List Message → Type 0
NoneWhole messages = AllByRecursion (λ m. AsksWholeMap m → ⊥) messages

none_whole_more : (messages : List Message) (message : Message) → NoneWhole messages → (AsksWholeMap message → ⊥) → NoneWhole (messages ++ message ∷ [])
none_whole_more [] message all one = (one, tt)
none_whole_more (m ∷ messages) message all one = (all.0, none_whole_more messages message all.1 one)

none_bad_more : (messages : List Message) (message : Message) → NoneBad messages → message ≢ Err BadFrame → NoneBad (messages ++ message ∷ [])
none_bad_more [] message all one = (one, tt)
none_bad_more (m ∷ messages) message all one = (all.0, none_bad_more messages message all.1 one)

-- a message that is no bad frame is taken from an open feeder, which stays open
open_takes : (old new : Feed) (message : Message) → Takes old new message → message ≢ Err BadFrame → (new.ended ≡ false) × Begins old.left (message ∷ []) new.left
open_takes old new message (on, inl t) good = absurd (good t.1)
open_takes old new message (on, inr t) good = (t.3, begins_one old.left new.left t.0 message t.1 t.2 t.4)

takes_first : (old new : Feed) (message : Message) → Takes old new message → FirstMessages old.left (message ∷ [])
takes_first old new message (on, inl t) = inr ([], old.left, begins_none old.left, t.0, ap (λ (x : Message). x ∷ []) t.1)
takes_first old new message (on, inr t) = inl (new.left, begins_one old.left new.left t.0 message t.1 t.2 t.4)

frame_size : (body : List ℕ) → length (frame body) ≡ 2 + length body
frame_size body = length-append (to_be_bytes w16 (length body)) body

-- each message takes some of what a feeder may still give
takes_fewer : (old new : Feed) (message : Message) → Takes old new message → work new < work old
takes_fewer old new message (on, inl t) = rw (on, t.2) (omega arith)
takes_fewer old new message (on, inr t) =
    let size = ap (λ (x : List ℕ). length x) t.2 in
    let all = length-append (frame t.0) new.left in
    let one = frame_size t.0 in
    rw (on, t.3) (omega arith)

-- a feeder that gave a message was open before, and less is left in it
still_fewer : {X : Type 0} (old mid new : Feed) (message : Message) → (X × (mid ≡ old)) ⊎ ((old.ended ≡ false) × (mid.ended ≡ false) × (work mid < work old)) → Takes mid new message → (old.ended ≡ false) × (work new < work old)
still_fewer old mid new message (inl q) t =
    let fewer = takes_fewer mid new message t in (subst (λ (feed : Feed). feed.ended ≡ false) q.1 t.0, subst (λ (feed : Feed). work new < work feed) q.1 fewer)
still_fewer old mid new message (inr q) t = let fewer = takes_fewer mid new message t in (q.0, omega (arith, q.2))

-- whether another message may follow, as the frame says
pub ends_so : (message : Message) (is_bulk : Bool) (feed : Feed) → (is_bulk ≡ true → BeginsBulk feed) → (message ≡ Err BadFrame) ⊎ ((message ≢ Err BadFrame) × (is_bulk ≡ true)) → (message ≡ Err BadFrame) ⊎ ((message ≢ Err BadFrame) × BeginsBulk feed)
ends_so message is_bulk feed says (inl bad) = inl bad
ends_so message is_bulk feed says (inr bulk) = inr (bulk.0, says bulk.1)

pub goes_so : (message : Message) (is_bulk : Bool) → (AsksWholeMap message → is_bulk ≡ true) → (message ≢ Err BadFrame) × (is_bulk ≡ false) → (message ≢ Err BadFrame) × (AsksWholeMap message → ⊥)
goes_so message is_bulk says on = (on.0, λ asks. let no : true ≡ false = sym (says asks) ∙ on.1 in cc)

module _ {H : Type 0} where
  stops_more : (begun : List (Message × Place H)) (message : Message) (place : Place H) → NoneBad (messages_in begun) → Stops (begin_moves (begun ++ (message, place) ∷ []))
  stops_more [] message place all = (λ h. refl, tt)
  stops_more (one ∷ begun) message place all = (λ h. absurd (all.0 h), stops_more begun message place all.1)

  stops_good : (begun : List (Message × Place H)) → NoneBad (messages_in begun) → Stops (begin_moves begun)
  stops_good [] all = tt
  stops_good (one ∷ begun) all = (λ h. absurd (all.0 h), stops_good begun all.1)

  length-places : (begun : List (Message × Place H)) → length (places_in begun) ≡ length begun
  length-places [] = refl
  length-places (one ∷ begun) = ap suc (length-places begun)

  -- messages that ask nothing of the whole map take their places, and then another does; one of the whole map is alone
  begins_row : (before : List (Place H)) (begun : List (Message × Place H)) → length before + length begun ≤ 64 → NoneWhole (messages_in begun) → IsRow before (begin_moves begun) (before ++ places_in begun)
  begins_row before [] few none = append-nil before
  begins_row before (one ∷ begun) few none =
      let more = length-append before (one.1 ∷ []) in
      let rest = begins_row (before ++ one.1 ∷ []) begun (omega arith) none.1 in
      (omega arith, λ asks. absurd (none.0 asks), subst (λ (x : List (Place H)). IsRow (before ++ one.1 ∷ []) (begin_moves begun) x) (append_assoc before (one.1 ∷ []) (places_in begun)) rest)

  begins_row_more : (before : List (Place H)) (begun : List (Message × Place H)) (last : Message × Place H) → length before + length begun < 64 → NoneWhole (messages_in begun) → (AsksWholeMap last.0 → before ++ places_in begun ≡ []) → IsRow before (begin_moves (begun ++ last ∷ [])) (before ++ places_in (begun ++ last ∷ []))
  begins_row_more before [] last few none alone = (omega arith, λ asks. (sym (append-nil before) ∙ alone asks, tt), refl)
  begins_row_more before (one ∷ begun) last few none alone =
      let more = length-append before (one.1 ∷ []) in
      let rest = begins_row_more (before ++ one.1 ∷ []) begun last (omega arith) none.1 (λ asks. append_assoc before (one.1 ∷ []) (places_in begun) ∙ alone asks) in
      (omega arith, λ asks. absurd (none.0 asks), subst (λ (x : List (Place H)). IsRow (before ++ one.1 ∷ []) (begin_moves (begun ++ last ∷ [])) x) (append_assoc before (one.1 ∷ []) (places_in (begun ++ last ∷ []))) rest)

module _ {S H : Type 0} (began : S → Request → Result H Refusal → S → Type 0) (finished : S → H → Answer → S → Type 0) (gave_up : S → H → S → Type 0) where
  -- these messages took their places, and more may
  pub record Beginning (s0 s1 : S) (old new : Feed) (row : List (Place H)) (begun : List (Message × Place H)) : Type 0 where
    pub places : row ≡ places_in begun
    pub few : length row ≤ 64
    pub leads : Leads began finished gave_up s0 (begin_moves begun) s1
    pub good : NoneBad (messages_in begun)
    pub single : NoneWhole (messages_in begun)
    pub taken : Begins old.left (messages_in begun) new.left
    pub opened : ((begun ≡ []) × (new ≡ old)) ⊎ ((old.ended ≡ false) × (new.ended ≡ false) × (work new < work old))

  pub beginning_none : (s : S) (feed : Feed) (row : List (Place H)) → row ≡ [] → Beginning s s feed feed row []
  beginning_none s feed row e = record { places = e; few = rw e (omega arith); leads = refl; good = tt; single = tt; taken = begins_none feed.left; opened = inl (refl, refl) }

  in_row_of : (s0 s1 : S) (old new : Feed) (row : List (Place H)) (begun : List (Message × Place H)) → Beginning s0 s1 old new row begun → IsRow [] (begin_moves begun) row
  in_row_of s0 s1 old new row begun p =
      let few = p.few in
      let count = length-places begun in
      let size = ap (λ (x : List (Place H)). length x) p.places in
      subst (λ (x : List (Place H)). IsRow [] (begin_moves begun) x) (sym p.places) (begins_row [] begun (omega arith) p.single)

  -- no more is begun beside these
  pub begins_some : (s0 s1 : S) (old new : Feed) (row : List (Place H)) (begun : List (Message × Place H)) → 1 ≤ length row → Beginning s0 s1 old new row begun → BeginsRow began finished gave_up s0 s1 old new row
  begins_some s0 s1 old new row begun some p =
      (begun, p.places, in_row_of s0 s1 old new row begun p, p.leads, stops_good begun p.good, gives p.opened)
    where
      gives : ((begun ≡ []) × (new ≡ old)) ⊎ ((old.ended ≡ false) × (new.ended ≡ false) × (work new < work old)) → Gives old new (messages_in begun)
      gives (inl q) =
          let none = ap (λ (x : List (Place H)). length x) p.places in
          let count = ap (λ (x : List (Message × Place H)). length (places_in x)) q.0 in
          absurd (omega arith)
      gives (inr q) = inr (q.0, q.2, inl (q.1, p.taken))

  module _ (s0 s1 s2 : S) (old mid new : Feed) (row after : List (Place H)) (begun : List (Message × Place H)) (p : Beginning s0 s1 old mid row begun) where
    begun_more : (message : Message) (place : Place H) → Makes began finished gave_up s1 (Starts message place) s2 → after ≡ row ++ place ∷ [] → Leads began finished gave_up s0 (begin_moves (begun ++ (message, place) ∷ [])) s2 × (after ≡ places_in (begun ++ (message, place) ∷ []))
    begun_more message place m e =
        let one : List (Message × Place H) = (message, place) ∷ [] in
        let moves : begin_moves (begun ++ one) ≡ begin_moves begun ++ Starts message place ∷ [] = map-append _ begun one in
        let places : places_in (begun ++ one) ≡ places_in begun ++ place ∷ [] = map-append _ begun one in
        (subst (λ (x : List (Move H)). Leads began finished gave_up s0 x s2) (sym moves) (leads_then began finished gave_up s0 s1 s2 (begin_moves begun) (Starts message place ∷ []) p.leads (s2, m, refl)), e ∙ ap (λ (x : List (Place H)). x ++ place ∷ []) p.places ∙ sym places)

    -- the next message took its place
    pub begins_more : length row < 64 → (is_last : Bool) → is_last ≡ false → BeginsNext began finished gave_up s1 s2 mid new row after is_last → (all : List (Message × Place H)) × Beginning s0 s2 old new after all
    begins_more room is_last e (inl q) = let no : true ≡ false = sym q.0 ∙ e in cc
    begins_more room is_last e (inr q) =
        let message = q.0 in
        let place = q.1 in
        let good = (q.7 e).0 in
        let takes = open_takes mid new message q.2 good in
        let fewer = still_fewer old mid new message p.opened q.2 in
        let both = begun_more message place q.3 q.4 in
        let one : List (Message × Place H) = (message, place) ∷ [] in
        let messages : messages_in (begun ++ one) ≡ messages_in begun ++ message ∷ [] = map-append _ begun one in
        let count = length-append row (place ∷ []) in
        let size = ap (λ (x : List (Place H)). length x) q.4 in (
          begun ++ one,
          record {
            places = both.1;
            few = omega arith;
            leads = both.0;
            good = subst (λ (x : List Message). NoneBad x) (sym messages) (none_bad_more (messages_in begun) message p.good good);
            single = subst (λ (x : List Message). NoneWhole x) (sym messages) (none_whole_more (messages_in begun) message p.single (q.7 e).1);
            taken = subst (λ (x : List Message). Begins old.left x new.left) (sym messages) (begins_then old.left mid.left new.left (messages_in begun) (message ∷ []) p.taken takes.1);
            opened = inr (fewer.0, takes.0, fewer.1);
          },
        )

    -- no more is to take its place
    pub begins_last : length row < 64 → (is_last : Bool) → is_last ≡ true → BeginsNext began finished gave_up s1 s2 mid new row after is_last → BeginsRow began finished gave_up s0 s2 old new after
    begins_last room is_last e (inl q) =
        (begun, q.3 ∙ p.places, rw q.3 (in_row_of s0 s1 old mid row begun p), rw q.4 p.leads, stops_good begun p.good, rw q.1 (gives p.opened q.2))
      where
        gives : ((begun ≡ []) × (mid ≡ old)) ⊎ ((old.ended ≡ false) × (mid.ended ≡ false) × (work mid < work old)) → ((mid.ended ≡ true) ⊎ IsPartial mid.left) ⊎ ((row ≢ []) × BeginsBulk mid) → Gives old mid (messages_in begun)
        gives (inr o) more = inr (o.0, o.2, inl (o.1, p.taken))
        gives (inl o) (inl more) =
            inl (ap (λ (x : List (Message × Place H)). messages_in x) o.0, o.1, subst (λ (feed : Feed). (feed.ended ≡ true) ⊎ IsPartial feed.left) o.1 more)
        gives (inl o) (inr more) = absurd (more.0 (p.places ∙ ap (λ (x : List (Message × Place H)). places_in x) o.0))
    begins_last room is_last e (inr q) =
        let message = q.0 in
        let place = q.1 in
        let both = begun_more message place q.3 q.4 in
        let one : List (Message × Place H) = (message, place) ∷ [] in
        let messages : messages_in (begun ++ one) ≡ messages_in begun ++ message ∷ [] = map-append _ begun one in
        let count = length-places begun in
        let size = ap (λ (x : List (Place H)). length x) p.places in
        let in_row = begins_row_more [] begun (message, place) (omega (arith, room)) p.single (λ asks. sym p.places ∙ q.5 asks) in
        (begun ++ one, both.1, subst (λ (x : List (Place H)). IsRow [] (begin_moves (begun ++ one)) x) (sym both.1) in_row, both.0, stops_more begun message place p.good, ended messages (q.6 e))
      where
        -- a bad frame is the last message; behind one of the whole map the feeder goes on
        ended : messages_in (begun ++ (q.0, q.1) ∷ []) ≡ messages_in begun ++ q.0 ∷ [] → (q.0 ≡ Err BadFrame) ⊎ ((q.0 ≢ Err BadFrame) × BeginsBulk mid) → Gives old new (messages_in (begun ++ (q.0, q.1) ∷ []))
        ended messages (inl bad) =
            let fewer = still_fewer old mid new q.0 p.opened q.2 in
            inr (fewer.0, fewer.1, inr (subst (λ (x : List Message). FirstMessages old.left x) (sym messages) (first_then old.left mid.left (messages_in begun) (q.0 ∷ []) p.taken (takes_first mid new q.0 q.2)), (messages_in begun, messages ∙ ap (λ (x : Message). messages_in begun ++ x ∷ []) bad)))
        ended messages (inr bulk) =
            let takes = open_takes mid new q.0 q.2 bulk.0 in
            let fewer = still_fewer old mid new q.0 p.opened q.2 in
            inr (fewer.0, fewer.1, inl (takes.0, subst (λ (x : List Message). Begins old.left x new.left) (sym messages) (begins_then old.left mid.left new.left (messages_in begun) (q.0 ∷ []) p.taken takes.1)))

    -- the next message took its place, and no more is begun
    pub begins_enough : length row < 64 → (is_last : Bool) → is_last ≡ false → BeginsNext began finished gave_up s1 s2 mid new row after is_last → BeginsRow began finished gave_up s0 s2 old new after
    begins_enough room is_last e next =
        let more = begins_more room is_last e next in
        begins_some s0 s2 old new after more.0 (took next) more.1
      where
        took : BeginsNext began finished gave_up s1 s2 mid new row after is_last → 1 ≤ length after
        took (inl q) = let no : true ≡ false = sym q.0 ∙ e in cc
        took (inr q) =
            let count = length-append row (q.1 ∷ []) in
            let size = ap (λ (x : List (Place H)). length x) q.4 in
            omega arith

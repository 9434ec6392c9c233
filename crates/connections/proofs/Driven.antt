-- A connection that a blocking reader and writer drive.
use Rattle.std.proofs.Common.{◌≡◌, ◌≢◌, ◌≤◌, ℕ, false, List, [], ◌∷◌, ◌++◌, length, map, take, Option, Some, None, Result, Err, refl, sym, ap, subst, ◌∙◌, append_assoc, arith, inl, inr}
use Rattle.std.specs.List.{flat_map}
use Rattle.std.specs.Io.KnownBytes.{Appends, Consumes}
use Rattle.std.proofs.lemmas.List.{append-nil}
use Rattle.std.proofs.lemmas.List.Concat.{flat_map-append}
use Rattle.map_types.specs.declared.refusals.Refusal.{Refusal}
use Rattle.wire_frames.specs.declared.requests.Request.{Request}
use Rattle.wire_frames.specs.Messages.{FirstMessages, IsPartial}
use Rattle.wire_frames.specs.Replies.{IsCut, reply_frame}
use Rattle.wire_frames.specs.Held.{fed}
use Rattle.wire_frames.proofs.Sent.{Appends-nil, Appends-then}
use Rattle.wire_frames.proofs.Received.{Consumes-then}
use Rattle.connections.specs.declared.row.Place.{Place}
use Rattle.connections.specs.declared.exchange.Stage.{Stage}
use Rattle.connections.specs.declared.exchange.Stage.TheVariants.{Open, Ended, GivenUp}
use Rattle.connections.specs.Dialogue.{Answer, Dialogue, IsEnded, replies}
use Rattle.connections.specs.declared.connection.ConnectionError.{ConnectionError}
use Rattle.connections.specs.declared.connection.ConnectionError.TheVariants.{Reader, Writer, NoMemory}
use Rattle.connections.specs.Connection.{EndedByReply, AllAnswered, CutOff, Connection}
use Rattle.connections.specs.Moves.{Move, GivesUp, IsRow, Leads, Runs, messages_of, outcomes}
use Rattle.connections.specs.Past.{Past, Standing, IsPast, Grew, Taken, answers_of, closed, fresh, no_past, with_late}
use Rattle.connections.specs.Driving.{Drives, IsServed, IsBroken}
use Rattle.connections.proofs.MoveLists.{leads_then}
use Rattle.connections.proofs.Rows.{full_goes_on}
use Rattle.connections.specs.Progress.{Gave}
use Rattle.connections.proofs.Streams.{Consumes-nil, Consumes-kept}
use Rattle.connections.proofs.Turns.{front_of, last_is_ended}
use Rattle.connections.proofs.Pasts.{made_of, past_dialogue, past_first, past_fits, past_full, past_last, past_taken}
use Rattle.connections.proofs.Steps.{past_fed, past_given, past_none}

abbrev Cut : Option (List ℕ) → Option (List ℕ) → List ℕ → Type 0
Cut w0 w1 bytes = (front : List ℕ) × IsCut front bytes × Appends w0 w1 front

pub open_of : (stage : Stage) → stage ≢ GivenUp → stage ≢ Ended → stage ≡ Open
open_of Open p q = refl
open_of Ended p q = absurd (q refl)
open_of GivenUp p q = absurd (p refl)

module _ {H : Type 0} where
  abbrev behind : Past H → List (Move H) → List ℕ → Past H
  behind past moves bytes = record past { moves = past.moves ++ moves; written = past.written ++ bytes }

  regroup : (holds : Past H → Type 0) (past : Past H) (ms ns : List (Move H)) (xs ys : List ℕ) → holds (behind (behind past ms xs) ns ys) → holds (behind past (ms ++ ns) (xs ++ ys))
  regroup holds past ms ns xs ys p =
      subst (λ (x : List (Move H)). holds (record past { moves = x; written = past.written ++ (xs ++ ys) })) (append_assoc past.moves ms ns) (subst (λ (x : List ℕ). holds (record past { moves = (past.moves ++ ms) ++ ns; written = x })) (append_assoc past.written xs ys) p)

  no_bytes : (holds : Past H → Type 0) (past : Past H) (ms : List (Move H)) → holds (record past { moves = past.moves ++ ms }) → holds (behind past ms [])
  no_bytes holds past ms p =
      subst (λ (x : List ℕ). holds (record past { moves = past.moves ++ ms; written = x })) (sym (append-nil past.written)) p

  -- the first of the unsent bytes are written
  past_split : (past : Past H) (left : Standing H) (front rest : List ℕ) → left.unsent ≡ front ++ rest → IsPast past left → IsPast (record past { written = past.written ++ front }) (record left { unsent = rest })
  past_split past left front rest e p = record {
    taken = p.taken;
    in_row = p.in_row;
    stops = p.stops;
    refusals = p.refusals;
    stands = p.stands;
    text = append_assoc past.written front rest ∙ ap (λ (x : List ℕ). past.written ++ x) (sym e) ∙ p.text;
  }

  late_sent : (past : Past H) (left : Standing H) (late : Option Answer) → IsPast past (with_late left late) → IsPast (record past { written = past.written ++ (with_late left late).unsent }) (record left { unsent = [] })
  late_sent past left None p = past_split past left left.unsent [] (sym (append-nil left.unsent)) p
  late_sent past left (Some answer) p =
      past_split past (with_late left (Some answer)) (left.unsent ++ reply_frame answer) [] (sym (append-nil (left.unsent ++ reply_frame answer))) p

  late_places : (left : Standing H) (late : Option Answer) → (with_late left late).places ≡ left.places
  late_places left None = refl
  late_places left (Some answer) = refl

module _ {S H : Type 0} (began : S → Request → Result H Refusal → S → Type 0) (finished : S → H → Answer → S → Type 0) (gave_up : S → H → S → Type 0) where
  pub drives_none : (w : Option (List ℕ)) (s : S) (left : Standing H) → Drives began finished gave_up w w s s left (λ past. IsPast past left)
  drives_none w s left =
      ([], [], refl, Appends-nil w, λ past p. no_bytes (λ (x : Past H). IsPast x left) past [] (subst (λ (x : List (Move H)). IsPast (record past { moves = x }) left) (sym (append-nil past.moves)) p))

  -- the connection grew, and then it was driven on
  pub drives_then : (w0 w1 w2 : Option (List ℕ)) (s0 s1 s2 s3 : S) (old mid begun : Standing H) (holds : Past H → Type 0) → Drives began finished gave_up w0 w1 s0 s1 old (λ past. IsPast past mid) → Grew began finished gave_up s1 s2 mid begun → Drives began finished gave_up w1 w2 s2 s3 begun holds → Drives began finished gave_up w0 w2 s0 s3 old holds
  drives_then w0 w1 w2 s0 s1 s2 s3 old mid begun holds p q r =
      let leads = leads_then began finished gave_up s0 s1 s3 p.0 (q.0 ++ r.0) p.2 (leads_then began finished gave_up s1 s2 s3 q.0 r.0 q.1 r.2) in
      (p.0 ++ (q.0 ++ r.0), p.1 ++ r.1, leads, Appends-then w0 w1 w2 p.1 r.1 p.3 r.3, λ past is. regroup holds past p.0 (q.0 ++ r.0) p.1 r.1 (subst (λ (x : List (Move H)). holds (record past { moves = x; written = (past.written ++ p.1) ++ r.1 })) (append_assoc (past.moves ++ p.0) q.0 r.0) (r.4 (record past { moves = (past.moves ++ p.0) ++ q.0; written = past.written ++ p.1 }) (q.2 (behind past p.0 p.1) (p.4 past is)))))

  module _ (w0 w1 w2 : Option (List ℕ)) (s0 s1 s2 s3 : S) (old mid begun : Standing H) where
    pub drives_on : (new : Standing H) → Drives began finished gave_up w0 w1 s0 s1 old (λ past. IsPast past mid) → Grew began finished gave_up s1 s2 mid begun → Drives began finished gave_up w1 w2 s2 s3 begun (λ past. IsPast past new) → Drives began finished gave_up w0 w2 s0 s3 old (λ past. IsPast past new)
    drives_on new = drives_then w0 w1 w2 s0 s1 s2 s3 old mid begun (λ past. IsPast past new)

    pub drives_fails : Drives began finished gave_up w0 w1 s0 s1 old (λ past. IsPast past mid) → Grew began finished gave_up s1 s2 mid begun → Drives began finished gave_up w1 w2 s2 s3 begun IsBroken → Drives began finished gave_up w0 w2 s0 s3 old IsBroken
    drives_fails = drives_then w0 w1 w2 s0 s1 s2 s3 old mid begun IsBroken

  module _ (w0 w1 w2 : Option (List ℕ)) (s0 s1 s2 : S) (old mid left : Standing H) (late : Option Answer) (p : Drives began finished gave_up w0 w1 s0 s1 old (λ past. IsPast past mid)) (q : Grew began finished gave_up s1 s2 mid (with_late left late)) where
    -- what is unsent was written
    pub drives_sent : Appends w1 w2 (with_late left late).unsent → Drives began finished gave_up w0 w2 s0 s2 old (λ past. IsPast past (record left { unsent = [] }))
    drives_sent wrote =
        drives_then w0 w1 w2 s0 s1 s2 s2 old mid (with_late left late) (λ past. IsPast past (record left { unsent = [] })) p q ([], (with_late left late).unsent, refl, wrote, λ past is. subst (λ (x : List (Move H)). IsPast (record past { moves = x; written = past.written ++ (with_late left late).unsent }) (record left { unsent = [] })) (sym (append-nil past.moves)) (late_sent past left late is))

    -- the writer failed, and what is held was given up
    pub drives_broken : (s3 : S) → Cut w1 w2 (with_late left late).unsent → Leads began finished gave_up s2 (map GivesUp left.places) s3 → Drives began finished gave_up w0 w2 s0 s3 old IsBroken
    drives_broken s3 cut given =
        let all = with_late left late in
        let next = cut.1.0 in
        let rest = cut.1.1 in
        let leads = subst (λ (x : List (Place H)). Leads began finished gave_up s2 (map GivesUp x) s3) (sym (late_places left late)) given in
        drives_then w0 w1 w2 s0 s1 s2 s3 old mid all IsBroken p q (map GivesUp all.places, cut.0, leads, cut.2, λ past is. let over = past_given past all is in (record all { places = []; stage = closed all.stage; unsent = next ∷ rest }, past_split (record past { moves = past.moves ++ map GivesUp all.places }) (record all { places = []; stage = closed all.stage }) cut.0 (next ∷ rest) cut.1.2 over, refl, λ h. let no : next ∷ rest ≡ [] = h in cc))

  -- no whole message is left in hand
  pub drives_done : (w0 w1 : Option (List ℕ)) (s0 s1 s2 : S) (old mid new : Standing H) → Drives began finished gave_up w0 w1 s0 s1 old (λ past. IsPast past mid) → Grew began finished gave_up s1 s2 mid new → mid.places ≡ [] → new.places ≡ [] → new.unsent ≡ [] → new.stage ≢ GivenUp → new.stage ≡ mid.stage → (mid.feed.ended ≡ false → mid.stage ≡ Open → IsPartial new.feed.left) → Drives began finished gave_up w0 w1 s0 s2 old (IsServed new)
  drives_done w0 w1 s0 s1 s2 old mid new p q before none unsent going same partial =
      (p.0 ++ q.0, p.1, leads_then began finished gave_up s0 s1 s2 p.0 q.0 p.2 q.1, p.3, λ past is. let was = p.4 past is in (subst (λ (x : List (Move H)). IsPast (record past { moves = x; written = past.written ++ p.1 }) new) (append_assoc past.moves p.0 q.0) (q.2 (behind past p.0 p.1) was), none, unsent, going, λ on. partial (past_taken (behind past p.0 p.1) mid was before (sym same ∙ on)).0 (sym same ∙ on)))

  -- ---- a whole connection

  -- so far: what was read, done and written of an open connection
  pub record Serving (r0 r w0 w : Option (List ℕ)) (s0 s : S) (left : Standing H) : Type 0 where
    pub past : Past H
    pub read : Consumes r0 r past.received
    pub wrote : Appends w0 w past.written
    pub leads : Leads began finished gave_up s0 past.moves s
    pub served : IsServed left past
    pub opened : left.stage ≡ Open

  pub serving_none : (r w : Option (List ℕ)) (s : S) (left : Standing H) → left ≡ fresh → Serving r r w w s s left
  serving_none r w s left e =
      subst (λ (x : Standing H). Serving r r w w s s x) (sym e) (record { past = no_past; read = Consumes-nil r; wrote = Appends-nil w; leads = refl; served = (past_none, refl, refl, λ h. cc, λ on. tt); opened = refl })

  pub first_of : (past : Past H) (left : Standing H) → IsPast past left → FirstMessages past.received (messages_of past.moves)
  first_of past left p = of p.taken
    where
      of : Taken past.received (messages_of past.moves) left.feed → FirstMessages past.received (messages_of past.moves)
      of (inl t) = inl (left.feed.left, t.1)
      of (inr t) = t.0

  ran_of : (s0 s1 : S) (past : Past H) (left : Standing H) → IsPast past left → left.places ≡ [] → Leads began finished gave_up s0 past.moves s1 → Runs began finished gave_up s0 (messages_of past.moves) (made_of past.moves) s1
  ran_of s0 s1 past left p none leads = record {
    moves = past.moves;
    leads = leads;
    in_row = subst (λ (x : List (Place H)). IsRow [] past.moves x) none p.in_row;
    stops = p.stops;
    taken = refl;
    calls = refl;
  }

  written_of : (past : Past H) (left : Standing H) → IsServed left past → Dialogue (messages_of past.moves) (made_of past.moves) past.written
  written_of past left p =
      subst (λ (x : List ℕ). Dialogue (messages_of past.moves) (made_of past.moves) x) (ap (λ (x : List ℕ). past.written ++ x) p.2 ∙ append-nil past.written) (past_dialogue past left p.0 p.1 p.3)

  module _ (r0 r1 r2 w0 w1 : Option (List ℕ)) (s0 s1 : S) (left : Standing H) (c : Serving r0 r1 w0 w1 s0 s1 left) (piece : List ℕ) (r : Consumes r1 r2 piece) where
    -- no memory was found for the piece
    pub serving_but : (most : ℕ) → length piece ≤ most → AllAnswered began finished gave_up r0 r2 w0 w1 s0 s1 most
    serving_but most few =
        let is = c.served.0 in
        let taken = past_taken c.past left is c.served.1 c.opened in
        record {
          input = c.past.received;
          lost = piece;
          messages = messages_of c.past.moves;
          made = made_of c.past.moves;
          bytes = c.past.written;
          read = Consumes-then r0 r1 r2 c.past.received piece c.read r;
          few = few;
          all = (left.feed.left, taken.1, c.served.4 c.opened);
          ran = ran_of s0 s1 c.past left is c.served.1 c.leads;
          dialogue = written_of c.past left c.served;
          goes_on = full_goes_on (messages_of c.past.moves) (made_of c.past.moves) (past_full c.past left is c.served.1 c.opened);
          wrote = c.wrote;
        }

    module _ (received : Standing H) (same : received ≡ record left { feed = fed left.feed piece }) (w2 : Option (List ℕ)) (s2 : S) where
      fed_past : IsPast (record c.past { received = c.past.received ++ piece }) received
      fed_past = subst (λ (x : Standing H). IsPast (record c.past { received = c.past.received ++ piece }) x) (sym same) (past_fed c.past left piece c.served.0)

      -- the piece was received, and its messages answered
      pub serving_more : (new : Standing H) → Drives began finished gave_up w1 w2 s1 s2 received (IsServed new) → new.stage ≢ Ended → Serving r0 r2 w0 w2 s0 s2 new
      serving_more new d on = record {
        past = behind (record c.past { received = c.past.received ++ piece }) d.0 d.1;
        read = Consumes-then r0 r1 r2 c.past.received piece c.read r;
        wrote = Appends-then w0 w1 w2 c.past.written d.1 c.wrote d.3;
        leads = leads_then began finished gave_up s0 s1 s2 c.past.moves d.0 c.leads d.2;
        served = d.4 (record c.past { received = c.past.received ++ piece }) fed_past;
        opened = open_of new.stage (d.4 (record c.past { received = c.past.received ++ piece }) fed_past).3 on;
      }

      -- a reply ended the connection
      pub serving_ended : (new : Standing H) → Drives began finished gave_up w1 w2 s1 s2 received (IsServed new) → new.stage ≡ Ended → EndedByReply began finished gave_up r0 r2 w0 w2 s0 s2
      serving_ended new d end =
          let past = behind (record c.past { received = c.past.received ++ piece }) d.0 d.1 in
          let served = d.4 (record c.past { received = c.past.received ++ piece }) fed_past in
          let last = past_last past new served.0 served.1 end in
          record {
            input = past.received;
            messages = messages_of past.moves;
            made = made_of past.moves;
            bytes = past.written;
            read = Consumes-then r0 r1 r2 c.past.received piece c.read r;
            first = first_of past new served.0;
            ran = ran_of s0 s2 past new served.0 served.1 (leads_then began finished gave_up s0 s1 s2 c.past.moves d.0 c.leads d.2);
            dialogue = written_of past new served;
            ended = subst (λ (x : List Answer). IsEnded x) (sym last.1) (last_is_ended (answers_of past.moves) last.0);
            wrote = Appends-then w0 w1 w2 c.past.written d.1 c.wrote d.3;
          }

      -- the writer failed
      pub serving_cut : Drives began finished gave_up w1 w2 s1 s2 received IsBroken → CutOff began finished gave_up r0 r2 w0 w2 s0 s2
      serving_cut d =
          let past = behind (record c.past { received = c.past.received ++ piece }) d.0 d.1 in
          let broken = d.4 (record c.past { received = c.past.received ++ piece }) fed_past in
          record {
            input = past.received;
            messages = messages_of past.moves;
            made = made_of past.moves;
            bytes = past.written;
            read = Consumes-then r0 r1 r2 c.past.received piece c.read r;
            first = first_of past broken.0 broken.1;
            calls = front_of (messages_of past.moves) (outcomes past.moves) (past_fits past broken.0 broken.1 broken.2);
            ran = ran_of s0 s2 past broken.0 broken.1 broken.2 (leads_then began finished gave_up s0 s1 s2 c.past.moves d.0 c.leads d.2);
            beginning = cut_of past broken.0 broken.0.unsent refl broken.1 broken.2 broken.3;
            wrote = Appends-then w0 w1 w2 c.past.written d.1 c.wrote d.3;
          }
        where
          cut_of : (past : Past H) (new : Standing H) (unsent : List ℕ) → new.unsent ≡ unsent → IsPast past new → new.places ≡ [] → new.unsent ≢ [] → IsCut past.written (replies (messages_of past.moves) (made_of past.moves))
          cut_of past new [] e p none some = absurd (some e)
          cut_of past new (next ∷ rest) e p none some =
              let first = past_first past new p none in
              let more = flat_map reply_frame first.0 in
              (next, rest ++ more, ap (λ (x : List Answer). flat_map reply_frame x) first.1 ∙ flat_map-append reply_frame (answers_of past.moves) first.0 ∙ ap (λ (x : List ℕ). x ++ more) (sym p.text ∙ ap (λ (x : List ℕ). past.written ++ x) e) ∙ append_assoc past.written (next ∷ rest) more)

  -- ---- the ends of a driver

  module _ (r0 r1 r2 w0 w1 : Option (List ℕ)) (s0 s1 : S) (left : Standing H) where
    -- the stream has ended
    pub answered_all : (room : List ℕ) (len : ℕ) → len ≡ 0 → Serving r0 r1 w0 w1 s0 s1 left → Consumes r1 r2 (take len room) → AllAnswered began finished gave_up r0 r2 w0 w1 s0 s1 0
    answered_all room len e c r =
        serving_but r0 r1 r2 w0 w1 s0 s1 left c [] (subst (λ (n : ℕ). Consumes r1 r2 (take n room)) e r) 0 (omega arith)

    -- the reader failed
    pub broken_read : (e : ConnectionError) (room : List ℕ) → Serving r0 r1 w0 w1 s0 s1 left → Gave r1 r2 room (Err e) → Connection began finished gave_up r0 r2 w0 w1 s0 s1 (Err e)
    broken_read (Reader error) room c g =
        (serving_but r0 r1 r2 w0 w1 s0 s1 left c [] (Consumes-kept r1 r2 g.0) 0 (omega arith), g.1)
    broken_read (Writer error) room c g = absurd g
    broken_read NoMemory room c g = absurd g

  -- no memory was found before the first read
  pub broken_start : (r w : Option (List ℕ)) (s : S) → Connection began finished gave_up r r w w s s (Err NoMemory)
  broken_start r w s =
      serving_but r r r w w s s fresh (serving_none r w s fresh refl) [] (Consumes-nil r) 65536 (omega arith)

  -- nothing more was read
  pub answered_so_far : (r0 r1 w0 w1 : Option (List ℕ)) (s0 s1 : S) (left : Standing H) → Serving r0 r1 w0 w1 s0 s1 left → AllAnswered began finished gave_up r0 r1 w0 w1 s0 s1 0
  answered_so_far r0 r1 w0 w1 s0 s1 left c =
      serving_but r0 r1 r1 w0 w1 s0 s1 left c [] (Consumes-nil r1) 0 (omega arith)

-- the bytes that were received are those that were read
pub received_so : {H : Type 0} (left received : Standing H) (bytes piece : List ℕ) → received ≡ record left { feed = fed left.feed bytes } → bytes ≡ piece → received ≡ record left { feed = fed left.feed piece }
received_so left received bytes piece e same = e ∙ ap (λ (x : List ℕ). record left { feed = fed left.feed x }) same

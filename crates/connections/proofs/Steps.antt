-- What comes of a connection, step by step.
use Rattle.std.proofs.Common.{◌≡◌, ◌⊎◌, ◌<◌, ℕ, suc, true, false, List, [], ◌∷◌, ◌++◌, length, Result, Ok, Err, refl, sym, ap, subst, ◌∙◌, append_assoc, arith, inl, inr}
use Rattle.std.specs.List.{AllByRecursion, AllZip, flat_map}
use Rattle.std.proofs.lemmas.List.{append-nil}
use Rattle.std.proofs.lemmas.List.Concat.{flat_map-append}
use Rattle.map_types.specs.declared.refusals.Refusal.{Refusal}
use Rattle.map_types.specs.declared.refusals.Refusal.TheVariants.{BadFrame}
use Rattle.wire_frames.specs.declared.requests.Request.{Request}
use Rattle.wire_frames.specs.Messages.{Message, Begins, IsPartial, Says, frame}
use Rattle.wire_frames.specs.Replies.{reply_frame}
use Rattle.wire_frames.specs.Held.{Feed, fed}
use Rattle.wire_frames.specs.Feed.{HasMessage}
use Rattle.connections.specs.declared.row.Place.{Place}
use Rattle.connections.specs.declared.row.Place.TheVariants.{Held, Refused}
use Rattle.connections.specs.declared.exchange.Stage.{Stage}
use Rattle.connections.specs.declared.exchange.Stage.TheVariants.{Open, Ended, GivenUp}
use Rattle.connections.specs.Dialogue.{Answer, ends}
use Rattle.connections.specs.Moves.{Move, Starts, Answers, IsRow, Stops, messages_of, Makes, Leads}
use Rattle.connections.specs.Past.{Past, Standing, IsPast, IsOpen, KeepsRefusal, LastEnds, StandsAt, Taken, Grew, answers_of, closed, no_past, with_moves}
use Rattle.connections.specs.Progress.{BeginsRow, Gives, work, begin_moves, give_up_moves, messages_in, places_in}
use Rattle.connections.proofs.MoveLists.{leads_then, messages-append, row_then, stops_then}
use Rattle.connections.proofs.Streams.{begins_none, begins_then, first_then}
use Rattle.connections.proofs.Turns.{none_bad}
use Rattle.connections.proofs.Pasts.{answers-append, taken_feed, kept_then, open_then, last_then, stops_behind, steady_of, gives_row, gives_none, gives_all, gives_kept, gives_messages, gives_answers, gives_stops, begun_messages, begun_answers, begun_open, open_moves, made_of, past_full, past_taken}

-- without a message nothing is taken
no_bodies : (old new : Feed) (bodies : List (List ℕ)) → AllZip Says bodies [] → old.left ≡ flat_map frame bodies ++ new.left → old.left ≡ new.left
no_bodies old new [] p e = e
no_bodies old new (body ∷ bodies) p e = absurd p

no_fewer : (old new : Feed) → Begins old.left [] new.left → old.ended ≡ false → new.ended ≡ false → work new < work old → ⊥
no_fewer old new p a b fewer =
    let same : length old.left ≡ length new.left = ap (λ (x : List ℕ). length x) (no_bodies old new p.bodies p.said p.parts) in
    let less : suc (length new.left) < suc (length old.left) = rw (a, b) at fewer in
    omega arith

no_front : (front : List Message) → [] ≡ front ++ Err BadFrame ∷ [] → ⊥
no_front [] e = cc
no_front (m ∷ front) e = cc

module _ {H : Type 0} where
  -- ---- steps

  pub past_none : IsPast (no_past {H = H}) (record { feed = record { left = []; ended = false }; places = []; stage = Open; unsent = [] })
  past_none = record { taken = inl (refl, begins_none []); in_row = refl; stops = tt; refusals = tt; stands = tt; text = refl }

  pub past_fed : (past : Past H) (left : Standing H) (piece : List ℕ) → IsPast past left → IsPast (record past { received = past.received ++ piece }) (record left { feed = fed left.feed piece })
  past_fed past left piece p = record {
    taken = taken_feed past.received piece (messages_of past.moves) left.feed p.taken;
    in_row = p.in_row;
    stops = p.stops;
    refusals = p.refusals;
    stands = p.stands;
    text = p.text;
  }

  stage_open : (stage : Stage) (moves : List (Move H)) (places rest : List (Place H)) (place : Place H) → StandsAt stage moves places → places ≡ place ∷ rest → stage ≡ Open
  stage_open Open moves places rest place p e = refl
  stage_open Ended moves places rest place p e = let no : [] ≡ place ∷ rest = sym p.1 ∙ e in cc
  stage_open GivenUp moves places rest place p e = let no : [] ≡ place ∷ rest = sym p ∙ e in cc

  text_more : (past : Past H) (left : Standing H) (ns : List (Move H)) (bytes : List ℕ) → past.written ++ left.unsent ≡ flat_map reply_frame (answers_of past.moves) → flat_map reply_frame (answers_of ns) ≡ bytes → past.written ++ (left.unsent ++ bytes) ≡ flat_map reply_frame (answers_of (past.moves ++ ns))
  text_more past left ns bytes p q =
      sym (append_assoc past.written left.unsent bytes) ∙ ap (λ (x : List ℕ). x ++ bytes) p ∙ ap (λ (x : List ℕ). flat_map reply_frame (answers_of past.moves) ++ x) (sym q) ∙ sym (flat_map-append reply_frame (answers_of past.moves) (answers_of ns)) ∙ ap (λ (x : List Answer). flat_map reply_frame x) (sym (answers-append past.moves ns))

  text_same : (past : Past H) (left : Standing H) (ns : List (Move H)) → past.written ++ left.unsent ≡ flat_map reply_frame (answers_of past.moves) → answers_of ns ≡ [] → past.written ++ left.unsent ≡ flat_map reply_frame (answers_of (past.moves ++ ns))
  text_same past left ns p none =
      p ∙ ap (λ (x : List Answer). flat_map reply_frame x) (sym (answers-append past.moves ns ∙ ap (λ (x : List Answer). answers_of past.moves ++ x) none ∙ append-nil (answers_of past.moves)))

  taken_same : (past : Past H) (left : Standing H) (ns : List (Move H)) → Taken past.received (messages_of past.moves) left.feed → messages_of ns ≡ [] → Taken past.received (messages_of (past.moves ++ ns)) left.feed
  taken_same past left ns t none =
      subst (λ (x : List Message). Taken past.received x left.feed) (sym (messages-append past.moves ns ∙ ap (λ (x : List Message). messages_of past.moves ++ x) none ∙ append-nil (messages_of past.moves))) t

  -- what is held is given up
  pub past_given : (past : Past H) (left : Standing H) → IsPast past left → IsPast (with_moves past (give_up_moves left.places)) (record left { places = []; stage = closed left.stage })
  past_given past left p = record {
    taken = taken_same past left (give_up_moves left.places) p.taken (gives_messages left.places);
    in_row = row_then [] left.places [] past.moves (give_up_moves left.places) (inr (gives_none left.places)) p.in_row (gives_row left.places);
    stops = stops_given left.stage left.places p.stands p.stops;
    refusals = kept_then past.moves (give_up_moves left.places) p.refusals (gives_kept left.places);
    stands = stands_given left.stage left.places p.stands;
    text = text_same past left (give_up_moves left.places) p.text (gives_answers left.places);
  }
    where
      none_given : (places : List (Place H)) → places ≡ [] → past.moves ≡ past.moves ++ give_up_moves places
      none_given places e = sym (append-nil past.moves) ∙ ap (λ (x : List (Place H)). past.moves ++ give_up_moves x) (sym e)

      stops_given : (stage : Stage) (places : List (Place H)) → StandsAt stage past.moves places → Stops past.moves → Stops (past.moves ++ give_up_moves places)
      stops_given Open places s t = stops_behind past.moves (give_up_moves places) s t (gives_messages places) (gives_stops places)
      stops_given Ended places s t = subst (λ (x : List (Move H)). Stops x) (none_given places s.1) t
      stops_given GivenUp places s t = subst (λ (x : List (Move H)). Stops x) (none_given places s) t

      stands_given : (stage : Stage) (places : List (Place H)) → StandsAt stage past.moves places → StandsAt (closed stage) (past.moves ++ give_up_moves places) []
      stands_given Open places s = refl
      stands_given Ended places s = (subst (λ (x : List (Move H)). LastEnds (answers_of x)) (none_given places s.1) s.0, refl)
      stands_given GivenUp places s = refl

  -- ---- an answer

  frames_of : (place : Place H) (answer : Answer) (ns : List (Move H)) → answers_of ns ≡ [] → flat_map reply_frame (answers_of (Answers place answer ∷ ns)) ≡ reply_frame answer
  frames_of place answer ns none = ap (λ (x : List Answer). flat_map reply_frame (answer ∷ x)) none ∙ append-nil (reply_frame answer)

  module _ (past : Past H) (left : Standing H) (place : Place H) (rest : List (Place H)) (answer : Answer) (p : IsPast past left) (first : left.places ≡ place ∷ rest) (own : KeepsRefusal (Answers place answer)) where
    on_open : IsOpen past.moves
    on_open = open_moves past left p (stage_open left.stage past.moves left.places rest place p.stands first)

    -- the connection goes on
    pub past_answered : ends answer ≡ false → IsPast (with_moves past (Answers place answer ∷ [])) (record left { places = rest; unsent = left.unsent ++ reply_frame answer })
    past_answered goes = record {
      taken = taken_same past left (Answers place answer ∷ []) p.taken refl;
      in_row = row_then [] left.places rest past.moves (Answers place answer ∷ []) (inr tt) p.in_row (rest, first, refl);
      stops = stops_behind past.moves (Answers place answer ∷ []) on_open p.stops refl (λ h. tt, tt);
      refusals = kept_then past.moves (Answers place answer ∷ []) p.refusals (own, tt);
      stands = subst (λ (x : Stage). StandsAt x (past.moves ++ Answers place answer ∷ []) rest) (sym (stage_open left.stage past.moves left.places rest place p.stands first)) (open_then past.moves (Answers place answer ∷ []) on_open (goes, tt));
      text = text_more past left (Answers place answer ∷ []) (reply_frame answer) p.text (frames_of place answer [] refl);
    }

    -- it ends, and the others are given up
    pub past_ended : ends answer ≡ true → IsPast (with_moves past (Answers place answer ∷ give_up_moves rest)) (record left { places = []; stage = Ended; unsent = left.unsent ++ reply_frame answer })
    past_ended last = record {
      taken = taken_same past left (Answers place answer ∷ give_up_moves rest) p.taken (gives_messages rest);
      in_row = row_then [] left.places [] past.moves (Answers place answer ∷ give_up_moves rest) (inr tt) p.in_row (rest, first, gives_row rest);
      stops = stops_behind past.moves (Answers place answer ∷ give_up_moves rest) on_open p.stops (gives_messages rest) (λ h. gives_all rest, gives_stops rest);
      refusals = kept_then past.moves (Answers place answer ∷ give_up_moves rest) p.refusals (own, gives_kept rest);
      stands = (last_then past.moves (Answers place answer ∷ give_up_moves rest) on_open (inl (last, gives_answers rest)), refl);
      text = text_more past left (Answers place answer ∷ give_up_moves rest) (reply_frame answer) p.text (frames_of place answer (give_up_moves rest) (gives_answers rest));
    }

module _ {S H : Type 0} (began : S → Request → Result H Refusal → S → Type 0) (finished : S → H → Answer → S → Type 0) (gave_up : S → H → S → Type 0) where
  starts_own : (a b : S) (message : Message) (place : Place H) → Makes began finished gave_up a (Starts message place) b → KeepsRefusal (Starts message place)
  starts_own a b (Ok q) place p = tt
  starts_own a b (Err r) (Held held) p = absurd p
  starts_own a b (Err r) (Refused other) p = ap (λ (x : Refusal). Refused x) p.0

  begun_own : (a b : S) (begun : List (Message × Place H)) → Leads began finished gave_up a (begin_moves begun) b → AllByRecursion KeepsRefusal (begin_moves begun)
  begun_own a b [] p = tt
  begun_own a b (one ∷ begun) p = (starts_own a p.0 one.0 one.1 p.1, begun_own p.0 b begun p.2)

  pub answers_own : (a b : S) (place : Place H) (answer : Answer) → Makes began finished gave_up a (Answers place answer) b → KeepsRefusal (Answers place answer)
  answers_own a b (Held held) answer p = tt
  answers_own a b (Refused other) answer p = p.0

  -- messages take their places in an empty row
  pub past_begun : (s0 s1 : S) (past : Past H) (left : Standing H) (feed : Feed) (places : List (Place H)) (b : BeginsRow began finished gave_up s0 s1 left.feed feed places) → IsPast past left → left.places ≡ [] → left.stage ≡ Open → IsPast (with_moves past (begin_moves b.0)) (record left { feed = feed; places = places })
  past_begun s0 s1 past left feed places b p none on = record {
    taken = taken_more b.5;
    in_row = row_then [] [] places past.moves (begin_moves b.0) (inl refl) (subst (λ (x : List (Place H)). IsRow [] past.moves x) none p.in_row) b.2;
    stops = stops_then past.moves (begin_moves b.0) (steady_of past.moves (open_moves past left p on) (none_bad (messages_of past.moves) (made_of past.moves) (past_full past left p none on))) b.4;
    refusals = kept_then past.moves (begin_moves b.0) p.refusals (begun_own s0 s1 b.0 b.3);
    stands = subst (λ (x : Stage). StandsAt x (past.moves ++ begin_moves b.0) places) (sym on) (open_then past.moves (begin_moves b.0) (open_moves past left p on) (begun_open b.0));
    text = text_same past left (begin_moves b.0) p.text (begun_answers b.0);
  }
    where
      all : messages_of (past.moves ++ begin_moves b.0) ≡ messages_of past.moves ++ messages_in b.0
      all = messages-append past.moves (begin_moves b.0) ∙ ap (λ (x : List Message). messages_of past.moves ++ x) (begun_messages b.0)

      taken_all : Taken past.received (messages_of past.moves ++ messages_in b.0) feed → Taken past.received (messages_of (past.moves ++ begin_moves b.0)) feed
      taken_all t = subst (λ (x : List Message). Taken past.received x feed) (sym all) t

      taken_more : Gives left.feed feed (messages_in b.0) → Taken past.received (messages_of (past.moves ++ begin_moves b.0)) feed
      taken_more (inl g) =
          taken_all (subst (λ (x : List Message). Taken past.received x feed) (sym (ap (λ (x : List Message). messages_of past.moves ++ x) g.0 ∙ append-nil (messages_of past.moves))) (subst (λ (x : Feed). Taken past.received (messages_of past.moves) x) (sym g.1) p.taken))
      taken_more (inr (opened, fewer, inl g)) =
          let before = past_taken past left p none on in
          taken_all (inl (g.0, begins_then past.received left.feed.left feed.left (messages_of past.moves) (messages_in b.0) before.1 g.1))
      taken_more (inr (opened, fewer, inr g)) =
          let before = past_taken past left p none on in
          taken_all (inr (first_then past.received left.feed.left (messages_of past.moves) (messages_in b.0) before.1 g.0, (messages_of past.moves ++ g.1.0, ap (λ (x : List Message). messages_of past.moves ++ x) g.1.1 ∙ sym (append_assoc (messages_of past.moves) g.1.0 (Err BadFrame ∷ [])))))

  -- where nothing was begun of an open feeder, no whole message is in hand
  pub partial_left : (s0 s1 : S) (old new : Feed) (places : List (Place H)) → BeginsRow began finished gave_up s0 s1 old new places → places ≡ [] → old.ended ≡ false → IsPartial new.left
  partial_left s0 s1 old new places (begun, same, in_row, leads, stops, gives) none opened = by begun (sym none ∙ same) gives
    where
      by : (begun : List (Message × Place H)) → [] ≡ places_in begun → Gives old new (messages_in begun) → IsPartial new.left
      by (one ∷ begun) e g = let no : [] ≡ one.1 ∷ places_in begun = e in cc
      by [] e (inl g) = subst (λ (x : Feed). IsPartial x.left) (sym g.1) (still g.2)
        where
          still : (old.ended ≡ true) ⊎ IsPartial old.left → IsPartial old.left
          still (inl h) = let no : true ≡ false = sym h ∙ opened in cc
          still (inr h) = h
      by [] e (inr (on, fewer, inl g)) = absurd (no_fewer old new g.1 on g.0 fewer)
      by [] e (inr (on, fewer, inr g)) = absurd (no_front g.1.0 g.1.1)

  -- of an open feeder that has a message in hand, some is begun
  pub message_begins : (s0 s1 : S) (old new : Feed) (places : List (Place H)) → BeginsRow began finished gave_up s0 s1 old new places → HasMessage old → places ≡ [] → ⊥
  message_begins s0 s1 old new places (begun, same, in_row, leads, stops, gives) has none = by begun (sym none ∙ same) gives
    where
      by : (begun : List (Message × Place H)) → [] ≡ places_in begun → Gives old new (messages_in begun) → ⊥
      by (one ∷ begun) e g = let no : [] ≡ one.1 ∷ places_in begun = e in cc
      by [] e (inl g) = still g.2
        where
          still : (old.ended ≡ true) ⊎ IsPartial old.left → ⊥
          still (inl h) = let no : true ≡ false = sym h ∙ has.0 in cc
          still (inr h) = has.1 h
      by [] e (inr (on, fewer, inl g)) = no_fewer old new g.1 on g.0 fewer
      by [] e (inr (on, fewer, inr g)) = no_front g.1.0 g.1.1

  -- ---- growth

  pub grew_none : (s : S) (left : Standing H) → Grew began finished gave_up s s left left
  grew_none s left = ([], refl, λ past p. subst (λ (x : List (Move H)). IsPast (record past { moves = x }) left) (sym (append-nil past.moves)) p)

  pub grew_then : (s0 s1 s2 : S) (a b c : Standing H) → Grew began finished gave_up s0 s1 a b → Grew began finished gave_up s1 s2 b c → Grew began finished gave_up s0 s2 a c
  grew_then s0 s1 s2 a b c p q =
      (p.0 ++ q.0, leads_then began finished gave_up s0 s1 s2 p.0 q.0 p.1 q.1, λ past is. subst (λ (x : List (Move H)). IsPast (record past { moves = x }) c) (append_assoc past.moves p.0 q.0) (q.2 (with_moves past p.0) (p.2 past is)))

  pub grew_begun : (s0 s1 : S) (left : Standing H) (feed : Feed) (places : List (Place H)) → BeginsRow began finished gave_up s0 s1 left.feed feed places → left.places ≡ [] → left.stage ≡ Open → Grew began finished gave_up s0 s1 left (record left { feed = feed; places = places })
  grew_begun s0 s1 left feed places b none on =
      (begin_moves b.0, b.3, λ past p. past_begun s0 s1 past left feed places b p none on)

  pub grew_given : (s0 s1 : S) (left : Standing H) → Leads began finished gave_up s0 (give_up_moves left.places) s1 → Grew began finished gave_up s0 s1 left (record left { places = []; stage = closed left.stage })
  grew_given s0 s1 left leads = (give_up_moves left.places, leads, λ past p. past_given past left p)

  module _ (s0 s1 : S) (left : Standing H) (place : Place H) (rest : List (Place H)) (answer : Answer) (first : left.places ≡ place ∷ rest) (made : Makes began finished gave_up s0 (Answers place answer) s1) where
    pub grew_answered : ends answer ≡ false → Grew began finished gave_up s0 s1 left (record left { places = rest; unsent = left.unsent ++ reply_frame answer })
    grew_answered goes =
        (Answers place answer ∷ [], (s1, made, refl), λ past p. past_answered past left place rest answer p first (answers_own s0 s1 place answer made) goes)

    pub grew_ended : (s2 : S) → ends answer ≡ true → Leads began finished gave_up s1 (give_up_moves rest) s2 → Grew began finished gave_up s0 s2 left (record left { places = []; stage = Ended; unsent = left.unsent ++ reply_frame answer })
    grew_ended s2 last given =
        (Answers place answer ∷ give_up_moves rest, (s1, made, given), λ past p. past_ended past left place rest answer p first (answers_own s0 s1 place answer made) last)

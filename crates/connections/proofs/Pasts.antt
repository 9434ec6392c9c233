-- What comes of a connection, step by step.
use Rattle.std.proofs.Common.{◌≡◌, ◌≢◌, ℕ, Bool, true, false, List, [], ◌∷◌, ◌++◌, map, Option, Some, Ok, Err, refl, sym, ap, subst, ◌∙◌, append_assoc, inl, inr}
use Rattle.std.specs.List.{AllByRecursion, flat_map}
use Rattle.std.proofs.lemmas.List.{append-nil}
use Rattle.map_types.specs.declared.refusals.Refusal.{Refusal}
use Rattle.map_types.specs.declared.refusals.Refusal.TheVariants.{BadFrame}
use Rattle.wire_frames.specs.Messages.{Message, Begins, FirstMessages, IsRefusedLength}
use Rattle.wire_frames.specs.Replies.{reply_frame}
use Rattle.wire_frames.specs.Held.{Feed, fed, bytes_then}
use Rattle.connections.specs.declared.row.Place.{Place}
use Rattle.connections.specs.declared.row.Place.TheVariants.{Held, Refused}
use Rattle.connections.specs.declared.exchange.Stage.{Stage}
use Rattle.connections.specs.declared.exchange.Stage.TheVariants.{Open, Ended, GivenUp}
use Rattle.connections.specs.Dialogue.{Answer, Call, Dialogue, IsEnded, ends, row}
use Rattle.connections.specs.Connection.{GoesOn}
use Rattle.connections.specs.Moves.{Move, Starts, Answers, GivesUp, StartsNone, IsRow, Stops, AllGiveUp, messages_of, outcomes, left_answer, calls_of}
use Rattle.connections.specs.Past.{Past, Standing, IsPast, IsOpen, IsAnswered, KeepsRefusal, LastEnds, StandsAt, Taken, answers_of}
use Rattle.connections.specs.Progress.{EndsAt, IsFull, IsSteady, begin_moves, give_up_moves, messages_in}
use Rattle.connections.proofs.MoveLists.{messages-append}
use Rattle.connections.proofs.Rows.{full_dialogue}
use Rattle.connections.proofs.Streams.{begins_feed}
use Rattle.connections.proofs.Turns.{Fits, row_goes, row_last, row_full, last_is_ended, full_of, front_of, none_bad}

not_bad : (front : List Message) → AllByRecursion (λ (m : Message). m ≢ Err BadFrame) (front ++ Err BadFrame ∷ []) → ⊥
not_bad [] all = all.0 refl
not_bad (m ∷ front) all = not_bad front all.1

-- a refused length stays one
refused_feed : (rest piece : List ℕ) → IsRefusedLength rest → IsRefusedLength (rest ++ piece)
refused_feed [] piece p = absurd p
refused_feed (high ∷ []) piece p = absurd p
refused_feed (high ∷ low ∷ rest) piece p = p

first_feed : (bytes piece : List ℕ) (messages : List Message) → FirstMessages bytes messages → FirstMessages (bytes ++ piece) messages
first_feed bytes piece messages (inl p) = inl (p.0 ++ piece, begins_feed bytes p.0 piece messages p.1)
first_feed bytes piece messages (inr p) =
    inr (p.0, p.1 ++ piece, begins_feed bytes p.1 piece p.0 p.2, refused_feed p.1 piece p.3, p.4)

pub taken_feed : (received piece : List ℕ) (messages : List Message) (feed : Feed) → Taken received messages feed → Taken (received ++ piece) messages (fed feed piece)
taken_feed received piece messages feed (inl t) =
    inl (t.0, subst (λ (x : Bool). Begins (received ++ piece) messages (bytes_then x feed.left piece)) (sym t.0) (begins_feed received feed.left piece messages t.1))
taken_feed received piece messages feed (inr t) = inr (first_feed received piece messages t.0, t.1)

ends_first : (last : Bool) (answer : Answer) (answers : List Answer) → ends answer ≡ false → EndsAt last answers → EndsAt last (answer ∷ answers)
ends_first false answer answers e p = (e, p)
ends_first true answer answers e p = inr (e, p)

module _ {H : Type 0} where
  -- ---- lists of moves

  pub answers-append : (ms ns : List (Move H)) → answers_of (ms ++ ns) ≡ answers_of ms ++ answers_of ns
  answers-append [] ns = refl
  answers-append (Starts m place ∷ ms) ns = answers-append ms ns
  answers-append (Answers place answer ∷ ms) ns = ap (λ (x : List Answer). answer ∷ x) (answers-append ms ns)
  answers-append (GivesUp place ∷ ms) ns = answers-append ms ns

  pub kept_then : (ms ns : List (Move H)) → AllByRecursion KeepsRefusal ms → AllByRecursion KeepsRefusal ns → AllByRecursion KeepsRefusal (ms ++ ns)
  kept_then [] ns p q = q
  kept_then (m ∷ ms) ns p q = (p.0, kept_then ms ns p.1 q)

  pub open_then : (ms ns : List (Move H)) → IsOpen ms → IsOpen ns → IsOpen (ms ++ ns)
  open_then [] ns p q = q
  open_then (Starts m place ∷ ms) ns p q = open_then ms ns p q
  open_then (Answers place answer ∷ ms) ns p q = (p.0, open_then ms ns p.1 q)
  open_then (GivesUp place ∷ ms) ns p q = absurd p

  pub last_then : (ms ns : List (Move H)) → IsOpen ms → LastEnds (answers_of ns) → LastEnds (answers_of (ms ++ ns))
  last_then [] ns p q = q
  last_then (Starts m place ∷ ms) ns p q = last_then ms ns p q
  last_then (Answers place answer ∷ ms) ns p q = inr (p.0, last_then ms ns p.1 q)
  last_then (GivesUp place ∷ ms) ns p q = absurd p

  -- moves that take no place behind those of an open connection
  pub stops_behind : (ms ns : List (Move H)) → IsOpen ms → Stops ms → messages_of ns ≡ [] → Stops ns → Stops (ms ++ ns)
  stops_behind [] ns on p none q = q
  stops_behind (Starts m place ∷ ms) ns on p none q =
      (λ bad. messages-append ms ns ∙ ap (λ (x : List Message). x ++ messages_of ns) (p.0 bad) ∙ none, stops_behind ms ns on p.1 none q)
  stops_behind (Answers place answer ∷ ms) ns on p none q =
      (λ h. let no : true ≡ false = sym h ∙ on.0 in cc, stops_behind ms ns on.1 p.1 none q)
  stops_behind (GivesUp place ∷ ms) ns on p none q = absurd on

  pub steady_of : (ms : List (Move H)) → IsOpen ms → AllByRecursion (λ (m : Message). m ≢ Err BadFrame) (messages_of ms) → IsSteady ms
  steady_of [] on good = tt
  steady_of (Starts m place ∷ ms) on good = (good.0, steady_of ms on good.1)
  steady_of (Answers place answer ∷ ms) on good = (on.0, steady_of ms on.1 good)
  steady_of (GivesUp place ∷ ms) on good = absurd on

  -- ---- places that are given up

  pub gives_row : (given : List (Place H)) → IsRow given (give_up_moves given) []
  gives_row [] = refl
  gives_row (place ∷ given) = (given, refl, gives_row given)

  pub gives_none : (given : List (Place H)) → StartsNone (give_up_moves given)
  gives_none [] = tt
  gives_none (place ∷ given) = tt

  pub gives_all : (given : List (Place H)) → AllGiveUp (give_up_moves given)
  gives_all [] = tt
  gives_all (place ∷ given) = gives_all given

  pub gives_stops : (given : List (Place H)) → Stops (give_up_moves given)
  gives_stops [] = tt
  gives_stops (place ∷ given) = gives_all given

  pub gives_kept : (given : List (Place H)) → AllByRecursion KeepsRefusal (give_up_moves given)
  gives_kept [] = tt
  gives_kept (place ∷ given) = (tt, gives_kept given)

  pub gives_messages : (given : List (Place H)) → messages_of (give_up_moves given) ≡ []
  gives_messages [] = refl
  gives_messages (place ∷ given) = gives_messages given

  pub gives_answers : (given : List (Place H)) → answers_of (give_up_moves given) ≡ []
  gives_answers [] = refl
  gives_answers (place ∷ given) = gives_answers given

  -- ---- messages that take places

  pub begun_messages : (begun : List (Message × Place H)) → messages_of (begin_moves begun) ≡ messages_in begun
  begun_messages [] = refl
  begun_messages (one ∷ begun) = ap (λ (x : List Message). one.0 ∷ x) (begun_messages begun)

  pub begun_answers : (begun : List (Message × Place H)) → answers_of (begin_moves begun) ≡ []
  begun_answers [] = refl
  begun_answers (one ∷ begun) = begun_answers begun

  pub begun_open : (begun : List (Message × Place H)) → IsOpen (begin_moves begun)
  begun_open [] = tt
  begun_open (one ∷ begun) = begun_open begun

  -- ---- what came of the messages

  -- the place of each refused message says its refusal
  abbrev AreOf : List Message → List (Place H) → Type 0
  AreOf [] [] = Unit {0}
  AreOf [] (place ∷ places) = ⊥
  AreOf (message ∷ messages) [] = ⊥
  AreOf (message ∷ messages) (place ∷ places) = ((refusal : Refusal) → message ≡ Err refusal → place ≡ Refused refusal) × AreOf messages places

  starts_so : (message : Message) (place : Place H) → KeepsRefusal (Starts message place) → (refusal : Refusal) → message ≡ Err refusal → place ≡ Refused refusal
  starts_so (Ok q) place p refusal e = cc
  starts_so (Err r) place p refusal e = let same : r ≡ refusal = cc in p ∙ ap (λ (x : Refusal). Refused x) same

  answers_so : (place : Place H) (answer : Answer) → KeepsRefusal (Answers place answer) → (refusal : Refusal) → place ≡ Refused refusal → Some answer ≡ Some (Err refusal)
  answers_so (Held held) answer p refusal e = cc
  answers_so (Refused other) answer p refusal e = let said : answer ≡ Err other = p in cc

  gives_so : (place : Place H) (refusal : Refusal) → place ≡ Refused refusal → left_answer place ≡ Some (Err refusal)
  gives_so (Held held) refusal e = cc
  gives_so (Refused other) refusal e = cc

  are_more : (messages : List Message) (places : List (Place H)) (message : Message) (place : Place H) → AreOf messages places → ((refusal : Refusal) → message ≡ Err refusal → place ≡ Refused refusal) → AreOf (messages ++ message ∷ []) (places ++ place ∷ [])
  are_more [] [] message place p q = (q, tt)
  are_more [] (x ∷ places) message place p q = absurd p
  are_more (m ∷ messages) [] message place p q = absurd p
  are_more (m ∷ messages) (x ∷ places) message place p q = (p.0, are_more messages places message place p.1 q)

  none_wait : (waiting : List Message) (before : List (Place H)) → [] ≡ before → AreOf waiting before → Fits (waiting ++ []) []
  none_wait [] before e w = tt
  none_wait (m ∷ waiting) before e w = absurd (subst (λ (x : List (Place H)). AreOf (m ∷ waiting) x) (sym e) w)

  first_leaves : (waiting : List Message) (place : Place H) (others : List (Place H)) (moves : List (Move H)) (outcome : Option Answer) → AreOf waiting (place ∷ others) → ((refusal : Refusal) → place ≡ Refused refusal → outcome ≡ Some (Err refusal)) → ((rest : List Message) → AreOf rest others → Fits (rest ++ messages_of moves) (outcomes moves)) → Fits (waiting ++ messages_of moves) (outcome ∷ outcomes moves)
  first_leaves [] place others moves outcome w came next = absurd w
  first_leaves (Err r ∷ rest) place others moves outcome w came next = (came r (w.0 r refl), next rest w.1)
  first_leaves (Ok q ∷ rest) place others moves outcome w came next = next rest w.1

  -- once no place is held, each message has what came of it
  fits_moves : (waiting : List Message) (before : List (Place H)) (moves : List (Move H)) → AreOf waiting before → IsRow before moves [] → AllByRecursion KeepsRefusal moves → Fits (waiting ++ messages_of moves) (outcomes moves)
  fits_moves waiting before [] w r k = none_wait waiting before r w
  fits_moves waiting before (Starts m place ∷ moves) w r k =
      let rest = fits_moves (waiting ++ m ∷ []) (before ++ place ∷ []) moves (are_more waiting before m place w (starts_so m place k.0)) r.2 k.1 in
      subst (λ (x : List Message). Fits x (outcomes moves)) (append_assoc waiting (m ∷ []) (messages_of moves)) rest
  fits_moves waiting before (Answers place answer ∷ moves) w r k =
      first_leaves waiting place r.0 moves (Some answer) (subst (λ (x : List (Place H)). AreOf waiting x) r.1 w) (answers_so place answer k.0) (λ rest are. fits_moves rest r.0 moves are r.2 k.1)
  fits_moves waiting before (GivesUp place ∷ moves) w r k =
      first_leaves waiting place r.0 moves (left_answer place) (subst (λ (x : List (Place H)). AreOf waiting x) r.1 w) (gives_so place) (λ rest are. fits_moves rest r.0 moves are r.2 k.1)

  given_outcomes : (moves : List (Move H)) → AllGiveUp moves → (given : List (Place H)) × (outcomes moves ≡ map left_answer given) × (answers_of moves ≡ [])
  given_outcomes [] p = ([], refl, refl)
  given_outcomes (Starts m place ∷ moves) p = absurd p
  given_outcomes (Answers place answer ∷ moves) p = absurd p
  given_outcomes (GivesUp place ∷ moves) p =
      let rest = given_outcomes moves p in (place ∷ rest.0, ap (λ (x : List (Option Answer)). left_answer place ∷ x) rest.1, rest.2)

  -- what came of the places: first the answers, and then what was given up
  abbrev Came : List (Move H) → Type 0
  Came moves =
      (given : List (Place H)) × (last : Bool) × (outcomes moves ≡ map Some (answers_of moves) ++ map left_answer given) × EndsAt last (answers_of moves)

  came_answer : (place : Place H) (answer : Answer) (moves : List (Move H)) (last : Bool) → ends answer ≡ last → Stops (Answers place answer ∷ moves) → Came moves → Came (Answers place answer ∷ moves)
  came_answer place answer moves false e s rest =
      (rest.0, rest.1, ap (λ (x : List (Option Answer)). Some answer ∷ x) rest.2, ends_first rest.1 answer (answers_of moves) e rest.3)
  came_answer place answer moves true e s rest =
      let given = given_outcomes moves (s.0 e) in
      (given.0, true, rw given.2 (ap (λ (x : List (Option Answer)). Some answer ∷ x) given.1), inl (e, given.2))

  came_of : (moves : List (Move H)) → Stops moves → Came moves
  came_of [] s = ([], false, refl, tt)
  came_of (Starts m place ∷ moves) s = came_of moves s.1
  came_of (Answers place answer ∷ moves) s = came_answer place answer moves (ends answer) refl s (came_of moves s.1)
  came_of (GivesUp place ∷ moves) s =
      let given = given_outcomes moves s in
      (place ∷ given.0, false, rw given.2 (ap (λ (x : List (Option Answer)). left_answer place ∷ x) given.1), rw given.2 tt)

  came_open : (moves : List (Move H)) → IsOpen moves → (outcomes moves ≡ map Some (answers_of moves) ++ []) × GoesOn (answers_of moves)
  came_open [] on = (refl, tt)
  came_open (Starts m place ∷ moves) on = came_open moves on
  came_open (Answers place answer ∷ moves) on =
      let rest = came_open moves on.1 in (ap (λ (x : List (Option Answer)). Some answer ∷ x) rest.0, (on.0, rest.1))
  came_open (GivesUp place ∷ moves) on = absurd on

  -- ---- a connection that holds nothing

  abbrev pub made_of : List (Move H) → List Call
  made_of moves = calls_of (messages_of moves) (outcomes moves)

  pub past_fits : (past : Past H) (left : Standing H) → IsPast past left → left.places ≡ [] → Fits (messages_of past.moves) (outcomes past.moves)
  past_fits past left p none =
      fits_moves [] [] past.moves tt (subst (λ (x : List (Place H)). IsRow [] past.moves x) none p.in_row) p.refusals

  pub open_moves : (past : Past H) (left : Standing H) → IsPast past left → left.stage ≡ Open → IsOpen past.moves
  open_moves past left p on = subst (λ (x : Stage). StandsAt x past.moves left.places) on p.stands

  pub past_full : (past : Past H) (left : Standing H) → IsPast past left → left.places ≡ [] → left.stage ≡ Open → IsFull (messages_of past.moves) (made_of past.moves)
  past_full past left p none on =
      let came = came_open past.moves (open_moves past left p on) in
      let fits = subst (λ (x : List (Option Answer)). Fits (messages_of past.moves) x) came.0 (past_fits past left p none) in
      subst (λ (x : List (Option Answer)). IsFull (messages_of past.moves) (calls_of (messages_of past.moves) x)) (sym came.0) (full_of (answers_of past.moves) (messages_of past.moves) fits came.1)

  pub past_goes : (past : Past H) (left : Standing H) → IsPast past left → left.places ≡ [] → left.stage ≡ Open → row (messages_of past.moves) (made_of past.moves) ≡ answers_of past.moves
  past_goes past left p none on =
      let came = came_open past.moves (open_moves past left p on) in
      let fits = subst (λ (x : List (Option Answer)). Fits (messages_of past.moves) x) came.0 (past_fits past left p none) in
      subst (λ (x : List (Option Answer)). row (messages_of past.moves) (calls_of (messages_of past.moves) x) ≡ answers_of past.moves) (sym came.0) (row_full (answers_of past.moves) (messages_of past.moves) fits came.1)

  -- no message was refused with `BadFrame`, and what no message was taken of is in hand
  pub past_taken : (past : Past H) (left : Standing H) → IsPast past left → left.places ≡ [] → left.stage ≡ Open → (left.feed.ended ≡ false) × Begins past.received (messages_of past.moves) left.feed.left
  past_taken past left p none on = of p.taken
    where
      of : Taken past.received (messages_of past.moves) left.feed → (left.feed.ended ≡ false) × Begins past.received (messages_of past.moves) left.feed.left
      of (inl t) = t
      of (inr t) =
          let good = none_bad (messages_of past.moves) (made_of past.moves) (past_full past left p none on) in
          absurd (not_bad t.1.0 (subst (λ (x : List Message). AllByRecursion (λ (m : Message). m ≢ Err BadFrame) x) t.1.1 good))

  -- the last of the answers ends the connection
  pub past_last : (past : Past H) (left : Standing H) → IsPast past left → left.places ≡ [] → left.stage ≡ Ended → LastEnds (answers_of past.moves) × (row (messages_of past.moves) (made_of past.moves) ≡ answers_of past.moves)
  past_last past left p none end =
      let last = (subst (λ (x : Stage). StandsAt x past.moves left.places) end p.stands).0 in
      let came = came_of past.moves p.stops in
      let fits = subst (λ (x : List (Option Answer)). Fits (messages_of past.moves) x) came.2 (past_fits past left p none) in
      (last, subst (λ (x : List (Option Answer)). row (messages_of past.moves) (calls_of (messages_of past.moves) x) ≡ answers_of past.moves) (sym came.2) (row_last (answers_of past.moves) (map left_answer came.0) (messages_of past.moves) fits last))

  -- the answers are the first of the row
  pub past_first : (past : Past H) (left : Standing H) → IsPast past left → left.places ≡ [] → (others : List Answer) × (row (messages_of past.moves) (made_of past.moves) ≡ answers_of past.moves ++ others)
  past_first past left p none =
      let came = came_of past.moves p.stops in
      let fits = subst (λ (x : List (Option Answer)). Fits (messages_of past.moves) x) came.2 (past_fits past left p none) in
      subst (λ (x : List (Option Answer)). (others : List Answer) × (row (messages_of past.moves) (calls_of (messages_of past.moves) x) ≡ answers_of past.moves ++ others)) (sym came.2) (first came.1 came.0 fits came.3)
    where
      first : (last : Bool) (given : List (Place H)) → Fits (messages_of past.moves) (map Some (answers_of past.moves) ++ map left_answer given) → EndsAt last (answers_of past.moves) → (others : List Answer) × (row (messages_of past.moves) (calls_of (messages_of past.moves) (map Some (answers_of past.moves) ++ map left_answer given)) ≡ answers_of past.moves ++ others)
      first true given fits end = ([], row_last (answers_of past.moves) (map left_answer given) (messages_of past.moves) fits end ∙ sym (append-nil (answers_of past.moves)))
      first false given fits end =
          let goes = row_goes (answers_of past.moves) (map left_answer given) (messages_of past.moves) fits end in
          (row goes.0 (calls_of goes.0 (map left_answer given)), goes.2)

  pub past_dialogue : (past : Past H) (left : Standing H) → IsPast past left → IsAnswered past left
  past_dialogue past left p none stage = by left.stage refl
    where
      by : (s : Stage) → left.stage ≡ s → Dialogue (messages_of past.moves) (made_of past.moves) (past.written ++ left.unsent)
      by Open e =
          let all = full_dialogue (messages_of past.moves) (made_of past.moves) (past_full past left p none e) in
          record { calls = all.calls; whole = all.whole; text = p.text ∙ ap (λ (x : List Answer). flat_map reply_frame x) (sym (past_goes past left p none e)) }
      by Ended e =
          let last = past_last past left p none e in record {
            calls = front_of (messages_of past.moves) (outcomes past.moves) (past_fits past left p none);
            whole = inl (subst (λ (x : List Answer). IsEnded x) (sym last.1) (last_is_ended (answers_of past.moves) last.0));
            text = p.text ∙ ap (λ (x : List Answer). flat_map reply_frame x) (sym last.1);
          }
      by GivenUp e = absurd (stage e)

-- What comes of lines that are asked over a connection.
use Rattle.std.proofs.Common.{◌≡◌, ◌⊎◌, ℕ, List, [], ◌∷◌, ◌++◌, None, Some, Ok, Err, refl, sym, ap, subst, ◌∙◌, append_assoc, inl, inr}
use Rattle.std.specs.List.{AllByRecursion, AllZip}
use Rattle.std.specs.Io.KnownBytes.{Appends, Consumes, append_known}
use Rattle.std.proofs.lemmas.List.{append-nil}
use Rattle.std.proofs.lemmas.Grind.{flat_map-append}
use Rattle.wire_frames.specs.declared.receiving.ReplyError.{ReplyError}
use Rattle.wire_frames.specs.declared.requests.Request.{Request}
use Rattle.wire_frames.specs.Replies.{IsCut}
use Rattle.cmd_call.specs.Client.{Known}
use Rattle.cmd_call.specs.Lines.{Asked, Ends, Exchanged, HasNoAnswer, HasReply, IsUnread, Loses, LosesReply, Replied, Suits, Unanswered, answer_frame, answer_frames, asked_frame, asked_frames}
use Rattle.cmd_call.specs.Rounds.{ComeAll, Comes, Sends}
use Rattle.cmd_call.specs.declared.outcomes.Outcome.{Outcome}
use Rattle.cmd_call.proofs.Appending.{all_then, appends_none, appends_parts, appends_then, consumes_none, consumes_then, zip_then}

-- Fails says that reading a reply ended with an error, of what the reader had left before and has left then.
module _ (Fails : Known → Known → ReplyError → Type 0) where
  -- ---- lines that are asked one after another

  pub come_push : (asked : List Asked) (outcomes : List Outcome) (e0 e1 e2 : Ends) (line : Asked) (outcome : Outcome) → ComeAll Fails e0 e1 asked outcomes → Comes Fails e1 e2 line outcome
      → ComeAll Fails e0 e2 (asked ++ line ∷ []) (outcomes ++ outcome ∷ [])
  come_push [] [] e0 e1 e2 line outcome p q = (e2, subst (λ (e : Ends). Comes Fails e e2 line outcome) p q, refl)
  come_push [] (o ∷ outcomes) e0 e1 e2 line outcome p q = absurd p
  come_push (l ∷ asked) [] e0 e1 e2 line outcome p q = absurd p
  come_push (l ∷ asked) (o ∷ outcomes) e0 e1 e2 line outcome p q = (p.0, p.1, come_push asked outcomes p.0 e1 e2 line outcome p.2 q)

  -- ---- without a connection

  none_first : (line : Asked) (e : Ends) (outcome : Outcome) → Comes Fails None e line outcome → (e ≡ None) × Suits line outcome × HasNoAnswer outcome
  none_first (Err bad) e outcome p = (p.0, subst (Suits (Err bad)) (sym p.1) refl, subst HasNoAnswer (sym p.1) tt)
  none_first (Ok request) None outcome p = (refl, subst (Suits (Ok request)) (sym p) tt, subst HasNoAnswer (sym p) tt)
  none_first (Ok request) (Some new) outcome p = absurd p

  come_none : (asked : List Asked) (outcomes : List Outcome) (e : Ends) → ComeAll Fails None e asked outcomes → (e ≡ None) × Unanswered asked outcomes
  come_none [] [] e p = (p, record { suit = tt; none = tt })
  come_none [] (o ∷ outcomes) e p = absurd p
  come_none (l ∷ asked) [] e p = absurd p
  come_none (l ∷ asked) (o ∷ outcomes) e p =
      let first = none_first l p.0 o p.1 in
      let rest = come_none asked outcomes e (subst (λ (k : Ends). ComeAll Fails k e asked outcomes) first.0 p.2) in
      (rest.0, record { suit = (first.1, rest.1.suit); none = (first.2, rest.1.none) })

  -- ---- over a connection

  -- each was answered
  record Kept (r w : Known) (e : Ends) (asked : List Asked) (outcomes : List Outcome) : Type 0 where
    reader : Known
    is : e ≡ Some (reader, w)
    suit : AllZip Suits asked outcomes
    all : AllByRecursion HasReply outcomes
    received : Consumes r reader (answer_frames outcomes)

  -- the connection was lost
  record Gone (r : Known) (e : Ends) (asked : List Asked) (outcomes : List Outcome) : Type 0 where
    first : List Asked
    behind : List Asked
    replied : List Outcome
    lost : List Outcome
    reader : Known
    request : Request
    more : List Asked
    is : e ≡ None
    asked_are : asked ≡ first ++ behind
    outcomes_are : outcomes ≡ replied ++ lost
    suit : AllZip Suits first replied
    all : AllByRecursion HasReply replied
    received : Consumes r reader (answer_frames replied)
    have_none : Unanswered behind lost
    behind_are : behind ≡ Ok request ∷ more
    loses : LosesReply Fails reader

  abbrev Went : Known → Known → Ends → List Asked → List Outcome → Type 0
  Went r w e asked outcomes = Kept r w e asked outcomes ⊎ Gone r e asked outcomes

  -- one that was answered stands before the others
  went_more : (line : Asked) (outcome : Outcome) (r r1 w : Known) (e : Ends) (asked : List Asked) (outcomes : List Outcome) → Suits line outcome → HasReply outcome
      → Consumes r r1 (answer_frame outcome) → Went r1 w e asked outcomes → Went r w e (line ∷ asked) (outcome ∷ outcomes)
  went_more line outcome r r1 w e asked outcomes s h c (inl k) = inl (record {
    reader = k.reader;
    is = k.is;
    suit = (s, k.suit);
    all = (h, k.all);
    received = consumes_then r r1 k.reader (answer_frame outcome) (answer_frames outcomes) c k.received;
  })
  went_more line outcome r r1 w e asked outcomes s h c (inr k) = inr (record {
    first = line ∷ k.first;
    behind = k.behind;
    replied = outcome ∷ k.replied;
    lost = k.lost;
    reader = k.reader;
    request = k.request;
    more = k.more;
    is = k.is;
    asked_are = ap (λ (xs : List Asked). line ∷ xs) k.asked_are;
    outcomes_are = ap (λ (xs : List Outcome). outcome ∷ xs) k.outcomes_are;
    suit = (s, k.suit);
    all = (h, k.all);
    received = consumes_then r r1 k.reader (answer_frame outcome) (answer_frames k.replied) c k.received;
    have_none = k.have_none;
    behind_are = k.behind_are;
    loses = k.loses;
  })

  first_went : (line : Asked) (e1 : Ends) (outcome : Outcome) (r w : Known) (e : Ends) (asked : List Asked) (outcomes : List Outcome) → Comes Fails (Some (r, w)) e1 line outcome
      → ComeAll Fails e1 e asked outcomes → ((r2 w2 : Known) → ComeAll Fails (Some (r2, w2)) e asked outcomes → Went r2 w2 e asked outcomes) → Went r w e (line ∷ asked) (outcome ∷ outcomes)
  first_went (Err bad) e1 outcome r w e asked outcomes p rest others =
      went_more (Err bad) outcome r r w e asked outcomes (subst (Suits (Err bad)) (sym p.1) refl) (subst HasReply (sym p.1) tt)
      (subst (λ (o : Outcome). Consumes r r (answer_frame o)) (sym p.1) (consumes_none r))
      (others r w (subst (λ (k : Ends). ComeAll Fails k e asked outcomes) p.0 rest))
  first_went (Ok request) None outcome r w e asked outcomes p rest others =
      let none = come_none asked outcomes e rest in
      inr (record {
        first = [];
        behind = Ok request ∷ asked;
        replied = [];
        lost = outcome ∷ outcomes;
        reader = r;
        request = request;
        more = asked;
        is = none.0;
        asked_are = refl;
        outcomes_are = refl;
        suit = tt;
        all = tt;
        received = consumes_none r;
        have_none = record { suit = (subst (Suits (Ok request)) (sym p.0) tt, none.1.suit); none = (subst HasNoAnswer (sym p.0) tt, none.1.none) };
        behind_are = refl;
        loses = p.1;
      })
  first_went (Ok request) (Some new) outcome r w e asked outcomes p rest others =
      let there : Went new.0 w e asked outcomes =
      subst (λ (x : Known). Went new.0 x e asked outcomes) p.4 (others new.0 new.1 rest) in
      went_more (Ok request) outcome r new.0 w e asked outcomes (subst (Suits (Ok request)) (sym p.1) p.2) (subst HasReply (sym p.1) tt)
      (subst (λ (o : Outcome). Consumes r new.0 (answer_frame o)) (sym p.1) p.3) there

  come_some : (asked : List Asked) (outcomes : List Outcome) (r w : Known) (e : Ends) → ComeAll Fails (Some (r, w)) e asked outcomes → Went r w e asked outcomes
  come_some [] [] r w e p = inl (record { reader = r; is = p; suit = tt; all = tt; received = consumes_none r })
  come_some [] (o ∷ outcomes) r w e p = absurd p
  come_some (l ∷ asked) [] r w e p = absurd p
  come_some (l ∷ asked) (o ∷ outcomes) r w e p =
      first_went l p.0 o r w e asked outcomes p.1 p.2 (λ r2 w2 q. come_some asked outcomes r2 w2 e q)

  -- ---- the requests of all of them were sent before

  went_exchanged : (r0 w0 w : Known) (e : Ends) (asked : List Asked) (outcomes : List Outcome) → Appends w0 w (asked_frames asked) → Went r0 w e asked outcomes
      → Exchanged Fails (Some (r0, w0)) e asked outcomes
  went_exchanged r0 w0 w e asked outcomes sent (inl k) =
      let kept : Exchanged Fails (Some (r0, w0)) (Some (k.reader, w)) asked outcomes = record { suit = k.suit; all = k.all; sent = sent; received = k.received } in
      subst (λ (x : Ends). Exchanged Fails (Some (r0, w0)) x asked outcomes) (sym k.is) kept
  went_exchanged r0 w0 w e asked outcomes sent (inr k) =
      let frames : asked_frames asked ≡ asked_frames k.first ++ asked_frames k.behind = ap asked_frames k.asked_are ∙ flat_map-append asked_frame k.first k.behind in
      let parts = appends_parts w0 w (asked_frames k.first) (asked_frames k.behind) (subst (Appends w0 w) frames sent) in
      let lost : Exchanged Fails (Some (r0, w0)) None asked outcomes = record {
        first = k.first;
        behind = k.behind;
        replied = k.replied;
        lost = k.lost;
        reader = k.reader;
        writer = append_known w0 (asked_frames k.first);
        writer_after = w;
        front = asked_frames k.behind;
        asked_are = k.asked_are;
        outcomes_are = k.outcomes_are;
        have = record { suit = k.suit; all = k.all; sent = parts.0; received = k.received };
        have_none = k.have_none;
        beginning = ([], sym (append-nil (asked_frames k.behind)));
        sent = parts.1;
        cause = inr (record { request = k.request; more = k.more; asked_are = k.behind_are; whole = (asked_frames k.more, ap asked_frames k.behind_are); loses = k.loses });
      } in
      subst (λ (x : Ends). Exchanged Fails (Some (r0, w0)) x asked outcomes) (sym k.is) lost

  pub round_exchanged : (e0 e1 e2 : Ends) (asked : List Asked) (outcomes : List Outcome) → Sends e0 e1 (asked_frames asked) → ComeAll Fails e1 e2 asked outcomes
      → Exchanged Fails e0 e2 asked outcomes
  round_exchanged None None e2 asked outcomes s p =
      let none = come_none asked outcomes e2 p in
      subst (λ (x : Ends). Exchanged Fails None x asked outcomes) (sym none.0) none.1
  round_exchanged None (Some new) e2 asked outcomes s p = absurd s
  round_exchanged (Some old) None e2 asked outcomes s p =
      let none = come_none asked outcomes e2 p in
      let lost : Exchanged Fails (Some old) None asked outcomes = record {
        first = [];
        behind = asked;
        replied = [];
        lost = outcomes;
        reader = old.0;
        writer = old.1;
        writer_after = s.0;
        front = s.1;
        asked_are = refl;
        outcomes_are = refl;
        have = record { suit = tt; all = tt; sent = appends_none old.1; received = consumes_none old.0 };
        have_none = none.1;
        beginning = (s.2.0 ∷ s.2.1, s.2.2);
        sent = s.3;
        cause = inl s.2;
      } in
      subst (λ (x : Ends). Exchanged Fails (Some old) x asked outcomes) (sym none.0) lost
  round_exchanged (Some old) (Some new) e2 asked outcomes s p =
      went_exchanged old.0 old.1 new.1 e2 asked outcomes s.1 (subst (λ (r : Known). Went r new.1 e2 asked outcomes) s.0 (come_some asked outcomes new.0 new.1 e2 p))

  -- ---- lines behind others

  pub exchanged_none : (e : Ends) → Exchanged Fails e e [] []
  exchanged_none None = record { suit = tt; none = tt }
  exchanged_none (Some ends) = record { suit = tt; all = tt; sent = appends_none ends.1; received = consumes_none ends.0 }

  unanswered_then : (asked more : List Asked) (outcomes others : List Outcome) → Unanswered asked outcomes → Unanswered more others → Unanswered (asked ++ more) (outcomes ++ others)
  unanswered_then asked more outcomes others p q =
      record { suit = zip_then Suits asked outcomes more others p.suit q.suit; none = all_then HasNoAnswer outcomes others p.none q.none }

  replied_then : (r0 r1 r2 w0 w1 w2 : Known) (asked more : List Asked) (outcomes others : List Outcome) → Replied r0 r1 w0 w1 asked outcomes → Replied r1 r2 w1 w2 more others
      → Replied r0 r2 w0 w2 (asked ++ more) (outcomes ++ others)
  replied_then r0 r1 r2 w0 w1 w2 asked more outcomes others p q = record {
    suit = zip_then Suits asked outcomes more others p.suit q.suit;
    all = all_then HasReply outcomes others p.all q.all;
    sent = subst (Appends w0 w2) (sym (flat_map-append asked_frame asked more)) (appends_then w0 w1 w2 _ _ p.sent q.sent);
    received = subst (Consumes r0 r2) (sym (flat_map-append answer_frame outcomes others)) (consumes_then r0 r1 r2 _ _ p.received q.received);
  }

  cause_then : (reader : Known) (front : List ℕ) (behind more : List Asked) → IsCut front (asked_frames behind) ⊎ IsUnread Fails reader front behind
      → IsCut front (asked_frames (behind ++ more)) ⊎ IsUnread Fails reader front (behind ++ more)
  cause_then reader front behind more (inl cut) = inl (
    cut.0,
    cut.1 ++ asked_frames more,
    flat_map-append asked_frame behind more ∙ ap (λ (t : List ℕ). t ++ asked_frames more) cut.2 ∙ append_assoc front (cut.0 ∷ cut.1) (asked_frames more),
  )
  cause_then reader front behind more (inr unread) = inr (record {
    request = unread.request;
    more = unread.more ++ more;
    asked_are = ap (λ (xs : List Asked). xs ++ more) unread.asked_are;
    whole = unread.whole;
    loses = unread.loses;
  })

  lost_then : (r0 w0 : Known) (asked more : List Asked) (outcomes others : List Outcome) → Loses Fails r0 w0 asked outcomes → Unanswered more others
      → Loses Fails r0 w0 (asked ++ more) (outcomes ++ others)
  lost_then r0 w0 asked more outcomes others p q = record {
    first = p.first;
    behind = p.behind ++ more;
    replied = p.replied;
    lost = p.lost ++ others;
    reader = p.reader;
    writer = p.writer;
    writer_after = p.writer_after;
    front = p.front;
    asked_are = ap (λ (xs : List Asked). xs ++ more) p.asked_are ∙ append_assoc p.first p.behind more;
    outcomes_are = ap (λ (xs : List Outcome). xs ++ others) p.outcomes_are ∙ append_assoc p.replied p.lost others;
    have = p.have;
    have_none = unanswered_then p.behind more p.lost others p.have_none q;
    beginning = (
      p.beginning.0 ++ asked_frames more,
      flat_map-append asked_frame p.behind more ∙ ap (λ (t : List ℕ). t ++ asked_frames more) p.beginning.1 ∙ append_assoc p.front p.beginning.0 (asked_frames more),
    );
    sent = p.sent;
    cause = cause_then p.reader p.front p.behind more p.cause;
  }

  replied_lost : (r0 r1 w0 w1 : Known) (asked more : List Asked) (outcomes others : List Outcome) → Replied r0 r1 w0 w1 asked outcomes → Loses Fails r1 w1 more others
      → Loses Fails r0 w0 (asked ++ more) (outcomes ++ others)
  replied_lost r0 r1 w0 w1 asked more outcomes others p q = record {
    first = asked ++ q.first;
    behind = q.behind;
    replied = outcomes ++ q.replied;
    lost = q.lost;
    reader = q.reader;
    writer = q.writer;
    writer_after = q.writer_after;
    front = q.front;
    asked_are = ap (λ (xs : List Asked). asked ++ xs) q.asked_are ∙ sym (append_assoc asked q.first q.behind);
    outcomes_are = ap (λ (xs : List Outcome). outcomes ++ xs) q.outcomes_are ∙ sym (append_assoc outcomes q.replied q.lost);
    have = replied_then r0 r1 q.reader w0 w1 q.writer asked q.first outcomes q.replied p q.have;
    have_none = q.have_none;
    beginning = q.beginning;
    sent = q.sent;
    cause = q.cause;
  }

  pub exchanged_then : (e0 e1 e2 : Ends) (asked more : List Asked) (outcomes others : List Outcome) → Exchanged Fails e0 e1 asked outcomes → Exchanged Fails e1 e2 more others
      → Exchanged Fails e0 e2 (asked ++ more) (outcomes ++ others)
  exchanged_then None None None asked more outcomes others p q = unanswered_then asked more outcomes others p q
  exchanged_then None None (Some new) asked more outcomes others p q = absurd q
  exchanged_then None (Some mid) e2 asked more outcomes others p q = absurd p
  exchanged_then (Some old) None None asked more outcomes others p q = lost_then old.0 old.1 asked more outcomes others p q
  exchanged_then (Some old) None (Some new) asked more outcomes others p q = absurd q
  exchanged_then (Some old) (Some mid) None asked more outcomes others p q = replied_lost old.0 mid.0 old.1 mid.1 asked more outcomes others p q
  exchanged_then (Some old) (Some mid) (Some new) asked more outcomes others p q =
      replied_then old.0 mid.0 new.0 old.1 mid.1 new.1 asked more outcomes others p q

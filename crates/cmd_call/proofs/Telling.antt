-- What is printed of what came of lines.
use Rattle.std.proofs.Common.{◌≡◌, ℕ, zero, suc, arith, List, [], ◌∷◌, ◌++◌, refl, sym, ap, subst, ◌∙◌, append_assoc}
use Rattle.std.specs.List.{flat_map}
use Rattle.std.specs.Io.KnownBytes.{Appends}
use Rattle.std.proofs.lemmas.List.{append-nil}
use Rattle.std.proofs.lemmas.Grind.{flat_map-append}
use Rattle.wire_frames.specs.Replies.{IsCut}
use Rattle.wire_frames.specs.declared.receiving.ReplyError.{ReplyError}
use Rattle.cmd_call.specs.Client.{Known}
use Rattle.cmd_call.specs.Lines.{Answers, Asked, BreaksOff, Ends, IsLineOf, Tells, asked_frames, first_of, status_of, status_of_all}
use Rattle.cmd_call.specs.Rounds.{ComeAll, Comes, Sends, TellsNext, TellsRound}
use Rattle.cmd_call.specs.declared.outcomes.Outcome.{Outcome}
use Rattle.cmd_call.proofs.Appending.{appends_none, appends_then, zip_then}
use Rattle.cmd_call.proofs.Exchanging.{come_push, exchanged_none, exchanged_then, round_exchanged}

-- ---- statuses

first_assoc : (a b c : ℕ) → first_of a (first_of b c) ≡ first_of (first_of a b) c
first_assoc zero b c = refl
first_assoc (suc a) b c = grind arith

first_zero : (a : ℕ) → first_of a 0 ≡ a
first_zero zero = refl
first_zero (suc a) = grind arith

status_then : (outcomes others : List Outcome) → status_of_all (outcomes ++ others) ≡ first_of (status_of_all outcomes) (status_of_all others)
status_then [] others = refl
status_then (outcome ∷ outcomes) others =
    ap (first_of (status_of outcome)) (status_then outcomes others) ∙ first_assoc (status_of outcome) (status_of_all outcomes) (status_of_all others)

-- ---- texts

tells_none : Tells [] []
tells_none = record { lines = []; each = tt; is = refl }

tells_one : (outcome : Outcome) (line : List ℕ) → IsLineOf outcome line → Tells (outcome ∷ []) line
tells_one outcome line p = record { lines = line ∷ []; each = (p, tt); is = sym (append-nil line) }

tells_then : (outcomes others : List Outcome) (text more : List ℕ) → Tells outcomes text → Tells others more → Tells (outcomes ++ others) (text ++ more)
tells_then outcomes others text more p q = record {
  lines = p.lines ++ q.lines;
  each = zip_then IsLineOf outcomes p.lines others q.lines p.each q.each;
  is =
      ap (λ (t : List ℕ). t ++ more) p.is ∙ ap (λ (t : List ℕ). flat_map (λ (line : List ℕ). line) p.lines ++ t) q.is
      ∙ sym (flat_map-append (λ (line : List ℕ). line) p.lines q.lines);
}

-- ---- rounds

-- Fails says that reading a reply ended with an error, of what the reader had left before and has left then.
module _ (Fails : Known → Known → ReplyError → Type 0) where
  -- ---- a round

  pub tells_round_none : (e : Ends) (text : List ℕ) (status : ℕ) → TellsRound Fails e e text text [] status status
  tells_round_none e text status = record { outcomes = []; text = []; come = refl; tells = tells_none; told = sym (append-nil text); status_is = sym (first_zero status) }

  pub tells_round_push : (e0 e1 e2 : Ends) (t0 t1 t2 : List ℕ) (asked : List Asked) (s0 s1 : ℕ) (line : Asked) (outcome : Outcome) → TellsRound Fails e0 e1 t0 t1 asked s0 s1
      → Comes Fails e1 e2 line outcome → TellsNext outcome t1 t2 → TellsRound Fails e0 e2 t0 t2 (asked ++ line ∷ []) s0 (first_of s1 (status_of outcome))
  tells_round_push e0 e1 e2 t0 t1 t2 asked s0 s1 line outcome p q r = record {
    outcomes = p.outcomes ++ outcome ∷ [];
    text = p.text ++ r.0;
    come = come_push Fails asked p.outcomes e0 e1 e2 line outcome p.come q;
    tells = tells_then p.outcomes (outcome ∷ []) p.text r.0 p.tells (tells_one outcome r.0 r.1);
    told = r.2 ∙ ap (λ (t : List ℕ). t ++ r.0) p.told ∙ append_assoc t0 p.text r.0;
    status_is =
        ap (λ (s : ℕ). first_of s (status_of outcome)) p.status_is ∙ sym (first_assoc s0 (status_of_all p.outcomes) (status_of outcome))
        ∙ ap (λ (s : ℕ). first_of s0 (first_of (status_of_all p.outcomes) s)) (sym (first_zero (status_of outcome)))
        ∙ ap (first_of s0) (sym (status_then p.outcomes (outcome ∷ [])));
  }

  -- ---- one round behind another

  pub answers_none : (e : Ends) (o : Known) (status : ℕ) → Answers Fails e e o o [] status status
  answers_none e o status = record {
    outcomes = [];
    text = [];
    exchanged = exchanged_none Fails e;
    tells = tells_none;
    printed = appends_none o;
    status_is = sym (first_zero status);
  }

  pub answers_then : (e0 e1 e2 : Ends) (o0 o1 o2 : Known) (asked more : List Asked) (s0 s1 s2 : ℕ) → Answers Fails e0 e1 o0 o1 asked s0 s1 → Answers Fails e1 e2 o1 o2 more s1 s2
      → Answers Fails e0 e2 o0 o2 (asked ++ more) s0 s2
  answers_then e0 e1 e2 o0 o1 o2 asked more s0 s1 s2 p q = record {
    outcomes = p.outcomes ++ q.outcomes;
    text = p.text ++ q.text;
    exchanged = exchanged_then Fails e0 e1 e2 asked more p.outcomes q.outcomes p.exchanged q.exchanged;
    tells = tells_then p.outcomes q.outcomes p.text q.text p.tells q.tells;
    printed = appends_then o0 o1 o2 p.text q.text p.printed q.printed;
    status_is =
        q.status_is ∙ ap (λ (s : ℕ). first_of s (status_of_all q.outcomes)) p.status_is
        ∙ sym (first_assoc s0 (status_of_all p.outcomes) (status_of_all q.outcomes)) ∙ ap (first_of s0) (sym (status_then p.outcomes q.outcomes));
  }

  -- all of it is a beginning of it
  pub answers_break : (e0 e1 : Ends) (o0 o1 : Known) (asked : List Asked) (s0 s1 : ℕ) → Answers Fails e0 e1 o0 o1 asked s0 s1 → BreaksOff Fails e0 o0 o1 asked
  answers_break e0 e1 o0 o1 asked s0 s1 p = record {
    after = e1;
    outcomes = p.outcomes;
    text = p.text;
    front = p.text;
    exchanged = p.exchanged;
    tells = p.tells;
    beginning = ([], sym (append-nil p.text));
    printed = p.printed;
  }

  pub answers_break_then : (e0 e1 : Ends) (o0 o1 o2 : Known) (asked more : List Asked) (s0 s1 : ℕ) → Answers Fails e0 e1 o0 o1 asked s0 s1 → BreaksOff Fails e1 o1 o2 more
      → BreaksOff Fails e0 o0 o2 (asked ++ more)
  answers_break_then e0 e1 o0 o1 o2 asked more s0 s1 p q = record {
    after = q.after;
    outcomes = p.outcomes ++ q.outcomes;
    text = p.text ++ q.text;
    front = p.text ++ q.front;
    exchanged = exchanged_then Fails e0 e1 q.after asked more p.outcomes q.outcomes p.exchanged q.exchanged;
    tells = tells_then p.outcomes q.outcomes p.text q.text p.tells q.tells;
    beginning = (q.beginning.0, ap (λ (t : List ℕ). p.text ++ t) q.beginning.1 ∙ sym (append_assoc p.text q.front q.beginning.0));
    printed = appends_then o0 o1 o2 p.text q.front p.printed q.printed;
  }

  -- ---- a round is sent, and what comes of it is printed

  module _ (e0 e e1 : Ends) (o0 o1 : Known) (asked those : List Asked) (frames t0 t1 bytes : List ℕ) (s0 s1 : ℕ) (sent : Sends e0 e frames) (are : frames ≡ asked_frames asked)
      (told : TellsRound Fails e e1 t0 t1 those s0 s1) (same : those ≡ asked) (empty : t0 ≡ []) (is : bytes ≡ t1) where
    all_sent : Sends e0 e (asked_frames asked)
    all_sent = subst (Sends e0 e) are sent

    text_is : bytes ≡ told.text
    text_is = is ∙ told.told ∙ ap (λ (t : List ℕ). t ++ told.text) empty

    pub round_answers : Appends o0 o1 bytes → Answers Fails e0 e1 o0 o1 asked s0 s1
    round_answers printed = record {
      outcomes = told.outcomes;
      text = told.text;
      exchanged = round_exchanged Fails e0 e e1 asked told.outcomes all_sent (subst (λ (xs : List Asked). ComeAll Fails e e1 xs told.outcomes) same told.come);
      tells = told.tells;
      printed = subst (Appends o0 o1) text_is printed;
      status_is = told.status_is;
    }

    pub round_cut : (front : List ℕ) × IsCut front bytes × Appends o0 o1 front → BreaksOff Fails e0 o0 o1 asked
    round_cut p = record {
      after = e1;
      outcomes = told.outcomes;
      text = told.text;
      front = p.0;
      exchanged = round_exchanged Fails e0 e e1 asked told.outcomes all_sent (subst (λ (xs : List Asked). ComeAll Fails e e1 xs told.outcomes) same told.come);
      tells = told.tells;
      beginning = (p.1.0 ∷ p.1.1, sym text_is ∙ p.1.2);
      printed = p.2;
    }

-- What came of the lines of an input so far.
use Rattle.std.proofs.Common.{◌≡◌, ◌⊎◌, ◌<◌, ◌+◌, ◌==◌, ℕ, true, false, get_or, take, drop, List, [], ◌∷◌, ◌++◌, map, length, refl, sym, ap, subst, ◌∙◌, append_assoc, inl, inr, arith}
use Rattle.std.specs.List.{AllByRecursion, flat_map}
use Rattle.std.specs.Io.KnownBytes.{Consumes, IsAtEnd}
use Rattle.std.proofs.lemmas.Bool.{eqb-true, true≢false}
use Rattle.std.proofs.lemmas.List.{append-nil, map-append, take-append-drop, take_more}
use Rattle.std.proofs.lemmas.Grind.{flat_map-append}
use Rattle.call_text.specs.Names.{Text}
use Rattle.wire_frames.specs.declared.receiving.ReplyError.{ReplyError}
use Rattle.cmd_call.specs.Client.{Known}
use Rattle.cmd_call.specs.Lines.{Answers, Asked, BreaksOff, Divides, Ends, IsLine, asked_in, ended, last_line}
use Rattle.cmd_call.specs.Inputs.{AnswersAll, AnswersSome, Breaks, Reads, StopsAt, Underway}
use Rattle.cmd_call.proofs.Appending.{all_then, consumes_none, consumes_then}
use Rattle.cmd_call.proofs.Telling.{answers_break, answers_break_then, answers_none, answers_then}

-- all of them
asked_all : (whole answered waiting : List Text) (asked : List Asked) → whole ≡ answered ++ waiting → asked ≡ map asked_in waiting → map asked_in answered ++ asked ≡ map asked_in whole
asked_all whole answered waiting asked are is =
    ap (λ (xs : List Asked). map asked_in answered ++ xs) is ∙ sym (map-append asked_in answered waiting) ∙ ap (map asked_in) (sym are)

pub divides_none : Divides [] [] []
divides_none = record { parts = refl; each = tt; last = tt }

divides_line : (bytes : List ℕ) (whole : List Text) (part : Text) → Divides bytes whole part → Divides (bytes ++ 10 ∷ []) (whole ++ part ∷ []) []
divides_line bytes whole part d = record {
  parts =
      ap (λ (xs : List ℕ). xs ++ 10 ∷ []) d.parts ∙ append_assoc (flat_map ended whole) part (10 ∷ [])
      ∙ ap (λ (xs : List ℕ). flat_map ended whole ++ xs) (sym (append-nil (part ++ 10 ∷ []))) ∙ sym (flat_map-append ended whole (part ∷ []))
      ∙ sym (append-nil (flat_map ended (whole ++ part ∷ [])));
  each = all_then IsLine whole (part ∷ []) d.each (d.last, tt);
  last = tt;
}

all_front : {A : Type 0} (P : A → Type 0) (xs more : List A) → AllByRecursion P (xs ++ more) → AllByRecursion P xs
all_front P [] more p = tt
all_front P (x ∷ xs) more p = (p.0, all_front P xs more p.1)

pub with_no_last : (whole : List Text) (part : Text) → (length part == 0) ≡ true → whole ++ last_line part ≡ whole
with_no_last whole [] e = append-nil whole
with_no_last whole (byte ∷ part) e = absurd (let none = eqb-true _ _ e in omega (arith, none))

pub with_last : (whole : List Text) (part : Text) → (length part == 0) ≡ false → whole ++ last_line part ≡ whole ++ part ∷ []
with_last whole [] e = absurd (true≢false e)
with_last whole (byte ∷ part) e = refl

-- nothing more is read
at_end : (i0 i1 i2 : Known) (bytes room : List ℕ) (len : ℕ) → Consumes i0 i1 bytes → Consumes i1 i2 (take len room) → len ≡ 0 → Consumes i0 i2 bytes
at_end i0 i1 i2 bytes room len read next e =
    subst (Consumes i0 i2) (append-nil bytes) (consumes_then i0 i1 i2 bytes [] read (subst (λ (n : ℕ). Consumes i1 i2 (take n room)) e next))

-- ---- lines

-- Fails says that reading a reply ended with an error, of what the reader had left before and has left then.
module _ (Fails : Known → Known → ReplyError → Type 0) where
  -- ---- lines that wait

  pub underway_none : (e : Ends) (o : Known) (asked : List Asked) → asked ≡ [] → Underway Fails e e o o [] asked 0
  underway_none e o asked none = record { answered = []; waiting = []; are = refl; answers = answers_none Fails e o 0; asked_are = none }

  pub underway_more : (e0 e1 : Ends) (o0 o1 : Known) (whole : List Text) (asked more : List Asked) (status : ℕ) (line : Text) → more ≡ asked ++ asked_in line ∷ []
      → Underway Fails e0 e1 o0 o1 whole asked status → Underway Fails e0 e1 o0 o1 (whole ++ line ∷ []) more status
  underway_more e0 e1 o0 o1 whole asked more status line is u = record {
    answered = u.answered;
    waiting = u.waiting ++ line ∷ [];
    are = ap (λ (xs : List Text). xs ++ line ∷ []) u.are ∙ append_assoc u.answered u.waiting (line ∷ []);
    answers = u.answers;
    asked_are = is ∙ ap (λ (xs : List Asked). xs ++ asked_in line ∷ []) u.asked_are ∙ sym (map-append asked_in u.waiting (line ∷ []));
  }

  pub underway_answered : (e0 e1 e2 : Ends) (o0 o1 o2 : Known) (whole : List Text) (asked left : List Asked) (s0 s1 : ℕ) → left ≡ [] → Underway Fails e0 e1 o0 o1 whole asked s0
      → Answers Fails e1 e2 o1 o2 asked s0 s1 → Underway Fails e0 e2 o0 o2 whole left s1
  underway_answered e0 e1 e2 o0 o1 o2 whole asked left s0 s1 none u a = record {
    answered = whole;
    waiting = [];
    are = sym (append-nil whole);
    answers =
        subst (λ (xs : List Asked). Answers Fails e0 e2 o0 o2 xs 0 s1) (asked_all whole u.answered u.waiting asked u.are u.asked_are)
        (answers_then Fails e0 e1 e2 o0 o1 o2 (map asked_in u.answered) asked 0 s0 s1 u.answers a);
    asked_are = none;
  }

  -- what was answered of them
  pub all_answered : (e0 e1 e2 : Ends) (o0 o1 o2 : Known) (whole : List Text) (asked : List Asked) (s0 s1 : ℕ) → Underway Fails e0 e1 o0 o1 whole asked s0
      → Answers Fails e1 e2 o1 o2 asked s0 s1 → Answers Fails e0 e2 o0 o2 (map asked_in whole) 0 s1
  all_answered e0 e1 e2 o0 o1 o2 whole asked s0 s1 u a =
      subst (λ (xs : List Asked). Answers Fails e0 e2 o0 o2 xs 0 s1) (asked_all whole u.answered u.waiting asked u.are u.asked_are)
      (answers_then Fails e0 e1 e2 o0 o1 o2 (map asked_in u.answered) asked 0 s0 s1 u.answers a)

  -- ---- it goes no further

  pub underway_breaks : (e0 e1 : Ends) (o0 o1 : Known) (whole more : List Text) (asked : List Asked) (status : ℕ) → Underway Fails e0 e1 o0 o1 whole asked status
      → Breaks Fails e0 o0 o1 (whole ++ more)
  underway_breaks e0 e1 o0 o1 whole more asked status u = record {
    first = u.answered;
    others = u.waiting ++ more;
    are = ap (λ (xs : List Text). xs ++ more) u.are ∙ append_assoc u.answered u.waiting more;
    breaks = answers_break Fails e0 e1 o0 o1 (map asked_in u.answered) 0 status u.answers;
  }

  pub round_breaks : (e0 e1 : Ends) (o0 o1 o2 : Known) (whole : List Text) (asked : List Asked) (status : ℕ) → Underway Fails e0 e1 o0 o1 whole asked status
      → (o2 ≡ o1) ⊎ BreaksOff Fails e1 o1 o2 asked → Breaks Fails e0 o0 o2 whole
  round_breaks e0 e1 o0 o1 o2 whole asked status u (inl same) =
      let breaks = underway_breaks e0 e1 o0 o1 whole [] asked status u in
      subst (λ (xs : List Text). Breaks Fails e0 o0 o2 xs) (append-nil whole) (subst (λ (o : Known). Breaks Fails e0 o0 o (whole ++ [])) (sym same) breaks)
  round_breaks e0 e1 o0 o1 o2 whole asked status u (inr b) = record {
    first = whole;
    others = [];
    are = sym (append-nil whole);
    breaks =
        subst (λ (xs : List Asked). BreaksOff Fails e0 o0 o2 xs) (asked_all whole u.answered u.waiting asked u.are u.asked_are)
        (answers_break_then Fails e0 e1 o0 o1 o2 (map asked_in u.answered) asked 0 status u.answers b);
  }

  -- ---- bytes

  stops_in : (bytes : List ℕ) (lines : List Text) (rest : List ℕ) (e0 : Ends) (o0 o1 : Known) → bytes ≡ flat_map ended lines ++ rest → AllByRecursion IsLine lines
      → Breaks Fails e0 o0 o1 lines → StopsAt Fails bytes e0 o0 o1
  stops_in bytes lines rest e0 o0 o1 parts each b = record {
    lines = b.first;
    rest = flat_map ended b.others ++ rest;
    parts =
        parts ∙ ap (λ (xs : List Text). flat_map ended xs ++ rest) b.are ∙ ap (λ (xs : List ℕ). xs ++ rest) (flat_map-append ended b.first b.others)
        ∙ append_assoc (flat_map ended b.first) (flat_map ended b.others) rest;
    each = all_front IsLine b.first b.others (subst (AllByRecursion IsLine) b.are each);
    breaks = b.breaks;
  }

  pub stops_more : (bytes more : List ℕ) (e0 : Ends) (o0 o1 : Known) → StopsAt Fails bytes e0 o0 o1 → StopsAt Fails (bytes ++ more) e0 o0 o1
  stops_more bytes more e0 o0 o1 s = record {
    lines = s.lines;
    rest = s.rest ++ more;
    parts = ap (λ (xs : List ℕ). xs ++ more) s.parts ∙ append_assoc (flat_map ended s.lines) s.rest more;
    each = s.each;
    breaks = s.breaks;
  }

  -- ---- the next byte

  pub reads_none : (e : Ends) (o : Known) (part : Text) (asked : List Asked) → part ≡ [] → asked ≡ [] → Reads Fails [] part e e o o asked 0
  reads_none e o part asked empty none =
      record { whole = []; divides = subst (Divides [] []) (sym empty) divides_none; underway = underway_none e o asked none }

  module _ (bytes : List ℕ) (part : Text) (e0 e1 : Ends) (o0 o1 : Known) (asked : List Asked) (status : ℕ) (r : Reads Fails bytes part e0 e1 o0 o1 asked status) where
    pub reads_line : (after : Text) (byte : ℕ) (e2 : Ends) (o2 : Known) (left : List Asked) (s : ℕ) → byte ≡ 10 → after ≡ []
        → ((whole : List Text) (e : Ends) (o : Known) → Underway Fails e e1 o o1 whole asked status → Underway Fails e e2 o o2 (whole ++ part ∷ []) left s)
        → Reads Fails (bytes ++ byte ∷ []) after e0 e2 o0 o2 left s
    reads_line after byte e2 o2 left s is empty goes = record {
      whole = r.whole ++ part ∷ [];
      divides =
          subst (λ (b : ℕ). Divides (bytes ++ b ∷ []) (r.whole ++ part ∷ []) after) (sym is)
          (subst (Divides (bytes ++ 10 ∷ []) (r.whole ++ part ∷ [])) (sym empty) (divides_line bytes r.whole part r.divides));
      underway = goes r.whole e0 o0 r.underway;
    }

    -- no memory was found
    pub reads_stop : (more : List ℕ) → StopsAt Fails (bytes ++ more) e0 o0 o1
    reads_stop more =
        stops_more bytes more e0 o0 o1
        (stops_in bytes r.whole part e0 o0 o1 r.divides.parts r.divides.each
        (subst (λ (xs : List Text). Breaks Fails e0 o0 o1 xs) (append-nil r.whole) (underway_breaks e0 e1 o0 o1 r.whole [] asked status r.underway)))

    -- the part is a line, and it goes no further
    pub line_stops : (byte : ℕ) (o2 : Known) → byte ≡ 10
        → ((whole : List Text) (e : Ends) (o : Known) → Underway Fails e e1 o o1 whole asked status → Breaks Fails e o o2 (whole ++ part ∷ []))
        → StopsAt Fails (bytes ++ byte ∷ []) e0 o0 o2
    line_stops byte o2 is breaks =
        let line = divides_line bytes r.whole part r.divides in
        subst (λ (b : ℕ). StopsAt Fails (bytes ++ b ∷ []) e0 o0 o2) (sym is)
        (stops_in (bytes ++ 10 ∷ []) (r.whole ++ part ∷ []) [] e0 o0 o2 line.parts line.each (breaks r.whole e0 o0 r.underway))

    -- the whole lines in hand are answered
    pub reads_answered : (e2 : Ends) (o2 : Known) (left : List Asked) (s : ℕ) → left ≡ [] → Answers Fails e1 e2 o1 o2 asked status s → Reads Fails bytes part e0 e2 o0 o2 left s
    reads_answered e2 o2 left s none a =
        record { whole = r.whole; divides = r.divides; underway = underway_answered e0 e1 e2 o0 o1 o2 r.whole asked left status s none r.underway a }

    pub round_stops : (o2 : Known) → (o2 ≡ o1) ⊎ BreaksOff Fails e1 o1 o2 asked → StopsAt Fails bytes e0 o0 o2
    round_stops o2 b =
        stops_in bytes r.whole part e0 o0 o2 r.divides.parts r.divides.each (round_breaks e0 e1 o0 o1 o2 r.whole asked status r.underway b)

  -- ---- the end of the input

  pub record Read (i0 i1 : Known) (part : Text) (e0 e1 : Ends) (o0 o1 : Known) (asked : List Asked) (status : ℕ) : Type 0 where
    pub bytes : List ℕ
    pub read : Consumes i0 i1 bytes
    pub reads : Reads Fails bytes part e0 e1 o0 o1 asked status

  pub read_none : (i : Known) (e : Ends) (o : Known) (part : Text) (asked : List Asked) → part ≡ [] → asked ≡ [] → Read i i part e e o o asked 0
  read_none i e o part asked empty none = record { bytes = []; read = consumes_none i; reads = reads_none e o part asked empty none }

  module _ (i0 i1 i2 : Known) (part : Text) (e0 e1 : Ends) (o0 o1 : Known) (asked : List Asked) (status : ℕ) (piece : List ℕ) (r : Read i0 i1 part e0 e1 o0 o1 asked status)
      (next : Consumes i1 i2 piece) where
    pub read_more : (after : Text) (e2 : Ends) (o2 : Known) (left : List Asked) (s : ℕ)
        → ((bytes : List ℕ) (e : Ends) (o : Known) → Reads Fails bytes part e e1 o o1 asked status → Reads Fails (bytes ++ piece) after e e2 o o2 left s) → Read i0 i2 after e0 e2 o0 o2 left s
    read_more after e2 o2 left s goes =
        record { bytes = r.bytes ++ piece; read = consumes_then i0 i1 i2 r.bytes piece r.read next; reads = goes r.bytes e0 o0 r.reads }

    pub read_stops : (o2 : Known) → ((bytes : List ℕ) (e : Ends) (o : Known) → Reads Fails bytes part e e1 o o1 asked status → StopsAt Fails (bytes ++ piece) e o o2)
        → AnswersSome Fails i0 i2 e0 o0 o2
    read_stops o2 stops = record { bytes = r.bytes ++ piece; read = consumes_then i0 i1 i2 r.bytes piece r.read next; stops = inl (stops r.bytes e0 o0 r.reads) }

  -- the byte behind the first ones, and those behind it
  pub stops_piece : (bytes piece : List ℕ) (at byte : ℕ) (e0 : Ends) (o0 o1 : Known) → at < length piece → byte ≡ get_or piece at 0
      → StopsAt Fails (bytes ++ take at piece ++ byte ∷ []) e0 o0 o1 → StopsAt Fails (bytes ++ piece) e0 o0 o1
  stops_piece bytes piece at byte e0 o0 o1 within is s =
      let next : take (at + 1) piece ≡ take at piece ++ byte ∷ [] = take_more piece at 0 within ∙ ap (λ (b : ℕ). take at piece ++ b ∷ []) (sym is) in
      let whole : bytes ++ take at piece ++ byte ∷ [] ++ drop (at + 1) piece ≡ bytes ++ piece =
      ap (λ (xs : List ℕ). xs ++ drop (at + 1) piece) (append_assoc bytes (take at piece) (byte ∷ []))
      ∙ append_assoc bytes (take at piece ++ byte ∷ []) (drop (at + 1) piece)
      ∙ ap (λ (xs : List ℕ). bytes ++ (xs ++ drop (at + 1) piece)) (sym next) ∙ ap (λ (xs : List ℕ). bytes ++ xs) (take-append-drop (at + 1) piece) in
      subst (λ (xs : List ℕ). StopsAt Fails xs e0 o0 o1) whole (stops_more (bytes ++ take at piece ++ byte ∷ []) (drop (at + 1) piece) e0 o0 o1 s)

  -- ---- the last line

  module _ (e0 e1 e2 : Ends) (o0 o1 o2 : Known) (whole : List Text) (asked : List Asked) (s0 s1 : ℕ) (part : Text) where
    pub no_last_answers : (length part == 0) ≡ true → Underway Fails e0 e1 o0 o1 whole asked s0 → Answers Fails e1 e2 o1 o2 asked s0 s1
        → Answers Fails e0 e2 o0 o2 (map asked_in (whole ++ last_line part)) 0 s1
    no_last_answers e u a =
        subst (λ (xs : List Text). Answers Fails e0 e2 o0 o2 (map asked_in xs) 0 s1) (sym (with_no_last whole part e)) (all_answered e0 e1 e2 o0 o1 o2 whole asked s0 s1 u a)

    pub last_answers : (length part == 0) ≡ false → Underway Fails e0 e1 o0 o1 (whole ++ part ∷ []) asked s0 → Answers Fails e1 e2 o1 o2 asked s0 s1
        → Answers Fails e0 e2 o0 o2 (map asked_in (whole ++ last_line part)) 0 s1
    last_answers e u a =
        subst (λ (xs : List Text). Answers Fails e0 e2 o0 o2 (map asked_in xs) 0 s1) (sym (with_last whole part e))
        (all_answered e0 e1 e2 o0 o1 o2 (whole ++ part ∷ []) asked s0 s1 u a)

  module _ (e0 e1 : Ends) (o0 o1 o2 : Known) (whole : List Text) (asked : List Asked) (status : ℕ) (part : Text) where
    pub no_last_breaks : (length part == 0) ≡ true → Underway Fails e0 e1 o0 o1 whole asked status → (o2 ≡ o1) ⊎ BreaksOff Fails e1 o1 o2 asked → Breaks Fails e0 o0 o2 (whole ++ last_line part)
    no_last_breaks e u b = subst (λ (xs : List Text). Breaks Fails e0 o0 o2 xs) (sym (with_no_last whole part e)) (round_breaks e0 e1 o0 o1 o2 whole asked status u b)

    pub last_breaks : (length part == 0) ≡ false → Underway Fails e0 e1 o0 o1 (whole ++ part ∷ []) asked status → (o2 ≡ o1) ⊎ BreaksOff Fails e1 o1 o2 asked
        → Breaks Fails e0 o0 o2 (whole ++ last_line part)
    last_breaks e u b =
        subst (λ (xs : List Text). Breaks Fails e0 o0 o2 xs) (sym (with_last whole part e)) (round_breaks e0 e1 o0 o1 o2 (whole ++ part ∷ []) asked status u b)

  -- it goes no further
  pub stopped : (i0 i1 i2 : Known) (part : Text) (e0 e1 : Ends) (o0 o1 : Known) (asked : List Asked) (status : ℕ) (piece : List ℕ) → Read i0 i1 part e0 e1 o0 o1 asked status
      → Consumes i1 i2 piece → AnswersSome Fails i0 i2 e0 o0 o1
  stopped i0 i1 i2 part e0 e1 o0 o1 asked status piece r next = record {
    bytes = r.bytes ++ piece;
    read = consumes_then i0 i1 i2 r.bytes piece r.read next;
    stops = inl (reads_stop r.bytes part e0 e1 o0 o1 asked status r.reads piece);
  }

  last_stops : (bytes : List ℕ) (whole : List Text) (part : Text) (e0 : Ends) (o0 o1 : Known) → Divides bytes whole part → Breaks Fails e0 o0 o1 (whole ++ last_line part)
      → StopsAt Fails bytes e0 o0 o1 ⊎ StopsAt Fails (ended bytes) e0 o0 o1
  last_stops bytes whole [] e0 o0 o1 d b =
      inl (stops_in bytes whole [] e0 o0 o1 d.parts d.each (subst (λ (xs : List Text). Breaks Fails e0 o0 o1 xs) (append-nil whole) b))
  last_stops bytes whole (byte ∷ part) e0 o0 o1 d b =
      let line = divides_line bytes whole (byte ∷ part) d in inr (stops_in (ended bytes) (whole ++ (byte ∷ part) ∷ []) [] e0 o0 o1 line.parts line.each b)

  module _ (i0 i1 i2 : Known) (part : Text) (e0 e1 : Ends) (o0 o1 o2 : Known) (asked : List Asked) (status : ℕ) (room : List ℕ) (len : ℕ) (r : Read i0 i1 part e0 e1 o0 o1 asked status)
      (next : Consumes i1 i2 (take len room)) (none : len ≡ 0) where
    pub end_stops : ((whole : List Text) (e : Ends) (o : Known) → Underway Fails e e1 o o1 whole asked status → Breaks Fails e o o2 (whole ++ last_line part)) → AnswersSome Fails i0 i2 e0 o0 o2
    end_stops breaks = record {
      bytes = r.bytes;
      read = at_end i0 i1 i2 r.bytes room len r.read next none;
      stops = last_stops r.bytes r.reads.whole part e0 o0 o2 r.reads.divides (breaks r.reads.whole e0 o0 r.reads.underway);
    }

    pub end_answers : (e2 : Ends) (s : ℕ) → IsAtEnd i2
        → ((whole : List Text) (e : Ends) (o : Known) → Underway Fails e e1 o o1 whole asked status → Answers Fails e e2 o o2 (map asked_in (whole ++ last_line part)) 0 s)
        → AnswersAll Fails i0 i2 e0 o0 o2 s
    end_answers e2 s ended_there answers = record {
      bytes = r.bytes;
      whole = r.reads.whole;
      part = part;
      after = e2;
      read = at_end i0 i1 i2 r.bytes room len r.read next none;
      at_end = ended_there;
      divides = r.reads.divides;
      answers = answers r.reads.whole e0 o0 r.reads.underway;
    }

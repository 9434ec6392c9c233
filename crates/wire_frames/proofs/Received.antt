-- What was read so far of a frame.
use Rattle.std.proofs.Common.{◌≡◌, ℕ, ◌+◌, ◌-◌, ◌*◌, ◌/◌, ◌%◌, ◌<◌, ◌≤◌, List, [], ◌∷◌, ◌++◌, length, take, drop, slice_range, Option, Some, None, Ok, Err, sym, ap, subst, ◌∙◌, append_assoc, le_refl, drop_at, length-take-le, arith}
use Rattle.std.specs.Io.KnownBytes.{Consumes}
use Rattle.std.specs.Int.{w16, to_be_bytes}
use Rattle.std.proofs.lemmas.List.{append-nil, take_at}
use Rattle.std.proofs.lemmas.Nat.{from_be_bytes-to_be_bytes_2}
use Rattle.std.proofs.lemmas.Slice.{take-put_mid_below}
use borrow.Rule.Slice.PartMut.{put_mid, post_of}
use lib.Seq.{take-add, take-append-le}
use Rattle.wire_frames.specs.declared.receiving.ReplyError.{ReplyError}
use Rattle.wire_frames.specs.declared.receiving.ReplyError.TheVariants.{Reader, Ended, NotAReply, NoMemory}
use Rattle.wire_frames.specs.Messages.{frame}
use Rattle.wire_frames.specs.Answers.{Answer, IsReply}
use Rattle.wire_frames.specs.Receiving.{IsUnfinished, Stops, ReadsLength, LacksBody, ReadsReply}

pub Consumes-then : (a b c : Option (List ℕ)) (x y : List ℕ) → Consumes a b x → Consumes b c y → Consumes a c (x ++ y)
Consumes-then None b c x y p q = tt
Consumes-then (Some xs) None c x y p q = absurd p
Consumes-then (Some xs) (Some ys) None x y p q = absurd q
Consumes-then (Some xs) (Some ys) (Some zs) x y p q = p ∙ ap (λ (t : List ℕ). x ++ t) q ∙ sym (append_assoc x y zs)

pub stops_then : (a b c : Option (List ℕ)) (x y : List ℕ) (e : ReplyError) → Consumes a b x → Stops b c y e → Stops a c (x ++ y) e
stops_then a b c x y Ended p q = (Consumes-then a b c x y p q.0, q.1)
stops_then a b c x y (Reader error) p q = (Consumes-then a b c x y p q.0, q.1)
stops_then a b c x y NotAReply p q = absurd q
stops_then a b c x y NoMemory p q = absurd q

pub stops_here : (a b c : Option (List ℕ)) (x : List ℕ) (e : ReplyError) → Consumes a b x → Stops b c [] e → Stops a c x e
stops_here a b c x e p q = subst (λ (t : List ℕ). Stops a c t e) (append-nil x) (stops_then a b c x [] e p q)

-- ---- a room whose front is filled

take_split : (a b : ℕ) (old new : List ℕ) → a ≤ b → take a new ≡ take a old → take a old ++ slice_range new a b ≡ take b new
take_split a b old new h front =
    let same : a + (b - a) ≡ b = omega arith in
    ap (λ l. l ++ slice_range new a b) (sym front) ∙ sym (take-add a (b - a) new) ∙ ap (λ n. take n new) same

range_of_mid : (a k n : ℕ) (xs ys : List ℕ) → a ≤ length xs → n ≤ length ys → slice_range (put_mid a k xs ys) a (a + n) ≡ take n ys
range_of_mid a k n xs ys within fits =
    let same : (a + n) - a ≡ n = omega arith in
    let after = post_of a k xs in
    ap (take ((a + n) - a)) (drop_at (take a xs) (ys ++ after) a (length-take-le a xs within)) ∙ ap (λ m. take m (ys ++ after)) same ∙ take-append-le n ys after fits

-- what a read left in the front of the room
pub piece_is : (read items : List ℕ) (size len : ℕ) → length read ≡ size → take len (take size (read ++ drop (length read) items)) ≡ take len read
piece_is read items size len e = ap (λ (bytes : List ℕ). take len bytes) (take_at read (drop (length read) items) size e)

-- what was read into the rest of the room stands behind what it held
pub filled_then : (a b c : Option (List ℕ)) (room rest : List ℕ) (at n : ℕ) → at ≤ length room → n ≤ length rest → Consumes a b (take at room) → Consumes b c (take n rest)
    → Consumes a c (take (at + n) (put_mid at (length room - at) room rest))
filled_then a b c room rest at n within fits before read =
    let k = length room - at in
    let part = range_of_mid at k n room rest within fits in
    let joined = take_split at (at + n) room (put_mid at k room rest) (omega arith) (take-put_mid_below _ _ _ _ _ (le_refl _) within) in
    subst (Consumes a c) (ap (λ l. take at room ++ l) (sym part) ∙ joined) (Consumes-then a b c (take at room) (take n rest) before read)

-- ---- a length, and then a body

-- the two bytes of a length
length_bytes : (len : ℕ) → len < 65536 → 256 * (len / 256 % 256) + len % 256 ≡ len
length_bytes len fits = let back = from_be_bytes-to_be_bytes_2 len fits in omega (arith, back)

-- less than a length
unfinished_length : (front : List ℕ) → length front < 2 → IsUnfinished front
unfinished_length [] short = tt
unfinished_length (high ∷ []) short = tt
unfinished_length (high ∷ low ∷ more) short = absurd (omega (arith, short))

pub no_length : (a b : Option (List ℕ)) (e : ReplyError) → ReadsLength a b (Err e) → ReadsReply a b (Err e)
no_length a b Ended p = (p.0, unfinished_length p.0 p.1, p.2.0, p.2.1)
no_length a b (Reader error) p = (p.0, unfinished_length p.0 p.1, p.2.0, p.2.1)
no_length a b NotAReply p = absurd p.2
no_length a b NoMemory p = absurd p.2

module _ (a b c : Option (List ℕ)) (len : ℕ) (fits : len < 65536) (before : Consumes a b (to_be_bytes w16 len)) where
  pub no_body : (e : ReplyError) → LacksBody b c len e → ReadsReply a c (Err e)
  no_body Ended p =
      (to_be_bytes w16 len ++ p.0, omega (arith, length_bytes len fits, p.1), Consumes-then a b c (to_be_bytes w16 len) p.0 before p.2.0, p.2.1)
  no_body (Reader error) p =
      (to_be_bytes w16 len ++ p.0, omega (arith, length_bytes len fits, p.1), Consumes-then a b c (to_be_bytes w16 len) p.0 before p.2.0, p.2.1)
  no_body NotAReply p = absurd p.2
  no_body NoMemory p =
      (to_be_bytes w16 len, omega (arith, length_bytes len fits), subst (Consumes a c) (append-nil (to_be_bytes w16 len)) (Consumes-then a b c (to_be_bytes w16 len) [] before p))

  -- the frame of this body was read
  module _ (body : List ℕ) (size : length body ≡ len) (read : Consumes b c body) where
    pub whole_frame : Consumes a c (frame body)
    whole_frame =
        subst (λ (n : ℕ). Consumes a c (to_be_bytes w16 n ++ body)) (sym size) (Consumes-then a b c (to_be_bytes w16 len) body before read)

    pub whole_reply : (answer : Answer) → IsReply body answer → ReadsReply a c (Ok answer)
    whole_reply answer is = (is.fits, subst (λ (t : List ℕ). Consumes a c (frame t)) is.spelled whole_frame)

    pub within_frame : ReadsReply a c (Err NoMemory)
    within_frame = (frame body, omega (arith, length_bytes len fits, size), whole_frame)

-- The marks of sections, and the changes that are in none.
use Rattle.std.proofs.Common.{◌≡◌, ℕ, ◌+◌, ◌<◌, max, Bool, true, false, cond, nat_le, List, [], ◌∷◌, ◌++◌, length, map, take, get_or, refl, sym, ap, ap₂, subst, ◌∙◌, arith}
use Rattle.std.proofs.lemmas.List.{take_more}
use Rattle.std.specs.List.{flat_map}
use Rattle.std.specs.FinMap as finite
use Rattle.java_hash.specs.Stripes.{stripe_of}
use Rattle.map_types.specs.declared.commands.Command.{Command}
use Rattle.map_types.specs.declared.texts.Value.{Value}
use Rattle.map_model.specs.Maps.{Map}
use Rattle.map_model.specs.Parts.{union_of}
use Rattle.map_model.specs.Steps.{step, map_after}
use Rattle.map_model.proofs.FoldLaws.{map_after-append}
use Rattle.ticket_order.specs.declared.stripe.Entry.{Entry}
use Rattle.store_layout.specs.Checkpoints.{Section, greatest_mark}
use Rattle.store_layout.specs.SectionsAndLog.{counted}
use Rattle.gate_log.specs.States.{AreFrom, commands_of}
use Rattle.checkpoint_file.specs.declared.loading.LoadedSection.{LoadedSection}
use Rattle.checkpoint_file.specs.Loads.{AreRising, sections_of}
use Rattle.recovery.specs.declared.divided.Divided.{Divided}
use Rattle.recovery.specs.declared.restoring.Restoring.{Restoring}
use Rattle.recovery.specs.Counting.{counted_of, entries_in, greatest_of, marks_in}
use Rattle.recovery.specs.Lanes.{AreLanesOf}
use Rattle.recovery.specs.Restoring.{HasMap, IsSameFrame}

-- ---- marks

pub take_next : {X : Type 0} (xs : List X) (i : ℕ) (x : X) → i < length xs → x ≡ get_or xs i x → take (i + 1) xs ≡ take i xs ++ x ∷ []
take_next xs i x low is = take_more xs i x low ∙ ap (λ y. take i xs ++ y ∷ []) (sym is)

greatest_push : (marks : List ℕ) (mark : ℕ) → greatest_of (marks ++ mark ∷ []) ≡ max (greatest_of marks) mark
greatest_push [] mark = omega arith
greatest_push (m ∷ marks) mark = let rest = greatest_push marks mark in omega (arith, rest)

pub greatest_more : (marks : List ℕ) (i : ℕ) → i < length marks → greatest_of (take (i + 1) marks) ≡ max (greatest_of (take i marks)) (get_or marks i 0)
greatest_more marks i low = ap (λ (l : List ℕ). greatest_of l) (take_more marks i 0 low) ∙ greatest_push (take i marks) (get_or marks i 0)

pub greatest_is : (reads : List LoadedSection) → greatest_of (marks_in reads) ≡ greatest_mark (sections_of reads)
greatest_is [] = refl
greatest_is (r ∷ reads) = ap (max r.mark) (greatest_is reads)

pub marks_are : (reads : List LoadedSection) → map (λ (section : Section). section.mark) (sections_of reads) ≡ marks_in reads
marks_are [] = refl
marks_are (r ∷ reads) = ap (λ (l : List ℕ). r.mark ∷ l) (marks_are reads)

-- ---- the map of the sections

all_entries : (reads : List LoadedSection) → AreRising reads → flat_map finite.entries (map (λ (section : Section). section.map) (sections_of reads)) ≡ entries_in reads
all_entries [] rising = refl
all_entries (r ∷ reads) rising = ap₂ (λ (a b : List (List ℕ × Value)). a ++ b) rising.0 (all_entries reads rising.1)

pub union_is : (reads : List LoadedSection) → AreRising reads → union_of (map (λ (section : Section). section.map) (sections_of reads)) ≡ finite.from_entries (entries_in reads)
union_is reads rising = ap (λ (es : List (List ℕ × Value)). finite.from_entries es) (all_entries reads rising)

-- ---- changes that count

abbrev pub is_counted : ℕ → List ℕ → Entry → Bool
is_counted n marks entry = nat_le (get_or marks (stripe_of n entry.command.key) 0) entry.ticket

abbrev counted_or : Bool → Command → List Command → List Command
counted_or b c cs = cond b (c ∷ cs) cs

cond_append : (b : Bool) (c : Command) (cs ds : List Command) → counted_or b c cs ++ ds ≡ counted_or b c (cs ++ ds)
cond_append true c cs ds = refl
cond_append false c cs ds = refl

counted_push : (n : ℕ) (marks : List ℕ) (entries : List Entry) (entry : Entry)
    → counted_of n marks (entries ++ entry ∷ []) ≡ counted_of n marks entries ++ counted_or (is_counted n marks entry) entry.command []
counted_push n marks [] entry = refl
counted_push n marks (e ∷ entries) entry =
    ap (counted_or (is_counted n marks e) e.command) (counted_push n marks entries entry)
    ∙ sym (cond_append (is_counted n marks e) e.command (counted_of n marks entries) (counted_or (is_counted n marks entry) entry.command []))

counted_next : (n : ℕ) (marks : List ℕ) (entries : List Entry) (entry : Entry) (b : Bool) → is_counted n marks entry ≡ b
    → counted_of n marks (entries ++ entry ∷ []) ≡ counted_of n marks entries ++ counted_or b entry.command []
counted_next n marks entries entry b e = counted_push n marks entries entry ∙ ap (λ x. counted_of n marks entries ++ counted_or x entry.command []) e

-- the changes of consecutive tickets, as they count in the sections with these marks
pub counted_is : (n : ℕ) (xs : List Section) (marks : List ℕ) (t : ℕ) (entries : List Entry) → map (λ (section : Section). section.mark) xs ≡ marks → AreFrom t entries
    → counted_of n marks entries ≡ counted n xs t (commands_of entries)
counted_is n xs marks t [] same from = refl
counted_is n xs marks t (e ∷ entries) same from =
    ap₂ counted_or' (ap₂ (λ (ms : List ℕ) ticket. nat_le (get_or ms (stripe_of n e.command.key) 0) ticket) (sym same) from.0) (counted_is n xs marks (t + 1) entries same from.1)
  where
    counted_or' : Bool → List Command → List Command
    counted_or' b cs = counted_or b e.command cs

-- ---- one change more

module _ (before mid : Restoring) (entries : List Entry) (entry : Entry) (same : IsSameFrame before mid)
    (so_far : (m : Map) → HasMap before m → HasMap mid (map_after m (counted_of before.of.count before.marks.items entries))) where
  counts_so : (b : Bool) → b ≡ nat_le (get_or mid.marks.items (stripe_of mid.of.count entry.command.key) 0) entry.ticket → is_counted before.of.count before.marks.items entry ≡ b
  counts_so b e =
      sym (e ∙ ap (λ marks. nat_le (get_or marks.items (stripe_of mid.of.count entry.command.key) 0) entry.ticket) same.marks
      ∙ ap (λ of. nat_le (get_or before.marks.items (stripe_of of.count entry.command.key) 0) entry.ticket) same.of)

  -- it counts, and is due
  pub queued_one : (b : Bool) → b ≡ nat_le (get_or mid.marks.items (stripe_of mid.of.count entry.command.key) 0) entry.ticket → b ≡ true → (divided : Divided)
      → divided.stripes ≡ mid.divided.stripes
      → ((m : Map) → AreLanesOf mid.divided.stripes.count m mid.divided.lanes.items → AreLanesOf mid.divided.stripes.count (step m entry.command).map divided.lanes.items)
      → (m : Map) → HasMap before m → AreLanesOf divided.stripes.count (map_after m (counted_of before.of.count before.marks.items (entries ++ entry ∷ []))) divided.lanes.items
  queued_one b e counting divided stripes queued m has =
      let done = counted_of before.of.count before.marks.items entries in
      let next : map_after m (counted_of before.of.count before.marks.items (entries ++ entry ∷ [])) ≡ (step (map_after m done) entry.command).map =
      ap (map_after m) (counted_next before.of.count before.marks.items entries entry true (counts_so b e ∙ counting)) ∙ map_after-append m done (entry.command ∷ []) in
      subst (λ (x : Map). AreLanesOf divided.stripes.count x divided.lanes.items) (sym next)
      (subst (λ s. AreLanesOf s.count (step (map_after m done) entry.command).map divided.lanes.items) (sym stripes) (queued (map_after m done) (so_far m has)))

  -- it is in a section
  pub passed_one : (b : Bool) → b ≡ nat_le (get_or mid.marks.items (stripe_of mid.of.count entry.command.key) 0) entry.ticket → b ≡ false
      → (m : Map) → HasMap before m → HasMap mid (map_after m (counted_of before.of.count before.marks.items (entries ++ entry ∷ [])))
  passed_one b e passing m has =
      let done = counted_of before.of.count before.marks.items entries in
      let next : map_after m (counted_of before.of.count before.marks.items (entries ++ entry ∷ [])) ≡ map_after m done =
      ap (map_after m) (counted_next before.of.count before.marks.items entries entry false (counts_so b e ∙ passing)) ∙ map_after-append m done [] in
      subst (λ (x : Map). HasMap mid x) (sym next) (so_far m has)

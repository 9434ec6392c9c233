-- A checkpoint of two stripes that was taken while they changed.
use Rattle.std.proofs.Common.{◌≡◌, ◌≤◌, inl, inr, ℕ, ◌<◌, ◌^◌, Bool, true, false, cond, Option, None, Some, List, [], ◌∷◌, ◌++◌, length, slice_index_or, refl, sym, ap, ap₂, subst, ◌∙◌, arith}
use Rattle.std.specs.Cmp.Lexicographic.{slice_cmp, nat_list_cmp_total}
use Rattle.std.specs.Ordering.{nat_cmp}
use Rattle.std.specs.List.{AllByRecursion}
use Rattle.std.specs.List.Sorted.{IsStrictlySortedBy}
use Rattle.std.specs.FinMap as finite
use Rattle.std.specs.Str.{IsUtf8, chars}
use Rattle.java_hash.specs.Hash.{hash_of, weighted_sum}
use Rattle.java_hash.specs.Stripes.{stripe_of}
use Rattle.java_hash.specs.Units.{units_of}
use Rattle.map_types.specs.declared.texts.Value.{Value}
use Rattle.map_model.specs.Maps.{Map, Entries}
use Rattle.map_model.proofs.EntryLaws.{entries-map_of}
use Rattle.map_model.proofs.MapLaws.{ties, same_from_ties, same_gets}
use Rattle.log_records.specs.Layout.{first_layout}
use Rattle.store_layout.specs.Logs.{Batch, IsLog, IsClosed, IsEnded, end_frame, frame, header}
use Rattle.store_layout.specs.Checkpoints.{Section, Checkpoint, checkpoint_header, marked_bytes, IsEntryOf, IsSection, IsCheckpoint}
use Rattle.store_layout.specs.Opening.{first_checkpoint}
use Rattle.store_layout.specs.Examples.{a, b, number, ended_log, next_checkpoint, next_log, next_ended_log, third_log, four_and_three, SealedWhileChanging, NotYetSealed, HalfWritten}
use Rattle.store_layout.proofs.NewStores.{no_map}
use Rattle.store_layout.proofs.Openings.{shut_unsealed}
use Rattle.store_layout.proofs.FirstExamples.{put_at, is_command, a_is_text, b_is_text, small_fits, old_sealed}

-- ---- the sections

abbrev one : List ℕ → ℕ → Map
one key n = finite.from_entries ((key, number n) ∷ [])

one_entry : (key : List ℕ) (n : ℕ) → finite.entries (one key n) ≡ (key, number n) ∷ []
unfolding IsStrictlySortedBy
one_entry key n = entries-map_of ((key, number n) ∷ []) (tt, tt)

abbrev section_of_b : Section
section_of_b = record { mark = 2; map = one b 2 }

abbrev section_of_a : Section
section_of_a = record { mark = 4; map = one a 4 }

abbrev pub next_k : Checkpoint
next_k = record { generation = 1; low = 0; stripes = 2; sections = section_of_b ∷ section_of_a ∷ [] }

abbrev both_bytes : Entries → Entries → List ℕ
both_bytes es ds = marked_bytes first_layout 2 es ++ (marked_bytes first_layout 4 ds ++ [])

one_section : (stripe mark n : ℕ) (key : List ℕ) → mark ≤ 255 → length key ≤ 255 → n ≤ 255 → IsUtf8 key → stripe_of 2 key ≡ stripe → IsSection first_layout 2 stripe (record { mark = mark; map = one key n })
one_section stripe mark n key low short small text own = record {
  mark_fits = omega (arith, low);
  count_fits = let size : length (finite.entries (one key n)) ≡ 1 = ap (λ (es : Entries). length es) (one_entry key n) in omega (arith, size);
  entries = subst (λ (es : Entries). AllByRecursion (IsEntryOf first_layout 2 stripe) es) (sym (one_entry key n)) (((short, text), small_fits n small, own), tt);
}

b_in_first : stripe_of 2 b ≡ 0
unfolding stripe_of hash_of weighted_sum units_of chars
b_in_first = refl

a_in_second : stripe_of 2 a ≡ 1
unfolding stripe_of hash_of weighted_sum units_of chars
a_in_second = refl

body_small : (es ds : Entries) → es ≡ (b, number 2) ∷ [] → ds ≡ (a, number 4) ∷ [] → length (both_bytes es ds) < 2 ^ 64
unfolding marked_bytes
body_small es ds e d =
    let size : length (both_bytes es ds) ≡ 46 = ap₂ (λ (x y : Entries). length (both_bytes x y)) e d in omega (arith, size)

pub next_sealed : IsCheckpoint first_layout next_k next_checkpoint
unfolding checkpoint_header marked_bytes
next_sealed = record {
  rest = [];
  bytes = ap₂ (λ (es ds : Entries). 165 ∷ ((checkpoint_header first_layout 1 0 4 2 (length (both_bytes es ds)) ++ both_bytes es ds) ++ [])) (sym (one_entry b 2)) (sym (one_entry a 4));
  whole = record {
    generation_fits = omega arith;
    low_fits = omega arith;
    body_fits = body_small (finite.entries (one b 2)) (finite.entries (one a 4)) (one_entry b 2) (one_entry a 4);
    stripes = refl;
    one_each = refl;
    sections = (
      one_section 0 2 2 b (omega arith) (omega arith) (omega arith) b_is_text b_in_first,
      (one_section 1 4 4 a (omega arith) (omega arith) (omega arith) a_is_text a_in_second, tt),
    );
    marks = (omega arith, (omega arith, tt));
  };
}

-- ---- the logs

abbrev puts : Batch
puts = record { first = 0; commands = put_at a 1 ∷ put_at b 2 ∷ put_at b 3 ∷ put_at a 4 ∷ [] }

puts_log : IsLog first_layout 1 0 (puts ∷ [])
unfolding frame
puts_log = record {
  generation_fits = omega arith;
  low_fits = omega arith;
  in_order = (
    record {
      fits = omega arith;
      some = omega arith;
      few = omega arith;
      short = omega arith;
      well_formed = (
        is_command a 1 (omega arith) (omega arith) a_is_text,
        (
          is_command b 2 (omega arith) (omega arith) b_is_text,
          (
            is_command b 3 (omega arith) (omega arith) b_is_text,
            (
              is_command a 4 (omega arith) (omega arith) a_is_text,
              tt,
            ),
          ),
        ),
      );
    },
    refl,
    tt,
  );
}

next_closed : IsClosed first_layout 1 0 (puts ∷ []) next_log
unfolding header frame
next_closed = record { gate = 0; rest = []; bytes = refl; closed = λ e. omega (arith, e); log = puts_log }

next_ended : IsEnded first_layout 1 0 (puts ∷ []) 2 next_ended_log
unfolding header frame end_frame
next_ended = record { after = 0; rest = []; bytes = refl; next_fits = omega arith; log = puts_log }

first_ended : IsEnded first_layout 0 0 [] 1 ended_log
unfolding header end_frame
first_ended = record { after = 0; rest = []; bytes = refl; next_fits = omega arith; log = record { generation_fits = omega arith; low_fits = omega arith; in_order = tt } }

third_closed : IsClosed first_layout 2 4 [] third_log
unfolding header
third_closed = record { gate = 0; rest = []; bytes = refl; closed = λ e. omega (arith, e); log = record { generation_fits = omega arith; low_fits = omega arith; in_order = tt } }

-- ---- the map

abbrev set : Map → List ℕ → ℕ → Map
set m key n = finite.insert m key (number n)

abbrev nothing : Map
nothing = finite.empty

get_set : (m : Map) (key : List ℕ) (n : ℕ) (q : List ℕ) (o : Option Value) → finite.get m q ≡ o → finite.get (set m key n) q ≡ cond (ties q key) (Some (number n)) o
get_set m key n q o e = finite.get-insert nat_list_cmp_total m key (number n) q ∙ ap (λ o. cond (ties q key) (Some (number n)) o) e

never_both : (q : List ℕ) → ties q a ≡ true → ties q b ≡ true → ⊥
never_both q p r = let e : 97 ≡ 98 = ap (λ (l : List ℕ). slice_index_or l 0 0) (sym (same_from_ties q a p) ∙ same_from_ties q b r) in omega (arith, e)

get_expected : (q : List ℕ) → finite.get four_and_three q ≡ cond (ties q a) (Some (number 4)) (cond (ties q b) (Some (number 3)) None)
get_expected q = get_set (set nothing b 3) a 4 q _ (get_set nothing b 3 q None (finite.get-empty (slice_cmp nat_cmp) q))

third_alone : set (set (set nothing a 4) b 2) b 3 ≡ four_and_three
third_alone = same_gets _ _ (λ q.
    get_set (set (set nothing a 4) b 2) b 3 q _ (get_set (set nothing a 4) b 2 q _ (get_set nothing a 4 q None (finite.get-empty (slice_cmp nat_cmp) q)))
    ∙ either (ties q a) (ties q b) (never_both q) ∙ sym (get_expected q))
  where
    either : (x y : Bool) → (x ≡ true → y ≡ true → ⊥)
        → cond y (Some (number 3)) (cond y (Some (number 2)) (cond x (Some (number 4)) None)) ≡ cond x (Some (number 4)) (cond y (Some (number 3)) None)
    either true true never = absurd (never refl refl)
    either true false never = refl
    either false true never = refl
    either false false never = refl

all_four : set (set (set (set nothing a 1) b 2) b 3) a 4 ≡ four_and_three
all_four = same_gets _ _ (λ q.
    get_set (set (set (set nothing a 1) b 2) b 3) a 4 q _ (get_set (set (set nothing a 1) b 2) b 3 q _ (get_set (set nothing a 1) b 2 q _ (get_set nothing a 1 q None (finite.get-empty (slice_cmp nat_cmp) q))))
    ∙ either (ties q a) (ties q b) ∙ sym (get_expected q))
  where
    either : (x y : Bool) → cond x (Some (number 4)) (cond y (Some (number 3)) (cond y (Some (number 2)) (cond x (Some (number 1)) None))) ≡ cond x (Some (number 4)) (cond y (Some (number 3)) None)
    either true y = refl
    either false true = refl
    either false false = refl

abbrev map_by : Entries → Entries → Map
map_by es ds = finite.from_entries (es ++ (ds ++ []))

union : map_by (finite.entries (one b 2)) (finite.entries (one a 4)) ≡ set (set nothing a 4) b 2
union = ap₂ map_by (one_entry b 2) (one_entry a 4)

-- ---- what the files stand for

pub sealed_while_changing : SealedWhileChanging
unfolding stripe_of hash_of weighted_sum units_of chars
sealed_while_changing = record {
  found = record { checkpoint = next_k; first = puts ∷ []; second = None };
  holds = record { checkpoint = next_sealed; other = inr (refl, omega arith); logs = next_closed; reaches = omega arith };
  prefix = refl;
  map = ap (λ (m : Map). set m b 3) union ∙ third_alone;
}

pub not_yet_sealed : NotYetSealed
unfolding stripe_of hash_of weighted_sum units_of chars
not_yet_sealed gate shut rest = record {
  found = record { checkpoint = first_checkpoint 2; first = []; second = Some (puts ∷ []) };
  holds = record { checkpoint = old_sealed; other = inl (shut_unsealed gate rest shut); logs = (first_ended, next_closed); reaches = omega arith };
  prefix = refl;
  map = ap (λ (m : Map). set (set (set (set m a 1) b 2) b 3) a 4) (no_map 2) ∙ all_four;
}

pub half_written : HalfWritten
unfolding stripe_of hash_of weighted_sum units_of chars
half_written gate shut rest = record {
  found = record { checkpoint = next_k; first = puts ∷ []; second = Some [] };
  holds = record { checkpoint = next_sealed; other = inl (shut_unsealed gate rest shut); logs = (next_ended, third_closed); reaches = omega arith };
  prefix = refl;
  map = ap (λ (m : Map). set m b 3) union ∙ third_alone;
}

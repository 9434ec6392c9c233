-- Opening gives one thing: what the files stand for, or a refusal.
use Rattle.std.proofs.Common.{◌≡◌, ◌⊎◌, inl, inr, ◌≤◌, ◌<◌, ℕ, ◌+◌, ◌-◌, ◌%◌, Bool, true, false, not, cond, ◌&&◌, ◌==◌, nat_le, nat_lt, Option, None, Some, List, [], ◌∷◌, length, Result, Ok, Err, refl, sym, ap, ap₂, subst, ◌∙◌, length-append, arith}
use Rattle.std.proofs.lemmas.Bool.{eqb-true, ne_eqb}
use Rattle.std.proofs.lemmas.Bool.Decides.{nat_tests}
use Rattle.std.proofs.lemmas.List.{take-append-le}
use Rattle.java_hash.proofs.StripeLaws.{some_stripe}
use Rattle.map_types.specs.declared.refusals.Refusal.{Refusal}
use Rattle.map_types.specs.declared.refusals.Refusal.TheVariants.{Damaged, NotFormatted, WrongVersion}
use Rattle.map_model.specs.Maps.{Map}
use Rattle.map_model.specs.Steps.{map_after}
use Rattle.map_model.specs.Histories.{History, fold_to}
use Rattle.store_layout.specs.Logs.{Batch, is_read}
use Rattle.store_layout.specs.Checkpoints.{Section, Checkpoint, IsCheckpoint, checkpoint_file, greatest_mark, AreMarkedFrom, is_sealed}
use Rattle.store_layout.specs.SectionsAndLog.{grown, AreMarks, Restores}
use Rattle.store_layout.specs.Faults.{generation_in, head_fault, version_in}
use Rattle.store_layout.specs.Opening.{Contents, checkpoint_layout, IsCheckpointIn, IsBadCheckpointIn, Opened, log_of, prefix_of, map_of, history_of, IsOlder, Holds, StandsFor, StandsForFront, first_fault, heads_fault, newest_file, Refuses, bad_heads, bad_checkpoint, bad_logs, Opens}
use Rattle.store_layout.specs.OpeningLaws.{FrontStays, OlderCheckpoint, ShutIsUnsealed, UsedIsHeld}
use Rattle.store_layout.proofs.Growing.{restores_opened}
use Rattle.store_layout.proofs.CheckpointFields.{has_generation, sealed, has_head, one_checkpoint, never_bad, one_bad}
use Rattle.store_layout.proofs.Versions.{room_for, read_for}
use Rattle.store_layout.proofs.LogOutcomes.{LogsGive, one_give, good_logs, bad_logs_give}

-- ---- the heads

abbrev pub heads_by : Bool → Bool → Option Refusal → Option Refusal → Option Refusal
heads_by s t a b = cond (not s && not t) (Some NotFormatted) (first_fault a b)

abbrev pub newest_of_two : Bool → Bool → Bool → ℕ
newest_of_two s t less = cond (not t) 0 (cond (not s) 1 (cond less 0 1))

pub no_faults : (s t : Bool) (a b : Option Refusal) → (s ≡ true) ⊎ (t ≡ true) → a ≡ None → b ≡ None → heads_by s t a b ≡ None
no_faults s t a b (inl e) p q = ap (λ x. heads_by x t a b) e ∙ ap (λ x. first_fault x b) p ∙ q
no_faults true t a b (inr e) p q = ap (λ x. first_fault x b) p ∙ q
no_faults false t a b (inr e) p q = ap (λ x. heads_by false x a b) e ∙ ap (λ x. first_fault x b) p ∙ q

unsealed_by : (s : Bool) (rest : Option Refusal) → s ≡ false → cond (not s) None rest ≡ None
unsealed_by s rest e = ap (λ x. cond (not x) None rest) e

pub unsealed_head : (file : ℕ) (content : List ℕ) → is_sealed content ≡ false → head_fault file content ≡ None
unsealed_head file content e = unsealed_by (is_sealed content) _ e

older_head : (generation file : ℕ) (content : List ℕ) → IsOlder generation file content → head_fault file content ≡ None
older_head generation file content (inl e) = unsealed_head file content e
older_head generation file content (inr e) = e.0

module _ (contents : Contents) (k : Checkpoint) where
  -- the checkpoint in the first file is used
  first_used : IsCheckpointIn k (contents 0) → k.generation % 2 ≡ 0 → IsOlder k.generation 1 (contents 1) → (heads_fault contents ≡ None) × (newest_file contents ≡ 0)
  first_used is parity older =
      let s = sealed (checkpoint_layout (contents 0)) k (contents 0) is in (
        no_faults (is_sealed (contents 0)) (is_sealed (contents 1)) (head_fault 0 (contents 0)) (head_fault 1 (contents 1)) (inl s) (has_head (checkpoint_layout (contents 0)) k (contents 0) is (read_for (version_in (contents 0))) 0 parity) (older_head k.generation 1 (contents 1) older),
        by_age (is_sealed (contents 0)) (is_sealed (contents 1)) s older,
      )
    where
      by_age : (s t : Bool) → s ≡ true → (t ≡ false) ⊎ ((head_fault 1 (contents 1) ≡ None) × (generation_in (contents 1) < k.generation)) → newest_of_two s t (nat_lt (generation_in (contents 1)) (generation_in (contents 0))) ≡ 0
      by_age s t e (inl f) = ap (λ x. newest_of_two s x (nat_lt (generation_in (contents 1)) (generation_in (contents 0)))) f
      by_age s false e (inr f) = refl
      by_age s true e (inr f) =
          let mine = has_generation (checkpoint_layout (contents 0)) k (contents 0) is in
          let less : nat_lt (generation_in (contents 1)) (generation_in (contents 0)) ≡ true = (let low = f.1 in grind (arith, nat_tests, low, mine)) in
          ap₂ (λ x y. newest_of_two x true y) e less

  -- the one in the second
  second_used : IsCheckpointIn k (contents 1) → k.generation % 2 ≡ 1 → IsOlder k.generation 0 (contents 0) → (heads_fault contents ≡ None) × (newest_file contents ≡ 1)
  second_used is parity older =
      let t = sealed (checkpoint_layout (contents 1)) k (contents 1) is in (
        no_faults (is_sealed (contents 0)) (is_sealed (contents 1)) (head_fault 0 (contents 0)) (head_fault 1 (contents 1)) (inr t) (older_head k.generation 0 (contents 0) older) (has_head (checkpoint_layout (contents 1)) k (contents 1) is (read_for (version_in (contents 1))) 1 parity),
        by_age (is_sealed (contents 0)) (is_sealed (contents 1)) t older,
      )
    where
      by_age : (s t : Bool) → t ≡ true → (s ≡ false) ⊎ ((head_fault 0 (contents 0) ≡ None) × (generation_in (contents 0) < k.generation)) → newest_of_two s t (nat_lt (generation_in (contents 1)) (generation_in (contents 0))) ≡ 1
      by_age s t e (inl f) = ap₂ (λ x y. newest_of_two x y (nat_lt (generation_in (contents 1)) (generation_in (contents 0)))) f e
      by_age false t e (inr f) = ap (λ x. newest_of_two false x (nat_lt (generation_in (contents 1)) (generation_in (contents 0)))) e
      by_age true t e (inr f) =
          let mine = has_generation (checkpoint_layout (contents 1)) k (contents 1) is in
          let less : nat_lt (generation_in (contents 1)) (generation_in (contents 0)) ≡ false = (let low = f.1 in grind (arith, nat_tests, low, mine)) in
          ap₂ (λ x y. newest_of_two true x y) e less

  pub used : IsCheckpointIn k (contents (checkpoint_file k.generation)) → IsOlder k.generation (checkpoint_file (k.generation + 1)) (contents (checkpoint_file (k.generation + 1)))
      → (heads_fault contents ≡ None) × (newest_file contents ≡ checkpoint_file k.generation)
  used is older =
      elim (parities k.generation) as (λ _. (heads_fault contents ≡ None) × (newest_file contents ≡ checkpoint_file k.generation)) [
        | inl e ↦
            let heads = first_used (subst (λ n. IsCheckpointIn k (contents n)) e.0 is) e.0 (subst (λ n. IsOlder k.generation n (contents n)) e.1 older) in
            (heads.0, heads.1 ∙ sym e.0)
        | inr e ↦
            let heads = second_used (subst (λ n. IsCheckpointIn k (contents n)) e.0 is) e.0 (subst (λ n. IsOlder k.generation n (contents n)) e.1 older) in
            (heads.0, heads.1 ∙ sym e.0)
      ]
    where
      parities : (g : ℕ) → ((g % 2 ≡ 0) × ((g + 1) % 2 ≡ 1)) ⊎ ((g % 2 ≡ 1) × ((g + 1) % 2 ≡ 0))
      parities g = grind (arith, nat_tests)

-- ---- what is found

pub some_not_none : (r : Refusal) → Some r ≡ None → ⊥
some_not_none r e = absurd cc

module _ (contents : Contents) where
  -- the parts of what opening gives
  record Finds (k : Checkpoint) (found : Result (List Batch × Option (List Batch)) Refusal) : Type 0 where
    heads : heads_fault contents ≡ None
    checkpoint : IsCheckpointIn k (contents (newest_file contents))
    logs : LogsGive contents k found

  holds_finds : (found : Opened) → Holds contents found → Finds found.checkpoint (Ok (found.first, found.second))
  holds_finds found holds =
      let heads = used contents found.checkpoint holds.checkpoint holds.other in
      record {
        heads = heads.0;
        checkpoint = subst (λ n. IsCheckpointIn found.checkpoint (contents n)) (sym heads.1) holds.checkpoint;
        logs = good_logs contents found.checkpoint found.first found.second holds.logs holds.reaches;
      }

  one_find : (k j : Checkpoint) (a b : Result (List Batch × Option (List Batch)) Refusal) → Finds k a → Finds j b → (k ≡ j) × (a ≡ b)
  one_find k j a b p q =
      let same = one_checkpoint (checkpoint_layout (contents (newest_file contents))) (room_for (version_in (contents (newest_file contents)))) k j (contents (newest_file contents)) p.checkpoint q.checkpoint in
      (same, one_give contents k j a b same p.logs q.logs)

  abbrev done : List Batch × Option (List Batch) → Result (List Batch × Option (List Batch)) Refusal
  done x = Ok x

  abbrev refused : Refusal → Result (List Batch × Option (List Batch)) Refusal
  refused r = Err r

  same_done : (x y : List Batch × Option (List Batch)) → done x ≡ done y → x ≡ y
  same_done x y e = cc

  same_refused : (r r' : Refusal) → refused r ≡ refused r' → r ≡ r'
  same_refused r r' e = cc

  done_not_refused : (x : List Batch × Option (List Batch)) (r : Refusal) → done x ≡ refused r → ⊥
  done_not_refused x r e = absurd cc

  pub one_holding : (a b : Opened) → Holds contents a → Holds contents b → a ≡ b
  one_holding a b p q =
      let same = one_find a.checkpoint b.checkpoint (Ok (a.first, a.second)) (Ok (b.first, b.second)) (holds_finds a p) (holds_finds b q) in
      let made : Checkpoint → List Batch × Option (List Batch) → Opened = λ k logs. record { checkpoint = k; first = logs.0; second = logs.1 } in
      ap₂ made same.0 (same_done (a.first, a.second) (b.first, b.second) same.1)

  pub holds_not_refused : (found : Opened) (refusal : Refusal) → Holds contents found → Refuses contents refusal → ⊥
  holds_not_refused found refusal holds (bad_heads e) = some_not_none refusal (sym e ∙ (holds_finds found holds).heads)
  holds_not_refused found refusal holds (bad_checkpoint _ bad) =
      never_bad (checkpoint_layout (contents (newest_file contents))) (room_for (version_in (contents (newest_file contents)))) (newest_file contents) (contents (newest_file contents)) found.checkpoint refusal (holds_finds found holds).checkpoint bad
  holds_not_refused found refusal holds (bad_logs k heads is bad) =
      let other : Finds k (Err refusal) = record { heads = heads; checkpoint = is; logs = bad_logs_give contents k refusal bad } in
      done_not_refused (found.first, found.second) refusal (one_find found.checkpoint k (Ok (found.first, found.second)) (Err refusal) (holds_finds found holds) other).1

  pub one_refusal : (r r' : Refusal) → Refuses contents r → Refuses contents r' → r ≡ r'
  one_refusal r r' (bad_heads p) (bad_heads q) = let e : Some r ≡ Some r' = sym p ∙ q in cc
  one_refusal r r' (bad_heads p) (bad_checkpoint q _) = absurd (some_not_none r (sym p ∙ q))
  one_refusal r r' (bad_heads p) (bad_logs _ q _ _) = absurd (some_not_none r (sym p ∙ q))
  one_refusal r r' (bad_checkpoint p _) (bad_heads q) = absurd (some_not_none r' (sym q ∙ p))
  one_refusal r r' (bad_checkpoint _ p) (bad_checkpoint _ q) = one_bad (checkpoint_layout (contents (newest_file contents))) (room_for (version_in (contents (newest_file contents)))) (newest_file contents) (contents (newest_file contents)) r r' p q
  one_refusal r r' (bad_checkpoint _ p) (bad_logs k _ is _) = absurd (never_bad (checkpoint_layout (contents (newest_file contents))) (room_for (version_in (contents (newest_file contents)))) (newest_file contents) (contents (newest_file contents)) k r is p)
  one_refusal r r' (bad_logs _ p _ _) (bad_heads q) = absurd (some_not_none r' (sym q ∙ p))
  one_refusal r r' (bad_logs k _ is _) (bad_checkpoint _ q) = absurd (never_bad (checkpoint_layout (contents (newest_file contents))) (room_for (version_in (contents (newest_file contents)))) (newest_file contents) (contents (newest_file contents)) k r' is q)
  one_refusal r r' (bad_logs k heads is bad) (bad_logs j heads' is' bad') =
      let p : Finds k (Err r) = record { heads = heads; checkpoint = is; logs = bad_logs_give contents k r bad } in
      let q : Finds j (Err r') = record { heads = heads'; checkpoint = is'; logs = bad_logs_give contents j r' bad' } in
      same_refused r r' (one_find k j (Err r) (Err r') p q).1

  pub opens_one_way : (a b : Result Opened Refusal) → Opens contents a → Opens contents b → a ≡ b
  opens_one_way (Ok a) (Ok b) p q = ap (λ found. Ok found) (one_holding a b p q)
  opens_one_way (Ok a) (Err r) p q = absurd (holds_not_refused a r p q)
  opens_one_way (Err r) (Ok b) p q = absurd (holds_not_refused b r q p)
  opens_one_way (Err r) (Err r') p q = ap (λ refusal. Err refusal) (one_refusal r r' p q)

  pub one_standing : (p q : ℕ) (m n : Map) → StandsFor contents p m → StandsFor contents q n → (p ≡ q) × (m ≡ n)
  one_standing p q m n a b =
      let same = one_holding a.found b.found a.holds b.holds in
      (sym a.prefix ∙ ap prefix_of same ∙ b.prefix, sym a.map ∙ ap map_of same ∙ b.map)

  pub standing_not_refused : (p : ℕ) (m : Map) (refusal : Refusal) → StandsFor contents p m → Refuses contents refusal → ⊥
  standing_not_refused p m refusal a bad = holds_not_refused a.found refusal a.holds bad

-- ---- what is found and its history

marks_between : (low high : ℕ) (sections : List Section) → AreMarkedFrom low sections → greatest_mark sections ≤ high → AreMarks low high sections
marks_between low high [] marks up = tt
marks_between low high (x ∷ xs) marks up = (marks.0, omega (arith, up), marks_between low high xs marks.1 (omega (arith, up)))

pub opened_restores : (contents : Contents) (found : Opened) → Holds contents found
    → Restores (history_of found) found.checkpoint.stripes found.checkpoint.sections found.checkpoint.low (log_of found)
opened_restores contents found holds =
    let k = found.checkpoint in
    let whole = holds.checkpoint.whole in
    restores_opened k.stripes k.low k.sections (log_of found) (marks_between k.low (prefix_of found) k.sections whole.marks holds.reaches) whole.one_each (some_stripe k.stripes whole.stripes)

pub restored_stands : (h : History) (contents : Contents) (found : Opened) → Holds contents found → Restores h found.checkpoint.stripes found.checkpoint.sections found.checkpoint.low (log_of found)
    → StandsForFront h (prefix_of found) (prefix_of found) contents
restored_stands h contents found holds restores = record {
  count = prefix_of found;
  stands = record { found = found; holds = holds; prefix = refl; map = restores.same };
  from_first = restores.from_first;
  within = restores.within;
  from_least = omega arith;
  to_most = omega arith;
}

pub front_stays : FrontStays
front_stays h least most contents more front =
    let count = front.count in
    let within = front.within in
    let first = front.from_first in
    let same : fold_to h count ≡ fold_to (grown h more) count = ap (map_after h.opening) (sym (take-append-le (count - h.first) h.commands more (omega (arith, within, first)))) in
    record {
      count = count;
      stands = subst (StandsFor contents count) same front.stands;
      from_first = first;
      within = omega (arith, within, length-append h.commands more);
      from_least = front.from_least;
      to_most = front.to_most;
    }

-- ---- what is used

-- a head without a fault
head_parity : (file : ℕ) (content : List ℕ) → is_sealed content ≡ true → head_fault file content ≡ None → generation_in content % 2 ≡ file
head_parity file content s e = parity_by (is_sealed content) (is_read (version_in content)) (generation_in content % 2) file s e
  where
    parity_by : (s one : Bool) (parity file : ℕ) → s ≡ true → cond (not s) None (cond (not one) (Some WrongVersion) (cond (not (parity == file)) (Some (Damaged file 2)) None)) ≡ None → parity ≡ file
    parity_by false one parity file s e = absurd cc
    parity_by true false parity file s e = absurd (some_not_none WrongVersion e)
    parity_by true true parity file s e = same (parity == file) refl e
      where
        same : (b : Bool) → (parity == file) ≡ b → cond (not b) (Some (Damaged file 2)) None ≡ None → parity ≡ file
        same true is e = eqb-true _ _ is
        same false is e = absurd (some_not_none (Damaged file 2) e)

pub both_none : (s t : Bool) (a b : Option Refusal) → heads_by s t a b ≡ None → (a ≡ None) × (b ≡ None)
both_none false false a b e = absurd (some_not_none NotFormatted e)
both_none true t None b e = (refl, e)
both_none true t (Some r) b e = absurd (some_not_none r e)
both_none false true None b e = (refl, e)
both_none false true (Some r) b e = absurd (some_not_none r e)

-- of two files the first is used
first_parts : (s t less : Bool) → newest_of_two s t less ≡ 0 → (t ≡ false) ⊎ (less ≡ true)
first_parts s false less e = inl refl
first_parts false true less e = absurd (omega (arith, e))
first_parts true true true e = inr refl
first_parts true true false e = absurd (omega (arith, e))

-- or the second
second_parts : (s t less : Bool) → newest_of_two s t less ≡ 1 → (s ≡ false) ⊎ (less ≡ false)
second_parts s false less e = absurd (omega (arith, e))
second_parts false true less e = inl refl
second_parts true true false e = inr refl
second_parts true true true e = absurd (omega (arith, e))

pub one_of_two : (s t less : Bool) → (newest_of_two s t less ≡ 0) ⊎ (newest_of_two s t less ≡ 1)
one_of_two s false less = inl refl
one_of_two false true less = inr refl
one_of_two true true true = inl refl
one_of_two true true false = inr refl

older_by : (file : ℕ) (content : List ℕ) (generation : ℕ) → head_fault file content ≡ None → (is_sealed content ≡ true → generation_in content < generation) → IsOlder generation file content
older_by file content generation head less = go (is_sealed content) refl
  where
    go : (s : Bool) → is_sealed content ≡ s → IsOlder generation file content
    go false e = inl e
    go true e = inr (head, less e)

module _ (contents : Contents) (k : Checkpoint) (heads : heads_fault contents ≡ None) where
  faults : (head_fault 0 (contents 0) ≡ None) × (head_fault 1 (contents 1) ≡ None)
  faults = both_none (is_sealed (contents 0)) (is_sealed (contents 1)) (head_fault 0 (contents 0)) (head_fault 1 (contents 1)) heads

  abbrev Less : Bool
  Less = nat_lt (generation_in (contents 1)) (generation_in (contents 0))

  abbrev IsUsed : Type 0
  IsUsed = IsCheckpointIn k (contents (checkpoint_file k.generation)) × IsOlder k.generation (checkpoint_file (k.generation + 1)) (contents (checkpoint_file (k.generation + 1)))

  in_first : newest_file contents ≡ 0 → IsCheckpointIn k (contents 0) → IsUsed
  in_first e is =
      let mine = has_generation (checkpoint_layout (contents 0)) k (contents 0) is in
      let parity : k.generation % 2 ≡ 0 = ap (λ n. n % 2) (sym mine) ∙ head_parity 0 (contents 0) (sealed (checkpoint_layout (contents 0)) k (contents 0) is) faults.0 in
      let other : (k.generation + 1) % 2 ≡ 1 = omega (arith, parity) in
      let older : IsOlder k.generation 1 (contents 1) = older_by 1 (contents 1) k.generation faults.1 (λ s.
      elim (first_parts (is_sealed (contents 0)) (is_sealed (contents 1)) Less e) [
        | inl un ↦ absurd (let both : true ≡ false = sym s ∙ un in cc)
        | inr less ↦ grind (arith, nat_tests, less, mine)
      ]) in
      (subst (λ n. IsCheckpointIn k (contents n)) (sym parity) is, subst (λ n. IsOlder k.generation n (contents n)) (sym other) older)

  in_second : newest_file contents ≡ 1 → IsCheckpointIn k (contents 1) → IsUsed
  in_second e is =
      let mine = has_generation (checkpoint_layout (contents 1)) k (contents 1) is in
      let parity : k.generation % 2 ≡ 1 = ap (λ n. n % 2) (sym mine) ∙ head_parity 1 (contents 1) (sealed (checkpoint_layout (contents 1)) k (contents 1) is) faults.1 in
      let other : (k.generation + 1) % 2 ≡ 0 = omega (arith, parity) in
      let older : IsOlder k.generation 0 (contents 0) = older_by 0 (contents 0) k.generation faults.0 (λ s.
      elim (second_parts (is_sealed (contents 0)) (is_sealed (contents 1)) Less e) [
        | inl un ↦ absurd (let both : true ≡ false = sym s ∙ un in cc)
        | inr less ↦
            let its : generation_in (contents 0) % 2 ≡ 0 = head_parity 0 (contents 0) s faults.0 in
            let up : generation_in (contents 0) ≤ generation_in (contents 1) = grind (arith, nat_tests, less) in
            omega (arith, up, mine, its, parity)
      ]) in
      (subst (λ n. IsCheckpointIn k (contents n)) (sym parity) is, subst (λ n. IsOlder k.generation n (contents n)) (sym other) older)

  is_used : IsCheckpointIn k (contents (newest_file contents)) → IsUsed
  is_used is = elim (one_of_two (is_sealed (contents 0)) (is_sealed (contents 1)) Less) [
    | inl e ↦ in_first e (subst (λ n. IsCheckpointIn k (contents n)) e is)
    | inr e ↦ in_second e (subst (λ n. IsCheckpointIn k (contents n)) e is)
  ]

pub used_is_held : UsedIsHeld
used_is_held contents found heads is logs reaches =
    let both = is_used contents found.checkpoint heads is in
    record { checkpoint = both.0; other = both.1; logs = logs; reaches = reaches }

pub older_checkpoint : OlderCheckpoint
older_checkpoint layout k generation content is_version is less =
    inr (has_head layout k content is is_version (k.generation % 2) refl, let mine = has_generation layout k content is in omega (arith, mine, less))

pub shut_unsealed : ShutIsUnsealed
shut_unsealed gate rest shut =
    let closed : (gate == 165) ≡ false = ne_eqb gate 165 shut in
    ap (λ b. nat_le 36 (length (gate ∷ rest)) && b) closed ∙ never (nat_le 36 (length (gate ∷ rest)))
  where
    never : (b : Bool) → (b && false) ≡ false
    never true = refl
    never false = refl

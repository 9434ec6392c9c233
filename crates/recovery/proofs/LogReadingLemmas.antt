-- The logs of a checkpoint, one after the other.
use Rattle.std.proofs.Common.{◌≡◌, ◌⊎◌, inl, inr, ℕ, ◌+◌, List, [], ◌++◌, length, Some, refl, sym, ap, ap₂, subst, ◌∙◌}
use Rattle.map_types.specs.declared.commands.Command.{Command}
use Rattle.map_types.specs.declared.refusals.Refusal.{Refusal}
use Rattle.map_types.specs.declared.refusals.Refusal.TheVariants.{Damaged, Failed, NoMemory}
use Rattle.map_model.specs.Maps.{Map}
use Rattle.map_model.specs.Steps.{map_after}
use Rattle.map_model.proofs.FoldLaws.{map_after-append}
use Rattle.log_records.specs.Layout.{Layout, layout_of}
use Rattle.store_layout.specs.Checkpoints.{Checkpoint}
use Rattle.store_layout.specs.Logs.{commands_in, log_file}
use Rattle.store_layout.specs.Readings.{IsBadHeader, gate_behind}
use Rattle.store_layout.specs.Opening.{Contents, AreBadLogs, bad_header, bad_frame, bad_next_header, bad_next_frame, log_layout, second_end}
use Rattle.store_layout.specs.SectionsAndLog.{counted}
use Rattle.store_layout.proofs.Growing.{counted-append}
use Rattle.gate_log.specs.Scan.{HasRead, ScanState}
use Rattle.gate_log.specs.States.{LogState, resumed}
use Rattle.recovery.specs.declared.replay.End.{End}
use Rattle.recovery.specs.declared.replay.End.TheVariants.{Closed, Ended}
use Rattle.recovery.specs.declared.restoring.Restoring.{Restoring}
use Rattle.recovery.specs.Restoring.{Applies, HasMap, IsSameFrame}
use Rattle.recovery.specs.LogReading.{AreReplayed, IsBadLog, IsBrokenFor, IsEnd, IsLogRead, IsReplayed, RefusesFor}

pub refuses_more : (P Q : Type 0) (refusal : Refusal) → (P → Q) → RefusesFor P refusal → RefusesFor Q refusal
refuses_more P Q refusal f (inl e) = inl e
refuses_more P Q refusal f (inr (inl e)) = inr (inl e)
refuses_more P Q refusal f (inr (inr p)) = inr (inr (f p))

pub two_ends : (end : End) → (end ≡ Closed → ⊥) → end ≡ Ended
two_ends Closed no_more = absurd (no_more refl)
two_ends Ended no_more = refl

pub first_end : (end : End) → (end ≡ Ended → ⊥) → end ≡ Closed
first_end Closed never = refl
first_end Ended never = absurd (never refl)

-- ---- one log

pub header_refused : (generation low : ℕ) (content : List ℕ) (refusal : Refusal)
    → (refusal ≡ Failed) ⊎ ((refusal ≡ NoMemory) ⊎ IsBadHeader generation low content refusal) → RefusesFor (IsBadLog generation low content refusal) refusal
header_refused generation low content refusal (inl e) = inl e
header_refused generation low content refusal (inr (inl e)) = inr (inl e)
header_refused generation low content refusal (inr (inr bad)) = inr (inr (inl bad))

module _ (generation low : ℕ) (content later : List ℕ) (same : later ≡ content) (scan : ScanState) (own : log_layout content ≡ layout_of scan.version) (begun : HasRead (layout_of scan.version) low [] scan content) where
  abbrev layout : Layout
  layout = layout_of scan.version

  abbrev Broken : List ℕ → Refusal → Type 0
  Broken bytes refusal = (l : ℕ) → HasRead layout l [] scan bytes → IsBrokenFor layout generation l bytes refusal

  pub frames_refused : (honest : Type 0) (refusal : Refusal) → honest → RefusesFor (honest → Broken later refusal) refusal → RefusesFor (IsBadLog generation low content refusal) refusal
  frames_refused honest refusal is why =
      refuses_more (honest → Broken later refusal) (IsBadLog generation low content refusal) refusal
      (λ f. inr (subst (λ (x : Layout). IsBrokenFor x generation low content refusal) (sym own) (subst (λ (bytes : List ℕ). Broken bytes refusal) same (f is) low begun))) why

  pub log_read : (before after : Restoring) (end : End) (ending : ScanState) (place : LogState) → place ≡ resumed scan.version generation low ending.gate ending.expected
      → ((l : ℕ) → HasRead layout l [] scan later → IsReplayed layout generation l later before end ending after) → IsLogRead generation low content before end place after
  log_read before after end ending place is made =
      let read = subst (λ (bytes : List ℕ). (l : ℕ) → HasRead layout l [] scan bytes → IsReplayed layout generation l bytes before end ending after) same made low begun in
      record {
        batches = read.batches;
        ends = subst (λ (x : Layout). IsEnd x end generation low read.batches content) (sym own) read.ends;
        goes_on = record {
          version = ap (λ (p : LogState). layout_of p.version) is ∙ sym own;
          generation = ap (λ (p : LogState). p.generation) is;
          low = ap (λ (p : LogState). p.low) is;
          gate = ap (λ (p : LogState). p.gate) is ∙ read.gate ∙ ap (λ (x : Layout). gate_behind x generation low read.batches) (sym own);
          committed = ap (λ (p : LogState). p.committed) is ∙ read.committed;
        };
        applied = read.applied;
      }

-- ---- two logs

-- changes of one log, and then of the next
pub applies_on : (low next : ℕ) (first second : List Command) (a b c : Restoring) → next ≡ low + length first → IsSameFrame a b → Applies low first a b → Applies next second b c
    → Applies low (first ++ second) a c
applies_on low next first second a b c e same one two sections m marks has =
    let n = a.of.count in
    let done = counted n sections low first in
    let rest : counted b.of.count sections next second ≡ counted n sections (low + length first) second =
    ap₂ (λ of t. counted of.count sections t second) same.of e in
    let all : map_after m (counted n sections low (first ++ second)) ≡ map_after (map_after m done) (counted b.of.count sections next second) =
    ap (map_after m) (counted-append n sections low first second ∙ ap (λ (l : List Command). done ++ l) (sym rest)) ∙ map_after-append m done (counted b.of.count sections next second) in
    subst (λ (x : Map). HasMap c x) (sym all) (two sections (map_after m done) (marks ∙ sym (ap (λ ms. ms.items) same.marks)) (one sections m marks has))

module _ (contents : Contents) (k : Checkpoint) (before mid after : Restoring) (first : LogState) where
  abbrev content : ℕ → List ℕ
  content generation = contents (log_file generation)

  pub first_bad : (refusal : Refusal) → IsBadLog k.generation k.low (content k.generation) refusal → AreBadLogs contents k refusal
  first_bad refusal (inl bad) = bad_header bad
  first_bad refusal (inr bad) = bad_frame bad.batches bad.reads bad.damage

  module _ (read : IsLogRead k.generation k.low (content k.generation) before Ended first mid) where
    pub next_bad : (next : ℕ) (refusal : Refusal) → next ≡ k.generation + 1 → IsBadLog next first.committed (content next) refusal → AreBadLogs contents k refusal
    next_bad next refusal e bad =
        go (subst (λ n. IsBadLog n (k.low + length (commands_in read.batches)) (content n) refusal) e (subst (λ l. IsBadLog next l (content next) refusal) read.goes_on.committed bad))
      where
        go : IsBadLog (k.generation + 1) (k.low + length (commands_in read.batches)) (content (k.generation + 1)) refusal → AreBadLogs contents k refusal
        go (inl bad) = bad_next_header read.batches read.ends bad
        go (inr bad) = bad_next_frame read.batches bad.batches read.ends bad.reads bad.damage

    module _ (next : ℕ) (e : next ≡ k.generation + 1) (second : LogState) (same : IsSameFrame before mid) where
      abbrev Next : End → ℕ → ℕ → Type 0
      Next end n low = IsLogRead n low (content n) mid end second after

      moved : (end : End) → Next end next first.committed → Next end (k.generation + 1) (k.low + length (commands_in read.batches))
      moved end other = subst (λ n. Next end n (k.low + length (commands_in read.batches))) e (subst (λ l. Next end next l) read.goes_on.committed other)

      pub two_logs : Next Closed next first.committed → AreReplayed contents k before after second
      two_logs other =
          let there = moved Closed other in
          record {
            first = read.batches;
            second = Some there.batches;
            logs = (read.ends, there.ends);
            goes_on = there.goes_on;
            applied = applies_on k.low (k.low + length (commands_in read.batches)) (commands_in read.batches) (commands_in there.batches) before mid after refl same read.applied there.applied;
          }

      pub ended_twice : (refusal : Refusal) → refusal ≡ Damaged (log_file second.generation) second.gate → Next Ended next first.committed → AreBadLogs contents k refusal
      ended_twice refusal is other =
          let there = moved Ended other in
          second_end read.batches there.batches read.ends there.ends (is ∙ ap₂ Damaged (ap log_file there.goes_on.generation) there.goes_on.gate)

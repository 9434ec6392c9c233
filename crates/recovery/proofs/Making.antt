-- The files of a new store.
use Rattle.std.proofs.Common.{◌≡◌, ◌≢◌, inl, inr, [], ℕ, List, ◌∷◌, ◌++◌, true, refl, sym, ap, subst, ◌∙◌, arith}
use Rattle.java_hash.specs.Stripes.{is_stripe_count}
use Rattle.disk_model.specs.Files.{Contents, File, Files, MayLeave, now}
use Rattle.disk_model.specs.Gates.{IsShut}
use Rattle.disk_model.specs.Moments.{AtEachMoment}
use Rattle.disk_model.proofs.MomentLemmas.{goes_on, in_the_end, weaker}
use Rattle.store_layout.specs.Checkpoints.{IsCheckpoint, checkpoint_bytes}
use Rattle.log_records.specs.Layout.{Layout, layout_of}
use Rattle.log_records.specs.declared.versions.Version.{Version}
use Rattle.store_layout.specs.Logs.{IsClosed}
use Rattle.store_layout.specs.Opening.{Holds, first_checkpoint}
use Rattle.store_layout.specs.Readings.{closed}
use Rattle.store_layout.proofs.NewStores.{first_is_whole, greatest, no_map}
use Rattle.store_layout.proofs.OwnLayouts.{checkpoint_in_own, checkpoint_reads, closed_in_own, log_reads, own_of}
use Rattle.recovery.specs.Formatting.{AtStops, IsClear, IsNew, IsNewOrUnformatted, IsSealedWith, IsWrittenIn, OneFile, first_opened}
use Rattle.recovery.proofs.LogBeginning.{Others}
use Rattle.recovery.proofs.NewStoreLemmas.{Unsealed, shut_stays}
use Rattle.recovery.proofs.OneFileLemmas.{Leave}

zero_two : ◌≢◌ {A = ℕ} 0 2
zero_two = λ e. absurd cc

one_two : ◌≢◌ {A = ℕ} 1 2
one_two = λ e. absurd cc

one_zero : ◌≢◌ {A = ℕ} 1 0
one_zero = λ e. absurd cc

two_zero : ◌≢◌ {A = ℕ} 2 0
two_zero = λ e. absurd cc

same_file : (P : List ℕ → Type 0) (a b : File) → b ≡ a → Leave P a → Leave P b
same_file P a b e may = subst (λ (file : File). Leave P file) (sym e) may

none_sealed : (stripes : ℕ) (files : Files) → Leave Unsealed (files 0) → Leave Unsealed (files 1) → AtStops (IsNewOrUnformatted stripes) files
none_sealed stripes files first second contents leaves = inl (first (contents 0) (leaves 0 (omega arith)), second (contents 1) (leaves 1 (omega arith)))

pub shut_on : {D : Type 0} (states : D → List Files) (one two : D) → IsShut [] [] (now (states one) 0) → AtEachMoment states one two (Others (now (states one))) → IsShut [] [] (now (states two) 0)
shut_on states one two shut beginning =
    let there = in_the_end states one two (Others (now (states one))) beginning in
    subst (λ (file : File). IsShut [] [] file) (sym (there 0 zero_two)) shut

module _ {D : Type 0} (states : D → List Files) (stripes : ℕ) (old one : D) (clear : IsClear (now (states old))) (closing : AtEachMoment states old one (OneFile 0 Unsealed (now (states old)))) where
  abbrev pub Moments : D → Type 0
  Moments new = AtEachMoment states old new (AtStops (IsNewOrUnformatted stripes))

  pub closing_moments : Moments one
  closing_moments =
      weaker states old one (OneFile 0 Unsealed (now (states old))) (AtStops (IsNewOrUnformatted stripes))
      (λ files o. none_sealed stripes files o.leaves (same_file Unsealed (now (states old) 1) (files 1) (o.others 1 one_zero) clear.second)) closing

  second_at_one : Leave Unsealed (now (states one) 1)
  second_at_one = let there = in_the_end states old one (OneFile 0 Unsealed (now (states old))) closing in same_file Unsealed (now (states old) 1) (now (states one) 1) (there.others 1 one_zero) clear.second

  module _ (two : D) (shut : IsShut [] [] (now (states one) 0)) (beginning : AtEachMoment states one two (Others (now (states one)))) where
    pub beginning_moments : Moments two
    beginning_moments =
        goes_on states old one two (AtStops (IsNewOrUnformatted stripes)) closing_moments
        (weaker states one two (Others (now (states one))) (AtStops (IsNewOrUnformatted stripes))
        (λ files o. none_sealed stripes files (same_file Unsealed (now (states one) 0) (files 0) (o 0 zero_two) (shut_stays [] (now (states one) 0) shut))
        (same_file Unsealed (now (states one) 1) (files 1) (o 1 one_two) second_at_one)) beginning)

    there : Others (now (states one)) (now (states two))
    there = in_the_end states one two (Others (now (states one))) beginning

    second_at_two : Leave Unsealed (now (states two) 1)
    second_at_two = same_file Unsealed (now (states one) 1) (now (states two) 1) (there 1 one_two) second_at_one

    module _ (version : Version) (log : (content : List ℕ) → MayLeave (now (states two) 2) content → IsClosed (layout_of version) 0 0 [] content) (whole : is_stripe_count stripes ≡ true) (bytes : List ℕ)
        (are : bytes ≡ checkpoint_bytes (layout_of version) (first_checkpoint stripes)) where
      abbrev layout : Layout
      layout = layout_of version

      sealed_so : (contents : Contents) (rest : List ℕ) → contents 0 ≡ 165 ∷ (bytes ++ rest) → IsCheckpoint layout (first_checkpoint stripes) (contents 0)
      sealed_so contents rest e = record {
        rest = rest;
        bytes = e ∙ ap (λ (l : List ℕ). 165 ∷ (l ++ rest)) are;
        whole = (first_is_whole layout stripes whole).0;
      }

      stands : (contents : Contents) (rest : List ℕ) → contents 0 ≡ 165 ∷ (bytes ++ rest) → MayLeave (now (states two) 1) (contents 1) → MayLeave (now (states two) 2) (contents 2) → IsNew stripes contents
      stands contents rest e left_one left_two =
          let checkpoint = sealed_so contents rest e in
          let none = greatest 0 stripes in
          let holds : Holds contents (first_opened stripes) = record {
            checkpoint = checkpoint_in_own layout (own_of version) (first_checkpoint stripes) (contents 0) checkpoint;
            other = inl (second_at_two (contents 1) left_one);
            logs = closed_in_own layout (own_of version) 0 0 [] (contents 2) (log (contents 2) left_two);
            reaches = omega (arith, none);
          } in
          record { holds = holds; stands = record { found = first_opened stripes; holds = holds; prefix = refl; map = no_map stripes } }

      pub sealing_moments : (new : D) → AtEachMoment states two new (OneFile 0 (IsSealedWith bytes) (now (states two))) → Moments new
      sealing_moments new sealing =
          goes_on states old two new (AtStops (IsNewOrUnformatted stripes)) beginning_moments
          (weaker states two new (OneFile 0 (IsSealedWith bytes) (now (states two))) (AtStops (IsNewOrUnformatted stripes)) each sealing)
        where
          each : (files : Files) → OneFile 0 (IsSealedWith bytes) (now (states two)) files → AtStops (IsNewOrUnformatted stripes) files
          each files o contents leaves =
              let left_one = subst (λ (file : File). MayLeave file (contents 1)) (o.others 1 one_zero) (leaves 1 (omega arith)) in
              let left_two = subst (λ (file : File). MayLeave file (contents 2)) (o.others 2 two_zero) (leaves 2 (omega arith)) in
              elim (o.leaves (contents 0) (leaves 0 (omega arith))) [
                | inl unsealed ↦ inl (unsealed, second_at_two (contents 1) left_one)
                | inr kept ↦ inr (stands contents kept.0 kept.1 left_one left_two)
              ]

      pub new_in_the_end : (new : D) → AtEachMoment states two new (OneFile 0 (IsSealedWith bytes) (now (states two))) → ((content : List ℕ) → MayLeave (now (states new) 0) content → (rest : List ℕ) × (content ≡ 165 ∷ (bytes ++ rest)))
          → AtStops (IsNew stripes) (now (states new))
      new_in_the_end new sealing sealed contents leaves =
          let o = in_the_end states two new (OneFile 0 (IsSealedWith bytes) (now (states two))) sealing in
          let left_one = subst (λ (file : File). MayLeave file (contents 1)) (o.others 1 one_zero) (leaves 1 (omega arith)) in
          let left_two = subst (λ (file : File). MayLeave file (contents 2)) (o.others 2 two_zero) (leaves 2 (omega arith)) in
          let kept = sealed (contents 0) (leaves 0 (omega arith)) in
          stands contents kept.0 kept.1 left_one left_two

      pub written_in_the_end : (new : D) → AtEachMoment states two new (OneFile 0 (IsSealedWith bytes) (now (states two))) → ((content : List ℕ) → MayLeave (now (states new) 0) content → (rest : List ℕ) × (content ≡ 165 ∷ (bytes ++ rest)))
          → AtStops (IsWrittenIn layout) (now (states new))
      written_in_the_end new sealing sealed contents leaves =
          let o = in_the_end states two new (OneFile 0 (IsSealedWith bytes) (now (states two))) sealing in
          let left_two = subst (λ (file : File). MayLeave file (contents 2)) (o.others 2 two_zero) (leaves 2 (omega arith)) in
          let kept = sealed (contents 0) (leaves 0 (omega arith)) in (
            checkpoint_reads layout (own_of version) (first_checkpoint stripes) (contents 0) (sealed_so contents kept.0 kept.1),
            log_reads layout (own_of version) 0 0 (contents 2) (closed []) (log (contents 2) left_two),
          )

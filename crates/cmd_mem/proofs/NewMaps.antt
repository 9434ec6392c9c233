-- A disk that was made that of an empty map, and was opened or not.
use Rattle.std.proofs.Common.{◌≡◌, inl, inr, ℕ, ◌+◌, List, Ok, Err, IfOk, IfErr, Result, sym, ap, subst, ◌∙◌, arith}
use Rattle.std.specs.FinMap as finite
use Rattle.disk_model.specs.Files.{Files}
use Rattle.map_types.specs.declared.refusals.Refusal.{Refusal}
use Rattle.ticket_order.specs.declared.record.Opening.{Opening}
use Rattle.log_records.specs.Layout.{Layout}
use Rattle.store_layout.specs.Logs.{new_layout}
use Rattle.store_layout.specs.Opening.{Contents, Opened, Refuses, StandsFor, key_limit_of}
use Rattle.store_layout.specs.OpeningLaws.{NeverBoth, OneStanding, OpensOneWay}
use Rattle.gate_log.specs.Scan.{failed_in}
use Rattle.recovery.specs.Formatting.{IsNew, IsWrittenIn, first_opened}
use Rattle.recovery.specs.Opening.{OpensWith}
use Rattle.recovery.specs.LogReading.{RefusesFor, contents_of}
use Rattle.recovery.specs.Syncing.{Stopped}
use Rattle.cmd_mem.specs.Maps.{CannotOpen, failed, forgotten, nothing_yet}

abbrev ok_of : Opened → Result Opened Refusal
ok_of x = Ok x

module _ {D : Type 0} (states : D → List Files) (failures : D → ℕ) (honest : D → Type 0) (stripes : ℕ) (disk mid left : D) where
  counted : (refusal : Refusal) → Stopped states failures honest 4 mid left refusal → failures left ≡ failures mid + failed_in {X = ℕ} (Err refusal)
  counted refusal (inl stopped) = subst (λ r. failures left ≡ failures mid + failed_in {X = ℕ} (Err r)) (sym stopped.0) stopped.1.counted
  counted refusal (inr looked) = looked.looks.failed_so ∙ ap (λ n. n + failed_in {X = ℕ} (Err refusal)) looked.synced.counted

  pub cannot_open : NeverBoth → failures mid ≡ failures disk → (refusal : Refusal) → Stopped states failures honest 4 mid left refusal
      → RefusesFor (Refuses (contents_of states mid) refusal) refusal → IsNew stripes (contents_of states mid) → CannotOpen states failures disk refusal left
  cannot_open law same refusal stopped (inl e) new =
      failed e (subst (λ r. failures left ≡ failures mid + failed_in {X = ℕ} (Err r)) e (counted refusal stopped) ∙ ap (λ n. n + 1) same)
  cannot_open law same refusal stopped (inr (inl e)) new =
      let count : failures left ≡ failures mid + 0 = subst (λ r. failures left ≡ failures mid + failed_in {X = ℕ} (Err r)) e (counted refusal stopped) in
      forgotten e (omega (arith, count, same))
  cannot_open law same refusal stopped (inr (inr bad)) new = absurd (law (contents_of states mid) 0 finite.empty refusal new.stands bad)

-- an empty map begins where an opening of the files of a new store does
pub begins_new : OneStanding → OpensOneWay → (contents : Contents) (o : Opening) → OpensWith contents o → StandsFor contents o.first o.map → IsNew 16 contents → IsWrittenIn new_layout contents → o ≡ nothing_yet
begins_new one way contents o opens stands new written =
    let both = one contents o.first 0 o.map finite.empty stands new.stands in
    let found : opens.found ≡ first_opened 16 = same_ok opens.found (first_opened 16) (way contents (Ok opens.found) (Ok (first_opened 16)) opens.holds new.holds) in
    let limit : o.key_limit ≡ new_layout.key_limit = opens.limit_is ∙ (ap (key_limit_of contents) found ∙ ap (λ (layout : Layout). layout.key_limit) written.1) in
    λ i. record { first = both.0 i; map = both.1 i; key_limit = limit i }
  where
    same_ok : (x y : Opened) → ok_of x ≡ ok_of y → x ≡ y
    same_ok x y e = cc

pub both_ok : {X E : Type 0} (P Q R : X → Type 0) (r : Result X E) → ((x : X) → P x → Q x → R x) → IfOk r P → IfOk r Q → IfOk r R
both_ok P Q R (Ok x) f p q = f x p q
both_ok P Q R (Err e) f p q = tt

pub if_ok : {X E : Type 0} (P Q : X → Type 0) (r : Result X E) → ((x : X) → P x → Q x) → IfOk r P → IfOk r Q
if_ok P Q (Ok x) f p = f x p
if_ok P Q (Err e) f p = tt

pub if_err : {X E : Type 0} (P Q R : E → Type 0) (r : Result X E) → ((e : E) → P e → Q e → R e) → IfErr r P → IfErr r Q → IfErr r R
if_err P Q R (Ok x) f p q = tt
if_err P Q R (Err e) f p q = f e p q

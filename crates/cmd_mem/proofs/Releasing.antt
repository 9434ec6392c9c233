-- What the release of a reply leaves of a record, and what the answers then say.
use Rattle.std.proofs.Common.{◌≡◌, ◌<◌, ◌≤◌, ◌⊎◌, ℕ, List, length, Ok, Err, IfOk, IfErr, Result, ap, subst, sym, inl, inr, true, false, arith}
use Rattle.std.specs.List.{Contains}
use Rattle.map_types.specs.declared.commands.Command.{Command}
use Rattle.map_types.specs.declared.commands.Reply.{Reply}
use Rattle.map_types.specs.declared.refusals.Refusal.{Refusal}
use Rattle.map_types.specs.declared.refusals.Refusal.TheVariants as refusal_type
use Rattle.ticket_order.specs.declared.stripe.Entry.{Entry}
use Rattle.ticket_order.specs.declared.record.Opening.{Opening}
use Rattle.ticket_order.specs.declared.held.Held.{Held}
use Rattle.ticket_order.specs.declared.record.Record.{Record}
use Rattle.ticket_order.specs.Records.{publishing}
use Rattle.ticket_order.specs.Legality.{entries_from}
use Rattle.ticket_order.specs.Calls.{Misses, Reaches, SeesAgain}
use Rattle.gate_log.specs.States.{LogState}
use Rattle.flusher.specs.declared.keeper.Keeper.{Keeper}
use Rattle.flusher.specs.Fitting.{IsTakenFront, WereTaken}
use Rattle.log_records.specs.Layout.{layout_of}
use Rattle.store_layout.specs.Hands.{FitsBatch, Hand, IsLongest}
use Rattle.flusher.specs.KeeperSteps.{is_too_long}
use Rattle.wire_frames.specs.declared.requests.Request.{Request}
use Rattle.connections.specs.Dialogue.{Answer}
use Rattle.cmd_mem.specs.Served.{AreTaken, Begins, CannotCommit, Ends, IsCommitted, IsGivenOut, IsIdle, IsSwept, IsWithheld, Makes, Refuses, fails}
use Rattle.ticket_order.proofs.Entries.{grown}

-- what is committed was published
reached_published : (position : ℕ) (made w : Record) (log : LogState) → IsCommitted position made w log → position ≤ w.published
reached_published position made w log k = omega (arith, k.reached, ap (λ (r : Record). r.published) k.is)

pub never_missed : (position : ℕ) (made w after : Record) (log : LogState) → IsCommitted position made w log → Misses position w after → ⊥
never_missed position made w after log k m = omega (arith, reached_published position made w log k, m.sees.published, m.missed)

pub found : (position : ℕ) (made w after : Record) (log : LogState) → IsCommitted position made w log → Reaches position w after ⊎ SeesAgain position w (Reaches position) after → Reaches position w after
found position made w after log k (inl r) = r
found position made w after log k (inr s) = absurd (never_missed position made w s.first.between log k s.first.misses)

pub committed_by : (position : ℕ) (made after w : Record) (log : LogState) (done : List Command) → IsSwept made after → position ≤ log.committed → IsTakenFront done log.committed after → w ≡ publishing after log.committed → IsCommitted position made w log
committed_by position made after w log done swept reached front is = record { after = after; swept = swept; reached = reached; done = done; front = front; is = is }

-- each entry that the pass had seen before the sweeps was taken
pub were_taken : (position count : ℕ) (made after w : Record) → IsSwept made after → position ≤ count → ((e : Entry) → Contains (entries_from after.opening.first after.seen) e → e.ticket < count → Contains after.taken e) → w.taken ≡ after.taken → AreTaken position made w
were_taken position count made after w s reached each same = λ e has low.
    subst (λ (es : List Entry). Contains es e) (sym same)
    (each e (subst (λ (o : Opening). Contains (entries_from o.first after.seen) e) (sym s.quiet.opening) (subst (λ (xs : List Command). Contains (entries_from made.opening.first xs) e) (sym s.seen.is) (grown made.opening.first made.seen s.seen.more e has)))
    (omega (arith, low, reached)))

-- what was begun, and how what was begun was finished
pub begins : (n : ℕ) (v : Record) (request : Request) (result : Result Held Refusal) (w : Record)
    → IfOk result (λ held. Makes n v request held.position held.reply w)
    → IfErr result (λ refusal. Refuses n v request refusal w)
    → Begins n v request result w
begins n v request (Ok held) w ok err = ok
begins n v request (Err refusal) w ok err = err

pub ends : (P : Type 0) (v : Record) (held : Held) (answer : Answer) (w : Record) (log : LogState)
    → IfOk answer (λ reply. (reply ≡ held.reply) × P × IsGivenOut held.position v w log)
    → IfErr answer (λ refusal. (refusal ≡ refusal_type.Failed) × IsWithheld v w log)
    → Ends v held answer w log
ends P v held (Ok reply) w log ok err = (ok.0, ok.2)
ends P v held (Err refusal) w log ok err = err

-- where the map has not failed after an answer, the reply was given out
pub holds_still : (A B : Reply → Type 0) (C : Refusal → Type 0) (P : Type 0) (result : Answer) → IfOk result (λ reply. A reply × P × B reply) → IfErr result (λ refusal. (refusal ≡ refusal_type.Failed) × C refusal) → fails result ≡ false → P
holds_still A B C P (Ok reply) ok err still = ok.1
holds_still A B C P (Err refusal) ok err still = both (subst (λ (r : Refusal). fails {X = Reply} (Err r) ≡ false) err.0 still)
  where
    both : true ≡ false → P
    both e = absurd (cc)

-- a keeper that has published is idle still
pub published_idle : {D : Type 0} (old new : Keeper D) (count : ℕ) → new ≡ record old { published = count } → IsIdle old → IsIdle new
published_idle {D} old new count is idle = subst (λ (k : Keeper D). IsIdle k) (sym is) (record { working = idle.working; unfailed = idle.unfailed; resting = idle.resting; alone = idle.alone })

-- a batch that the keeper refuses as too long
pub no_room : (hand : Hand) (old new : LogState) (p : Record) (commands : List Command) → new ≡ old → hand.next ≡ old.committed → 1 ≤ length commands → IsLongest (layout_of old.version) 65536 hand commands → WereTaken old.committed commands p → is_too_long old commands → CannotCommit new p
no_room hand old new p commands same next some longest taken long =
    subst (λ (log : LogState). CannotCommit log p) (sym same) (inr (record {
      commands = commands;
      some = some;
      taken = taken;
      fits = subst (λ (t : ℕ). FitsBatch (layout_of old.version) 65536 t commands) next longest.fits;
      too_long = long;
    }))

-- A life begins.
use Rattle.std.proofs.Common.{ℕ, ◌≡◌, ◌<◌, List, [], ◌∷◌, Option, Some, None, length, refl, arith, sym, ◌∙◌, ap, subst, inl, inr, append-nil}
use Rattle.std.specs.Prelude.{replicate, slice_index_or}
use Rattle.std.proofs.Math.ListN.{get_or-append, get_or-eq_default}
use Rattle.std.proofs.lemmas.Bool.{cases_lt}
use Rattle.std.proofs.lemmas.List.{get_or-replicate}
use Rattle.map_types.specs.declared.commands.Command.{Command}
use Rattle.map_model.specs.Parts.{union_of}
use Rattle.map_model.specs.Steps.{fold_of}
use Rattle.atomic_methods.specs.PartState.{PartState}
use Rattle.disk_model.specs.Files.{Contents, Files}
use Rattle.store_layout.specs.Opening.{Opened, key_limit_of, prefix_of}
use Rattle.ticket_order.specs.declared.record.Record.{Record}
use Rattle.ticket_order.specs.Records.{enrolling, keeper_at_start, newcomer, reach}
use Rattle.one_history.specs.declared.book.Book.{Book}
use Rattle.one_history.specs.Turns.{at_start, maps_of, opening_of, record_of}
use Rattle.one_history.specs.OneHistory.{HoldApart, HoldsStripe, IsOneHistory}
use Rattle.sim_rules.specs.World.{World, Life, Idle, begun_by, job_of}
use Rattle.sim_workers.specs.Doings.{Doing, Rests}
use Rattle.sim_workers.specs.WordsInWorld.{IsDrawn, IsOfLife, IsTaken, PlacesStand, WordsStand, drawn_by}
use Rattle.sim_workers.specs.Workers.{Stand, WorkersStand}
use Rattle.sim_workers.specs.Laws.{LifeBegins}
use Rattle.sim_workers.proofs.WorkersInWorld.{world_of}

-- all are idle
idle_at : (j : ℕ) → slice_index_or (replicate 64 Idle) j Idle ≡ Idle
idle_at j = elim (cases_lt j 64) [
  | inl l ↦ get_or-replicate 64 j Idle Idle l
  | inr l ↦ get_or-eq_default (replicate 64 Idle) Idle {n = j} (omega (arith, l))
]

seen_at : (first j : ℕ) → j < 64 → slice_index_or (replicate 64 first) j 0 ≡ first
seen_at first j l = get_or-replicate 64 j first 0 l

undrawn : (j t : ℕ) → drawn_by (slice_index_or (replicate 64 Idle) j Idle) ≡ Some t → ⊥
undrawn j t is = let no : None ≡ Some t = sym (ap drawn_by (idle_at j)) ∙ is in cc

-- no pass holds a stripe
module _ (first limit : ℕ) (parts : List PartState) where
  abbrev book : Book
  book = at_start first parts limit 64

  abbrev newest : Record
  newest = enrolling (newcomer (opening_of first parts limit)) 65

  worker_is : (j : ℕ) → j < 64 → record_of j book ≡ newest
  worker_is j l =
      let within : j < length (replicate 64 newest) = omega (arith, l) in
      get_or-append (replicate 64 newest) (enrolling (keeper_at_start (opening_of first parts limit)) 65 ∷ []) (newcomer (opening_of first parts limit)) j within
      ∙ get_or-replicate 64 j newest (newcomer (opening_of first parts limit)) l

  worker_sees : (j : ℕ) → j < 64 → reach (record_of j book) ≡ first
  worker_sees j l = omega (arith, ap reach (worker_is j l))

  worker_free : (j : ℕ) → j < 64 → (record_of j book).holding ≡ None
  worker_free j l = ap (λ (r : Record). r.holding) (worker_is j l)

  keeper_free : (i : ℕ) → HoldsStripe book 64 i → ⊥
  keeper_free i holds = let no : None ≡ Some i = holds.has in cc

  module _ (files : Files) (history : List Command) (stripes : ℕ) (contents : Contents) (found : Opened) (one : IsOneHistory book) (apart : HoldApart book) (many : length parts ≡ stripes)
      (same : first ≡ prefix_of found) (within : limit ≡ key_limit_of contents found)
      (count : length history ≡ prefix_of found) (map : union_of (maps_of parts) ≡ fold_of history) where
    abbrev life : Life
    life = begun_by stripes contents found

    words_begin : WordsStand book (world_of files history life) life
    unfolding begun_by
    words_begin = record {
      one = one;
      apart = apart;
      stripes = sym many;
      first = sym same;
      key_limit = within;
      before = history;
      count = count ∙ sym same;
      map = map;
      history = sym (append-nil history);
      durable = sym same;
      has_failed = refl;
    }

    none_of_life : (t : ℕ) → IsOfLife book t → ⊥
    none_of_life t is = omega (arith, is.0, is.1)

    none_taken : (t : ℕ) → IsTaken book t → ⊥
    none_taken t is = omega (arith, is.1.1)

    none_drawn : (t : ℕ) → IsDrawn life t → ⊥
    unfolding begun_by
    none_drawn t is = undrawn is.0 t is.1

    drawn_by_none : (i t : ℕ) → drawn_by (job_of life i) ≡ Some t → ⊥
    unfolding begun_by
    drawn_by_none i t is = undrawn i t is

    places_begin : PlacesStand book life
    unfolding begun_by
    places_begin = record {
      count = refl;
      drawn = λ t is. absurd (none_drawn t is);
      drawn_once = λ i j t x y. absurd (drawn_by_none i t x);
      taken = λ t is. absurd (none_taken t is);
      entries = λ e has. absurd (omega (arith, has.1));
      with_worker = λ t is. absurd (none_of_life t is);
      in_hand = λ t is. absurd (none_of_life t is);
    }

    workers_begin : (doings : ℕ → Doing) → ((j : ℕ) → j < 64 → doings j ≡ Rests) → WorkersStand book (world_of files history life) life doings
    unfolding begun_by
    workers_begin doings rest = record {
      words = words_begin;
      passes = refl;
      keeper = refl;
      jobs = refl;
      each = λ j l. rw (rest j l, idle_at j) (worker_free j l);
      seen_count = refl;
      seen = λ j l. seen_at (prefix_of found) j l ∙ (sym same ∙ sym (worker_sees j l));
      places = places_begin;
      held = λ i. (λ no. absurd cc, λ holds. absurd (keeper_free i holds));
    }

pub life_begins : LifeBegins
life_begins b w stripes contents found parts doings is one apart many life count map rest =
    let first : ℕ = prefix_of found in
    let limit : ℕ = key_limit_of contents found in
    let stands : Stand (at_start first parts limit 64) (world_of w.files w.history (begun_by stripes contents found)) doings =
    workers_begin first limit parts w.files w.history stripes contents found (subst IsOneHistory is one) (subst HoldApart is apart) many refl refl count map doings rest in
    let same : w ≡ world_of w.files w.history (begun_by stripes contents found) = ap (λ (x : Option Life). record { files = w.files; history = w.history; life = x }) life in
    subst (λ (x : Book). Stand x w doings) (sym is) (subst (λ (x : World). Stand (at_start first parts limit 64) x doings) (sym same) stands)

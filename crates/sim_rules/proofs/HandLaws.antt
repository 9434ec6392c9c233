-- The longest run in a keeper's hand is the longest run in hand.
use Rattle.std.proofs.lemmas.Bool.Decides.{nat_tests}
use Rattle.std.proofs.Common.{◌≡◌, ◌⊎◌, inl, inr, ◌≤◌, ◌<◌, ◌+◌, ◌-◌, ℕ, List, [], ◌∷◌, ◌++◌, length, map, take, drop, get_or, Option, None, Some}
use Rattle.std.proofs.Common.{refl, sym, ap, ◌∙◌, subst, arith}
use Rattle.std.specs.Prelude.{slice_get}
use Rattle.std.proofs.lemmas.List.{ext_get_or, get_or-drop, get_or-map, get_or-take, get_or_append_left, get_or_past, length-drop, length-map}
use Rattle.std.proofs.lemmas.List.{length-take-le, take-append-drop}
use Rattle.std.proofs.lemmas.Option.{get_or_from_slice_get, slice_get_within}
use Rattle.map_types.specs.declared.commands.Command.{Command}
use Rattle.store_layout.specs.Hands.{FitsBatch, Hand, Holds, IsRun}
use Rattle.sim_rules.specs.World.{World, Life, InHand, next_commands, place_of}
use Rattle.sim_rules.specs.InHand.{IsHandOf}
use Rattle.sim_rules.specs.Laws.{LongestRunInHand}

-- a run holds its commands
run_holds : (hand : Hand) (commands : List Command) → IsRun hand commands → (i : ℕ) (other : Command) → i < length commands → Holds hand (hand.next + i) (get_or commands i other)
run_holds hand commands (rest, slots) i other l = record {
  reached = omega arith;
  there =
      ap (λ (n : ℕ). get_or hand.slots n None) (let place : hand.next + i - hand.next ≡ i = omega arith in place)
      ∙ (ap (λ (s : List (Option Command)). get_or s i None) slots
      ∙ (get_or_append_left (map Some commands) rest None i (omega (arith, l, length-map commands Some))
      ∙ get_or-map Some commands i other None l));
}

either : (n size : ℕ) → (n < size) ⊎ (size ≤ n)
either n size = grind (arith, nat_tests)

within_by : (n size : ℕ) → (size ≤ n → ⊥) → (n < size) ⊎ (size ≤ n) → n < size
within_by n size never (inl inside) = inside
within_by n size never (inr past) = absurd (never past)

IsSome : Option Command → Type 0
IsSome None = ⊥
IsSome (Some c) = Unit {0}

not_none : (c : Command) → None ≡ Some c → ⊥
unfolding IsSome
not_none c is = subst IsSome (sym is) tt

module _ (w : World) (l : Life) (hand : Hand) (known : IsHandOf w l hand) where
  -- what is held has its place in the history
  at_ticket : (i : ℕ) (c : Command) → Holds hand (hand.next + i) c → slice_get w.history (l.committed + i) ≡ Some c
  at_ticket i c holds = subst (λ (n : ℕ). slice_get w.history (n + i) ≡ Some c) known.next (known.held (hand.next + i) c holds).1

  -- so many commands are the next, where each is in the history at its ticket
  next_are : (commands : List Command) (other : Command) (last : ℕ) → length commands ≡ last + 1 → ((i : ℕ) → i < length commands → slice_get w.history (l.committed + i) ≡ Some (get_or commands i other))
      → next_commands w l (length commands) ≡ commands
  next_are commands other last size each =
      let reached : l.committed + last < length w.history = slice_get_within w.history (l.committed + last) (get_or commands last other) (each last (omega (arith, size))) in
      let long : length (next_commands w l (length commands)) ≡ length commands =
      length-take-le (length commands) (drop l.committed w.history) (omega (arith, size, reached, length-drop l.committed w.history)) in
      ext_get_or other (next_commands w l (length commands)) commands long (λ i below.
      let inside : i < length commands = omega (arith, below, long) in
      get_or-take (length commands) (drop l.committed w.history) i other inside
      ∙ (get_or-drop l.committed w.history i other
      ∙ get_or_from_slice_get w.history (l.committed + i) (get_or commands i other) other (each i inside)))

  pub run_is_next : (commands : List Command) → IsRun hand commands → next_commands w l (length commands) ≡ commands
  run_is_next [] run = refl
  run_is_next (c ∷ cs) run = next_are (c ∷ cs) c (length cs) (omega arith) (λ i inside. at_ticket i (get_or (c ∷ cs) i c) (run_holds hand (c ∷ cs) run i c inside))

  in_hand_by : (commands : List Command) → IsRun hand commands → (i : ℕ) → i < length commands → place_of l (l.committed + i) ≡ InHand
  in_hand_by [] run i inside = absurd (omega (arith, inside))
  in_hand_by (c ∷ cs) run i inside =
      subst (λ (n : ℕ). place_of l (n + i) ≡ InHand) known.next (known.held (hand.next + i) (get_or (c ∷ cs) i c) (run_holds hand (c ∷ cs) run i c inside)).0

  -- ---- the other way

  held_there : (i : ℕ) → place_of l (l.committed + i) ≡ InHand → (c : Command) × Holds hand (l.committed + i) c
  held_there i is = known.all (l.committed + i) (omega arith) is

  slot_of : (i : ℕ) (c : Command) → Holds hand (l.committed + i) c → get_or hand.slots i None ≡ Some c
  slot_of i c holds = ap (λ (n : ℕ). get_or hand.slots n None) (let place : i ≡ l.committed + i - hand.next = omega (arith, known.next) in place) ∙ holds.there

  slots_inside : (n : ℕ) (c : Command) → get_or hand.slots n None ≡ Some c → n < length hand.slots
  slots_inside n c is = within_by n (length hand.slots) (λ past. not_none c (sym (get_or_past hand.slots n None past) ∙ is)) (either n (length hand.slots))

  -- n + 1 tickets in hand, from the committed count on
  module _ (n : ℕ) (each : (i : ℕ) → i < n + 1 → place_of l (l.committed + i) ≡ InHand) where
    command : (i : ℕ) → i < n + 1 → Command
    command i inside = (held_there i (each i inside)).0

    at_place : (i : ℕ) (inside : i < n + 1) → slice_get w.history (l.committed + i) ≡ Some (command i inside)
    unfolding command
    at_place i inside = (known.held (l.committed + i) (command i inside) (held_there i (each i inside)).1).1

    in_slot : (i : ℕ) (inside : i < n + 1) → get_or hand.slots i None ≡ Some (command i inside)
    unfolding command
    in_slot i inside = slot_of i (command i inside) (held_there i (each i inside)).1

    pub next_length : length (next_commands w l (n + 1)) ≡ n + 1
    next_length =
        length-take-le (n + 1) (drop l.committed w.history)
        (omega (arith, slice_get_within w.history (l.committed + n) (command n (omega arith)) (at_place n (omega arith)), length-drop l.committed w.history))

    next_at : (i : ℕ) (inside : i < n + 1) (other : Command) → get_or (next_commands w l (n + 1)) i other ≡ command i inside
    next_at i inside other =
        get_or-take (n + 1) (drop l.committed w.history) i other inside
        ∙ (get_or-drop l.committed w.history i other
        ∙ get_or_from_slice_get w.history (l.committed + i) (command i inside) other (at_place i inside))

    slots_taken : take (n + 1) hand.slots ≡ map Some (next_commands w l (n + 1))
    slots_taken =
        let long : n < length hand.slots = slots_inside n (command n (omega arith)) (in_slot n (omega arith)) in
        let size : length (take (n + 1) hand.slots) ≡ n + 1 = length-take-le (n + 1) hand.slots (omega (arith, long)) in
        ext_get_or None (take (n + 1) hand.slots) (map Some (next_commands w l (n + 1))) (size ∙ sym (length-map (next_commands w l (n + 1)) Some ∙ next_length)) (λ i below.
        let inside : i < n + 1 = omega (arith, below, size) in
        get_or-take (n + 1) hand.slots i None inside
        ∙ (in_slot i inside
        ∙ (ap (λ (c : Command). Some c) (sym (next_at i inside (command i inside)))
        ∙ sym (get_or-map Some (next_commands w l (n + 1)) i (command i inside) None (omega (arith, inside, next_length))))))

    pub next_is_run : IsRun hand (next_commands w l (n + 1))
    next_is_run = (drop (n + 1) hand.slots, sym (take-append-drop (n + 1) hand.slots) ∙ ap (λ (s : List (Option Command)). s ++ drop (n + 1) hand.slots) slots_taken)

pub longest_run_in_hand : LongestRunInHand
longest_run_in_hand w l hand most commands known longest =
    let next : next_commands w l (length commands) ≡ commands = run_is_next w l hand known commands longest.run in (
      record {
        can = record {
          in_hand = in_hand_by w l hand known commands longest.run;
          fits = subst (λ (cs : List Command). FitsBatch l.layout most l.committed cs) (sym next) (subst (λ (first : ℕ). FitsBatch l.layout most first commands) known.next longest.fits);
        };
        no_longer = λ can.
            let run = next_is_run w l hand known (length commands) can.in_hand in
            let more = next_length w l hand known (length commands) can.in_hand in
            let fits : FitsBatch l.layout most hand.next (next_commands w l (length commands + 1)) = subst (λ (first : ℕ). FitsBatch l.layout most first (next_commands w l (length commands + 1))) (sym known.next) can.fits in
            omega (arith, more, longest.longest (next_commands w l (length commands + 1)) run fits);
      },
      next,
    )

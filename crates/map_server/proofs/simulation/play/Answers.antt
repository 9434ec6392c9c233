use Rattle.std.proofs.Common.{ap, subst, ◌∙◌}
use Rattle.sim_rules.specs.Runs.{IsRun}
use Rattle.map_server.specs.Simulation.ComesOf.{Played, PlayedAgain}
use Rattle.map_server.proofs.Playing.{not_taken, shown_by, taken}
use Rattle.map_server.proofs.simulation.play.Goals as goal

pub plays-smaller : goal.plays-smaller
plays-smaller c =
    let spans = ap (λ v. v.items) c.plays.invariant.1 in
    taken c.args.script.now.spans.items c.plays.script.events.items _ c.plays.trace.outcomes.items c.plays.invariant.0
    (shown_by _ _ _ _ _ _ _ spans c.as_slice-in-plays.ensures.value c.plays-test.ensures.events)

pub plays-preserved : goal.plays-preserved
plays-preserved c =
    let spans = ap (λ v. v.items) c.plays.invariant.1 in
    let takes = shown_by _ _ _ _ _ _ _ spans c.as_slice-in-plays.ensures.value c.plays-test.ensures.events in (
      subst (λ events. IsRun events c.in_ok-trace-2.trace.outcomes.items) c.as_slice-in-plays-2.ensures.value c.in_ok-trace-2.ensures,
      c.take_back_steps.ensures.spans ∙ c.plays.invariant.1,
      λ outcomes comes. c.plays.invariant.2 outcomes (PlayedAgain _ _ _ c.plays.invariant.0 takes comes),
    )

pub returns : goal.returns
returns c =
    let spans = ap (λ v. v.items) c.plays.invariant.1 in
    let none = not_taken _ _ _ (shown_by _ _ _ _ _ _ _ spans c.as_slice-in-plays.ensures.value c.plays-test.ensures.events) in
    record {
      played = c.plays.invariant.2 _ (Played _ c.plays.invariant.0 none);
      spans = c.take_back_steps.ensures.spans ∙ c.plays.invariant.1;
    }

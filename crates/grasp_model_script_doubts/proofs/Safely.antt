-- Each network that the lines of a script lead to is safe, and each prefix that a doubter settles in them is dead.
use Rattle.std.proofs.Common.{◌≡◌, refl, sym, ap, ◌∙◌, subst, ℕ, List, [], ◌∷◌, ◌++◌, All, Option, None, Some}
use Rattle.std.proofs.lemmas.List.Elements.{All-append, All-cons, All-nil}
use Rattle.grasp_doubter.specs.States.{DoubterState}
use Rattle.grasp_types.specs.Prefix.{AddressBlock as Prefix}
use Rattle.grasp_laws_network.proofs.Going.{reached_more}
use Rattle.grasp_laws_network.proofs.GoodPlans.{scripts_are_good}
use Rattle.grasp_model_network.specs.Plans.{IsGoodPlan}
use Rattle.grasp_model_network.specs.Setting.{Setting, numbered, script_setting}
use Rattle.grasp_model_network.specs.Visits.{Choice}
use Rattle.grasp_model_network.specs.declared.plan.WorldPlan.{WorldPlan}
use Rattle.grasp_model_script.specs.Laws.{EachNetworkIsSafe}
use Rattle.grasp_model_script.specs.Safe.{IsSafe}
use Rattle.grasp_model_doubts.specs.Events.{CallOccurs, DoubtOccurs, doubt_event, networks_of_call, networks_within}
use Rattle.grasp_model_doubts.specs.Openings.{first_doubts}
use Rattle.grasp_model_doubts.specs.Runs.{AreDoubtTurns, DoubtTurn, IsDoubted, doubt_networks, doubted}
use Rattle.grasp_model_doubts.specs.Steps.{after_doubter_call, doubter_event, taken_at}
use Rattle.grasp_model_doubts.specs.World.{DoubtState}
use Rattle.grasp_model_doubts.specs.declared.event.DoubtEvent.{DoubtEvent}
use Rattle.grasp_model_doubts.specs.declared.event.DoubtEvent.TheVariants as doubt
use Rattle.grasp_laws_doubts.specs.Laws.{DoubtedAreReached, SettlingsAreOfDead}
use Rattle.grasp_model_script_doubts.specs.Laws.{EachDoubtRunIsSafe}
use Rattle.grasp_model_script_doubts.specs.LineRuns.{DoubtLineRun, MayHappen, act_event, after_doubt_line, state_then}
use Rattle.grasp_model_script_doubts.specs.ScriptRuns.{MayRunAllDoubts, doubt_turns, doubts_of, state_after}
use Rattle.grasp_model_script_doubts.specs.Settlings.{AllSettleDead, CallSettlesDead, EventSettlesDead, IsDeadWhere}
use Rattle.grasp_model_script_doubts.proofs.MoreLines.{lines_are_turns}

-- ---- one turn more

turns_more : (s : Setting) (ts : List DoubtTurn) (x : DoubtState) (e : DoubtEvent) (c : Choice) → AreDoubtTurns s x ts → DoubtOccurs s (doubted s x ts) e c → AreDoubtTurns s x (ts ++ record { event = e; choice = c } ∷ [])
unfolding AreDoubtTurns doubted
turns_more s [] x e c all one = (one, tt)
turns_more s (t ∷ ts) x e c all one = (all.0, turns_more s ts (doubt_event s x t.event t.choice) e c all.1 one)

doubted_more : (s : Setting) (ts : List DoubtTurn) (x : DoubtState) (e : DoubtEvent) (c : Choice) → doubted s x (ts ++ record { event = e; choice = c } ∷ []) ≡ doubt_event s (doubted s x ts) e c
unfolding doubted
doubted_more s [] x e c = refl
doubted_more s (t ∷ ts) x e c = doubted_more s ts (doubt_event s x t.event t.choice) e c

pub led_further : (s : Setting) (x : DoubtState) (e : DoubtEvent) (c : Choice) → IsDoubted s x → DoubtOccurs s x e c → IsDoubted s (doubt_event s x e c)
led_further s x e c h one = record {
  good = h.good;
  told = h.told;
  turns = h.turns ++ record { event = e; choice = c } ∷ [];
  run = turns_more s h.turns (first_doubts s) e c h.run (subst (λ (y : DoubtState). DoubtOccurs s y e c) h.last one);
  last = ap (λ (y : DoubtState). doubt_event s y e c) h.last ∙ sym (doubted_more s h.turns (first_doubts s) e c);
}

pub first_led : (plan : WorldPlan) → IsGoodPlan plan → IsDoubted (script_setting plan) (doubts_of plan)
unfolding AreDoubtTurns doubted script_setting
first_led plan good = record { good = scripts_are_good plan good; told = λ k a. refl; turns = []; run = tt; last = refl }

-- ---- the networks of a run

module _ (reached : DoubtedAreReached) (safe : EachNetworkIsSafe) (s : Setting) where
  -- that after a doubter's call, before a prefix is settled
  call_safe : (x : DoubtState) (node : ℕ) (c : Choice) (q : Option DoubterState) → IsDoubted s x → CallOccurs s x.world node c q → All (IsSafe s) (networks_of_call s x.world node c q)
  call_safe x node c None h one = absurd one
  call_safe x node c (Some k) h one = All-cons (IsSafe s) _ [] (safe s _ (reached_more s x.world (doubter_event k node) c (reached s x h) one)) (All-nil (IsSafe s))

  within_safe : (x : DoubtState) (e : DoubtEvent) (c : Choice) → IsDoubted s x → DoubtOccurs s x e c → All (IsSafe s) (networks_within s x e c)
  within_safe x (doubt.Plain e) c h one = All-nil (IsSafe s)
  within_safe x (doubt.Doubter node) c h one = call_safe x node c (numbered x.doubters node) h one
  within_safe x (doubt.Ask node prefix peer) c h one = All-nil (IsSafe s)

  networks_safe : (ts : List DoubtTurn) (x : DoubtState) → IsDoubted s x → AreDoubtTurns s x ts → All (IsSafe s) (doubt_networks s x ts)
  unfolding AreDoubtTurns doubt_networks
  networks_safe [] x h all = All-cons (IsSafe s) x.world [] (safe s x.world (reached s x h)) (All-nil (IsSafe s))
  networks_safe (t ∷ ts) x h all =
      let next : DoubtState = doubt_event s x t.event t.choice in
      All-cons (IsSafe s) x.world (networks_within s x t.event t.choice ++ doubt_networks s next ts) (safe s x.world (reached s x h))
      (All-append (IsSafe s) (networks_within s x t.event t.choice) (doubt_networks s next ts) (within_safe x t.event t.choice h all.0)
      (networks_safe ts next (led_further s x t.event t.choice h all.0) all.1))

-- ---- what is settled in a run

module _ (dead : SettlingsAreOfDead) (s : Setting) where
  call_dead : (x : DoubtState) (node : ℕ) (c : Choice) (q : Option DoubterState) → numbered x.doubters node ≡ q → IsDoubted s x → CallOccurs s x.world node c q → CallSettlesDead s x.world node c q
  call_dead x node c None is h one = absurd one
  call_dead x node c (Some k) is h one = by_prefix (taken_at s x.world node k c).settled refl where
    by_prefix : (p : Option Prefix) → (taken_at s x.world node k c).settled ≡ p → IsDeadWhere (after_doubter_call s x.world node k c) node p
    by_prefix None settles = tt
    by_prefix (Some p) settles = dead s x h node k c is one p settles

  event_dead : (x : DoubtState) (e : DoubtEvent) (c : Choice) → IsDoubted s x → DoubtOccurs s x e c → EventSettlesDead s x e c
  event_dead x (doubt.Plain e) c h one = tt
  event_dead x (doubt.Doubter node) c h one = call_dead x node c (numbered x.doubters node) refl h one
  event_dead x (doubt.Ask node prefix peer) c h one = tt

  all_dead : (ts : List DoubtTurn) (x : DoubtState) → IsDoubted s x → AreDoubtTurns s x ts → AllSettleDead s x ts
  unfolding AreDoubtTurns AllSettleDead
  all_dead [] x h all = tt
  all_dead (t ∷ ts) x h all = (event_dead x t.event t.choice h all.0, all_dead ts (doubt_event s x t.event t.choice) (led_further s x t.event t.choice h all.0) all.1)

-- ---- where the lines lead

led_then : (s : Setting) (x : DoubtState) (o : Option DoubtEvent) (c : Choice) → IsDoubted s x → MayHappen s x o c → IsDoubted s (state_then s x o c)
led_then s x None c h one = h
led_then s x (Some e) c h one = led_further s x e c h one

lines_lead : (s : Setting) (ls : List DoubtLineRun) (x : DoubtState) → IsDoubted s x → MayRunAllDoubts s x ls → IsDoubted s (state_after s x ls)
unfolding MayRunAllDoubts state_after
lines_lead s [] x h all = h
lines_lead s (l ∷ ls) x h all = lines_lead s ls (after_doubt_line s x l) (led_then s x (act_event x.world l.line.act) l.choice h all.0) all.1

-- however lines come out in the network of a good plan
pub runs_safely : DoubtedAreReached → SettlingsAreOfDead → EachNetworkIsSafe → EachDoubtRunIsSafe
runs_safely reached dead safe plan ls good may =
    let s : Setting = script_setting plan in
    let turns : AreDoubtTurns s (doubts_of plan) (doubt_turns s (doubts_of plan) ls) = lines_are_turns s ls (doubts_of plan) may in
    record {
      may_run = may;
      safe = networks_safe reached safe s (doubt_turns s (doubts_of plan) ls) (doubts_of plan) (first_led plan good) turns;
      dead = all_dead dead s (doubt_turns s (doubts_of plan) ls) (doubts_of plan) (first_led plan good) turns;
      doubted = lines_lead s ls (doubts_of plan) (first_led plan good) may;
    }

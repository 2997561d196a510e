-- The parts of an exchange with the links.
use Rattle.std.proofs.Common.{◌≡◌, ℕ, List, [], ◌∷◌, Option, refl, ap, ◌∙◌, subst, None, cond}
use Rattle.grasp_core.specs.declared.node_core.NodeCore.{NodeCore}
use Rattle.grasp_io.specs.Told.{Grows}
use Rattle.grasp_io.specs.declared.links.Asked.{Asked}
use Rattle.grasp_io.specs.declared.links.Asked.TheVariants as asks
use Rattle.grasp_node_main.proofs.Told.{hands_on}
use Rattle.grasp_node_main.specs.Tells.{LinksTold, told, AsksOnce, HandsOnly}
use Rattle.grasp_node_main.specs.Turns.{got, nothing, no_memory, opened_in, is_away, closings, asking_calls, loop_call, outputs_in, closed_again}
use Rattle.grasp_own_agents.specs.Running.{GivesIn, TakesIn, Exchanged}
use Rattle.grasp_shared.proofs.Adding.{adds_on, adds_nothing}
use Rattle.grasp_shared.specs.Calls.{GoesOn, answered}
use Rattle.grasp_types.specs.declared.reply.Reply.{Reply}
use Rattle.grasp_types.specs.declared.traffic.Input.{Input}
use Rattle.grasp_types.specs.declared.traffic.Input.TheVariants as input

-- an input
pub gives_input : (a b : NodeCore) (now : ℕ) (i : Input) (stream away : Option ℕ) (r : Reply) → GoesOn a (answered now i r) b → stream ≡ opened_in i
    → closings away ≡ cond (is_away r) (closings stream) [] → GivesIn a now i away b
gives_input a b now i stream away r g s c = record { reply = r; went = g; away_is = c ∙ ap (λ x. cond (is_away r) (closings x) []) s }

pub takes_input : (a b : NodeCore) (now : ℕ) (i : Input) (k : Asked) (away : Option ℕ) → k ≡ asks.Got i → GivesIn a now i away b → TakesIn a now k away b
takes_input a b now i k away e p = record { asking = got i p.reply; asked_is = e; adds = p.went.goes 0; away_is = p.away_is }

-- no input
pub takes_nothing : (a : NodeCore) (now : ℕ) (k : Asked) (away : Option ℕ) → k ≡ asks.Nothing → away ≡ None → TakesIn a now k away a
takes_nothing a now k away e w = record { asking = nothing; asked_is = e; adds = adds_nothing a; away_is = ap closings w }

pub takes_no_memory : (a : NodeCore) (now : ℕ) (k : Asked) (away : Option ℕ) → k ≡ asks.OutOfMemory → away ≡ None → TakesIn a now k away a
takes_no_memory a now k away e w = record { asking = no_memory; asked_is = e; adds = adds_nothing a; away_is = ap closings w }

pub ruleset taking_in = (takes_input, takes_nothing, takes_no_memory)

-- what was asked, an input or nothing, a drain, and a closing
pub exchanged : (wait now : ℕ) (a b c : NodeCore) (readings later : Option (List ℕ)) (x y z w : LinksTold) (came : Asked) (away : Option ℕ) (drained : Reply)
    → AsksOnce wait x came y → Grows readings later now → TakesIn a now came away b → GoesOn b (answered now (input.Drain 64) drained) c
    → HandsOnly y (outputs_in drained) z → HandsOnly z (closings away) w → Exchanged wait a (told readings x) now c (told later w)
exchanged wait now a b c readings later x y z w came away drained p r q g h k = record {
  turn = record { now = now; asking = q.asking; drained = drained };
  reading = refl;
  adds = adds_on a b c (asking_calls now q.asking) (loop_call now (input.Drain 64) drained ∷ []) q.adds (g.goes 0);
  tells = record {
    readings = r;
    asked = y;
    asks = subst (λ s. AsksOnce wait x s y) q.asked_is p;
    hands = hands_on y z w (outputs_in drained) (closed_again q.asking) h (subst (λ os. HandsOnly z os w) q.away_is k);
  };
}

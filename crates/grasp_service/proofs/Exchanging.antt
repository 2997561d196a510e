-- The parts of an exchange with the links.
use Rattle.std.proofs.Common.{◌≡◌, ℕ, List, [], ◌∷◌, Option, ap, ◌∙◌, subst, ◌||◌, None, true, false, cond}
use Rattle.grasp_core.specs.declared.node_core.NodeCore.{NodeCore}
use Rattle.grasp_io.specs.Told.{Grows}
use Rattle.grasp_io.specs.declared.links.Asked.{Asked}
use Rattle.grasp_io.specs.declared.links.Asked.TheVariants as asks
use Rattle.grasp_node_main.proofs.Told.{hands_on}
use Rattle.grasp_node_main.specs.Tells.{LinksTold, told, AsksOnce, HandsOnly}
use Rattle.grasp_node_main.specs.Turns.{got, nothing, no_memory, opened_in, is_away, closings, asking_calls, loop_call, outputs_in, closed_again}
use Rattle.grasp_shared.proofs.Adding.{adds_on, adds_nothing}
use Rattle.grasp_shared.specs.Calls.{GoesOn, answered}
use Rattle.grasp_types.specs.declared.reply.Reply.{Reply}
use Rattle.grasp_types.specs.declared.traffic.Input.{Input}
use Rattle.grasp_types.specs.declared.traffic.Input.TheVariants as input
use Rattle.grasp_service_visits.specs.Calling.{is_starved}
use Rattle.grasp_service.specs.Exchanges.{GivesIn, TakesIn, Exchanged}
use Rattle.grasp_service.specs.declared.exchange.Exchange.{Exchange}
use Rattle.grasp_service.specs.declared.exchange.Taken.{Taken}

-- an input
pub gives_input : (a b : NodeCore) (now : ℕ) (i : Input) (stream away : Option ℕ) (r : Reply) (t : Taken) → GoesOn a (answered now i r) b → stream ≡ opened_in i
    → closings away ≡ cond (is_away r) (closings stream) [] → t.came ≡ true → t.away ≡ away → t.starved ≡ is_starved r → GivesIn a now i t b
gives_input a b now i stream away r t g s c m w h = record {
  reply = r;
  went = g;
  came = m;
  away = ap closings w ∙ c ∙ ap (λ x. cond (is_away r) (closings x) []) s;
  starved = h;
}

pub takes_input : (a b : NodeCore) (now : ℕ) (i : Input) (k : Asked) (t : Taken) → k ≡ asks.Got i → GivesIn a now i t b → TakesIn a now k t b
takes_input a b now i k t e p = record {
  asking = got i p.reply;
  asked_is = e;
  adds = p.went.goes 0;
  came = p.came;
  away = p.away;
  starved = p.starved;
}

-- no input
pub takes_nothing : (a : NodeCore) (now : ℕ) (k : Asked) (t : Taken) → k ≡ asks.Nothing → t.came ≡ false → t.away ≡ None → t.starved ≡ false → TakesIn a now k t a
takes_nothing a now k t e c w h = record { asking = nothing; asked_is = e; adds = adds_nothing a; came = c; away = ap closings w; starved = h }

pub takes_no_memory : (a : NodeCore) (now : ℕ) (k : Asked) (t : Taken) → k ≡ asks.OutOfMemory → t.came ≡ false → t.away ≡ None → t.starved ≡ false → TakesIn a now k t a
takes_no_memory a now k t e c w h = record { asking = no_memory; asked_is = e; adds = adds_nothing a; came = c; away = ap closings w; starved = h }

pub ruleset taking_in = (takes_input, takes_nothing, takes_no_memory)

-- what was asked, an input or nothing, a drain, and a closing
pub exchanged : (wait now : ℕ) (a b c : NodeCore) (readings later : Option (List ℕ)) (x y z w : LinksTold) (came : Asked) (t : Taken) (drained : Reply) (e : Exchange)
    → AsksOnce wait x came y → Grows readings later now → TakesIn a now came t b → GoesOn b (answered now (input.Drain 64) drained) c
    → HandsOnly y (outputs_in drained) z → HandsOnly z (closings t.away) w → e.reading ≡ now → e.came ≡ t.came → e.starved ≡ (t.starved || is_starved drained)
    → Exchanged wait a (told readings x) e c (told later w)
exchanged wait now a b c readings later x y z w came t drained e p r q g h k en ec es = record {
  turn = record { now = now; asking = q.asking; drained = drained };
  reading = en;
  came = ec ∙ q.came;
  starved = es ∙ ap (λ s. s || is_starved drained) q.starved;
  adds = adds_on a b c (asking_calls now q.asking) (loop_call now (input.Drain 64) drained ∷ []) q.adds (g.goes 0);
  tells = record {
    readings = r;
    asked = y;
    asks = subst (λ s. AsksOnce wait x s y) q.asked_is p;
    hands = hands_on y z w (outputs_in drained) (closed_again q.asking) h (subst (λ os. HandsOnly z os w) q.away k);
  };
}

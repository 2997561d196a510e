-- A network of two nodes stays one.
use Rattle.std.proofs.Common.{◌≡◌, refl, sym, ap, ◌∙◌, subst, ℕ, true, length, Result, Ok, Err}
use Rattle.std.specs.Prelude.{IfOk}
use Rattle.grasp_cbor.proofs.Facts.Lists.{length_map}
use Rattle.grasp_cbor.specs.declared.memory.OutOfMemory.{OutOfMemory}
use Rattle.grasp_laws_network.proofs.GoodPlans.{count_numbers}
use Rattle.grasp_model_network.specs.Events.{IsFitAmong}
use Rattle.grasp_model_network.specs.Plans.{IsNode}
use Rattle.grasp_model_network.specs.Setting.{Setting, numbers_from, script_locator, script_setting}
use Rattle.grasp_model_network.specs.declared.event.Event.{Event}
use Rattle.grasp_model_network.specs.declared.plan.WorldPlan.{WorldPlan}
use Rattle.grasp_model_network.specs.declared.report.Report.{Report}
use Rattle.grasp_model_network.specs.declared.report.WorldStop.{WorldStop}
use Rattle.grasp_model_network.specs.Turns.{after_turn}
use Rattle.grasp_model_network.specs.declared.turn.Turn.{Turn}
use Rattle.grasp_model_network.specs.declared.turn.Turn.TheVariants as turn
use Rattle.grasp_pool.specs.declared.image.PoolImage.{PoolImage}
use Rattle.grasp_types.specs.Prefix.{AddressBlock as Prefix}
use Rattle.grasp_simulator.proofs.Presence.{script_members}
use Rattle.grasp_simulator.specs.Contract.{MayAskFor, Network, Standing, going, stopped, TurnAnswers, WorldOpened, network_of}
use Rattle.grasp_simulator.specs.Lending.{TellsDead, TellsMayRestart}
use Rattle.grasp_simulator.specs.WorldStands.{HasNode, WorldStands}
use Rattle.grasp_simulator.specs.WorldSteps.{IsAskedFor, Turned}
use Rattle.grasp_simulator.specs.declared.world.World.{World}
use Rattle.grasp_tests_turns.specs.Benches.{HasTwo, MayTake, StandsForTwo}

opened_two : (p : WorldPlan) (result : Result World OutOfMemory) → p.nodes ≡ 2 → HasTwo (network_of p) → WorldOpened WorldStands p result → IfOk result StandsForTwo
opened_two p (Ok world) two has stands = record { network = network_of p; stands = stands; two = has }
opened_two p (Err e) two has stands = stands

two_of : (p : WorldPlan) → p.nodes ≡ 2 → HasTwo (network_of p)
unfolding script_setting
two_of p two = (script_members p ∙ two, length_map script_locator (numbers_from 1 p.nodes) ∙ (count_numbers 1 p.nodes ∙ two))

pub opens_two : (p : WorldPlan) (result : Result World OutOfMemory) → p.nodes ≡ 2 → WorldOpened WorldStands p result → IfOk result StandsForTwo
opens_two p result two opened = opened_two p result two (two_of p two) opened

-- ---- a turn

pub is_asked : (world : World) (t : Turn) → MayTake world t → IsAskedFor world t
is_asked world t m = record { network = m.network; meets = m.meets }

taken_at : (new : World) (s : Setting) (at : Standing) (t : Turn) (result : Result Report WorldStop) → (length s.members ≡ 2) × (length s.peers ≡ 2) → TurnAnswers (WorldStands new) s at t result → StandsForTwo new
taken_at new s (going w) t (Ok report) two a = record { network = record { setting = s; standing = going (after_turn s w t a.choice) }; stands = a.stands; two = two }
taken_at new s (going w) t (Err stop) two a = record { network = record { setting = s; standing = stopped stop }; stands = a.stands; two = two }
taken_at new s (stopped stop) t (Ok report) two a = absurd a
taken_at new s (stopped stop) t (Err again) two a = record { network = record { setting = s; standing = stopped stop }; stands = a.stands; two = two }

pub taken_two : (old new : World) (t : Turn) (result : Result Report WorldStop) → MayTake old t → Turned old new t result → StandsForTwo new
taken_two old new t result m turned = taken_at new m.network.setting m.network.standing t result m.two (turned m.network m.meets)

-- ---- which may be taken

node_in : (x : Network) (node : ℕ) → HasTwo x → IsNode 2 node → IsNode (length x.setting.members) node
node_in x node two is = subst (λ n. IsNode n node) (sym two.0) is

pub has_node : (world : World) (node : ℕ) → StandsForTwo world → IsNode 2 node → HasNode world node
has_node world node s is = record { network = s.network; stands = s.stands; is_node = node_in s.network node s.two is }

event_at : (s : Setting) (at : Standing) (e : Event) → (length s.members ≡ 2) × (length s.peers ≡ 2) → IsFitAmong 2 2 e → MayAskFor s at (turn.Event e)
event_at s (going w) e two fit = subst (λ n. IsFitAmong n (length s.peers) e) (sym two.0) (subst (λ n. IsFitAmong 2 n e) (sym two.1) fit)
event_at s (stopped stop) e two fit = tt

pub event_may : (world : World) (e : Event) → StandsForTwo world → IsFitAmong 2 2 e → MayTake world (turn.Event e)
event_may world e s fit = record { network = s.network; meets = record { stands = s.stands; fit = event_at s.network.setting s.network.standing e s.two fit }; two = s.two }

settle_at : (world : World) (s : Setting) (at : Standing) (node : ℕ) (p : Prefix) → WorldStands world (record { setting = s; standing = at }) → IsNode (length s.members) node → TellsDead world node p true → MayAskFor s at (turn.Settle node p)
settle_at world s (going w) node p stands is tells = (tells s w (record { stands = stands; is_node = is })).0 refl
settle_at world s (stopped stop) node p stands is tells = tt

pub settle_may : (world : World) (node : ℕ) (p : Prefix) → StandsForTwo world → IsNode 2 node → TellsDead world node p true → MayTake world (turn.Settle node p)
settle_may world node p s is tells = record {
  network = s.network;
  meets = record { stands = s.stands; fit = settle_at world s.network.setting s.network.standing node p s.stands (node_in s.network node s.two is) tells };
  two = s.two;
}

restart_at : (world : World) (s : Setting) (at : Standing) (node : ℕ) (image : PoolImage) → WorldStands world (record { setting = s; standing = at }) → IsNode (length s.members) node → TellsMayRestart world node image true
    → MayAskFor s at (turn.Restart node image)
restart_at world s (going w) node image stands is tells = (tells s w (record { stands = stands; is_node = is })).0 refl
restart_at world s (stopped stop) node image stands is tells = tt

pub restart_may : (world : World) (node : ℕ) (image : PoolImage) → StandsForTwo world → IsNode 2 node → TellsMayRestart world node image true → MayTake world (turn.Restart node image)
restart_may world node image s is tells = record {
  network = s.network;
  meets = record { stands = s.stands; fit = restart_at world s.network.setting s.network.standing node image s.stands (node_in s.network node s.two is) tells };
  two = s.two;
}

-- The network that the simulator keeps where the agent of a node is told something.
use Rattle.std.proofs.Common.{◌≡◌, ◌≤◌, sym, ap, ◌∙◌, subst, ℕ, Some, length}
use Rattle.grasp_types.specs.declared.address.Locator.{Locator}
use Rattle.grasp_model_network.specs.Setting.{Setting, numbered, script_locator, script_setting}
use Rattle.grasp_model_network.specs.declared.plan.WorldPlan.{WorldPlan}
use Rattle.grasp_model_network.specs.Plans.{IsNode}
use Rattle.grasp_simulator.specs.declared.world.World.{World}
use Rattle.grasp_simulator.proofs.SeatLists.{numbered_from_1, peers_count}

-- the peer of a number in the setting of a script
peer_of : (p : WorldPlan) (peer : ℕ) → IsNode (length (script_setting p).peers) peer → numbered (script_setting p).peers peer ≡ Some (script_locator peer)
unfolding script_setting
peer_of p peer is = numbered_from_1 script_locator p.nodes peer is.least (subst (λ (n : ℕ). peer ≤ n) (peers_count p) is.most)

pub told_peer : (old : World) (s : Setting) (peer : ℕ) (to : Locator) → s ≡ script_setting old.plan → IsNode (length s.peers) peer → to ≡ script_locator peer → numbered s.peers peer ≡ Some to
told_peer old s peer to same is named =
    ap (λ (x : Setting). numbered x.peers peer) same ∙ (peer_of old.plan peer (subst (λ (x : Setting). IsNode (length x.peers) peer) same is) ∙ ap Some (sym named))

-- What is sent changes no node.
use Rattle.std.proofs.Common.{◌≡◌, refl, ◌∙◌, ℕ, List, [], ◌∷◌, fold, Option, Some, None}
use Rattle.grasp_model_node.specs.Queue.{Queued, datagram, dial, send}
use Rattle.grasp_types.specs.declared.message.Message.{Message}
use Rattle.grasp_laws_network.specs.Laws.{SendingKeepsNodes}
use Rattle.grasp_model_network.specs.Routes.{Route, route_of}
use Rattle.grasp_model_network.specs.Sending.{posted, having_sent, having_closed, handed_over}
use Rattle.grasp_model_network.specs.Setting.{Setting}
use Rattle.grasp_model_network.specs.World.{WorldState, member_of}

pub posted_keeps : (w : WorldState) (m : Message) (route : Option Route) → (posted w m route).seats ≡ w.seats
posted_keeps w m None = refl
posted_keeps w m (Some route) = refl

pub sent_keeps : (s : Setting) (node : ℕ) (w : WorldState) (q : Queued) → (having_sent s node w q).seats ≡ w.seats
sent_keeps s node w (datagram link to m) = posted_keeps w m (route_of s (member_of w node) link to)
sent_keeps s node w (dial stream to) = refl
sent_keeps s node w (send stream m) = refl

pub all_sent_keep : (s : Setting) (node : ℕ) (qs : List Queued) (w : WorldState) → (fold (having_sent s node) w qs).seats ≡ w.seats
all_sent_keep s node [] w = refl
all_sent_keep s node (q ∷ qs) w = all_sent_keep s node qs (having_sent s node w q) ∙ sent_keeps s node w q

pub all_closed_keep : (node : ℕ) (streams : List ℕ) (w : WorldState) → (fold (having_closed node) w streams).seats ≡ w.seats
all_closed_keep node [] w = refl
all_closed_keep node (stream ∷ streams) w = all_closed_keep node streams (having_closed node w stream)

pub sending_keeps_nodes : SendingKeepsNodes
unfolding handed_over
sending_keeps_nodes s w node queued streams =
    all_closed_keep node streams (fold (having_sent s node) w queued) ∙ all_sent_keep s node queued w

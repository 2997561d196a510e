-- Whose a life is, and that it has its member's plan.
use Rattle.std.proofs.Common.{◌≡◌, sym, subst, ℕ, Some, unwrap_or}
use Rattle.grasp_laws_network.proofs.EachNode.{nodes_are_sound}
use Rattle.grasp_laws_network.proofs.Lists.{numbered_there}
use Rattle.grasp_laws_network.proofs.LivesKept.{lives_are_kept}
use Rattle.grasp_laws_network.specs.Lives.{LivesStand}
use Rattle.grasp_model_network.specs.Runs.{IsReached}
use Rattle.grasp_model_network.specs.Setting.{Member, Setting, numbered}
use Rattle.grasp_model_network.specs.World.{Seat, WorldState, member_of, seat_at}
use Rattle.grasp_model_node.specs.Node.{NodeState}
use Rattle.grasp_laws_floods.proofs.Told.{Stands, stands}

-- the life is one of this member, and its node is opened with the member's plan
pub record HasMember (s : Setting) (w : WorldState) (life : ℕ) (n : NodeState) : Type 0 where
  pub member : Member
  pub found : numbered s.members (member_of w life) ≡ Some member
  pub plan : n.plan ≡ member.plan

pub has_member : (s : Setting) (w : WorldState) → IsReached s w → (life : ℕ) (seat : Seat) → seat_at w life ≡ Some seat → HasMember s w life seat.core
has_member s w r life seat at = of_lives (lives_are_kept s w r) where
  of_member : (m : Member) → numbered s.members (member_of w life) ≡ Some m → HasMember s w life seat.core
  of_member m found = record { member = m; found = found; plan = nodes_are_sound.plans s w r life seat m at found }

  of_lives : LivesStand s w → HasMember s w life seat.core
  of_lives k = of_node (stands w.lives w.seats life seat k.count at) where
    of_node : Stands w.lives life → HasMember s w life seat.core
    of_node st =
        let m = numbered_there s.members st.x (k.members life st.x st.is) in
        of_member m.0 (subst (λ o. numbered s.members (unwrap_or o 0) ≡ Some m.0) (sym st.is) m.1)

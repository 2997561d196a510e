-- A node and its doubter that are put in a network: each other pair is as it was.
use Rattle.std.proofs.Common.{◌≡◌, ◌≢◌, ◌⊎◌, inl, inr, subst, sym, ap, ◌∙◌, ℕ, ◌-◌, ◌≤◌, List, Some, slice_set}
use Rattle.grasp_agent.specs.Replies.{after_reply}
use Rattle.grasp_doubter.specs.Calls as doubter
use Rattle.grasp_doubter.specs.States.{DoubterState}
use Rattle.grasp_model_network.specs.EventSteps.{after_agent, after_agent_call}
use Rattle.grasp_model_network.specs.Notes.{noted}
use Rattle.grasp_model_network.specs.Sending.{seat_with, stepped}
use Rattle.grasp_model_network.specs.Setting.{numbered}
use Rattle.grasp_model_network.specs.Visits.{Choice}
use Rattle.grasp_model_network.specs.World.{Seat, WorldState, present_life, seat_at}
use Rattle.grasp_model_doubts.specs.World.{with_doubter}
use Rattle.grasp_laws_network.proofs.Lists.{numbered_put}
use Rattle.grasp_laws_doubts.proofs.Parts.{agent_visit_of, doubter_visit_of}
use Rattle.grasp_laws_doubts.specs.Standing.{OfEachDoubter}

-- one node and its doubter are put
pub put_both : (P : ℕ → Seat → DoubterState → Type 0) (w y : WorldState) (ds : List DoubterState) (node : ℕ) (new : Seat) (f : DoubterState) → 1 ≤ node
    → y.seats ≡ slice_set w.seats (node - 1) new → P node new f
    → ((n : ℕ) (seat : Seat) → n ≢ node → seat_at w n ≡ Some seat → (d : DoubterState) → numbered ds n ≡ Some d → P n seat d) → OfEachDoubter P y (with_doubter ds node f)
put_both P w y ds node new f least seats own all n seat here d is =
    by_case (numbered_put w.seats node n new seat least (subst (λ xs. numbered xs n ≡ Some seat) seats here)) (numbered_put ds node n f d least is) where
      by_case : ((n ≡ node) × (new ≡ seat)) ⊎ ((n ≢ node) × (numbered w.seats n ≡ Some seat)) → ((n ≡ node) × (f ≡ d)) ⊎ ((n ≢ node) × (numbered ds n ≡ Some d)) → P n seat d
      by_case (inl a) (inl b) = subst (λ k. P k seat d) (sym a.0) (subst (λ z. P node z d) a.1 (subst (λ x. P node new x) b.1 own))
      by_case (inl a) (inr b) = absurd (b.0 a.0)
      by_case (inr a) (inl b) = absurd (a.0 b.0)
      by_case (inr a) (inr b) = all n seat a.0 a.1 d b.1

-- a doubter alone is put
pub put_doubter : (P : ℕ → Seat → DoubterState → Type 0) (w : WorldState) (ds : List DoubterState) (node : ℕ) (f : DoubterState) → 1 ≤ node
    → ((seat : Seat) → seat_at w node ≡ Some seat → P node seat f) → OfEachDoubter P w ds → OfEachDoubter P w (with_doubter ds node f)
put_doubter P w ds node f least own all n seat here d is = by_case (numbered_put ds node n f d least is) where
  by_case : ((n ≡ node) × (f ≡ d)) ⊎ ((n ≢ node) × (numbered ds n ≡ Some d)) → P n seat d
  by_case (inl b) = subst (λ k. P k seat d) (sym b.0) (subst (λ x. P node seat x) b.1 (own seat (ap (λ k. seat_at w k) (sym b.0) ∙ here)))
  by_case (inr b) = all n seat here d b.1

-- ---- what a call puts

-- a member's agent of prefixes has made its call
pub agent_put : (w : WorldState) (node : ℕ) (seat : Seat) (c : Choice) → present_life w node ≡ node
    → (after_agent w (agent_visit_of w node seat) c).seats ≡ slice_set w.seats (node - 1) (seat_with c.after (after_reply seat.agent c.reply))
unfolding after_agent noted stepped
agent_put w node seat c same = ap (λ n. slice_set w.seats (n - 1) (seat_with c.after (after_reply seat.agent c.reply))) same

-- a member's doubter has made its call
pub call_put : (w : WorldState) (node : ℕ) (seat : Seat) (d : DoubterState) (c : Choice) → present_life w node ≡ node
    → (after_agent_call w (doubter_visit_of w node seat d) 2 (doubter.next_call d) c).seats ≡ slice_set w.seats (node - 1) (seat_with c.after seat.agent)
unfolding after_agent_call noted stepped
call_put w node seat d c same = ap (λ n. slice_set w.seats (n - 1) (seat_with c.after seat.agent)) same

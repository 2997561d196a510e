-- The fields that a method leaves make up the state that its contract names.
use Rattle.std.proofs.Common.{◌≡◌, ℕ, List, slice_get, slice_index_or, slice_set, false, Some, None, Contains, sym, ◌∙◌, ap}
use Rattle.std.proofs.lemmas.Option.{get_or_from_slice_get}
use Rattle.grasp_types.specs.Prefix.{AddressBlock as Prefix}
use Rattle.grasp_types.specs.declared.objective.Objective.{Objective}
use Rattle.grasp_types.specs.declared.session.Handle.{Handle}
use Rattle.grasp_pool.specs.Holdings.{Holding}
use Rattle.grasp_pool.specs.Functions.{after_back}
use Rattle.grasp_agent.specs.Decisions.{giver_decision, after_deciding}
use Rattle.grasp_agent.specs.Kept.{IsKept}
use Rattle.grasp_agent.specs.Replies.{offering, without_offer, after_dropping, giving_back, deciding, give_act, after_giver_turn}
use Rattle.grasp_agent.specs.States.{AgentState}
use Rattle.grasp_agent.specs.declared.act.Act.{Act}
use Rattle.grasp_agent.specs.declared.act.Act.TheVariants as act
use Rattle.grasp_agent.specs.declared.decision.GiverDecision.{GiverDecision}
use Rattle.grasp_agent.specs.declared.giving.Giving.{Giving}
use Rattle.grasp_agent.proofs.Keeping.{act_stands, offer_reserved, without_is, acting}

-- what is read at a place
pub read_is : (xs : List Giving) (i : ℕ) (g x : Giving) → slice_get xs i ≡ Some g → x ≡ slice_index_or xs i x → x ≡ g
read_is xs i g x at e = e ∙ get_or_from_slice_get xs i g x at

-- what an act offers is reserved
pub act_reserved : (s : AgentState) (place : ℕ) (h : Handle) (p : Prefix) → s.act ≡ Some (act.Offer place h p) → IsKept s → Contains s.pool.reserved p
act_reserved s place h p e k = offer_reserved s place (record { handle = h; offer = Some p; first = false }) (act_stands s (act.Offer place h p) e k) k

-- where `x` was read at the place of an offer that wasn't made
pub dropped_is : (s : AgentState) (place : ℕ) (h : Handle) (p : Prefix) (pool : Holding) (x v : Giving) → s.act ≡ Some (act.Offer place h p) → IsKept s
    → pool ≡ after_back s.pool p → x ≡ slice_index_or s.giving place x → v ≡ offering x None
    → ◌≡◌ {A = AgentState} (record s { act = None; pool = pool; giving = slice_set s.giving place v }) (after_dropping s (act.Offer place h p))
dropped_is s place h p pool x v e k back read set =
    let g : Giving = record { handle = h; offer = Some p; first = false }
    in let at : slice_get s.giving place ≡ Some g = act_stands s (act.Offer place h p) e k
    in let there : v ≡ offering g None = set ∙ ap (λ y. offering y None) (read_is s.giving place g x at read)
    in let same : slice_set s.giving place v ≡ without_offer s.giving place = ap (λ y. slice_set s.giving place y) there ∙ sym (without_is s.giving place g at)
    in λ i. record s { act = None; pool = back i; giving = same i }

-- what a giver leaves in its turn
pub decided_is : (s : AgentState) (place : ℕ) (g : Giving) (o : Objective) (pool : Holding) (d : GiverDecision) (v : Giving) (a : Act)
    → d ≡ giver_decision (giving_back s.pool g.offer) o.value o.loops g.first → pool ≡ after_deciding (giving_back s.pool g.offer) d → v ≡ deciding g d → a ≡ give_act place g.handle d
    → ◌≡◌ {A = AgentState} (record s { pool = pool; giving = slice_set s.giving place v; act = Some a }) (after_giver_turn s place g o)
decided_is s place g o pool d v a decides after entry acts =
    let same : ◌≡◌ {A = AgentState} (record s { pool = pool; giving = slice_set s.giving place v; act = Some a }) (acting s place g (giving_back s.pool g.offer) d)
    = λ i. record s { pool = after i; giving = slice_set s.giving place (entry i); act = Some (acts i) }
    in same ∙ ap (acting s place g (giving_back s.pool g.offer)) decides

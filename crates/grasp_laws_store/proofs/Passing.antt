-- What passes from one agent to another: what is free stays free or is to be offered, and nothing more has been offered.
use Rattle.std.proofs.Common.{◌≡◌, ◌⊎◌, inl, inr, ℕ, ◌+◌, List, Contains, Option, None, Some, sym, subst, arith}
use Rattle.std.proofs.lemmas.Bool.{cases_lt}
use Rattle.std.proofs.lemmas.List.Elements.{Contains-append_cases}
use Rattle.grasp_types.specs.Prefix.{AddressBlock as Prefix, span_of, size_of}
use Rattle.grasp_types.specs.declared.session.By.TheVariants.{Mine, Theirs}
use Rattle.grasp_types.specs.declared.session.Outcome.{Outcome}
use Rattle.grasp_types.specs.declared.session.Outcome.TheVariants as outcome
use Rattle.grasp_pool.specs.Holdings.{Holding, IsFree, IsListed, Reserves, GivesBack, Confirms, Doubts, Gains}
use Rattle.grasp_pool.specs.Spans.{Covers}
use Rattle.grasp_pool.specs.declared.image.PoolImage.{PoolImage}
use Rattle.grasp_agent.specs.Kept.{IsKept}
use Rattle.grasp_agent.specs.Laws.{IsToBeOffered, by_act}
use Rattle.grasp_agent.specs.Reopening.{IsToOffer, MayReopen, retired}
use Rattle.grasp_agent.specs.States.{AgentState}
use Rattle.grasp_agent.specs.declared.act.Act.{Act}
use Rattle.grasp_agent.specs.declared.act.Act.TheVariants as act
use Rattle.grasp_agent.proofs.Retiring.{retired_doubtful}
use Rattle.grasp_laws_agent.specs.Moves.{Does, Drops, Effect, Gives, Move, Settled, SettlesOffer, TakesBack}
use Rattle.grasp_laws_agent.specs.Moves.{comes_in, starts, is_refused, considers, finishes, hands, is_unsent, hears, is_made, is_dropped, gives, leaves}
use Rattle.grasp_agent.specs.Replies.{give_act}
use Rattle.grasp_agent.specs.declared.decision.GiverDecision.{GiverDecision}
use Rattle.grasp_agent.specs.declared.decision.GiverDecision.TheVariants as giver
use Rattle.grasp_types.specs.declared.session.Handle.{Handle}
use Rattle.grasp_laws_agent.proofs.Reopening.{kept_agents_may_reopen}
use Rattle.grasp_laws_agent.proofs.Retiring.{agents_retire}
use Rattle.grasp_store.specs.Images.{IsGoodImage}

-- ---- pools

-- what was free is free, and what is listed was listed
pub record Loosens (old new : Holding) : Type 0 where
  pub free : (x : ℕ) → IsFree old x → IsFree new x
  pub listed : (p : Prefix) → IsListed new p → IsListed old p

pub same_loosens : (old new : Holding) → new ≡ old → Loosens old new
same_loosens old new is = record { free = λ x free. subst (λ (h : Holding). IsFree h x) (sym is) free; listed = λ p listed. subst (λ (h : Holding). IsListed h p) is listed }

back_loosens : (old new : Holding) (p : Prefix) → GivesBack old new p → Loosens old new
back_loosens old new p back = record {
  free = λ x free. (back.free x).1 (inl free);
  listed = λ q listed. elim listed [ inl has ↦ inl ((back.reserved q).0 has).0 | inr has ↦ inr (subst (λ (ps : List Prefix). Contains ps q) back.doubtful has) ];
}

confirm_loosens : (old new : Holding) (p : Prefix) → Confirms old new p → Loosens old new
confirm_loosens old new p confirms = record {
  free = λ x free. subst (λ (ps : List Prefix). Covers ps x) (sym confirms.free) free;
  listed = λ q listed. elim listed [ inl has ↦ inl ((confirms.reserved q).0 has).0 | inr has ↦ inr (subst (λ (ps : List Prefix). Contains ps q) confirms.doubtful has) ];
}

doubt_loosens : (old new : Holding) (p : Prefix) → Doubts old new p → Loosens old new
doubt_loosens old new p doubts = record {
  free = λ x free. subst (λ (ps : List Prefix). Covers ps x) (sym doubts.free) free;
  listed = λ q listed. elim listed [
    | inl has ↦ inl ((doubts.reserved q).0 has).0
    | inr has ↦ elim ((doubts.doubtful q).0 has) [ inl was ↦ inr was | inr is ↦ inl (subst (Contains old.reserved) (sym is) doubts.was) ]
  ];
}

gain_loosens : (old new : Holding) (p : Prefix) → Gains old new p → Loosens old new
gain_loosens old new p gains = record {
  free = λ x free. (gains.free x).1 (inl free);
  listed = λ q listed. elim listed [
    | inl has ↦ inl (subst (λ (ps : List Prefix). Contains ps q) gains.reserved has)
    | inr has ↦ inr (subst (λ (ps : List Prefix). Contains ps q) gains.doubtful has)
  ];
}

settled_loosens : (old new : Holding) (p : Prefix) (e : Outcome) → Settled e p old new → Loosens old new
settled_loosens old new p (outcome.Agreed Theirs o) settled = confirm_loosens old new p settled
settled_loosens old new p (outcome.Agreed Mine o) settled = doubt_loosens old new p settled
settled_loosens old new p (outcome.Declined Theirs reason) settled = back_loosens old new p settled
settled_loosens old new p (outcome.Declined Mine reason) settled = doubt_loosens old new p settled
settled_loosens old new p (outcome.Synchronized o) settled = doubt_loosens old new p settled
settled_loosens old new p (outcome.TimedOut deadline now) settled = doubt_loosens old new p settled
settled_loosens old new p outcome.Broken settled = doubt_loosens old new p settled
settled_loosens old new p outcome.OutOfMemory settled = doubt_loosens old new p settled
settled_loosens old new p (outcome.Invalid by) settled = doubt_loosens old new p settled

offer_loosens : (old new : Holding) (p : Option Prefix) (e : Outcome) → SettlesOffer p e old new → Loosens old new
offer_loosens old new None e settles = same_loosens old new settles
offer_loosens old new (Some p) e settles = settled_loosens old new p e settles

taken_loosens : (old new : Holding) (p : Option Prefix) → TakesBack p old new → Loosens old new
taken_loosens old new None takes = same_loosens old new takes
taken_loosens old new (Some p) takes = back_loosens old new p takes

does_loosens : (old new : Holding) (a : Act) → Does a old new → Loosens old new
does_loosens old new (act.Offer place h p) does = same_loosens old new does
does_loosens old new (act.Counter h n) does = same_loosens old new does
does_loosens old new (act.Accept h p) does = gain_loosens old new p does
does_loosens old new (act.Decline h reason) does = same_loosens old new does

drops_loosen : (s t : AgentState) (a : Act) → Drops a s t → Loosens s.pool t.pool
drops_loosen s t (act.Offer place h p) drops = back_loosens s.pool t.pool p drops.0
drops_loosen s t (act.Counter h n) drops = same_loosens s.pool t.pool drops.0
drops_loosen s t (act.Accept h p) drops = same_loosens s.pool t.pool drops.0
drops_loosen s t (act.Decline h reason) drops = same_loosens s.pool t.pool drops.0

-- ---- agents

-- what was free is free or is to be offered, and what has been offered or is in doubt was listed
pub record Passes (s t : AgentState) : Type 0 where
  pub free : (x : ℕ) → IsFree s.pool x → IsFree t.pool x ⊎ IsToOffer t x
  pub listed : (p : Prefix) → IsListed (retired t).pool p → IsListed s.pool p

-- what is listed at the end of its life is listed
end_listed : (t : AgentState) → IsKept t → (p : Prefix) → IsListed (retired t).pool p → IsListed t.pool p
end_listed t kept p listed = Contains-append_cases t.pool.reserved t.pool.doubtful p ((kept_agents_may_reopen t kept).doubtful p listed)

pub loosens_passes : (s t : AgentState) → IsKept t → Loosens s.pool t.pool → Passes s t
loosens_passes s t kept loosens = record { free = λ x free. inl (loosens.free x free); listed = λ p listed. loosens.listed p (end_listed t kept p listed) }

in_span_or_not : (p : Prefix) (x : ℕ) → span_of p x ⊎ (¬ span_of p x)
in_span_or_not p x = elim (cases_lt x p.address) [
  | inl before ↦ inr (λ inside. absurd (omega (arith, before, inside.0)))
  | inr from ↦ elim (cases_lt x (p.address + size_of p.length)) [
    | inl within ↦ inl (from, within)
    | inr past ↦ inr (λ inside. absurd (omega (arith, past, inside.1)))
  ]
]

-- a prefix is reserved that is to be offered
pub reserves_passes : (s t : AgentState) (between : Holding) (p : Prefix) → IsKept t → Loosens s.pool between → Reserves between t.pool p → IsToBeOffered t p → Passes s t
reserves_passes s t between p kept loosens reserves offered = record {
  free = λ x free. elim (in_span_or_not p x) [
    | inl inside ↦ inr (p, offered, inside)
    | inr outside ↦ inl ((reserves.free x).1 (loosens.free x free, outside))
  ];
  listed = λ q listed. loosens.listed q (elim listed [
    | inl has ↦
        let at_end = ((agents_retire t).reserved kept q).0 has
        in elim ((reserves.reserved q).0 at_end.0) [ inl was ↦ inl was | inr is ↦ absurd (at_end.1 (subst (IsToBeOffered t) (sym is) offered)) ]
    | inr has ↦ inr (subst (λ (ps : List Prefix). Contains ps q) reserves.doubtful (subst (λ (ps : List Prefix). Contains ps q) (retired_doubtful t) has))
  ]);
}

loosens_more : (old between new : Holding) → Loosens old between → new ≡ between → Loosens old new
loosens_more old between new loosens is = subst (λ (h : Holding). Loosens old h) (sym is) loosens

decides_passes : (s t : AgentState) (between : Holding) (place : ℕ) (h : Handle) (d : GiverDecision) → IsKept t → Loosens s.pool between → Gives d between t.pool → t.act ≡ Some (give_act place h d) → Passes s t
decides_passes s t between place h (giver.Offer p) kept loosens given is = reserves_passes s t between p kept loosens given (by_act place h is)
decides_passes s t between place h (giver.Accept p) kept loosens given is = loosens_passes s t kept (loosens_more s.pool between t.pool loosens given)
decides_passes s t between place h (giver.Decline reason) kept loosens given is = loosens_passes s t kept (loosens_more s.pool between t.pool loosens given)

-- each move lets pass what was there
pub moves_pass : (s t : AgentState) (m : Move) → IsKept t → Effect s m t → Passes s t
moves_pass s t (comes_in h) kept effect = loosens_passes s t kept (same_loosens s.pool t.pool effect.0)
moves_pass s t (starts h) kept effect = loosens_passes s t kept (same_loosens s.pool t.pool effect.0)
moves_pass s t (is_refused x) kept effect = loosens_passes s t kept (same_loosens s.pool t.pool effect.0)
moves_pass s t (considers h o) kept effect = loosens_passes s t kept (same_loosens s.pool t.pool effect.0)
moves_pass s t (finishes h e) kept effect = loosens_passes s t kept (same_loosens s.pool t.pool effect.0)
moves_pass s t (hands h) kept effect = loosens_passes s t kept (same_loosens s.pool t.pool effect.0)
moves_pass s t (is_unsent x) kept effect = loosens_passes s t kept (back_loosens s.pool t.pool effect.4.0.prefix effect.4.2)
moves_pass s t (hears h e) kept effect = loosens_passes s t kept (settled_loosens s.pool t.pool effect.4.0.prefix e effect.4.2)
moves_pass s t (is_made a) kept effect = loosens_passes s t kept (does_loosens s.pool t.pool a effect.4)
moves_pass s t (is_dropped a) kept effect = loosens_passes s t kept (drops_loosen s t a effect.3)
moves_pass s t (gives place g o) kept effect =
    decides_passes s t effect.2.between place g.handle effect.2.decision kept (taken_loosens s.pool effect.2.between g.offer effect.2.back) effect.2.pool effect.2.act
moves_pass s t (leaves place g e) kept effect = loosens_passes s t kept (offer_loosens s.pool t.pool g.offer e effect.3)

-- an image of the one may open the other anew
pub passes_reopen : (s t : AgentState) (image : PoolImage) → IsGoodImage image → image.free ≡ s.pool.free → ((p : Prefix) → IsListed s.pool p → Contains image.doubtful p) → Passes s t → MayReopen t image
passes_reopen s t image good free listed passes = record {
  few = good.few;
  disjoint = good.disjoint;
  free = λ x is. passes.free x (subst (λ (ps : List Prefix). Covers ps x) free is);
  doubtful = λ p there. listed p (passes.listed p there);
}

-- In a network that turns lead to, an address tells the node whose lives have it.
use Rattle.std.proofs.Common.{◌≡◌, sym, ap, ◌∙◌, subst, arith, ℕ, ◌<◌, ◌≤◌, ◌-◌, ◌⊎◌, inl, inr, List, length, Some}
use Rattle.std.specs.Prelude.{AllPairs, slice_index_or}
use Rattle.std.proofs.lemmas.Bool.{cases_order}
use Rattle.std.proofs.lemmas.Option.{get_or_from_slice_get}
use Rattle.grasp_laws_network.proofs.Appended.{numbered_get}
use Rattle.grasp_laws_network.proofs.Here.{numbered_within}
use Rattle.grasp_model_network.specs.GoodSetting.{AreDifferent}
use Rattle.grasp_model_network.specs.Plans.{IsNode}
use Rattle.grasp_model_network.specs.Setting.{Member, numbered}
use Rattle.grasp_model_network.specs.World.{member_of}
use Rattle.grasp_model_node.specs.declared.plan.NodePlan.{NodePlan}
use Rattle.grasp_laws_floods.proofs.Members.{HasMember, has_member}
use Rattle.grasp_laws_floods.specs.Sought.{Sought, AddressesTellNodes, SearchIsTold}

-- what has a number stands at the place before it
pub numbered_at : {A : Type 0} (xs : List A) (n : ℕ) (x d : A) → numbered xs n ≡ Some x → slice_index_or xs (n - 1) d ≡ x
numbered_at xs n x d e = get_or_from_slice_get xs (n - 1) x d (numbered_get xs n x e)

before : (j k : ℕ) → 1 ≤ j → j < k → j - 1 < k - 1
before j k least h = omega arith

within : (k count : ℕ) → 1 ≤ k → k ≤ count → k - 1 < count
within k count least most = omega arith

-- two members, of which the one comes before the other, have different addresses
apart : (xs : List Member) (j k : ℕ) (a b : Member) → AllPairs AreDifferent xs → numbered xs j ≡ Some a → numbered xs k ≡ Some b → j < k → a.plan.address ≡ b.plan.address → ⊥
apart xs j k a b differ at_a at_b less same = apart_at (numbered_within xs j a at_a) (numbered_within xs k b at_b) where
  apart_at : IsNode (length xs) j → IsNode (length xs) k → ⊥
  apart_at in_j in_k =
      (subst (λ y. AreDifferent a y) (numbered_at xs k b a at_b)
      (subst (λ x. AreDifferent x (slice_index_or xs (k - 1) a)) (numbered_at xs j a a at_a)
      (differ (j - 1) (k - 1) a (before j k in_j.least less) (within k (length xs) in_k.least in_k.most)))).addresses same

one_member : (xs : List Member) (j k : ℕ) (a b : Member) → AllPairs AreDifferent xs → numbered xs j ≡ Some a → numbered xs k ≡ Some b → a.plan.address ≡ b.plan.address → j ≡ k
one_member xs j k a b differ at_a at_b same = by_order (cases_order j k) where
  by_order : (j ≡ k) ⊎ ((j < k) ⊎ (k < j)) → j ≡ k
  by_order (inl e) = e
  by_order (inr (inl less)) = absurd (apart xs j k a b differ at_a at_b less same)
  by_order (inr (inr more)) = absurd (apart xs k j b a differ at_b at_a more (sym same))

pub addresses_tell_nodes : AddressesTellNodes
addresses_tell_nodes s w r j k a b at_a at_b same = of_members (has_member s w r j a at_a) (has_member s w r k b at_b) where
  of_members : HasMember s w j a.core → HasMember s w k b.core → member_of w j ≡ member_of w k
  of_members m l =
      one_member s.members (member_of w j) (member_of w k) m.member l.member r.good.different m.found l.found
      (sym (ap (λ (p : NodePlan). p.address) m.plan) ∙ (same ∙ ap (λ (p : NodePlan). p.address) l.plan))

-- the two searches are one
pub search_is_told : SearchIsTold
search_is_told s w r differ k session initiator one other (i, x, in_x, at_x, of_x) (j, y, in_y, at_y, of_y) =
    of_x.topic_is
    ∙ (ap (λ (z : Sought). z.topic) (k.settled differ x y (i, in_x, at_x) (j, in_y, at_y) (sym of_x.told ∙ of_y.told) (sym of_x.session_is ∙ of_y.session_is)) ∙ sym of_y.topic_is)

-- A network stays in order where a stream is opened at the node to which it was dialled.
use Rattle.std.proofs.Common.{◌≡◌, ◌≤◌, inl, inr, refl, sym, ap, ◌∙◌, subst, ℕ, Bool, true, false, cond, List, [], ◌∷◌, map, length, Some, None}
use Rattle.std.specs.List.{count_by, find}
use Rattle.grasp_model_network.specs.GoodSetting.{IsGoodSetting}
use Rattle.grasp_model_network.specs.Plans.{IsNode}
use Rattle.grasp_model_network.specs.Setting.{Setting}
use Rattle.grasp_model_network.specs.Streams.{StreamEnd, StreamState, is_number}
use Rattle.grasp_model_network.specs.World.{Seat, end_of}
use Rattle.grasp_laws_delivery.specs.Heads.{Head, head_of, heads, has_head_end, has_number}
use Rattle.grasp_laws_delivery.specs.Kept.{IsArrived, GoodHead, AreKept}
use Rattle.grasp_laws_delivery.specs.Ready.{Every, HasGoodFar}
use Rattle.grasp_laws_delivery.proofs.Counts.{every_weaker, count_same, count_map}
use Rattle.grasp_laws_delivery.proofs.EndMaps.{opened_head}
use Rattle.grasp_laws_delivery.proofs.Ends.{end_itself}
use Rattle.grasp_laws_delivery.proofs.HeadApart.{IsIn, kept_apart, one_alike}
use Rattle.grasp_laws_delivery.proofs.HeadCounts.{even_end, good_apart}
use Rattle.grasp_laws_delivery.proofs.HeadMaps.{nears_map, opened_near, opened_number, opened_waits, opened_fars, opened_new, opened_good}
use Rattle.grasp_laws_delivery.proofs.NodeMoves.{FarsStay, node_moved}

-- what is found is one of them, and what is so of each is so of it
pub record IsFound {A : Type 0} (P : A → Type 0) (p : A → Bool) (xs : List A) (x : A) : Type 0 where
  pub at : IsIn x xs
  pub passes : p x ≡ true
  pub holds : P x

pub found_in : {A : Type 0} (P : A → Type 0) (p : A → Bool) (xs : List A) (x : A) → Every P xs → find p xs ≡ Some x → IsFound P p xs x
found_in P p [] x h e = absurd (cc)
found_in {A} P p (y ∷ xs) x h e = by_test (p y) refl e (λ f. found_in P p xs x h.1 f) where
  by_test : (b : Bool) → p y ≡ b → cond b (Some y) (find p xs) ≡ Some x → (find p xs ≡ Some x → IsFound P p xs x) → IsFound P p (y ∷ xs) x
  by_test true is f rest = let same : y ≡ x = cc in record { at = inl same; passes = subst (λ (z : A). p z ≡ true) same is; holds = subst P same h.0 }
  by_test false is f rest = let r = rest f in record { at = inr r.at; passes = r.passes; holds = r.holds }

pub in_heads : (t : StreamState) (ts : List StreamState) → IsIn t ts → IsIn (head_of t) (heads ts)
in_heads t [] at = absurd at
in_heads t (x ∷ ts) (inl same) = inl (ap head_of same)
in_heads t (x ∷ ts) (inr at) = inr (in_heads t ts at)

pub every_in : {A : Type 0} (P : A → Type 0) (xs : List A) (x : A) → Every P xs → IsIn x xs → P x
every_in P [] x h at = absurd at
every_in P (y ∷ xs) x h (inl same) = subst P same h.0
every_in P (y ∷ xs) x h (inr at) = every_in P xs x h.1 at

module _ (s : Setting) (good : IsGoodSetting s) (seats : List Seat) (hs : List Head) (dials : ℕ) (kept : AreKept s seats hs dials) (h : Head) (at : IsIn h hs) (k : ℕ) (number : h.number ≡ Some k)
    (waits : h.far ≡ None) (node : ℕ) (member : IsNode (length seats) node) where
  abbrev far : StreamEnd
  far = end_of node (s.arrives_as node k)

  abbrev after : List Head
  after = map (opened_head h.near far) hs

  its : GoodHead s (length seats) dials h
  its = every_in (GoodHead s (length seats) dials) hs h kept.ends at

  has : has_head_end h.near h ≡ true
  has = even_end h.near its.even h (good_apart s good (length seats) dials h its) ∙ end_itself h.near

  -- no other stream has its near end
  alike : Every (λ x. has_head_end h.near x ≡ true → x ≡ h) hs
  alike = one_alike (has_head_end h.near) hs h at has (kept_apart s good seats hs dials kept h.near)

  none : Every (λ x. has_head_end h.near x ≡ true → x.far ≡ None) hs
  none = every_weaker (λ x. has_head_end h.near x ≡ true → x ≡ h) (λ x. has_head_end h.near x ≡ true → x.far ≡ None) (λ x same e. ap (λ (y : Head). y.far) (same e) ∙ waits) hs alike

  new : Every (λ x. has_head_end h.near x ≡ true → HasGoodFar s (length seats) x.number (Some far)) hs
  new = every_weaker (λ x. has_head_end h.near x ≡ true → x ≡ h) (λ x. has_head_end h.near x ≡ true → HasGoodFar s (length seats) x.number (Some far))
      (λ x same e. subst (λ o. HasGoodFar s (length seats) o (Some far)) (sym (ap (λ (y : Head). y.number) (same e) ∙ number)) (member, refl)) hs alike

  fars : FarsStay hs after
  fars f there = opened_fars h.near far hs none f there

  counted : (j : ℕ) → 1 ≤ j → j ≤ dials → count_by (has_number j) after ≡ 1
  counted j least most =
      count_map (has_number j) (opened_head h.near far) hs
      ∙ (count_same (λ x. has_number j (opened_head h.near far x)) (has_number j) hs
      (every_weaker (λ x. has_head_end h.near x ≡ true → x ≡ h) (λ x. has_number j (opened_head h.near far x) ≡ has_number j x) (λ x same. ap (is_number j) (opened_number h.near far x)) hs alike)
      ∙ kept.once j least most)

  pub opened : AreKept s seats after dials
  opened = record {
    nodes = λ n seat there. node_moved hs after fars n seat (nears_map (opened_head h.near far) (opened_near h.near far) n hs) (λ sent queue w. opened_waits h.near far n sent queue hs w) (kept.nodes n seat there);
    ends = opened_good h.near far s (length seats) dials hs new kept.ends;
    once = counted;
  }

  pub is_arrived : IsArrived after node (s.arrives_as node k)
  is_arrived = opened_new h.near far hs h at has

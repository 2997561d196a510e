-- A negotiation that was requested stays one, and what was requested stays the same; so the stream of an offer is one for it still.
use Rattle.std.proofs.Common.{◌≡◌, ◌≢◌, refl, sym, ap, ◌∙◌, subst, ℕ, Bool, true, false, cond, inl, inr, ◌⊎◌, List, [], ◌∷◌, ◌++◌, reverse, Some, None, slice_get}
use Rattle.std.proofs.lemmas.Bool.{true≢false, false≢true}
use Rattle.std.proofs.lemmas.List.{reverse-append, reverse-reverse}
use Rattle.std.proofs.lemmas.Option.{same_Some}
use Rattle.grasp_laws_session.proofs.Requests.{request_on}
use Rattle.grasp_session.specs.Conversation.{Said, says, strip, begun, requested, spoken, MayFollow, IsLegal}
use Rattle.grasp_session.specs.Laws.{IsOpened}
use Rattle.grasp_session.specs.Messages.{Side, Near, is_side, is_invalid}
use Rattle.grasp_types.specs.declared.message.Message.{Message}
use Rattle.grasp_types.specs.declared.message.Message.TheVariants.{ReqNeg, Negotiate, Wait, End}
use Rattle.grasp_types.specs.declared.objective.Objective.{Objective}
use Rattle.grasp_model_network.specs.Runs.{IsReached}
use Rattle.grasp_model_network.specs.Setting.{Setting}
use Rattle.grasp_model_network.specs.Streams.{StreamState}
use Rattle.grasp_model_network.specs.World.{Offered, WorldState}
use Rattle.grasp_laws_negotiation.proofs.TalkSteps.{cons_nil}
use Rattle.grasp_laws_negotiation.specs.Negotiations.{IsNegotiation}
use Rattle.grasp_laws_prefixes.proofs.Speech.{same_requested}
use Rattle.grasp_laws_prefixes.proofs.Standing.{Stays, AllStay, IsPlaced, NothingHappens}
use Rattle.grasp_laws_prefixes.specs.Grounds.{Grounds}

-- ---- who says the first message

-- what comes first is a request of the near side
first_near : (s : Side) (m : Message) (c : List Said) → MayFollow c (says s m) → begun c ≡ false → s ≡ Near
first_near s (ReqNeg n o) c f none = f.1
first_near s (Negotiate n o) c f none = absurd (true≢false (sym f.0.has_begun ∙ none))
first_near s (Wait n k) c f none = absurd (true≢false (sym f.0.has_begun ∙ none))
first_near s (End n v) c f none = absurd (true≢false (sym f.has_begun ∙ none))
first_near s m c f none = absurd f

rest_none : (b : Bool) (m : Message) (ms : List Message) → cond b (m ∷ ms) ms ≡ [] → ms ≡ []
rest_none true m ms e = absurd (cons_nil m ms e)
rest_none false m ms e = e

near_spoke : (c : List Said) → IsLegal (strip c) → begun (strip c) ≡ true → spoken Near c ≢ []
near_spoke [] l b none = false≢true b
near_spoke (x ∷ c) l b none = by_test (is_invalid x.message) l b (λ i j. near_spoke c i j (rest_none (is_side Near x.side) x.message (spoken Near c) none)) where
  by_begun : (d : Bool) → begun (strip c) ≡ d → MayFollow (strip c) x → (begun (strip c) ≡ true → ⊥) → ⊥
  by_begun true e f again = again e
  by_begun false e f again =
      cons_nil x.message (spoken Near c) (subst (λ k. cond (is_side Near k) (x.message ∷ spoken Near c) (spoken Near c) ≡ []) (first_near x.side x.message (strip c) f e) none)

  by_test : (d : Bool) → IsLegal (cond d (strip c) (x ∷ strip c)) → begun (cond d (strip c) (x ∷ strip c)) ≡ true → (IsLegal (strip c) → begun (strip c) ≡ true → ⊥) → ⊥
  by_test true i j again = again i j
  by_test false i j again = by_begun (begun (strip c)) refl i.0 (again i.1)

-- ---- more is said

spoken_more : (side : Side) (newer c : List Said) → spoken side (newer ++ c) ≡ spoken side newer ++ spoken side c
spoken_more side [] c = refl
spoken_more side (x ∷ newer) c = by_side (is_side side x.side) (spoken_more side newer c) where
  by_side : (b : Bool) → spoken side (newer ++ c) ≡ spoken side newer ++ spoken side c
      → cond b (x.message ∷ spoken side (newer ++ c)) (spoken side (newer ++ c)) ≡ cond b (x.message ∷ spoken side newer) (spoken side newer) ++ spoken side c
  by_side true e = ap (λ (ms : List Message). x.message ∷ ms) e
  by_side false e = e

more_opened : (xs ys : List Message) → IsOpened xs → xs ≢ [] → IsOpened (xs ++ ys)
more_opened xs ys (inl e) some = absurd (some e)
more_opened xs ys (inr p) some = inr (p.0, p.1, p.2 ++ ys, ap (λ (ms : List Message). ms ++ ys) p.3)

opened_still : (newer c : List Said) → IsLegal (strip c) → begun (strip c) ≡ true → IsOpened (reverse (spoken Near c)) → IsOpened (reverse (spoken Near (newer ++ c)))
opened_still newer c l b o =
    subst IsOpened (sym (ap (λ (ms : List Message). reverse ms) (spoken_more Near newer c) ∙ reverse-append (spoken Near newer) (spoken Near c)))
    (more_opened (reverse (spoken Near c)) (reverse (spoken Near newer)) o (λ e. near_spoke c l b (sym (reverse-reverse (spoken Near c)) ∙ ap (λ (ms : List Message). reverse ms) e)))

begun_still : (newer c : List Said) → begun (strip c) ≡ true → begun (strip (newer ++ c)) ≡ true
begun_still [] c b = b
begun_still (x ∷ newer) c b = by_test (is_invalid x.message) (begun_still newer c b) where
  by_test : (d : Bool) → begun (strip (newer ++ c)) ≡ true → begun (cond d (strip (newer ++ c)) (x ∷ strip (newer ++ c))) ≡ true
  by_test true again = again
  by_test false again = refl

same_still : (newer c : List Said) → IsLegal (strip (newer ++ c)) → begun (strip c) ≡ true → requested (strip (newer ++ c)) ≡ requested (strip c)
same_still [] c l b = refl
same_still (x ∷ newer) c l b = by_test (is_invalid x.message) l (λ i. same_still newer c i b) where
  by_test : (d : Bool) → IsLegal (cond d (strip (newer ++ c)) (x ∷ strip (newer ++ c))) → (IsLegal (strip (newer ++ c)) → requested (strip (newer ++ c)) ≡ requested (strip c))
      → requested (cond d (strip (newer ++ c)) (x ∷ strip (newer ++ c))) ≡ requested (strip c)
  by_test true i again = again i
  by_test false i again = (request_on x.side x.message (strip (newer ++ c)) i.0 (begun_still newer c b)).1 ∙ again i.1

-- ---- a stream on which a negotiation was requested

module _ (l : Grounds) (s : Setting) (w : WorldState) (r : IsReached s w) (place : ℕ) (t : StreamState) (stands : slice_get w.streams place ≡ Some t) (negotiation : IsNegotiation t)
    (asked : begun (strip t.said) ≡ true) where
  pub asked_still : (us : List StreamState) → (u : Stays us place t) → IsNegotiation u.after × (begun (strip u.after.said) ≡ true)
  asked_still us u = (
    subst (λ c. IsOpened (reverse (spoken Near c))) (sym u.said) (opened_still u.newer t.said (l.in_order s w r place t stands negotiation).legal asked negotiation),
    ap (λ c. begun (strip c)) u.said ∙ begun_still u.newer t.said asked,
  )

  pub request_stays : (y : WorldState) → IsReached s y ⊎ NothingHappens w y → (u : Stays y.streams place t) → requested u.after.said ≡ requested t.said
  request_stays y (inl q) u =
      sym (same_requested u.after.said)
      ∙ (ap (λ c. requested (strip c)) u.said
      ∙ (same_still u.newer t.said (subst (λ c. IsLegal (strip c)) u.said (l.in_order s y q place u.after u.stands (asked_still y.streams u).0).legal) asked ∙ same_requested t.said))
  request_stays y (inr none) u =
      let same = none.said place t stands in
      ap (λ (x : StreamState). requested x.said) (same_Some u.after same.0 (sym u.stands ∙ same.1.0)) ∙ ap requested same.1.1

-- ---- the stream of an offer

-- where one stands at the offer's place, it is this
pub placed_one : (ts : List StreamState) (o : Offered) (at : IsPlaced ts o) (place : ℕ) (t : StreamState) → o.talk ≡ Some place → slice_get ts place ≡ Some t → at.talk ≡ t
placed_one ts o at place t is stands =
    same_Some at.talk t (sym at.stands ∙ (ap (λ n. slice_get ts n) (same_Some at.place place (sym at.is ∙ is)) ∙ stands))

-- and it is one for the offer still
module _ (l : Grounds) (s : Setting) (w : WorldState) (r : IsReached s w) (y : WorldState) (said : IsReached s y ⊎ NothingHappens w y) (stay : AllStay w.streams y.streams) (o : Offered) where
  pub placed_at : IsPlaced w.streams o → IsPlaced y.streams o
  placed_at at =
      let u = stay at.place at.talk at.stands in
      let still = asked_still l s w r at.place at.talk at.stands at.negotiation at.asked y.streams u in
      record {
        place = at.place;
        talk = u.after;
        is = at.is;
        stands = u.stands;
        negotiation = still.0;
        asked = still.1;
        name = ap (λ (x : Objective). x.name) (request_stays l s w r at.place at.talk at.stands at.negotiation at.asked y said u) ∙ at.name;
      }

  pub placed_still : IsPlaced w.streams o ⊎ (o.talk ≡ None) → IsPlaced y.streams o ⊎ (o.talk ≡ None)
  placed_still (inl at) = inl (placed_at at)
  placed_still (inr none) = inr none

-- Each invalid message is the last of its side, and so a legal conversation follows the grammar.
use Rattle.std.proofs.Common.{◌≡◌, Bool, true, false, cond, ◌&&◌, ◌||◌, List, [], ◌∷◌, ◌++◌, ◌↔◌, refl, sym, ap, ◌∙◌, subst}
use Rattle.std.proofs.lemmas.Bool.{true≢false, and_parts}
use Rattle.grasp_session.specs.Messages.{Side, is_side, is_invalid}
use Rattle.grasp_types.specs.declared.message.Message.{Message}
use Rattle.grasp_session.specs.Conversation.{Said, says, strip, gave_up, InvalidsLast, IsLegalConversation, spoken}
use Rattle.grasp_session.specs.Grammar.{FollowsGrammar}
use Rattle.grasp_laws_session.proofs.Views.{same_side, is_side-true}
use Rattle.grasp_laws_session.proofs.Words.{legal_is_word}

or_right : (a b : Bool) → b ≡ true → a || b ≡ true
or_right true b e = refl
or_right false b e = e

-- this side has said an invalid message where one stands among its messages
stands_given : (later earlier : List Said) (x : Said) → is_invalid x.message ≡ true → gave_up x.side (later ++ (x ∷ earlier)) ≡ true
stands_given [] earlier x e = rw (same_side x.side, e) refl
stands_given (y ∷ later) earlier x e = or_right (is_side x.side y.side && is_invalid y.message) (gave_up x.side (later ++ (x ∷ earlier))) (stands_given later earlier x e)

record GaveUp (side : Side) (c : List Said) : Type 0 where
  later : List Said
  earlier : List Said
  message : Message
  at : c ≡ later ++ (says side message ∷ earlier)
  invalid : is_invalid message ≡ true

given_later : (side : Side) (x : Said) (c : List Said) → GaveUp side c → GaveUp side (x ∷ c)
given_later side x c h = record { later = x ∷ h.later; earlier = h.earlier; message = h.message; at = ap (λ (l : List Said). x ∷ l) h.at; invalid = h.invalid }

given_now : (side : Side) (x : Said) (c : List Said) → is_side side x.side && is_invalid x.message ≡ true → GaveUp side (x ∷ c)
given_now side x c f =
    let p = and_parts (is_side side x.side) (is_invalid x.message) f in
    record { later = []; earlier = c; message = x.message; at = ap (λ (s : Side). says s x.message ∷ c) (is_side-true side x.side p.0); invalid = p.1 }

find_given : (side : Side) (c : List Said) → gave_up side c ≡ true → GaveUp side c
find_given side [] e = absurd (cc)
find_given side (x ∷ c) e = by_test (is_side side x.side && is_invalid x.message) refl (find_given side c) e where
  by_test : (b : Bool) → is_side side x.side && is_invalid x.message ≡ b → (gave_up side c ≡ true → GaveUp side c) → b || gave_up side c ≡ true → GaveUp side (x ∷ c)
  by_test true f h g = given_now side x c f
  by_test false f h g = given_later side x c (h g)

last_silent : (later earlier : List Said) (x : Said) → InvalidsLast (later ++ (x ∷ earlier)) → is_invalid x.message ≡ true → spoken x.side later ≡ []
last_silent [] earlier x h e = refl
last_silent (y ∷ later) earlier x h e = by_test (is_side x.side y.side) refl (last_silent later earlier x h.1 e) where
  by_test : (b : Bool) → is_side x.side y.side ≡ b → spoken x.side later ≡ [] → cond b (y.message ∷ spoken x.side later) (spoken x.side later) ≡ []
  by_test true f n = absurd (true≢false (sym (stands_given later earlier x e) ∙ subst (λ (s : Side). gave_up s (later ++ (x ∷ earlier)) ≡ false) (is_side-true x.side y.side f) h.0))
  by_test false f n = n

abbrev AreSilent : List Said → Type 0
AreSilent said = (later earlier : List Said) (x : Said) → said ≡ later ++ (x ∷ earlier) → is_invalid x.message ≡ true → spoken x.side later ≡ []

not_spoken : (side : Side) (y : Said) (later : List Said) → spoken side (y ∷ later) ≡ [] → (is_side side y.side ≡ false) × (spoken side later ≡ [])
not_spoken side y later e = by_test (is_side side y.side) refl e where
  by_test : (b : Bool) → is_side side y.side ≡ b → cond b (y.message ∷ spoken side later) (spoken side later) ≡ [] → (is_side side y.side ≡ false) × (spoken side later ≡ [])
  by_test true f g = absurd (cc)
  by_test false f g = (f, g)

silent_last : (said : List Said) → AreSilent said → InvalidsLast said
silent_last [] f = tt
silent_last (y ∷ c) f = (by_test (gave_up y.side c) refl, silent_last c (λ later earlier x e i. (not_spoken x.side y later (f (y ∷ later) earlier x (ap (λ (l : List Said). y ∷ l) e) i)).1)) where
  by_test : (b : Bool) → gave_up y.side c ≡ b → gave_up y.side c ≡ false
  by_test true e =
      let g = find_given y.side c e in
      let n = not_spoken y.side y g.later (f (y ∷ g.later) g.earlier (says y.side g.message) (ap (λ (l : List Said). y ∷ l) g.at) g.invalid) in
      absurd (true≢false (sym (same_side y.side) ∙ n.0))
  by_test false e = e

pub conversation_is_grammar : (said : List Said) → IsLegalConversation said ↔ FollowsGrammar said
conversation_is_grammar said = (
  λ h. record { word = (legal_is_word (strip said)).0 h.legal; last = λ later earlier x e i. last_silent later earlier x (subst InvalidsLast e h.last) i; session = h.session; numbered = h.numbered },
  λ h. record { legal = (legal_is_word (strip said)).1 h.word; last = silent_last said h.last; session = h.session; numbered = h.numbered },
)

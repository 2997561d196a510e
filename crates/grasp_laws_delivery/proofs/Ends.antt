-- Ends of streams, compared.
use Rattle.std.proofs.Common.{◌≡◌, ◌≢◌, refl, sym, ap, ◌∙◌, ℕ, ◌==◌, Bool, true, false, cond, is_some, Option, Some, None}
use Rattle.std.proofs.lemmas.Bool.{and_parts, eqb-true, false_from_ne_true}
use Rattle.grasp_laws_network.proofs.Routing.{is_itself}
use Rattle.grasp_session.specs.Messages.{Near, Far}
use Rattle.grasp_model_network.specs.Streams.{StreamEnd, is_same_end, is_at_end}
use Rattle.grasp_model_network.specs.World.{end_of}
use Rattle.grasp_laws_delivery.specs.Heads.{Head, has_head_end}

pub parts_are : (e : StreamEnd) (node number : ℕ) → e.node ≡ node → e.number ≡ number → e ≡ end_of node number
parts_are e node number a b = ap (λ n. end_of n e.number) a ∙ ap (end_of node) b

pub same_ends : (e f : StreamEnd) → is_same_end e f ≡ true → e ≡ f
same_ends e f h =
    let a = and_parts (e.node == f.node) (e.number == f.number) h in
    parts_are e f.node f.number (eqb-true e.node f.node a.0) (eqb-true e.number f.number a.1)

pub end_itself : (e : StreamEnd) → is_same_end e e ≡ true
end_itself e = rw (is_itself e.node, is_itself e.number) refl

-- ends whose numbers differ aren't the same
pub other_numbers : (e f : StreamEnd) → e.number ≢ f.number → is_same_end e f ≡ false
other_numbers e f apart = false_from_ne_true (is_same_end e f) (λ h. apart (ap (λ (x : StreamEnd). x.number) (same_ends e f h)))

pub other_nodes : (e f : StreamEnd) → e.node ≢ f.node → is_same_end e f ≡ false
other_nodes e f apart = false_from_ne_true (is_same_end e f) (λ h. apart (ap (λ (x : StreamEnd). x.node) (same_ends e f h)))

pub some_end : (e f : StreamEnd) → Some e ≡ Some f → e ≡ f
some_end e f h = cc

-- the far end is this one
pub at_far : (e : StreamEnd) (o : Option StreamEnd) → is_at_end e o ≡ true → o ≡ Some e
at_far e None h = absurd (cc)
at_far e (Some f) h = ap (λ (x : StreamEnd). Some x) (sym (same_ends e f h))

pub far_here : (e : StreamEnd) (o : Option StreamEnd) → o ≡ Some e → is_at_end e o ≡ true
far_here e o h = ap (is_at_end e) h ∙ end_itself e

pub not_far : (e : StreamEnd) (o : Option StreamEnd) → ((f : StreamEnd) → o ≡ Some f → e.number ≢ f.number) → is_at_end e o ≡ false
not_far e None h = refl
not_far e (Some f) h = other_numbers e f (h f refl)

-- ---- the ends of a stream

-- where the far end isn't this one, the near end is
pub near_alone : (e : StreamEnd) (h : Head) → is_at_end e h.far ≡ false → has_head_end e h ≡ is_same_end e h.near
near_alone e h not = by_near (is_same_end e h.near) refl where
  by_near : (b : Bool) → is_same_end e h.near ≡ b → is_some (cond b (Some Near) (cond (is_at_end e h.far) (Some Far) None)) ≡ b
  by_near true is = refl
  by_near false is = ap (λ c. is_some (cond c (Some Far) None)) not

pub far_alone : (e : StreamEnd) (h : Head) → is_same_end e h.near ≡ false → has_head_end e h ≡ is_at_end e h.far
far_alone e h not = ap (λ c. is_some (cond c (Some Near) (cond (is_at_end e h.far) (Some Far) None))) not ∙ by_far (is_at_end e h.far) where
  by_far : (b : Bool) → is_some (cond b (Some Far) None) ≡ b
  by_far true = refl
  by_far false = refl

-- What an answered call says of its agent: which of the tests don't hold.
use Rattle.std.proofs.Common.{◌≡◌, ◌≢◌, ℕ, Bool, true, false, cond, ◌==◌, List, [], ◌∷◌, Option, Some, None, is_none, Ok, Err, refl, sym, ap, ◌∙◌}
use Rattle.std.proofs.lemmas.Bool.{true≢false, eqb-true}
use Rattle.std.proofs.lemmas.Option.{same_Some}
use Rattle.grasp_agent.specs.Calls.{objective_name}
use Rattle.grasp_session.specs.Sessions.{SessionState, Sessions, session_at, session_owned, if_owner, check_reply}
use Rattle.grasp_session.specs.declared.answer.Act.{Act}
use Rattle.grasp_types.specs.declared.refusal.ApiRefused.{ApiRefused}
use Rattle.grasp_types.specs.declared.refusal.ApiRefused.TheVariants as api
use Rattle.grasp_types.specs.declared.session.Handle.{Handle}
use Rattle.grasp_model_node.specs.Node.{NodeState}
use Rattle.grasp_model_node.specs.Refusals.{Test, first_that, early_tests, early}
use Rattle.grasp_model_node.specs.BoundedNodes.{IsBoundedNode}
use Rattle.grasp_model_node.specs.Tests.{not_yours, checked}
use Rattle.grasp_laws_agents.proofs.Registering.{Has, no_other}

abbrev NoneHold : List Test → Type 0
NoneHold [] = Unit {0}
NoneHold (t ∷ ts) = (t.holds ≡ false) × NoneHold ts

none_hold : (ts : List Test) → first_that ts ≡ Ok tt → NoneHold ts
none_hold [] e = tt
none_hold (t ∷ ts) e = by_test t.holds refl e (λ f. none_hold ts f) where
  by_test : (b : Bool) → t.holds ≡ b → cond b (Err t.refusal) (first_that ts) ≡ Ok tt → (first_that ts ≡ Ok tt → NoneHold ts) → NoneHold (t ∷ ts)
  by_test true q g f = absurd (cc)
  by_test false q g f = (q, f g)

-- the tests that what follows rests on
pub record NoneOf (holds : ApiRefused → Bool) : Type 0 where
  pub asa : holds api.NoAsa ≡ false
  pub yours : holds api.NotYourObjective ≡ false
  pub session : holds api.NoSession ≡ false

pub none_of : (holds : ApiRefused → Bool) → early holds ≡ Ok tt → NoneOf holds
none_of holds e = by_all (none_hold (early_tests holds) e) where
  by_all : NoneHold (early_tests holds) → NoneOf holds
  by_all (a, (b, (c, (d, (e, (f, (g, (h, (i, (j, (k, (l, (m, (n, (o, (p, (q, (r, s)))))))))))))))))) = record { asa = a; yours = g; session = l }

-- an objective of another agent has another name
pub other_name : (n : NodeState) (asa : ℕ) (name : List ℕ) → IsBoundedNode n → Has objective_name n.registrations → asa ≢ 1 → not_yours n asa name ≡ false → name ≢ objective_name
other_name n asa name k h other e f =
    let none : not_yours n asa objective_name ≡ true = ap is_none (no_other objective_name n k.registrations h asa other) in
    true≢false (sym none ∙ (ap (not_yours n asa) (sym f) ∙ e))

-- the session that an agent owns
pub record Owns (z : Sessions) (asa : ℕ) (h : Handle) : Type 0 where
  pub session : SessionState
  pub at : session_at z h ≡ Some session
  pub owner : session.owner ≡ asa

pub owns : (z : Sessions) (asa : ℕ) (h : Handle) → is_none (session_owned z asa h) ≡ false → Owns z asa h
owns z asa h e = by_state (session_at z h) refl where
  by_owner : (x : SessionState) → session_at z h ≡ Some x → (b : Bool) → (x.owner == asa) ≡ b → is_none (cond b (Some x) None) ≡ false → Owns z asa h
  by_owner x f true g i = record { session = x; at = f; owner = eqb-true x.owner asa g }
  by_owner x f false g i = absurd (true≢false i)

  by_state : (o : Option SessionState) → session_at z h ≡ o → Owns z asa h
  by_state None f = absurd (true≢false (sym (ap (λ o. is_none (if_owner (λ (x : SessionState). x.owner) asa o)) f) ∙ e))
  by_state (Some x) f = by_owner x f (x.owner == asa) refl (sym (ap (λ o. is_none (if_owner (λ (x : SessionState). x.owner) asa o)) f) ∙ e)

-- the session in which an agent may act
pub acts_in : (z : Sessions) (asa : ℕ) (h : Handle) (a : Act) → checked (check_reply z asa h a) api.NoSession ≡ false → Owns z asa h
acts_in z asa h a e = by_owned (session_owned z asa h) refl where
  by_owned : (o : Option SessionState) → session_owned z asa h ≡ o → Owns z asa h
  by_owned None f = let none : checked (check_reply z asa h a) api.NoSession ≡ true = rw f refl in absurd (true≢false (sym none ∙ e))
  by_owned (Some x) f = owns z asa h (ap is_none f)

pub owner_is : (z : Sessions) (asa : ℕ) (h : Handle) → Owns z asa h → (x : SessionState) → session_at z h ≡ Some x → x.owner ≡ asa
owner_is z asa h o x e = ap (λ (s : SessionState). s.owner) (same_Some x o.session (sym e ∙ o.at)) ∙ o.owner

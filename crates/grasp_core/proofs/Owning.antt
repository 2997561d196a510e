-- The flags of an agent's objective, as the registry answers them.
use Rattle.std.proofs.Common.{◌≡◌, ℕ, true, List, Option, Some, None, Ok, Err, refl, ◌∙◌}
use Rattle.grasp_types.specs.declared.refusal.ApiRefused.{ApiRefused}
use Rattle.grasp_asa.specs.Registrations.{is_registered}
use Rattle.grasp_asa.specs.Answers.{owned_answer}
use Rattle.grasp_model_node.specs.Node.{NodeState}
use Rattle.grasp_model_node.specs.Tests.{owned_flags}

pub owned_found : (n : NodeState) (asa : ℕ) (name : List ℕ) (flags : ℕ) → is_registered n.registrations asa ≡ true → Ok flags ≡ owned_answer n.registrations asa name → owned_flags n asa name ≡ Some flags
owned_found n asa name flags g e = by_found (owned_flags n asa name) refl where
  by_found : (o : Option ℕ) → owned_flags n asa name ≡ o → owned_flags n asa name ≡ Some flags
  by_found None f = let k = rw (g, f) at e in absurd (cc)
  by_found (Some x) f = let k = rw (g, f) at e in f ∙ cc

pub owned_missed : (n : NodeState) (asa : ℕ) (name : List ℕ) (r : ApiRefused) → is_registered n.registrations asa ≡ true → Err r ≡ owned_answer n.registrations asa name → owned_flags n asa name ≡ None
owned_missed n asa name r g e = by_found (owned_flags n asa name) refl where
  by_found : (o : Option ℕ) → owned_flags n asa name ≡ o → owned_flags n asa name ≡ None
  by_found None f = f
  by_found (Some x) f = let k = rw (g, f) at e in absurd (cc)

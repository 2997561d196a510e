-- Laws on the definitions of a node.
use Rattle.std.specs.Prelude.{◌≡◌, ◌≤◌, ◌⊎◌, ℕ, Bool, true, List, [], ◌∷◌, Err, Ok, Result}
use Rattle.grasp_types.specs.Refusal.{refusal_number}
use Rattle.grasp_types.specs.declared.refusal.ApiRefused.{ApiRefused}
use Rattle.grasp_types.specs.declared.refusal.ApiRefused.TheVariants.{OutOfMemory}
use Rattle.grasp_model_node.specs.Refusals.{Test, first_that, Sending, all_tests, MayAnswer}

-- the refusal has the least number of those whose tests hold
abbrev pub IsLeast : List Test → ApiRefused → Type 0
IsLeast [] r = Unit {0}
IsLeast (t ∷ ts) r = (t.holds ≡ true → refusal_number r ≤ refusal_number t.refusal) × IsLeast ts r

-- the first of all tests that holds is the least that does
abbrev pub LeastIsAnswered : Type 0
LeastIsAnswered = (holds : ApiRefused → Bool) (s : Sending) (r : ApiRefused) → first_that (all_tests holds s) ≡ Err r → IsLeast (all_tests holds s) r

-- what a call refuses is the first that holds, or want of memory where none does
abbrev pub AnswersTheFirst : Type 0
AnswersTheFirst = (holds : ApiRefused → Bool) (s : Sending) (r : ApiRefused) → MayAnswer holds s (Unit {0}) (λ a. Unit {0}) (Err r)
    → (first_that (all_tests holds s) ≡ Err r) ⊎ ((first_that (all_tests holds s) ≡ Ok tt) × (r ≡ OutOfMemory))

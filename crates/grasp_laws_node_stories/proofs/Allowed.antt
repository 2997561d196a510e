-- What an answered call says of its tests: an act isn't refused, and a session may begin.
use Rattle.std.proofs.Common.{◌≡◌, Bool, true, false, cond, List, [], ◌∷◌, Result, Ok, Err, refl, sym, ◌∙◌}
use Rattle.std.proofs.lemmas.Bool.{true≢false}
use Rattle.grasp_laws_session.proofs.Says.{starts_say}
use Rattle.grasp_session.specs.Runs.{AreInOrder}
use Rattle.grasp_session.specs.Says.{StartSays}
use Rattle.grasp_session.specs.Sessions.{Sessions, is_full, start_reply}
use Rattle.grasp_session.specs.declared.answer.SessionRefused.{SessionRefused}
use Rattle.grasp_session.specs.declared.answer.SessionRefused.TheVariants as refused
use Rattle.grasp_types.specs.declared.refusal.ApiRefused.{ApiRefused}
use Rattle.grasp_types.specs.declared.refusal.ApiRefused.TheVariants as api
use Rattle.grasp_types.specs.declared.session.Handle.{Handle}
use Rattle.grasp_model_node.specs.Refusals.{Test, first_that, early_tests, early}

abbrev NoneHold : List Test → Type 0
NoneHold [] = Unit {0}
NoneHold (t ∷ ts) = (t.holds ≡ false) × NoneHold ts

none_hold : (ts : List Test) → first_that ts ≡ Ok tt → NoneHold ts
none_hold [] e = tt
none_hold (t ∷ ts) e = by_test t.holds refl e (λ f. none_hold ts f) where
  by_test : (b : Bool) → t.holds ≡ b → cond b (Err t.refusal) (first_that ts) ≡ Ok tt → (first_that ts ≡ Ok tt → NoneHold ts) → NoneHold (t ∷ ts)
  by_test true q g f = absurd (cc)
  by_test false q g f = (q, f g)

-- the tests that what follows rests on
pub record NoneOf (holds : ApiRefused → Bool) : Type 0 where
  pub session : holds api.NoSession ≡ false
  pub turn : holds api.NotYourTurn ≡ false
  pub loops : holds api.LoopsSpent ≡ false
  pub waits : holds api.WaitsSpent ≡ false
  pub sessions : holds api.SessionsFull ≡ false

pub none_of : (holds : ApiRefused → Bool) → early holds ≡ Ok tt → NoneOf holds
none_of holds e = by_all (none_hold (early_tests holds) e) where
  by_all : NoneHold (early_tests holds) → NoneOf holds
  by_all (a, (b, (c, (d, (e, (f, (g, (h, (i, (j, (k, (l, (m, (n, (o, (p, (q, (r, s)))))))))))))))))) = record { session = l; turn = m; loops = n; waits = o; sessions = q }

-- a session may begin
pub record Starts (z : Sessions) : Type 0 where
  pub handle : Handle
  pub is : start_reply z ≡ Ok handle

pub starts : (z : Sessions) → AreInOrder z → is_full z ≡ false → Starts z
starts z o free = by_reply (start_reply z) refl (starts_say z o.long) where
  by_reply : (r : Result Handle SessionRefused) → start_reply z ≡ r → StartSays z r → Starts z
  by_reply (Ok h) e s = record { handle = h; is = e }
  by_reply (Err refused.SessionsFull) e s = absurd (true≢false (sym s ∙ free))
  by_reply (Err r) e s = absurd s

-- What an answered call says: no test of it holds.
use Rattle.std.proofs.Common.{◌≡◌, ℕ, ◌<◌, ◌≤◌, Bool, true, false, cond, not, ◌==◌, ◌⊎◌, inl, inr, List, [], ◌∷◌, Option, Some, None, Result, Ok, Err, refl, sym, ◌∙◌, arith, All}
use Rattle.std.specs.List.{list_any}
use Rattle.std.proofs.lemmas.Bool.{true≢false, false≢true, eqb-true, or_cases, not-false}
use Rattle.std.proofs.lemmas.List.Elements.{All-head, All-tail}
use Rattle.grasp_asa.specs.Registrations.{is_numbered}
use Rattle.grasp_asa.specs.declared.entry.Agent.{Agent}
use Rattle.grasp_session.specs.declared.answer.Act.{Act}
use Rattle.grasp_session.specs.declared.answer.SessionRefused.{SessionRefused}
use Rattle.grasp_session.specs.declared.answer.SessionRefused.TheVariants as refused
use Rattle.grasp_session.specs.Says.{CheckSays, IsAt}
use Rattle.grasp_session.specs.Sessions.{SessionState, Sessions, check_reply, on_stream, state_reply}
use Rattle.grasp_laws_session.proofs.Says.{checks_say}
use Rattle.grasp_laws_session.proofs.Streams.{is_least}
use Rattle.grasp_types.specs.declared.refusal.ApiRefused.{ApiRefused}
use Rattle.grasp_types.specs.declared.refusal.ApiRefused.TheVariants as api
use Rattle.grasp_types.specs.declared.session.Handle.{Handle}
use Rattle.grasp_model_node.specs.Node.{NodeState}
use Rattle.grasp_model_node.specs.Refusals.{Test, first_that, Sending, early_tests, late_tests, early, late}
use Rattle.grasp_model_node.specs.BoundedNodes.{IsBoundedNode}
use Rattle.grasp_model_node.specs.Tests.{no_asa, checked, act_tests}

abbrev pub NoneHold : List Test → Type 0
NoneHold [] = Unit {0}
NoneHold (t ∷ ts) = (t.holds ≡ false) × NoneHold ts

pub none_hold : (ts : List Test) → first_that ts ≡ Ok tt → NoneHold ts
none_hold [] e = tt
none_hold (t ∷ ts) e = by_test t.holds refl e (λ f. none_hold ts f) where
  by_test : (b : Bool) → t.holds ≡ b → cond b (Err t.refusal) (first_that ts) ≡ Ok tt → (first_that ts ≡ Ok tt → NoneHold ts) → NoneHold (t ∷ ts)
  by_test true q g f = absurd (cc)
  by_test false q g f = (q, f g)

-- the tests that what follows rests on
pub record NoneOf (holds : ApiRefused → Bool) : Type 0 where
  pub asa : holds api.NoAsa ≡ false
  pub session : holds api.NoSession ≡ false
  pub turn : holds api.NotYourTurn ≡ false
  pub loops : holds api.LoopsSpent ≡ false
  pub waits : holds api.WaitsSpent ≡ false
  pub sessions : holds api.SessionsFull ≡ false
  pub streams : holds api.StreamsFull ≡ false

pub none_of : (holds : ApiRefused → Bool) → early holds ≡ Ok tt → NoneOf holds
none_of holds e = by_all (none_hold (early_tests holds) e) where
  by_all : NoneHold (early_tests holds) → NoneOf holds
  by_all (a, (b, (c, (d, (e, (f, (g, (h, (i, (j, (k, (l, (m, (n, (o, (p, (q, (r, s)))))))))))))))))) = record { asa = a; session = l; turn = m; loops = n; waits = o; sessions = q; streams = r }

-- what is sent has room
pub has_its_room : (s : Sending) (room : Bool) → s.outbox_full ≡ not room → late s ≡ Ok tt → room ≡ true
has_its_room s room same e = by_all (none_hold (late_tests s) e) where
  by_all : NoneHold (late_tests s) → room ≡ true
  by_all p = not-false room (sym same ∙ p.1.0)

-- what is sent fits
pub it_fits : (s : Sending) (fit : Bool) → s.too_long ≡ not fit → late s ≡ Ok tt → fit ≡ true
it_fits s fit same e = not-false fit (sym same ∙ (none_hold (late_tests s) e).0)

-- a registered agent has a number above 0
any_numbered : (agents : List Agent) (asa made : ℕ) → list_any (is_numbered asa) agents ≡ true → All (λ a. (1 ≤ a.number) × (a.number ≤ made)) agents → 0 < asa
any_numbered [] asa made e f = absurd (false≢true e)
any_numbered (a ∷ agents) asa made e f = by_case (or_cases (a.number == asa) (list_any (is_numbered asa) agents) e) (λ g. any_numbered agents asa made g (All-tail (λ a. (1 ≤ a.number) × (a.number ≤ made)) a agents f)) where
  first : (1 ≤ a.number) × (a.number ≤ made)
  first = All-head (λ a. (1 ≤ a.number) × (a.number ≤ made)) a agents f

  by_case : (a.number == asa ≡ true) ⊎ (list_any (is_numbered asa) agents ≡ true) → (list_any (is_numbered asa) agents ≡ true → 0 < asa) → 0 < asa
  by_case (inl g) rest = let n : a.number ≡ asa = eqb-true a.number asa g in omega (arith, first.0, n)
  by_case (inr g) rest = rest g

pub number_above : (n : NodeState) (asa : ℕ) → IsBoundedNode n → no_asa n asa ≡ false → 0 < asa
number_above n asa k e = any_numbered n.registrations.agents asa n.registrations.made (not-false (list_any (is_numbered asa) n.registrations.agents) e) k.registrations.numbers

-- an act that isn't refused
pub check_ok : (z : Sessions) (owner : ℕ) (h : Handle) (a : Act) (r : Result (Unit {0}) SessionRefused) → CheckSays z owner h a r
    → checked r api.NoSession ≡ false → checked r api.NotYourTurn ≡ false → checked r api.LoopsSpent ≡ false → checked r api.WaitsSpent ≡ false → r ≡ Ok tt
check_ok z owner h a (Ok done) c e f g i = refl
check_ok z owner h a (Err refused.NoSession) c e f g i = absurd (true≢false e)
check_ok z owner h a (Err refused.NotYourTurn) c e f g i = absurd (true≢false f)
check_ok z owner h a (Err refused.LoopsSpent) c e f g i = absurd (true≢false g)
check_ok z owner h a (Err refused.WaitsSpent) c e f g i = absurd (true≢false i)
check_ok z owner h a (Err refused.SessionsFull) c e f g i = absurd c
check_ok z owner h a (Err refused.OutOfMemory) c e f g i = absurd c

pub act_allowed : (n : NodeState) (asa : ℕ) (h : Handle) (a : Act) → NoneOf (act_tests n asa h a) → check_reply n.sessions asa h a ≡ Ok tt
act_allowed n asa h a t = check_ok n.sessions asa h a (check_reply n.sessions asa h a) (checks_say n.sessions asa h a) t.session t.turn t.loops t.waits

-- a stream on which no session lies
pub unused_stream : (z : Sessions) (stream : ℕ) → ((place : ℕ) (x : SessionState) → IsAt z place x → ¬ (x.stream ≡ stream)) → state_reply z stream ≡ None
unused_stream z stream f = by_handle (on_stream z stream) refl where
  by_handle : (o : Option Handle) → on_stream z stream ≡ o → state_reply z stream ≡ None
  by_handle None e = rw e refl
  by_handle (Some h) e = let l = is_least z (λ x. x.stream == stream) h e in absurd (f h.place l.state l.place (eqb-true l.state.stream stream l.passes))

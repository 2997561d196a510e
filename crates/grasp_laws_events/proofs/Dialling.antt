-- Which locators a node dials.
use Rattle.std.proofs.Common.{◌≡◌, refl, sym, ap, ◌∙◌, subst, ℕ, Bool, true, false, not, ◌||◌, nat_lt, List, length}
use Rattle.std.proofs.lemmas.Bool.{true≢false}
use Rattle.std.proofs.lemmas.List.Folds.{list_any_at}
use Rattle.std.specs.List.{Contains, list_any}
use Rattle.grasp_laws_refusals.proofs.Refusals.{refusals_have_causes}
use Rattle.grasp_laws_refusals.specs.Causes.{HasCause}
use Rattle.grasp_laws_refusals.specs.Refusals.{IsAnsweredSo, HasNoCause}
use Rattle.grasp_model_node.specs.Begin.{begin}
use Rattle.grasp_model_node.specs.BoundedNodes.{IsBoundedNode}
use Rattle.grasp_model_node.specs.Node.{NodeState}
use Rattle.grasp_model_node.specs.Plan.{is_bad_link, is_bad_plan}
use Rattle.grasp_model_node.specs.Step.{Coming, NodeStep}
use Rattle.grasp_model_node.specs.declared.plan.NodePlan.{NodePlan}
use Rattle.grasp_types.specs.Address.{is_dialable}
use Rattle.grasp_types.specs.declared.address.Locator.{Locator}
use Rattle.grasp_types.specs.declared.address.Locator.TheVariants.{V6, V4, Fqdn, Uri}
use Rattle.grasp_types.specs.declared.address.Proto.TheVariants.{Tcp, Udp}
use Rattle.grasp_types.specs.declared.call.Call.{Call}
use Rattle.grasp_types.specs.declared.call.Call.TheVariants as call
use Rattle.grasp_types.specs.declared.links.Neighbour.{Neighbour}
use Rattle.grasp_types.specs.declared.refusal.ApiRefused.TheVariants as refusal
use Rattle.grasp_types.specs.declared.reply.ApiAnswer.{ApiAnswer}
use Rattle.grasp_types.specs.declared.reply.Reply.{Reply}
use Rattle.grasp_types.specs.declared.reply.Reply.TheVariants as reply
use Rattle.grasp_types.specs.declared.traffic.Input.TheVariants as input
use Rattle.grasp_laws_events.specs.Dialling.{IsTcpAddress, AsksPeer, LocatorsAreDialled}

-- ---- the test of a locator

is_dialled : (l : Locator) → IsTcpAddress l → is_dialable l ≡ true
is_dialled (V6 n Tcp port) h = refl
is_dialled (V6 n Udp port) h = absurd h
is_dialled (V4 n Tcp port) h = refl
is_dialled (V4 n Udp port) h = absurd h
is_dialled (Fqdn name proto port) h = absurd h
is_dialled (Uri text proto port) h = absurd h

isnt_dialled : (l : Locator) → ¬ IsTcpAddress l → is_dialable l ≡ false
isnt_dialled (V6 n Tcp port) h = absurd (h tt)
isnt_dialled (V6 n Udp port) h = refl
isnt_dialled (V4 n Tcp port) h = absurd (h tt)
isnt_dialled (V4 n Udp port) h = refl
isnt_dialled (Fqdn name proto port) h = refl
isnt_dialled (Uri text proto port) h = refl

-- ---- lists

or_true : (a : Bool) → (a || true) ≡ true
or_true true = refl
or_true false = refl

-- a test that one of a list passes is passed by some
pub any_has : {A : Type 0} (p : A → Bool) (xs : List A) (x : A) → Contains xs x → p x ≡ true → list_any p xs ≡ true
any_has p xs x h is = list_any_at p xs h.0 x h.1 (ap p h.2 ∙ is)

-- ---- calls

-- a bad locator is the cause of such a call's refusal exactly where the test fails
cause_is : (n : NodeState) (asa : ℕ) (it : Call) (peer : Locator) → AsksPeer peer it → HasCause n asa it refusal.BadLocator → is_dialable peer ≡ false
cause_is n asa (call.RequestNegotiate name value loops timeout dry other) peer asks cause = ap is_dialable (sym asks) ∙ cause
cause_is n asa (call.Synchronize name loops timeout other) peer asks cause = ap is_dialable (sym asks) ∙ cause
cause_is n asa _ peer asks cause = absurd asks

is_cause : (n : NodeState) (asa : ℕ) (it : Call) (peer : Locator) → AsksPeer peer it → is_dialable peer ≡ false → HasCause n asa it refusal.BadLocator
is_cause n asa (call.RequestNegotiate name value loops timeout dry other) peer asks bad = ap is_dialable asks ∙ bad
is_cause n asa (call.Synchronize name loops timeout other) peer asks bad = ap is_dialable asks ∙ bad
is_cause n asa _ peer asks bad = absurd asks

pub locators_are_dialled : LocatorsAreDialled
locators_are_dialled = record { dialled = dialled; others = others; plans = plans; neighbours = neighbours } where
  dialled : (n after : NodeState) (now asa : ℕ) (it : Call) (x : Coming) (r : Reply) (peer : Locator) → IsBoundedNode n → IsTcpAddress peer → AsksPeer peer it
      → NodeStep n now (input.Api asa it) x r after → ¬ (r ≡ reply.Refused refusal.BadLocator)
  dialled n after now asa it x r peer bounded tcp asks step is = at (subst (λ (q : Reply). IsAnsweredSo (begin n now) asa it q after) is (refusals_have_causes n after now asa it x r bounded step)) where
    at : IsAnsweredSo (begin n now) asa it (reply.Refused refusal.BadLocator) after → ⊥
    at a = true≢false (sym (is_dialled peer tcp) ∙ cause_is (begin n now) asa it peer asks a.0.cause)

  others : (n after : NodeState) (now asa : ℕ) (it : Call) (x : Coming) (a : ApiAnswer) (peer : Locator) → IsBoundedNode n → ¬ IsTcpAddress peer → AsksPeer peer it
      → ¬ NodeStep n now (input.Api asa it) x (reply.Api a) after
  others n after now asa it x a peer bounded other asks step = at (refusals_have_causes n after now asa it x (reply.Api a) bounded step) where
    at : HasNoCause (begin n now) asa it → ⊥
    at none = none refusal.BadLocator (is_cause (begin n now) asa it peer asks (isnt_dialled peer other))

  plans : (plan : NodePlan) → ¬ IsTcpAddress plan.locator → is_bad_plan plan ≡ true
  plans plan other = bad (isnt_dialled plan.locator other) where
    bad : is_dialable plan.locator ≡ false → is_bad_plan plan ≡ true
    bad e = rw e (by (nat_lt 16 (length plan.links)) (list_any is_bad_link plan.links)) where
      by : (a b : Bool) → (a || b || true || nat_lt plan.limit 2048 || nat_lt 65535 plan.limit) ≡ true
      by true b = refl
      by false true = refl
      by false false = refl

  neighbours : (plan : NodePlan) (link : List Neighbour) (x : Neighbour) → Contains plan.links link → Contains link x → ¬ IsTcpAddress x.locator → is_bad_plan plan ≡ true
  neighbours plan link x has_link has other = rw links_are (by (nat_lt 16 (length plan.links))) where
    link_is : is_bad_link link ≡ true
    link_is = rw (any_has (λ (y : Neighbour). not (is_dialable y.locator)) link x has (ap not (isnt_dialled x.locator other))) (or_true (nat_lt 16 (length link)))

    links_are : list_any is_bad_link plan.links ≡ true
    links_are = any_has is_bad_link plan.links link has_link link_is

    by : (a : Bool) → (a || true || not (is_dialable plan.locator) || nat_lt plan.limit 2048 || nat_lt 65535 plan.limit) ≡ true
    by true = refl
    by false = refl

-- Tests of the acts in a session, each with the fact that it tells.
use Rattle.std.proofs.Common.{◌≡◌, ◌≤◌, ◌<◌, ◌==◌, ℕ, Bool, true, false, cond, not, ◌&&◌, Option, None, Some, is_none, Result, Ok, Err, refl, sym, ap, ◌∙◌, subst, arith}
use Rattle.std.specs.Bool.{Decides}
use Rattle.std.specs.Prelude.{slice_index_or}
use Rattle.std.proofs.lemmas.Bool.{eq-eqb, eqb-true}
use Rattle.std.proofs.lemmas.Bool.Decides.{Decides-and, Decides-like, not_from_Decides}
use Rattle.std.proofs.lemmas.Option.{same_Some}
use Rattle.grasp_laws_node.proofs.Meaning.Acts.{owned_at, acted}
use Rattle.grasp_laws_refusals.proofs.Found.{is_true, never, always, too_long}
use Rattle.grasp_laws_refusals.specs.Causes.{IsHeld, MayAct, IsTooLong}
use Rattle.grasp_laws_session.proofs.Says.{checks_say}
use Rattle.grasp_model_node.specs.BoundedNodes.{IsBoundedNode}
use Rattle.grasp_model_node.specs.Node.{NodeState}
use Rattle.grasp_model_node.specs.Queue.{fits}
use Rattle.grasp_model_node.specs.Refusals.{early}
use Rattle.grasp_model_node.specs.SessionCalls.{act_message}
use Rattle.grasp_model_node.specs.Tests.{checked, act_tests}
use Rattle.grasp_session.specs.Says.{CheckSays, HasLeft, has_turn}
use Rattle.grasp_session.specs.Sessions.{SessionState, check_reply, if_number, if_owner, session_at, session_owned}
use Rattle.grasp_session.specs.Transcript.{Saying, is_going, is_mine, last_offer, message_of, waits_of}
use Rattle.grasp_session.specs.declared.answer.Act.{Act}
use Rattle.grasp_session.specs.declared.answer.Act.TheVariants as act
use Rattle.grasp_session.specs.declared.answer.SessionRefused.{SessionRefused}
use Rattle.grasp_session.specs.declared.answer.SessionRefused.TheVariants as refused
use Rattle.grasp_types.specs.declared.message.Message.{Message}
use Rattle.grasp_types.specs.declared.refusal.ApiRefused.TheVariants as api
use Rattle.grasp_types.specs.declared.session.Handle.{Handle}

-- ---- the session of a handle

placed : (number : ℕ) (x y : SessionState) (b : Bool) → y.number == number ≡ b → cond b (Some y) None ≡ Some x → (Some y ≡ Some x) × (x.number ≡ number)
placed number x y true e f = (f, ap (λ (k : SessionState). k.number) (sym (same_Some y x f)) ∙ eqb-true y.number number e)
placed number x y false e f = absurd (cc)

is_there : (number : ℕ) (x : SessionState) (o : Option SessionState) → if_number (λ (k : SessionState). k.number) number o ≡ Some x → (o ≡ Some x) × (x.number ≡ number)
is_there number x None e = absurd (cc)
is_there number x (Some y) e = placed number x y (y.number == number) refl e

pub held : (n : NodeState) (asa : ℕ) (h : Handle) (x : SessionState) → session_owned n.sessions asa h ≡ Some x → IsHeld n asa h x
held n asa h x e =
    let o = owned_at n.sessions asa h x e in
    let p = is_there h.number x (slice_index_or n.sessions.places h.place None) o.0 in
    record { at = p.0; number = p.1; owner = o.1 }

pub named : (n : NodeState) (asa : ℕ) (h : Handle) (x : SessionState) → IsHeld n asa h x → session_at n.sessions h ≡ Some x
named n asa h x i = ap (if_number (λ (k : SessionState). k.number) h.number) i.at ∙ ap (λ b. cond b (Some x) None) (eq-eqb x.number h.number i.number)

pub owns : (n : NodeState) (asa : ℕ) (h : Handle) (x : SessionState) → IsHeld n asa h x → session_owned n.sessions asa h ≡ Some x
owns n asa h x i = ap (if_owner (λ (k : SessionState). k.owner) asa) (named n asa h x i) ∙ ap (λ b. cond b (Some x) None) (eq-eqb x.owner asa i.owner)

one_held : (n : NodeState) (asa : ℕ) (h : Handle) (x y : SessionState) → IsHeld n asa h x → IsHeld n asa h y → x ≡ y
one_held n asa h x y i j = same_Some x y (sym i.at ∙ j.at)

pub none_held : (n : NodeState) (asa : ℕ) (h : Handle) → Decides (is_none (session_owned n.sessions asa h)) ((x : SessionState) → ¬ IsHeld n asa h x)
none_held n asa h = by (session_owned n.sessions asa h) refl where
  by : (o : Option SessionState) → session_owned n.sessions asa h ≡ o → Decides (is_none o) ((x : SessionState) → ¬ IsHeld n asa h x)
  by None e = always (λ x i. let clash : None ≡ Some x = sym e ∙ owns n asa h x i in absurd (cc))
  by (Some x) e = never (λ none. none x (held n asa h x e))

-- ---- the checks of an act

-- the act wants the agent's turn, or only that the session goes on
abbrev pub HasTurn : Act → SessionState → Type 0
HasTurn act.Invalid x = is_going x.view ≡ true
HasTurn a x = MayAct x

turn_decides : (x : SessionState) → Decides (is_going x.view && is_mine x.view) (MayAct x)
turn_decides x =
    Decides-like (is_going x.view && is_mine x.view) (λ p. record { going = p.0; mine = p.1 }) (λ m. (m.going, m.mine))
    (Decides-and (is_going x.view) (is_mine x.view) (is_true (is_going x.view)) (is_true (is_mine x.view)))

has_turn_decides : (a : Act) (x : SessionState) → Decides (has_turn x.view a) (HasTurn a x)
has_turn_decides act.Invalid x = is_true (is_going x.view)
has_turn_decides act.Step x = turn_decides x
has_turn_decides act.Wait x = turn_decides x
has_turn_decides act.End x = turn_decides x

pub record Checks (n : NodeState) (asa : ℕ) (h : Handle) (a : Act) (r : Result (Unit {0}) SessionRefused) : Type 0 where
  pub session : Decides (checked r api.NoSession) ((x : SessionState) → ¬ IsHeld n asa h x)
  pub turn : Decides (checked r api.NotYourTurn) ((x : SessionState) × IsHeld n asa h x × ¬ HasTurn a x)
  pub loops : Decides (checked r api.LoopsSpent) ((x : SessionState) × IsHeld n asa h x × HasTurn a x × (a ≡ act.Step) × ((last_offer x.view).loops ≤ 1))
  pub waits : Decides (checked r api.WaitsSpent) ((x : SessionState) × IsHeld n asa h x × HasTurn a x × (a ≡ act.Wait) × (4 ≤ waits_of x.view))

module _ (n : NodeState) (asa : ℕ) (h : Handle) (a : Act) where
  -- what one session of the handle is, each is
  moved : (P : SessionState → Type 0) (x y : SessionState) → IsHeld n asa h x → IsHeld n asa h y → P y → P x
  moved P x y i j p = subst P (one_held n asa h y x j i) p

  has : (x : SessionState) → has_turn x.view a ≡ true → HasTurn a x
  has x e = (has_turn_decides a x).0 e

  lacks : (x : SessionState) → has_turn x.view a ≡ false → ¬ HasTurn a x
  lacks x e = not_from_Decides (has_turn x.view a) (has_turn_decides a x) e

  by_reply : (r : Result (Unit {0}) SessionRefused) → CheckSays n.sessions asa h a r → Checks n asa h a r
  by_reply (Ok done) c =
      let x = c.0 in
      let i = held n asa h x c.1 in
      record {
        session = never (λ none. none x i);
        turn = never (λ p. p.2 (moved (HasTurn a) p.0 x p.1 i (has x c.2)));
        loops = never (λ p. let left : 1 < (last_offer x.view).loops = subst (HasLeft x.view) p.3 c.3 in let few : (last_offer x.view).loops ≤ 1 = moved (λ (y : SessionState). (last_offer y.view).loops ≤ 1) x p.0 i p.1 p.4 in omega (arith, left, few));
        waits = never (λ p. let left : waits_of x.view < 4 = subst (HasLeft x.view) p.3 c.3 in let many : 4 ≤ waits_of x.view = moved (λ (y : SessionState). 4 ≤ waits_of y.view) x p.0 i p.1 p.4 in omega (arith, left, many));
      }
  by_reply (Err refused.NoSession) c = record {
    session = always (λ x i. none x i);
    turn = never (λ p. none p.0 p.1);
    loops = never (λ p. none p.0 p.1);
    waits = never (λ p. none p.0 p.1);
  } where
    none : (x : SessionState) → ¬ IsHeld n asa h x
    none x i = let clash : None ≡ Some x = sym c ∙ owns n asa h x i in absurd (cc)
  by_reply (Err refused.NotYourTurn) c =
      let x = c.0 in
      let i = held n asa h x c.1 in
      record {
        session = never (λ none. none x i);
        turn = always (x, i, lacks x c.2);
        loops = never (λ p. lacks x c.2 (moved (HasTurn a) x p.0 i p.1 p.2));
        waits = never (λ p. lacks x c.2 (moved (HasTurn a) x p.0 i p.1 p.2));
      }
  by_reply (Err refused.LoopsSpent) c =
      let x = c.0 in
      let i = held n asa h x c.1 in
      record {
        session = never (λ none. none x i);
        turn = never (λ p. p.2 (moved (HasTurn a) p.0 x p.1 i (has x c.2)));
        loops = always (x, i, has x c.2, c.3, c.4);
        waits = never (λ p. let clash : act.Step ≡ act.Wait = sym c.3 ∙ p.3 in absurd (cc));
      }
  by_reply (Err refused.WaitsSpent) c =
      let x = c.0 in
      let i = held n asa h x c.1 in
      record {
        session = never (λ none. none x i);
        turn = never (λ p. p.2 (moved (HasTurn a) p.0 x p.1 i (has x c.2)));
        loops = never (λ p. let clash : act.Wait ≡ act.Step = sym c.3 ∙ p.3 in absurd (cc));
        waits = always (x, i, has x c.2, c.3, c.4);
      }
  by_reply (Err refused.SessionsFull) c = absurd c
  by_reply (Err refused.OutOfMemory) c = absurd c

  pub checks : Checks n asa h a (check_reply n.sessions asa h a)
  checks = by_reply (check_reply n.sessions asa h a) (checks_say n.sessions asa h a)

  -- what is said by an act that nothing else refuses
  pub said_long : (saying : Saying) → IsBoundedNode n → early (act_tests n asa h a) ≡ Ok tt
      → Decides (not (fits n.plan.limit (act_message n h saying))) ((x : SessionState) × IsHeld n asa h x × IsTooLong n (message_of x.view saying))
  said_long saying k e = subst (λ (m : Message). Decides (not (fits n.plan.limit m)) ((x : SessionState) × IsHeld n asa h x × IsTooLong n (message_of x.view saying))) (sym message) here where
    says : CheckSays n.sessions asa h a (Ok tt)
    says = (acted n asa h a k e).says

    x : SessionState
    x = says.0

    i : IsHeld n asa h x
    i = held n asa h x says.1

    at : session_at n.sessions h ≡ Some x
    at = named n asa h x i

    message : act_message n h saying ≡ message_of x.view saying
    message = rw at refl

    here : Decides (not (fits n.plan.limit (message_of x.view saying))) ((y : SessionState) × IsHeld n asa h y × IsTooLong n (message_of y.view saying))
    here =
        Decides-like (not (fits n.plan.limit (message_of x.view saying))) (λ long. (x, i, long))
        (λ p. moved (λ (y : SessionState). IsTooLong n (message_of y.view saying)) x p.0 i p.1 p.2) (too_long n (message_of x.view saying))

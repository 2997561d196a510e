-- Opening calls, one after the other.
use Rattle.std.proofs.Common.{◌≡◌, ◌<◌, ℕ, ◌+◌, suc, get_or, List, [], ◌∷◌, ◌++◌, length, refl, sym, ap, ◌∙◌, subst, Some, Bool, true, arith, Result, Ok, Err}
use Rattle.std.proofs.lemmas.Option.{slice_get-get_or}
use Rattle.std.specs.Prelude.{slice_get, slice_set, MatchResult}
use Rattle.grasp_cbor.specs.declared.memory.OutOfMemory.{OutOfMemory}
use Rattle.grasp_core.specs.declared.node_core.NodeCore.{NodeCore}
use Rattle.grasp_cbor.proofs.Facts.Lists.{length_push}
use Rattle.grasp_crew.specs.Servants.{is_steward, opening_count, call_of, after_call}
use Rattle.grasp_crew.specs.declared.servant.Servant.{Servant}
use Rattle.grasp_shared.proofs.Adding.{adds_on, adds_nothing}
use Rattle.grasp_shared.specs.Adding.{Adds}
use Rattle.grasp_shared.specs.Calls.{GoesOn, answered}
use Rattle.grasp_types.specs.declared.reply.Reply.{Reply}
use Rattle.grasp_types.specs.declared.traffic.Input.{Input}
use Rattle.grasp_service_visits.specs.Calling.{GoesSome}
use Rattle.grasp_service_visits.proofs.Going.{some_none, some_step}
use Rattle.grasp_service_visits.proofs.Each.{after_none, after_next, after_more, adds_more, adds_none, each_more}
use Rattle.grasp_service_visits.specs.Each.{each_after, each_adds}
use Rattle.grasp_service.specs.Openings.{opens_at, OpensFrom, agent_entry, opening_calls, opened, IsOpening, OpensOnce, OpensSome, Opens, BeginsSome, Begins, BeginsService}
use Rattle.grasp_service.specs.States.{state_of, with_crew}
use Rattle.grasp_service.specs.declared.service.Service.{Service}

-- ---- of an agent

calls_more : (caller : ℕ) (m : Servant) (rs : List Reply) (r : Reply) → opening_calls caller m (rs ++ r ∷ []) ≡ opening_calls caller m rs ++ agent_entry caller (opened m rs) r ∷ []
calls_more caller m [] r = refl
calls_more caller m (s ∷ rs) r = ap (λ h. agent_entry caller m s ∷ h) (calls_more caller (after_call 0 m s) rs r)

opened_more : (m : Servant) (rs : List Reply) (r : Reply) → opened m (rs ++ r ∷ []) ≡ after_call 0 (opened m rs) r
opened_more m [] r = refl
opened_more m (s ∷ rs) r = opened_more (after_call 0 m s) rs r

opens_more : (first : Bool) (place : ℕ) (rs : List Reply) (r : Reply) → OpensFrom first place rs → opens_at first (place + length rs) r ≡ true → OpensFrom first place (rs ++ r ∷ [])
opens_more first place [] r p q = (subst (λ n. opens_at first n r ≡ true) (let e : place + 0 ≡ place = omega arith in e) q, tt)
opens_more first place (s ∷ rs) r p q =
    (p.0, opens_more first (place + 1) rs r p.1 (subst (λ n. opens_at first n r ≡ true) (let e : place + suc (length rs) ≡ place + 1 + length rs = omega arith in e) q))

-- none was made
pub some_opens_none : (a : NodeCore) (m : Servant) (first : Bool) → OpensSome a m first 0 a m
some_opens_none a m first = record { replies = []; count = refl; opens = tt; adds = λ caller. adds_nothing a; agent = refl }

-- one more was
pub some_opens_more : (a b c : NodeCore) (l m n : Servant) (first : Bool) (place : ℕ) → OpensSome a l first place b m → OpensOnce b m first place c n → OpensSome a l first (place + 1) c n
some_opens_more a b c l m n first place p q = record {
  replies = p.replies ++ q.reply ∷ [];
  count = length_push p.replies q.reply ∙ ap (λ i. i + 1) p.count;
  opens = opens_more first 0 p.replies q.reply p.opens (subst (λ i. opens_at first i q.reply ≡ true) (let e : place ≡ 0 + length p.replies = omega (arith, p.count) in e) q.opens);
  adds = λ caller.
      subst (λ h. Adds a h c) (sym (calls_more caller l p.replies q.reply))
      (adds_on a b c _ (agent_entry caller (opened l p.replies) q.reply ∷ []) (p.adds caller)
      (subst (λ x. Adds b (agent_entry caller x q.reply ∷ []) c) p.agent (q.went.goes caller)));
  agent = q.agent ∙ ap (λ x. after_call 0 x q.reply) p.agent ∙ sym (opened_more l p.replies q.reply);
}

-- ---- of all agents

-- none has begun
pub begins_none : (a : NodeCore) (crew : List Servant) → BeginsSome 0 a crew a crew
begins_none a crew = record {
  replies = [];
  count_is = refl;
  each = tt;
  adds = subst (λ h. Adds a h a) (sym (adds_none opening_calls 1 crew)) (adds_nothing a);
  crew_is = sym (after_none opened crew);
}

-- one more has
begins_more : (count : ℕ) (a b c : NodeCore) (crew others news : List Servant) (m n : Servant) → BeginsSome count a crew b others → slice_get crew count ≡ Some m
    → Opens b m c n → news ≡ slice_set others count n → BeginsSome (count + 1) a crew c news
begins_more count a b c crew others news m n p g q s =
    let is : slice_get crew (length p.replies) ≡ Some m = subst (λ i. slice_get crew i ≡ Some m) (sym p.count_is) g in
    record {
      replies = p.replies ++ q.replies ∷ [];
      count_is = length_push p.replies q.replies ∙ ap (λ i. i + 1) p.count_is;
      each = each_more IsOpening crew p.replies m q.replies is p.each q.opening;
      adds =
          subst (λ h. Adds a h c) (sym (adds_more opening_calls 1 crew p.replies m q.replies is))
          (adds_on a b c _ (opening_calls (1 + length p.replies) m q.replies) p.adds (q.adds (1 + length p.replies)));
      crew_is =
          s ∙ ap (λ i. slice_set others i n) (sym p.count_is) ∙ ap (λ ss. slice_set ss (length p.replies) n) p.crew_is
          ∙ ap (λ x. slice_set (each_after opened crew p.replies) (length p.replies) x) q.agent
          ∙ sym (after_more opened crew p.replies m q.replies is);
    }

-- the next one has
pub begins_next : (count : ℕ) (a b c : NodeCore) (crew others : List Servant) (d n : Servant) → BeginsSome count a crew b others → count < length others → Opens b (get_or others count d) c n
    → BeginsSome (count + 1) a crew c (slice_set others count n)
begins_next count a b c crew others d n p h q =
    let is : slice_get crew count ≡ Some (get_or others count d) =
    sym (ap (λ i. slice_get crew i) p.count_is) ∙ sym (after_next opened crew p.replies) ∙ ap (λ i. slice_get (each_after opened crew p.replies) i) p.count_is
    ∙ ap (λ x. slice_get x count) (sym p.crew_is) ∙ slice_get-get_or others count d h in
    begins_more count a b c crew others (slice_set others count n) (get_or others count d) n p is q refl

-- ---- one call

pub opens_once : (a b : NodeCore) (m n : Servant) (first : Bool) (place : ℕ) (i : Input) (r : Reply) → i ≡ call_of m → GoesOn a (answered 0 i r) b → opens_at first place r ≡ true → n ≡ after_call 0 m r
    → OpensOnce a m first place b n
opens_once a b m n first place i r e g o p = record { reply = r; went = subst (λ x. GoesOn a (answered 0 x r) b) e g; opens = o; agent = p }

pub ruleset beginning = (some_none, some_step, opens_once)

pub opens_cut : (a b c : NodeCore) (m n : Servant) (first : Bool) (place : ℕ) → OpensSome a m first place b n → GoesSome b c → GoesSome a c
opens_cut a b c m n first place p q = record { calls = opening_calls 0 m p.replies ++ q.calls; adds = adds_on a b c _ _ (p.adds 0) q.adds }

pub opens_all : (a b : NodeCore) (m n : Servant) (first : Bool) (place : ℕ) → OpensSome a m first place b n → first ≡ is_steward m → place ≡ opening_count m → Opens a m b n
opens_all a b m n first place p f c = record {
  replies = p.replies;
  opening = record { count = p.count ∙ c; opens = subst (λ x. OpensFrom x 0 p.replies) f p.opens };
  adds = p.adds;
  agent = p.agent;
}

pub begins_cut : (count : ℕ) (a b c : NodeCore) (crew others : List Servant) → BeginsSome count a crew b others → GoesSome b c → GoesSome a c
begins_cut count a b c crew others p q = record { calls = each_adds opening_calls 1 crew p.replies ++ q.calls; adds = adds_on a b c _ _ p.adds q.adds }

pub begins_all : (count : ℕ) (a b : NodeCore) (crew others : List Servant) → BeginsSome count a crew b others → count ≡ length crew → Begins a crew b others
begins_all count a b crew others p e = record { replies = p.replies; count = p.count_is ∙ e; each = p.each; adds = p.adds; crew_is = p.crew_is }

-- the node's agents did
pub begins_service : (x : Result (Unit {0}) OutOfMemory) (p q : Service) → MatchResult x (λ _. Begins p.core p.house.crew.items q.core q.house.crew.items) (λ _. GoesSome p.core q.core)
    → state_of q ≡ with_crew (state_of p) q.house.crew.items → MatchResult x (λ _. BeginsService p q) (λ _. GoesSome p.core q.core)
begins_service (Ok u) p q b s = record { begins = b; state = s }
begins_service (Err e) p q b s = b

pub ruleset opening_on = (some_opens_none, some_opens_more, opens_cut, opens_all)

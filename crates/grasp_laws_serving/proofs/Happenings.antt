-- What happened, part by part: an agent's own calls are those that it makes next, and all of it is acts of a member.
use Rattle.std.proofs.Common.{◌≡◌, refl, sym, ap, ◌∙◌, subst, ◌==◌, ◌++◌, Bool, true, false, cond, List, [], ◌∷◌}
use Rattle.std.proofs.lemmas.Bool.{false≢true}
use Rattle.std.specs.List.{AllByRecursion}
use Rattle.grasp_agent.specs.Replies.{after_reply}
use Rattle.grasp_agent.specs.States.{AgentState}
use Rattle.grasp_laws_members.specs.Acts.{Act, AreActs, Taken, agent_after, agent_wanting, took, wanted}
use Rattle.grasp_laws_serving.specs.Acts.{AreActsOf, HadMemory}
use Rattle.grasp_laws_serving.specs.Lives.{Happening, all_called, calls_in, called, told}
use Rattle.grasp_model_network.specs.EventSteps.{agent_input}
use Rattle.grasp_model_network.specs.Visits.{is_starved}
use Rattle.grasp_model_node.specs.Node.{NodeState}
use Rattle.grasp_shared.specs.History.{Entry, History, IsLegalHistory, IsStep}

-- ---- lists

pub all_append : {A : Type 0} (P : A → Type 0) (xs ys : List A) → AllByRecursion P xs → AllByRecursion P ys → AllByRecursion P (xs ++ ys)
all_append P [] ys a b = b
all_append P (x ∷ xs) ys a b = (a.0, all_append P xs ys a.1 b)

pub all_first : {A : Type 0} (P : A → Type 0) (xs ys : List A) → AllByRecursion P (xs ++ ys) → AllByRecursion P xs
all_first P [] ys a = tt
all_first P (x ∷ xs) ys a = (a.0, all_first P xs ys a.1)

pub all_last : {A : Type 0} (P : A → Type 0) (xs ys : List A) → AllByRecursion P (xs ++ ys) → AllByRecursion P ys
all_last P [] ys a = a
all_last P (x ∷ xs) ys a = all_last P xs ys a.1

pub calls_append : (xs ys : List Happening) → calls_in (xs ++ ys) ≡ calls_in xs ++ calls_in ys
calls_append [] ys = refl
calls_append (called e ∷ xs) ys = ap (λ (h : History). e ∷ h) (calls_append xs ys)
calls_append (told w ∷ xs) ys = calls_append xs ys

pub calls_called : (es : History) → calls_in (all_called es) ≡ es
calls_called [] = refl
calls_called (e ∷ es) = ap (λ (h : History). e ∷ h) (calls_called es)

-- ---- the agent of prefixes

-- the agent takes what happened
abbrev pub agent_at : AgentState → Happening → AgentState
agent_at a (called e) = cond (e.caller == 1) (after_reply a e.reply) a
agent_at a (told w) = agent_wanting a w.length w.longest w.peer

abbrev pub agent_in : AgentState → List Happening → AgentState
agent_in a [] = a
agent_in a (h ∷ hs) = agent_in (agent_at a h) hs

-- its own call is the one that it makes next
abbrev pub IsOwn : AgentState → Happening → Type 0
IsOwn a (called e) = (e.caller == 1) ≡ true → e.input ≡ agent_input a
IsOwn a (told w) = Unit {0}

abbrev pub AreOwn : AgentState → List Happening → Type 0
AreOwn a [] = Unit {0}
AreOwn a (h ∷ hs) = IsOwn a h × AreOwn (agent_at a h) hs

-- this happened to the agent, which is that one behind it
pub record Goes (a : AgentState) (hs : List Happening) (b : AgentState) : Type 0 where
  pub own : AreOwn a hs
  pub ends : agent_in a hs ≡ b

pub goes_none : (a : AgentState) → Goes a [] a
goes_none a = record { own = tt; ends = refl }

pub goes_on : (a : AgentState) (h : Happening) (hs : List Happening) (b : AgentState) → IsOwn a h → Goes (agent_at a h) hs b → Goes a (h ∷ hs) b
goes_on a h hs b o g = record { own = (o, g.own); ends = g.ends }

pub goes_append : (xs : List Happening) (a b c : AgentState) (ys : List Happening) → Goes a xs b → Goes b ys c → Goes a (xs ++ ys) c
goes_append [] a b c ys g h = subst (λ (x : AgentState). Goes x ys c) (sym g.ends) h
goes_append (x ∷ xs) a b c ys g h =
    goes_on a x (xs ++ ys) c g.own.0 (goes_append xs (agent_at a x) b c ys (record { own = g.own.1; ends = g.ends }) h)

-- no call of the agent
abbrev pub IsBeside : Entry → Type 0
IsBeside e = (e.caller == 1) ≡ false

pub goes_beside : (es : History) (a : AgentState) → AllByRecursion IsBeside es → Goes a (all_called es) a
goes_beside [] a all = goes_none a
goes_beside (e ∷ es) a all =
    goes_on a (called e) (all_called es) a (λ f. absurd (false≢true (sym all.0 ∙ f)))
    (subst (λ (b : Bool). Goes (cond b (after_reply a e.reply) a) (all_called es) a) (sym all.0) (goes_beside es a all.1))

pub own_first : (xs ys : List Happening) (a : AgentState) → AreOwn a (xs ++ ys) → AreOwn a xs
own_first [] ys a o = tt
own_first (x ∷ xs) ys a o = (o.0, own_first xs ys (agent_at a x) o.1)

-- ---- acts

pub record Made (n : NodeState) (a : AgentState) (hs : List Happening) : Type 0 where
  pub acts : List Act
  pub are : AreActsOf hs acts
  pub may : AreActs n a acts
  pub ends : agent_after a acts ≡ agent_in a hs

made_called : (n after : NodeState) (a : AgentState) (e : Entry) (hs : List Happening) → IsStep n e after → is_starved e.reply ≡ false → IsOwn a (called e)
    → Made after (agent_at a (called e)) hs → Made n a (called e ∷ hs)
made_called n after a e hs step fed own rest =
    let t : Taken = record { own = e.caller == 1; now = e.now; input = e.input; choice = record { coming = step.coming; reply = e.reply; after = after } } in
    record {
      acts = took t ∷ rest.acts;
      are = (record { own = refl; now = refl; input = refl; reply = refl }, rest.are);
      may = (record { steps = step.step; fed = fed; called = own }, rest.may);
      ends = rest.ends;
    }

pub made : (hs : List Happening) (n to : NodeState) (a : AgentState) → IsLegalHistory n (calls_in hs) to → HadMemory hs → AreOwn a hs → Made n a hs
made [] n to a legal fed own = record { acts = []; are = tt; may = tt; ends = refl }
made (called e ∷ hs) n to a legal fed own =
    made_called n legal.0 a e hs legal.1 fed.0 own.0 (made hs legal.0 to (agent_at a (called e)) legal.2 fed.1 own.1)
made (told w ∷ hs) n to a legal fed own =
    let r : Made n (agent_wanting a w.length w.longest w.peer) hs = made hs n to (agent_wanting a w.length w.longest w.peer) legal fed.1 own.1 in
    record {
      acts = wanted w.length w.longest w.peer ∷ r.acts;
      are = (refl, refl, refl, r.are);
      may = r.may;
      ends = r.ends;
    }

-- the first of it is legal too
pub legal_first : (xs ys : History) (n to : NodeState) → IsLegalHistory n (xs ++ ys) to → (mid : NodeState) × IsLegalHistory n xs mid
legal_first [] ys n to legal = (n, refl)
legal_first (e ∷ xs) ys n to legal = let f = legal_first xs ys legal.0 to legal.2 in (f.0, (legal.0, legal.1, f.1))

-- and so is what follows it
pub legal_last : (xs ys : History) (n to : NodeState) → IsLegalHistory n (xs ++ ys) to → (mid : NodeState) × IsLegalHistory n xs mid × IsLegalHistory mid ys to
legal_last [] ys n to legal = (n, refl, legal)
legal_last (e ∷ xs) ys n to legal = let f = legal_last xs ys legal.0 to legal.2 in (f.0, (legal.0, legal.1, f.1), f.2)

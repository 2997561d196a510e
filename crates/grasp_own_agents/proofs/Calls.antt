-- The calls of agents, one after the other.
use Rattle.std.proofs.Common.{◌≡◌, ◌<◌, ℕ, ◌+◌, get_or, List, [], ◌∷◌, ◌++◌, length, refl, sym, ap, ◌∙◌, subst, Some}
use Rattle.std.proofs.lemmas.Option.{slice_get-get_or}
use Rattle.std.specs.Prelude.{slice_get, slice_set}
use Rattle.grasp_agent.specs.declared.agent.Agent.{Ghosts}
use Rattle.grasp_cbor.proofs.Facts.Lists.{length_push}
use Rattle.grasp_core.specs.declared.node_core.NodeCore.{NodeCore}
use Rattle.grasp_own_agents.specs.Acting.{agent_input, agent_calls, Acts, all_agent_calls, all_after, ActsSome, ActsAll}
use Rattle.grasp_service_visits.proofs.Each.{after_none, after_next, after_more, adds_more, adds_none}
use Rattle.grasp_service_visits.specs.Calling.{GoesSome}
use Rattle.grasp_service_visits.specs.Each.{each_after, each_adds}
use Rattle.grasp_shared.proofs.Adding.{adds_on, adds_nothing}
use Rattle.grasp_shared.specs.Adding.{Adds}
use Rattle.grasp_shared.specs.Calls.{GoesOn, answered}
use Rattle.grasp_types.specs.declared.reply.Reply.{Reply}
use Rattle.grasp_types.specs.declared.traffic.Input.{Input}

module _ {A : Type 0} (agent : Ghosts A) where
  -- none made a call
  pub acts_none : (a : NodeCore) (agents : List A) → ActsSome agent 0 a agents a agents
  acts_none a agents = record {
    replies = [];
    count_is = refl;
    adds = subst (λ h. Adds a h a) (sym (adds_none (agent_calls agent) 1 agents)) (adds_nothing a);
    after = sym (after_none agent.after_reply agents);
  }

  -- one more did
  acts_more : (count : ℕ) (a b c : NodeCore) (agents others news : List A) (m n : A) → ActsSome agent count a agents b others → slice_get agents count ≡ Some m
      → Acts agent b m c n → news ≡ slice_set others count n → ActsSome agent (count + 1) a agents c news
  acts_more count a b c agents others news m n p g q s =
      let is : slice_get agents (length p.replies) ≡ Some m = subst (λ i. slice_get agents i ≡ Some m) (sym p.count_is) g in
      record {
        replies = p.replies ++ q.reply ∷ [];
        count_is = length_push p.replies q.reply ∙ ap (λ i. i + 1) p.count_is;
        adds =
            subst (λ h. Adds a h c) (sym (adds_more (agent_calls agent) 1 agents p.replies m q.reply is))
            (adds_on a b c _ (agent_calls agent (1 + length p.replies) m q.reply) p.adds (q.went.goes (1 + length p.replies)));
        after =
            s ∙ ap (λ i. slice_set others i n) (sym p.count_is) ∙ ap (λ ss. slice_set ss (length p.replies) n) p.after
            ∙ ap (λ x. slice_set (all_after agent agents p.replies) (length p.replies) x) q.after
            ∙ sym (after_more agent.after_reply agents p.replies m q.reply is);
      }

  -- the next one did
  pub acts_next : (count : ℕ) (a b c : NodeCore) (agents others : List A) (d n : A) → ActsSome agent count a agents b others → count < length others
      → Acts agent b (get_or others count d) c n → ActsSome agent (count + 1) a agents c (slice_set others count n)
  acts_next count a b c agents others d n p h q =
      let f : A → Reply → A = agent.after_reply in
      let is : slice_get agents count ≡ Some (get_or others count d) =
      sym (ap (λ i. slice_get agents i) p.count_is) ∙ sym (after_next f agents p.replies) ∙ ap (λ i. slice_get (each_after f agents p.replies) i) p.count_is
      ∙ ap (λ x. slice_get x count) (sym p.after) ∙ slice_get-get_or others count d h in
      acts_more count a b c agents others (slice_set others count n) (get_or others count d) n p is q refl

  -- ---- one call

  pub acts_calling : (a b : NodeCore) (m n : A) (i : Input) (r : Reply) → i ≡ agent_input agent m → GoesOn a (answered 0 i r) b → n ≡ agent.after_reply m r → Acts agent a m b n
  acts_calling a b m n i r c g h = record { reply = r; went = subst (λ x. GoesOn a (answered 0 x r) b) c g; after = h }

  -- ---- all calls

  pub acts_cut : (count : ℕ) (a b c : NodeCore) (agents others : List A) → ActsSome agent count a agents b others → c ≡ b → GoesSome a c
  acts_cut count a b c agents others p e = record { calls = all_agent_calls agent agents p.replies; adds = subst (λ n. Adds a (all_agent_calls agent agents p.replies) n) (sym e) p.adds }

  pub acts_all : (count : ℕ) (a b : NodeCore) (agents others : List A) → ActsSome agent count a agents b others → count ≡ length agents → ActsAll agent a agents b others
  acts_all count a b agents others p e = record { replies = p.replies; count = p.count_is ∙ e; adds = p.adds; after = p.after }

  pub ruleset acting = (acts_calling)

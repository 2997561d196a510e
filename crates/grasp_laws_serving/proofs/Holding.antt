-- What two nodes hold that served to their ends in one network is apart.
use Rattle.std.proofs.Common.{◌≡◌, ◌≢◌, refl, sym, ap, ◌∙◌, subst, ℕ, ◌==◌, Bool, true, cond, All, List, [], ◌∷◌}
use Rattle.std.proofs.lemmas.List.Elements.{All-head, All-tail}
use Rattle.grasp_agent.specs.Replies.{after_reply}
use Rattle.grasp_agent.specs.States.{AgentState}
use Rattle.grasp_crew.specs.Steward.{StewardState}
use Rattle.grasp_crew.specs.declared.servant.Servant.{Servant}
use Rattle.grasp_crew.specs.declared.servant.Servant.TheVariants.{Steward}
use Rattle.grasp_laws_members.specs.Acts.{Act, agent_after, agent_wanting, seat_after, took, wanted}
use Rattle.grasp_laws_members.specs.Courses.{Moment, acts_at, after_moment, course_after, networks_of}
use Rattle.grasp_laws_network.proofs.Here.{numbered_within}
use Rattle.grasp_laws_network.proofs.LivesKept.{lives_are_kept}
use Rattle.grasp_laws_network.specs.Authorities.{Holds}
use Rattle.grasp_laws_serving.proofs.Agents.{IsCrew}
use Rattle.grasp_laws_serving.proofs.Beginning.{opens}
use Rattle.grasp_laws_serving.proofs.Happenings.{agent_at, agent_in}
use Rattle.grasp_laws_serving.proofs.Lives.{behind, lived, went, whole}
use Rattle.grasp_laws_serving.specs.Acts.{AreActsOf}
use Rattle.grasp_laws_serving.specs.Courses.{IsServedCourse}
use Rattle.grasp_laws_serving.specs.Holding.{ServedTo, ServingNodesHoldApart}
use Rattle.grasp_laws_serving.specs.Laws.{AreServices, ServingNodesAreSafe}
use Rattle.grasp_laws_serving.specs.Lives.{Happening, Life, called, life_happens, life_of, to_its_end, told}
use Rattle.grasp_model_network.specs.GoodSetting.{IsGoodSetting}
use Rattle.grasp_model_network.specs.Openings.{first_seat}
use Rattle.grasp_model_network.specs.Runs.{first_world}
use Rattle.grasp_model_network.specs.Setting.{Setting}
use Rattle.grasp_model_network.specs.World.{Seat, WorldState, member_of, present_life}
use Rattle.grasp_model_script.specs.Safe.{IsSafe}
use Rattle.grasp_node_main.specs.Networks.{NodesOpenAsSeats}
use Rattle.grasp_node_main.specs.Openings.{opened_agent}
use Rattle.grasp_pool.specs.Functions.{pool_of}
use Rattle.grasp_pool.specs.Holdings.{IsFree}
use Rattle.grasp_service.specs.Rounds.{rounds_after}
use Rattle.grasp_service.specs.Served.{opened_state}

-- ---- the agent of prefixes

-- the agent that acts lead to is the one that what happened leads to
acts_agent : (hs : List Happening) (xs : List Act) (a : AgentState) → AreActsOf hs xs → agent_after a xs ≡ agent_in a hs
acts_agent [] [] a are = refl
acts_agent [] (x ∷ xs) a are = absurd are
acts_agent (h ∷ hs) [] a are = absurd are
acts_agent (called e ∷ hs) (took t ∷ xs) a are =
    ap (λ (b : AgentState). agent_after b xs) (ap (λ (b : Bool). cond b (after_reply a t.choice.reply) a) are.0.own ∙ ap (λ r. cond (e.caller == 1) (after_reply a r) a) are.0.reply)
    ∙ acts_agent hs xs (agent_at a (called e)) are.1
acts_agent (called e ∷ hs) (wanted l m p ∷ xs) a are = absurd are
acts_agent (told w ∷ hs) (took t ∷ xs) a are = absurd are
acts_agent (told w ∷ hs) (wanted l m p ∷ xs) a are =
    ap (λ (b : AgentState). agent_after b xs)
    (ap (λ (n : ℕ). agent_wanting a n m p) are.0 ∙ (ap (λ (n : ℕ). agent_wanting a w.length n p) are.1 ∙ ap (λ q. agent_wanting a w.length w.longest q) are.2))
    ∙ acts_agent hs xs (agent_at a (told w)) are.3

crew_agent : (a : AgentState) (m : StewardState) (crew others : List Servant) → IsCrew a crew → crew ≡ Steward m ∷ others → m.agent ≡ a
crew_agent a m crew others c e = (subst (IsCrew a) e c).0

-- the last network of a course
last_safe : (s : Setting) (ms : List Moment) (w : WorldState) → All (IsSafe s) (networks_of s w ms) → IsSafe s (course_after s w ms)
last_safe s [] w all = All-head (IsSafe s) w [] all
last_safe s (m ∷ ms) w all = last_safe s ms (after_moment s w m) (All-tail (IsSafe s) w (networks_of s (after_moment s w m) ms) all)

module _ (seated : NodesOpenAsSeats) (safe : ServingNodesAreSafe) (serves : ℕ → Bool) (s : Setting) (ms : List Moment) (good : IsGoodSetting s) (are : AreServices serves s ms)
    (course : IsServedCourse serves s (first_world s) ms) where
  abbrev last : WorldState
  last = course_after s (first_world s) ms

  safe_last : IsSafe s last
  safe_last = last_safe s ms (first_world s) (safe.safe serves s ms good are course)

  -- a node that served stands there with its agent
  module _ (node : ℕ) (m : StewardState) (is : serves node ≡ true) (t : ServedTo s ms node m) where
    abbrev l : Life
    l = life_of t.plan t.joining t.doors t.before t.after (to_its_end t.serves)

    ended : (went seated t.plan (pool_of t.plan.roots) l (lived t.plan t.joining t.doors t.before t.after (to_its_end t.serves)) t.fit.begins t.fit.heralds t.links).agent ≡ m.agent
    ended =
        sym
        (crew_agent (went seated t.plan (pool_of t.plan.roots) l (lived t.plan t.joining t.doors t.before t.after (to_its_end t.serves)) t.fit.begins t.fit.heralds t.links).agent m
        (rounds_after (opened_state t.plan t.serves.replies) t.serves.rounds).house.crew t.others
        (went seated t.plan (pool_of t.plan.roots) l (lived t.plan t.joining t.doors t.before t.after (to_its_end t.serves)) t.fit.begins t.fit.heralds t.links).stands.crew t.crew)

    begins_as : (first_seat t.member).agent ≡ opened_agent (pool_of t.plan.roots)
    begins_as =
        ap (λ (y : Seat). y.agent)
        (opens seated t.member t.plan.node t.plan.roots
        (behind seated t.plan (pool_of t.plan.roots) l (lived t.plan t.joining t.doors t.before t.after (to_its_end t.serves)) t.fit.begins t.fit.heralds t.links).node t.plan_is t.roots_are
        (behind seated t.plan (pool_of t.plan.roots) l (lived t.plan t.joining t.doors t.before t.after (to_its_end t.serves)) t.fit.begins t.fit.heralds t.links).opening)

    stands_as : agent_after (first_seat t.member).agent (acts_at node ms) ≡ m.agent
    stands_as =
        ap (λ (a : AgentState). agent_after a (acts_at node ms)) begins_as
        ∙ (acts_agent (life_happens t.plan l) (acts_at node ms) (opened_agent (pool_of t.plan.roots)) t.happened
        ∙ ((whole seated t.plan (pool_of t.plan.roots) l (lived t.plan t.joining t.doors t.before t.after (to_its_end t.serves)) t.fit.begins t.fit.heralds t.links).goes.ends ∙ ended))

    holds : (address : ℕ) → IsFree m.agent.pool address → Holds last (present_life last node) address
    holds address free = record {
      seat = seat_after (first_seat t.member) (acts_at node ms);
      here = safe.seats serves s ms good are course node t.member is t.found;
      free = subst (λ (a : AgentState). IsFree a.pool address) (sym stands_as) free;
    }

    own_life : member_of last (present_life last node) ≡ node
    own_life = (lives_are_kept s last safe_last.reached).own node (numbered_within s.members node t.member t.found)

  hold_apart : (j k : ℕ) (a b : StewardState) → serves j ≡ true → serves k ≡ true → j ≢ k → ServedTo s ms j a → ServedTo s ms k b → (address : ℕ) → IsFree a.agent.pool address → ¬ IsFree b.agent.pool address
  hold_apart j k a b is also apart t u address free other =
      safe_last.prefixes.held (present_life last j) (present_life last k) address
      (λ e. apart (sym (own_life j a is t) ∙ (ap (member_of last) e ∙ own_life k b also u))) (holds j a is t address free) (holds k b also u address other)

pub serving_nodes_hold_apart : NodesOpenAsSeats → ServingNodesAreSafe → ServingNodesHoldApart
serving_nodes_hold_apart seated safe serves s ms good are course j k a b is also apart t u address free other =
    hold_apart seated safe serves s ms good are course j k a b is also apart t u address free other

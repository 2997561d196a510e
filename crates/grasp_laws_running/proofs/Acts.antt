-- The entries of a run are what happened at its node, with the wants that its agent was given before its calls.
use Rattle.std.proofs.Common.{◌≡◌, refl, sym, ap, ◌∙◌, subst, ◌==◌, ◌++◌, Bool, true, false, cond, Contains, List, [], ◌∷◌, slice_get, Option, Some, None, Result, Ok, Err}
use Rattle.std.proofs.lemmas.Bool.{false≢true}
use Rattle.std.proofs.lemmas.List.Elements.{filter-append}
use Rattle.std.proofs.lemmas.Option.{slice_get_within, get_or_from_slice_get}
use Rattle.grasp_agent.specs.Replies.{after_reply, after_want, want_reply}
use Rattle.grasp_agent.specs.States.{AgentState}
use Rattle.grasp_agent.specs.declared.want.WantFault.{WantFault}
use Rattle.grasp_laws_members.specs.Acts.{Act, AreActs, agent_after, IsTaken, Taken, agent_taking, agent_wanting, took, wanted}
use Rattle.grasp_laws_running.specs.Acts.{AreEntries, HadMemory, IsEntry}
use Rattle.grasp_laws_running.specs.Laws.{HasActs, RunsHaveActs}
use Rattle.grasp_model_network.specs.EventSteps.{agent_input}
use Rattle.grasp_model_network.specs.Visits.{is_starved}
use Rattle.grasp_model_node.specs.Node.{NodeState}
use Rattle.grasp_node_main.specs.Manager.{ManagerState, giving, giving_next, manager_after, opened_manager, ready_manager}
use Rattle.grasp_node_main.specs.Openings.{opened_agent}
use Rattle.grasp_node_main.specs.Workers.{AreCallsOf, after_calls, after_turn}
use Rattle.grasp_node_main.specs.declared.want_plan.WantPlan.{WantPlan}
use Rattle.grasp_node_main.specs.declared.worker.Worker.{Worker}
use Rattle.grasp_node_main.specs.declared.worker.Worker.TheVariants.{Manager}
use Rattle.grasp_pool.specs.Functions.{pool_of}
use Rattle.grasp_shared.specs.History.{Entry, History, IsLegalHistory, IsStep, own_calls}
use Rattle.grasp_types.specs.declared.reply.Reply.{Reply}

-- ---- the agent that manages prefixes, with its wants

giving_agent : (m : ManagerState) (w : WantPlan) (r : Result (Unit {0}) WantFault) → (giving m w r).agent ≡ after_want m.agent w.length w.longest w.peer r
giving_agent m w (Ok done) = refl
giving_agent m w (Err fault) = refl

giving_wants : (m : ManagerState) (w : WantPlan) (r : Result (Unit {0}) WantFault) → (giving m w r).wants ≡ m.wants
giving_wants m w (Ok done) = refl
giving_wants m w (Err fault) = refl

-- it stays as it is where it has no more wants, and else takes the next one
data IsReady (m : ManagerState) : Type 0 where
  as_it_is : ready_manager m ≡ m → IsReady m
  takes : (w : WantPlan) → Contains m.wants w → (ready_manager m).agent ≡ agent_wanting m.agent w.length w.longest w.peer → (ready_manager m).wants ≡ m.wants → IsReady m

is_ready : (m : ManagerState) → IsReady m
unfolding ready_manager
is_ready m = by_want (slice_get m.wants m.taken) refl where
  by_want : (o : Option WantPlan) → slice_get m.wants m.taken ≡ o → IsReady m
  by_want None is = as_it_is (ap (giving_next m) is)
  by_want (Some w) is =
      takes w (m.taken, slice_get_within m.wants m.taken w is, get_or_from_slice_get m.wants m.taken w w is)
      (ap (λ (o : Option WantPlan). (giving_next m o).agent) is ∙ giving_agent m w (want_reply m.agent))
      (ap (λ (o : Option WantPlan). (giving_next m o).wants) is ∙ giving_wants m w (want_reply m.agent))

after_agent : (m : ManagerState) (r : Reply) → (manager_after m r).agent ≡ after_reply m.agent r
unfolding manager_after
after_agent m r = refl

after_wants : (m : ManagerState) (r : Reply) → (manager_after m r).wants ≡ m.wants
unfolding manager_after
after_wants m r = refl

-- ---- what happened

-- something happened that these entries are, and the agent is so then
record Made (wants : List WantPlan) (n : NodeState) (a : AgentState) (es : History) (Ends : AgentState → Type 0) : Type 0 where
  acts : List Act
  entries : AreEntries wants es acts
  may : AreActs n a acts
  ends : Ends (agent_after a acts)

-- what these calls make of an agent that manages prefixes
record IsAgentAfter (m : ManagerState) (calls : History) (a : AgentState) : Type 0 where
  manager : ManagerState
  leads : after_calls (Manager m) calls ≡ Manager manager
  agent : manager.agent ≡ a

-- the rest of the entries, behind the node and the agent to which this one led
abbrev Behind : List WantPlan → NodeState → History → Type 0
Behind wants n es = (m : ManagerState) → m.wants ≡ wants → AreCallsOf (Manager m) (own_calls 1 es) → Made wants n m.agent es (IsAgentAfter m (own_calls 1 es))

module _ (wants : List WantPlan) (e : Entry) (es : History) (n after : NodeState) (step : IsStep n e after) (fed : is_starved e.reply ≡ false) (rest : Behind wants after es) where
  abbrev t : Taken
  t = record { own = e.caller == 1; now = e.now; input = e.input; choice = record { coming = step.coming; reply = e.reply; after = after } }

  abbrev calls_then : Bool → History
  calls_then b = cond b (e ∷ own_calls 1 es) (own_calls 1 es)

  entry : IsEntry e t
  entry = record { own = refl; now = refl; input = refl; reply = refl }

  is_taken : (a : AgentState) → ((e.caller == 1) ≡ true → e.input ≡ agent_input a) → IsTaken n a t
  is_taken a next = record { steps = step.step; fed = fed; called = next }

  -- what was taken by this agent, and the rest
  behind : (Ends : AgentState → Type 0) (a b : AgentState) → ((e.caller == 1) ≡ true → e.input ≡ agent_input a) → b ≡ agent_taking a t → Made wants after b es Ends → Made wants n a (e ∷ es) Ends
  behind Ends a b next same r = record {
    acts = took t ∷ r.acts;
    entries = (entry, r.entries);
    may = (is_taken a next, subst (λ (c : AgentState). AreActs after c r.acts) same r.may);
    ends = subst (λ (c : AgentState). Ends (agent_after c r.acts)) same r.ends;
  }

  -- a want before it
  wanting : (Ends : AgentState → Type 0) (a b : AgentState) (w : WantPlan) → Contains wants w → b ≡ agent_wanting a w.length w.longest w.peer → Made wants n b (e ∷ es) Ends → Made wants n a (e ∷ es) Ends
  wanting Ends a b w has same r = record {
    acts = wanted w.length w.longest w.peer ∷ r.acts;
    entries = (record { want = w; planned = has; length_is = refl; longest_is = refl; peer_is = refl }, r.entries);
    may = subst (λ (c : AgentState). AreActs n c r.acts) same r.may;
    ends = subst (λ (c : AgentState). Ends (agent_after c r.acts)) same r.ends;
  }

  -- another's call, or the loop's
  others : (m : ManagerState) → m.wants ≡ wants → (e.caller == 1) ≡ false → AreCallsOf (Manager m) (own_calls 1 es) → Made wants n m.agent (e ∷ es) (IsAgentAfter m (own_calls 1 es))
  others m same not calls =
      behind (IsAgentAfter m (own_calls 1 es)) m.agent m.agent (λ f. absurd (false≢true (sym not ∙ f))) (sym (ap (λ (b : Bool). cond b (after_reply m.agent e.reply) m.agent) not)) (rest m same calls)

  -- what the calls behind it make of the agent
  then_ends : (m : ManagerState) (a : AgentState) → IsAgentAfter (manager_after (ready_manager m) e.reply) (own_calls 1 es) a → IsAgentAfter m (e ∷ own_calls 1 es) a
  then_ends m a h = record { manager = h.manager; leads = h.leads; agent = h.agent }

  also : (P Q : AgentState → Type 0) (a : AgentState) → ((b : AgentState) → P b → Q b) → Made wants n a (e ∷ es) P → Made wants n a (e ∷ es) Q
  also P Q a f r = record { acts = r.acts; entries = r.entries; may = r.may; ends = f (agent_after a r.acts) r.ends }

  -- the agent's own call, once it is ready
  ready_call : (m : ManagerState) → m.wants ≡ wants → (e.caller == 1) ≡ true → e.input ≡ agent_input m.agent → AreCallsOf (Manager (manager_after m e.reply)) (own_calls 1 es)
      → Made wants n m.agent (e ∷ es) (IsAgentAfter (manager_after m e.reply) (own_calls 1 es))
  ready_call m same is next calls =
      behind (IsAgentAfter (manager_after m e.reply) (own_calls 1 es)) m.agent (manager_after m e.reply).agent (λ f. next)
      (after_agent m e.reply ∙ sym (ap (λ (b : Bool). cond b (after_reply m.agent e.reply) m.agent) is))
      (rest (manager_after m e.reply) (after_wants m e.reply ∙ same) calls)

  own : (m : ManagerState) → m.wants ≡ wants → (e.caller == 1) ≡ true → AreCallsOf (Manager m) (e ∷ own_calls 1 es) → Made wants n m.agent (e ∷ es) (IsAgentAfter m (e ∷ own_calls 1 es))
  own m same is calls = by_ready (is_ready m) where
    made_ready : (ready_manager m).wants ≡ wants → Made wants n (ready_manager m).agent (e ∷ es) (IsAgentAfter m (e ∷ own_calls 1 es))
    made_ready kept =
        also (IsAgentAfter (manager_after (ready_manager m) e.reply) (own_calls 1 es)) (IsAgentAfter m (e ∷ own_calls 1 es)) (ready_manager m).agent (then_ends m)
        (ready_call (ready_manager m) kept is calls.1 calls.2)

    by_ready : IsReady m → Made wants n m.agent (e ∷ es) (IsAgentAfter m (e ∷ own_calls 1 es))
    by_ready (as_it_is stays) =
        subst (λ (x : AgentState). Made wants n x (e ∷ es) (IsAgentAfter m (e ∷ own_calls 1 es))) (ap (λ (x : ManagerState). x.agent) stays) (made_ready (ap (λ (x : ManagerState). x.wants) stays ∙ same))
    by_ready (takes w has agent kept) =
        wanting (IsAgentAfter m (e ∷ own_calls 1 es)) m.agent (ready_manager m).agent w (subst (λ (ws : List WantPlan). Contains ws w) same has) agent (made_ready (kept ∙ same))

  more : (m : ManagerState) → m.wants ≡ wants → AreCallsOf (Manager m) (own_calls 1 (e ∷ es)) → Made wants n m.agent (e ∷ es) (IsAgentAfter m (own_calls 1 (e ∷ es)))
  more m same calls = subst (λ (b : Bool). Made wants n m.agent (e ∷ es) (IsAgentAfter m (calls_then b))) refl (by_caller (e.caller == 1) refl) where
    by_caller : (b : Bool) → (e.caller == 1) ≡ b → Made wants n m.agent (e ∷ es) (IsAgentAfter m (calls_then b))
    by_caller false is = others m same is (subst (λ (b : Bool). AreCallsOf (Manager m) (calls_then b)) is calls)
    by_caller true is = own m same is (subst (λ (b : Bool). AreCallsOf (Manager m) (calls_then b)) is calls)

made : (wants : List WantPlan) (es : History) (n to : NodeState) → IsLegalHistory n es to → HadMemory es → Behind wants n es
made wants [] n to legal fed m same calls = record { acts = []; entries = tt; may = tt; ends = record { manager = m; leads = refl; agent = refl } }
made wants (e ∷ es) n to legal fed m same calls = more wants e es n legal.0 legal.1 fed.0 (λ k kept own. made wants es legal.0 to legal.2 fed.1 k kept own) m same calls

-- ---- the first entries of a run

first_legal : (front rest : History) (n to : NodeState) → IsLegalHistory n (front ++ rest) to → (mid : NodeState) × IsLegalHistory n front mid
first_legal [] rest n to legal = (n, refl)
first_legal (e ∷ es) rest n to legal = let f = first_legal es rest legal.0 to legal.2 in (f.0, (legal.0, legal.1, f.1))

first_calls : (w : Worker) (front rest : History) → AreCallsOf w (front ++ rest) → AreCallsOf w front
first_calls w [] rest calls = tt
first_calls w (e ∷ es) rest calls = (calls.0, calls.1, first_calls (after_turn w e.reply) es rest calls.2)

pub runs_have_acts : RunsHaveActs
runs_have_acts plan old new workers ran front rest whole fed =
    from
    (made plan.wants front ran.opened (first_legal front rest ran.opened ran.to legal).0 (first_legal front rest ran.opened ran.to legal).1 fed
    (opened_manager (pool_of plan.roots) plan.wants) refl calls) where
      legal : IsLegalHistory ran.opened (front ++ rest) ran.to
      legal = subst (λ (h : History). IsLegalHistory ran.opened h ran.to) whole ran.legal

      own : AreCallsOf (Manager (opened_manager (pool_of plan.roots) plan.wants)) (own_calls 1 ran.history)
      own = (ran.agents 0 (Manager (opened_manager (pool_of plan.roots) plan.wants)) refl).0

      calls : AreCallsOf (Manager (opened_manager (pool_of plan.roots) plan.wants)) (own_calls 1 front)
      calls =
          first_calls (Manager (opened_manager (pool_of plan.roots) plan.wants)) (own_calls 1 front) (own_calls 1 rest)
          (subst (λ (h : History). AreCallsOf (Manager (opened_manager (pool_of plan.roots) plan.wants)) h) (ap (own_calls 1) whole ∙ filter-append (λ (e : Entry). e.caller == 1) front rest) own)

      from : Made plan.wants ran.opened (opened_agent (pool_of plan.roots)) front (IsAgentAfter (opened_manager (pool_of plan.roots) plan.wants) (own_calls 1 front)) → HasActs plan ran.opened ran.history front
      from r = record {
        acts = r.acts;
        begins = record { front = front; rest = rest; whole = whole; entries = r.entries; may = r.may };
        first = refl;
        manager = r.ends.manager;
        leads = r.ends.leads;
        agent = r.ends.agent;
      }

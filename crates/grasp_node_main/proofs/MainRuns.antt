-- What the program did, from what its parts did.
use Rattle.std.proofs.Common.{◌≡◌, ◌<◌, ◌-◌, ◌⊎◌, inl, inr, refl, ap, sym, subst, arith, ℕ, zero, suc, List, [], ◌∷◌, length, drop, Option, Some, None, IfSome, IsTrue}
use Rattle.std.specs.Io.KnownBytes.{Appends}
use Rattle.grasp_io.specs.Known.{AppendsFront, IsEndOf}
use Rattle.grasp_io.specs.Told.{Grows}
use Rattle.grasp_io.specs.declared.links.LinkPlan.{LinkPlan}
use Rattle.grasp_config.specs.Config.{HasConfig, IsBadText}
use Rattle.grasp_config.specs.Laws.{ConfigsAreInRange, IsInRange}
use Rattle.grasp_config.specs.declared.config.NodeConfig.{NodeConfig}
use Rattle.grasp_config.specs.declared.fault.ConfigKey.{ConfigKey}
use Rattle.grasp_node_main.specs.Lines.{crew_text}
use Rattle.grasp_node_main.specs.Plans.{IsPlanOf, link_plan_of}
use Rattle.grasp_node_main.specs.Program.{NothingPassed, OpensLinks, OpensInput, RunsPlan, RunsConfig, RunsInput, BeginsPlan, BeginsConfig, BeginsInput, NoTurn, TurnsOfConfig, NoneOrAllTurns, IsInput, SomeInput, IsSmall, IsLarge, IsBadWithin, IsConfiguredWithin, config_limit}
use Rattle.grasp_node_main.specs.Runs.{Ran, workers_of}
use Rattle.grasp_node_main.specs.Tells.{LinksTold, Told, told}
use Rattle.grasp_node_main.specs.declared.plan.DaemonPlan.{DaemonPlan}
use Rattle.grasp_node_main.specs.declared.seated_agent.SeatedAgent.{SeatedAgent}
use Rattle.grasp_node_main.specs.declared.worker.Worker.{Worker}

pub runs_plan : (plan : DaemonPlan) (old new : Told) (before after : Option (List ℕ)) (seats : List SeatedAgent) → Ran plan old new (Some (workers_of seats)) → Appends before after (crew_text (workers_of seats)) → RunsPlan plan old new before after
runs_plan plan old new before after seats ran written = record { workers = workers_of seats; ran = ran; written = written }

-- the links were opened with the plan of the configuration
pub opens_links : (config : NodeConfig) (plan : LinkPlan) (old new : LinksTold) → plan ≡ link_plan_of config → IsTrue new.is_open → Grows old.plans new.plans plan → NothingPassed old new → OpensLinks config old new
opens_links config plan old new planned is_open grows passed = record {
  is_open = is_open;
  plans = subst (λ (p : LinkPlan). Grows old.plans new.plans p) planned grows;
  passed = passed;
}

pub runs_config : (config : NodeConfig) (seed : List ℕ) (old new : Told) (before after : Option (List ℕ)) (plan : DaemonPlan) (opened : LinksTold)
    → IsPlanOf config seed plan → OpensLinks config old.links opened → RunsPlan plan (told old.readings opened) new before after → RunsConfig config seed old new before after
runs_config config seed old new before after plan opened planned opens runs = record { plan = plan; planned = planned; opened = opened; opens = opens; runs = runs }

pub runs_input : (left : Option (List ℕ)) (seed : List ℕ) (old new : Told) (before after : Option (List ℕ)) (input : List ℕ) (config : NodeConfig)
    → IsInput left input → IsSmall input → HasConfig input config → RunsConfig config seed old new before after → RunsInput left seed old new before after
runs_input left seed old new before after input config is small has runs = record { input = input; told = is; small = small; config = config; has = has; runs = runs }

-- a text's configuration is within its limits
pub in_range : (text : List ℕ) (config : NodeConfig) → ConfigsAreInRange → HasConfig text config → IsInRange config
in_range text config law has = law has.table config has.is

-- what is so of the bytes that were read is so of the input
pub so_of_input : (left : Option (List ℕ)) (bytes : List ℕ) (P : List ℕ → Type 0) → IsInput left bytes → P bytes → IfSome left (λ input. P input)
so_of_input None bytes P is so = tt
so_of_input (Some all) bytes P is so = subst P is so

pub configured : (left : Option (List ℕ)) (bytes : List ℕ) (config : NodeConfig) → IsInput left bytes → IsSmall bytes → HasConfig bytes config → SomeInput left IsConfiguredWithin
configured left bytes config is small has = record { input = bytes; told = is; holds = record { small = small; is = record { config = config; has = has } } }

pub bad_input : (left : Option (List ℕ)) (bytes : List ℕ) (key : ConfigKey) → IsInput left bytes → IsSmall bytes → IsBadText bytes key → SomeInput left (IsBadWithin key)
bad_input left bytes key is small bad = record { input = bytes; told = is; holds = record { small = small; bad = bad } }

pub small_input : (left : Option (List ℕ)) (bytes : List ℕ) → IsInput left bytes → IsSmall bytes → SomeInput left IsSmall
small_input left bytes is small = record { input = bytes; told = is; holds = small }

-- there is an input with more bytes than so many
some_longer : (n : ℕ) → SomeInput None (λ i. n < length i)
some_longer zero = record { input = 0 ∷ []; told = tt; holds = omega arith }
some_longer (suc n) = let shorter = some_longer n in record { input = 0 ∷ shorter.input; told = tt; holds = omega (arith, shorter.holds) }

-- what was left is too large where it is told and has too many bytes
pub read_too_far : (left : Option (List ℕ)) → IfSome left (λ all. config_limit < length all) → SomeInput left IsLarge
read_too_far None more = let longer = some_longer config_limit in record { input = longer.input; told = tt; holds = longer.holds }
read_too_far (Some all) more = record { input = all; told = refl; holds = more }

-- what was left is an end of itself
pub end_same : (left : Option (List ℕ)) → IsEndOf left left
end_same None = tt
end_same (Some all) = let none : length all - length all ≡ 0 = omega arith in sym (ap (λ n. drop n all) none)

-- ---- a fault of writing

pub begins_plan : (plan : DaemonPlan) (old new : Told) (before after : Option (List ℕ)) (seats : List SeatedAgent) → Ran plan old new (Some (workers_of seats)) → AppendsFront before after (crew_text (workers_of seats)) → BeginsPlan plan old new before after
begins_plan plan old new before after seats ran begun = record { workers = workers_of seats; ran = ran; begun = begun }

pub begins_config : (config : NodeConfig) (seed : List ℕ) (old new : Told) (before after : Option (List ℕ)) (plan : DaemonPlan) (opened : LinksTold)
    → IsPlanOf config seed plan → OpensLinks config old.links opened → BeginsPlan plan (told old.readings opened) new before after → BeginsConfig config seed old new before after
begins_config config seed old new before after plan opened planned opens begins = record { plan = plan; planned = planned; opened = opened; opens = opens; begins = begins }

pub begins_input : (left : Option (List ℕ)) (seed : List ℕ) (old new : Told) (before after : Option (List ℕ)) (input : List ℕ) (config : NodeConfig)
    → IsInput left input → IsSmall input → HasConfig input config → BeginsConfig config seed old new before after → BeginsInput left seed old new before after
begins_input left seed old new before after input config is small has begins = record { input = input; told = is; small = small; config = config; has = has; begins = begins }

-- ---- want of memory

-- whatever is told of the agents
ran_anyhow : (plan : DaemonPlan) (old new : Told) (workers : Option (List Worker)) → Ran plan old new workers → Ran plan old new None
ran_anyhow plan old new workers r = record {
  opened = r.opened;
  opening = r.opening;
  history = r.history;
  to = r.to;
  turns = r.turns;
  last = r.last;
  legal = r.legal;
  callers = r.callers;
  count = r.count;
  loop = r.loop;
  tells = r.tells;
  rising = r.rising;
  agents = r.agents;
  ends = tt;
}

-- the lines had no room
pub stops_at_lines : (untouched : Type 0) (plan : DaemonPlan) (old new : Told) (workers : List Worker) → Ran plan old new (Some workers) → untouched ⊎ Ran plan old new None
stops_at_lines untouched plan old new workers r = inr (ran_anyhow plan old new (Some workers) r)

-- the plans had no room
pub stops_at_plans : (untouched unread : Type 0) (config : NodeConfig) (seed : List ℕ) (readings later : Option (List ℕ)) (x y : LinksTold) → untouched → unread
    → NoTurn untouched unread config x y ⊎ TurnsOfConfig config seed (told readings x) (told later y)
stops_at_plans untouched unread config seed readings later x y links clock = inl (clock, inl links)

-- once the links were opened
pub stops_at_turns : (L : Type 0) (tell : L → LinksTold) (unread : Type 0) (config : NodeConfig) (seed : List ℕ) (readings later : Option (List ℕ)) (a b c : L) (plan : DaemonPlan)
    → IsPlanOf config seed plan → OpensLinks config (tell a) (tell b) → ((c ≡ b) × unread) ⊎ Ran plan (told readings (tell b)) (told later (tell c)) None
    → NoTurn (c ≡ a) unread config (tell a) (tell c) ⊎ TurnsOfConfig config seed (told readings (tell a)) (told later (tell c))
stops_at_turns L tell unread config seed readings later a b c plan planned opens (inl e) = inl (e.1, inr (subst (λ l. OpensLinks config (tell a) (tell l)) (sym e.0) opens))
stops_at_turns L tell unread config seed readings later a b c plan planned opens (inr ran) = inr (record { plan = plan; planned = planned; opened = tell b; opens = opens; ran = ran })

-- the input or its configuration had no room
pub stops_at_input : (untouched unread : Type 0) (left : Option (List ℕ)) (seed : List ℕ) (old new : Told) → untouched → unread → NoneOrAllTurns untouched unread left seed old new
stops_at_input untouched unread left seed old new links clock = inl (clock, inl links)

-- once a configuration was read
pub stops_at_config : (untouched unread : Type 0) (left : Option (List ℕ)) (seed : List ℕ) (readings later : Option (List ℕ)) (x y : LinksTold) (input : List ℕ) (config : NodeConfig)
    → IsInput left input → IsSmall input → HasConfig input config → NoTurn untouched unread config x y ⊎ TurnsOfConfig config seed (told readings x) (told later y)
    → NoneOrAllTurns untouched unread left seed (told readings x) (told later y)
stops_at_config untouched unread left seed readings later x y input config is small has (inl stops) = inl (stops.0, opens stops.1) where
  opens : untouched ⊎ OpensLinks config x y → untouched ⊎ OpensInput left x y
  opens (inl links) = inl links
  opens (inr were) = inr (record { input = input; told = is; small = small; config = config; has = has; opens = were })
stops_at_config untouched unread left seed readings later x y input config is small has (inr turns) = inr (record { input = input; told = is; small = small; config = config; has = has; turns = turns })

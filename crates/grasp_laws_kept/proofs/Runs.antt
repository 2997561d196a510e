-- Runs of a network whose nodes crash.
use Rattle.std.proofs.Common.{◌≡◌, ℕ, ◌+◌, ◌-◌, ◌*◌, ◌<◌, ◌≤◌, ◌^◌, ◌++◌, ◌∷◌, List, [], length, refl, sym, ◌∙◌, ap, subst, arith}
use Rattle.std.specs.Prelude.{All, slice_index_or}
use Rattle.std.proofs.lemmas.List.Elements.{All-append, All-cons, All-nil}
use Rattle.grasp_model_network.specs.GoodSetting.{IsGoodSetting}
use Rattle.grasp_model_network.specs.Runs.{IsReached}
use Rattle.grasp_model_network.specs.Setting.{Setting}
use Rattle.grasp_model_network.specs.Turns.{AreTurns, TakenTurn, after_turn, world_turned}
use Rattle.grasp_model_network.specs.Visits.{Choice}
use Rattle.grasp_model_network.specs.World.{WorldState}
use Rattle.grasp_model_kept.specs.Crashing.{is_cut, world_crashed}
use Rattle.grasp_model_kept.specs.Runs.{IsKeptRun, KeptHappening, KeptOccurs, kept_after, kept_event, kept_networks, kept_states, network_within, turns_of, turns_of_event}
use Rattle.grasp_model_kept.specs.Disks.{roots_of}
use Rattle.grasp_model_kept.specs.World.{KeptState, disk_of, first_kept}
use Rattle.grasp_model_script.specs.Laws.{EachNetworkIsSafe}
use Rattle.grasp_model_kept.specs.declared.event.KeptEvent.{KeptEvent}
use Rattle.grasp_model_kept.specs.declared.event.KeptEvent.TheVariants as kept
use Rattle.grasp_laws_kept.specs.Disks.{DiskStands}
use Rattle.grasp_laws_kept.specs.Laws.{IsTurned, KeptNetworksAreSafe, KeptRunsAreTurns, KeptStands, KeptStatesStand}
use Rattle.grasp_laws_kept.proofs.Crashes.{Crashed, crashed}
use Rattle.grasp_laws_kept.proofs.First.{first_stands}
use Rattle.grasp_laws_kept.proofs.Steps.{plain_stands}

-- ---- turns behind turns

join_turns : (s : Setting) (w : WorldState) (ts us : List TakenTurn) → AreTurns s w ts → AreTurns s (world_turned s w ts) us → AreTurns s w (ts ++ us)
unfolding AreTurns world_turned
join_turns s w [] us first second = second
join_turns s w (t ∷ ts) us first second = (first.0, join_turns s (after_turn s w t.turn t.choice) ts us first.1 second)

join_worlds : (s : Setting) (w : WorldState) (ts us : List TakenTurn) → world_turned s w (ts ++ us) ≡ world_turned s (world_turned s w ts) us
unfolding world_turned
join_worlds s w [] us = refl
join_worlds s w (t ∷ ts) us = join_worlds s (after_turn s w t.turn t.choice) ts us

-- ---- one event

pub record Steps (s : Setting) (k : KeptState) (e : KeptEvent) (c : Choice) (most : ℕ) : Type 0 where
  pub turns : AreTurns s k.world (turns_of_event s k e c)
  pub last : (kept_event s k e c).world ≡ world_turned s k.world (turns_of_event s k e c)
  pub within : All (IsReached s) (network_within s k e c)
  pub then_stands : KeptStands s (most + 2) (kept_event s k e c)

pub steps : (s : Setting) (k : KeptState) (most : ℕ) → KeptStands s most k → most + 2 < 2 ^ 64 - 1 → (e : KeptEvent) (c : Choice) → KeptOccurs s k e c → Steps s k e c most
unfolding kept_event AreTurns world_turned
steps s k most stands below (kept.Plain e) c o = record { turns = (o, tt); last = refl; within = All-nil (IsReached s); then_stands = plain_stands s k most stands below e c o }
steps s k most stands below (kept.Crash node calls left) c o =
    let done : Crashed s k most stands below node o.0 calls left c (is_cut k node calls) = crashed s k most stands below node o.0 calls left c (is_cut k node calls) o.1
    in record { turns = done.turns; last = done.last; within = All-cons (IsReached s) (world_crashed s k node calls c) [] done.reached (All-nil (IsReached s)); then_stands = done.then_stands }

-- ---- all of them

record IsAllTurned (s : Setting) (k : KeptState) (hs : List KeptHappening) (most : ℕ) : Type 0 where
  turned : IsTurned s k hs
  states : All (KeptStands s most) (kept_states s k hs)
  networks : All (IsReached s) (kept_networks s k hs)

-- a state stands with a greater number
pub stands_more : (s : Setting) (k : KeptState) (most more : ℕ) → most ≤ more → KeptStands s most k → KeptStands s more k
stands_more s k most more le stands = record {
  reached = stands.reached;
  disks = record {
    count = stands.disks.count;
    each = λ node seat is here. let d : DiskStands (roots_of s node) (disk_of k.disks node) seat.agent.pool most = stands.disks.each node seat is here in record { holds = d.holds; number = omega (arith, d.number, le) };
  };
}

-- where the number may yet rise by two for each event
all_turned : (s : Setting) (hs : List KeptHappening) (k : KeptState) (now most : ℕ) → KeptStands s now k → now + 2 * length hs ≤ most → most < 2 ^ 64 - 1 → IsKeptRun s k hs → IsAllTurned s k hs most
unfolding IsKeptRun kept_after kept_states kept_networks turns_of AreTurns world_turned
all_turned s [] k now most stands room below run = record { turned = record { turns = tt; last = refl }; states = All-cons (KeptStands s most) k [] (stands_more s k now most (omega (arith, room)) stands) (All-nil (KeptStands s most)); networks = All-cons (IsReached s) k.world [] stands.reached (All-nil (IsReached s)) }
all_turned s (h ∷ hs) k now most stands room below run =
    let step : Steps s k h.event h.choice now = steps s k now stands (omega (arith, room, below)) h.event h.choice run.0
    in let rest : IsAllTurned s (kept_event s k h.event h.choice) hs most =
    all_turned s hs (kept_event s k h.event h.choice) (now + 2) most step.then_stands (omega (arith, room)) below run.1
    in record {
      turned = record {
        turns = join_turns s k.world (turns_of_event s k h.event h.choice) (turns_of s (kept_event s k h.event h.choice) hs) step.turns
            (subst (λ (x : WorldState). AreTurns s x (turns_of s (kept_event s k h.event h.choice) hs)) step.last rest.turned.turns);
        last = rest.turned.last
            ∙ ap (λ (x : WorldState). world_turned s x (turns_of s (kept_event s k h.event h.choice) hs)) step.last
            ∙ sym (join_worlds s k.world (turns_of_event s k h.event h.choice) (turns_of s (kept_event s k h.event h.choice) hs));
      };
      states = All-cons (KeptStands s most) k (kept_states s (kept_event s k h.event h.choice) hs) (stands_more s k now most (omega (arith, room)) stands) rest.states;
      networks = All-cons (IsReached s) k.world (network_within s k h.event h.choice ++ kept_networks s (kept_event s k h.event h.choice) hs) stands.reached
          (All-append (IsReached s) (network_within s k h.event h.choice) (kept_networks s (kept_event s k h.event h.choice) hs) step.within rest.networks);
    }

-- ---- from the first state

abbrev FirstTurned : Setting → List KeptHappening → Type 0
FirstTurned s hs = IsAllTurned s (first_kept s) hs (2 ^ 33)

first_turned : (s : Setting) (hs : List KeptHappening) → IsGoodSetting s → length hs < 2 ^ 32 → IsKeptRun s (first_kept s) hs → FirstTurned s hs
first_turned s hs good few run = all_turned s hs (first_kept s) 0 (2 ^ 33) (first_stands s good) (omega (arith, few)) (omega arith) run

pub kept_runs_are_turns : KeptRunsAreTurns
kept_runs_are_turns s hs good few run = (first_turned s hs good few run).turned

pub kept_states_stand : KeptStatesStand
kept_states_stand s hs good few run = (first_turned s hs good few run).states

-- where each network that turns lead to is safe
pub kept_networks_are_safe : EachNetworkIsSafe → KeptNetworksAreSafe
kept_networks_are_safe safe s hs good few run i d below = safe s (slice_index_or (kept_networks s (first_kept s) hs) i d) ((first_turned s hs good few run).networks i d below)

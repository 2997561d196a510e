-- Each state and each network on the way of a run is among those of the run.
use Rattle.std.proofs.Common.{◌≡◌, refl, sym, subst, ℕ, List, [], ◌∷◌, ◌++◌, Contains}
use Rattle.std.proofs.lemmas.List.Elements.{Contains-append_left, Contains-append_right, Contains-push}
use Rattle.grasp_disk.specs.declared.left.Left.{Left}
use Rattle.grasp_laws_kept.specs.Listed.{KeptNetworksAreListed}
use Rattle.grasp_model_kept.specs.Crashing.{world_crashed}
use Rattle.grasp_model_kept.specs.Runs.{KeptHappening, kept_after, kept_event, kept_networks, kept_states, network_within}
use Rattle.grasp_model_kept.specs.World.{KeptState}
use Rattle.grasp_model_kept.specs.declared.event.KeptEvent.{KeptEvent}
use Rattle.grasp_model_kept.specs.declared.event.KeptEvent.TheVariants.{Crash}
use Rattle.grasp_model_network.specs.Setting.{Setting}
use Rattle.grasp_model_network.specs.World.{WorldState}

-- the first of a list is among it, and what is behind its first part is
at_first : {A : Type 0} (x : A) (xs : List A) → Contains (x ∷ xs) x
at_first x xs = Contains-append_left (x ∷ []) xs x (Contains-push [] x)

behind_first : {A : Type 0} (x y : A) (xs : List A) → Contains xs y → Contains (x ∷ xs) y
behind_first x y xs h = Contains-append_right (x ∷ []) xs y h

none_behind : (s : Setting) (k : KeptState) → kept_after s k [] ≡ k
unfolding kept_after
none_behind s k = refl

one_more : (s : Setting) (hs : List KeptHappening) (h : KeptHappening) (k : KeptState) → kept_after s k (hs ++ h ∷ []) ≡ kept_event s (kept_after s k hs) h.event h.choice
unfolding kept_after
one_more s [] h k = refl
one_more s (g ∷ hs) h k = one_more s hs h (kept_event s k g.event g.choice)

first_state : (s : Setting) (k : KeptState) (hs : List KeptHappening) → Contains (kept_states s k hs) k
unfolding kept_states
first_state s k [] = Contains-push [] k
first_state s k (h ∷ hs) = at_first k (kept_states s (kept_event s k h.event h.choice) hs)

each_state : (s : Setting) (hs gs : List KeptHappening) (k : KeptState) → Contains (kept_states s k (hs ++ gs)) (kept_after s k hs)
unfolding kept_states kept_after
each_state s [] gs k = first_state s k gs
each_state s (h ∷ hs) gs k =
    let next : KeptState = kept_event s k h.event h.choice in
    behind_first k (kept_after s next hs) (kept_states s next (hs ++ gs)) (each_state s hs gs next)

first_network : (s : Setting) (k : KeptState) (hs : List KeptHappening) → Contains (kept_networks s k hs) k.world
unfolding kept_networks
first_network s k [] = Contains-push [] k.world
first_network s k (h ∷ hs) = at_first k.world (network_within s k h.event h.choice ++ kept_networks s (kept_event s k h.event h.choice) hs)

-- what is among the networks of the rest of a run is among those of the run
later : (s : Setting) (k : KeptState) (h : KeptHappening) (hs : List KeptHappening) (w : WorldState)
    → Contains (kept_networks s (kept_event s k h.event h.choice) hs) w → Contains (kept_networks s k (h ∷ hs)) w
unfolding kept_networks
later s k h hs w at =
    behind_first k.world w (network_within s k h.event h.choice ++ kept_networks s (kept_event s k h.event h.choice) hs)
    (Contains-append_right (network_within s k h.event h.choice) (kept_networks s (kept_event s k h.event h.choice) hs) w at)

each_network : (s : Setting) (hs gs : List KeptHappening) (k : KeptState) → Contains (kept_networks s k (hs ++ gs)) (kept_after s k hs).world
unfolding kept_after
each_network s [] gs k = first_network s k gs
each_network s (h ∷ hs) gs k =
    let next : KeptState = kept_event s k h.event h.choice in
    later s k h (hs ++ gs) (kept_after s next hs).world (each_network s hs gs next)

-- a crash, which comes first
first_crash : (s : Setting) (k : KeptState) (gs : List KeptHappening) (h : KeptHappening) (node calls : ℕ) (left : Left)
    → h.event ≡ Crash node calls left → Contains (kept_networks s k (h ∷ gs)) (world_crashed s k node calls h.choice)
unfolding kept_networks
first_crash s k gs h node calls left is =
    let w : WorldState = world_crashed s k node calls h.choice in
    behind_first k.world w (network_within s k h.event h.choice ++ kept_networks s (kept_event s k h.event h.choice) gs)
    (Contains-append_left (network_within s k h.event h.choice) (kept_networks s (kept_event s k h.event h.choice) gs) w
    (subst (λ (e : KeptEvent). Contains (network_within s k e h.choice) w) (sym is) (Contains-push [] w)))

each_crash : (s : Setting) (hs gs : List KeptHappening) (h : KeptHappening) (node calls : ℕ) (left : Left) (k : KeptState)
    → h.event ≡ Crash node calls left → Contains (kept_networks s k (hs ++ h ∷ gs)) (world_crashed s (kept_after s k hs) node calls h.choice)
unfolding kept_after
each_crash s [] gs h node calls left k is = first_crash s k gs h node calls left is
each_crash s (g ∷ hs) gs h node calls left k is =
    let next : KeptState = kept_event s k g.event g.choice in
    later s k g (hs ++ h ∷ gs) (world_crashed s (kept_after s next hs) node calls h.choice) (each_crash s hs gs h node calls left next is)

pub kept_networks_are_listed : KeptNetworksAreListed
kept_networks_are_listed = record {
  none = none_behind;
  more = λ s k hs h. one_more s hs h k;
  states = λ s k hs gs. each_state s hs gs k;
  networks = λ s k hs gs. each_network s hs gs k;
  crashes = λ s k hs gs h node calls left is. each_crash s hs gs h node calls left k is;
}

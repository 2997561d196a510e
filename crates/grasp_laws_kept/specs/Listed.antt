-- What the networks of a run are, and what its states are: all those on its way, and those at each crash.
use Rattle.std.specs.Prelude.{◌≡◌, ◌++◌, ℕ, Contains, List, [], ◌∷◌}
use Rattle.grasp_disk.specs.declared.left.Left.{Left}
use Rattle.grasp_model_kept.specs.Crashing.{world_crashed}
use Rattle.grasp_model_kept.specs.Runs.{KeptHappening, kept_after, kept_event, kept_networks, kept_states}
use Rattle.grasp_model_kept.specs.World.{KeptState}
use Rattle.grasp_model_kept.specs.declared.event.KeptEvent.TheVariants.{Crash}
use Rattle.grasp_model_network.specs.Setting.{Setting}

pub record KeptNetworksAreListed : Type 0 where
  -- no event leads nowhere, and each event leads on from where those before it led
  pub none : (s : Setting) (k : KeptState) → kept_after s k [] ≡ k
  pub more : (s : Setting) (k : KeptState) (hs : List KeptHappening) (h : KeptHappening)
      → kept_after s k (hs ++ h ∷ []) ≡ kept_event s (kept_after s k hs) h.event h.choice
  -- where any first events lead is among the states, and its network is among the networks
  pub states : (s : Setting) (k : KeptState) (hs gs : List KeptHappening) → Contains (kept_states s k (hs ++ gs)) (kept_after s k hs)
  pub networks : (s : Setting) (k : KeptState) (hs gs : List KeptHappening) → Contains (kept_networks s k (hs ++ gs)) (kept_after s k hs).world
  -- and so is the network at a crash, before the node begins anew
  pub crashes : (s : Setting) (k : KeptState) (hs gs : List KeptHappening) (h : KeptHappening) (node calls : ℕ) (left : Left)
      → h.event ≡ Crash node calls left → Contains (kept_networks s k (hs ++ h ∷ gs)) (world_crashed s (kept_after s k hs) node calls h.choice)

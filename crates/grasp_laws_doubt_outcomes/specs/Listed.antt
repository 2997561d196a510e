-- What the networks of a run of doubters are, and what is said of its settlings: all that is on its way.
use Rattle.std.specs.Prelude.{◌≡◌, ◌++◌, ℕ, Contains, List, [], ◌∷◌, Some}
use Rattle.grasp_doubter.specs.States.{DoubterState}
use Rattle.grasp_model_doubts.specs.Events.{doubt_event}
use Rattle.grasp_model_doubts.specs.Runs.{DoubtTurn, doubt_networks, doubted}
use Rattle.grasp_model_doubts.specs.Steps.{after_doubter_call, taken_at}
use Rattle.grasp_model_doubts.specs.World.{DoubtState}
use Rattle.grasp_model_doubts.specs.declared.event.DoubtEvent.TheVariants.{Doubter}
use Rattle.grasp_model_network.specs.Setting.{Setting, numbered}
use Rattle.grasp_model_network.specs.Settling.{IsDead}
use Rattle.grasp_model_script_doubts.specs.LineRuns.{DoubtLineRun}
use Rattle.grasp_model_script_doubts.specs.ScriptRuns.{doubt_turns, state_after}
use Rattle.grasp_model_script_doubts.specs.Settlings.{AllSettleDead}
use Rattle.grasp_types.specs.Prefix.{AddressBlock as Prefix}

pub record DoubtNetworksAreListed : Type 0 where
  -- no event leads nowhere, and each event leads on from where those before it led
  pub none : (s : Setting) (x : DoubtState) → doubted s x [] ≡ x
  pub more : (s : Setting) (x : DoubtState) (ts : List DoubtTurn) (t : DoubtTurn) → doubted s x (ts ++ t ∷ []) ≡ doubt_event s (doubted s x ts) t.event t.choice
  -- lines lead to where their events lead
  pub lines : (s : Setting) (x : DoubtState) (ls : List DoubtLineRun) → state_after s x ls ≡ doubted s x (doubt_turns s x ls)
  -- the network to which any first events lead is among the networks
  pub networks : (s : Setting) (x : DoubtState) (ts us : List DoubtTurn) → Contains (doubt_networks s x (ts ++ us)) (doubted s x ts).world
  -- and so is that after a doubter's call, before a prefix is settled
  pub calls : (s : Setting) (x : DoubtState) (ts us : List DoubtTurn) (t : DoubtTurn) (node : ℕ) (d : DoubterState) → t.event ≡ Doubter node
      → numbered (doubted s x ts).doubters node ≡ Some d
      → Contains (doubt_networks s x (ts ++ t ∷ us)) (after_doubter_call s (doubted s x ts).world node d t.choice)
  -- where all settlings are of dead prefixes, each prefix that a doubter's call settles is dead when the call is over
  pub settlings : (s : Setting) (x : DoubtState) (ts us : List DoubtTurn) (t : DoubtTurn) (node : ℕ) (d : DoubterState) (p : Prefix)
      → AllSettleDead s x (ts ++ t ∷ us) → t.event ≡ Doubter node → numbered (doubted s x ts).doubters node ≡ Some d
      → (taken_at s (doubted s x ts).world node d t.choice).settled ≡ Some p
      → IsDead (after_doubter_call s (doubted s x ts).world node d t.choice) node p

-- What a doubter remembers of what the agent of prefixes at its node has accepted.
use Rattle.std.specs.Prelude.{◌≡◌, ◌⊎◌, true, List, Contains, Some}
use Rattle.grasp_agent.specs.Values.{offered_in}
use Rattle.grasp_doubter.specs.States.{DoubterState}
use Rattle.grasp_session.specs.Sessions.{SessionState, Sessions}
use Rattle.grasp_session.specs.Transcript.{outcome_of}
use Rattle.grasp_types.specs.Prefix.{AddressBlock as Prefix}
use Rattle.grasp_types.specs.declared.objective.Objective.{Objective}
use Rattle.grasp_types.specs.declared.session.By.TheVariants.{Mine}
use Rattle.grasp_types.specs.declared.session.Outcome.TheVariants as outcome
use Rattle.grasp_model_network.specs.World.{WorldState}
use Rattle.grasp_laws_doubts.specs.Standing.{OfEachDoubter}

-- the doubter knows that this prefix was accepted, or knows that it has lost count
abbrev pub Remembers : DoubterState → Prefix → Type 0
Remembers d p = Contains d.accepted p ⊎ (d.lost ≡ true)

-- it remembers each prefix that was accepted in a session of the agent of prefixes that is no longer live
abbrev pub RemembersAll : Sessions → DoubterState → Type 0
RemembersAll z d =
    (y : SessionState) (o : Objective) (p : Prefix) → Contains z.gone y → y.owner ≡ 1 → outcome_of y.view ≡ Some (outcome.Agreed Mine o) → offered_in o.value ≡ Some p → Remembers d p

-- so it is with each doubter
abbrev pub AcceptedStand : WorldState → List DoubterState → Type 0
AcceptedStand w ds = OfEachDoubter (λ node seat d. RemembersAll seat.core.sessions d) w ds

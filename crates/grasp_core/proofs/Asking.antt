-- The tests of calls that make the tests of another call first.
use Rattle.std.proofs.Common.{◌≡◌, ℕ, Bool, true, false, cond, not, ◌&&◌, List, Some, Result, Ok, Err, refl, sym, ◌∙◌}
use Rattle.grasp_types.specs.Objective.{has_dry}
use Rattle.grasp_types.specs.declared.address.Address.{Address}
use Rattle.grasp_types.specs.declared.address.Locator.{Locator}
use Rattle.grasp_types.specs.declared.refusal.ApiRefused.{ApiRefused}
use Rattle.grasp_types.specs.declared.refusal.ApiRefused.TheVariants as api
use Rattle.grasp_model_node.specs.Node.{NodeState}
use Rattle.grasp_core.specs.Outgoing.{dial_tests}
use Rattle.grasp_model_node.specs.Refusals.{early}
use Rattle.grasp_model_node.specs.Tests.{agent_tests, expire_flood_tests, no_flood, no_asa, not_yours, not_negotiable, not_synchronizable, not_dry, owned_flags, negotiation_tests, synchronization_tests, request_tests, synchronize_tests}

abbrev Gate : Type 0
Gate = Result (Unit {0}) ApiRefused

abbrev pass : Gate
pass = Ok tt

abbrev fail : ApiRefused → Gate
fail r = Err r

-- three tests, and what comes after them
abbrev three : Bool → Bool → Bool → ApiRefused → ApiRefused → ApiRefused → Gate → Gate
three a b c x y z rest = cond a (fail x) (cond b (fail y) (cond c (fail z) rest))

three_refused : (a b c : Bool) (x y z r : ApiRefused) (rest : Gate) → fail r ≡ three a b c x y z pass → fail r ≡ three a b c x y z rest
three_refused false false false x y z r rest e = absurd (cc)
three_refused _ _ _ x y z r rest e = e

three_passed : (a b c : Bool) (x y z : ApiRefused) (rest : Gate) → pass ≡ three a b c x y z pass → three a b c x y z rest ≡ rest
three_passed false false false x y z rest e = refl
three_passed _ _ _ x y z rest e = absurd (cc)

one_passed : (a : Bool) (x : ApiRefused) (rest : Gate) → pass ≡ cond a (fail x) pass → cond a (fail x) rest ≡ rest
one_passed true x rest e = absurd (cc)
one_passed false x rest e = refl

-- ---- requests

-- what refuses the use of an objective refuses its request
pub request_refused : (n : NodeState) (asa : ℕ) (name : List ℕ) (dry : Bool) (peer : Locator) (r : ApiRefused) → fail r ≡ early (negotiation_tests n asa name) → fail r ≡ early (request_tests n asa name dry peer)
request_refused n asa name dry peer r e =
    three_refused (no_asa n asa) (not_yours n asa name) (not_negotiable n asa name) api.NoAsa api.NotYourObjective api.NotNegotiable r (cond (not_dry n asa name dry) (fail api.NotDry) (early (dial_tests n peer))) e

request_on : (n : NodeState) (asa : ℕ) (name : List ℕ) (dry : Bool) (peer : Locator) → pass ≡ early (negotiation_tests n asa name) → early (request_tests n asa name dry peer) ≡ cond (not_dry n asa name dry) (fail api.NotDry) (early (dial_tests n peer))
request_on n asa name dry peer e =
    three_passed (no_asa n asa) (not_yours n asa name) (not_negotiable n asa name) api.NoAsa api.NotYourObjective api.NotNegotiable (cond (not_dry n asa name dry) (fail api.NotDry) (early (dial_tests n peer))) e

-- a dry one wants its flag
pub request_dry : (n : NodeState) (asa : ℕ) (name : List ℕ) (dry : Bool) (peer : Locator) (flags : ℕ) → pass ≡ early (negotiation_tests n asa name) → owned_flags n asa name ≡ Some flags → dry ≡ true → has_dry flags ≡ false → fail api.NotDry ≡ early (request_tests n asa name dry peer)
request_dry n asa name dry peer flags e f d g = sym (request_on n asa name dry peer e ∙ (rw (d, f, g) refl))

-- once a request has passed the tests of its objective and its dry flag, the tests of the dial are left
pub request_dials : (n : NodeState) (asa : ℕ) (name : List ℕ) (dry : Bool) (peer : Locator) (flags : ℕ) → pass ≡ early (negotiation_tests n asa name) → owned_flags n asa name ≡ Some flags → (dry && not (has_dry flags)) ≡ false → early (dial_tests n peer) ≡ early (request_tests n asa name dry peer)
request_dials n asa name dry peer flags e f d = sym (request_on n asa name dry peer e ∙ (rw (f, d) refl))

pub synchronize_refused : (n : NodeState) (asa : ℕ) (name : List ℕ) (peer : Locator) (r : ApiRefused) → fail r ≡ early (synchronization_tests n asa name) → fail r ≡ early (synchronize_tests n asa name peer)
synchronize_refused n asa name peer r e =
    three_refused (no_asa n asa) (not_yours n asa name) (not_synchronizable n asa name) api.NoAsa api.NotYourObjective api.NotSynchronizable r (early (dial_tests n peer)) e

pub synchronize_dials : (n : NodeState) (asa : ℕ) (name : List ℕ) (peer : Locator) → pass ≡ early (synchronization_tests n asa name) → early (dial_tests n peer) ≡ early (synchronize_tests n asa name peer)
synchronize_dials n asa name peer e =
    sym (three_passed (no_asa n asa) (not_yours n asa name) (not_synchronizable n asa name) api.NoAsa api.NotYourObjective api.NotSynchronizable (early (dial_tests n peer)) e)

-- ---- floods and searches

-- where the agent is registered there is the test of the flood
pub forgets_none : (n : NodeState) (asa : ℕ) (name : List ℕ) (initiator : Address) → pass ≡ early (agent_tests n asa) → no_flood n name initiator ≡ true → early (expire_flood_tests n asa name initiator) ≡ fail api.NoFlood
forgets_none n asa name initiator e f = one_passed (no_asa n asa) api.NoAsa (cond (no_flood n name initiator) (fail api.NoFlood) pass) e ∙ (rw f refl)

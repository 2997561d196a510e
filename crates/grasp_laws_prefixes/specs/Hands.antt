-- In whose hand the addresses of the roots of a network are (RFC 8992, sections 4.1 and 4.2).
use Rattle.std.specs.Prelude.{◌≡◌, ◌⊎◌, ◌↔◌, ℕ, All, List, Some, length}
use Rattle.grasp_laws_network.specs.Authorities.{Holds, IsAuthority}
use Rattle.grasp_model_network.specs.GoodSetting.{IsGoodSetting}
use Rattle.grasp_model_network.specs.Runs.{Happening, IsRun, IsReached, first_world, worlds_from}
use Rattle.grasp_model_network.specs.Setting.{Member, Setting, numbered}
use Rattle.grasp_model_network.specs.World.{Offered, WorldState}
use Rattle.grasp_pool.specs.Roots.{IsRootAddress}
use Rattle.grasp_types.specs.Prefix.{span_of}

-- the member of this number has a root with this address
pub record IsRootAt (s : Setting) (node a : ℕ) : Type 0 where
  pub member : Member
  pub found : numbered s.members node ≡ Some member
  pub root : IsRootAddress member.roots a

-- some member has a root with this address
abbrev pub IsRoot : Setting → ℕ → Type 0
IsRoot s a = (node : ℕ) × IsRootAt s node a

-- the address lies in an offer that may still be accepted
pub record IsOffered (w : WorldState) (a : ℕ) : Type 0 where
  pub offer : Offered
  pub authority : IsAuthority w offer
  pub span : span_of offer.prefix a

-- a node holds the address, or it lies in an offer that may still be accepted
abbrev pub IsInHand : WorldState → ℕ → Type 0
IsInHand w a = ((node : ℕ) × Holds w node a) ⊎ IsOffered w a

-- in the first network a node holds exactly the addresses of the roots of its member
abbrev pub FirstHoldings : Type 0
FirstHoldings = (s : Setting) → IsGoodSetting s → (node a : ℕ) → Holds (first_world s) node a ↔ IsRootAt s node a

-- each address of a root is in hand
abbrev pub AllAreInHand : Setting → WorldState → Type 0
AllAreInHand s w = (a : ℕ) → IsRoot s a → IsInHand w a

-- in every network that turns lead to, and in which no node has begun anew, each address of a root is held, or lies in an offer that may still
-- be accepted; and so in each network of a run. An image by which a node begins anew may have fewer addresses
pub record NothingIsLost : Type 0 where
  pub reached : (s : Setting) (w : WorldState) → IsReached s w → length w.seats ≡ length s.members → AllAreInHand s w
  pub run : (s : Setting) (hs : List Happening) → IsGoodSetting s → IsRun s (first_world s) hs → All (AllAreInHand s) (worlds_from s (first_world s) hs)

-- what is in hand is an address of a root
abbrev pub NoneIsNew : Setting → WorldState → Type 0
NoneIsNew s w = (a : ℕ) → IsInHand w a → IsRoot s a

-- in every network that turns lead to, and in each network of a run
pub record NothingAppears : Type 0 where
  pub reached : (s : Setting) (w : WorldState) → IsReached s w → NoneIsNew s w
  pub run : (s : Setting) (hs : List Happening) → IsGoodSetting s → IsRun s (first_world s) hs → All (NoneIsNew s) (worlds_from s (first_world s) hs)

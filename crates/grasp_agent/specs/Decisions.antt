-- What an agent of PrefixManager decides in its turn: as a giver of prefixes (RFC 8992, section 4.2), and as one that
-- requests them (section 4.1). The order of the tests and the candidates are this project's own.
use Rattle.std.specs.Prelude.{ℕ, zero, suc, ◌+◌, ◌-◌, ◌%◌, ◌&&◌, min, nat_le, nat_lt, Bool, if◌then◌else◌, List, [], ◌∷◌, ◌++◌, Option, Some, None}
use Rattle.grasp_cbor.specs.DataItem.{DataItem}
use Rattle.grasp_types.specs.Prefix.{AddressBlock as Prefix}
use Rattle.grasp_pool.specs.Holdings.{Holding}
use Rattle.grasp_pool.specs.Functions.{take_reply, after_take, can_gain}
use Rattle.grasp_agent.specs.Values.{asked_in, offered_in, returned_in}
use Rattle.grasp_agent.specs.declared.decision.Reason.TheVariants.{BadValue, NoLoops, NoPrefix, TooSmall, NotTaken}
use Rattle.grasp_agent.specs.declared.decision.GiverDecision.{GiverDecision}
use Rattle.grasp_agent.specs.declared.decision.GiverDecision.TheVariants as giver
use Rattle.grasp_agent.specs.declared.decision.RequesterDecision.{RequesterDecision}
use Rattle.grasp_agent.specs.declared.decision.RequesterDecision.TheVariants as requester

-- so many numbers from this one on
unfoldable pub upward : ℕ → ℕ → List ℕ
upward zero n = []
upward (suc k) n = n ∷ upward k (n + 1)

-- how many lengths are tried from this one on: up to 8 more bits, and to 128
abbrev pub tries : ℕ → ℕ
tries n = min 8 (128 - n) + 1

-- the length less its remainder by 4, which a first offer tries first where there are loops enough to bargain
abbrev pub rounded : ℕ → ℕ → Bool → List ℕ
rounded n loops first = if first && (nat_le 4 loops && nat_lt 0 (n - n % 4)) then (n - n % 4) ∷ [] else []

-- the lengths that a giver tries, in order
abbrev pub candidates : ℕ → ℕ → Bool → List ℕ
candidates n loops first = rounded n loops first ++ upward (tries n) n

-- the prefix, where there is one, or else the other
abbrev pub given_or : Option Prefix → Option Prefix → Option Prefix
given_or None other = other
given_or (Some p) other = Some p

-- the prefix of the first of these lengths that the pool gives
unfoldable pub first_given : Holding → List ℕ → Option Prefix
first_given h [] = None
first_given h (n ∷ ns) = given_or (take_reply h n) (first_given h ns)

-- the pool after it
abbrev pub after_first : Holding → Option Prefix → Holding
after_first h None = h
after_first h (Some p) = after_take h p.length (Some p)

-- one to whom this prefix is given back accepts it where it can be gained
abbrev pub receiver_decision : Holding → Prefix → GiverDecision
receiver_decision h p = if can_gain h p then giver.Accept p else giver.Decline NotTaken

-- a giver, on the value and the loop count of the peer's offer; `first` where it has offered nothing in this session
unfoldable pub giver_decision : Holding → Option DataItem → ℕ → Bool → GiverDecision
giver_decision h value loops first = by_return (returned_in value) where
  by_prefix : Option Prefix → GiverDecision
  by_prefix None = giver.Decline NoPrefix
  by_prefix (Some p) = giver.Offer p

  by_length : Option ℕ → GiverDecision
  by_length None = giver.Decline BadValue
  by_length (Some n) = if nat_le loops 1 then giver.Decline NoLoops else by_prefix (first_given h (candidates n loops first))

  by_return : Option Prefix → GiverDecision
  by_return None = by_length (asked_in value)
  by_return (Some p) = receiver_decision h p

-- the pool after it: an offered prefix is reserved
abbrev pub after_deciding : Holding → GiverDecision → Holding
after_deciding h (giver.Offer p) = after_first h (Some p)
after_deciding h (giver.Accept p) = h
after_deciding h (giver.Decline reason) = h

-- one that wants a prefix of this length, and none that is longer than the longest, on the value and the loop count of the peer's offer
unfoldable pub requester_decision : Holding → ℕ → ℕ → Option DataItem → ℕ → RequesterDecision
requester_decision h wanted longest value loops = by_prefix (offered_in value) where
  by_prefix : Option Prefix → RequesterDecision
  by_prefix None = requester.Decline BadValue
  by_prefix (Some p) =
      if nat_lt longest p.length then requester.Decline TooSmall
      else (if nat_lt p.length wanted && nat_le 2 loops then requester.Counter wanted
      else (if can_gain h p then requester.Accept p else requester.Decline NotTaken))

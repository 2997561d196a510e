-- The conversation of the two ends of a negotiation as a grammar, oldest first (RFC 8990, section 2.5.5).
use Rattle.std.specs.Prelude.{◌≡◌, ℕ, ◌+◌, ◌≤◌, List, [], ◌∷◌, ◌++◌, length, map, reverse, true}
use Rattle.grasp_types.specs.declared.objective.Objective.{Objective}
use Rattle.grasp_types.specs.declared.message.Verdict.{Verdict}
use Rattle.grasp_types.specs.declared.message.Message.TheVariants.{ReqNeg, Negotiate, Wait, End}
use Rattle.grasp_session.specs.Messages.{Side, Near, Far, other, is_invalid}
use Rattle.grasp_session.specs.Conversation.{Said, says, strip, spoken, HaveNumber}

-- how a turn closes
pub data Close : Type 0 where
  Stepped : (objective : Objective) → Close
  Ended : (verdict : Verdict) → Close

-- the waiting times of a turn, and how it closes
pub record Turn : Type 0 where
  pub waited : List ℕ
  pub close : Close

abbrev pub close_said : Side → ℕ → Close → Said
close_said side n (Stepped o) = says side (Negotiate n o)
close_said side n (Ended v) = says side (End n v)

-- what is said in turns, the first of this side
abbrev pub turns_said : Side → ℕ → List Turn → List Said
turns_said side n [] = []
turns_said side n (t ∷ ts) = map (λ m. says side (Wait n m)) t.waited ++ (close_said side n t.close ∷ turns_said (other side) n ts)

-- a step has the request's name and flags and the last loop count less one, at least 1, and an end is the last of all
abbrev pub Closes : Objective → ℕ → List Turn → (ℕ → Type 0) → Close → Type 0
Closes request loops ts AreNext (Stepped o) = (o.name ≡ request.name) × (o.flags ≡ request.flags) × (o.loops + 1 ≡ loops) × (1 ≤ o.loops) × AreNext o.loops
Closes request loops ts AreNext (Ended v) = ts ≡ []

-- turns after this request, where the last loop count is this: at most 4 waits each, and a step or an end
abbrev pub AreTurns : Objective → ℕ → List Turn → Type 0
AreTurns request loops [] = Unit {0}
AreTurns request loops (t ∷ ts) = (length t.waited ≤ 4) × Closes request loops ts (λ k. AreTurns request k ts) t.close

-- a negotiation of whole turns, which need not have ended: near's request, and then turns, of which far has the first
pub record IsWord (w : List Said) : Type 0 where
  pub session : ℕ
  pub request : Objective
  pub turns : List Turn
  pub are_turns : AreTurns request request.loops turns
  pub spelled : w ≡ says Near (ReqNeg session request) ∷ turns_said Far session turns

-- w is the beginning of such a negotiation, and may stop within a turn
abbrev pub IsPrefixOfWord : List Said → Type 0
IsPrefixOfWord w = (rest : List Said) × IsWord (w ++ rest)

-- a conversation, newest first, by this grammar
pub record FollowsGrammar (said : List Said) : Type 0 where
  -- without its invalid messages it is the beginning of a negotiation of whole turns
  pub word : IsPrefixOfWord (reverse (strip said))
  -- a side that says an invalid message says nothing later
  pub last : (later earlier : List Said) (x : Said) → said ≡ later ++ (x ∷ earlier) → is_invalid x.message ≡ true → spoken x.side later ≡ []
  -- all messages have one session number, the request's
  pub session : ℕ
  pub numbered : HaveNumber session said

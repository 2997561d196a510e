-- Which session number a node draws next (RFC 8990, section 2.7). That it is the least that isn't used is this project's own.
use Rattle.std.specs.Prelude.{◌≡◌, ◌↔◌, ◌<◌, ◌+◌, ◌^◌, ◌%◌, ℕ, true, false, Contains}
use Rattle.grasp_laws_node.specs.Numbers.{numbers_in_use}
use Rattle.grasp_model_node.specs.BoundedNodes.{IsBoundedNode}
use Rattle.grasp_model_node.specs.Draws.{is_used, next_session}
use Rattle.grasp_model_node.specs.Node.{NodeState}
use Rattle.rand_chacha.specs.ChaCha.{word_at, key_of}

-- the next word of the node's random stream, ChaCha20 that is keyed by the plan's seed, of which so many were drawn before
abbrev pub next_random : NodeState → ℕ
next_random n = word_at 10 (key_of n.plan.seed) 0 (n.drawn % 2 ^ 68)

-- the number is the next word, raised by a count, modulo 2 ^ 32; it isn't used, and with each lesser count it would be
pub record IsNext (n : NodeState) (number : ℕ) : Type 0 where
  pub raised : ℕ
  pub number_is : number ≡ (next_random n + raised) % 2 ^ 32
  pub unused : is_used n number ≡ false
  pub lesser : (count : ℕ) → count < raised → is_used n ((next_random n + count) % 2 ^ 32) ≡ true

-- a number is used where a live session that this node requested has it, or a search of this node, and nowhere else
abbrev pub UsedAreInUse : Type 0
UsedAreInUse = (n : NodeState) (number : ℕ) → is_used n number ≡ true ↔ Contains (numbers_in_use n) number

-- at each node to which steps lead
abbrev pub DrawnIsNext : Type 0
DrawnIsNext = (n : NodeState) → IsBoundedNode n → IsNext n (next_session n)

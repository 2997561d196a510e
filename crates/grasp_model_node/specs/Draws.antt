-- How session numbers are drawn.
use Rattle.std.specs.Prelude.{ℕ, zero, suc, ◌+◌, ◌^◌, ◌%◌, Bool, ◌||◌, if◌then◌else◌}
use Rattle.rand_chacha.specs.ChaCha.{word_at, key_of}
use Rattle.grasp_discovery.specs.Discoveries as discovery
use Rattle.grasp_session.specs.Sessions as session
use Rattle.grasp_model_node.specs.Node.{NodeState}

-- the next word of the node's random stream, ChaCha20 keyed by the seed, whose places are counted modulo 2 ^ 68
abbrev pub next_word : NodeState → ℕ
next_word n = word_at 10 (key_of n.plan.seed) 0 (n.drawn % 2 ^ 68)

-- a live session that this node requested, or a kept search, has this session number
abbrev pub is_used : NodeState → ℕ → Bool
is_used n number = session.is_used n.sessions number || discovery.is_used n.discoveries number

-- the first number that isn't used, from this one on, modulo 2 ^ 32, after at most so many that are
unfoldable pub first_unused : (ℕ → Bool) → ℕ → ℕ → ℕ
first_unused used zero number = number
first_unused used (suc k) number = if used number then first_unused used k ((number + 1) % 2 ^ 32) else number

-- the session number that is drawn next: a random word, raised until no live session that this node requested and no
-- kept search has it (RFC 8990, section 2.7). At most 128 have one
abbrev pub next_session : NodeState → ℕ
next_session n = first_unused (is_used n) 128 (next_word n)

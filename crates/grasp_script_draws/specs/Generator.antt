-- Scripts that are drawn from a number. Which lines they have is this project's own.
use Rattle.std.specs.Prelude.{ℕ, zero, suc, ◌+◌, ◌*◌, ◌/◌, ◌%◌, ◌^◌, ◌==◌, if◌then◌else◌, List, [], ◌∷◌, ◌++◌, replicate, codes, decimal}
use Rattle.grasp_types.specs.Prefix.{AddressBlock}
use Rattle.grasp_text.specs.Line.{prefix_word}
use Rattle.grasp_text.specs.Words.{spaced}

-- ---- drawing

-- the number that follows a drawn one
abbrev pub next_number : ℕ → ℕ
next_number x = (x * 6364136223846793005 + 1442695040888963407) % 2 ^ 64

-- what a drawn number gives below m
abbrev pub drawn_below : ℕ → ℕ → ℕ
drawn_below m x = (x / 2 ^ 33) % m

-- what is drawn for a round: which node asks and which one is asked, the length that is wanted, and one of 8 chances
pub record Draws : Type 0 where
  pub asking : ℕ
  pub asked : ℕ
  pub length : ℕ
  pub chance : ℕ

-- the four numbers behind this one give the draws of a round
abbrev pub draws_by : ℕ → ℕ → ℕ → ℕ → Draws
draws_by a b l c = record { asking = 5 + drawn_below 12 a; asked = 1 + drawn_below 4 b; length = 48 + drawn_below 17 l; chance = drawn_below 8 c }

-- the number after so many draws
unfoldable pub drawn_after : ℕ → ℕ → ℕ
drawn_after zero x = x
drawn_after (suc n) x = next_number (drawn_after n x)

unfoldable pub draws_from : ℕ → Draws
draws_from x = draws_by (drawn_after 1 x) (drawn_after 2 x) (drawn_after 3 x) (drawn_after 4 x)

-- ---- lines

-- a line: its first word, and those behind it
abbrev pub line : List ℕ → List (List ℕ) → List ℕ
line word words = word ++ spaced words

-- lines, each ended by LF
unfoldable pub lines_text : List (List ℕ) → List ℕ
lines_text [] = []
lines_text (l ∷ ls) = l ++ 10 ∷ lines_text ls

abbrev pub want_line : ℕ → ℕ → ℕ → List ℕ
want_line asking length asked = line (codes "want") (decimal asking ∷ decimal length ∷ decimal 64 ∷ decimal asked ∷ [])

abbrev pub agent_line : ℕ → List ℕ
agent_line node = line (codes "agent") (decimal node ∷ [])

-- a node's agent makes so many calls
abbrev pub agent_lines : ℕ → ℕ → List (List ℕ)
agent_lines times node = replicate times (agent_line node)

abbrev pub arrive_line : ℕ → List ℕ
arrive_line stream = line (codes "arrive") (decimal stream ∷ [])

-- more than is ever left is asked for
abbrev pub bytes_line : ℕ → List ℕ → List ℕ
bytes_line stream side = line (codes "bytes") (decimal stream ∷ side ∷ decimal 9999 ∷ [])

abbrev pub far_line : ℕ → List ℕ
far_line stream = bytes_line stream (codes "far")

abbrev pub near_line : ℕ → List ℕ
near_line stream = bytes_line stream (codes "near")

abbrev pub cut_line : ℕ → List ℕ
cut_line stream = line (codes "cut") (decimal stream ∷ codes "far" ∷ [])

-- one time in eight the far side is told that the stream is cut, in place of its last bytes
abbrev pub last_line : ℕ → ℕ → List ℕ
last_line stream chance = if chance == 0 then cut_line stream else far_line stream

abbrev pub clock_line : ℕ → ℕ → List ℕ
clock_line node millis = line (codes "clock") (decimal node ∷ decimal millis ∷ [])

-- ---- rounds: in each a node wants a prefix, and a second one is asked, over the stream of the round's number

-- the request comes to the node that is asked
abbrev pub request_lines : ℕ → Draws → List (List ℕ)
request_lines round d = want_line d.asking d.length d.asked ∷ agent_line d.asking ∷ arrive_line round ∷ far_line round ∷ []

-- the nodes bargain
abbrev pub bargain_lines : ℕ → Draws → List (List ℕ)
bargain_lines round d =
    agent_lines 3 d.asked ++ (near_line round ∷ (agent_lines 3 d.asking ++ (far_line round ∷ (agent_lines 3 d.asked ++ near_line round ∷ []))))

-- the node that asks has its prefix or hasn't, the other may be told, and its clock goes on
abbrev pub ending_lines : ℕ → Draws → List (List ℕ)
ending_lines round d = agent_lines 5 d.asking ++ (last_line round d.chance ∷ (agent_lines 2 d.asked ++ clock_line d.asked (100 * round) ∷ []))

-- the 25 lines of a round
unfoldable pub round_lines : ℕ → Draws → List (List ℕ)
round_lines round d = request_lines round d ++ (bargain_lines round d ++ ending_lines round d)

-- the number that was drawn last before the round behind so many
unfoldable pub number_behind : ℕ → ℕ → ℕ
number_behind zero x = x
number_behind (suc n) x = drawn_after 4 (number_behind n x)

-- the first so many rounds
unfoldable pub rounds : ℕ → ℕ → List (List ℕ)
rounds zero x = []
rounds (suc n) x = rounds n x ++ round_lines (n + 1) (draws_from (number_behind n x))

-- ---- the header: 16 nodes in a ring, of which the first four hold prefixes

-- the prefix whose first 40 bits are 2001:0db8:0, a digit 0 and then the node's number
unfoldable pub root_of : ℕ → AddressBlock
root_of k = record { address = (137456629760 + k) * 2 ^ 88; length = 40 }

abbrev pub root_line : ℕ → List ℕ
root_line k = line (codes "root") (decimal k ∷ prefix_word (root_of k) ∷ [])

-- the roots of the first so many nodes
abbrev pub root_lines : ℕ → List (List ℕ)
root_lines zero = []
root_lines (suc n) = root_lines n ++ root_line (n + 1) ∷ []

abbrev pub link_line : ℕ → ℕ → List ℕ
link_line k other = line (codes "link") (decimal k ∷ decimal other ∷ [])

-- links of the first so many nodes, each to the next one
abbrev pub chain_lines : ℕ → List (List ℕ)
chain_lines zero = []
chain_lines (suc n) = chain_lines n ++ link_line (n + 1) (n + 2) ∷ []

abbrev pub nodes_line : List ℕ
nodes_line = line (codes "nodes") (decimal 16 ∷ [])

abbrev pub start_line : List ℕ
start_line = line (codes "start") []

unfoldable pub header_lines : List (List ℕ)
header_lines = nodes_line ∷ (root_lines 4 ++ (chain_lines 15 ++ (link_line 16 1 ∷ start_line ∷ [])))

-- ---- the script that is drawn from a number: the header and 800 rounds

unfoldable pub script_lines : ℕ → List (List ℕ)
script_lines number = header_lines ++ rounds 800 number

unfoldable pub script_of : ℕ → List ℕ
script_of number = lines_text (script_lines number)

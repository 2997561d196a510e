-- The lines of a script of a network of doubters. The layout is this project's own.
use Rattle.std.specs.Prelude.{◌≡◌, ◌==◌, ◌||◌, ℕ, Bool, true, false, List, [], ◌∷◌, codes, decimal}
use Rattle.std.specs.Str.{IsUtf8}
use Rattle.grasp_text.specs.Line.{prefix_word}
use Rattle.grasp_text.specs.Words.{words_of}
use Rattle.grasp_types.specs.Prefix.{AddressBlock as Prefix, IsPrefix}
use Rattle.grasp_model_network.specs.Plans.{IsNode}
use Rattle.grasp_model_network.specs.declared.event.Event.{Event}
use Rattle.grasp_model_network.specs.declared.event.Event.TheVariants as event
use Rattle.grasp_script.specs.Acts.{IsAct, IsLine, act_words}
use Rattle.grasp_script.specs.declared.line.LineAct.{LineAct}
use Rattle.grasp_script.specs.declared.line.LineAct.TheVariants.{Event as Happens, State}
use Rattle.grasp_script_doubts.specs.declared.line.DoubtLineAct.{DoubtLineAct}
use Rattle.grasp_script_doubts.specs.declared.line.DoubtLineAct.TheVariants as act

-- ---- words

-- the words of the line by which a node's doubter makes its next call
abbrev pub doubter_words : ℕ → List (List ℕ)
doubter_words node = codes "doubter" ∷ decimal node ∷ []

-- the words of the line by which a node's doubter is to ask a peer about a prefix
abbrev pub ask_words : ℕ → Prefix → ℕ → List (List ℕ)
ask_words node prefix peer = codes "ask" ∷ decimal node ∷ prefix_word prefix ∷ decimal peer ∷ []

-- the words of a line
abbrev pub doubt_words : DoubtLineAct → List (List ℕ)
doubt_words (act.Plain a) = act_words a
doubt_words (act.Doubter node) = doubter_words node
doubt_words (act.Ask node prefix peer) = ask_words node prefix peer

-- ---- which lines there are

-- the event is a call by agent 1 or 2, the node's own: the agent of prefixes and the doubter make their calls by themselves
abbrev pub is_own_call : Event → Bool
is_own_call (event.Api node asa call hold) = (asa == 1) || (asa == 2)
is_own_call _ = false

abbrev pub makes_own : LineAct → Bool
makes_own (Happens e) = is_own_call e
makes_own (State node) = false

-- each part is within its range, the nodes are nodes of the script, and no line makes a call for an agent of the node's own
abbrev pub IsDoubtAct : ℕ → DoubtLineAct → Type 0
IsDoubtAct nodes (act.Plain a) = IsAct nodes a × (makes_own a ≡ false)
IsDoubtAct nodes (act.Doubter node) = IsNode nodes node
IsDoubtAct nodes (act.Ask node prefix peer) = IsNode nodes node × IsPrefix prefix.address prefix.length × IsNode nodes peer

-- the line, in a script of so many nodes, means this: it is a text whose words, which stand between single blanks, are these
pub record IsDoubtLine (nodes : ℕ) (line : List ℕ) (a : DoubtLineAct) : Type 0 where
  pub ranges : IsDoubtAct nodes a
  pub text : IsUtf8 line
  pub spelled : words_of line ≡ doubt_words a

-- the line means nothing
abbrev pub IsNoDoubtLine : ℕ → List ℕ → Type 0
IsNoDoubtLine nodes line = (a : DoubtLineAct) → ¬ IsDoubtLine nodes line a

-- Inside: a line of any script that this is makes a call for an agent of the node's own
abbrev pub HasNoPlain : ℕ → List ℕ → Type 0
HasNoPlain nodes line = (a : LineAct) → IsLine nodes line a → makes_own a ≡ true

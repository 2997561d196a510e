-- Inside: a message's line as its name and the words behind it.
use Rattle.std.specs.Prelude.{ℕ, List, [], ◌∷◌, ◌++◌, codes, decimal}
use Rattle.grasp_types.specs.declared.message.Message.{Message}
use Rattle.grasp_types.specs.declared.message.Message.TheVariants.{Noop, Discovery, Response, ReqNeg, ReqSyn, Negotiate, End, Wait, Synch, Flood, Invalid}
use Rattle.grasp_text.specs.Line.{address_word, objective_words, optional_objective_words, answer_words, verdict_words, all_flood_part_words, or_dash, value_word}

-- the name of a message's line
abbrev pub line_name : Message → List ℕ
line_name Noop = codes "noop"
line_name (Discovery session initiator objective) = codes "discovery"
line_name (Response session initiator ttl answer objective) = codes "response"
line_name (ReqNeg session objective) = codes "request-neg"
line_name (ReqSyn session objective) = codes "request-syn"
line_name (Negotiate session objective) = codes "negotiate"
line_name (End session verdict) = codes "end"
line_name (Wait session millis) = codes "wait"
line_name (Synch session objective) = codes "synch"
line_name (Flood session initiator ttl parts) = codes "flood"
line_name (Invalid session detail) = codes "invalid"

-- the words behind it
abbrev pub words_behind_name : Message → List (List ℕ)
words_behind_name Noop = []
words_behind_name (Discovery session initiator objective) = decimal session ∷ address_word initiator ∷ objective_words objective
words_behind_name (Response session initiator ttl answer objective) = decimal session ∷ address_word initiator ∷ decimal ttl ∷ (answer_words answer ++ optional_objective_words objective)
words_behind_name (ReqNeg session objective) = decimal session ∷ objective_words objective
words_behind_name (ReqSyn session objective) = decimal session ∷ objective_words objective
words_behind_name (Negotiate session objective) = decimal session ∷ objective_words objective
words_behind_name (End session verdict) = decimal session ∷ verdict_words verdict
words_behind_name (Wait session millis) = decimal session ∷ decimal millis ∷ []
words_behind_name (Synch session objective) = decimal session ∷ objective_words objective
words_behind_name (Flood session initiator ttl parts) = decimal session ∷ address_word initiator ∷ decimal ttl ∷ all_flood_part_words parts
words_behind_name (Invalid session detail) = decimal session ∷ or_dash value_word detail ∷ []

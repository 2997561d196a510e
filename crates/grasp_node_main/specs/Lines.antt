-- What a node writes at the end: what its agents hold, want and read. The layout is this project's own.
use Rattle.std.specs.Prelude.{◌≡◌, ⊤, ℕ, zero, suc, List, [], ◌∷◌, ◌++◌, Option, None, Some, map, codes, decimal}
use Rattle.grasp_types.specs.Refusal.{refusal_number}
use Rattle.grasp_types.specs.declared.flood.FloodRead.{FloodRead}
use Rattle.grasp_agent.specs.Announcing.{ReaderState}
use Rattle.grasp_agent.specs.declared.want.WantEnd.{WantEnd}
use Rattle.grasp_agent.specs.declared.want.WantEnd.TheVariants as end
use Rattle.grasp_types.specs.Prefix.{AddressBlock, IsPrefix}
use Rattle.grasp_node_main.specs.declared.lines.PoolList.{PoolList}
use Rattle.grasp_node_main.specs.declared.lines.PoolList.TheVariants.{Held, Reserved, Doubt}
use Rattle.grasp_pool.specs.Holdings.{Holding}
use Rattle.grasp_text.specs.Line.{address_word, locator_or_none, objective_words, prefix_word, text_word}
use Rattle.grasp_text.specs.Words.{spaced}
use Rattle.grasp_node_main.specs.declared.want_plan.WantPlan.{WantPlan}
use Rattle.grasp_node_main.specs.declared.worker.Worker.{Worker}
use Rattle.grasp_node_main.specs.declared.worker.Worker.TheVariants.{Manager, Beacon, Reader}

-- a line: its name, and its words, each behind a blank; ended by LF
abbrev pub line_text : List ℕ → List (List ℕ) → List ℕ
line_text name words = name ++ spaced words ++ 10 ∷ []

abbrev pub prefix_words : List AddressBlock → List (List ℕ)
prefix_words ps = map prefix_word ps

-- Inside: a list of a pool, by rising address
abbrev pub list_of : PoolList → Holding → List AddressBlock
list_of Held h = h.free
list_of Reserved h = h.reserved
list_of Doubt h = h.doubtful

-- `prefixes held P.. reserved P.. doubt P..`, each list perhaps empty
abbrev pub pool_words : Holding → List (List ℕ)
pool_words h = codes "held" ∷ (prefix_words h.free ++ codes "reserved" ∷ (prefix_words h.reserved ++ codes "doubt" ∷ prefix_words h.doubtful))

-- how a want ended, or that it didn't
abbrev pub end_words : Option WantEnd → List (List ℕ)
end_words None = codes "pending" ∷ []
end_words (Some (end.Held prefix)) = codes "held" ∷ prefix_word prefix ∷ []
end_words (Some end.Declined) = codes "declined" ∷ []
end_words (Some end.TimedOut) = codes "timedout" ∷ []
end_words (Some end.Broken) = codes "broken" ∷ []
end_words (Some end.OutOfMemory) = codes "outofmemory" ∷ []
end_words (Some end.Invalid) = codes "invalid" ∷ []
end_words (Some end.Empty) = codes "empty" ∷ []
end_words (Some (end.Refused refusal)) = codes "refused" ∷ decimal (refusal_number refusal) ∷ []

-- `want LENGTH LONGEST = END`
abbrev pub want_words : WantPlan → Option WantEnd → List (List ℕ)
want_words w e = decimal w.length ∷ decimal w.longest ∷ codes "=" ∷ end_words e

-- Inside: how the want at a place ended
abbrev pub end_at : List (Option WantEnd) → ℕ → Option WantEnd
end_at [] i = None
end_at (e ∷ es) zero = e
end_at (e ∷ es) (suc i) = end_at es i

-- a line for each want
abbrev pub wants_text : List WantPlan → List (Option WantEnd) → List ℕ
wants_text [] es = []
wants_text (w ∷ ws) [] = line_text (codes "want") (want_words w None) ++ wants_text ws []
wants_text (w ∷ ws) (e ∷ es) = line_text (codes "want") (want_words w e) ++ wants_text ws es

-- a flood: its initiator, its objective, and its locator or `none`
abbrev pub flood_words : FloodRead → List (List ℕ)
flood_words f = address_word f.initiator ∷ (objective_words f.objective ++ locator_or_none f.locator)

abbrev pub all_flood_words : List FloodRead → List (List ℕ)
all_flood_words [] = []
all_flood_words (f ∷ fs) = flood_words f ++ all_flood_words fs

-- `read NAME = floods ..`
abbrev pub read_words : ReaderState → List (List ℕ)
read_words r = text_word r.name ∷ codes "=" ∷ codes "floods" ∷ all_flood_words r.reads

-- the lines of an agent; a beacon has none
abbrev pub worker_text : Worker → List ℕ
worker_text (Manager m) = line_text (codes "prefixes") (pool_words m.agent.pool) ++ wants_text m.wants m.ends
worker_text (Beacon b) = []
worker_text (Reader r) = line_text (codes "read") (read_words r)

-- those of all agents, in their order
abbrev pub crew_text : List Worker → List ℕ
crew_text [] = []
crew_text (w ∷ ws) = worker_text w ++ crew_text ws

-- ---- what the lines tell

-- a prefix that a want ended with is one
abbrev pub IsEnd : Option WantEnd → Type 0
IsEnd (Some (end.Held prefix)) = IsPrefix prefix.address prefix.length
IsEnd _ = ⊤

-- each way in which a want ends, and that it hasn't ended, is told by a line of its own
abbrev pub WantEndsAreTold : Type 0
WantEndsAreTold = (w : WantPlan) (a b : Option WantEnd) → IsEnd a → IsEnd b → line_text (codes "want") (want_words w a) ≡ line_text (codes "want") (want_words w b) → a ≡ b

-- Facts of a node's numbers, streams and records that several crates use.
use Rattle.std.proofs.Common.{ℕ, List, ◌≡◌, refl, None, Option, sym, Some, ◌∙◌, ◌<◌, ◌^◌, arith, Bool, zero, suc, ◌+◌, ◌%◌, cond, true, false, ◌-◌, [], ◌∷◌}
use Rattle.rand_chacha.specs.Block.{block_word}
use Rattle.std.proofs.lemmas.List.Elements.{All-cons, All-head, All-tail}
use Rattle.std.proofs.lemmas.Option.{slice_get-get_or}
use Rattle.std.specs.List.{find, fold}
use Rattle.grasp_cbor.proofs.Facts.Numbers.{next_below, still_below}
use Rattle.grasp_types.specs.Flood.{first_loops}
use Rattle.grasp_types.specs.Message.{AreFloodParts, IsFloodPart}
use Rattle.grasp_types.specs.Objective.{IsObjective}
use Rattle.grasp_types.specs.declared.flood.FloodPart.{FloodPart}
use Rattle.grasp_types.specs.declared.objective.Objective.{Objective}
use Rattle.grasp_types.specs.declared.session.Handle.{Handle}
use Rattle.grasp_types.specs.declared.session.Kind.{Kind}
use Rattle.grasp_asa.proofs.Lists.{missed, found}
use Rattle.grasp_discovery.specs.declared.answers.Find.{Find}
use Rattle.grasp_discovery.specs.declared.answers.Find.TheVariants as find
use Rattle.grasp_session.specs.Sessions.{IsProper, after_remove, stream_reply, owner_reply}
use Rattle.grasp_wire.specs.Stream.{RestKind, waiting}
use Rattle.grasp_model_node.specs.Bytes.{hear_fault, hear_rest}
use Rattle.grasp_model_node.specs.Datagrams.{lowered, loops_of}
use Rattle.grasp_model_node.specs.Draws.{next_word, first_unused, next_session, is_used}
use Rattle.grasp_model_node.specs.FloodCalls.{looked}
use Rattle.grasp_model_node.specs.Hear.{untaken, Heard, shuts, after_refusal}
use Rattle.grasp_model_node.specs.Moves.{begin_closing, with_sessions, with_discoveries, queue_up, with_draw}
use Rattle.grasp_model_node.specs.Node.{NodeState}
use Rattle.grasp_model_node.specs.RegistryCalls.{close_stream, without_session, without_sessions}
use Rattle.grasp_model_node.specs.SessionCalls.{with_adopted}
use Rattle.grasp_model_node.specs.Streams.{StreamRecord, at_place, place_of, is_stream, StreamsState, without}

-- the record at a stream's place is the first of that stream
pub first_record : (stream : ℕ) (xs : List StreamRecord) → at_place xs (place_of stream xs) ≡ find (is_stream stream) xs
first_record stream xs = by_place (place_of stream xs) refl where
  none : StreamRecord
  none = record { number = 0; from = None; past = None }

  by_place : (o : Option ℕ) → place_of stream xs ≡ o → at_place xs o ≡ find (is_stream stream) xs
  by_place None e = sym (missed (is_stream stream) xs e)
  by_place (Some i) e = let f = found (is_stream stream) xs i e in slice_get-get_or xs i none f.within ∙ sym (f.first none)

-- a request that no agent has taken is a proper past
pub proper : (stream session : ℕ) (o : Objective) → IsProper (untaken stream session o)
proper stream session o = record { synchronization = λ e. absurd (cc); taken = refl; untaken = λ e. refl }

-- the next word drawn has 32 bits
pub word_below : (n : NodeState) → next_word n < 2 ^ 32
unfolding block_word
word_below n = omega arith

-- a number of 32 bits that is unused is found among such
pub unused_below : (used : ℕ → Bool) (k number : ℕ) → number < 2 ^ 32 → first_unused used k number < 2 ^ 32
unfolding first_unused
unused_below used zero number h = h
unused_below used (suc k) number h = by_test (used number) (unused_below used k ((number + 1) % 2 ^ 32) (next_below number)) where
  by_test : (b : Bool) → first_unused used k ((number + 1) % 2 ^ 32) < 2 ^ 32 → cond b (first_unused used k ((number + 1) % 2 ^ 32)) number < 2 ^ 32
  by_test true below = below
  by_test false below = h

-- the next session's number has 32 bits
pub session_below : (n : NodeState) → next_session n < 2 ^ 32
session_below n = unused_below (is_used n) 128 (next_word n) (word_below n)

-- an objective with one loop less is one still
pub objective_lowered : (o : Objective) → IsObjective o → IsObjective (lowered o)
objective_lowered o k = record { name = k.name; flags = k.flags; loops = still_below o.loops k.loops; value = k.value }

-- the parts of a flood with one loop less are parts still
pub flood_parts_lowered : (parts : List FloodPart) → AreFloodParts parts → AreFloodParts (first_loops parts (loops_of parts - 1))
flood_parts_lowered [] k = k
flood_parts_lowered (part ∷ parts) k = record {
  some = k.some;
  each = All-cons IsFloodPart (record part { objective = record part.objective { loops = part.objective.loops - 1 } }) parts
      (lower (All-head IsFloodPart part parts k.each)) (All-tail IsFloodPart part parts k.each);
} where
  lower : IsFloodPart part → IsFloodPart (record part { objective = record part.objective { loops = part.objective.loops - 1 } })
  lower p = record { objective = objective_lowered part.objective p.objective; locator = p.locator }

-- a fault leaves no stream open
pub fault_shuts : (stream : ℕ) (x : Heard) → (hear_fault stream x).is_open ≡ true → ⊥
fault_shuts stream x e = by_test x.is_open refl e where
  by_test : (b : Bool) → x.is_open ≡ b → (cond b (shuts (after_refusal x.node stream)) x).is_open ≡ true → ⊥
  by_test true f g = cc
  by_test false f g = cc

-- a stream that is open after its bytes waits for more
pub open_waits : (stream : ℕ) (rest : RestKind) (x : Heard) → (hear_rest stream rest x).is_open ≡ true → rest ≡ waiting
open_waits stream waiting x e = refl
open_waits stream _ x e = absurd (fault_shuts stream x e)

-- closing a stream keeps the plan
pub close_stream-plan : (n : NodeState) (o : Option ℕ) → (close_stream n o).plan ≡ n.plan
unfolding begin_closing
close_stream-plan n None = refl
close_stream-plan n (Some stream) = refl

-- removing a session keeps the plan
pub without_session-plan : (n : NodeState) (o : Option Handle) → (without_session n o).plan ≡ n.plan
unfolding with_sessions
without_session-plan n None = refl
without_session-plan n (Some h) = close_stream-plan (with_sessions n (after_remove n.sessions h)) (stream_reply n.sessions h)

-- removing an owner's sessions keeps the plan
pub without_sessions-plan : (count : ℕ) (n : NodeState) (asa : ℕ) → (without_sessions count n asa).plan ≡ n.plan
unfolding without_sessions
without_sessions-plan zero n asa = refl
without_sessions-plan (suc count) n asa = without_session-plan (without_sessions count n asa) (owner_reply (without_sessions count n asa).sessions asa) ∙ without_sessions-plan count n asa

-- adopting a session keeps the plan
pub adopted-plan : (n : NodeState) (asa : ℕ) (o : Option Handle) → (with_adopted n asa o).plan ≡ n.plan
unfolding with_sessions
adopted-plan n asa None = refl
adopted-plan n asa (Some h) = refl

-- a look for peers keeps the plan
pub looked-plan : (n : NodeState) (asa : ℕ) (name : List ℕ) (kind : Kind) (loops timeout : ℕ) (f : Find) → (looked n asa name kind loops timeout f).plan ≡ n.plan
unfolding with_discoveries queue_up with_draw
looked-plan n asa name kind loops timeout find.Fresh = refl
looked-plan n asa name kind loops timeout _ = refl

-- removing streams keeps the count of those dialled
pub same_dialled : (s : StreamsState) (streams : List ℕ) → (fold without s streams).dialled ≡ s.dialled
same_dialled s [] = refl
same_dialled s (stream ∷ streams) = same_dialled (without s stream) streams

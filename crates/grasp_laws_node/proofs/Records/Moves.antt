-- What is so of the open streams of a node, and that each move leaves it so.
use Rattle.std.proofs.Common.{◌≡◌, ℕ, suc, List, [], ◌∷◌, take, drop, Option, Some, None, slice_get, slice_index_or, refl, sym, ap, ◌∙◌, subst, All}
use Rattle.std.specs.List.{fold}
use Rattle.std.proofs.lemmas.List.Elements.{All-append, All-take, All-drop, All-push, All-set}
use Rattle.std.proofs.lemmas.List.Quantifiers.{position-Some}
use Rattle.std.proofs.lemmas.Bool.{eqb-true}
use Rattle.std.proofs.lemmas.Option.{none-some, slice_get-get_or, same_Some}
use Rattle.grasp_types.specs.declared.address.Address.{Address}
use Rattle.grasp_wire.specs.Cutter.{Past, no_past}
use Rattle.grasp_model_node.specs.Draining as drain
use Rattle.grasp_model_node.specs.Node.{NodeState}
use Rattle.grasp_model_node.specs.Streams.{StreamRecord, StreamsState, is_stream, place_of, at_place, past_in, put_past, set_past, closing, with_past, remove_place, without, with_record, next_stream}
use Rattle.grasp_laws_node.proofs.Walk.Moves.{Known, Turn, Move, Moves, kept, unfolded, times_out, responds, closes, goes_on, leaves, opens, replies, shuts, asks, drains_out}

-- ---- records

-- what is so of an open record: of its number, and of what came on it
pub record OpenHolds (Q : ℕ → Past → Type 0) (x : StreamRecord) : Type 0 where
  pub holds : (past : Past) → x.past ≡ Some past → Q x.number past

no_record : StreamRecord
no_record = record { number = 0; from = None; past = None }

-- the record that is found has its number
pub here : (stream : ℕ) (xs : List StreamRecord) (i : ℕ) (x : StreamRecord) → place_of stream xs ≡ Some i → slice_get xs i ≡ Some x → x.number ≡ stream
here stream xs i x e f =
    let p = position-Some (is_stream stream) xs i no_record e in
    let same : x ≡ slice_index_or xs i no_record = same_Some x (slice_index_or xs i no_record) (sym f ∙ slice_get-get_or xs i no_record p.0) in
    eqb-true x.number stream (ap (is_stream stream) same ∙ p.1)

-- there is a record at the place that is found for a stream
pub no_place : (stream : ℕ) (xs : List StreamRecord) (i : ℕ) → place_of stream xs ≡ Some i → slice_get xs i ≡ None → ⊥
no_place stream xs i e f =
    let p = position-Some (is_stream stream) xs i no_record e in
    none-some (slice_index_or xs i no_record) (sym f ∙ slice_get-get_or xs i no_record p.0)

set_past_holds : (Q : ℕ → Past → Type 0) (stream : ℕ) (past : Option Past) (xs : List StreamRecord) (place : Option ℕ) → place_of stream xs ≡ place
    → ((p : Past) → past ≡ Some p → Q stream p) → All (OpenHolds Q) xs → All (OpenHolds Q) (set_past past xs place)
set_past_holds Q stream past xs None e w a = a
set_past_holds Q stream past xs (Some i) e w a = by_record (slice_get xs i) refl where
  by_record : (o : Option StreamRecord) → slice_get xs i ≡ o → All (OpenHolds Q) (put_past past xs i o)
  by_record None f = a
  by_record (Some x) f =
      All-set (OpenHolds Q) xs i (record x { past = past }) (record { holds = λ p g. subst (λ (k : ℕ). Q k p) (sym (here stream xs i x e f)) (w p g) }) a

remove_holds : (Q : ℕ → Past → Type 0) (xs : List StreamRecord) (place : Option ℕ) → All (OpenHolds Q) xs → All (OpenHolds Q) (remove_place xs place)
remove_holds Q xs None a = a
remove_holds Q xs (Some i) a =
    All-append (OpenHolds Q) (take i xs) (drop (suc i) xs) (All-take (OpenHolds Q) i xs a) (All-drop (OpenHolds Q) (suc i) xs a)

pub fold_without_holds : (Q : ℕ → Past → Type 0) (s : StreamsState) (streams : List ℕ) → All (OpenHolds Q) s.records → All (OpenHolds Q) (fold without s streams).records
fold_without_holds Q s [] a = a
fold_without_holds Q s (stream ∷ streams) a = fold_without_holds Q (without s stream) streams (remove_holds Q s.records (place_of stream s.records) a)

-- what came on an open stream
pub holds_at : (Q : ℕ → Past → Type 0) (stream : ℕ) (xs : List StreamRecord) (past : Past) → All (OpenHolds Q) xs → past_in (at_place xs (place_of stream xs)) ≡ Some past → Q stream past
holds_at Q stream xs past a e = by_place (place_of stream xs) refl e where
  by_record : (i : ℕ) (o : Option StreamRecord) → place_of stream xs ≡ Some i → slice_get xs i ≡ o → past_in o ≡ Some past → Q stream past
  by_record i None f g h = absurd (cc)
  by_record i (Some x) f g h =
      let p = position-Some (is_stream stream) xs i x f in
      let w : OpenHolds Q (slice_index_or xs i x) = a i x p.0 in
      let same : x ≡ slice_index_or xs i x = same_Some x (slice_index_or xs i x) (sym g ∙ slice_get-get_or xs i x p.0) in
      let own : OpenHolds Q x = subst (OpenHolds Q) (sym same) w in
      subst (λ (k : ℕ). Q k past) (here stream xs i x f g) (own.holds past h)

  by_place : (o : Option ℕ) → place_of stream xs ≡ o → past_in (at_place xs o) ≡ Some past → Q stream past
  by_place None f g = absurd (cc)
  by_place (Some i) f g = by_record i (slice_get xs i) f refl g

-- ---- a node, whose open records have it

pub record Holds (Q : ℕ → Past → Type 0) (n : NodeState) : Type 0 where
  pub each : All (OpenHolds Q) n.streams.records

-- ---- the moves

-- what came on the streams that are open after a move has it
abbrev pub by_past : (ℕ → Past → Type 0) → Known
by_past Q = record { message = λ m. Unit {0}; stream = λ s. Unit {0}; past = Q; saying = λ s. Unit {0} }

module _ (Q : ℕ → Past → Type 0) where
  closing_holds : (s : StreamsState) (stream : ℕ) → All (OpenHolds Q) s.records → All (OpenHolds Q) (closing s stream).records
  closing_holds s stream a = set_past_holds Q stream None s.records (place_of stream s.records) refl (λ p e. absurd (cc)) a

  past_holds : (s : StreamsState) (stream : ℕ) (past : Past) → Q stream past → All (OpenHolds Q) s.records → All (OpenHolds Q) (with_past s stream (Some past)).records
  past_holds s stream past w a = set_past_holds Q stream (Some past) s.records (place_of stream s.records) refl (λ p e. subst (Q stream) (same_Some past p e) w) a

  more_hold : (s : StreamsState) (x : StreamRecord) → OpenHolds Q x → All (OpenHolds Q) s.records → All (OpenHolds Q) (with_record s x).records
  more_hold s x w a = All-push (OpenHolds Q) s.records x a w

  open_so : (number : ℕ) (from : Option Address) → Q number no_past → OpenHolds Q (record { number = number; from = from; past = Some no_past })
  open_so number from w = record { holds = λ p e. subst (Q number) (same_Some no_past p e) w }

  shut_so : (number : ℕ) → OpenHolds Q (record { number = number; from = None; past = None })
  shut_so number = record { holds = λ p e. absurd (cc) }

  move_holds : (base : NodeState) (turn : Turn) (n after : NodeState) → Move (by_past Q) base n turn after → Holds Q n → Holds Q after
  unfolding unfolded
  move_holds base turn n after (times_out stream e) k = record { each = closing_holds n.streams stream k.each }
  move_holds base turn n after (closes {stream = stream}) k = record { each = closing_holds n.streams stream k.each }
  move_holds base turn n after (shuts stream) k = record { each = closing_holds n.streams stream k.each }
  move_holds base turn n after (goes_on {stream = stream} past so) k = record { each = past_holds n.streams stream past so k.each }
  move_holds base turn n after (leaves {stream = stream}) k = record { each = remove_holds Q n.streams.records (place_of stream n.streams.records) k.each }
  move_holds base turn n after (opens {stream = stream} {from = from} so new room) k = record { each = more_hold n.streams _ (open_so stream (Some from) so) k.each }
  move_holds base turn n after (responds to m i so e) k = record { each = more_hold n.streams _ (shut_so (next_stream n.streams)) k.each }
  move_holds base turn n after (replies to m i e) k = record { each = more_hold n.streams _ (shut_so (next_stream n.streams)) k.each }
  move_holds base turn n after (asks kind timeout o peer is so e free room fit) k = record { each = more_hold n.streams _ (open_so (next_stream n.streams) None so) k.each }
  move_holds base turn n after (drains_out max) k = record { each = fold_without_holds Q n.streams (drain.closes n max) k.each }
  move_holds base turn n after _ k = record { each = k.each }

  pub moves_hold : (base : NodeState) (turn : Turn) (n after : NodeState) → Moves (by_past Q) base turn n after → Holds Q n → Holds Q after
  moves_hold base turn n after ms k = kept (Holds Q) (λ m after x h. move_holds base turn m after x h) ms k

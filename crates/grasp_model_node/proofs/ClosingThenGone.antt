-- A record that goes, where it was closing before.
use Rattle.std.proofs.Common.{◌≡◌, ℕ, zero, suc, List, [], ◌∷◌, Option, Some, None, refl, sym, ap, ◌∙◌}
use Rattle.std.specs.Prelude.{slice_get, slice_set, slice_index_or, remove}
use Rattle.std.proofs.lemmas.List.{length-set}
use Rattle.std.proofs.lemmas.List.Folds.{position_or_len-set}
use Rattle.std.proofs.lemmas.Option.{get_or_from_slice_get}
use Rattle.grasp_wire.specs.Cutter.{Past}
use Rattle.grasp_model_node.specs.Bytes.{broken}
use Rattle.grasp_model_node.specs.Moves.{with_sessions, begin_closing, drop_record}
use Rattle.grasp_model_node.specs.Node.{NodeState}
use Rattle.grasp_model_node.specs.Streams.{StreamRecord, StreamsState, is_stream, place_of, put_past, set_past, remove_place, closing, without}

remove_set : (xs : List StreamRecord) (i : ℕ) (a : StreamRecord) → remove (slice_set xs i a) i ≡ remove xs i
remove_set [] i a = refl
remove_set (x ∷ xs) zero a = refl
remove_set (x ∷ xs) (suc i) a = ap (λ (l : List StreamRecord). x ∷ l) (remove_set xs i a)

-- the record stays at its place
pub place_set : (stream : ℕ) (past : Option Past) (xs : List StreamRecord) (i : ℕ) (x : StreamRecord) → slice_get xs i ≡ Some x → place_of stream (slice_set xs i (record x { past = past })) ≡ place_of stream xs
place_set stream past xs i x e =
    let y : StreamRecord = record x { past = past } in
    let same : is_stream stream y ≡ is_stream stream (slice_index_or xs i y) = ap (is_stream stream) (sym (get_or_from_slice_get xs i x y e)) in
    rw (position_or_len-set (is_stream stream) xs i y y same, length-set xs i y) refl

records : (stream : ℕ) (xs : List StreamRecord) → remove_place (set_past None xs (place_of stream xs)) (place_of stream (set_past None xs (place_of stream xs))) ≡ remove_place xs (place_of stream xs)
records stream xs = by_place (place_of stream xs) refl where
  by_record : (i : ℕ) (o : Option StreamRecord) → place_of stream xs ≡ Some i → slice_get xs i ≡ o → remove_place (put_past None xs i o) (place_of stream (put_past None xs i o)) ≡ remove xs i
  by_record i None e f = ap (remove_place xs) e
  by_record i (Some x) e f = ap (remove_place (slice_set xs i (record x { past = None }))) (place_set stream None xs i x f ∙ e) ∙ remove_set xs i (record x { past = None })

  by_place : (o : Option ℕ) → place_of stream xs ≡ o → remove_place (set_past None xs o) (place_of stream (set_past None xs o)) ≡ remove_place xs o
  by_place None e = ap (remove_place xs) e
  by_place (Some i) e = by_record i (slice_get xs i) e refl

pub without-closing : (s : StreamsState) (stream : ℕ) → without (closing s stream) stream ≡ without s stream
without-closing s stream = ap (λ (xs : List StreamRecord). let t : StreamsState = record s { records = xs } in t) (records stream s.records)

-- a stream that is closed at once is left as one that began closing first
pub broken-closing : (n : NodeState) (stream : ℕ) → broken (begin_closing n stream) stream ≡ broken n stream
unfolding with_sessions begin_closing drop_record
broken-closing n stream = ap (λ (s : StreamsState). let m : NodeState = record (broken n stream) { streams = s } in m) (without-closing n.streams stream)

-- The records of streams, place by place.
use Rattle.std.proofs.Common.{◌≡◌, ℕ, zero, suc, ◌<◌, List, [], ◌∷◌, ◌++◌, Option, Some, None, length, ◌==◌, Bool, refl, sym, ap, ◌∙◌, subst, arith}
use Rattle.std.specs.Prelude.{slice_get, slice_set, slice_index_or, position}
use Rattle.std.specs.List.{AllZip, remove, position_or_len}
use Rattle.std.proofs.lemmas.Slice.Zip.{all_zipped_more}
use Rattle.grasp_asa.proofs.Lists.{found}
use Rattle.std.proofs.lemmas.List.{set-get_or}
use Rattle.std.specs.Vec.{with_item}
use Rattle.grasp_wire.specs.Cutter.{Past}
use Rattle.grasp_wire.specs.declared.cutter.Cutter.{Cutter}
use Rattle.grasp_core.specs.Stands.{StreamStands, StreamsStand, CutsAs, CutsOpen, after_take}
use Rattle.grasp_model_node.specs.Streams.{StreamRecord, StreamsState, is_stream, place_of, past_of, opener_of, with_past, without}
use Rattle.grasp_core.specs.declared.streams.Stream.{Stream}
use Rattle.grasp_core.specs.declared.streams.Streams.{Streams}

-- the stream has this number
abbrev pub is_held : ℕ → Stream → Bool
is_held stream s = s.number == stream

-- ---- both lists, place by place

pub zip_length : (limit : ℕ) (l : List Stream) (xs : List StreamRecord) → AllZip (StreamStands limit) l xs → length l ≡ length xs
zip_length limit [] [] h = refl
zip_length limit [] (b ∷ bs) h = absurd h
zip_length limit (a ∷ l) [] h = absurd h
zip_length limit (a ∷ l) (b ∷ bs) h = ap suc (zip_length limit l bs h.1)

pub zip_first : (stream limit : ℕ) (l : List Stream) (xs : List StreamRecord) → AllZip (StreamStands limit) l xs → position_or_len (is_held stream) l ≡ position_or_len (is_stream stream) xs
zip_first stream limit [] [] h = refl
zip_first stream limit [] (b ∷ bs) h = absurd h
zip_first stream limit (a ∷ l) [] h = absurd h
zip_first stream limit (a ∷ l) (b ∷ bs) h = let i = zip_first stream limit l bs h.1 in rw (h.0.number, i) refl

pub zip_place : (stream limit : ℕ) (l : List Stream) (xs : List StreamRecord) → AllZip (StreamStands limit) l xs → position (is_held stream) l ≡ place_of stream xs
zip_place stream limit l xs h = rw (zip_first stream limit l xs h, zip_length limit l xs h) refl

pub zip_set : (limit : ℕ) (l : List Stream) (xs : List StreamRecord) → AllZip (StreamStands limit) l xs → (i : ℕ) (s : Stream) (x : StreamRecord) → StreamStands limit s x → AllZip (StreamStands limit) (slice_set l i s) (slice_set xs i x)
zip_set limit [] [] h i s x e = tt
zip_set limit [] (b ∷ bs) h i s x e = absurd h
zip_set limit (a ∷ l) [] h i s x e = absurd h
zip_set limit (a ∷ l) (b ∷ bs) h zero s x e = (e, h.1)
zip_set limit (a ∷ l) (b ∷ bs) h (suc i) s x e = (h.0, zip_set limit l bs h.1 i s x e)

pub zip_remove : (limit : ℕ) (l : List Stream) (xs : List StreamRecord) → AllZip (StreamStands limit) l xs → (i : ℕ) → AllZip (StreamStands limit) (remove l i) (remove xs i)
zip_remove limit [] [] h zero = tt
zip_remove limit [] [] h (suc i) = tt
zip_remove limit [] (b ∷ bs) h i = absurd h
zip_remove limit (a ∷ l) [] h i = absurd h
zip_remove limit (a ∷ l) (b ∷ bs) h zero = h.1
zip_remove limit (a ∷ l) (b ∷ bs) h (suc i) = (h.0, zip_remove limit l bs h.1 i)

-- the record at a place
pub record StandsAt (limit : ℕ) (s : Stream) (xs : List StreamRecord) (i : ℕ) : Type 0 where
  pub x : StreamRecord
  pub got : slice_get xs i ≡ Some x
  pub stands : StreamStands limit s x

pub zip_at : (limit : ℕ) (l : List Stream) (xs : List StreamRecord) → AllZip (StreamStands limit) l xs → (i : ℕ) → i < length l → (d : Stream) → StandsAt limit (slice_index_or l i d) xs i
zip_at limit [] xs h i k d = absurd (omega arith)
zip_at limit (a ∷ l) [] h i k d = absurd h
zip_at limit (a ∷ l) (b ∷ bs) h zero k d = record { x = b; got = refl; stands = h.0 }
zip_at limit (a ∷ l) (b ∷ bs) h (suc i) k d =
    let t = zip_at limit l bs h.1 i (omega arith) d in record { x = t.x; got = t.got; stands = t.stands }

-- ---- the record of a number

place_here : (stream : ℕ) (streams : Streams) (s : StreamsState) (o : Option ℕ) → StreamsStand streams s → o ≡ position (is_held stream) streams.held.items → place_of stream s.records ≡ o
place_here stream streams s o h e = sym (zip_place stream streams.limit streams.held.items s.records h.held) ∙ sym e

-- where there is no record, nothing changes
none_past : (stream : ℕ) (s : StreamsState) → place_of stream s.records ≡ None → past_of s stream ≡ None
none_past stream s e = rw e refl

pub none_opener : (stream : ℕ) (streams : Streams) (s : StreamsState) → StreamsStand streams s → None ≡ position (is_held stream) streams.held.items → None ≡ opener_of s stream
none_opener stream streams s h e = rw (place_here stream streams s None h e) refl

pub none_set : (stream : ℕ) (p : Option Past) (streams : Streams) (s : StreamsState) → StreamsStand streams s → None ≡ position (is_held stream) streams.held.items → StreamsStand streams (with_past s stream p)
none_set stream p streams s h e = rw (place_here stream streams s None h e) h

pub none_removed : (stream : ℕ) (streams : Streams) (s : StreamsState) → StreamsStand streams s → None ≡ position (is_held stream) streams.held.items → StreamsStand streams (without s stream)
none_removed stream streams s h e = rw (place_here stream streams s None h e) h

pub none_cut : (stream : ℕ) (streams : Streams) (s : StreamsState) → StreamsStand streams s → None ≡ position (is_held stream) streams.held.items → CutsAs streams.limit None (past_of s stream)
none_cut stream streams s h e = rw (none_past stream s (place_here stream streams s None h e)) tt

pub none_taken : (stream : ℕ) (streams : Streams) (s : StreamsState) → StreamsStand streams s → None ≡ position (is_held stream) streams.held.items → StreamsStand streams (after_take s stream (past_of s stream))
none_taken stream streams s h e = rw (none_past stream s (place_here stream streams s None h e)) h

-- the record is found at its place
found_at : (stream : ℕ) (streams : Streams) (s : StreamsState) (i : ℕ) (a : Stream) → StreamsStand streams s → Some i ≡ position (is_held stream) streams.held.items → a ≡ slice_index_or streams.held.items i a → StandsAt streams.limit a s.records i
found_at stream streams s i a h e at =
    subst (λ (x : Stream). StandsAt streams.limit x s.records i) (sym at) (zip_at streams.limit streams.held.items s.records h.held i (found (is_held stream) streams.held.items i (sym e)).within a)

pub some_opener : (stream : ℕ) (streams : Streams) (s : StreamsState) (i : ℕ) (a : Stream) → StreamsStand streams s → Some i ≡ position (is_held stream) streams.held.items → a ≡ slice_index_or streams.held.items i a → a.from ≡ opener_of s stream
some_opener stream streams s i a h e at =
    let t = found_at stream streams s i a h e at in
    rw (place_here stream streams s (Some i) h e) (rw t.got t.stands.from)

-- the record is set at its place
pub some_set : (stream : ℕ) (p : Option Past) (streams : Streams) (s : StreamsState) (i : ℕ) (a b : Stream) → StreamsStand streams s → Some i ≡ position (is_held stream) streams.held.items → a ≡ slice_index_or streams.held.items i a → b.number ≡ a.number → b.from ≡ a.from → CutsAs streams.limit b.cutter p
    → StreamsStand (record streams { held = with_item streams.held i b }) (with_past s stream p)
some_set stream p streams s i a b h e at number from cuts =
    let t = found_at stream streams s i a h e at in
    rw (place_here stream streams s (Some i) h e) (rw t.got (record {
      held = zip_set streams.limit streams.held.items s.records h.held i b (record t.x { past = p }) (record { number = number ∙ t.stands.number; from = from ∙ t.stands.from; cuts = cuts });
      dialled = h.dialled;
    }))

pub some_removed : (stream : ℕ) (streams new : Streams) (s : StreamsState) (i : ℕ) → StreamsStand streams s → Some i ≡ position (is_held stream) streams.held.items → new.held.items ≡ remove streams.held.items i → new.limit ≡ streams.limit → new.dialled ≡ streams.dialled → StreamsStand new (without s stream)
some_removed stream streams new s i h e items limit dialled =
    rw (place_here stream streams s (Some i) h e) (record {
      held = rw (limit, items) (zip_remove streams.limit streams.held.items s.records h.held i);
      dialled = dialled ∙ h.dialled;
    })

-- the cutter is taken out
cutter_at : (stream : ℕ) (streams : Streams) (s : StreamsState) (i : ℕ) (a : Stream) → StreamsStand streams s → Some i ≡ position (is_held stream) streams.held.items → a ≡ slice_index_or streams.held.items i a → CutsAs streams.limit a.cutter (past_of s stream)
cutter_at stream streams s i a h e at =
    let t = found_at stream streams s i a h e at in
    rw (place_here stream streams s (Some i) h e) (rw t.got t.stands.cuts)

pub some_cut : (stream : ℕ) (streams : Streams) (s : StreamsState) (i : ℕ) (a : Stream) (c : Option Cutter) → StreamsStand streams s → Some i ≡ position (is_held stream) streams.held.items → a ≡ slice_index_or streams.held.items i a → c ≡ a.cutter → CutsAs streams.limit c (past_of s stream)
some_cut stream streams s i a c h e at f =
    subst (λ (o : Option Cutter). CutsAs streams.limit o (past_of s stream)) (sym f) (cutter_at stream streams s i a h e at)

some_taken : (stream : ℕ) (streams : Streams) (s : StreamsState) (i : ℕ) (a : Stream) → StreamsStand streams s → Some i ≡ position (is_held stream) streams.held.items → a ≡ slice_index_or streams.held.items i a
    → StreamsStand (record streams { held = with_item streams.held i (record a { cutter = None }) }) (after_take s stream (past_of s stream))
some_taken stream streams s i a h e at = by_cases a.cutter (past_of s stream) refl (cutter_at stream streams s i a h e at) where
  same : a.cutter ≡ None → slice_set streams.held.items i (record a { cutter = None }) ≡ streams.held.items
  same none =
      let it : record a { cutter = None } ≡ a = ap (λ (o : Option Cutter). let t : Stream = record a { cutter = o } in t) (sym none) in
      ap (slice_set streams.held.items i) (it ∙ at) ∙ set-get_or streams.held.items i a

  by_cases : (o : Option Cutter) (p : Option Past) → a.cutter ≡ o → CutsAs streams.limit o p → StreamsStand (record streams { held = with_item streams.held i (record a { cutter = None }) }) (after_take s stream p)
  by_cases None None f k = record { held = rw (same f) h.held; dialled = h.dialled }
  by_cases None (Some past) f k = absurd k
  by_cases (Some c) None f k = absurd k
  by_cases (Some c) (Some past) f k = some_set stream None streams s i a (record a { cutter = None }) h e at refl refl tt

pub taken_at : (stream : ℕ) (streams : Streams) (s : StreamsState) (i : ℕ) (a b : Stream) → StreamsStand streams s → Some i ≡ position (is_held stream) streams.held.items → a ≡ slice_index_or streams.held.items i a → b ≡ record a { cutter = None }
    → StreamsStand (record streams { held = with_item streams.held i b }) (after_take s stream (past_of s stream))
taken_at stream streams s i a b h e at g =
    subst (λ (y : Stream). StreamsStand (record streams { held = with_item streams.held i y }) (after_take s stream (past_of s stream))) (sym g) (some_taken stream streams s i a h e at)

pub put_at : (stream : ℕ) (past : Past) (streams : Streams) (s : StreamsState) (i : ℕ) (a b : Stream) (c : Cutter) → StreamsStand streams s → CutsOpen streams.limit c past → Some i ≡ position (is_held stream) streams.held.items → a ≡ slice_index_or streams.held.items i a → b ≡ record a { cutter = Some c }
    → StreamsStand (record streams { held = with_item streams.held i b }) (with_past s stream (Some past))
put_at stream past streams s i a b c h k e at g =
    subst (λ (y : Stream). StreamsStand (record streams { held = with_item streams.held i y }) (with_past s stream (Some past))) (sym g) (some_set stream (Some past) streams s i a (record a { cutter = Some c }) h e at refl refl k)

pub shut_at : (stream : ℕ) (streams : Streams) (s : StreamsState) (i : ℕ) (a b : Stream) → StreamsStand streams s → Some i ≡ position (is_held stream) streams.held.items → a ≡ slice_index_or streams.held.items i a → b ≡ record a { cutter = None }
    → StreamsStand (record streams { held = with_item streams.held i b }) (with_past s stream None)
shut_at stream streams s i a b h e at g =
    subst (λ (y : Stream). StreamsStand (record streams { held = with_item streams.held i y }) (with_past s stream None)) (sym g) (some_set stream None streams s i a (record a { cutter = None }) h e at refl refl tt)

-- ---- one more

-- what a new record stands for
pub one_more : (streams new : Streams) (s : StreamsState) (a : Stream) (x : StreamRecord) (dialled : ℕ) → StreamsStand streams s → new.held.items ≡ streams.held.items ++ a ∷ [] → new.limit ≡ streams.limit → new.dialled ≡ dialled → StreamStands streams.limit a x
    → StreamsStand new (record { records = s.records ++ x ∷ []; dialled = dialled })
one_more streams new s a x dialled h items limit count stands =
    record {
      held = rw (limit, items) (all_zipped_more (StreamStands streams.limit) streams.held.items s.records a x h.held stands);
      dialled = count;
    }

-- nothing changed
pub same_streams : (streams new : Streams) (s : StreamsState) → StreamsStand streams s → new.held.items ≡ streams.held.items → new.limit ≡ streams.limit → new.dialled ≡ streams.dialled → StreamsStand new s
same_streams streams new s h items limit dialled = record { held = rw (limit, items) h.held; dialled = dialled ∙ h.dialled }

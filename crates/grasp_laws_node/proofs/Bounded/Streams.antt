-- What is so of the streams of a node, and that each change of them leaves it so.
use Rattle.std.proofs.Common.{◌≡◌, ℕ, zero, suc, ◌+◌, ◌*◌, ◌<◌, ◌≤◌, ◌^◌, List, [], ◌∷◌, length, take, drop, inl, inr, Option, Some, None, slice_index_or, slice_set, slice_get, refl, sym, ap, ◌∙◌, subst, arith, All}
use Rattle.std.specs.List.{AllPairs, remove, fold}
use Rattle.std.proofs.lemmas.List.{length-set, length-append, length-take, length-drop, length_push}
use Rattle.std.proofs.lemmas.List.Elements.{All-append, All-take, All-drop, All-push, All-weaker}
use Rattle.std.proofs.lemmas.List.Quantifiers.{position-Some, all_pairs_push, all_pairs_remove}
use Rattle.grasp_wire.specs.Cutter.{Past}
use Rattle.grasp_model_node.specs.BoundedNodes.{IsGiven}
use Rattle.grasp_model_node.specs.Streams.{StreamRecord, StreamsState, is_stream, place_of, put_past, set_past, with_past, remove_place, without, with_record, next_stream, with_dialled}

-- the part of a node's streams
pub record AreStreams (s : StreamsState) : Type 0 where
  pub few : length s.records ≤ 64
  pub apart : AllPairs (λ (x y : StreamRecord). ¬ (x.number ≡ y.number)) s.records
  pub dialled : s.dialled ≤ 2 ^ 62
  pub given : All (λ (x : StreamRecord). IsGiven s.dialled x.number) s.records

-- a number that is given stays given
pub more_given : (d number : ℕ) → IsGiven d number → IsGiven (d + 1) number
more_given d number (inl odd) = inl odd
more_given d number (inr low) = inr (omega (arith, low))

-- the next stream's number isn't given, and then it is
pub next_not_given : (d : ℕ) → IsGiven d (2 * d) → ⊥
next_not_given d (inl odd) = omega (arith, odd)
next_not_given d (inr low) = omega (arith, low)

pub next_is_given : (d : ℕ) → IsGiven (d + 1) (2 * d)
next_is_given d = inr (omega arith)

-- records with the same numbers in the same places
same_numbers : (s t : StreamsState) → length t.records ≡ length s.records → ((k : ℕ) (e : StreamRecord) → (slice_index_or t.records k e).number ≡ (slice_index_or s.records k e).number)
    → t.dialled ≡ s.dialled → AreStreams s → AreStreams t
same_numbers s t long same d a = record {
  few = omega (arith, long, a.few);
  apart = λ i j e h k n. a.apart i j e h (omega (arith, k, long)) (sym (same i e) ∙ (n ∙ same j e));
  dialled = omega (arith, d, a.dialled);
  given = λ k e h. subst (λ (x : ℕ). IsGiven x (slice_index_or t.records k e).number) (sym d) (subst (IsGiven s.dialled) (sym (same k e)) (a.given k e (omega (arith, h, long))));
}

-- what came on a stream
pub put_number : (past : Option Past) (xs : List StreamRecord) (i : ℕ) (x : StreamRecord) → slice_get xs i ≡ Some x → (k : ℕ) (e : StreamRecord)
    → (slice_index_or (slice_set xs i (record x { past = past })) k e).number ≡ (slice_index_or xs k e).number
put_number past [] i x f k e = absurd (cc)
put_number past (y ∷ ys) zero x f zero e = let same : y ≡ x = cc in ap (λ (w : StreamRecord). w.number) (sym same)
put_number past (y ∷ ys) zero x f (suc k) e = refl
put_number past (y ∷ ys) (suc i) x f zero e = refl
put_number past (y ∷ ys) (suc i) x f (suc k) e = put_number past ys i x f k e

pub past_kept : (s : StreamsState) (stream : ℕ) (past : Option Past) → AreStreams s → AreStreams (with_past s stream past)
past_kept s stream past a = by_place (place_of stream s.records) where
  by_record : (i : ℕ) (o : Option StreamRecord) → slice_get s.records i ≡ o → AreStreams (record s { records = put_past past s.records i o })
  by_record i None e = a
  by_record i (Some x) e = same_numbers s (record s { records = slice_set s.records i (record x { past = past }) }) (length-set s.records i (record x { past = past })) (put_number past s.records i x e) refl a

  by_place : (o : Option ℕ) → AreStreams (record s { records = set_past past s.records o })
  by_place None = a
  by_place (Some i) = by_record i (slice_get s.records i) refl

-- a record goes
pub without_kept : (s : StreamsState) (stream : ℕ) → AreStreams s → AreStreams (without s stream)
without_kept s stream a = by_place (place_of stream s.records) refl where
  removed : (i : ℕ) → i < length s.records → AreStreams (record s { records = remove s.records i })
  removed i h = record {
    few = let l = length-append (take i s.records) (drop (suc i) s.records) in
        let t = length-take i s.records in
        let d = length-drop (suc i) s.records in omega (arith, l, t, d, h, a.few);
    apart = all_pairs_remove (λ (x y : StreamRecord). ¬ (x.number ≡ y.number)) s.records i h a.apart;
    dialled = a.dialled;
    given = All-append (λ (x : StreamRecord). IsGiven s.dialled x.number) (take i s.records) (drop (suc i) s.records)
        (All-take (λ (x : StreamRecord). IsGiven s.dialled x.number) i s.records a.given) (All-drop (λ (x : StreamRecord). IsGiven s.dialled x.number) (suc i) s.records a.given);
  }

  by_place : (o : Option ℕ) → place_of stream s.records ≡ o → AreStreams (record s { records = remove_place s.records o })
  by_place None e = a
  by_place (Some i) e = removed i (position-Some (is_stream stream) s.records i (record { number = 0; from = None; past = None }) e).0

pub fold_without_kept : (s : StreamsState) (streams : List ℕ) → AreStreams s → AreStreams (fold without s streams)
fold_without_kept s [] a = a
fold_without_kept s (stream ∷ streams) a = fold_without_kept (without s stream) streams (without_kept s stream a)

-- one more record, with a number that no other has
pub record_kept : (s : StreamsState) (x : StreamRecord) → AreStreams s → length s.records < 64 → IsGiven s.dialled x.number
    → All (λ (y : StreamRecord). ¬ (y.number ≡ x.number)) s.records → AreStreams (with_record s x)
record_kept s x a room given new = record {
  few = let l = length_push s.records x in omega (arith, l, room);
  apart = all_pairs_push (λ (x y : StreamRecord). ¬ (x.number ≡ y.number)) s.records x a.apart new;
  dialled = a.dialled;
  given = All-push (λ (x : StreamRecord). IsGiven s.dialled x.number) s.records x a.given given;
}

-- the next stream is dialled
pub more_dialled : (s : StreamsState) → AreStreams s → s.dialled < 2 ^ 62 → AreStreams (record s { dialled = s.dialled + 1 })
more_dialled s a h = record {
  few = a.few;
  apart = a.apart;
  dialled = omega (arith, h);
  given = All-weaker (λ (x : StreamRecord). IsGiven s.dialled x.number) (λ (x : StreamRecord). IsGiven (s.dialled + 1) x.number) (λ x. more_given s.dialled x.number) s.records a.given;
}

pub dialled_kept : (s : StreamsState) (past : Option Past) → AreStreams s → length s.records < 64 → s.dialled < 2 ^ 62 → AreStreams (with_dialled s past)
dialled_kept s past a room h =
    record_kept (record s { dialled = s.dialled + 1 }) (record { number = next_stream s; from = None; past = past }) (more_dialled s a h) room (next_is_given s.dialled)
    (All-weaker (λ (x : StreamRecord). IsGiven s.dialled x.number) (λ (x : StreamRecord). ¬ (x.number ≡ next_stream s)) (λ x g e. next_not_given s.dialled (subst (IsGiven s.dialled) e g)) s.records a.given)

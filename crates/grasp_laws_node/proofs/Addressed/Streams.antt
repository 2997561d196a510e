-- The streams that a node knows: they stay known, and its records are theirs.
use Rattle.std.proofs.Common.{◌≡◌, ◌≤◌, ℕ, suc, ◌+◌, ◌*◌, List, [], ◌∷◌, ◌++◌, length, take, drop, inl, inr, Option, Some, None, IsSome, slice_index_or, slice_set, slice_get, refl, sym, subst, arith, All}
use Rattle.std.specs.List.{fold}
use Rattle.std.proofs.lemmas.List.{length-set}
use Rattle.std.proofs.lemmas.List.Elements.{All-append, All-take, All-drop, All-push, All-weaker}
use Rattle.std.proofs.lemmas.List.Quantifiers.{position-Some}
use Rattle.std.proofs.lemmas.Bool.{eqb-true}
use Rattle.grasp_types.specs.declared.address.Address.{Address}
use Rattle.grasp_types.specs.declared.address.Locator.{Locator}
use Rattle.grasp_types.specs.declared.message.Message.{Message}
use Rattle.grasp_wire.specs.Cutter.{Past, no_past}
use Rattle.grasp_model_node.specs.Queue.{Queued, along, datagram, send, dial}
use Rattle.grasp_model_node.specs.Streams.{StreamRecord, StreamsState, is_stream, place_of, put_past, set_past, with_past, remove_place, without, next_stream, with_dialled, with_opened, at_place, past_in, past_of}
use Rattle.grasp_model_node.specs.declared.way.Way.{Way}
use Rattle.grasp_laws_node.proofs.Bounded.Streams.{put_number}
use Rattle.grasp_laws_node.specs.Sends.{IsKnown, Follows}

-- the records of these streams are known ones
abbrev pub StreamsKnown : (ℕ → Type 0) → StreamsState → Type 0
StreamsKnown P s = All (λ (x : StreamRecord). IsKnown P s.dialled x.number) s.records

module _ (P : ℕ → Type 0) where
  -- ---- numbers

  pub known_more : (d e stream : ℕ) → d ≤ e → IsKnown P d stream → IsKnown P e stream
  known_more d e stream h (inl p) = inl p
  known_more d e stream h (inr p) = inr (p.0, omega (arith, h, p.1))

  pub next_known : (d : ℕ) → IsKnown P (d + 1) (2 * d)
  next_known d = inr (omega arith, omega arith)

  -- ---- lists

  pub follows_append : (xs ys : List Queued) (d e f : ℕ) → Follows P d xs e → Follows P e ys f → Follows P d (xs ++ ys) f
  follows_append [] ys d e f h k = subst (λ b. Follows P b ys f) h k
  follows_append (datagram link to m ∷ xs) ys d e f h k = follows_append xs ys d e f h k
  follows_append (dial stream to ∷ xs) ys d e f h k = (h.0, follows_append xs ys (d + 1) e f h.1 k)
  follows_append (send stream m ∷ xs) ys d e f h k = (h.0, follows_append xs ys d e f h.1 k)

  pub follows_rise : (qs : List Queued) (d e : ℕ) → Follows P d qs e → d ≤ e
  follows_rise [] d e h = omega (arith, h)
  follows_rise (datagram link to m ∷ qs) d e h = follows_rise qs d e h
  follows_rise (dial stream to ∷ qs) d e h = let r : d + 1 ≤ e = follows_rise qs (d + 1) e h.1 in omega (arith, r)
  follows_rise (send stream m ∷ qs) d e h = follows_rise qs d e h.1

  pub along_follows : (m : Message) (ways : List Way) (d : ℕ) → Follows P d (along m ways) d
  along_follows m [] d = refl
  along_follows m (way ∷ ways) d = along_follows m ways d

  pub send_follows : (stream : ℕ) (m : Message) (d : ℕ) → IsKnown P d stream → Follows P d (send stream m ∷ []) d
  send_follows stream m d k = (k, refl)

  pub dial_follows : (d : ℕ) (to : Locator) (m : Message) → Follows P d (dial (2 * d) to ∷ send (2 * d) m ∷ []) (d + 1)
  dial_follows d to m = (refl, (next_known d, refl))

  -- ---- records

  same_known : (s t : StreamsState) → length t.records ≡ length s.records → ((k : ℕ) (e : StreamRecord) → (slice_index_or t.records k e).number ≡ (slice_index_or s.records k e).number)
      → t.dialled ≡ s.dialled → StreamsKnown P s → StreamsKnown P t
  same_known s t long same d a k e h =
      subst (λ (b : ℕ). IsKnown P b (slice_index_or t.records k e).number) (sym d) (subst (IsKnown P s.dialled) (sym (same k e)) (a k e (omega (arith, h, long))))

  pub past_known : (s : StreamsState) (stream : ℕ) (past : Option Past) → StreamsKnown P s → StreamsKnown P (with_past s stream past)
  past_known s stream past a = by_place (place_of stream s.records) where
    by_record : (i : ℕ) (o : Option StreamRecord) → slice_get s.records i ≡ o → StreamsKnown P (record s { records = put_past past s.records i o })
    by_record i None e = a
    by_record i (Some x) e =
        same_known s (record s { records = slice_set s.records i (record x { past = past }) }) (length-set s.records i (record x { past = past })) (put_number past s.records i x e) refl a

    by_place : (o : Option ℕ) → StreamsKnown P (record s { records = set_past past s.records o })
    by_place None = a
    by_place (Some i) = by_record i (slice_get s.records i) refl

  pub without_known : (s : StreamsState) (stream : ℕ) → StreamsKnown P s → StreamsKnown P (without s stream)
  without_known s stream a = by_place (place_of stream s.records) where
    by_place : (o : Option ℕ) → StreamsKnown P (record s { records = remove_place s.records o })
    by_place None = a
    by_place (Some i) =
        All-append (λ (x : StreamRecord). IsKnown P s.dialled x.number) (take i s.records) (drop (suc i) s.records)
        (All-take (λ (x : StreamRecord). IsKnown P s.dialled x.number) i s.records a) (All-drop (λ (x : StreamRecord). IsKnown P s.dialled x.number) (suc i) s.records a)

  pub all_without_known : (s : StreamsState) (streams : List ℕ) → StreamsKnown P s → StreamsKnown P (fold without s streams)
  all_without_known s [] a = a
  all_without_known s (stream ∷ streams) a = all_without_known (without s stream) streams (without_known s stream a)

  pub opened_known : (s : StreamsState) (stream : ℕ) (from : Address) → P stream → StreamsKnown P s → StreamsKnown P (with_opened s stream from)
  opened_known s stream from p a =
      All-push (λ (x : StreamRecord). IsKnown P s.dialled x.number) s.records (record { number = stream; from = Some from; past = Some no_past }) a (inl p)

  pub dialled_known : (s : StreamsState) (past : Option Past) → StreamsKnown P s → StreamsKnown P (with_dialled s past)
  dialled_known s past a =
      All-push (λ (x : StreamRecord). IsKnown P (s.dialled + 1) x.number) s.records (record { number = next_stream s; from = None; past = past })
      (All-weaker (λ (x : StreamRecord). IsKnown P s.dialled x.number) (λ (x : StreamRecord). IsKnown P (s.dialled + 1) x.number)
      (λ x. known_more s.dialled (s.dialled + 1) x.number (omega arith)) s.records a)
      (next_known s.dialled)

  -- an open stream is known
  pub open_known : (s : StreamsState) (stream : ℕ) → StreamsKnown P s → IsSome (past_of s stream) → IsKnown P s.dialled stream
  open_known s stream a shown = by_place (place_of stream s.records) refl shown where
    none : StreamRecord
    none = record { number = 0; from = None; past = None }

    by_place : (o : Option ℕ) → place_of stream s.records ≡ o → IsSome (past_in (at_place s.records o)) → IsKnown P s.dialled stream
    by_place None e h = absurd (cc)
    by_place (Some i) e h =
        let p = position-Some (is_stream stream) s.records i none e in
        subst (IsKnown P s.dialled) (eqb-true (slice_index_or s.records i none).number stream p.1) (a i none p.0)

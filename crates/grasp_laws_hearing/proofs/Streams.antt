-- What the opening and the closing of a stream by a peer do.
use Rattle.std.proofs.Common.{◌≡◌, ◌≢◌, ◌≤◌, ◌<◌, ◌%◌, ◌==◌, ◌⊎◌, inl, inr, ℕ, zero, suc, nat_le, Bool, true, false, cond, not, List, [], ◌∷◌, length, Option, None, Some, refl, sym, ap, ◌∙◌, subst, arith, slice_index_or, AllPairs}
use Rattle.std.specs.Bool.{Decides}
use Rattle.std.specs.Prelude.{is_some, filter, remove, slice_get}
use Rattle.std.proofs.lemmas.Bool.{false≢true, leb-true, leb-false, eqb-true, ne_eqb}
use Rattle.std.proofs.lemmas.Bool.Decides.{Decides-or, Decides-eqb, leb_tells, not_from_Decides}
use Rattle.std.proofs.lemmas.List.Quantifiers.{position-Some}
use Rattle.grasp_asa.proofs.Lists.{missed, none_at}
use Rattle.grasp_cbor.proofs.Facts.Lists.{missed as missed_any}
use Rattle.grasp_laws_node.proofs.Consistent.Table.{order, state_lies, none_lies}
use Rattle.grasp_laws_node.proofs.Records.Moves.{no_place}
use Rattle.grasp_model_node.specs.Begin.{begin}
use Rattle.grasp_model_node.specs.BoundedNodes.{IsBoundedNode}
use Rattle.grasp_model_node.specs.Bytes.{broken, after_closed}
use Rattle.grasp_model_node.specs.Moves.{with_sessions, open_record, drop_record}
use Rattle.grasp_model_node.specs.Node.{NodeState}
use Rattle.grasp_model_node.specs.Opening.{is_live, is_ignored, MayOpen, after_opened}
use Rattle.grasp_model_node.specs.Streams.{StreamRecord, StreamsState, is_stream, place_of, has_record, at_place, record_of, remove_place, without, is_full}
use Rattle.grasp_session.specs.Sessions.{SessionState, after_mark, state_reply}
use Rattle.grasp_session.specs.Transcript.{Mark, Closed}
use Rattle.grasp_types.specs.declared.address.Address.{Address}
use Rattle.grasp_types.specs.declared.reply.Reply.{Reply}
use Rattle.grasp_types.specs.declared.reply.Reply.TheVariants as reply
use Rattle.grasp_laws_node.proofs.Bounded.Nodes.{begin_kept}
use Rattle.grasp_laws_hearing.proofs.Found.{unmarked}
use Rattle.grasp_laws_hearing.proofs.Later.{marks}
use Rattle.grasp_laws_hearing.specs.Later.{IsOn}
use Rattle.grasp_laws_hearing.specs.Streams as law
use Rattle.grasp_laws_hearing.specs.Streams.{IsIgnored, having_opened, OpeningDoes, OpeningsAreTaken, EndsOutside, ClosingDoes, ClosingsAreTaken}

-- ---- which numbers are live

-- a record has the number
HasRecord : StreamsState → ℕ → Type 0
HasRecord s stream = (y : StreamRecord) × (record_of s stream ≡ Some y)

pub recorded : (s : StreamsState) (stream : ℕ) → Decides (has_record s stream) ((y : StreamRecord) × (record_of s stream ≡ Some y))
recorded s stream = by (place_of stream s.records) refl where
  at_index : (i : ℕ) → place_of stream s.records ≡ Some i → (o : Option StreamRecord) → slice_get s.records i ≡ o → (y : StreamRecord) × (slice_get s.records i ≡ Some y)
  at_index i e None f = absurd (no_place stream s.records i e f)
  at_index i e (Some y) f = (y, f)

  by : (o : Option ℕ) → place_of stream s.records ≡ o → Decides (is_some o) ((y : StreamRecord) × (at_place s.records o ≡ Some y))
  by None e = (λ f. absurd (false≢true f), λ h. let clash : None ≡ Some h.0 = h.1 in absurd (cc))
  by (Some i) e = (λ f. at_index i e (slice_get s.records i) refl, λ h. refl)

lives : (n : NodeState) (stream : ℕ) → Decides (is_some (state_reply n.sessions stream)) ((place : ℕ) × (x : SessionState) × IsOn n stream place x)
lives n stream = by (state_reply n.sessions stream) refl where
  by : (o : Option (ℕ × Bool)) → state_reply n.sessions stream ≡ o → Decides (is_some o) ((place : ℕ) × (x : SessionState) × IsOn n stream place x)
  by None e = (λ f. absurd (false≢true f), λ h. absurd (none_lies n.sessions stream e h.0 h.1 h.2.at h.2.on))
  by (Some state) e = let l = state_lies n.sessions stream state e in (λ f. (l.place, l.session, record { at = l.at; on = l.on }), λ h. refl)

ignored : (n : NodeState) (stream : ℕ) → Decides (is_ignored n stream) (IsIgnored n stream)
ignored n stream =
    Decides-or ((stream % 2) == 0) (is_live n stream) (Decides-eqb (stream % 2) 0)
    (Decides-or (has_record n.streams stream) (is_some (state_reply n.sessions stream)) (recorded n.streams stream) (lives n stream))

-- ---- an opening

-- what a test tells of both of its answers
none_ignored : (n : NodeState) (stream : ℕ) → is_ignored n stream ≡ false → ¬ IsIgnored n stream
none_ignored n stream e = not_from_Decides (is_ignored n stream) (ignored n stream) e

may_open : (n : NodeState) (stream : ℕ) → is_ignored n stream ≡ false → is_full n.streams ≡ false → law.MayOpen n stream
may_open n stream e f = record { new = none_ignored n stream e; few = leb-false 64 (length n.streams.records) f }

taken : (n : NodeState) (stream : ℕ) (from : Address) (a b : Bool) → is_ignored n stream ≡ a → is_full n.streams ≡ b → reply.Taken ≡ cond a reply.Taken (cond b reply.Turned reply.Taken)
    → OpeningDoes n stream from reply.Taken (cond a n (open_record n stream from))
unfolding open_record
taken n stream from true b e f same = inl ((ignored n stream).0 e, refl)
taken n stream from false true e f same = absurd (cc)
taken n stream from false false e f same = inr (may_open n stream e f, refl)

turned : (n : NodeState) (stream : ℕ) (a b : Bool) → is_ignored n stream ≡ a → is_full n.streams ≡ b → reply.Turned ≡ cond a reply.Taken (cond b reply.Turned reply.Taken)
    → (¬ IsIgnored n stream) × (64 ≤ length n.streams.records)
turned n stream true b e f same = absurd (cc)
turned n stream false true e f same = (none_ignored n stream e, leb-true 64 (length n.streams.records) f)
turned n stream false false e f same = absurd (cc)

abbrev OpenReply : Reply → Type 0
OpenReply reply.Taken = Unit {0}
OpenReply reply.Turned = Unit {0}
OpenReply _ = ⊥

one_of : (a b : Bool) → OpenReply (cond a reply.Taken (cond b reply.Turned reply.Taken))
one_of true b = tt
one_of false true = tt
one_of false false = tt

opens : (n after : NodeState) (stream : ℕ) (from : Address) (r : Reply) → MayOpen n stream r → after ≡ after_opened n stream from r → OpeningDoes n stream from r after
opens n after stream from reply.Taken may is = subst (OpeningDoes n stream from reply.Taken) (sym is) (taken n stream from (is_ignored n stream) (is_full n.streams) refl refl may)
opens n after stream from reply.Turned may is = let t = turned n stream (is_ignored n stream) (is_full n.streams) refl refl may in (t.0, t.1, is)
opens n after stream from reply.OutOfMemory may is = (may_open n stream may.new may.room, is)
opens n after stream from _ may is = subst OpenReply (sym may) (one_of (is_ignored n stream) (is_full n.streams))

pub openings_are_taken : OpeningsAreTaken
openings_are_taken n after now stream from x r s = opens (begin n now) after stream from r s.acts.0 s.acts.1

-- ---- a record that goes

no_record : StreamRecord
no_record = record { number = 0; from = None; past = None }

-- where one alone passes, taking it out leaves those that don't pass
all_left : {A : Type 0} (p : A → Bool) (xs : List A) → ((j : ℕ) (d : A) → j < length xs → p (slice_index_or xs j d) ≡ false) → xs ≡ filter (λ x. not (p x)) xs
all_left p [] none = refl
all_left p (x ∷ xs) none =
    ap (λ l. x ∷ l) (all_left p xs (λ j d h. none (suc j) d (omega (arith, h))))
    ∙ ap (λ b. cond (not b) (x ∷ filter (λ y. not (p y)) xs) (filter (λ y. not (p y)) xs)) (sym (none 0 x (omega arith)))

one_out : {A : Type 0} (p : A → Bool) (xs : List A) (i : ℕ) → i < length xs → ((d : A) → p (slice_index_or xs i d) ≡ true)
    → ((j : ℕ) (d : A) → j ≢ i → j < length xs → p (slice_index_or xs j d) ≡ false) → remove xs i ≡ filter (λ x. not (p x)) xs
one_out p [] i within passes others = absurd (omega arith)
one_out p (x ∷ xs) zero within passes others =
    all_left p xs (λ j d h. others (suc j) d (λ e. absurd (cc)) (omega (arith, h)))
    ∙ ap (λ b. cond (not b) (x ∷ filter (λ y. not (p y)) xs) (filter (λ y. not (p y)) xs)) (sym (passes x))
one_out p (x ∷ xs) (suc i) within passes others =
    ap (λ l. x ∷ l) (one_out p xs i (omega (arith, within)) passes (λ j d differs h. others (suc j) d (λ e. differs (omega (arith, e))) (omega (arith, h))))
    ∙ ap (λ b. cond (not b) (x ∷ filter (λ y. not (p y)) xs) (filter (λ y. not (p y)) xs)) (sym (others 0 x (λ e. absurd (cc)) (omega arith)))

-- the record of a stream goes, and each other stays
pub record_goes : (s : StreamsState) (stream : ℕ) → AllPairs (λ (x y : StreamRecord). ¬ (x.number ≡ y.number)) s.records → (without s stream).records ≡ filter (λ y. not (y.number == stream)) s.records
record_goes s stream apart = by (place_of stream s.records) refl where
  other : (i j : ℕ) (d : StreamRecord) → place_of stream s.records ≡ Some i → j ≢ i → j < length s.records → is_stream stream (slice_index_or s.records j d) ≡ false
  other i j d e differs within = by_order (leb_tells j i) where
    here : (i < length s.records) × ((slice_index_or s.records i d).number ≡ stream)
    here = let p = position-Some (is_stream stream) s.records i d e in (p.0, eqb-true (slice_index_or s.records i d).number stream p.1)

    by_order : ((nat_le j i ≡ true) × (j ≤ i)) ⊎ ((nat_le j i ≡ false) × (i < j)) → is_stream stream (slice_index_or s.records j d) ≡ false
    by_order (inl h) = let most = h.1 in ne_eqb (slice_index_or s.records j d).number stream (λ f. apart j i d (omega (arith, most, differs)) here.0 (f ∙ sym here.1))
    by_order (inr h) = ne_eqb (slice_index_or s.records j d).number stream (λ f. apart i j d h.1 within (here.1 ∙ sym f))

  by : (o : Option ℕ) → place_of stream s.records ≡ o → remove_place s.records o ≡ filter (λ y. not (is_stream stream y)) s.records
  by None e =
      all_left (is_stream stream) s.records
      (λ j d h. none_at (is_stream stream) s.records j d (missed_any (is_stream stream) s.records (missed (is_stream stream) s.records e)) h)
  by (Some i) e = one_out (is_stream stream) s.records i (position-Some (is_stream stream) s.records i no_record e).0 (λ d. (position-Some (is_stream stream) s.records i d e).1) (λ j d differs h. other i j d e differs h)

-- ---- a closing

pub ends_outside : (n : NodeState) (stream : ℕ) (mark : Mark) → IsBoundedNode n → EndsOutside n stream mark (drop_record (with_sessions n (after_mark n.sessions stream mark)) stream)
unfolding drop_record with_sessions
ends_outside n stream mark k = record {
  session = λ place x is going. marks n stream place x mark k is going;
  none = λ none. unmarked n.sessions stream mark (order n.sessions k.sessions) (λ place x at on. none place x (record { at = at; on = on }));
  records = record_goes n.streams stream k.apart;
  rest = refl;
}

closes : (n : NodeState) (stream : ℕ) → IsBoundedNode n → ClosingDoes n stream reply.Taken (after_closed n stream)
unfolding after_closed
closes n stream k = by (has_record n.streams stream) (recorded n.streams stream) where
  by : (b : Bool) → Decides b ((y : StreamRecord) × (record_of n.streams stream ≡ Some y)) → ClosingDoes n stream reply.Taken (cond b (broken n stream) n)
  by true d = record {
    taken = refl;
    without = λ e. let h = d.0 refl in let clash : None ≡ Some h.0 = sym e ∙ h.1 in absurd (cc);
    closes = λ y e. ends_outside n stream Closed k;
  }
  by false d = record { taken = refl; without = λ e. refl; closes = λ y e. absurd (not_from_Decides false d refl (y, e)) }

closing : (n after : NodeState) (stream : ℕ) (r : Reply) → IsBoundedNode n → r ≡ reply.Taken → after ≡ after_closed n stream → ClosingDoes n stream r after
closing n after stream r k e f = subst (λ (q : Reply). ClosingDoes n stream q after) (sym e) (subst (ClosingDoes n stream reply.Taken) (sym f) (closes n stream k))

pub closings_are_taken : ClosingsAreTaken
closings_are_taken n after now stream x r k s = closing (begin n now) after stream r (begin_kept n now k) s.acts.0 s.acts.1

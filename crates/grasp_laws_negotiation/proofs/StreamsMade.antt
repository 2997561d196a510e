-- The streams of a network after a step: those that were there, of which more was said, and those that the step dialled.
use Rattle.std.proofs.Common.{◌≡◌, ◌≤◌, ℕ, zero, suc, ◌+◌, ◌==◌, Bool, true, false, cond, List, [], ◌∷◌, ◌++◌, ◌⊎◌, inl, inr, Option, Some, None, is_some, length, slice_get, refl, sym, ap, ◌∙◌, subst, arith}
use Rattle.std.proofs.lemmas.List.{length-append, length-map}
use Rattle.std.proofs.lemmas.Option.{none-some, same_Some}
use Rattle.std.proofs.lemmas.List.Sums.{sum_by-cons}
use Rattle.grasp_model_node.specs.Queue.{Queued, datagram, dial, send}
use Rattle.grasp_laws_node_stories.specs.StreamMoves.{sends_on}
use Rattle.grasp_types.specs.declared.address.Locator.{Locator}
use Rattle.grasp_types.specs.declared.message.Message.{Message}
use Rattle.grasp_session.specs.Conversation.{Said, says}
use Rattle.grasp_session.specs.Messages.{Side, Near}
use Rattle.grasp_laws_network.proofs.EachNode.{IsMade, is_made}
use Rattle.grasp_model_network.specs.Sending.{streams_made}
use Rattle.grasp_model_network.specs.Streams.{StreamEnd, StreamState, has_end, count_at_end, side_of_end, with_said, changed_by, at_end, change_at_end, fresh_stream}
use Rattle.grasp_model_network.specs.World.{end_of}
use Rattle.grasp_laws_delivery.proofs.OnePlace.{as_one}
use Rattle.grasp_laws_delivery.proofs.Sides.{end_found, place_kept, place_changed}
use Rattle.grasp_laws_delivery.specs.Saying.{queued_for}
use Rattle.grasp_laws_negotiation.proofs.Standing.{NoStream}
use Rattle.grasp_laws_negotiation.proofs.TalkRuns.{joined}
use Rattle.grasp_laws_negotiation.proofs.TalkSteps.{onto}
use Rattle.grasp_laws_negotiation.proofs.Voices.{voices, voiced, same_here}

-- a stream on which these outputs of a node are said
abbrev pub with_voices : ℕ → List Queued → StreamState → StreamState
with_voices node qs t = record t { said = joined (voices node t.near t.far qs) t.said }

-- a stream that was there before these outputs, with what they say on it added
pub record MadeOld (node : ℕ) (qs : List Queued) (ts : List StreamState) (place : ℕ) (u : StreamState) : Type 0 where
  pub before : StreamState
  pub stands : slice_get ts place ≡ Some before
  pub made : u ≡ with_voices node qs before

-- a stream that one of these outputs dials, with what the outputs behind that one say on it
pub record MadeNew (node : ℕ) (qs : List Queued) (count place : ℕ) (u : StreamState) : Type 0 where
  pub stream : ℕ
  pub to : Locator
  pub before : List Queued
  pub behind : List Queued
  pub parts : qs ≡ before ++ dial stream to ∷ behind
  pub made : u ≡ with_voices node behind (fresh_stream (end_of node stream) to)
  pub place_is : count ≤ place

module _ (node : ℕ) where
  said_one : (qs : List Queued) (m : Message) (t : StreamState) (o : Option Side)
      → with_voices node qs (changed_by (with_said m) t o) ≡ record t { said = joined (voiced o m (voices node t.near t.far qs)) t.said }
  said_one qs m t None = refl
  said_one qs m t (Some side) = refl

  said_first : (qs : List Queued) (stream : ℕ) (m : Message) (t : StreamState) → with_voices node qs (at_end (end_of node stream) (with_said m) t) ≡ with_voices node (send stream m ∷ qs) t
  said_first qs stream m t = said_one qs m t (side_of_end (end_of node stream) t)

  pushed : (ts : List StreamState) (t b : StreamState) (place : ℕ) → slice_get (ts ++ t ∷ []) place ≡ Some b → (slice_get ts place ≡ Some b) ⊎ ((b ≡ t) × (length ts ≤ place))
  pushed [] t b zero is = inr (sym (same_Some t b is), omega arith)
  pushed [] t b (suc place) is = absurd (none-some b is)
  pushed (x ∷ xs) t b zero is = inl is
  pushed (x ∷ xs) t b (suc place) is = by_rest (pushed xs t b place is) where
    by_rest : (slice_get xs place ≡ Some b) ⊎ ((b ≡ t) × (length xs ≤ place)) → (slice_get xs place ≡ Some b) ⊎ ((b ≡ t) × (length (x ∷ xs) ≤ suc place))
    by_rest (inl e) = inl e
    by_rest (inr p) = inr (p.0, more (length xs) place p.1) where
      more : (a b : ℕ) → a ≤ b → suc a ≤ suc b
      more a b h = omega arith

  behind_one : (q : Queued) (qs : List Queued) (count place : ℕ) (u : StreamState) → MadeNew node qs count place u → MadeNew node (q ∷ qs) count place u
  behind_one q qs count place u n = record {
    stream = n.stream;
    to = n.to;
    before = q ∷ n.before;
    behind = n.behind;
    parts = ap (λ (l : List Queued). q ∷ l) n.parts;
    made = n.made;
    place_is = n.place_is;
  }

  fewer : (qs : List Queued) (a b place : ℕ) (u : StreamState) → a ≤ b → MadeNew node qs b place u → MadeNew node qs a place u
  fewer qs a b place u h n = let low : b ≤ place = n.place_is in record { stream = n.stream; to = n.to; before = n.before; behind = n.behind; parts = n.parts; made = n.made; place_is = omega (arith, h, low) }

  pub made_from : (qs : List Queued) (ts : List StreamState) (place : ℕ) (u : StreamState) → slice_get (streams_made node ts qs) place ≡ Some u
      → MadeOld node qs ts place u ⊎ MadeNew node qs (length ts) place u
  unfolding streams_made
  made_from [] ts place u is = inl (record { before = u; stands = is; made = refl })
  made_from (datagram link to m ∷ qs) ts place u is = by_rest (made_from qs ts place u is) where
    by_rest : MadeOld node qs ts place u ⊎ MadeNew node qs (length ts) place u → MadeOld node (datagram link to m ∷ qs) ts place u ⊎ MadeNew node (datagram link to m ∷ qs) (length ts) place u
    by_rest (inl o) = inl (record { before = o.before; stands = o.stands; made = o.made })
    by_rest (inr n) = inr (behind_one (datagram link to m) qs (length ts) place u n)
  made_from (dial stream to ∷ qs) ts place u is = by_rest (made_from qs (ts ++ fresh_stream (end_of node stream) to ∷ []) place u is) where
    by_push : (o : MadeOld node qs (ts ++ fresh_stream (end_of node stream) to ∷ []) place u)
        → (slice_get ts place ≡ Some o.before) ⊎ ((o.before ≡ fresh_stream (end_of node stream) to) × (length ts ≤ place))
        → MadeOld node (dial stream to ∷ qs) ts place u ⊎ MadeNew node (dial stream to ∷ qs) (length ts) place u
    by_push o (inl e) = inl (record { before = o.before; stands = e; made = o.made })
    by_push o (inr p) = inr (record {
      stream = stream;
      to = to;
      before = [];
      behind = qs;
      parts = refl;
      made = o.made ∙ ap (λ t. with_voices node qs t) p.0;
      place_is = p.1;
    })

    by_rest : MadeOld node qs (ts ++ fresh_stream (end_of node stream) to ∷ []) place u ⊎ MadeNew node qs (length (ts ++ fresh_stream (end_of node stream) to ∷ [])) place u
        → MadeOld node (dial stream to ∷ qs) ts place u ⊎ MadeNew node (dial stream to ∷ qs) (length ts) place u
    by_rest (inl o) = by_push o (pushed ts (fresh_stream (end_of node stream) to) o.before place o.stands)
    by_rest (inr n) =
        let longer : length (ts ++ fresh_stream (end_of node stream) to ∷ []) ≡ length ts + 1 = length-append ts (fresh_stream (end_of node stream) to ∷ []) in
        inr (behind_one (dial stream to) qs (length ts) place u (fewer qs (length ts) (length (ts ++ fresh_stream (end_of node stream) to ∷ [])) place u (omega (arith, longer)) n))
  made_from (send stream m ∷ qs) ts place u is = by_rest (made_from qs (change_at_end ts (end_of node stream) (with_said m)) place u is) where
    by_made : (o : MadeOld node qs (change_at_end ts (end_of node stream) (with_said m)) place u) → IsMade (at_end (end_of node stream) (with_said m)) ts place o.before → MadeOld node (send stream m ∷ qs) ts place u
    by_made o k = record {
      before = k.of;
      stands = k.stands;
      made = o.made ∙ (ap (λ t. with_voices node qs t) (sym k.made) ∙ said_first qs stream m k.of);
    }

    by_rest : MadeOld node qs (change_at_end ts (end_of node stream) (with_said m)) place u ⊎ MadeNew node qs (length (change_at_end ts (end_of node stream) (with_said m))) place u
        → MadeOld node (send stream m ∷ qs) ts place u ⊎ MadeNew node (send stream m ∷ qs) (length ts) place u
    by_rest (inl o) = inl (by_made o (is_made (at_end (end_of node stream) (with_said m)) ts place o.before o.stands))
    by_rest (inr n) = inr (behind_one (send stream m) qs (length ts) place u
        (subst (λ k. MadeNew node qs k place u) (length-map ts (at_end (end_of node stream) (with_said m))) n))

  -- each stream stays at its place
  pub made_stays : (qs : List Queued) (ts : List StreamState) (place : ℕ) (t : StreamState) → slice_get ts place ≡ Some t → slice_get (streams_made node ts qs) place ≡ Some (with_voices node qs t)
  unfolding streams_made
  made_stays [] ts place t is = is
  made_stays (datagram link to m ∷ qs) ts place t is = made_stays qs ts place t is
  made_stays (dial stream to ∷ qs) ts place t is = made_stays qs (ts ++ fresh_stream (end_of node stream) to ∷ []) place t (place_kept ts (fresh_stream (end_of node stream) to ∷ []) place t is)
  made_stays (send stream m ∷ qs) ts place t is =
      made_stays qs (change_at_end ts (end_of node stream) (with_said m)) place (at_end (end_of node stream) (with_said m) t) (place_changed ts (end_of node stream) (with_said m) place t is)
      ∙ ap (λ x. Some x) (said_first qs stream m t)

  -- ---- what is said on a stream that isn't opened yet

  pub voices_onto : (a : ℕ) (qs : List Queued) (c : List Said) → joined (voices node (end_of node a) None qs) c ≡ onto Near (sends_on a qs) c
  voices_onto a [] c = refl
  voices_onto a (datagram link to m ∷ qs) c = voices_onto a qs c
  voices_onto a (dial stream to ∷ qs) c = voices_onto a qs c
  voices_onto a (send stream m ∷ qs) c =
      ap (λ b. joined (voiced (cond b (Some Near) None) m (voices node (end_of node a) None qs)) c) (same_here node stream a) ∙ by_test (λ k. voices_onto a qs k) (stream == a) where
        by_test : ((k : List Said) → joined (voices node (end_of node a) None qs) k ≡ onto Near (sends_on a qs) k) → (b : Bool) → joined (voiced (cond b (Some Near) None) m (voices node (end_of node a) None qs)) c ≡ onto Near (cond b (m ∷ sends_on a qs) (sends_on a qs)) c
        by_test rest true = rest (says Near m ∷ c)
        by_test rest false = rest c

-- ---- what is queued for a stream

pub same_sends : (stream : ℕ) (qs : List Queued) → queued_for stream qs ≡ sends_on stream qs
same_sends stream [] = refl
same_sends stream (datagram link to m ∷ qs) = same_sends stream qs
same_sends stream (dial other to ∷ qs) = same_sends stream qs
same_sends stream (send other m ∷ qs) = ap (λ (l : List Message). cond (other == stream) (m ∷ l) l) (same_sends stream qs)

-- ---- how many streams have an end

count_first : (e : StreamEnd) (t : StreamState) (ts : List StreamState) → count_at_end (t ∷ ts) e ≡ cond (has_end e t) 1 0 + count_at_end ts e
count_first e t ts = sum_by-cons (λ x. cond (has_end e x) 1 0) t ts

counted : (e : StreamEnd) (ts : List StreamState) (i : ℕ) (t : StreamState) → slice_get ts i ≡ Some t → has_end e t ≡ true → 1 ≤ count_at_end ts e
counted e [] i t is has = absurd (none-some t is)
counted e (x ∷ xs) zero t is has =
    let c : count_at_end (x ∷ xs) e ≡ cond (has_end e x) 1 0 + count_at_end xs e = count_first e x xs in
    let one : 1 ≤ cond (has_end e x) 1 0 = as_one (has_end e x) (ap (has_end e) (same_Some x t is) ∙ has) in
    omega (arith, c, one)
counted e (x ∷ xs) (suc i) t is has =
    let c : count_at_end (x ∷ xs) e ≡ cond (has_end e x) 1 0 + count_at_end xs e = count_first e x xs in
    let more : 1 ≤ count_at_end xs e = counted e xs i t is has in
    omega (arith, c, more)

no_two : (e : StreamEnd) (x : StreamState) (xs : List StreamState) (j : ℕ) (u : StreamState) → count_at_end (x ∷ xs) e ≤ 1 → has_end e x ≡ true → slice_get xs j ≡ Some u → has_end e u ≡ true → ⊥
no_two e x xs j u few first is has =
    let c : count_at_end (x ∷ xs) e ≡ cond (has_end e x) 1 0 + count_at_end xs e = count_first e x xs in
    let one : 1 ≤ cond (has_end e x) 1 0 = as_one (has_end e x) first in
    let more : 1 ≤ count_at_end xs e = counted e xs j u is has in
    omega (arith, few, c, one, more)

-- where at most one stream has an end, two with it are at one place
pub one_place : (e : StreamEnd) (ts : List StreamState) (i j : ℕ) (t u : StreamState) → count_at_end ts e ≤ 1 → slice_get ts i ≡ Some t → has_end e t ≡ true → slice_get ts j ≡ Some u → has_end e u ≡ true → i ≡ j
one_place e [] i j t u few a f b g = absurd (none-some t a)
one_place e (x ∷ xs) zero zero t u few a f b g = refl
one_place e (x ∷ xs) zero (suc j) t u few a f b g = absurd (no_two e x xs j u few (ap (has_end e) (same_Some x t a) ∙ f) b g)
one_place e (x ∷ xs) (suc i) zero t u few a f b g = absurd (no_two e x xs i t few (ap (has_end e) (same_Some x u b) ∙ g) a f)
one_place e (x ∷ xs) (suc i) (suc j) t u few a f b g =
    let c : count_at_end (x ∷ xs) e ≡ cond (has_end e x) 1 0 + count_at_end xs e = count_first e x xs in
    ap suc (one_place e xs i j t u (omega (arith, few, c)) a f b g)

no_side : (o : Option Side) → o ≡ None → ◌≡◌ {A = ℕ} (cond (is_some o) 1 0) 0
no_side None e = refl
no_side (Some side) e = absurd (none-some side (sym e))

-- what no stream has is counted nowhere
pub none_counted : (e : StreamEnd) (ts : List StreamState) → NoStream ts e → count_at_end ts e ≡ 0
none_counted e [] none = refl
none_counted e (t ∷ ts) none = by_side (none_counted e ts (λ i u is. none (suc i) u is)) (side_of_end e t) refl where
  by_side : count_at_end ts e ≡ 0 → (o : Option Side) → side_of_end e t ≡ o → count_at_end (t ∷ ts) e ≡ 0
  by_side rest None is =
      let c : count_at_end (t ∷ ts) e ≡ cond (is_some (side_of_end e t)) 1 0 + count_at_end ts e = count_first e t ts in
      let z : ◌≡◌ {A = ℕ} (cond (is_some (side_of_end e t)) 1 0) 0 = no_side (side_of_end e t) is in
      let r : count_at_end ts e ≡ 0 = rest in
      omega (arith, c, z, r)
  by_side rest (Some side) is = absurd (none 0 t refl side (end_found t e side is))

-- The streams that a step of a node dials: they stand behind the others, and wait for their dials.
use Rattle.std.proofs.Common.{◌≡◌, ◌≢◌, ◌≤◌, ◌+◌, ◌*◌, ◌==◌, inl, inr, refl, sym, ap, ◌∙◌, arith, ℕ, suc, Bool, true, false, cond, List, [], ◌∷◌, ◌++◌, None, append_assoc, append-nil}
use Rattle.grasp_cbor.proofs.Facts.Numbers.{plus_none, one_more}
use Rattle.grasp_laws_network.proofs.Routing.{not_equal, is_itself}
use Rattle.grasp_model_node.specs.Queue.{Queued, datagram, dial, send}
use Rattle.grasp_types.specs.declared.address.Locator.{Locator}
use Rattle.grasp_laws_node.specs.Dials.{evens_from}
use Rattle.grasp_laws_node.specs.Sends.{Follows}
use Rattle.grasp_model_network.specs.Plans.{IsNode}
use Rattle.grasp_model_network.specs.Sending.{streams_made}
use Rattle.grasp_model_network.specs.Setting.{Setting}
use Rattle.grasp_model_network.specs.Streams.{StreamEnd, StreamState, fresh_stream, change_at_end, with_said}
use Rattle.grasp_model_network.specs.World.{end_of}
use Rattle.grasp_laws_delivery.specs.Heads.{Head, head_of, heads, has_number, HasFar, nears_at}
use Rattle.grasp_laws_delivery.specs.Kept.{IsQueuedDial, HeadWaits, GoodHead}
use Rattle.grasp_laws_delivery.specs.Ready.{Every}
use Rattle.grasp_laws_delivery.proofs.EndMaps.{said_keeps, change_keeps, heads_append}

-- the streams that these outputs dial
abbrev pub made_heads : ℕ → List Queued → List Head
made_heads node [] = []
made_heads node (datagram link to m ∷ qs) = made_heads node qs
made_heads node (dial stream to ∷ qs) = record { near = end_of node stream; to = to; number = None; far = None } ∷ made_heads node qs
made_heads node (send stream m ∷ qs) = made_heads node qs

pub talks_made_heads : (node : ℕ) (qs : List Queued) (ts : List StreamState) → heads (streams_made node ts qs) ≡ heads ts ++ made_heads node qs
unfolding streams_made
talks_made_heads node [] ts = sym (append-nil (heads ts))
talks_made_heads node (datagram link to m ∷ qs) ts = talks_made_heads node qs ts
talks_made_heads node (dial stream to ∷ qs) ts =
    let t : StreamState = fresh_stream (end_of node stream) to in
    talks_made_heads node qs (ts ++ t ∷ []) ∙ (ap (λ hs. hs ++ made_heads node qs) (heads_append ts (t ∷ [])) ∙ append_assoc (heads ts) (head_of t ∷ []) (made_heads node qs))
talks_made_heads node (send stream m ∷ qs) ts =
    talks_made_heads node qs (change_at_end ts (end_of node stream) (with_said m)) ∙ ap (λ hs. hs ++ made_heads node qs) (change_keeps (with_said m) (said_keeps m) (end_of node stream) ts)

-- ---- their near ends

pub nears_append : (node : ℕ) (hs ks : List Head) → nears_at node (hs ++ ks) ≡ nears_at node hs ++ nears_at node ks
nears_append node [] ks = refl
nears_append node (h ∷ hs) ks = by_node (h.near.node == node) (nears_append node hs ks) where
  by_node : (b : Bool) → nears_at node (hs ++ ks) ≡ nears_at node hs ++ nears_at node ks
      → cond b (h.near.number ∷ nears_at node (hs ++ ks)) (nears_at node (hs ++ ks)) ≡ cond b (h.near.number ∷ nears_at node hs) (nears_at node hs) ++ nears_at node ks
  by_node true rest = ap (λ xs. h.near.number ∷ xs) rest
  by_node false rest = rest

-- even numbers up to this one
pub record Evens (d e : ℕ) (xs : List ℕ) : Type 0 where
  pub count : ℕ
  pub sum : e ≡ d + count
  pub same : xs ≡ evens_from d count

module _ (P : ℕ → Type 0) (node : ℕ) where
  pub made_nears : (qs : List Queued) (d e : ℕ) → Follows P d qs e → Evens d e (nears_at node (made_heads node qs))
  made_nears [] d e h = record { count = 0; sum = h ∙ plus_none d; same = refl }
  made_nears (datagram link to m ∷ qs) d e h = made_nears qs d e h
  made_nears (dial stream to ∷ qs) d e h =
      let rest : Evens (d + 1) e (nears_at node (made_heads node qs)) = made_nears qs (d + 1) e h.1 in
      record {
        count = suc rest.count;
        sum = one_more d e rest.count rest.sum;
        same = ap (λ b. cond b (stream ∷ nears_at node (made_heads node qs)) (nears_at node (made_heads node qs))) (is_itself node)
            ∙ (ap (λ x. x ∷ nears_at node (made_heads node qs)) h.0 ∙ ap (λ xs. (2 * d) ∷ xs) rest.same);
      }
  made_nears (send stream m ∷ qs) d e h = made_nears qs d e h.1

  -- the streams that these outputs dial wait for dials that are queued
  pub made_wait : (sent : ℕ) (front qs : List Queued) (d e : ℕ) → sent ≤ d → Follows P d qs e → ((stream : ℕ) (to : Locator) → IsQueuedDial stream to qs → IsQueuedDial stream to front)
      → Every (HeadWaits node sent front) (made_heads node qs)
  made_wait sent front [] d e low h inside = tt
  made_wait sent front (datagram link to m ∷ qs) d e low h inside = made_wait sent front qs d e low h inside
  made_wait sent front (dial stream to ∷ qs) d e low h inside =
      (λ at. (omega (arith, low, h.0), inside stream to (inl (refl, refl))), made_wait sent front qs (d + 1) e (omega (arith, low)) h.1 (λ next peer q. inside next peer (inr q)))
  made_wait sent front (send stream m ∷ qs) d e low h inside = made_wait sent front qs d e low h.1 inside

  pub made_good : (s : Setting) (nodes dials : ℕ) → IsNode nodes node → (qs : List Queued) (d e : ℕ) → Follows P d qs e → Every (GoodHead s nodes dials) (made_heads node qs)
  made_good s nodes dials member [] d e h = tt
  made_good s nodes dials member (datagram link to m ∷ qs) d e h = made_good s nodes dials member qs d e h
  made_good s nodes dials member (dial stream to ∷ qs) d e h =
      (record { member = member; even = omega (arith, h.0); dialled = tt; opened = tt }, made_good s nodes dials member qs (d + 1) e h.1)
  made_good s nodes dials member (send stream m ∷ qs) d e h = made_good s nodes dials member qs d e h.1

-- ---- elsewhere

pub made_elsewhere : (node other : ℕ) → other ≢ node → (qs : List Queued) → nears_at other (made_heads node qs) ≡ []
made_elsewhere node other apart [] = refl
made_elsewhere node other apart (datagram link to m ∷ qs) = made_elsewhere node other apart qs
made_elsewhere node other apart (dial stream to ∷ qs) =
    ap (λ b. cond b (stream ∷ nears_at other (made_heads node qs)) (nears_at other (made_heads node qs))) (not_equal node other (λ same. apart (sym same)))
    ∙ made_elsewhere node other apart qs
made_elsewhere node other apart (send stream m ∷ qs) = made_elsewhere node other apart qs

pub elsewhere_waits : (node other : ℕ) → other ≢ node → (sent : ℕ) (front qs : List Queued) → Every (HeadWaits other sent front) (made_heads node qs)
elsewhere_waits node other apart sent front [] = tt
elsewhere_waits node other apart sent front (datagram link to m ∷ qs) = elsewhere_waits node other apart sent front qs
elsewhere_waits node other apart sent front (dial stream to ∷ qs) = (λ at. absurd (apart (sym at)), elsewhere_waits node other apart sent front qs)
elsewhere_waits node other apart sent front (send stream m ∷ qs) = elsewhere_waits node other apart sent front qs

pub made_unnumbered : (node k : ℕ) (qs : List Queued) → Every (λ h. has_number k h ≡ false) (made_heads node qs)
made_unnumbered node k [] = tt
made_unnumbered node k (datagram link to m ∷ qs) = made_unnumbered node k qs
made_unnumbered node k (dial stream to ∷ qs) = (refl, made_unnumbered node k qs)
made_unnumbered node k (send stream m ∷ qs) = made_unnumbered node k qs

pub far_more : (e : StreamEnd) (hs ks : List Head) → HasFar e hs → HasFar e (hs ++ ks)
far_more e [] ks f = absurd f
far_more e (h ∷ hs) ks (inl is) = inl is
far_more e (h ∷ hs) ks (inr f) = inr (far_more e hs ks f)

-- The beginning of a step: sessions time out, and nothing else happens on a stream.
use Rattle.std.proofs.Common.{◌≡◌, ℕ, zero, suc, ◌&&◌, nat_le, Option, None, Some, refl, ◌∙◌}
use Rattle.grasp_discovery.specs.Discoveries as discovery
use Rattle.grasp_flood.specs.Floods as flood
use Rattle.grasp_laws_session.proofs.Runs.{calls_in_order}
use Rattle.grasp_laws_session.proofs.Streams.{is_least}
use Rattle.grasp_session.specs.Sessions.{due, expire_reply, after_expire, mark_at}
use Rattle.grasp_session.specs.Talk.{Expires}
use Rattle.grasp_session.specs.Transcript.{Expired, is_going, deadline_of}
use Rattle.grasp_types.specs.declared.session.Handle.{Handle}
use Rattle.grasp_laws_node.proofs.Bounded.Moves.{reading_kept}
use Rattle.grasp_laws_node.proofs.Bounded.Nodes.{expired_kept}
use Rattle.grasp_model_node.specs.Begin.{expire_on, expired, discoveries_expired, floods_expired, begin}
use Rattle.grasp_model_node.specs.Moves.{with_reading, with_sessions, with_discoveries, with_floods, begin_closing}
use Rattle.grasp_model_node.specs.Node.{NodeState}
use Rattle.grasp_model_node.specs.BoundedNodes.{IsBoundedNode}
use Rattle.grasp_laws_node_stories.proofs.Acting.{marks}
use Rattle.grasp_laws_node_stories.proofs.Parts.{Quietly, and_then, itself, reads, discovers, floods, closes, other_sessions}

expires : (stream : ℕ) (n : NodeState) → IsBoundedNode n → Quietly stream n (with_sessions n (after_expire n.sessions n.reading))
expires stream n k = by_handle (due n.sessions n.reading) refl where
  by_handle : (v : Option Handle) → due n.sessions n.reading ≡ v → Quietly stream n (with_sessions n (mark_at n.sessions (Expired n.reading) v))
  by_handle None e = other_sessions stream n n.sessions refl
  by_handle (Some h) e =
      let l = is_least n.sessions (λ y. is_going y.view && nat_le (deadline_of y.view) n.reading) h e in
      marks stream n (Expires n.reading) h l.state (calls_in_order n.sessions k.sessions) l.at

expires_on : (stream : ℕ) (n : NodeState) (o : Option ℕ) → IsBoundedNode n → Quietly stream n (expire_on n o)
expires_on stream n None k = itself stream n
expires_on stream n (Some on) k =
    let m : NodeState = with_sessions n (after_expire n.sessions n.reading) in
    and_then stream n m (begin_closing m on) (expires stream n k) (closes stream m on)

all_expire : (stream count : ℕ) (n : NodeState) → IsBoundedNode n → Quietly stream n (expired count n)
unfolding expired
all_expire stream zero n k = itself stream n
all_expire stream (suc count) n k =
    and_then stream n (expired count n) (expire_on (expired count n) (expire_reply (expired count n).sessions (expired count n).reading)) (all_expire stream count n k)
    (expires_on stream (expired count n) (expire_reply (expired count n).sessions (expired count n).reading) (expired_kept count n k))

pub begins : (stream : ℕ) (n : NodeState) (now : ℕ) → IsBoundedNode n → Quietly stream n (begin n now)
unfolding begin
begins stream n now k =
    let a : NodeState = with_reading n now in
    let b : NodeState = expired 64 a in
    let c : NodeState = discoveries_expired b in
    and_then stream n a (floods_expired c) (reads stream n now)
    (and_then stream a b (floods_expired c) (all_expire stream 64 a (reading_kept n now k))
    (and_then stream b c (floods_expired c) (discovers stream b (discovery.after_expiry b.discoveries b.reading)) (floods stream c (flood.after_expiry c.floods c.reading))))

dialled_on : (n : NodeState) (o : Option ℕ) → (expire_on n o).streams.dialled ≡ n.streams.dialled
unfolding with_sessions begin_closing
dialled_on n None = refl
dialled_on n (Some on) = refl

all_dialled : (count : ℕ) (n : NodeState) → (expired count n).streams.dialled ≡ n.streams.dialled
unfolding expired
all_dialled zero n = refl
all_dialled (suc count) n = dialled_on (expired count n) (expire_reply (expired count n).sessions (expired count n).reading) ∙ all_dialled count n

-- the beginning of a step dials nothing
pub begins_dialled : (n : NodeState) (now : ℕ) → (begin n now).streams.dialled ≡ n.streams.dialled
unfolding begin with_discoveries with_floods with_reading
begins_dialled n now = all_dialled 64 (with_reading n now)

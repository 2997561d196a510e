-- What a node dials from some state on: the next streams alone.
use Rattle.std.proofs.Common.{◌≡◌, ℕ, suc, ◌+◌, ◌*◌, List, [], ◌∷◌, ◌++◌, refl, ap, ◌∙◌}
use Rattle.grasp_cbor.proofs.Facts.Numbers.{plus_none, one_more}
use Rattle.grasp_model_node.specs.Node.{NodeState}
use Rattle.grasp_model_node.specs.Queue.{Queued, datagram, send, dial}
use Rattle.grasp_laws_node.specs.Dials.{dialled_in, evens_from}
use Rattle.grasp_laws_node.specs.Sends.{Follows}
use Rattle.grasp_laws_node.proofs.Addressed.Moves.{Knows}

pub dialled_append : (xs ys : List Queued) → dialled_in (xs ++ ys) ≡ dialled_in xs ++ dialled_in ys
dialled_append [] ys = refl
dialled_append (datagram link to m ∷ xs) ys = dialled_append xs ys
dialled_append (dial stream to ∷ xs) ys = ap (λ q. stream ∷ q) (dialled_append xs ys)
dialled_append (send stream m ∷ xs) ys = dialled_append xs ys

-- so many streams from the next one on
pub record DialsFrom (d : ℕ) (qs : List Queued) (e : ℕ) : Type 0 where
  pub count : ℕ
  pub counted : e ≡ d + count
  pub dials : dialled_in qs ≡ evens_from d count

pub follows_dials : (P : ℕ → Type 0) (qs : List Queued) (d e : ℕ) → Follows P d qs e → DialsFrom d qs e
follows_dials P [] d e f = record { count = 0; counted = f ∙ plus_none d; dials = refl }
follows_dials P (datagram link to m ∷ qs) d e f = let r = follows_dials P qs d e f in record { count = r.count; counted = r.counted; dials = r.dials }
follows_dials P (dial stream to ∷ qs) d e f =
    let r : DialsFrom (d + 1) qs e = follows_dials P qs (d + 1) e f.1 in
    record { count = suc r.count; counted = one_more d e r.count r.counted; dials = ap (λ x. x ∷ dialled_in qs) f.0 ∙ ap (λ xs. (2 * d) ∷ xs) r.dials }
follows_dials P (send stream m ∷ qs) d e f = let r = follows_dials P qs d e f.1 in record { count = r.count; counted = r.counted; dials = r.dials }

-- ---- a node that has dialled the next streams of the base

pub record Dials (base n : NodeState) : Type 0 where
  pub more : List Queued
  pub queued : n.queue ≡ base.queue ++ more
  pub count : ℕ
  pub counted : n.streams.dialled ≡ base.streams.dialled + count
  pub dials : dialled_in more ≡ evens_from base.streams.dialled count

pub knows_dials : (P : ℕ → Type 0) (base n : NodeState) → Knows P base n → Dials base n
knows_dials P base n k =
    let d = follows_dials P k.more base.streams.dialled n.streams.dialled k.follows in record { more = k.more; queued = k.queued; count = d.count; counted = d.counted; dials = d.dials }

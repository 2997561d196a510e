-- Nothing is queued for a stream before its dial.
use Rattle.std.proofs.Common.{◌≡◌, refl, sym, ap, subst, ℕ, ◌==◌, Bool, true, false, cond, List, [], ◌∷◌, ◌++◌, append_assoc, append-nil}
use Rattle.std.proofs.lemmas.Bool.{ne_eqb, eq-eqb}
use Rattle.grasp_model_node.specs.Queue.{Queued, datagram, dial, send}
use Rattle.grasp_types.specs.declared.message.Message.{Message}
use Rattle.grasp_laws_delivery.specs.Saying.{queued_for}

-- ---- what is queued for a stream

pub queued_append : (stream : ℕ) (xs ys : List Queued) → queued_for stream (xs ++ ys) ≡ queued_for stream xs ++ queued_for stream ys
queued_append stream [] ys = refl
queued_append stream (datagram link to m ∷ xs) ys = queued_append stream xs ys
queued_append stream (dial other to ∷ xs) ys = queued_append stream xs ys
queued_append stream (send other m ∷ xs) ys = by_test (other == stream) (queued_append stream xs ys) where
  by_test : (b : Bool) → queued_for stream (xs ++ ys) ≡ queued_for stream xs ++ queued_for stream ys
      → cond b (m ∷ queued_for stream (xs ++ ys)) (queued_for stream (xs ++ ys)) ≡ cond b (m ∷ queued_for stream xs) (queued_for stream xs) ++ queued_for stream ys
  by_test true e = ap (λ ms. m ∷ ms) e
  by_test false e = e

pub queued_here : (stream : ℕ) (m : Message) → queued_for stream (send stream m ∷ []) ≡ m ∷ []
queued_here stream m = let same = eq-eqb stream stream refl in rw same refl

pub queued_elsewhere : (stream other : ℕ) (m : Message) → ¬ (other ≡ stream) → queued_for stream (send other m ∷ []) ≡ []
queued_elsewhere stream other m n = let differs = ne_eqb other stream n in rw differs refl

-- ---- dials

-- nothing was queued before for a stream whose dial is queued now
abbrev pub IsFresh : List Queued → Queued → Type 0
IsFresh before (datagram link to m) = Unit {0}
IsFresh before (dial stream to) = queued_for stream before ≡ []
IsFresh before (send stream m) = Unit {0}

-- for each dial among these outputs nothing was queued for its stream before it, among them or before them
abbrev pub DialsAreFresh : List Queued → List Queued → Type 0
DialsAreFresh before [] = Unit {0}
DialsAreFresh before (q ∷ qs) = IsFresh before q × DialsAreFresh (before ++ q ∷ []) qs

pub fresh_behind : (before xs ys : List Queued) → DialsAreFresh before (xs ++ ys) → DialsAreFresh (before ++ xs) ys
fresh_behind before [] ys f = subst (λ (qs : List Queued). DialsAreFresh qs ys) (sym (append-nil before)) f
fresh_behind before (x ∷ xs) ys f = subst (λ (qs : List Queued). DialsAreFresh qs ys) (append_assoc before (x ∷ []) xs) (fresh_behind (before ++ x ∷ []) xs ys f.1)

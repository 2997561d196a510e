-- After so many of its sessions have left as there are places, an agent has none.
use Rattle.std.proofs.Common.{◌≡◌, ℕ, zero, suc, ◌+◌, ◌≤◌, Bool, true, false, cond, ◌==◌, ◌⊎◌, inl, inr, List, [], ◌∷◌, length, Option, Some, None, slice_index_or, slice_set, refl, ap, ◌∙◌, subst, arith}
use Rattle.std.proofs.lemmas.Bool.{eq-eqb}
use Rattle.grasp_session.specs.Says.{IsAt, LookUpSays}
use Rattle.grasp_session.specs.Sessions.{SessionState, Sessions, session_at, stream_reply, after_remove, owner_reply}
use Rattle.grasp_laws_session.proofs.Streams.{is_least, oldest_least}
use Rattle.grasp_types.specs.declared.session.Handle.{Handle}
use Rattle.grasp_model_node.specs.Moves.{with_sessions, begin_closing}
use Rattle.grasp_model_node.specs.Node.{NodeState}
use Rattle.grasp_model_node.specs.RegistryCalls.{close_stream, without_session, without_sessions}

close_same : (n : NodeState) (o : Option ℕ) → (close_stream n o).sessions ≡ n.sessions
unfolding begin_closing
close_same n None = refl
close_same n (Some stream) = refl

set_same : (n : NodeState) (z : Sessions) → (with_sessions n z).sessions ≡ z
unfolding with_sessions
set_same n z = refl

leaves_place : (n : NodeState) (h : Handle) (x : SessionState) → session_at n.sessions h ≡ Some x → (without_session n (Some h)).sessions.places ≡ slice_set n.sessions.places h.place None
leaves_place n h x e =
    let left : (after_remove n.sessions h).places ≡ slice_set n.sessions.places h.place None = rw e refl in
    ap (λ (z : Sessions). z.places) (close_same (with_sessions n (after_remove n.sessions h)) (stream_reply n.sessions h) ∙ set_same n (after_remove n.sessions h)) ∙ left

abbrev weighs : ℕ → Option SessionState → ℕ
weighs asa None = 0
weighs asa (Some x) = cond (x.owner == asa) 1 0

-- how many sessions an agent has
abbrev counts : ℕ → List (Option SessionState) → ℕ
counts asa [] = 0
counts asa (o ∷ l) = weighs asa o + counts asa l

weighs_few : (asa : ℕ) (o : Option SessionState) → weighs asa o ≤ 1
weighs_few asa None = omega arith
weighs_few asa (Some x) = by_test (x.owner == asa) where
  by_test : (b : Bool) → cond b 1 0 ≤ 1
  by_test true = omega arith
  by_test false = omega arith

counts_few : (asa : ℕ) (l : List (Option SessionState)) → counts asa l ≤ length l
counts_few asa [] = omega arith
counts_few asa (o ∷ l) = let e = weighs_few asa o in let f = counts_few asa l in omega (arith, e, f)

counts_emptied : (asa : ℕ) (l : List (Option SessionState)) (place : ℕ) (x : SessionState) → slice_index_or l place None ≡ Some x → x.owner == asa ≡ true → counts asa (slice_set l place None) + 1 ≡ counts asa l
counts_emptied asa [] place x e f = absurd (cc)
counts_emptied asa (o ∷ l) zero x e f = let a : weighs asa o ≡ 1 = ap (weighs asa) e ∙ ap (λ b. cond b 1 0) f in omega (arith, a)
counts_emptied asa (o ∷ l) (suc place) x e f = let a = counts_emptied asa l place x e f in omega (arith, a)

counts_some : (asa : ℕ) (l : List (Option SessionState)) (place : ℕ) (x : SessionState) → slice_index_or l place None ≡ Some x → x.owner == asa ≡ true → 1 ≤ counts asa l
counts_some asa [] place x e f = absurd (cc)
counts_some asa (o ∷ l) zero x e f = let a : weighs asa o ≡ 1 = ap (weighs asa) e ∙ ap (λ b. cond b 1 0) f in omega (arith, a)
counts_some asa (o ∷ l) (suc place) x e f = let a = counts_some asa l place x e f in omega (arith, a)

counts_none : (asa : ℕ) (l : List (Option SessionState)) → ((place : ℕ) (x : SessionState) → slice_index_or l place None ≡ Some x → x.owner == asa ≡ false) → counts asa l ≡ 0
counts_none asa [] f = refl
counts_none asa (None ∷ l) f = let e = counts_none asa l (λ place x g. f (suc place) x g) in omega (arith, e)
counts_none asa (Some x ∷ l) f =
    let a : weighs asa (Some x) ≡ 0 = ap (λ b. cond b 1 0) (f zero x refl) in
    let e = counts_none asa l (λ place x g. f (suc place) x g) in
    omega (arith, a, e)

-- one more has left, or none was there
one_leaves : (n : NodeState) (asa : ℕ) (o : Option Handle) → owner_reply n.sessions asa ≡ o
    → (counts asa (without_session n o).sessions.places ≡ 0) ⊎ (counts asa (without_session n o).sessions.places + 1 ≡ counts asa n.sessions.places)
one_leaves n asa None e =
    let says : LookUpSays n.sessions (λ x. x.owner == asa) None = subst (LookUpSays n.sessions (λ x. x.owner == asa)) e (oldest_least n.sessions (λ x. x.owner == asa)) in
    inl (counts_none asa n.sessions.places says)
one_leaves n asa (Some h) e =
    let l = is_least n.sessions (λ x. x.owner == asa) h e in
    inr (ap (λ (p : List (Option SessionState)). counts asa p + 1) (leaves_place n h l.state l.at) ∙ counts_emptied asa n.sessions.places h.place l.state l.place l.passes)

all_leave : (count : ℕ) (n : NodeState) (asa : ℕ) → (counts asa (without_sessions count n asa).sessions.places ≡ 0) ⊎ (counts asa (without_sessions count n asa).sessions.places + count ≤ counts asa n.sessions.places)
unfolding without_sessions
all_leave zero n asa = inr (omega arith)
all_leave (suc count) n asa = by_case (one_leaves m asa (owner_reply m.sessions asa) refl) (all_leave count n asa) where
  m : NodeState
  m = without_sessions count n asa

  after : ℕ
  after = counts asa (without_session m (owner_reply m.sessions asa)).sessions.places

  by_case : (after ≡ 0) ⊎ (after + 1 ≡ counts asa m.sessions.places) → (counts asa m.sessions.places ≡ 0) ⊎ (counts asa m.sessions.places + count ≤ counts asa n.sessions.places)
      → (after ≡ 0) ⊎ (after + suc count ≤ counts asa n.sessions.places)
  by_case (inl e) f = inl e
  by_case (inr e) (inl f) = absurd (omega (arith, e, f))
  by_case (inr e) (inr f) = inr (omega (arith, e, f))

-- no session of the agent is left
pub none_owned : (n : NodeState) (asa : ℕ) → length n.sessions.places ≡ 64 → (place : ℕ) (x : SessionState) → IsAt (without_sessions 64 n asa).sessions place x → x.owner ≡ asa → ⊥
none_owned n asa long place x at e = by_case (all_leave 64 n asa) where
  some : 1 ≤ counts asa (without_sessions 64 n asa).sessions.places
  some = counts_some asa (without_sessions 64 n asa).sessions.places place x at (eq-eqb x.owner asa e)

  few : counts asa n.sessions.places ≤ 64
  few = let a = counts_few asa n.sessions.places in omega (arith, a, long)

  by_case : (counts asa (without_sessions 64 n asa).sessions.places ≡ 0) ⊎ (counts asa (without_sessions 64 n asa).sessions.places + 64 ≤ counts asa n.sessions.places) → ⊥
  by_case (inl f) = absurd (omega (arith, some, f))
  by_case (inr f) = absurd (omega (arith, some, few, f))

-- What the declines of different untaken sessions queue, one after the other.
use Rattle.std.proofs.Common.{◌≡◌, ◌≢◌, ◌<◌, ◌≤◌, ◌+◌, ◌-◌, ◌&&◌, ℕ, zero, suc, Bool, true, false, cond, List, [], ◌∷◌, ◌++◌, length, map, take, None, is_ok, slice_set, slice_index_or, refl, sym, ap, ◌∙◌, arith}
use Rattle.std.proofs.lemmas.Bool.{leb-true, leb-false, eq-eqb}
use Rattle.std.proofs.lemmas.List.{append-nil, append_assoc, length-append, get_or-set_other}
use Rattle.grasp_laws_leaving.proofs.Listed.{IsOf, AreOf}
use Rattle.grasp_laws_leaving.specs.InTurn.{decline_sent}
use Rattle.grasp_model_node.specs.Declines.{Declining, unlistened, declined_for, may_decline, declined, removed, after_decline, after_declines}
use Rattle.grasp_model_node.specs.Moves.{with_sessions, begin_closing, queue_up}
use Rattle.grasp_model_node.specs.Node.{NodeState}
use Rattle.grasp_model_node.specs.Queue.{Queued, send, has_room}
use Rattle.grasp_session.proofs.Facts.{end_leaves}
use Rattle.grasp_session.specs.Made.{IsFresh}
use Rattle.grasp_session.specs.Sessions.{SessionState, Sessions, after_remove, after_say, changed, check_reply, if_number, is_leaving, with_transcript}
use Rattle.grasp_session.specs.Transcript.{SayEnd, having_said, is_going, is_mine}
use Rattle.grasp_session.specs.declared.answer.Act.TheVariants as act

-- ---- what is so of each session

abbrev pub Each : {X : Type 0} → (X → Type 0) → List X → Type 0
Each P [] = Unit {0}
Each P (x ∷ xs) = P x × Each P xs

pub each_both : {X : Type 0} (P : X → Type 0) (xs ys : List X) → Each P xs → Each P ys → Each P (xs ++ ys)
each_both P [] ys a b = b
each_both P (x ∷ xs) ys a b = (a.0, each_both P xs ys a.1 b)

abbrev pub IsNew : SessionState → Type 0
IsNew x = IsFresh x.view

-- no other decline has the place
abbrev pub Apart : List Declining → Type 0
Apart [] = Unit {0}
Apart (d ∷ ds) = Each (λ (e : Declining). e.handle.place ≢ d.handle.place) ds × Apart ds

-- ---- one decline

-- an untaken session with its request alone may be declined
may_end : (z : Sessions) (d : Declining) (x : SessionState) → IsOf z d x → IsNew x → is_ok (check_reply z 0 d.handle act.End) ≡ true
may_end z d x of new =
    let going : is_going x.view ≡ true = ap is_going new.fresh in
    let mine : is_mine x.view ≡ true = ap is_mine new.fresh in
    rw (of.at, eq-eqb x.owner 0 of.owner, going, mine) refl

may_is : (n : NodeState) (d : Declining) (x : SessionState) → IsOf n.sessions d x → IsNew x → may_decline n d.handle ≡ has_room n.queue 1
may_is n d x of new = ap (λ b. has_room n.queue 1 && b) (may_end n.sessions d x of new) ∙ and_true (has_room n.queue 1) where
  and_true : (b : Bool) → (b && true) ≡ b
  and_true true = refl
  and_true false = refl

changed_leaves : (z : Sessions) (d : Declining) (y : SessionState) → is_leaving y ≡ true → (changed z d.handle y).places ≡ slice_set z.places d.handle.place None
changed_leaves z d y e = rw e refl

said_places : (z : Sessions) (now : ℕ) (d : Declining) (x : SessionState) → IsOf z d x → (after_say z now d.handle (SayEnd (declined_for unlistened))).places ≡ slice_set z.places d.handle.place None
said_places z now d x of =
    let e = of.at in rw e (changed_leaves z d (with_transcript x (having_said x.view now (SayEnd (declined_for unlistened)))) (end_leaves x now (declined_for unlistened) of.owner))

removed_places : (z : Sessions) (d : Declining) (x : SessionState) → IsOf z d x → (after_remove z d.handle).places ≡ slice_set z.places d.handle.place None
removed_places z d x of = let e = of.at in rw e refl

pub places_by : (n : NodeState) (d : Declining) (x : SessionState) (b : Bool) → IsOf n.sessions d x → (begin_closing (cond b (declined n d) (removed n d.handle)) d.stream).sessions.places ≡ slice_set n.sessions.places d.handle.place None
unfolding with_sessions begin_closing queue_up
places_by n d x true of = said_places n.sessions n.reading d x of
places_by n d x false of = removed_places n.sessions d x of

queue_by : (n : NodeState) (d : Declining) (b : Bool) → (begin_closing (cond b (declined n d) (removed n d.handle)) d.stream).queue ≡ cond b (n.queue ++ send d.stream d.message ∷ []) n.queue
unfolding with_sessions begin_closing queue_up
queue_by n d true = refl
queue_by n d false = refl

-- another decline's session is where and as it was
still_of : (z w : Sessions) (d e : Declining) (x : SessionState) → w.places ≡ slice_set z.places d.handle.place None → e.handle.place ≢ d.handle.place → IsOf z e x → IsOf w e x
still_of z w d e x set other of = record {
  at =
      ap (if_number (λ (y : SessionState). y.number) e.handle.number)
      (ap (λ l. slice_index_or l e.handle.place None) set ∙ get_or-set_other z.places d.handle.place e.handle.place None None other)
      ∙ of.at;
  owner = of.owner;
  stream = of.stream;
  message = of.message;
}

pub all_still : (z w : Sessions) (d : Declining) (ds : List Declining) (xs : List SessionState) → w.places ≡ slice_set z.places d.handle.place None → Each (λ (e : Declining). e.handle.place ≢ d.handle.place) ds
    → AreOf z ds xs → AreOf w ds xs
all_still z w d [] [] set others of = tt
all_still z w d [] (x ∷ xs) set others of = absurd of
all_still z w d (e ∷ ds) [] set others of = absurd of
all_still z w d (e ∷ ds) (x ∷ xs) set others of = (still_of z w d e x set others.0 of.0, all_still z w d ds xs set others.1 of.1)

-- ---- one after the other

-- as many as there is room for
abbrev queued : List Queued → List SessionState → List Queued
queued queue xs = queue ++ take (256 - length queue) (map decline_sent xs)

take_none : {X : Type 0} (k : ℕ) (xs : List X) → k ≡ 0 → take k xs ≡ []
take_none zero xs e = refl
take_none (suc k) xs e = absurd (omega (arith, e))

take_one : {X : Type 0} (k m : ℕ) (x : X) (xs : List X) → k ≡ suc m → take k (x ∷ xs) ≡ x ∷ take m xs
take_one k m x xs e = ap (λ i. take i (x ∷ xs)) e

-- one more where there is room
with_one : (queue : List Queued) (x : SessionState) (xs : List SessionState) → length queue + 1 ≤ 256 → queued (queue ++ decline_sent x ∷ []) xs ≡ queued queue (x ∷ xs)
with_one queue x xs room =
    let long : length (queue ++ decline_sent x ∷ []) ≡ length queue + 1 = length-append queue (decline_sent x ∷ []) in
    let less : 256 - length queue ≡ suc (256 - length (queue ++ decline_sent x ∷ [])) = omega (arith, room, long) in
    append_assoc queue (decline_sent x ∷ []) (take (256 - length (queue ++ decline_sent x ∷ [])) (map decline_sent xs))
    ∙ ap (λ l. queue ++ l) (sym (take_one (256 - length queue) (256 - length (queue ++ decline_sent x ∷ [])) (decline_sent x) (map decline_sent xs) less))

-- and none where there is none
with_none : (queue : List Queued) (x : SessionState) (xs : List SessionState) → 256 < length queue + 1 → queued queue xs ≡ queued queue (x ∷ xs)
with_none queue x xs full =
    let none : 256 - length queue ≡ 0 = omega (arith, full) in
    ap (λ l. queue ++ l) (take_none (256 - length queue) (map decline_sent xs) none ∙ sym (take_none (256 - length queue) (map decline_sent (x ∷ xs)) none))

sent_is : (z : Sessions) (d : Declining) (x : SessionState) → IsOf z d x → send d.stream d.message ≡ decline_sent x
sent_is z d x of = ap (λ stream. send stream d.message) of.stream ∙ ap (λ m. send x.stream m) of.message

pub all_queued : (n : NodeState) (ds : List Declining) (xs : List SessionState) → AreOf n.sessions ds xs → Each IsNew xs → Apart ds → (after_declines n ds).queue ≡ n.queue ++ take (256 - length n.queue) (map decline_sent xs)
unfolding after_declines
all_queued n [] [] of new apart = sym (none_left (256 - length n.queue)) where
  none_left : (k : ℕ) → n.queue ++ take k (map decline_sent []) ≡ n.queue
  none_left zero = append-nil n.queue
  none_left (suc k) = append-nil n.queue
all_queued n [] (x ∷ xs) of new apart = absurd of
all_queued n (d ∷ ds) [] of new apart = absurd of
all_queued n (d ∷ ds) (x ∷ xs) of new apart =
    all_queued (after_decline n d) ds xs (all_still n.sessions (after_decline n d).sessions d ds xs (places_by n d x (may_decline n d.handle) of.0) apart.0 of.1) new.1 apart.1
    ∙ first (has_room n.queue 1) refl where
      same_queue : (b : Bool) → has_room n.queue 1 ≡ b → (after_decline n d).queue ≡ cond b (n.queue ++ send d.stream d.message ∷ []) n.queue
      same_queue b e = queue_by n d (may_decline n d.handle) ∙ ap (λ c. cond c (n.queue ++ send d.stream d.message ∷ []) n.queue) (may_is n d x of.0 new.0 ∙ e)

      first : (b : Bool) → has_room n.queue 1 ≡ b → queued (after_decline n d).queue xs ≡ queued n.queue (x ∷ xs)
      first true e =
          ap (λ q. queued q xs) (same_queue true e ∙ ap (λ (s : Queued). n.queue ++ s ∷ []) (sent_is n.sessions d x of.0)) ∙ with_one n.queue x xs (leb-true (length n.queue + 1) 256 e)
      first false e = ap (λ q. queued q xs) (same_queue false e) ∙ with_none n.queue x xs (leb-false (length n.queue + 1) 256 e)

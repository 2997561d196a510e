-- After the declines of an objective none of its untaken sessions is left, and every other session is where and as it was.
use Rattle.std.proofs.Common.{◌≡◌, ◌≢◌, ℕ, zero, suc, ◌+◌, ◌<◌, ◌≤◌, Bool, true, false, cond, ◌&&◌, ◌==◌, nat_lt, ◌⊎◌, inl, inr, List, [], ◌∷◌, length, Option, Some, None, slice_index_or, slice_set, refl, sym, ap, ◌∙◌, subst, arith}
use Rattle.std.specs.Str.{bytes_eq}
use Rattle.std.proofs.lemmas.Bool.{true≢false, false≢true, eq-eqb, eqb-true, lt-ltb, ltb-true, and_parts, and_from}
use Rattle.std.proofs.lemmas.Bool.Decides.{eqb_tells}
use Rattle.std.proofs.lemmas.List.{get_or-set_other}
use Rattle.std.proofs.lemmas.Slice.Eq.{bytes_eq-Decides}
use Rattle.grasp_session.specs.Runs.{Reached, AreInOrder}
use Rattle.grasp_session.specs.Says.{IsAt, IsLeast, LookUpSays}
use Rattle.grasp_session.specs.Sessions.{SessionState, Sessions, session_at, with_transcript, is_leaving, changed, after_say, after_remove, untaken_above_reply}
use Rattle.grasp_session.specs.Transcript.{SayEnd, having_said, request_of}
use Rattle.grasp_laws_session.proofs.Runs.{calls_in_order, set_some, some_state}
use Rattle.grasp_laws_session.proofs.Streams.{is_least, oldest_least}
use Rattle.grasp_session.proofs.Facts.{at_handle as at_session, end_leaves}
use Rattle.grasp_session.proofs.Tables.{state_slot}
use Rattle.grasp_types.specs.declared.message.Verdict.{Verdict}
use Rattle.grasp_types.specs.declared.session.Handle.{Handle}
use Rattle.grasp_model_node.specs.Declines.{Declining, declines_of, declines_above, decline_at, next_decline, declined_for, unlistened, may_decline, declined, removed, after_decline, after_declines}
use Rattle.grasp_laws_node.specs.Means.{IsUntaken}
use Rattle.grasp_laws_node.specs.MeansRegistry.{OnlyUntakenLeave}
use Rattle.grasp_model_node.specs.Moves.{with_sessions, begin_closing, queue_up}
use Rattle.grasp_model_node.specs.Node.{NodeState}
use Rattle.grasp_laws_node.proofs.Meaning.Acts.{number_at}

-- ---- one decline

-- the places after the session at a handle has left, where there is one
abbrev emptied : List (Option SessionState) → Handle → Option SessionState → List (Option SessionState)
emptied l h None = l
emptied l h (Some x) = slice_set l h.place None

changed_leaves : (z : Sessions) (h : Handle) (y : SessionState) → is_leaving y ≡ true → (changed z h y).places ≡ slice_set z.places h.place None
changed_leaves z h y e = rw e refl

said_places : (z : Sessions) (now : ℕ) (h : Handle) (verdict : Verdict) (o : Option SessionState) → session_at z h ≡ o → ((x : SessionState) → o ≡ Some x → x.owner ≡ 0) → (after_say z now h (SayEnd verdict)).places ≡ emptied z.places h o
said_places z now h verdict None e f = rw e refl
said_places z now h verdict (Some x) e f = rw e (changed_leaves z h (with_transcript x (having_said x.view now (SayEnd verdict))) (end_leaves x now verdict (f x refl)))

removed_places : (z : Sessions) (h : Handle) (o : Option SessionState) → session_at z h ≡ o → (after_remove z h).places ≡ emptied z.places h o
removed_places z h None e = rw e refl
removed_places z h (Some x) e = rw e refl

decline_by : (n : NodeState) (d : Declining) (o : Option SessionState) (b : Bool) → session_at n.sessions d.handle ≡ o → ((x : SessionState) → o ≡ Some x → x.owner ≡ 0)
    → (begin_closing (cond b (declined n d) (removed n d.handle)) d.stream).sessions.places ≡ emptied n.sessions.places d.handle o
unfolding with_sessions begin_closing queue_up
decline_by n d o true e f = said_places n.sessions n.reading d.handle (declined_for unlistened) o e f
decline_by n d o false e f = removed_places n.sessions d.handle o e

decline_places : (n : NodeState) (d : Declining) (o : Option SessionState) → session_at n.sessions d.handle ≡ o → ((x : SessionState) → o ≡ Some x → x.owner ≡ 0)
    → (after_decline n d).sessions.places ≡ emptied n.sessions.places d.handle o
decline_places n d o e f = decline_by n d o (may_decline n d.handle) e f

-- every session of these is one of those, at its place
abbrev Within : Sessions → Sessions → Type 0
Within y z = (place : ℕ) (x : SessionState) → IsAt y place x → IsAt z place x

within_at : (y z : Sessions) (h : Handle) (x : SessionState) → Within y z → session_at y h ≡ Some x → session_at z h ≡ Some x
within_at y z h x w e = at_session z h x (w h.place x (state_slot y h x e)) (number_at y h x e)

emptied_within : (l : List (Option SessionState)) (h : Handle) (o : Option SessionState) (place : ℕ) (x : SessionState) → slice_index_or (emptied l h o) place None ≡ Some x → slice_index_or l place None ≡ Some x
emptied_within l h None place x e = e
emptied_within l h (Some y) place x e = by_case (set_some l h.place None place x e) where
  by_case : ((place ≡ h.place) × (None ≡ Some x)) ⊎ ((place ≢ h.place) × (slice_index_or l place None ≡ Some x)) → slice_index_or l place None ≡ Some x
  by_case (inl i) = let e = i.1 in absurd (cc)
  by_case (inr i) = i.1

module _ (name : List ℕ) where
  -- where a session is at the handle of a decline, it is an untaken one of the objective
  abbrev AreUntaken : Sessions → List Declining → Type 0
  AreUntaken z [] = Unit {0}
  AreUntaken z (d ∷ ds) = ((x : SessionState) → session_at z d.handle ≡ Some x → IsUntaken name x) × AreUntaken z ds

  still_untaken : (y z : Sessions) (ds : List Declining) → Within y z → AreUntaken z ds → AreUntaken y ds
  still_untaken y z [] w f = tt
  still_untaken y z (d ∷ ds) w f = ((λ x e. f.0 x (within_at y z d.handle x w e)), still_untaken y z ds w f.1)

  places_are : (n : NodeState) (d : Declining) → ((x : SessionState) → session_at n.sessions d.handle ≡ Some x → IsUntaken name x)
      → (after_decline n d).sessions.places ≡ emptied n.sessions.places d.handle (session_at n.sessions d.handle)
  places_are n d f = decline_places n d (session_at n.sessions d.handle) refl (λ x e. (f x e).owner)

  one_within : (n : NodeState) (d : Declining) → ((x : SessionState) → session_at n.sessions d.handle ≡ Some x → IsUntaken name x) → Within (after_decline n d).sessions n.sessions
  one_within n d f place x at =
      emptied_within n.sessions.places d.handle (session_at n.sessions d.handle) place x (subst (λ (l : List (Option SessionState)). slice_index_or l place None ≡ Some x) (places_are n d f) at)

  all_within : (n : NodeState) (ds : List Declining) → AreUntaken n.sessions ds → Within (after_declines n ds).sessions n.sessions
  unfolding after_declines
  all_within n [] f place x at = at
  all_within n (d ∷ ds) f place x at =
      one_within n d f.0 place x (all_within (after_decline n d) ds (still_untaken (after_decline n d).sessions n.sessions ds (one_within n d f.0) f.1) place x at)

  -- ---- the session of a decline is gone

  abbrev pub Has : Handle → List Declining → Type 0
  Has h [] = ⊥
  Has h (d ∷ ds) = (d.handle ≡ h) ⊎ Has h ds

  one_gone : (n : NodeState) (d : Declining) → ((x : SessionState) → session_at n.sessions d.handle ≡ Some x → IsUntaken name x) → (x : SessionState) → session_at (after_decline n d).sessions d.handle ≡ Some x → ⊥
  one_gone n d f x e = by_places (subst (λ (o : Option SessionState). slice_index_or (emptied n.sessions.places d.handle o) d.handle.place None ≡ Some x) before now) where
    before : session_at n.sessions d.handle ≡ Some x
    before = within_at (after_decline n d).sessions n.sessions d.handle x (one_within n d f) e

    now : slice_index_or (emptied n.sessions.places d.handle (session_at n.sessions d.handle)) d.handle.place None ≡ Some x
    now = subst (λ (l : List (Option SessionState)). slice_index_or l d.handle.place None ≡ Some x) (places_are n d f) (state_slot (after_decline n d).sessions d.handle x e)

    by_case : ((d.handle.place ≡ d.handle.place) × (None ≡ Some x)) ⊎ ((d.handle.place ≢ d.handle.place) × (slice_index_or n.sessions.places d.handle.place None ≡ Some x)) → ⊥
    by_case (inl i) = let e = i.1 in absurd (cc)
    by_case (inr i) = i.0 refl

    by_places : slice_index_or (slice_set n.sessions.places d.handle.place None) d.handle.place None ≡ Some x → ⊥
    by_places g = by_case (set_some n.sessions.places d.handle.place None d.handle.place x g)

  all_gone : (n : NodeState) (ds : List Declining) → AreUntaken n.sessions ds → (h : Handle) → Has h ds → (x : SessionState) → session_at (after_declines n ds).sessions h ≡ Some x → ⊥
  unfolding after_declines
  all_gone n [] f h i x e = i
  all_gone n (d ∷ ds) f h (inl i) x e =
      let g = still_untaken (after_decline n d).sessions n.sessions ds (one_within n d f.0) f.1 in
      let s = within_at (after_declines (after_decline n d) ds).sessions (after_decline n d).sessions h x (all_within (after_decline n d) ds g) e in
      one_gone n d f.0 x (subst (λ (k : Handle). session_at (after_decline n d).sessions k ≡ Some x) (sym i) s)
  all_gone n (d ∷ ds) f h (inr i) x e = all_gone (after_decline n d) ds (still_untaken (after_decline n d).sessions n.sessions ds (one_within n d f.0) f.1) h i x e

  -- ---- every other session stays

  one_stays : (n : NodeState) (d : Declining) → ((x : SessionState) → session_at n.sessions d.handle ≡ Some x → IsUntaken name x)
      → (place : ℕ) (x : SessionState) → IsAt n.sessions place x → (IsUntaken name x → ⊥) → IsAt (after_decline n d).sessions place x
  one_stays n d f place x at other = subst (λ (l : List (Option SessionState)). slice_index_or l place None ≡ Some x) (sym (places_are n d f)) (by_state (session_at n.sessions d.handle) refl) where
    by_place : (y : SessionState) → session_at n.sessions d.handle ≡ Some y → (((place == d.handle.place) ≡ true) × (place ≡ d.handle.place)) ⊎ (((place == d.handle.place) ≡ false) × (place ≢ d.handle.place))
        → slice_index_or (slice_set n.sessions.places d.handle.place None) place None ≡ Some x
    by_place y e (inl i) =
        let here : IsAt n.sessions d.handle.place x = subst (λ k. IsAt n.sessions k x) i.1 at in
        let same : y ≡ x = some_state y x (sym (state_slot n.sessions d.handle y e) ∙ here) in
        absurd (other (subst (IsUntaken name) same (f y e)))
    by_place y e (inr i) = get_or-set_other n.sessions.places d.handle.place place None None i.1 ∙ at

    by_state : (o : Option SessionState) → session_at n.sessions d.handle ≡ o → slice_index_or (emptied n.sessions.places d.handle o) place None ≡ Some x
    by_state None e = at
    by_state (Some y) e = by_place y e (eqb_tells place d.handle.place)

  all_stay : (n : NodeState) (ds : List Declining) → AreUntaken n.sessions ds → (place : ℕ) (x : SessionState) → IsAt n.sessions place x → (IsUntaken name x → ⊥) → IsAt (after_declines n ds).sessions place x
  unfolding after_declines
  all_stay n [] f place x at other = at
  all_stay n (d ∷ ds) f place x at other =
      all_stay (after_decline n d) ds (still_untaken (after_decline n d).sessions n.sessions ds (one_within n d f.0) f.1) place x (one_stays n d f.0 place x at other) other

  -- ---- the declines of an objective are those of all its untaken sessions

  abbrev pub later : ℕ → SessionState → Bool
  later above x = nat_lt above x.number && (x.owner == 0) && bytes_eq (request_of x.view).name name

  later_is : (above : ℕ) (x : SessionState) → above < x.number → IsUntaken name x → later above x ≡ true
  later_is above x e u =
      and_from (nat_lt above x.number && (x.owner == 0)) (bytes_eq (request_of x.view).name name)
      (and_from (nat_lt above x.number) (x.owner == 0) (lt-ltb above x.number e) (eq-eqb x.owner 0 u.owner))
      ((bytes_eq-Decides (request_of x.view).name name).1 u.name_is)

  pub is_later : (above : ℕ) (x : SessionState) → later above x ≡ true → (above < x.number) × IsUntaken name x
  is_later above x e =
      let p = and_parts (nat_lt above x.number && (x.owner == 0)) (bytes_eq (request_of x.view).name name) e in
      let q = and_parts (nat_lt above x.number) (x.owner == 0) p.0 in
      (ltb-true above x.number q.0, record { owner = eqb-true x.owner 0 q.1; name_is = (bytes_eq-Decides (request_of x.view).name name).0 p.1 })

  abbrev weighs : ℕ → Option SessionState → ℕ
  weighs above None = 0
  weighs above (Some x) = cond (later above x) 1 0

  abbrev counts : ℕ → List (Option SessionState) → ℕ
  counts above [] = 0
  counts above (o ∷ l) = weighs above o + counts above l

  weighs_few : (above : ℕ) (o : Option SessionState) → weighs above o ≤ 1
  weighs_few above None = omega arith
  weighs_few above (Some x) = by_test (later above x) where
    by_test : (b : Bool) → cond b 1 0 ≤ 1
    by_test true = omega arith
    by_test false = omega arith

  counts_few : (above : ℕ) (l : List (Option SessionState)) → counts above l ≤ length l
  counts_few above [] = omega arith
  counts_few above (o ∷ l) = let e = weighs_few above o in let f = counts_few above l in omega (arith, e, f)

  weighs_less : (above number : ℕ) → above ≤ number → (o : Option SessionState) → weighs number o ≤ weighs above o
  weighs_less above number q None = omega arith
  weighs_less above number q (Some x) = by_test (later number x) (later above x) (λ e. let p = is_later number x e in later_is above x (let r = p.0 in omega (arith, q, r)) p.1) where
    by_test : (b c : Bool) → (b ≡ true → c ≡ true) → cond b 1 0 ≤ cond c 1 0
    by_test true true f = omega arith
    by_test true false f = absurd (false≢true (f refl))
    by_test false true f = omega arith
    by_test false false f = omega arith

  counts_less : (above number : ℕ) → above ≤ number → (l : List (Option SessionState)) → counts number l ≤ counts above l
  counts_less above number q [] = omega arith
  counts_less above number q (o ∷ l) = let e = weighs_less above number q o in let f = counts_less above number q l in omega (arith, e, f)

  -- the session of this number counts above a lower one alone
  counts_fewer : (above number : ℕ) → above ≤ number → (l : List (Option SessionState)) (place : ℕ) (x : SessionState) → slice_index_or l place None ≡ Some x → later above x ≡ true → later number x ≡ false
      → counts number l + 1 ≤ counts above l
  counts_fewer above number q [] place x e f g = absurd (cc)
  counts_fewer above number q (o ∷ l) zero x e f g =
      let a : weighs above o ≡ 1 = ap (weighs above) e ∙ ap (λ b. cond b 1 0) f in
      let b : weighs number o ≡ 0 = ap (weighs number) e ∙ ap (λ b. cond b 1 0) g in
      let c = counts_less above number q l in
      omega (arith, a, b, c)
  counts_fewer above number q (o ∷ l) (suc place) x e f g = let a = weighs_less above number q o in let b = counts_fewer above number q l place x e f g in omega (arith, a, b)

  counts_some : (above : ℕ) (l : List (Option SessionState)) (place : ℕ) (x : SessionState) → slice_index_or l place None ≡ Some x → later above x ≡ true → 1 ≤ counts above l
  counts_some above [] place x e f = absurd (cc)
  counts_some above (o ∷ l) zero x e f = let a : weighs above o ≡ 1 = ap (weighs above) e ∙ ap (λ b. cond b 1 0) f in omega (arith, a)
  counts_some above (o ∷ l) (suc place) x e f = let a = counts_some above l place x e f in omega (arith, a)

  module _ (z : Sessions) (order : AreInOrder z) where
    are_untaken : (k above : ℕ) → AreUntaken z (declines_above z name k above)
    unfolding declines_above
    are_untaken zero above = tt
    are_untaken (suc k) above = by_handle (untaken_above_reply z name above) refl (λ number. are_untaken k number) where
      by_state : (h : Handle) → (o : Option SessionState) → ((x : SessionState) → session_at z h ≡ Some x → IsUntaken name x) → AreUntaken z (declines_above z name k h.number)
          → session_at z h ≡ o → AreUntaken z (decline_at h o (declines_above z name k h.number))
      by_state h None f rest e = rest
      by_state h (Some x) f rest e = (f, rest)

      by_handle : (o : Option Handle) → untaken_above_reply z name above ≡ o → ((number : ℕ) → AreUntaken z (declines_above z name k number)) → AreUntaken z (next_decline z (λ number. declines_above z name k number) o)
      by_handle None e rest = tt
      by_handle (Some h) e rest =
          let l = is_least z (later above) h e in
          by_state h (session_at z h) (λ x f. subst (IsUntaken name) (some_state l.state x (sym l.at ∙ f)) (is_later above l.state l.passes).1) (rest h.number) refl

    no_later : (number : ℕ) (y : SessionState) → y.number ≤ number → later number y ≡ false
    no_later number y m = by_test (later number y) refl where
      by_test : (b : Bool) → later number y ≡ b → later number y ≡ false
      by_test true i = let p = is_later number y i in let s = p.0 in absurd (omega (arith, s, m))
      by_test false i = i

    above_least : (h : Handle) (x : SessionState) → (x.number ≢ h.number) → h.number ≤ x.number → h.number < x.number
    above_least h x ne m = omega (arith, ne, m)

    fewer_left : (k above : ℕ) (h : Handle) → counts above z.places ≤ suc k → IsLeast z (later above) h → counts h.number z.places ≤ k
    fewer_left k above h few l =
        let y = l.state in
        let p = is_later above y l.passes in
        let r = p.0 in
        let number : y.number ≡ h.number = number_at z h y l.at in
        let up : above ≤ h.number = omega (arith, r, number) in
        let fewer = counts_fewer above h.number up z.places h.place y l.place l.passes (no_later h.number y (omega (arith, number))) in
        omega (arith, few, fewer)

    same_handle : (above : ℕ) (h : Handle) (place : ℕ) (x : SessionState) → IsAt z place x → IsLeast z (later above) h → x.number ≡ h.number → h ≡ record { place = place; number = x.number }
    same_handle above h place x at l q =
        let same : place ≡ h.place = order.apart place h.place x l.state at l.place (q ∙ sym (number_at z h l.state l.at)) in
        rw (same, q) refl

    covers : (k above : ℕ) → counts above z.places ≤ k → (place : ℕ) (x : SessionState) → IsAt z place x → later above x ≡ true → Has (record { place = place; number = x.number }) (declines_above z name k above)
    unfolding declines_above
    covers zero above few place x at e = let one = counts_some above z.places place x at e in absurd (omega (arith, one, few))
    covers (suc k) above few place x at e = by_handle (untaken_above_reply z name above) refl (λ number i j. covers k number i place x at j) where
      by_state : (h : Handle) → IsLeast z (later above) h → ((number : ℕ) → counts number z.places ≤ k → later number x ≡ true → Has (record { place = place; number = x.number }) (declines_above z name k number))
          → (((x.number == h.number) ≡ true) × (x.number ≡ h.number)) ⊎ (((x.number == h.number) ≡ false) × (x.number ≢ h.number))
          → Has (record { place = place; number = x.number }) (decline_at h (session_at z h) (declines_above z name k h.number))
      by_state h l rest (inl i) =
          subst (λ (o : Option SessionState). Has (record { place = place; number = x.number }) (decline_at h o (declines_above z name k h.number))) (sym l.at) (inl (same_handle above h place x at l i.1))
      by_state h l rest (inr i) =
          let over = above_least h x i.1 (l.least place x at e) in
          subst (λ (o : Option SessionState). Has (record { place = place; number = x.number }) (decline_at h o (declines_above z name k h.number))) (sym l.at)
          (inr (rest h.number (fewer_left k above h few l) (later_is h.number x over (is_later above x e).1)))

      by_handle : (o : Option Handle) → untaken_above_reply z name above ≡ o → ((number : ℕ) → counts number z.places ≤ k → later number x ≡ true → Has (record { place = place; number = x.number }) (declines_above z name k number))
          → Has (record { place = place; number = x.number }) (next_decline z (λ number. declines_above z name k number) o)
      by_handle None f rest =
          let says : LookUpSays z (later above) None = subst (LookUpSays z (later above)) f (oldest_least z (later above)) in
          absurd (true≢false (sym e ∙ says place x at))
      by_handle (Some h) f rest = by_state h (is_least z (later above) h f) rest (eqb_tells x.number h.number)

  pub only_untaken_leave : (n : NodeState) → Reached n.sessions → OnlyUntakenLeave name n.sessions (after_declines n (declines_of n.sessions name)).sessions
  only_untaken_leave n reached = record {
    none_left = λ place x at u.
        all_gone n ds untaken (record { place = place; number = x.number }) (covers n.sessions order 64 0 few place x (within place x at) (later_is 0 x (above place x (within place x at)) u)) x
        (at_session (after_declines n ds).sessions (record { place = place; number = x.number }) x at refl);
    others_stay = λ place x at other. all_stay n ds untaken place x at other;
    none_comes = within;
  } where
    order : AreInOrder n.sessions
    order = calls_in_order n.sessions reached

    ds : List Declining
    ds = declines_of n.sessions name

    untaken : AreUntaken n.sessions ds
    untaken = are_untaken n.sessions order 64 0

    within : Within (after_declines n ds).sessions n.sessions
    within = all_within n ds untaken

    few : counts 0 n.sessions.places ≤ 64
    few = let a = counts_few 0 n.sessions.places in let b = order.long in omega (arith, a, b)

    above : (place : ℕ) (x : SessionState) → IsAt n.sessions place x → 0 < x.number
    above place x at = let p = order.numbered x (inl (place, at)) in let q = p.0 in omega (arith, q)

  -- each untaken session has its decline
  pub has_all : (n : NodeState) → Reached n.sessions → (place : ℕ) (x : SessionState) → IsAt n.sessions place x → IsUntaken name x
      → Has (record { place = place; number = x.number }) (declines_of n.sessions name) × (session_at n.sessions (record { place = place; number = x.number }) ≡ Some x)
  has_all n reached place x at u =
      let order = calls_in_order n.sessions reached in
      let numbered = order.numbered x (inl (place, at)) in
      let one = numbered.0 in
      let a = counts_few 0 n.sessions.places in
      let b = order.long in
      (covers n.sessions order 64 0 (omega (arith, a, b)) place x at (later_is 0 x (omega (arith, one)) u), at_session n.sessions (record { place = place; number = x.number }) x at refl)

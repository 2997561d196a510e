-- What becomes of the transcript of a stream where one session of a table changes, leaves or begins.
use Rattle.std.proofs.Common.{◌≡◌, ◌≢◌, ℕ, zero, suc, Bool, true, false, cond, ◌==◌, List, [], ◌∷◌, ◌++◌, ◌⊎◌, inl, inr, Option, Some, None, option_map, Ok, slice_index_or, slice_set, refl, sym, ap, ◌∙◌, arith}
use Rattle.std.specs.List.{find, filter_map}
use Rattle.std.proofs.lemmas.Bool.{ne_eqb, eq-eqb, eqb-true}
use Rattle.std.proofs.lemmas.List.{get_or-set_same}
use Rattle.grasp_laws_session.proofs.Runs.{set_some, some_state, at_below}
use Rattle.grasp_laws_session.proofs.Says.{started}
use Rattle.grasp_session.proofs.Tables.{state_slot}
use Rattle.grasp_session.specs.Runs.{AreInOrder}
use Rattle.grasp_session.specs.Says.{IsAt}
use Rattle.grasp_session.specs.Sessions.{SessionState, Sessions, begun_state, session_at, with_place, left, is_leaving, changed, start_reply, after_start}
use Rattle.grasp_session.specs.declared.begin.Begin.{Begin}
use Rattle.grasp_types.specs.declared.session.Handle.{Handle}
use Rattle.grasp_laws_node_stories.specs.StreamMoves.{view_in}

abbrev Test : Type 0
Test = SessionState → Bool

abbrev live : List (Option SessionState) → List SessionState
live l = filter_map (λ o. o) l

abbrev passes : Test → Option SessionState → Bool
passes p None = false
passes p (Some x) = p x

abbrev or_found : Option SessionState → Option SessionState → Option SessionState
or_found None b = b
or_found (Some x) b = Some x

-- ---- the first that passes

find_both : (p : Test) (l k : List SessionState) → find p (l ++ k) ≡ or_found (find p l) (find p k)
find_both p [] k = refl
find_both p (y ∷ l) k = by_test (p y) (find_both p l k) where
  by_test : (b : Bool) → find p (l ++ k) ≡ or_found (find p l) (find p k) → cond b (Some y) (find p (l ++ k)) ≡ or_found (cond b (Some y) (find p l)) (find p k)
  by_test true e = refl
  by_test false e = e

-- the one at this place is the only one that passes
find_at : (p : Test) (l : List (Option SessionState)) (i : ℕ) (x : SessionState) → slice_index_or l i None ≡ Some x → p x ≡ true
    → ((q : ℕ) (y : SessionState) → slice_index_or l q None ≡ Some y → p y ≡ true → q ≡ i) → find p (live l) ≡ Some x
find_at p [] i x e t only = absurd (cc)
find_at p (None ∷ l) zero x e t only = absurd (cc)
find_at p (None ∷ l) (suc i) x e t only = find_at p l i x e t (λ q y f g. let same = only (suc q) y f g in omega (arith, same))
find_at p (Some w ∷ l) zero x e t only = let first : p w ≡ true = ap p (some_state w x e) ∙ t in rw first e
find_at p (Some w ∷ l) (suc i) x e t only = by_test (p w) refl (find_at p l i x e t (λ q y f g. let same = only (suc q) y f g in omega (arith, same))) where
  by_test : (b : Bool) → p w ≡ b → find p (live l) ≡ Some x → cond b (Some w) (find p (live l)) ≡ Some x
  by_test true g rest = let same = only 0 w refl g in absurd (omega (arith, same))
  by_test false g rest = rest

find_none : (p : Test) (l : List (Option SessionState)) → ((q : ℕ) (y : SessionState) → slice_index_or l q None ≡ Some y → p y ≡ false) → find p (live l) ≡ None
find_none p [] none = refl
find_none p (None ∷ l) none = find_none p l (λ q y f. none (suc q) y f)
find_none p (Some w ∷ l) none = let first : p w ≡ false = none 0 w refl in rw first (find_none p l (λ q y f. none (suc q) y f))

fails_first : (p : Test) (o : Option SessionState) (l : List (Option SessionState)) → passes p o ≡ false → find p (live (o ∷ l)) ≡ find p (live l)
fails_first p None l e = refl
fails_first p (Some y) l e = rw e refl

-- what doesn't pass, before and after, is set
find_set : (p : Test) (l : List (Option SessionState)) (i : ℕ) (v : Option SessionState) → passes p (slice_index_or l i None) ≡ false → passes p v ≡ false → find p (live (slice_set l i v)) ≡ find p (live l)
find_set p [] i v e f = refl
find_set p (o ∷ l) zero v e f = fails_first p v l f ∙ sym (fails_first p o l e)
find_set p (None ∷ l) (suc i) v e f = find_set p l i v e f
find_set p (Some y ∷ l) (suc i) v e f = ap (λ o. cond (p y) (Some y) o) (find_set p l i v e f)

-- ---- the session of a stream

abbrev on : ℕ → Test
on stream x = x.stream == stream

-- a live session comes first
pub live_here : (z : Sessions) (place : ℕ) (x : SessionState) → AreInOrder z → IsAt z place x → view_in z x.stream ≡ Some x.view
live_here z place x o at =
    ap (option_map (λ (y : SessionState). y.view))
    (find_both (on x.stream) (live z.places) z.gone
    ∙ ap (λ f. or_found f (find (on x.stream) z.gone))
    (find_at (on x.stream) z.places place x at (eq-eqb x.stream x.stream refl) (λ q y f g. o.streams q place y x f at (eqb-true y.stream x.stream g))))

-- a session is set where only it lies on its stream
set_here : (z : Sessions) (made place : ℕ) (y : SessionState) → slice_index_or (slice_set z.places place (Some y)) place None ≡ Some y
    → ((q : ℕ) (w : SessionState) → IsAt z q w → w.stream ≡ y.stream → q ≡ place) → view_in (record { made = made; places = slice_set z.places place (Some y); gone = z.gone }) y.stream ≡ Some y.view
set_here z made place y there only =
    ap (option_map (λ (x : SessionState). x.view))
    (find_both (on y.stream) (live (slice_set z.places place (Some y))) z.gone
    ∙ ap (λ f. or_found f (find (on y.stream) z.gone))
    (find_at (on y.stream) (slice_set z.places place (Some y)) place y there (eq-eqb y.stream y.stream refl) (λ q w f g. by_case q w g (set_some z.places place (Some y) q w f)))) where
      by_case : (q : ℕ) (w : SessionState) → on y.stream w ≡ true → ((q ≡ place) × (Some y ≡ Some w)) ⊎ ((q ≢ place) × IsAt z q w) → q ≡ place
      by_case q w g (inl i) = i.0
      by_case q w g (inr i) = only q w i.1 (eqb-true w.stream y.stream g)

not_on : (stream : ℕ) (w : SessionState) → w.stream ≢ stream → on stream w ≡ false
not_on stream w d = ne_eqb w.stream stream d

-- a session leaves
pub left_here : (z : Sessions) (h : Handle) (x y : SessionState) → AreInOrder z → session_at z h ≡ Some x → y.stream ≡ x.stream → view_in (left z h y) x.stream ≡ Some y.view
left_here z h x y o e same =
    ap (option_map (λ (w : SessionState). w.view))
    (find_both (on x.stream) (live (slice_set z.places h.place None)) (y ∷ z.gone)
    ∙ (ap (λ f. or_found f (find (on x.stream) (y ∷ z.gone))) (find_none (on x.stream) (slice_set z.places h.place None) (λ q w f. by_case q w (set_some z.places h.place None q w f)))
    ∙ newest)) where
      at : IsAt z h.place x
      at = state_slot z h x e

      by_case : (q : ℕ) (w : SessionState) → ((q ≡ h.place) × (None ≡ Some w)) ⊎ ((q ≢ h.place) × IsAt z q w) → on x.stream w ≡ false
      by_case q w (inl i) = absurd (cc)
      by_case q w (inr i) = not_on x.stream w (λ f. i.0 (o.streams q h.place w x i.1 at f))

      newest : find (on x.stream) (y ∷ z.gone) ≡ Some y
      newest = let first : on x.stream y ≡ true = eq-eqb y.stream x.stream same in rw first refl

-- the sessions of other streams
others_set : (z : Sessions) (made place stream : ℕ) (v : Option SessionState) → passes (on stream) (slice_index_or z.places place None) ≡ false → passes (on stream) v ≡ false
    → view_in (record { made = made; places = slice_set z.places place v; gone = z.gone }) stream ≡ view_in z stream
others_set z made place stream v e f =
    ap (option_map (λ (w : SessionState). w.view))
    (find_both (on stream) (live (slice_set z.places place v)) z.gone
    ∙ (ap (λ o. or_found o (find (on stream) z.gone)) (find_set (on stream) z.places place v e f) ∙ sym (find_both (on stream) (live z.places) z.gone)))

slot_fails : (z : Sessions) (place stream : ℕ) (x : SessionState) → IsAt z place x → x.stream ≢ stream → passes (on stream) (slice_index_or z.places place None) ≡ false
slot_fails z place stream x at d = ap (passes (on stream)) at ∙ not_on stream x d

pub left_other : (z : Sessions) (h : Handle) (x y : SessionState) (stream : ℕ) → session_at z h ≡ Some x → y.stream ≡ x.stream → x.stream ≢ stream → view_in (left z h y) stream ≡ view_in z stream
left_other z h x y stream e same d =
    ap (option_map (λ (w : SessionState). w.view))
    (find_both (on stream) (live (slice_set z.places h.place None)) (y ∷ z.gone)
    ∙ (ap (λ f. or_found (find (on stream) (live (slice_set z.places h.place None))) f) skipped
    ∙ (ap (λ f. or_found f (find (on stream) z.gone)) (find_set (on stream) z.places h.place None (slot_fails z h.place stream x (state_slot z h x e) d) refl)
    ∙ sym (find_both (on stream) (live z.places) z.gone)))) where
      skipped : find (on stream) (y ∷ z.gone) ≡ find (on stream) z.gone
      skipped = let first : on stream y ≡ false = not_on stream y (λ f. d (sym same ∙ f)) in rw first refl

-- a session changes
pub placed_here : (z : Sessions) (h : Handle) (x y : SessionState) → AreInOrder z → session_at z h ≡ Some x → y.stream ≡ x.stream → view_in (with_place z h.place (Some y)) x.stream ≡ Some y.view
placed_here z h x y o e same =
    let at : IsAt z h.place x = state_slot z h x e in
    ap (view_in (with_place z h.place (Some y))) (sym same)
    ∙ set_here z z.made h.place y (get_or-set_same z.places h.place (Some y) None (at_below z.places h.place x at)) (λ q w f g. o.streams q h.place w x f at (g ∙ same))

pub placed_other : (z : Sessions) (h : Handle) (x y : SessionState) (stream : ℕ) → session_at z h ≡ Some x → y.stream ≡ x.stream → x.stream ≢ stream → view_in (with_place z h.place (Some y)) stream ≡ view_in z stream
placed_other z h x y stream e same d =
    others_set z z.made h.place stream (Some y) (slot_fails z h.place stream x (state_slot z h x e) d) (not_on stream y (λ f. d (sym same ∙ f)))

pub changed_here : (z : Sessions) (h : Handle) (x y : SessionState) → AreInOrder z → session_at z h ≡ Some x → y.stream ≡ x.stream → view_in (changed z h y) x.stream ≡ Some y.view
changed_here z h x y o e same = by_test (is_leaving y) where
  by_test : (b : Bool) → view_in (cond b (left z h y) (with_place z h.place (Some y))) x.stream ≡ Some y.view
  by_test true = left_here z h x y o e same
  by_test false = placed_here z h x y o e same

pub changed_other : (z : Sessions) (h : Handle) (x y : SessionState) (stream : ℕ) → session_at z h ≡ Some x → y.stream ≡ x.stream → x.stream ≢ stream → view_in (changed z h y) stream ≡ view_in z stream
changed_other z h x y stream e same d = by_test (is_leaving y) where
  by_test : (b : Bool) → view_in (cond b (left z h y) (with_place z h.place (Some y))) stream ≡ view_in z stream
  by_test true = left_other z h x y stream e same d
  by_test false = placed_other z h x y stream e same d

-- a session begins
pub started_here : (z : Sessions) (now : ℕ) (b : Begin) (h : Handle) → start_reply z ≡ Ok h → ((q : ℕ) (w : SessionState) → IsAt z q w → w.stream ≢ b.stream)
    → view_in (after_start z now b (Ok h)) b.stream ≡ Some (begun_state now h.number b).view
started_here z now b h e free =
    set_here z h.number h.place (begun_state now h.number b) (get_or-set_same z.places h.place (Some (begun_state now h.number b)) None (started z h e).place) (λ q w f g. absurd (free q w f g))

pub started_other : (z : Sessions) (now : ℕ) (b : Begin) (h : Handle) (stream : ℕ) → start_reply z ≡ Ok h → b.stream ≢ stream → view_in (after_start z now b (Ok h)) stream ≡ view_in z stream
started_other z now b h stream e d =
    others_set z h.number h.place stream (Some (begun_state now h.number b)) (ap (passes (on stream)) (started z h e).empty) (not_on stream (begun_state now h.number b) d)

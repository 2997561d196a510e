-- The declines of untaken sessions, one after the other.
use Rattle.std.proofs.lemmas.List.{map-append}
use Rattle.std.specs.List.{slice_get}
use Rattle.std.proofs.Common.{◌≡◌, ◌<◌, ◌≤◌, ◌+◌, ℕ, zero, suc, List, [], ◌∷◌, ◌++◌, map, drop, Option, Some, None, refl, sym, ap, ◌∙◌, add-one, append-nil, append_assoc, arith}
use Rattle.grasp_cbor.proofs.Behind.{drop_got}
use Rattle.grasp_types.specs.declared.session.Handle.{Handle}
use Rattle.grasp_session.specs.Sessions.{Sessions, SessionState, session_at, untaken_above_reply}
use Rattle.grasp_model_node.specs.Declines.{Declining, decline_at, declines_above, declines_of}
use Rattle.grasp_core.specs.Planned.{planned_as}
use Rattle.grasp_model_node.specs.RegistryCalls.{declines_for}
use Rattle.grasp_core.specs.declared.declining.Planned.{Planned}

-- no further decline is planned
pub none_left : (z : Sessions) (name : List ℕ) (left above : ℕ) → left ≤ 0 → declines_above z name left above ≡ []
unfolding declines_above
none_left z name zero above p = refl
none_left z name (suc k) above p = absurd (omega arith)

pub no_more : (z : Sessions) (name : List ℕ) (left above : ℕ) → 0 < left → None ≡ untaken_above_reply z name above → declines_above z name left above ≡ []
unfolding declines_above
no_more z name zero above p e = absurd (omega arith)
no_more z name (suc k) above p e = rw (← e) refl

at_front : (h : Handle) (o : Option SessionState) (d : Declining) (rest : List Declining) → decline_at h o [] ≡ d ∷ [] → decline_at h o rest ≡ d ∷ rest
at_front h None d rest e = absurd (cc)
at_front h (Some x) d rest e = cc

one_more_suc : (z : Sessions) (name : List ℕ) (k above : ℕ) (h : Handle) (d : Declining) → Some h ≡ untaken_above_reply z name above → decline_at h (session_at z h) [] ≡ d ∷ [] → declines_above z name (suc k) above ≡ d ∷ declines_above z name k h.number
unfolding declines_above
one_more_suc z name k above h d e f = rw (← e) (at_front h (session_at z h) d (declines_above z name k h.number) f)

-- one more is planned
pub one_more : (z : Sessions) (name : List ℕ) (ps : List Planned) (p : Planned) (left next above : ℕ) (h : Handle) (all : List Declining) → next + 1 ≡ left → Some h ≡ untaken_above_reply z name above → decline_at h (session_at z h) [] ≡ planned_as p ∷ []
    → map planned_as ps ++ declines_above z name left above ≡ all → map planned_as (ps ++ p ∷ []) ++ declines_above z name next h.number ≡ all
one_more z name ps p left next above h all q e d i =
    let s : suc next ≡ left = sym (add-one next) ∙ q in
    rw (map-append planned_as ps (p ∷ []), append_assoc (map planned_as ps) (planned_as p ∷ []) (declines_above z name next h.number))
    (ap (λ (l : List Declining). map planned_as ps ++ l) (sym (one_more_suc z name next above h (planned_as p) e d) ∙ ap (λ (m : ℕ). declines_above z name m above) s) ∙ i)

past : {X : Type 0} (xs : List X) (i : ℕ) → slice_get xs i ≡ None → drop i xs ≡ []
past [] zero e = refl
past [] (suc i) e = refl
past (x ∷ xs) zero e = absurd (cc)
past (x ∷ xs) (suc i) e = past xs i e

-- the declines of one more objective are planned
pub next_name : (z : Sessions) (names : List (List ℕ)) (i : ℕ) (name : List ℕ) (before after all : List Declining) → slice_get names i ≡ Some name → after ≡ before ++ declines_of z name → before ++ declines_for z (drop i names) ≡ all
    → after ++ declines_for z (drop (i + 1) names) ≡ all
next_name z names i name before after all s e h =
    rw (e, append_assoc before (declines_of z name) (declines_for z (drop (i + 1) names))) (ap (λ (l : List (List ℕ)). before ++ declines_for z l) (sym (drop_got names i name s)) ∙ h)

-- the declines of all objectives are planned
pub last_name : (z : Sessions) (names : List (List ℕ)) (i : ℕ) (before all : List Declining) → slice_get names i ≡ None → before ++ declines_for z (drop i names) ≡ all → before ≡ all
last_name z names i before all s h = sym (append-nil before) ∙ (ap (λ (l : List (List ℕ)). before ++ declines_for z l) (sym (past names i s)) ∙ h)

-- The sides of a stream, and what one of its ends changes.
use Rattle.std.proofs.Common.{◌≡◌, ◌≢◌, refl, sym, ap, ◌∙◌, subst, ℕ, zero, suc, Bool, true, false, cond, ◌⊎◌, inl, inr, List, [], ◌∷◌, ◌++◌, map, Option, None, Some, slice_get}
use Rattle.std.proofs.lemmas.Option.{none-some, same_Some}
use Rattle.grasp_session.specs.Messages.{Side, Near, Far}
use Rattle.grasp_laws_network.proofs.EachNode.{IsMade, is_made}
use Rattle.grasp_laws_network.proofs.Lists.{slice_map}
use Rattle.grasp_model_network.specs.Streams.{StreamEnd, StreamState, told_closed, is_same_end, is_at_end, is_waiting, end_at, side_at, sent_by, side_of_end, changed_by, at_end, change_at_end, with_side}
use Rattle.grasp_laws_delivery.proofs.Ends.{end_itself, same_ends}
use Rattle.grasp_laws_delivery.specs.Saying.{OfEachStream}

-- ---- two sides

pub sides_tell : (a b : Side) → (a ≡ b) ⊎ (a ≢ b)
sides_tell Near Near = inl refl
sides_tell Near Far = inr (λ e. cc)
sides_tell Far Near = inr (λ e. cc)
sides_tell Far Far = inl refl

-- ---- the side of an end

-- the two ends of the stream differ
abbrev pub IsDistinct : StreamState → Type 0
IsDistinct t = (e : StreamEnd) → t.far ≡ Some e → t.near ≢ e

pub end_found : (t : StreamState) (e : StreamEnd) (side : Side) → side_of_end e t ≡ Some side → end_at t side ≡ Some e
end_found t e side is = by_near (is_same_end e t.near) refl is where
  by_far : (o : Option StreamEnd) → t.far ≡ o → cond (is_at_end e o) (Some Far) None ≡ Some side → end_at t side ≡ Some e
  by_far None far found = absurd (none-some side found)
  by_far (Some f) far found = by_test (is_same_end e f) refl found where
    by_test : (b : Bool) → is_same_end e f ≡ b → cond b (Some Far) None ≡ Some side → end_at t side ≡ Some e
    by_test true same found = subst (λ (x : Side). end_at t x ≡ Some e) (same_Some Far side found) (far ∙ ap (λ x. Some x) (sym (same_ends e f same)))
    by_test false same found = absurd (none-some side found)

  by_near : (b : Bool) → is_same_end e t.near ≡ b → cond b (Some Near) (cond (is_at_end e t.far) (Some Far) None) ≡ Some side → end_at t side ≡ Some e
  by_near true same found = subst (λ (x : Side). end_at t x ≡ Some e) (same_Some Near side found) (ap (λ x. Some x) (sym (same_ends e t.near same)))
  by_near false same found = by_far t.far refl found

pub none_there : (t : StreamState) (e : StreamEnd) → side_of_end e t ≡ None → (side : Side) → end_at t side ≢ Some e
none_there t e none Near at =
    let same : is_same_end e t.near ≡ true = ap (is_same_end e) (same_Some t.near e at) ∙ end_itself e in
    none-some Near (sym none ∙ ap (λ b. cond b (Some Near) (cond (is_at_end e t.far) (Some Far) None)) same)
none_there t e none Far at = by_near (is_same_end e t.near) (sym (ap (λ b. cond (is_same_end e t.near) (Some Near) (cond b (Some Far) None)) same) ∙ none) where
  same : is_at_end e t.far ≡ true
  same = ap (is_at_end e) at ∙ end_itself e

  by_near : (b : Bool) → cond b (Some Near) (Some Far) ≡ None → ⊥
  by_near true f = none-some Near (sym f)
  by_near false f = none-some Far (sym f)

pub one_side : (t : StreamState) (e : StreamEnd) (a b : Side) → IsDistinct t → end_at t a ≡ Some e → end_at t b ≡ Some e → a ≡ b
one_side t e Near Near d x y = refl
one_side t e Near Far d x y = absurd (d e y (same_Some t.near e x))
one_side t e Far Near d x y = absurd (d e x (same_Some t.near e y))
one_side t e Far Far d x y = refl

-- the side that has the end is found
pub side_found : (t : StreamState) (e : StreamEnd) (side : Side) → end_at t side ≡ Some e → (found : Side) × (side_of_end e t ≡ Some found)
side_found t e side at = by_side (side_of_end e t) refl where
  by_side : (o : Option Side) → side_of_end e t ≡ o → (found : Side) × (o ≡ Some found)
  by_side None is = absurd (none_there t e is side at)
  by_side (Some found) is = (found, refl)

-- ---- what an end changes

pub at_end_has : (Q : StreamState → Type 0) (e : StreamEnd) (f : StreamState → Side → StreamState) (t : StreamState) → (((side : Side) → end_at t side ≢ Some e) → Q t)
    → ((side : Side) → end_at t side ≡ Some e → Q (f t side)) → Q (at_end e f t)
at_end_has Q e f t none some = by_side (side_of_end e t) refl where
  by_side : (o : Option Side) → side_of_end e t ≡ o → Q (changed_by f t o)
  by_side None is = none (none_there t e is)
  by_side (Some side) is = some side (end_found t e side is)

-- what is so of each stream, after each was changed
pub each_mapped : (P Q : StreamState → Type 0) (g : StreamState → StreamState) (ts : List StreamState) → ((t : StreamState) → P t → Q (g t)) → OfEachStream P ts → OfEachStream Q (map g ts)
each_mapped P Q g ts turn each place u found = by_made (is_made g ts place u found) where
  by_made : IsMade g ts place u → Q u
  by_made m = subst Q m.made (turn m.of (each place m.of m.stands))

-- and after one of them was
pub each_changed : (P Q : StreamState → Type 0) (ts : List StreamState) (e : StreamEnd) (f : StreamState → Side → StreamState) → ((t : StreamState) → P t → Q (at_end e f t)) → OfEachStream P ts
    → OfEachStream Q (change_at_end ts e f)
each_changed P Q ts e f turn each = each_mapped P Q (at_end e f) ts turn each

-- where something is so of each stream and of a new one, it is so of each once the new one is added behind the others
pub each_push : (P : StreamState → Type 0) (ts : List StreamState) (t : StreamState) → P t → OfEachStream P ts → OfEachStream P (ts ++ t ∷ [])
each_push P [] t p each zero u found = subst P (same_Some t u found) p
each_push P [] t p each (suc i) u found = absurd (none-some u found)
each_push P (x ∷ xs) t p each zero u found = subst P (same_Some x u found) (each zero x refl)
each_push P (x ∷ xs) t p each (suc i) u found = each_push P xs t p (λ j v g. each (suc j) v g) i u found

-- a stream keeps its place
pub place_kept : (ts us : List StreamState) (i : ℕ) (t : StreamState) → slice_get ts i ≡ Some t → slice_get (ts ++ us) i ≡ Some t
place_kept [] us i t e = absurd (none-some t e)
place_kept (x ∷ xs) us zero t e = e
place_kept (x ∷ xs) us (suc i) t e = place_kept xs us i t e

pub place_changed : (ts : List StreamState) (e : StreamEnd) (f : StreamState → Side → StreamState) (i : ℕ) (t : StreamState) → slice_get ts i ≡ Some t → slice_get (change_at_end ts e f) i ≡ Some (at_end e f t)
place_changed ts e f i t is = slice_map (at_end e f) ts i t is

-- ---- a side that is told that the stream is closed

pub closed_ends : (t : StreamState) (by side : Side) → end_at (with_side told_closed t by) side ≡ end_at t side
closed_ends t Near Near = refl
closed_ends t Near Far = refl
closed_ends t Far Near = refl
closed_ends t Far Far = refl

pub closed_sends : (t : StreamState) (by side : Side) → sent_by (with_side told_closed t by) side ≡ sent_by t side
closed_sends t Near Near = refl
closed_sends t Near Far = refl
closed_sends t Far Near = refl
closed_sends t Far Far = refl

pub closed_says : (t : StreamState) (by : Side) → (with_side told_closed t by).said ≡ t.said
closed_says t Near = refl
closed_says t Far = refl

pub closed_near : (t : StreamState) (by : Side) → (with_side told_closed t by).near ≡ t.near
closed_near t Near = refl
closed_near t Far = refl

pub closed_there : (side : Side) (t : StreamState) (by : Side) → is_waiting (side_at t side) ≡ false → is_waiting (side_at (with_side told_closed t by) side) ≡ false
closed_there Near t Near is = refl
closed_there Near t Far is = is
closed_there Far t Near is = is
closed_there Far t Far is = refl

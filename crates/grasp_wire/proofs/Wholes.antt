-- The messages that so many bytes hold whole.
use Rattle.std.proofs.Common.{◌≡◌, ℕ, ◌+◌, ◌-◌, ◌<◌, ◌≤◌, ◌^◌, nat_le, Bool, true, false, cond, List, [], ◌∷◌, ◌++◌, length, take, drop, get_or, take-append-drop, refl, sym, ap, subst, ◌∙◌, arith}
use Rattle.std.specs.Prelude.{All}
use Rattle.std.proofs.lemmas.Bool.{leb-true, leb-false}
use Rattle.std.proofs.lemmas.List.{length-append, length-take-le, take-append-le, drop_more}
use Rattle.std.proofs.Math.Seq.{take-append-add}
use Rattle.grasp_cbor.specs.Bytes.{AllBytes}
use Rattle.grasp_cbor.specs.CanGoOn.{IsItem}
use Rattle.grasp_cbor.specs.Ending.{IsPartial}
use Rattle.grasp_cbor.specs.Shortest.{shortest}
use Rattle.grasp_cbor.proofs.Cases.{item_here}
use Rattle.grasp_cbor.proofs.HeadBytes.{AllBytes-drop, AllBytes-take}
use Rattle.grasp_cbor.proofs.ShortestBytes.{shortest_bytes}
use Rattle.grasp_types.specs.Message.{item_of}
use Rattle.grasp_types.specs.declared.message.Message.{Message}
use Rattle.grasp_wire.specs.Wire.{IsWireForm}
use Rattle.grasp_wire.specs.Stream.{Splits, Divides, waiting}
use Rattle.grasp_wire.specs.Cutter.{Past, Waits}
use Rattle.grasp_wire.specs.Laws.{encoded, IsSendable, FrontsDivide}
use Rattle.grasp_wire.specs.Whole.{whole_in}
use Rattle.grasp_wire.proofs.Dividing.{all_given_at_none}
use Rattle.grasp_wire.proofs.EncodedFirst.{first_sendable, others_sendable, form_of}
use Rattle.grasp_wire.proofs.Joins.{divides_more, divides_alone}
use Rattle.grasp_wire.proofs.ReadingOn.{nothing_waits}
use Rattle.grasp_wire.proofs.ShortestForm.{sendable_encodable}

-- a front of an item that isn't all of it waits
front_waits : (s : List ℕ) (limit n : ℕ) → IsItem 16 s → AllBytes s → length s ≤ limit → n < length s → IsPartial (take n s) limit
front_waits s limit n item bytes fits l =
    let parts : take n s ++ (get_or s n 0 ∷ drop (n + 1) s) ≡ s = ap (λ x. take n s ++ x) (sym (drop_more s n 0 l)) ∙ take-append-drop n s in
    let rest : AllBytes (get_or s n 0 ∷ drop (n + 1) s) = subst AllBytes (drop_more s n 0 l) (AllBytes-drop n s bytes) in
    record {
      short = omega (arith, length-take-le n s);
      can_go_on = (get_or s n 0, drop (n + 1) s, subst (λ x. IsItem 16 x) (sym parts) item, rest);
    }

take_past : (n : ℕ) (a b : List ℕ) → length a ≤ n → take n (a ++ b) ≡ a ++ take (n - length a) b
take_past n a b l = let e : length a + (n - length a) ≡ n = omega arith in sym (ap (λ k. take k (a ++ b)) e) ∙ take-append-add a b (n - length a)

abbrev Wholes : List ℕ → ℕ → List Message → Type 0
Wholes stream limit given = (rest : List ℕ) × Divides stream limit given rest waiting

whole_more : (limit n : ℕ) (m : Message) (ms : List Message) → IsWireForm m (shortest (item_of m)) limit → length (shortest (item_of m)) ≤ n → Wholes (take (n - length (shortest (item_of m))) (encoded ms)) limit (whole_in (n - length (shortest (item_of m))) ms)
    → Wholes (take n (encoded (m ∷ ms))) limit (m ∷ whole_in (n - length (shortest (item_of m))) ms)
whole_more limit n m ms form l f =
    let s : List ℕ = shortest (item_of m) in
    (f.0, subst (λ x. Divides x limit (m ∷ whole_in (n - length s) ms) f.0 waiting) (sym (take_past n s (encoded ms) l)) (divides_more limit m s (take (n - length s) (encoded ms)) (whole_in (n - length s) ms) f.0 waiting form f.1))

whole_here : (limit n : ℕ) (m : Message) (ms : List Message) → IsWireForm m (shortest (item_of m)) limit → AllBytes (shortest (item_of m)) → n < length (shortest (item_of m)) → Wholes (take n (encoded (m ∷ ms))) limit []
whole_here limit n m ms form bytes l =
    let s : List ℕ = shortest (item_of m) in
    let w : IsPartial (take n s) limit = front_waits s limit n (item_here (item_of m) s form.encodes) bytes form.fits l in
    (take n s, subst (λ x. Divides x limit [] (take n s) waiting) (sym (take-append-le n s (encoded ms) (omega arith))) (divides_alone limit (take n s) waiting (AllBytes-take n s bytes) w))

pub whole_fronts : (ms : List Message) (limit n : ℕ) → 0 < limit → limit < 2 ^ 64 → All (IsSendable limit) ms → n ≤ length (encoded ms) → Wholes (take n (encoded ms)) limit (whole_in n ms)
whole_fronts [] limit n some l h le =
    let e : 0 ≡ n = omega arith in
    ([], subst (λ k. Divides (take k (encoded [])) limit [] [] waiting) e (divides_alone limit [] waiting tt (nothing_waits limit some)))
whole_fronts (m ∷ ms) limit n some l h le = by_test (nat_le (length (shortest (item_of m))) n) refl (whole_fronts ms limit (n - length (shortest (item_of m))) some l (others_sendable limit m ms h)) where
  one : IsSendable limit m
  one = first_sendable limit m ms h

  form : IsWireForm m (shortest (item_of m)) limit
  form = form_of limit m l one

  by_test : (b : Bool) → nat_le (length (shortest (item_of m))) n ≡ b
      → (n - length (shortest (item_of m)) ≤ length (encoded ms) → Wholes (take (n - length (shortest (item_of m))) (encoded ms)) limit (whole_in (n - length (shortest (item_of m))) ms))
      → Wholes (take n (encoded (m ∷ ms))) limit (cond b (m ∷ whole_in (n - length (shortest (item_of m))) ms) [])
  by_test true e f = whole_more limit n m ms form (leb-true (length (shortest (item_of m))) n e) (f (omega (arith, le, length-append (shortest (item_of m)) (encoded ms))))
  by_test false e f = whole_here limit n m ms form (shortest_bytes (item_of m) (sendable_encodable m limit l one.0 one.1)) (leb-false (length (shortest (item_of m))) n e)

pub given_whole : (ms : List Message) (limit n : ℕ) (past : Past) → 0 < limit → limit < 2 ^ 64 → All (IsSendable limit) ms → n ≤ length (encoded ms) → past.fed ≡ take n (encoded ms) → Waits limit past → past.given ≡ whole_in n ms
given_whole ms limit n past some l h le e w =
    let d = whole_fronts ms limit n some l h le in
    sym (all_given_at_none limit past (whole_in n ms) d.0 w (subst (λ x. Splits x limit (whole_in n ms) d.0) (sym e) d.1.splits))

-- what so many bytes hold whole are the first messages
pub whole_first : (ms : List Message) (n : ℕ) → (rest : List Message) × (ms ≡ whole_in n ms ++ rest)
whole_first [] n = ([], refl)
whole_first (m ∷ ms) n = by_test (nat_le (length (shortest (item_of m))) n) (whole_first ms (n - length (shortest (item_of m)))) where
  by_test : (b : Bool) → ((rest : List Message) × (ms ≡ whole_in (n - length (shortest (item_of m))) ms ++ rest))
      → (rest : List Message) × (m ∷ ms ≡ cond b (m ∷ whole_in (n - length (shortest (item_of m))) ms) [] ++ rest)
  by_test true r = (r.0, ap (λ (l : List Message). m ∷ l) r.1)
  by_test false r = (m ∷ ms, refl)

pub fronts : FrontsDivide
fronts ms limit n some l h le =
    let d = whole_fronts ms limit n some l h le in
    let f = whole_first ms n in
    (whole_in n ms, f.0, d.0, f.1, d.1)

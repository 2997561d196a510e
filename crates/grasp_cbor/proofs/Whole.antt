-- What was made, and that bytes encode one item.
use Rattle.std.proofs.Common.{◌≡◌, ℕ, max, List, ◌++◌, Result, Ok, Err, Some, sym, ap, ◌∙◌, arith}
use Rattle.std.specs.Prelude.{IfOk}
use Rattle.std.proofs.lemmas.List.{append_cancel_right}
use Rattle.grasp_cbor.specs.DataItem.{DataItem, depth_of}
use Rattle.grasp_cbor.specs.Encodes.{IsEncoding, Encodes}
use Rattle.grasp_cbor.specs.declared.heads.BuildError.{BuildError}
use Rattle.grasp_cbor.specs.Build.{Gives, item_at}
use Rattle.grasp_cbor.specs.Built.{IsBuilt}
use Rattle.grasp_cbor.proofs.Takes.{IsBytes, ok_is}
use Rattle.grasp_cbor.proofs.Again.{item_again}
use Rattle.grasp_cbor.proofs.Found.{item_found}

pub is_found : {X : Type 0} (item : X → DataItem) (rest : X → List ℕ) (d : ℕ) (s : List ℕ) (r : Result X BuildError) → IsBytes s → Gives (λ x. (item x, rest x)) r (item_at d s) → IfOk r (λ x. IsBuilt d s (item x) (rest x))
is_found item rest d s (Ok x) fits given = item_found d s (item x, rest x) fits given
is_found item rest d s (Err e) fits given = tt

pub one_encoded : (t u : DataItem) (s w x y : List ℕ) → IsEncoding t s → IsEncoding u w → s ++ x ≡ w ++ y → (t ≡ u) × (s ≡ w)
one_encoded t u s w x y p q e =
    let d : ℕ = max (depth_of t) (depth_of u) in
    let a : item_at d (s ++ x) ≡ Some (t, x) = item_again t d s x p (omega arith) in
    let b : item_at d (w ++ y) ≡ Some (u, y) = item_again u d w y q (omega arith) in
    let same : (t, x) ≡ (u, y) = ok_is (t, x) (u, y) (sym a ∙ ap (item_at d) e ∙ b) in
    let after : x ≡ y = ap (λ (z : DataItem × List ℕ). z.1) same in
    (ap (λ (z : DataItem × List ℕ). z.0) same, append_cancel_right s w y (ap (λ (z : List ℕ). s ++ z) (sym after) ∙ e))

pub one_encodes : (t u : DataItem) (s w x y : List ℕ) → Encodes t s → Encodes u w → s ++ x ≡ w ++ y → (t ≡ u) × (s ≡ w)
one_encodes t u s w x y p q e = one_encoded t u s w x y p.encoding q.encoding e

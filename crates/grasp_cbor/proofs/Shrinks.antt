-- Each chunk, item and pair takes a byte at least.
use Rattle.std.proofs.Common.{◌≡◌, ℕ, ◌<◌, List, [], ◌∷◌, ◌++◌, length, drop, Some, ap, refl, subst, ◌∙◌, arith}
use Rattle.std.proofs.lemmas.List.{length-append, drop_at}
use Rattle.grasp_cbor.specs.DataItem.{DataItem}
use Rattle.grasp_cbor.specs.declared.heads.StringKind.{StringKind}
use Rattle.grasp_cbor.specs.Build.{◌>>=◌, Found, alone, chunk_at, pair_with, item_at}
use Rattle.grasp_cbor.proofs.Found.{item_found}
use Rattle.grasp_cbor.proofs.Loop.{Shrinks}
use Rattle.grasp_cbor.proofs.Starts.{Starts, definite_starts, encoding_starts}
use Rattle.grasp_cbor.proofs.Takes.{IsBytes, IsBytes-drop, bind_ok, ok_is, chunk_takes}

-- what was taken begins with a byte
started : (s front rest : List ℕ) → IsBytes s → s ≡ front ++ rest → Starts front → IsBytes rest × (length rest < length s)
started s front rest fits e h =
    let some = ap length h.form in
    let all = ap length e in
    let behind : drop (length front) s ≡ rest = ap (drop (length front)) e ∙ drop_at front rest (length front) refl in
    (subst IsBytes behind (IsBytes-drop (length front) s fits), omega (arith, length-append front rest))

pub chunk_shrinks : (kind : StringKind) → Shrinks (chunk_at kind)
chunk_shrinks kind s x fits e =
    let t = chunk_takes kind s x fits e in
    started s t.front x.1 fits t.taken.parts (definite_starts kind x.0 t.front t.string)

pub item_shrinks : (d : ℕ) → Shrinks (item_at d)
item_shrinks d s x fits e =
    let t = item_found d s x fits e in
    started s t.front x.1 fits t.parts (encoding_starts x.0 t.front t.encoding)

pub pair_shrinks : (d : ℕ) → Shrinks (pair_with (item_at d))
unfolding pair_with
pair_shrinks d s y fits e =
    let k = bind_ok (item_at d s) (λ k. item_at d k.1 >>= λ v. Some ((k.0, v.0), v.1)) y e in
    let v = bind_ok (item_at d k.0.1) (λ v. Some ((k.0.0, v.0), v.1)) y k.2 in
    let made : (DataItem × DataItem) × List ℕ = ((k.0.0, v.0.0), v.0.1) in
    let a = item_shrinks d s k.0 fits k.1 in
    let b = item_shrinks d k.0.1 v.0 a.0 v.1 in
    let first = a.1 in
    let second = b.1 in
    subst (λ (z : (DataItem × DataItem) × List ℕ). IsBytes z.1 × (length z.1 < length s)) (ok_is made y v.2) (b.0, omega arith)

pub alone_shrinks : {X : Type 0} (one : List ℕ → Found X) → Shrinks one → Shrinks (alone one)
alone_shrinks {X} one shrinks s x fits e =
    let a = bind_ok (one s) (λ y. Some (y.0 ∷ [], y.1)) x e in
    let made : List X × List ℕ = (a.0.0 ∷ [], a.0.1) in
    subst (λ (z : List X × List ℕ). IsBytes z.1 × (length z.1 < length s)) (ok_is made x a.2) (shrinks s a.0 fits a.1)

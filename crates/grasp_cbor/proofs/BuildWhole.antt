-- The item that all of some bytes encode is the one that is built.
use Rattle.std.proofs.Common.{◌≡◌, List, [], Option, Some, None, ℕ, ap, subst}
use Rattle.grasp_cbor.specs.DataItem.{DataItem}
use Rattle.grasp_cbor.specs.CanGoOn.{IsItem}
use Rattle.grasp_cbor.specs.Encodes.{Encodes}
use Rattle.grasp_cbor.proofs.Takes.{ok_is}

abbrev found : DataItem → List ℕ → Option (DataItem × List ℕ)
found item rest = Some (item, rest)

pub is_found : (s : List ℕ) (item : DataItem) (rest : List ℕ) → (i : IsItem 16 s) → found i.item [] ≡ found item rest → Encodes item s
is_found s item rest i e =
    let same = ok_is (i.item, []) (item, rest) e in
    subst (λ x. Encodes x s) (ap (λ (z : DataItem × List ℕ). z.0) same) (record { encoding = i.encoding; within = i.within })

pub not_none : (item : DataItem) (rest : List ℕ) → found item rest ≡ None → ⊥
not_none item rest e = cc

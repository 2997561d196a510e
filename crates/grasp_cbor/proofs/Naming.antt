-- The name of a byte's fault, as a function and as a fact.
use Rattle.std.proofs.Common.{◌≡◌, ℕ, ◌-◌, ◌<◌, Bool, true, false, cond, ltb, List, [], ◌∷◌, ◌++◌, Some, None, refl, sym, ap, ◌∙◌}
use Rattle.std.proofs.lemmas.Bool.{ltb-true, lt-ltb}
use Rattle.grasp_cbor.specs.declared.walker.FaultName.{FaultName}
use Rattle.grasp_cbor.specs.declared.walker.FaultName.TheVariants.{Malformed, NotText}
use Rattle.grasp_cbor.specs.Utf8.{can_end, CanEnd}
use Rattle.grasp_cbor.specs.Front.{Spot, starts, starts_chunk, after_simple, in_text, elsewhere, IsNamed}
use Rattle.grasp_cbor.specs.Step.{name_of}
use Rattle.grasp_cbor.proofs.Text.{can_end-from, can_end-means}

same_name : (a b : FaultName) → Some a ≡ Some b → a ≡ b
same_name a b e = cc

no_name_is : (name : FaultName) → None ≡ Some name → ⊥
no_name_is name e = cc

small_is : (byte : ℕ) (name : FaultName) (b : Bool) → ltb byte 32 ≡ b → cond b (Some Malformed) None ≡ Some name → (byte < 32) × (name ≡ Malformed)
small_is byte name true e h = (ltb-true byte 32 e, sym (same_name Malformed name h))
small_is byte name false e h = absurd (no_name_is name h)

text_is : (s : List ℕ) (left : ℕ) (name : FaultName) (b : Bool) → can_end s left ≡ b → cond b None (Some NotText) ≡ Some name → (¬ CanEnd s left) × (name ≡ NotText)
text_is s left name true e h = absurd (no_name_is name h)
text_is s left name false e h = ((λ c. let q : true ≡ false = sym (can_end-from s left c) ∙ e in cc), sym (same_name NotText name h))

pub named_is : (spot : Spot) (byte : ℕ) (name : FaultName) → name_of spot byte ≡ Some name → IsNamed spot byte name
named_is (starts inside breaks) byte name e = e
named_is (starts_chunk kind) byte name e = e
named_is after_simple byte name e = small_is byte name (ltb byte 32) refl e
named_is (in_text content left) byte name e = text_is (content ++ byte ∷ []) (left - 1) name (can_end (content ++ byte ∷ []) (left - 1)) refl e
named_is elsewhere byte name e = no_name_is name e

text_from : (s : List ℕ) (left : ℕ) (name : FaultName) (b : Bool) → can_end s left ≡ b → ¬ CanEnd s left → name ≡ NotText → cond b None (Some NotText) ≡ Some name
text_from s left name true e h q = absurd (h (can_end-means s left e))
text_from s left name false e h q = ap (λ x. Some x) (sym q)

pub named_from : (spot : Spot) (byte : ℕ) (name : FaultName) → IsNamed spot byte name → name_of spot byte ≡ Some name
named_from (starts inside breaks) byte name h = h
named_from (starts_chunk kind) byte name h = h
named_from after_simple byte name h = let e : ltb byte 32 ≡ true = lt-ltb byte 32 h.0 in rw e (ap (λ x. Some x) (sym h.1))
named_from (in_text content left) byte name h = text_from (content ++ byte ∷ []) (left - 1) name (can_end (content ++ byte ∷ []) (left - 1)) refl h.0 h.1
named_from elsewhere byte name h = absurd h

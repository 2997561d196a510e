-- Words of what leads bytes.
use Rattle.std.proofs.Common.{◌≡◌, ℕ, ◌+◌, List, [], ◌∷◌, ◌++◌, ◌≤◌, length, take, Option, Some, None, codes, decimal, refl, sym, ap, ◌∙◌, append_assoc, append-nil, length-append, arith}
use Rattle.std.specs.Prelude.{IfSome}
use Rattle.std.specs.Str.{IsUtf8}
use Rattle.std.proofs.lemmas.List.{take_at}
use Rattle.hex.specs.Hex.{encode_lower}
use Rattle.grasp_cbor.specs.DataItem.{unsigned, text_string}
use Rattle.grasp_cbor.specs.Leading.{LeadsArray}
use Rattle.grasp_cbor.specs.Minimal.{LeadsShortest}
use Rattle.grasp_cbor.specs.Shortest.{shortest}
use Rattle.grasp_cbor.proofs.Shortest.{IsEncoding-shortest}
use Rattle.grasp_types.specs.Objective.{optional, objective_item, IsObjective, IsValue}
use Rattle.grasp_types.specs.declared.objective.Objective.{Objective}
use Rattle.grasp_wire.proofs.Straight.{array_leads}
use Rattle.grasp_text.specs.Line.{or_dash, text_word, value_word, objective_words}
use Rattle.grasp_text.proofs.Pushed.{some_pushed}
use Rattle.grasp_text.specs.Words.{spaced}
use Rattle.grasp_quick.specs.Spelled.{Spells, SpellsLast}

pub no_longer : (bytes rest : List ℕ) → LeadsShortest 13 bytes rest → length rest ≤ length bytes
no_longer bytes rest h = omega (arith, ap length h.parts, length-append (shortest h.item) rest)

pub value_spelled : (bytes rest old middle new : List ℕ) (used : ℕ) → LeadsShortest 13 bytes rest → used + length rest ≡ length bytes → middle ≡ old ++ 32 ∷ 120 ∷ [] → new ≡ middle ++ encode_lower (take used bytes)
    → Spells (λ v. v) IsValue (λ v. value_word v ∷ []) bytes rest old new
value_spelled bytes rest old middle new used h e p q =
    let s = shortest h.item in
    let n : length s ≡ used = omega (arith, e, ap length h.parts, length-append s rest) in
    let front : take used bytes ≡ s = ap (take used) h.parts ∙ take_at s rest used n in
    record {
      value = h.item;
      leads = record { front = s; encoding = IsEncoding-shortest h.item h.encodable; parts = h.parts };
      is_one = record { within = h.shallow; encodable = h.encodable };
      spelled = q ∙ ap (λ (x : List ℕ). middle ++ encode_lower x) front ∙ ap (λ (x : List ℕ). x ++ encode_lower s) p ∙ append_assoc old (32 ∷ 120 ∷ []) (encode_lower s)
          ∙ ap (λ (x : List ℕ). old ++ 32 ∷ 120 ∷ x) (sym (append-nil (encode_lower s)));
    }

-- what is found is so too
pub found_is : {A : Type 0} (P Q : A → Type 0) (o : Option A) → IfSome o P → ((x : A) → P x → Q x) → IfSome o Q
found_is P Q (Some x) h f = f x h
found_is P Q None h f = tt

-- a value is the last
pub value_last : (count before : ℕ) (bytes rest old new : List ℕ) → count ≡ 1 + before → Spells (λ v. v) IsValue (λ v. value_word v ∷ []) bytes rest old new → SpellsLast count before bytes rest old new
value_last count before bytes rest old new e h = record {
  value = Some h.value;
  leads = (rest, h.leads, refl);
  counts = e;
  is_one = h.is_one;
  spelled = h.spelled;
}

-- the parts of an objective
pub objective_spelled : (count : ℕ) (bytes a b c d rest old l0 l1 l2 l3 new : List ℕ) → LeadsArray count bytes a → l0 ≡ old ++ 32 ∷ codes "obj"
    → Spells text_string IsUtf8 (λ t. text_word t ∷ []) a b l0 l1 → Spells unsigned (λ n. n ≤ 15) (λ n. decimal n ∷ []) b c l1 l2 → Spells unsigned (λ n. n ≤ 255) (λ n. decimal n ∷ []) c d l2 l3
    → SpellsLast count 3 d rest l3 new → Spells objective_item IsObjective objective_words bytes rest old new
objective_spelled count bytes a b c d rest old l0 l1 l2 l3 new opens p name flags loops last =
    let o : Objective = record { name = name.value; flags = flags.value; loops = loops.value; value = last.value } in
    let words : List (List ℕ) = or_dash value_word last.value ∷ [] in
    let e0 : l0 ≡ old ++ spaced (codes "obj" ∷ []) = p in
    let e1 = some_pushed old l0 l1 (codes "obj" ∷ []) (text_word name.value ∷ []) e0 name.spelled in
    let e2 = some_pushed old l1 l2 (codes "obj" ∷ text_word name.value ∷ []) (decimal flags.value ∷ []) e1 flags.spelled in
    let e3 = some_pushed old l2 l3 (codes "obj" ∷ text_word name.value ∷ decimal flags.value ∷ []) (decimal loops.value ∷ []) e2 loops.spelled in
    let e4 = some_pushed old l3 new (codes "obj" ∷ text_word name.value ∷ decimal flags.value ∷ decimal loops.value ∷ []) words e3 last.spelled in
    record {
      value = o;
      leads = array_leads (text_string name.value ∷ unsigned flags.value ∷ unsigned loops.value ∷ optional last.value) count bytes a rest (omega (arith, last.counts)) opens
          (b, name.leads, (c, flags.leads, (d, loops.leads, last.leads)));
      is_one = record { name = name.is_one; flags = flags.is_one; loops = (let n = loops.is_one in omega (arith, n)); value = last.is_one };
      spelled = e4;
    }

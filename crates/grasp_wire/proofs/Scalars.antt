-- What is read from an item is what the item was made of: numbers, texts and arrays.
use Rattle.std.proofs.Common.{◌≡◌, ◌<◌, ◌^◌, ◌==◌, ℕ, Option, Some, None, IfSome, List, refl, sym, ap, subst, ◌∙◌, rules, nat_lt, inl, inr, true, false, ltb-true}
use Rattle.std.proofs.lemmas.Bool.{eqb-true}
use Rattle.std.proofs.lemmas.Bool.Decides.{nat_tests}
use Rattle.std.proofs.lemmas.Option.{same_Some, none-some}
use Rattle.std.specs.Str.{IsUtf8}
use Rattle.grasp_cbor.proofs.Again.{data_items-items_in}
use Rattle.grasp_cbor.proofs.Takes.{chosen}
use Rattle.grasp_cbor.specs.DataItem.{DataItem, unsigned, text_string, array, simple_value, data_items, items_in, array_of}
use Rattle.grasp_cbor.specs.Encodable.{IsEncodable, AreEncodable}
use Rattle.grasp_wire.specs.Reading.{◌>>=◌, number_in, below, text_in, parts_in, is_null, or_null}
use Rattle.grasp_wire.specs.ReadParts.{loops_in, port_in, narrow_in, flags_in}
use Rattle.grasp_wire.proofs.Parts.{parts_in-array_of}

-- what is read from an item that has an encoding, the item is made of
abbrev pub Finds : {X : Type 0} → (DataItem → Option X) → (X → DataItem) → (X → Type 0) → Type 0
Finds {X} read item Is = (t : DataItem) (x : X) → IsEncodable t → read t ≡ Some x → (t ≡ item x) × Is x

-- what an item is made of is read from it
abbrev pub Again : {X : Type 0} → (DataItem → Option X) → (X → DataItem) → (X → Type 0) → Type 0
Again {X} read item Is = (x : X) → Is x → read (item x) ≡ Some x

pub some_bind : {A B : Type 0} (o : Option A) (f : A → Option B) (y : B) → (o >>= f) ≡ Some y → (x : A) × (o ≡ Some x) × (f x ≡ Some y)
some_bind None f y h = absurd (cc)
some_bind (Some x) f y h = (x, refl, h)

pub not_test : (k n : ℕ) → n < k → (k == n) ≡ false
not_test k n h = search (rules, nat_tests)

-- numbers

number_found : (t : DataItem) (n : ℕ) → number_in t ≡ Some n → t ≡ unsigned n
number_found (unsigned m) n h = ap unsigned (same_Some m n h)
number_found _ n h = absurd (none-some n h)

abbrev pub Any : {X : Type 0} → X → Type 0
Any x = Unit {0}

pub number_finds : Finds number_in unsigned Any
number_finds t n enc h = (number_found t n h, tt)

below_found : (b k n : ℕ) → below b k ≡ Some n → (k ≡ n) × (n < b)
below_found b k n h = elim (chosen (nat_lt k b) (Some k) None (Some n) h) [
  | inl p ↦ let e = same_Some k n p.1 in (e, subst (λ (m : ℕ). m < b) e (ltb-true k b p.0))
  | inr p ↦ absurd (none-some n p.1)
]

below_again : (b n : ℕ) → n < b → below b n ≡ Some n
below_again b n h = search (rules, nat_tests)

within_found : (b : ℕ) (t : DataItem) (n : ℕ) → (number_in t >>= below b) ≡ Some n → (t ≡ unsigned n) × (n < b)
within_found b t n h =
    let k = some_bind (number_in t) (below b) n h in
    let f = below_found b k.0 n k.2 in
    (number_found t k.0 k.1 ∙ ap unsigned f.0, f.1)

pub loops_finds : Finds loops_in unsigned (λ n. n < 2 ^ 8)
unfolding loops_in
loops_finds t n enc h = within_found (2 ^ 8) t n h

pub loops_again : Again loops_in unsigned (λ n. n < 2 ^ 8)
unfolding loops_in
loops_again n h = below_again (2 ^ 8) n h

pub port_finds : Finds port_in unsigned (λ n. n < 2 ^ 16)
unfolding port_in
port_finds t n enc h = within_found (2 ^ 16) t n h

pub port_again : Again port_in unsigned (λ n. n < 2 ^ 16)
unfolding port_in
port_again n h = below_again (2 ^ 16) n h

pub narrow_finds : Finds narrow_in unsigned (λ n. n < 2 ^ 32)
unfolding narrow_in
narrow_finds t n enc h = within_found (2 ^ 32) t n h

pub narrow_again : Again narrow_in unsigned (λ n. n < 2 ^ 32)
unfolding narrow_in
narrow_again n h = below_again (2 ^ 32) n h

pub flags_finds : Finds flags_in unsigned (λ n. n < 16)
unfolding flags_in
flags_finds t n enc h = within_found 16 t n h

pub flags_again : Again flags_in unsigned (λ n. n < 16)
unfolding flags_in
flags_again n h = below_again 16 n h

-- texts

text_found : (t : DataItem) (bs : List ℕ) → text_in t ≡ Some bs → t ≡ text_string bs
text_found (text_string cs) bs h = ap text_string (same_Some cs bs h)
text_found _ bs h = absurd (none-some bs h)

pub text_finds : Finds text_in text_string IsUtf8
text_finds t bs enc h = let e = text_found t bs h in (e, (subst IsEncodable e enc).1)

-- arrays

parts_found : (t : DataItem) (ts : List DataItem) → parts_in t ≡ Some ts → t ≡ array_of ts
parts_found (array us) ts h = ap array (sym (data_items-items_in us)) ∙ ap array_of (same_Some (items_in us) ts h)
parts_found _ ts h = absurd (none-some ts h)

pub array_found : {X : Type 0} (f : List DataItem → Option X) (t : DataItem) (x : X) → IsEncodable t → (parts_in t >>= f) ≡ Some x
    → (ts : List DataItem) × (t ≡ array_of ts) × AreEncodable (data_items ts) × (f ts ≡ Some x)
array_found f t x enc h =
    let ts = some_bind (parts_in t) f x h in
    let e = parts_found t ts.0 ts.1 in
    (ts.0, e, (subst IsEncodable e enc).1, ts.2)

pub array_again : {X : Type 0} (f : List DataItem → Option X) (ts : List DataItem) → (parts_in (array_of ts) >>= f) ≡ f ts
array_again f ts = ap (λ o. o >>= f) (parts_in-array_of ts)

-- what is read from the parts of an array, the array is made of
abbrev pub PartsFind : {X : Type 0} → (List DataItem → Option X) → (X → DataItem) → (X → Type 0) → Type 0
PartsFind {X} f item Is = (ts : List DataItem) (x : X) → AreEncodable (data_items ts) → f ts ≡ Some x → (array_of ts ≡ item x) × Is x

pub array_finds : {X : Type 0} (f : List DataItem → Option X) (item : X → DataItem) (Is : X → Type 0) → PartsFind f item Is → (t : DataItem) (x : X) → IsEncodable t
    → (parts_in t >>= f) ≡ Some x → (t ≡ item x) × Is x
array_finds f item Is finds t x enc h =
    let ts = array_found f t x enc h in
    let g = finds ts.0 x ts.2 ts.3 in
    (ts.1 ∙ g.0, g.1)

-- null

null_found : (t : DataItem) → is_null t ≡ true → t ≡ simple_value 22
null_found (simple_value m) h = ap simple_value (eqb-true m 22 h)
null_found _ h = absurd (cc)

pub or_null_found : {X : Type 0} (read : DataItem → Option X) (item : X → DataItem) (Is : X → Type 0) → Finds read item Is
    → (made : Option X → DataItem) → made None ≡ simple_value 22 → ((x : X) → made (Some x) ≡ item x)
    → (t : DataItem) (o : Option X) → IsEncodable t → or_null read t ≡ Some o → (t ≡ made o) × IfSome o Is
or_null_found read item Is finds made none some t o enc h = elim (chosen (is_null t) (Some None) _ (Some o) h) [
  | inl p ↦ subst (λ v. (t ≡ made v) × IfSome v Is) (same_Some None o p.1) (null_found t p.0 ∙ sym none, tt)
  | inr p ↦
      let x = some_bind (read t) (λ y. Some (Some y)) o p.1 in
      let f = finds t x.0 enc x.1 in
      subst (λ v. (t ≡ made v) × IfSome v Is) (same_Some (Some x.0) o x.2) (f.0 ∙ sym (some x.0), f.1)
]

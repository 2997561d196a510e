-- A length and a prefix are read exactly from the values that hold them.
use Rattle.std.proofs.Common.{◌≡◌, ◌⊎◌, inl, inr, ℕ, ◌-◌, ◌%◌, ◌^◌, ◌<◌, ◌≤◌, ◌==◌, ◌&&◌, nat_le, nat_lt, false, cond, List, [], ◌∷◌, length, Option, Some, None, IfSome, IfNone, refl, sym, ap, subst, ◌∙◌, arith, lt-ltb}
use Rattle.std.proofs.lemmas.Bool.{and_right, leb-true, and_from, and_parts, le-leb, eq-eqb, eqb-true}
use Rattle.std.proofs.lemmas.Bool.Decides.{eqb_tells}
use Rattle.std.proofs.lemmas.Nat.{pow_pos}
use Rattle.std.proofs.lemmas.Option.{none-some, same_Some as some_same}
use Rattle.std.specs.Int.{to_be_bytes, from_be_bytes, w128}
use Rattle.grasp_cbor.proofs.Again.{data_items-items_in, items_in-data_items}
use Rattle.grasp_cbor.proofs.Facts.Numbers.{small_16, back_16}
use Rattle.grasp_cbor.proofs.HeadBytes.{AllBytes-at}
use Rattle.grasp_cbor.proofs.Takes.{chosen}
use Rattle.grasp_cbor.specs.DataItem.{DataItem, unsigned, byte_string, array, data_items, items_in, array_of}
use Rattle.grasp_cbor.specs.Encodable.{IsEncodable, AreEncodable}
use Rattle.grasp_types.specs.Objective.{IsValue}
use Rattle.grasp_types.specs.Prefix.{AddressBlock as Prefix, IsPrefix, size_of}
use Rattle.grasp_types.proofs.BigEndian.{be_bytes_16}
use Rattle.grasp_types.proofs.Multiples.{multiple_of_mod, mod_of_multiple}
use Rattle.grasp_agent.specs.Values.{length_value, prefix_value, return_value, array_parts, number_of, bytes_of, length_in, length_at, address_in, address_at, beside, asked_in, prefix_in, offered_in, returned_in}
use Rattle.grasp_agent.specs.Laws.{AsksFor, LengthsAreRead, PrefixesAreRead}

-- ---- the parts of an array

pub parts_again : (ts : List DataItem) → array_parts (array_of ts) ≡ Some ts
parts_again ts = ap Some (items_in-data_items ts)

-- ---- lengths

in_range : (m n : ℕ) → length_in (Some m) ≡ Some n → (m ≡ n) × (1 ≤ m) × (m ≤ 128)
in_range m n h = elim (chosen (nat_le 1 m && nat_le m 128) (Some m) None (Some n) h) [
  | inl p ↦ let b = and_parts (nat_le 1 m) (nat_le m 128) p.0 in (some_same m n p.1, leb-true 1 m b.0, leb-true m 128 b.1)
  | inr p ↦ absurd (none-some n p.1)
]

-- an item that is read as a length
record IsLength (t : DataItem) (n : ℕ) : Type 0 where
  is : t ≡ unsigned n
  least : 1 ≤ n
  most : n ≤ 128

length_found : (t : DataItem) (n : ℕ) → length_in (number_of t) ≡ Some n → IsLength t n
length_found (unsigned m) n h = let r = in_range m n h in subst (IsLength (unsigned m)) r.0 (record { is = refl; least = r.1; most = r.2 })
length_found _ n h = absurd (none-some n h)

length_again : (n : ℕ) → 1 ≤ n → n ≤ 128 → length_in (Some n) ≡ Some n
length_again n a b = ap (λ t. cond t (Some n) None) (and_from (nat_le 1 n) (nat_le n 128) (le-leb 1 n a) (le-leb n 128 b))

-- ---- addresses

-- an item that is read as an address
record IsAddressItem (t : DataItem) (a : ℕ) : Type 0 where
  is : t ≡ byte_string (to_be_bytes w128 a)
  within : a < 2 ^ 128

of_bytes : (bs : List ℕ) (a : ℕ) → IsEncodable (byte_string bs) → address_in (Some bs) ≡ Some a → IsAddressItem (byte_string bs) a
of_bytes bs a enc h = elim (chosen (length bs == 16) (Some (from_be_bytes w128 bs)) None (Some a) h) [
  | inl p ↦
      let e = some_same (from_be_bytes w128 bs) a p.1 in
      let small = AllBytes-at bs enc.1 in
      record {
        is = ap byte_string (sym (be_bytes_16 bs a (eqb-true (length bs) 16 p.0) small (sym e)));
        within = subst (λ (k : ℕ). k < 2 ^ 128) e (small_16 bs small);
      }
  | inr p ↦ absurd (none-some a p.1)
]

address_found : (t : DataItem) (a : ℕ) → IsEncodable t → address_in (bytes_of t) ≡ Some a → IsAddressItem t a
address_found (byte_string bs) a enc h = of_bytes bs a enc h
address_found _ a enc h = absurd (none-some a h)

address_again : (a : ℕ) → a < 2 ^ 128 → address_in (Some (to_be_bytes w128 a)) ≡ Some a
address_again a h = ap Some (back_16 a h)

-- ---- lists of one and of two parts

one_part : (ts : List DataItem) (n : ℕ) → length ts ≡ 1 → length_at ts ≡ Some n → ts ≡ unsigned n ∷ []
one_part [] n is h = absurd (omega arith)
one_part (t ∷ []) n is h = ap (λ u. u ∷ []) (length_found t n h).is
one_part (t ∷ u ∷ ts) n is h = absurd (omega arith)

two_parts : (ts : List DataItem) (n a : ℕ) → length ts ≡ 2 → AreEncodable (data_items ts) → length_at ts ≡ Some n → address_at ts ≡ Some a
    → (ts ≡ unsigned n ∷ byte_string (to_be_bytes w128 a) ∷ []) × (a < 2 ^ 128)
two_parts (t ∷ u ∷ []) n a is enc h k =
    let x = (length_found t n h).is in
    let y = address_found u a enc.1.0 k in
    (ap (λ w. w ∷ u ∷ []) x ∙ ap (λ w. unsigned n ∷ w ∷ []) y.is, y.within)
two_parts _ n a is enc h k = absurd (omega arith)

range_at : (ts : List DataItem) (n : ℕ) → length_at ts ≡ Some n → (1 ≤ n) × (n ≤ 128)
range_at [] n h = absurd (none-some n h)
range_at (t ∷ ts) n h = let r = length_found t n h in (r.least, r.most)

-- ---- lengths that are asked for

beside_found : (o x : Option ℕ) (n : ℕ) → beside o x ≡ Some n → ((a : ℕ) × (o ≡ Some a)) × (x ≡ Some n)
beside_found None x n h = absurd (none-some n h)
beside_found (Some a) x n h = ((a, refl), h)

-- the parts of a value that asks for a length
record Asking (ts : List DataItem) (n : ℕ) : Type 0 where
  first : length_at ts ≡ Some n
  shape : (length ts ≡ 1) ⊎ ((length ts ≡ 2) × ((a : ℕ) × (address_at ts ≡ Some a)))

asking_parts : (ts : List DataItem) (n : ℕ) → cond (length ts == 1) (length_at ts) (cond (length ts == 2) (beside (address_at ts) (length_at ts)) None) ≡ Some n → Asking ts n
asking_parts ts n h = elim (chosen (length ts == 1) (length_at ts) _ (Some n) h) [
  | inl p ↦ record { first = p.1; shape = inl (eqb-true (length ts) 1 p.0) }
  | inr p ↦ elim (chosen (length ts == 2) (beside (address_at ts) (length_at ts)) None (Some n) p.1) [
    | inl q ↦ let b = beside_found (address_at ts) (length_at ts) n q.1 in record { first = b.1; shape = inr (eqb-true (length ts) 2 q.0, b.0) }
    | inr q ↦ absurd (none-some n q.1)
  ]
]

asking : (v : DataItem) (n : ℕ) → asked_in (Some v) ≡ Some n → (ts : List DataItem) × (v ≡ array_of ts) × Asking ts n
unfolding asked_in
asking (array ts) n h = (items_in ts, ap array (sym (data_items-items_in ts)), asking_parts (items_in ts) n h)
asking _ n h = absurd (none-some n h)

pub asked_range : (v : DataItem) (n : ℕ) → asked_in (Some v) ≡ Some n → (1 ≤ n) × (n ≤ 128)
asked_range v n h = let a = asking v n h in range_at a.0 n a.2.first

encodable_parts : (v : DataItem) (ts : List DataItem) → IsValue v → v ≡ array_of ts → AreEncodable (data_items ts)
encodable_parts v ts value e = (subst IsEncodable e value.encodable).1

length_read : (v : DataItem) (n : ℕ) → IsValue v → asked_in (Some v) ≡ Some n → AsksFor v n
length_read v n value h =
    let a = asking v n h in
    let r = range_at a.0 n a.2.first in (
      r.0,
      r.1,
      elim a.2.shape [
        | inl one ↦ inl (a.1 ∙ ap array_of (one_part a.0 n one a.2.first))
        | inr two ↦
            let p = two_parts a.0 n two.1.0 two.0 (encodable_parts v a.0 value a.1) a.2.first two.1.1 in
            inr (two.1.0, p.1, a.1 ∙ ap array_of p.0)
      ],
    )

pub one_again : (n : ℕ) → 1 ≤ n → n ≤ 128 → asked_in (Some (length_value n)) ≡ Some n
unfolding asked_in
one_again n a b = length_again n a b

two_again : (n a : ℕ) → 1 ≤ n → n ≤ 128 → a < 2 ^ 128 → asked_in (Some (array_of (unsigned n ∷ byte_string (to_be_bytes w128 a) ∷ []))) ≡ Some n
unfolding asked_in
two_again n a least most within = ap (λ o. beside o (length_in (Some n))) (address_again a within) ∙ length_again n least most

length_asked : (v : DataItem) (n : ℕ) → AsksFor v n → asked_in (Some v) ≡ Some n
length_asked v n h = elim h.2 [
  | inl e ↦ ap (λ t. asked_in (Some t)) e ∙ one_again n h.0 h.1
  | inr w ↦ ap (λ t. asked_in (Some t)) w.2 ∙ two_again n w.0 h.0 h.1 w.1
]

pub lengths_are_read : LengthsAreRead
lengths_are_read v n value = (length_read v n value, length_asked v n)

-- ---- prefixes

-- a prefix of this length and this address
record IsMade (o q : Option ℕ) (p : Prefix) : Type 0 where
  bits : o ≡ Some p.length
  start : q ≡ Some p.address
  aligned : p.address % size_of p.length ≡ 0

prefix_parts : (o q : Option ℕ) (p : Prefix) → prefix_in o q ≡ Some p → IsMade o q p
prefix_parts None q p h = absurd (none-some p h)
prefix_parts (Some n) None p h = absurd (none-some p h)
prefix_parts (Some n) (Some a) p h =
    let made : Prefix = record { address = a; length = n } in
    elim (chosen (nat_lt a (2 ^ 128) && a % size_of n == 0) (Some made) None (Some p) h) [
      | inl w ↦
          let b = and_parts (nat_lt a (2 ^ 128)) (a % size_of n == 0) w.0 in
          subst (IsMade (Some n) (Some a)) (some_same made p w.1) (record { bits = refl; start = refl; aligned = eqb-true (a % size_of n) 0 b.1 })
      | inr w ↦ absurd (none-some p w.1)
    ]

made_again : (n a : ℕ) → a < 2 ^ 128 → a % size_of n ≡ 0 → prefix_in (Some n) (Some a) ≡ Some (record { address = a; length = n })
made_again n a within e =
    ap (λ t. cond t (Some (record { address = a; length = n })) None)
    (and_from (nat_lt a (2 ^ 128)) (a % size_of n == 0) (lt-ltb a (2 ^ 128) within) (eq-eqb (a % size_of n) 0 e))

not_test : (k n : ℕ) → ¬ (k ≡ n) → (k == n) ≡ false
not_test k n differ = elim (eqb_tells k n) [ inl p ↦ absurd (differ p.1) | inr p ↦ p.0 ]

none_again : (n a : ℕ) → ¬ (a % size_of n ≡ 0) → None ≡ prefix_in (Some n) (Some a)
none_again n a differ = sym (ap (λ t. cond t (Some (record { address = a; length = n })) None) (and_right (nat_lt a (2 ^ 128)) (a % size_of n == 0) (not_test (a % size_of n) 0 differ)))

pub prefix_of : (n a : ℕ) (o : Option Prefix) → 1 ≤ n → n ≤ 128 → a < 2 ^ 128 → IfSome o (λ p. p ≡ record { address = a; length = n })
    → IfSome o (λ _. IsPrefix a n) → IfNone o (¬ IsPrefix a n) → o ≡ prefix_in (Some n) (Some a)
prefix_of n a None least most within same valid none =
    none_again n a (λ e. none (record { least = least; most = most; within = within; aligned = multiple_of_mod (size_of n) a e }))
prefix_of n a (Some p) least most within same valid none =
    ap Some same ∙ sym (made_again n a within (mod_of_multiple (size_of n) a (pow_pos (128 - n)) valid.aligned))

-- the parts of a value that offers a prefix
record Offering (ts : List DataItem) (p : Prefix) : Type 0 where
  two : length ts ≡ 2
  made : IsMade (length_at ts) (address_at ts) p

offering_parts : (ts : List DataItem) (p : Prefix) → cond (length ts == 2) (prefix_in (length_at ts) (address_at ts)) None ≡ Some p → Offering ts p
offering_parts ts p h = elim (chosen (length ts == 2) (prefix_in (length_at ts) (address_at ts)) None (Some p) h) [
  | inl w ↦ record { two = eqb-true (length ts) 2 w.0; made = prefix_parts (length_at ts) (address_at ts) p w.1 }
  | inr w ↦ absurd (none-some p w.1)
]

offering : (v : DataItem) (p : Prefix) → offered_in (Some v) ≡ Some p → (ts : List DataItem) × (v ≡ array_of ts) × Offering ts p
unfolding offered_in
offering (array ts) p h = (items_in ts, ap array (sym (data_items-items_in ts)), offering_parts (items_in ts) p h)
offering _ p h = absurd (none-some p h)

prefix_read : (v : DataItem) (p : Prefix) → IsValue v → offered_in (Some v) ≡ Some p → IsPrefix p.address p.length × (v ≡ prefix_value p)
prefix_read v p value h =
    let a = offering v p h in
    let m = a.2.made in
    let r = range_at a.0 p.length m.bits in
    let w = two_parts a.0 p.length p.address a.2.two (encodable_parts v a.0 value a.1) m.bits m.start in
    (record { least = r.0; most = r.1; within = w.1; aligned = multiple_of_mod (size_of p.length) p.address m.aligned }, a.1 ∙ ap array_of w.0)

-- the prefix that was written is read
read_again : (p : Prefix) → IsPrefix p.address p.length → prefix_in (length_in (Some p.length)) (address_in (Some (to_be_bytes w128 p.address))) ≡ Some p
read_again p v =
    ap (λ o. prefix_in o (address_in (Some (to_be_bytes w128 p.address)))) (length_again p.length v.least v.most)
    ∙ ap (λ q. prefix_in (Some p.length) q) (address_again p.address v.within)
    ∙ made_again p.length p.address v.within (mod_of_multiple (size_of p.length) p.address (pow_pos (128 - p.length)) v.aligned)

pub prefix_again : (p : Prefix) → IsPrefix p.address p.length → offered_in (Some (prefix_value p)) ≡ Some p
unfolding offered_in
prefix_again p v = read_again p v

pub return_again : (p : Prefix) → IsPrefix p.address p.length → returned_in (Some (return_value p)) ≡ Some p
unfolding returned_in
return_again p v = read_again p v

prefix_offered : (v : DataItem) (p : Prefix) → IsPrefix p.address p.length × (v ≡ prefix_value p) → offered_in (Some v) ≡ Some p
prefix_offered v p h = ap (λ t. offered_in (Some t)) h.1 ∙ prefix_again p h.0

pub prefixes_are_read : PrefixesAreRead
prefixes_are_read v p value = (prefix_read v p value, prefix_offered v p)

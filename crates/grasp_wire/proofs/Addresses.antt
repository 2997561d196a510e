-- Addresses, protocols and locators are read from their items.
use Rattle.std.proofs.Common.{◌≡◌, ◌<◌, ◌^◌, ◌==◌, ℕ, Option, Some, None, IfSome, List, refl, sym, ap, subst, ◌∙◌, arith, inl, inr, length, get_or}
use Rattle.std.proofs.lemmas.Bool.{eqb-true}
use Rattle.std.specs.Int.{from_be_bytes, to_be_bytes, w32, w128}
use Rattle.std.proofs.lemmas.Nat.{be_bytes_4, from_be_bytes-to_be_bytes_4}
use Rattle.std.proofs.lemmas.Option.{same_Some, none-some}
use Rattle.grasp_cbor.proofs.Facts.Numbers.{small_16, back_16}
use Rattle.grasp_cbor.proofs.HeadBytes.{AllBytes-at}
use Rattle.grasp_cbor.proofs.Takes.{chosen}
use Rattle.grasp_cbor.specs.DataItem.{DataItem, unsigned, byte_string}
use Rattle.grasp_cbor.specs.Encodable.{IsEncodable}
use Rattle.grasp_types.proofs.BigEndian.{be_bytes_16}
use Rattle.grasp_types.specs.Address.{address_bytes, address_item, proto_item, proto_or_null, port_or_null, IsAddress}
use Rattle.grasp_types.specs.declared.address.Address.{Address}
use Rattle.grasp_types.specs.declared.address.Address.TheVariants as address
use Rattle.grasp_types.specs.declared.address.Proto.{Proto}
use Rattle.grasp_types.specs.declared.address.Proto.TheVariants.{Tcp, Udp}
use Rattle.grasp_wire.specs.Reading.{◌>>=◌, number_in, or_null}
use Rattle.grasp_wire.specs.ReadParts.{bytes_in, ipv4_of, ipv6_of, address_of, ipv4_in, ipv6_in, address_in, proto_of, proto_in, port_in}
use Rattle.grasp_wire.proofs.Scalars.{Finds, Again, Any, some_bind, number_finds, port_finds, port_again, or_null_found}

-- bytes

bytes_found : (t : DataItem) (bs : List ℕ) → bytes_in t ≡ Some bs → t ≡ byte_string bs
bytes_found (byte_string cs) bs h = ap byte_string (same_Some cs bs h)
bytes_found _ bs h = absurd (none-some bs h)

bytes_find : {X : Type 0} (of : List ℕ → Option X) (bytes : X → List ℕ) (Is : X → Type 0)
    → ((bs : List ℕ) (x : X) → ((i : ℕ) → get_or bs i 0 < 256) → of bs ≡ Some x → (bs ≡ bytes x) × Is x)
    → (t : DataItem) (x : X) → IsEncodable t → (bytes_in t >>= of) ≡ Some x → (t ≡ byte_string (bytes x)) × Is x
bytes_find of bytes Is finds t x enc h =
    let bs = some_bind (bytes_in t) of x h in
    let e = bytes_found t bs.0 bs.1 in
    let f = finds bs.0 x (AllBytes-at bs.0 (subst IsEncodable e enc).1) bs.2 in
    (e ∙ ap byte_string f.0, f.1)

small_4 : (bs : List ℕ) → ((i : ℕ) → get_or bs i 0 < 256) → from_be_bytes w32 bs < 2 ^ 32
small_4 bs h = omega (arith, h 0, h 1, h 2, h 3)

same_4 : (bs : List ℕ) (n : ℕ) → ((i : ℕ) → get_or bs i 0 < 256) → length bs ≡ 4 → from_be_bytes w32 bs ≡ n → (bs ≡ to_be_bytes w32 n) × (n < 2 ^ 32)
same_4 bs n small is e = (sym (be_bytes_4 bs n is small (sym e)), subst (λ (k : ℕ). k < 2 ^ 32) e (small_4 bs small))

same_16 : (bs : List ℕ) (n : ℕ) → ((i : ℕ) → get_or bs i 0 < 256) → length bs ≡ 16 → from_be_bytes w128 bs ≡ n → (bs ≡ to_be_bytes w128 n) × (n < 2 ^ 128)
same_16 bs n small is e = (sym (be_bytes_16 bs n is small (sym e)), subst (λ (k : ℕ). k < 2 ^ 128) e (small_16 bs small))

-- addresses

ipv4_of_found : (bs : List ℕ) (n : ℕ) → ((i : ℕ) → get_or bs i 0 < 256) → ipv4_of bs ≡ Some n → (bs ≡ to_be_bytes w32 n) × (n < 2 ^ 32)
ipv4_of_found bs n small h = elim (chosen (length bs == 4) (Some (from_be_bytes w32 bs)) None (Some n) h) [
  | inl p ↦ same_4 bs n small (eqb-true _ 4 p.0) (same_Some _ n p.1)
  | inr p ↦ absurd (none-some n p.1)
]

pub ipv4_finds : Finds ipv4_in (λ n. byte_string (to_be_bytes w32 n)) (λ n. n < 2 ^ 32)
unfolding ipv4_in
ipv4_finds t n enc h = bytes_find ipv4_of (to_be_bytes w32) (λ n. n < 2 ^ 32) ipv4_of_found t n enc h

pub ipv4_again : Again ipv4_in (λ n. byte_string (to_be_bytes w32 n)) (λ n. n < 2 ^ 32)
unfolding ipv4_in
ipv4_again n h = ap Some (from_be_bytes-to_be_bytes_4 n h)

ipv6_of_found : (bs : List ℕ) (n : ℕ) → ((i : ℕ) → get_or bs i 0 < 256) → ipv6_of bs ≡ Some n → (bs ≡ to_be_bytes w128 n) × (n < 2 ^ 128)
ipv6_of_found bs n small h = elim (chosen (length bs == 16) (Some (from_be_bytes w128 bs)) None (Some n) h) [
  | inl p ↦ same_16 bs n small (eqb-true _ 16 p.0) (same_Some _ n p.1)
  | inr p ↦ absurd (none-some n p.1)
]

pub ipv6_finds : Finds ipv6_in (λ n. byte_string (to_be_bytes w128 n)) (λ n. n < 2 ^ 128)
unfolding ipv6_in
ipv6_finds t n enc h = bytes_find ipv6_of (to_be_bytes w128) (λ n. n < 2 ^ 128) ipv6_of_found t n enc h

pub ipv6_again : Again ipv6_in (λ n. byte_string (to_be_bytes w128 n)) (λ n. n < 2 ^ 128)
unfolding ipv6_in
ipv6_again n h = ap Some (back_16 n h)

address_of_found : (bs : List ℕ) (a : Address) → ((i : ℕ) → get_or bs i 0 < 256) → address_of bs ≡ Some a → (bs ≡ address_bytes a) × IsAddress a
address_of_found bs a small h = elim (chosen (length bs == 4) (Some (address.V4 (from_be_bytes w32 bs))) _ (Some a) h) [
  | inl p ↦ subst (λ x. (bs ≡ address_bytes x) × IsAddress x) (same_Some _ a p.1) (same_4 bs (from_be_bytes w32 bs) small (eqb-true _ 4 p.0) refl)
  | inr p ↦ elim (chosen (length bs == 16) (Some (address.V6 (from_be_bytes w128 bs))) None (Some a) p.1) [
    | inl q ↦ subst (λ x. (bs ≡ address_bytes x) × IsAddress x) (same_Some _ a q.1) (same_16 bs (from_be_bytes w128 bs) small (eqb-true _ 16 q.0) refl)
    | inr q ↦ absurd (none-some a q.1)
  ]
]

pub address_finds : Finds address_in address_item IsAddress
unfolding address_in
address_finds t a enc h = bytes_find address_of address_bytes IsAddress address_of_found t a enc h

pub address_again : Again address_in address_item IsAddress
unfolding address_in
address_again (address.V4 n) h = ap (λ m. Some (address.V4 m)) (from_be_bytes-to_be_bytes_4 n h)
address_again (address.V6 n) h = ap (λ m. Some (address.V6 m)) (back_16 n h)

-- protocols

proto_of_found : (n : ℕ) (p : Proto) → proto_of n ≡ Some p → unsigned n ≡ proto_item p
proto_of_found n p h = elim (chosen (n == 6) (Some Tcp) _ (Some p) h) [
  | inl e ↦ ap unsigned (eqb-true n 6 e.0) ∙ ap proto_item (same_Some Tcp p e.1)
  | inr e ↦ elim (chosen (n == 17) (Some Udp) None (Some p) e.1) [
    | inl f ↦ ap unsigned (eqb-true n 17 f.0) ∙ ap proto_item (same_Some Udp p f.1)
    | inr f ↦ absurd (none-some p f.1)
  ]
]

pub proto_finds : Finds proto_in proto_item Any
unfolding proto_in
proto_finds t p enc h =
    let n = some_bind (number_in t) proto_of p h in
    ((number_finds t n.0 enc n.1).0 ∙ proto_of_found n.0 p n.2, tt)

pub proto_again : Again proto_in proto_item Any
unfolding proto_in
proto_again Tcp h = refl
proto_again Udp h = refl

pub some_proto_finds : (t : DataItem) (o : Option Proto) → IsEncodable t → or_null proto_in t ≡ Some o → (t ≡ proto_or_null o) × IfSome o Any
some_proto_finds t o enc h = or_null_found proto_in proto_item Any proto_finds proto_or_null refl (λ p. refl) t o enc h

pub some_proto_again : (o : Option Proto) → or_null proto_in (proto_or_null o) ≡ Some o
unfolding proto_in
some_proto_again None = refl
some_proto_again (Some Tcp) = refl
some_proto_again (Some Udp) = refl

pub some_port_finds : (t : DataItem) (o : Option ℕ) → IsEncodable t → or_null port_in t ≡ Some o → (t ≡ port_or_null o) × IfSome o (λ n. n < 2 ^ 16)
some_port_finds t o enc h = or_null_found port_in unsigned (λ n. n < 2 ^ 16) port_finds port_or_null refl (λ n. refl) t o enc h

pub some_port_again : (o : Option ℕ) → IfSome o (λ n. n < 2 ^ 16) → or_null port_in (port_or_null o) ≡ Some o
some_port_again None h = refl
some_port_again (Some n) h = ap (λ o. o >>= λ m. Some (Some m)) (port_again n h)

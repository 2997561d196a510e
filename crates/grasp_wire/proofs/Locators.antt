-- Locators are read from their items.
use Rattle.std.proofs.Common.{◌≡◌, ◌<◌, ◌^◌, ◌==◌, ℕ, Option, Some, None, IfSome, List, [], ◌∷◌, refl, ap, subst, ◌∙◌, inl, inr, true, length, drop}
use Rattle.std.proofs.lemmas.Bool.{eqb-true}
use Rattle.std.proofs.lemmas.Option.{same_Some, none-some}
use Rattle.std.specs.Int.{to_be_bytes, w32, w128}
use Rattle.std.specs.Str.{IsUtf8}
use Rattle.grasp_cbor.proofs.Takes.{chosen}
use Rattle.grasp_cbor.specs.DataItem.{DataItem, unsigned, byte_string, text_string, array_of, data_items}
use Rattle.grasp_cbor.specs.Encodable.{AreEncodable}
use Rattle.grasp_types.specs.Address.{proto_item, proto_or_null, port_or_null, locator_item, IsLocator}
use Rattle.grasp_types.specs.Message.{locator_or_empty}
use Rattle.grasp_types.specs.declared.address.Locator.{Locator}
use Rattle.grasp_types.specs.declared.address.Locator.TheVariants.{V6, V4, Fqdn, Uri}
use Rattle.grasp_wire.specs.Reading.{◌>>=◌, at_place, number_in, text_in, or_null}
use Rattle.grasp_wire.specs.ReadParts.{ipv4_in, ipv6_in, proto_in, port_in, v6_of, v4_of, fqdn_of, uri_of, locator_of_kind, locator_of, locator_in, locator_or_empty_of, locator_or_empty_in}
use Rattle.grasp_wire.proofs.Scalars.{Finds, Again, Any, PartsFind, some_bind, array_finds, port_finds, port_again, text_finds}
use Rattle.grasp_wire.proofs.Addresses.{ipv4_finds, ipv4_again, ipv6_finds, ipv6_again, proto_finds, proto_again, some_proto_finds, some_proto_again, some_port_finds, some_port_again}
use Rattle.grasp_wire.proofs.Steps.{step, first_is, ends, and_then}

-- the array is that of this locator, which is in range
abbrev pub IsOf : List DataItem → Locator → Type 0
IsOf ts l = (array_of ts ≡ locator_item l) × IsLocator l

-- four parts in a row
four : (ts : List DataItem) (a b c d : DataItem) → ts ≡ a ∷ drop 1 ts → drop 1 ts ≡ b ∷ drop 2 ts → drop 2 ts ≡ c ∷ drop 3 ts → drop 3 ts ≡ d ∷ drop 4 ts → drop 4 ts ≡ []
    → ts ≡ a ∷ b ∷ c ∷ d ∷ []
four ts a b c d ea eb ec ed ends =
    and_then a ts (drop 1 ts) _ ea (and_then b (drop 1 ts) (drop 2 ts) _ eb (and_then c (drop 2 ts) (drop 3 ts) _ ec (and_then d (drop 3 ts) (drop 4 ts) _ ed ends)))

v6_found : (ts : List DataItem) (l : Locator) → AreEncodable (data_items ts) → length ts ≡ 4 → ts ≡ unsigned 103 ∷ drop 1 ts → v6_of ts ≡ Some l → IsOf ts l
unfolding v6_of
v6_found ts l enc len kind h =
    let n = some_bind (at_place ipv6_in ts 1) _ l h in
    let proto = some_bind (at_place proto_in ts 2) _ l n.2 in
    let port = some_bind (at_place port_in ts 3) _ l proto.2 in
    let a = step ipv6_in (λ m. byte_string (to_be_bytes w128 m)) (λ m. m < 2 ^ 128) ipv6_finds ts 1 n.0 enc n.1 in
    let b = step proto_in proto_item Any proto_finds ts 2 proto.0 enc proto.1 in
    let c = step port_in unsigned (λ m. m < 2 ^ 16) port_finds ts 3 port.0 enc port.1 in
    subst (IsOf ts) (same_Some (V6 n.0 proto.0 port.0) l port.2)
    (ap array_of (four ts (unsigned 103) (byte_string (to_be_bytes w128 n.0)) (proto_item proto.0) (unsigned port.0) kind a.0 b.0 c.0 (ends ts 4 len)), (a.1, c.1))

v4_found : (ts : List DataItem) (l : Locator) → AreEncodable (data_items ts) → length ts ≡ 4 → ts ≡ unsigned 104 ∷ drop 1 ts → v4_of ts ≡ Some l → IsOf ts l
unfolding v4_of
v4_found ts l enc len kind h =
    let n = some_bind (at_place ipv4_in ts 1) _ l h in
    let proto = some_bind (at_place proto_in ts 2) _ l n.2 in
    let port = some_bind (at_place port_in ts 3) _ l proto.2 in
    let a = step ipv4_in (λ m. byte_string (to_be_bytes w32 m)) (λ m. m < 2 ^ 32) ipv4_finds ts 1 n.0 enc n.1 in
    let b = step proto_in proto_item Any proto_finds ts 2 proto.0 enc proto.1 in
    let c = step port_in unsigned (λ m. m < 2 ^ 16) port_finds ts 3 port.0 enc port.1 in
    subst (IsOf ts) (same_Some (V4 n.0 proto.0 port.0) l port.2)
    (ap array_of (four ts (unsigned 104) (byte_string (to_be_bytes w32 n.0)) (proto_item proto.0) (unsigned port.0) kind a.0 b.0 c.0 (ends ts 4 len)), (a.1, c.1))

fqdn_found : (ts : List DataItem) (l : Locator) → AreEncodable (data_items ts) → length ts ≡ 4 → ts ≡ unsigned 105 ∷ drop 1 ts → fqdn_of ts ≡ Some l → IsOf ts l
unfolding fqdn_of
fqdn_found ts l enc len kind h =
    let name = some_bind (at_place text_in ts 1) _ l h in
    let proto = some_bind (at_place proto_in ts 2) _ l name.2 in
    let port = some_bind (at_place port_in ts 3) _ l proto.2 in
    let a = step text_in text_string IsUtf8 text_finds ts 1 name.0 enc name.1 in
    let b = step proto_in proto_item Any proto_finds ts 2 proto.0 enc proto.1 in
    let c = step port_in unsigned (λ m. m < 2 ^ 16) port_finds ts 3 port.0 enc port.1 in
    subst (IsOf ts) (same_Some (Fqdn name.0 proto.0 port.0) l port.2)
    (ap array_of (four ts (unsigned 105) (text_string name.0) (proto_item proto.0) (unsigned port.0) kind a.0 b.0 c.0 (ends ts 4 len)), (a.1, c.1))

uri_found : (ts : List DataItem) (l : Locator) → AreEncodable (data_items ts) → length ts ≡ 4 → ts ≡ unsigned 106 ∷ drop 1 ts → uri_of ts ≡ Some l → IsOf ts l
unfolding uri_of
uri_found ts l enc len kind h =
    let text = some_bind (at_place text_in ts 1) _ l h in
    let proto = some_bind (at_place (or_null proto_in) ts 2) _ l text.2 in
    let port = some_bind (at_place (or_null port_in) ts 3) _ l proto.2 in
    let a = step text_in text_string IsUtf8 text_finds ts 1 text.0 enc text.1 in
    let b = step (or_null proto_in) proto_or_null (λ o. IfSome o Any) some_proto_finds ts 2 proto.0 enc proto.1 in
    let c = step (or_null port_in) port_or_null (λ o. IfSome o (λ m. m < 2 ^ 16)) some_port_finds ts 3 port.0 enc port.1 in
    subst (IsOf ts) (same_Some (Uri text.0 proto.0 port.0) l port.2)
    (ap array_of (four ts (unsigned 106) (text_string text.0) (proto_or_null proto.0) (port_or_null port.0) kind a.0 b.0 c.0 (ends ts 4 len)), (a.1, c.1))

-- the kind of the array is the number that it was compared with
pub of_kind : (ts : List DataItem) (k n : ℕ) → ts ≡ unsigned k ∷ drop 1 ts → (k == n) ≡ true → ts ≡ unsigned n ∷ drop 1 ts
of_kind ts k n e is = e ∙ ap (λ m. unsigned m ∷ drop 1 ts) (eqb-true k n is)

kind_found : (ts : List DataItem) (k : ℕ) (l : Locator) → AreEncodable (data_items ts) → length ts ≡ 4 → ts ≡ unsigned k ∷ drop 1 ts → locator_of_kind k ts ≡ Some l → IsOf ts l
unfolding locator_of_kind
kind_found ts k l enc len kind h = elim (chosen (k == 103) (v6_of ts) _ (Some l) h) [
  | inl p ↦ v6_found ts l enc len (of_kind ts k 103 kind p.0) p.1
  | inr p ↦ elim (chosen (k == 104) (v4_of ts) _ (Some l) p.1) [
    | inl q ↦ v4_found ts l enc len (of_kind ts k 104 kind q.0) q.1
    | inr q ↦ elim (chosen (k == 105) (fqdn_of ts) _ (Some l) q.1) [
      | inl r ↦ fqdn_found ts l enc len (of_kind ts k 105 kind r.0) r.1
      | inr r ↦ elim (chosen (k == 106) (uri_of ts) None (Some l) r.1) [
        | inl s ↦ uri_found ts l enc len (of_kind ts k 106 kind s.0) s.1
        | inr s ↦ absurd (none-some l s.1)
      ]
    ]
  ]
]

pub locator_parts_find : PartsFind locator_of locator_item IsLocator
unfolding locator_of
locator_parts_find ts l enc h = elim (chosen (length ts == 4) _ None (Some l) h) [
  | inl p ↦
      let k = some_bind (at_place number_in ts 0) _ l p.1 in
      kind_found ts k.0 l enc (eqb-true _ 4 p.0) (first_is ts k.0 enc k.1) k.2
  | inr p ↦ absurd (none-some l p.1)
]

pub locator_finds : Finds locator_in locator_item IsLocator
unfolding locator_in
locator_finds t l enc h = array_finds locator_of locator_item IsLocator locator_parts_find t l enc h

-- a locator is read back from its item

pub locator_again : Again locator_in locator_item IsLocator
unfolding locator_in locator_of locator_of_kind v6_of v4_of fqdn_of uri_of
locator_again (V6 n proto port) h = rw (ipv6_again n h.0, proto_again proto tt, port_again port h.1) refl
locator_again (V4 n proto port) h = rw (ipv4_again n h.0, proto_again proto tt, port_again port h.1) refl
locator_again (Fqdn name proto port) h = rw (proto_again proto tt, port_again port h.1) refl
locator_again (Uri text proto port) h = rw (some_proto_again proto, some_port_again port h.1) refl

-- or the empty array

abbrev IsOfSome : List DataItem → Option Locator → Type 0
IsOfSome ts o = (array_of ts ≡ locator_or_empty o) × IfSome o IsLocator

locator_or_empty_parts_find : PartsFind locator_or_empty_of locator_or_empty (λ o. IfSome o IsLocator)
unfolding locator_or_empty_of
locator_or_empty_parts_find ts o enc h = elim (chosen (length ts == 0) (Some None) _ (Some o) h) [
  | inl p ↦ subst (IsOfSome ts) (same_Some None o p.1) (ap array_of (ends ts 0 (eqb-true _ 0 p.0)), tt)
  | inr p ↦
      let l = some_bind (locator_of ts) _ o p.1 in
      subst (IsOfSome ts) (same_Some (Some l.0) o l.2) (locator_parts_find ts l.0 enc l.1)
]

pub locator_or_empty_finds : Finds locator_or_empty_in locator_or_empty (λ o. IfSome o IsLocator)
unfolding locator_or_empty_in
locator_or_empty_finds t o enc h = array_finds locator_or_empty_of locator_or_empty (λ v. IfSome v IsLocator) locator_or_empty_parts_find t o enc h

pub locator_or_empty_again : Again locator_or_empty_in locator_or_empty (λ o. IfSome o IsLocator)
unfolding locator_or_empty_in locator_or_empty_of locator_in
locator_or_empty_again None h = refl
locator_or_empty_again (Some (V6 n proto port)) h = ap (λ o. o >>= λ l. Some (Some l)) (locator_again (V6 n proto port) h)
locator_or_empty_again (Some (V4 n proto port)) h = ap (λ o. o >>= λ l. Some (Some l)) (locator_again (V4 n proto port) h)
locator_or_empty_again (Some (Fqdn name proto port)) h = ap (λ o. o >>= λ l. Some (Some l)) (locator_again (Fqdn name proto port) h)
locator_or_empty_again (Some (Uri text proto port)) h = ap (λ o. o >>= λ l. Some (Some l)) (locator_again (Uri text proto port) h)

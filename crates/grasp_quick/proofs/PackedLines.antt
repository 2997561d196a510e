-- Locators, answers, parts and messages that are packed.
use Rattle.std.proofs.Common.{◌≡◌, ℕ, ◌+◌, ◌<◌, ◌≤◌, ◌^◌, List, [], ◌∷◌, ◌++◌, length, length-append, take, drop, map, codes, decimal, refl, sym}
use Rattle.std.proofs.Common.{ap, subst, ◌∙◌, append_assoc, append-nil, arith}
use Rattle.std.specs.Prelude.{IfSome, Option, Some, None, option_map, ⊤}
use Rattle.std.specs.Int.{to_be_bytes, w32, w128}
use Rattle.std.specs.Str.{IsUtf8}
use Rattle.std.proofs.lemmas.List.{length-map, map-append, take_all}
use Rattle.std.proofs.lemmas.List.Elements.{All-push, All-nil}
use Rattle.grasp_cbor.specs.DataItem.{DataItem, unsigned, byte_string, text_string, data_items}
use Rattle.grasp_cbor.specs.Head.{shortest_head}
use Rattle.grasp_cbor.specs.Shortest.{shortest, shortest_items}
use Rattle.grasp_types.specs.Address.{address_item, proto_item, proto_or_null, port_or_null, locator_item, IsAddress, IsLocator}
use Rattle.grasp_types.specs.Message.{item_of, answer_items, locator_or_empty, flood_part_item, verdict_item, IsFloodPart, IsMessage}
use Rattle.grasp_types.specs.Message.{IsVerdict}
use Rattle.grasp_types.specs.Objective.{optional, objective_item, IsObjective}
use Rattle.grasp_types.specs.declared.address.Locator.TheVariants.{V6, V4, Fqdn, Uri}
use Rattle.grasp_types.specs.declared.address.Proto.{Proto}
use Rattle.grasp_types.specs.declared.flood.FloodPart.{FloodPart}
use Rattle.grasp_types.specs.declared.message.Answer.TheVariants.{Locators, Divert}
use Rattle.grasp_types.specs.declared.message.Message.{Message}
use Rattle.grasp_types.specs.declared.message.Message.TheVariants.{Noop, Discovery, Response, ReqNeg, ReqSyn, Negotiate, End, Wait, Synch, Flood}
use Rattle.grasp_types.specs.declared.message.Message.TheVariants.{Invalid}
use Rattle.grasp_types.specs.declared.message.Verdict.TheVariants.{Accept, Decline}
use Rattle.grasp_text.specs.Line.{address_word, v4_word, v6_word, proto_word, or_dash, text_word, locator_words, all_locator_words}
use Rattle.grasp_text.specs.Line.{locator_or_none, objective_words, flood_part_words, all_flood_part_words}
use Rattle.grasp_text.specs.Line.{verdict_words, line_of}
use Rattle.grasp_text.specs.Words.{spaced}
use Rattle.grasp_text.specs.Writing.{line_name, words_behind_name}
use Rattle.grasp_text.proofs.Pushed.{line_appended}
use Rattle.grasp_quick.specs.Packed.{Packs, PacksLine, PacksValue, PacksObjective, PacksTold, PacksLocators, PacksAnswer, PacksParts, IsPackedLine}
use Rattle.grasp_quick.proofs.Packing.{alone_read, alone_packed, packed_alone, word_read, both, array_packed, number_packed, kind_packed, late_packed}
use Rattle.grasp_quick.proofs.Packing.{items_append, words_append}
use Rattle.grasp_quick.proofs.Sequence.{locator_more, part_more}

-- a number of 32 bits
abbrev pub PacksNumber : List ℕ → List ℕ → List ℕ → List ℕ → Type 0
PacksNumber line rest old new = Packs (λ n. unsigned n ∷ []) (λ n. n ≤ 4294967295) (λ n. decimal n ∷ []) line rest old new

abbrev pub PacksPort : List ℕ → List ℕ → List ℕ → List ℕ → Type 0
PacksPort line rest old new = Packs (λ n. unsigned n ∷ []) (λ n. n ≤ 65535) (λ n. decimal n ∷ []) line rest old new

abbrev pub PacksAddress : List ℕ → List ℕ → List ℕ → List ℕ → Type 0
PacksAddress line rest old new = Packs (λ a. address_item a ∷ []) IsAddress (λ a. address_word a ∷ []) line rest old new

abbrev pub PacksTheObjective : List ℕ → List ℕ → List ℕ → List ℕ → Type 0
PacksTheObjective line rest old new = Packs (λ o. objective_item o ∷ []) IsObjective objective_words line rest old new

abbrev pub PacksText : List ℕ → List ℕ → List ℕ → List ℕ → Type 0
PacksText line rest old new = Packs (λ t. text_string t ∷ []) IsUtf8 (λ t. text_word t ∷ []) line rest old new

abbrev pub PacksProto : List ℕ → List ℕ → List ℕ → List ℕ → Type 0
PacksProto line rest old new = Packs (λ p. proto_item p ∷ []) (λ p. ⊤) (λ p. proto_word p ∷ []) line rest old new

abbrev pub PacksLocator : List ℕ → List ℕ → List ℕ → List ℕ → Type 0
PacksLocator line rest old new = Packs (λ l. locator_item l ∷ []) IsLocator locator_words line rest old new

wide : (n : ℕ) → n ≤ 4294967295 → n < 2 ^ 32
wide n h = omega (arith, h)

port_small : (n : ℕ) → n ≤ 65535 → n < 2 ^ 16
port_small n h = omega (arith, h)

-- ---- places

pub proto_packs : (p : Proto) (kind : ℕ) (line rest old new : List ℕ) → line ≡ 32 ∷ (proto_word p ++ rest) → unsigned kind ≡ proto_item p
    → new ≡ old ++ shortest_head 0 kind → PacksProto line rest old new
proto_packs p kind line rest old new read item packed = record {
  value = p;
  is_one = tt;
  read = alone_read (proto_word p) line rest read;
  packed = alone_packed (proto_item p) old new (packed ∙ ap (λ t. old ++ shortest t) item);
}

pub known_proto_packs : (line rest old new : List ℕ) → PacksProto line rest old new
    → Packs (λ p. proto_or_null p ∷ []) (λ p. ⊤) (λ p. or_dash proto_word p ∷ []) line rest old new
known_proto_packs line rest old new h = record { value = Some h.value; is_one = tt; read = h.read; packed = h.packed }

pub no_proto_packs : (line rest old new : List ℕ) → line ≡ 32 ∷ 45 ∷ rest → new ≡ old ++ 246 ∷ []
    → Packs (λ p. proto_or_null p ∷ []) (λ p. ⊤) (λ p. or_dash proto_word p ∷ []) line rest old new
no_proto_packs line rest old new read packed = record { value = None; is_one = tt; read = read; packed = packed }

pub known_port_packs : (line rest old new : List ℕ) → PacksPort line rest old new
    → Packs (λ p. port_or_null p ∷ []) (λ p. IfSome p (λ port. port ≤ 65535)) (λ p. or_dash decimal p ∷ []) line rest old new
known_port_packs line rest old new h = record { value = Some h.value; is_one = h.is_one; read = h.read; packed = h.packed }

pub no_port_packs : (line rest old new : List ℕ) → line ≡ 32 ∷ 45 ∷ rest → new ≡ old ++ 246 ∷ []
    → Packs (λ p. port_or_null p ∷ []) (λ p. IfSome p (λ port. port ≤ 65535)) (λ p. or_dash decimal p ∷ []) line rest old new
no_port_packs line rest old new read packed = record { value = None; is_one = tt; read = read; packed = packed }

-- ---- locators

port_fits : (p : Option ℕ) → IfSome p (λ port. port ≤ 65535) → IfSome p (λ port. port < 2 ^ 16)
port_fits None h = tt
port_fits (Some n) h = port_small n h

pub v6_packs : (line r0 r1 r2 rest old l0 l1 l2 l3 new : List ℕ) → line ≡ 32 ∷ (codes "v6" ++ r0) → l0 ≡ old ++ shortest_head 4 4
    → l1 ≡ l0 ++ shortest_head 0 103
    → Packs (λ n. byte_string (to_be_bytes w128 n) ∷ []) (λ n. n < 2 ^ 128) (λ n. v6_word n ∷ []) r0 r1 l1 l2 → PacksProto r1 r2 l2 l3
    → PacksPort r2 rest l3 new → PacksLocator line rest old new
v6_packs line r0 r1 r2 rest old l0 l1 l2 l3 new opens head kind place proto port =
    let all = both _ _ _ _ _ _ r0 r1 rest l1 l2 new place (both _ _ _ _ _ _ r1 r2 rest l2 l3 new proto port) in
    record {
      value = V6 place.value proto.value port.value;
      is_one = (place.is_one, port_small port.value port.is_one);
      read = word_read (codes "v6") line r0 rest (v6_word place.value ∷ proto_word proto.value ∷ decimal port.value ∷ []) opens all.read;
      packed = kind_packed 4 103 (byte_string (to_be_bytes w128 place.value) ∷ proto_item proto.value ∷ unsigned port.value ∷ []) old l0 l1 new refl
          head kind all.packed;
    }

pub v4_packs : (line r0 r1 r2 rest old l0 l1 l2 l3 new : List ℕ) → line ≡ 32 ∷ (codes "v4" ++ r0) → l0 ≡ old ++ shortest_head 4 4
    → l1 ≡ l0 ++ shortest_head 0 104
    → Packs (λ n. byte_string (to_be_bytes w32 n) ∷ []) (λ n. n < 2 ^ 32) (λ n. v4_word n ∷ []) r0 r1 l1 l2 → PacksProto r1 r2 l2 l3
    → PacksPort r2 rest l3 new → PacksLocator line rest old new
v4_packs line r0 r1 r2 rest old l0 l1 l2 l3 new opens head kind place proto port =
    let all = both _ _ _ _ _ _ r0 r1 rest l1 l2 new place (both _ _ _ _ _ _ r1 r2 rest l2 l3 new proto port) in
    record {
      value = V4 place.value proto.value port.value;
      is_one = (place.is_one, port_small port.value port.is_one);
      read = word_read (codes "v4") line r0 rest (v4_word place.value ∷ proto_word proto.value ∷ decimal port.value ∷ []) opens all.read;
      packed = kind_packed 4 104 (byte_string (to_be_bytes w32 place.value) ∷ proto_item proto.value ∷ unsigned port.value ∷ []) old l0 l1 new refl
          head kind all.packed;
    }

pub fqdn_packs : (line r0 r1 r2 rest old l0 l1 l2 l3 new : List ℕ) → line ≡ 32 ∷ (codes "fqdn" ++ r0) → l0 ≡ old ++ shortest_head 4 4
    → l1 ≡ l0 ++ shortest_head 0 105
    → PacksText r0 r1 l1 l2 → PacksProto r1 r2 l2 l3 → PacksPort r2 rest l3 new → PacksLocator line rest old new
fqdn_packs line r0 r1 r2 rest old l0 l1 l2 l3 new opens head kind name proto port =
    let all = both _ _ _ _ _ _ r0 r1 rest l1 l2 new name (both _ _ _ _ _ _ r1 r2 rest l2 l3 new proto port) in
    record {
      value = Fqdn name.value proto.value port.value;
      is_one = (name.is_one, port_small port.value port.is_one);
      read = word_read (codes "fqdn") line r0 rest (text_word name.value ∷ proto_word proto.value ∷ decimal port.value ∷ []) opens all.read;
      packed = kind_packed 4 105 (text_string name.value ∷ proto_item proto.value ∷ unsigned port.value ∷ []) old l0 l1 new refl head kind all.packed;
    }

pub uri_packs : (line r0 r1 r2 rest old l0 l1 l2 l3 new : List ℕ) → line ≡ 32 ∷ (codes "uri" ++ r0) → l0 ≡ old ++ shortest_head 4 4
    → l1 ≡ l0 ++ shortest_head 0 106
    → PacksText r0 r1 l1 l2 → Packs (λ p. proto_or_null p ∷ []) (λ p. ⊤) (λ p. or_dash proto_word p ∷ []) r1 r2 l2 l3
    → Packs (λ p. port_or_null p ∷ []) (λ p. IfSome p (λ port. port ≤ 65535)) (λ p. or_dash decimal p ∷ []) r2 rest l3 new
    → PacksLocator line rest old new
uri_packs line r0 r1 r2 rest old l0 l1 l2 l3 new opens head kind text proto port =
    let all = both _ _ _ _ _ _ r0 r1 rest l1 l2 new text (both _ _ _ _ _ _ r1 r2 rest l2 l3 new proto port) in
    record {
      value = Uri text.value proto.value port.value;
      is_one = (text.is_one, port_fits port.value port.is_one);
      read = word_read (codes "uri") line r0 rest (text_word text.value ∷ or_dash proto_word proto.value ∷ or_dash decimal port.value ∷ []) opens
          all.read;
      packed = kind_packed 4 106 (text_string text.value ∷ proto_or_null proto.value ∷ port_or_null port.value ∷ []) old l0 l1 new refl head kind
          all.packed;
    }

pub known_locator_packs : (line rest old new : List ℕ) → PacksLocator line rest old new
    → Packs (λ l. locator_or_empty l ∷ []) (λ l. IfSome l IsLocator) locator_or_none line rest old new
known_locator_packs line rest old new h = record { value = Some h.value; is_one = h.is_one; read = h.read; packed = h.packed }

pub no_locator_packs : (line rest old new : List ℕ) → line ≡ 32 ∷ (codes "none" ++ rest) → new ≡ old ++ shortest_head 4 0
    → Packs (λ l. locator_or_empty l ∷ []) (λ l. IfSome l IsLocator) locator_or_none line rest old new
no_locator_packs line rest old new opens packed = record {
  value = None;
  is_one = tt;
  read = alone_read (codes "none") line rest opens;
  packed = array_packed [] 0 old new new refl packed (sym (append-nil new));
}

-- ---- lists

pub one_locator_packs : (line rest old new : List ℕ) → PacksLocator line rest old new → PacksLocators 1 line rest old new
one_locator_packs line rest old new h = record {
  value = h.value ∷ [];
  is_one = (All-push IsLocator [] h.value (All-nil IsLocator) h.is_one, refl);
  read = h.read ∙ ap (λ (ws : List (List ℕ)). spaced ws ++ rest) (sym (append-nil (locator_words h.value)));
  packed = h.packed;
}

pub more_locators_pack : (count : ℕ) (line middle rest old between new : List ℕ) → PacksLocators count line middle old between
    → PacksLocator middle rest between new → PacksLocators (count + 1) line rest old new
more_locators_pack count line middle rest old between new h l = record {
  value = h.value ++ l.value ∷ [];
  is_one = (All-push IsLocator h.value l.value h.is_one.0 l.is_one, omega (arith, h.is_one.1, length-append h.value (l.value ∷ [])));
  read = words_append (all_locator_words h.value) (locator_words l.value) line middle rest h.read l.read
      ∙ ap (λ (ws : List (List ℕ)). spaced ws ++ rest) (sym (locator_more h.value l.value));
  packed = subst (λ (ts : List DataItem). new ≡ old ++ shortest_items (data_items ts)) (sym (map-append locator_item h.value (l.value ∷ [])))
      (items_append (map locator_item h.value) (locator_item l.value ∷ []) old between new h.packed l.packed);
}

abbrev pub PacksPart : List ℕ → List ℕ → List ℕ → List ℕ → Type 0
PacksPart line rest old new = Packs (λ p. flood_part_item p ∷ []) IsFloodPart flood_part_words line rest old new

pub one_part_packs : (line rest old new : List ℕ) → PacksPart line rest old new → PacksParts 1 line rest old new
one_part_packs line rest old new h = record {
  value = h.value ∷ [];
  is_one = (All-push IsFloodPart [] h.value (All-nil IsFloodPart) h.is_one, refl);
  read = h.read ∙ ap (λ (ws : List (List ℕ)). spaced ws ++ rest) (sym (append-nil (flood_part_words h.value)));
  packed = h.packed;
}

pub more_parts_pack : (count : ℕ) (line middle rest old between new : List ℕ) → PacksParts count line middle old between
    → PacksPart middle rest between new → PacksParts (count + 1) line rest old new
more_parts_pack count line middle rest old between new h p = record {
  value = h.value ++ p.value ∷ [];
  is_one = (All-push IsFloodPart h.value p.value h.is_one.0 p.is_one, omega (arith, h.is_one.1, length-append h.value (p.value ∷ [])));
  read = words_append (all_flood_part_words h.value) (flood_part_words p.value) line middle rest h.read p.read
      ∙ ap (λ (ws : List (List ℕ)). spaced ws ++ rest) (sym (part_more h.value p.value));
  packed = subst (λ (ts : List DataItem). new ≡ old ++ shortest_items (data_items ts)) (sym (map-append flood_part_item h.value (p.value ∷ [])))
      (items_append (map flood_part_item h.value) (flood_part_item p.value ∷ []) old between new h.packed p.packed);
}

-- ---- parts

pub part_packs : (line r0 rest old l0 l1 new : List ℕ) → l0 ≡ old ++ shortest_head 4 2 → PacksTheObjective line r0 l0 l1
    → Packs (λ l. locator_or_empty l ∷ []) (λ l. IfSome l IsLocator) locator_or_none r0 rest l1 new → PacksPart line rest old new
part_packs line r0 rest old l0 l1 new head objective locator =
    let all = both _ _ _ _ _ _ line r0 rest l0 l1 new objective locator in
    let part : FloodPart = record { objective = objective.value; locator = locator.value } in
    record {
      value = part;
      is_one = record { objective = objective.is_one; locator = locator.is_one };
      read = all.read;
      packed = array_packed (objective_item objective.value ∷ locator_or_empty locator.value ∷ []) 2 old l0 new refl head all.packed;
    }

pub side_by_side_packs : (count : ℕ) (line r0 rest old new : List ℕ) → 1 ≤ count → line ≡ 32 ∷ (codes "locators" ++ r0)
    → PacksLocators count r0 rest old new → PacksAnswer count line rest old new
side_by_side_packs count line r0 rest old new some opens h = record {
  value = Locators h.value;
  is_one = (record { some = omega (arith, some, h.is_one.1); each = h.is_one.0 }, length-map h.value locator_item ∙ h.is_one.1);
  read = word_read (codes "locators") line r0 rest (all_locator_words h.value) opens h.read;
  packed = h.packed;
}

pub divert_packs : (count parts at byte : ℕ) (line r0 rest old l0 l1 l2 new : List ℕ) → 1 ≤ count → line ≡ 32 ∷ (codes "divert" ++ r0)
    → at ≡ length old → l0 ≡ old ++ byte ∷ [] → l1 ≡ l0 ++ shortest_head 0 100
    → PacksLocators count r0 rest l1 l2 → parts ≡ 1 + count → new ≡ take at l2 ++ (shortest_head 4 parts ++ drop (at + 1) l2)
    → PacksAnswer 1 line rest old new
divert_packs count parts at byte line r0 rest old l0 l1 l2 new some opens place put kind h counts set =
    let ts = map locator_item h.value in
    let n : length ts ≡ count = length-map h.value locator_item ∙ h.is_one.1 in
    record {
      value = Divert h.value;
      is_one = (record { some = omega (arith, some, h.is_one.1); each = h.is_one.0 }, refl);
      read = word_read (codes "divert") line r0 rest (all_locator_words h.value) opens h.read;
      packed = late_packed (unsigned 100 ∷ ts) parts at byte old l0 l2 new (omega (arith, counts, n)) place put
          (number_packed 100 ts l0 l1 l2 kind h.packed) set;
    }

pub accept_packs : (line rest old l0 new : List ℕ) → line ≡ 32 ∷ (codes "accept" ++ rest) → l0 ≡ old ++ shortest_head 4 1
    → new ≡ l0 ++ shortest_head 0 101
    → Packs (λ v. verdict_item v ∷ []) IsVerdict verdict_words line rest old new
accept_packs line rest old l0 new opens head kind = record {
  value = Accept;
  is_one = tt;
  read = alone_read (codes "accept") line rest opens;
  packed = kind_packed 1 101 [] old l0 new new refl head kind (sym (append-nil new));
}

pub decline_packs : (line rest old l0 new : List ℕ) → line ≡ 32 ∷ (codes "decline" ++ rest) → l0 ≡ old ++ shortest_head 4 1
    → new ≡ l0 ++ shortest_head 0 102
    → Packs (λ v. verdict_item v ∷ []) IsVerdict verdict_words line rest old new
decline_packs line rest old l0 new opens head kind = record {
  value = Decline None;
  is_one = tt;
  read = alone_read (codes "decline") line rest opens;
  packed = kind_packed 1 102 [] old l0 new new refl head kind (sym (append-nil new));
}

pub decline_for_packs : (line r0 rest old l0 l1 new : List ℕ) → line ≡ 32 ∷ (codes "decline" ++ r0) → l0 ≡ old ++ shortest_head 4 2
    → l1 ≡ l0 ++ shortest_head 0 102 → PacksText r0 rest l1 new
    → Packs (λ v. verdict_item v ∷ []) IsVerdict verdict_words line rest old new
decline_for_packs line r0 rest old l0 l1 new opens head kind reason = record {
  value = Decline (Some reason.value);
  is_one = reason.is_one;
  read = word_read (codes "decline") line r0 rest (text_word reason.value ∷ []) opens reason.read;
  packed = kind_packed 2 102 (text_string reason.value ∷ []) old l0 l1 new refl head kind reason.packed;
}

-- ---- messages

-- a name and the words behind it are the line
line_read : (m : Message) (line r0 rest name : List ℕ) → name ≡ line_name m → line ≡ name ++ r0 → r0 ≡ spaced (words_behind_name m) ++ rest
    → line ≡ line_of m ++ rest
line_read m line r0 rest name e p q =
    let behind : List ℕ = spaced (words_behind_name m) in
    p ∙ ap (λ (x : List ℕ). name ++ x) q ∙ sym (append_assoc name behind rest)
    ∙ ap (λ (x : List ℕ). x ++ rest) (line_appended m [] name (name ++ behind) name refl e refl)

-- the words behind a name are packed as the message's item
pub line_packs : (m : Message) (line r0 rest name old new : List ℕ) → IsMessage m → name ≡ line_name m → line ≡ name ++ r0
    → r0 ≡ spaced (words_behind_name m) ++ rest
    → new ≡ old ++ shortest_items (data_items (item_of m ∷ [])) → PacksLine line rest old new
line_packs m line r0 rest name old new is e p q packed =
    record { message = m; is_message = is; read = line_read m line r0 rest name e p q; packed = packed_alone (item_of m) old new packed }

pub noop_packs : (line rest old l0 new : List ℕ) → line ≡ codes "noop" ++ rest → l0 ≡ old ++ shortest_head 4 1 → new ≡ l0 ++ shortest_head 0 0
    → PacksLine line rest old new
noop_packs line rest old l0 new opens head kind =
    line_packs Noop line rest rest (codes "noop") old new tt refl opens refl (kind_packed 1 0 [] old l0 new new refl head kind (sym (append-nil new)))

pub told_packs : (kind : ℕ) (line r0 rest old l0 l1 l2 new : List ℕ) → l0 ≡ old ++ shortest_head 4 3 → l1 ≡ l0 ++ shortest_head 0 kind
    → PacksNumber line r0 l1 l2 → PacksTheObjective r0 rest l2 new
    → PacksTold kind line rest old new
told_packs kind line r0 rest old l0 l1 l2 new head number session objective =
    let all = both _ _ _ _ _ _ line r0 rest l1 l2 new session objective in
    record {
      value = (session.value, objective.value);
      is_one = (session.is_one, objective.is_one);
      read = all.read;
      packed = kind_packed 3 kind (unsigned session.value ∷ objective_item objective.value ∷ []) old l0 l1 new refl head number all.packed;
    }

pub req_neg_packs : (line r0 rest old new : List ℕ) → line ≡ codes "request-neg" ++ r0 → PacksTold 3 r0 rest old new → PacksLine line rest old new
req_neg_packs line r0 rest old new opens h =
    line_packs (ReqNeg h.value.0 h.value.1) line r0 rest (codes "request-neg") old new (wide h.value.0 h.is_one.0, h.is_one.1) refl opens h.read
    h.packed

pub req_syn_packs : (line r0 rest old new : List ℕ) → line ≡ codes "request-syn" ++ r0 → PacksTold 4 r0 rest old new → PacksLine line rest old new
req_syn_packs line r0 rest old new opens h =
    line_packs (ReqSyn h.value.0 h.value.1) line r0 rest (codes "request-syn") old new (wide h.value.0 h.is_one.0, h.is_one.1) refl opens h.read
    h.packed

pub negotiate_packs : (line r0 rest old new : List ℕ) → line ≡ codes "negotiate" ++ r0 → PacksTold 5 r0 rest old new → PacksLine line rest old new
negotiate_packs line r0 rest old new opens h =
    line_packs (Negotiate h.value.0 h.value.1) line r0 rest (codes "negotiate") old new (wide h.value.0 h.is_one.0, h.is_one.1) refl opens h.read
    h.packed

pub synch_packs : (line r0 rest old new : List ℕ) → line ≡ codes "synch" ++ r0 → PacksTold 8 r0 rest old new → PacksLine line rest old new
synch_packs line r0 rest old new opens h =
    line_packs (Synch h.value.0 h.value.1) line r0 rest (codes "synch") old new (wide h.value.0 h.is_one.0, h.is_one.1) refl opens h.read h.packed

pub discovery_packs : (line r0 r1 r2 rest old l0 l1 l2 l3 new : List ℕ) → line ≡ codes "discovery" ++ r0 → l0 ≡ old ++ shortest_head 4 4
    → l1 ≡ l0 ++ shortest_head 0 1
    → PacksNumber r0 r1 l1 l2 → PacksAddress r1 r2 l2 l3 → PacksTheObjective r2 rest l3 new → PacksLine line rest old new
discovery_packs line r0 r1 r2 rest old l0 l1 l2 l3 new opens head kind session initiator objective =
    let all = both _ _ _ _ _ _ r0 r1 rest l1 l2 new session (both _ _ _ _ _ _ r1 r2 rest l2 l3 new initiator objective) in
    line_packs (Discovery session.value initiator.value objective.value) line r0 rest (codes "discovery") old new
    (wide session.value session.is_one, initiator.is_one, objective.is_one) refl opens all.read
    (kind_packed 4 1 (unsigned session.value ∷ address_item initiator.value ∷ objective_item objective.value ∷ []) old l0 l1 new refl head kind
    all.packed)

pub end_packs : (line r0 r1 rest old l0 l1 l2 new : List ℕ) → line ≡ codes "end" ++ r0 → l0 ≡ old ++ shortest_head 4 3 → l1 ≡ l0 ++ shortest_head 0 6
    → PacksNumber r0 r1 l1 l2 → Packs (λ v. verdict_item v ∷ []) IsVerdict verdict_words r1 rest l2 new → PacksLine line rest old new
end_packs line r0 r1 rest old l0 l1 l2 new opens head kind session verdict =
    let all = both _ _ _ _ _ _ r0 r1 rest l1 l2 new session verdict in
    line_packs (End session.value verdict.value) line r0 rest (codes "end") old new (wide session.value session.is_one, verdict.is_one) refl opens
    all.read
    (kind_packed 3 6 (unsigned session.value ∷ verdict_item verdict.value ∷ []) old l0 l1 new refl head kind all.packed)

pub wait_packs : (line r0 r1 rest old l0 l1 l2 new : List ℕ) → line ≡ codes "wait" ++ r0 → l0 ≡ old ++ shortest_head 4 3
    → l1 ≡ l0 ++ shortest_head 0 7
    → PacksNumber r0 r1 l1 l2 → PacksNumber r1 rest l2 new → PacksLine line rest old new
wait_packs line r0 r1 rest old l0 l1 l2 new opens head kind session millis =
    let all = both _ _ _ _ _ _ r0 r1 rest l1 l2 new session millis in
    line_packs (Wait session.value millis.value) line r0 rest (codes "wait") old new
    (wide session.value session.is_one, wide millis.value millis.is_one) refl opens all.read
    (kind_packed 3 7 (unsigned session.value ∷ unsigned millis.value ∷ []) old l0 l1 new refl head kind all.packed)

pub invalid_packs : (line r0 r1 rest old l0 l1 l2 l3 new : List ℕ) (at more count byte : ℕ) → line ≡ codes "invalid" ++ r0 → at ≡ length old
    → l0 ≡ old ++ byte ∷ [] → l1 ≡ l0 ++ shortest_head 0 99
    → PacksNumber r0 r1 l1 l2 → PacksValue more r1 rest l2 l3 → count ≡ 2 + more → new ≡ take at l3 ++ (shortest_head 4 count ++ drop (at + 1) l3)
    → PacksLine line rest old new
invalid_packs line r0 r1 rest old l0 l1 l2 l3 new at more count byte opens place put kind session detail counts set =
    let all = both _ _ _ _ _ _ r0 r1 rest l1 l2 l3 session detail in
    let ts = unsigned session.value ∷ optional detail.value in
    line_packs (Invalid session.value detail.value) line r0 rest (codes "invalid") old new (wide session.value session.is_one, detail.is_one.0) refl
    opens all.read
    (late_packed (unsigned 99 ∷ ts) count at byte old l0 l3 new (omega (arith, counts, detail.is_one.1)) place put
    (number_packed 99 ts l0 l1 l3 kind all.packed) set)

pub flood_packs : (line r0 r1 r2 r3 rest old l0 l1 l2 l3 l4 l5 new : List ℕ) (at parts count byte : ℕ) → line ≡ codes "flood" ++ r0 → at ≡ length old
    → l0 ≡ old ++ byte ∷ [] → l1 ≡ l0 ++ shortest_head 0 9
    → PacksNumber r0 r1 l1 l2 → PacksAddress r1 r2 l2 l3 → PacksNumber r2 r3 l3 l4 → PacksParts parts r3 rest l4 l5 → 1 ≤ parts → count ≡ 4 + parts
    → new ≡ take at l5 ++ (shortest_head 4 count ++ drop (at + 1) l5) → PacksLine line rest old new
flood_packs line r0 r1 r2 r3 rest old l0 l1 l2 l3 l4 l5 new at parts count byte opens place put kind session initiator ttl ps some counts set =
    let all = both _ _ _ _ _ _ r0 r1 rest l1 l2 l5 session
    (both _ _ _ _ _ _ r1 r2 rest l2 l3 l5 initiator (both _ _ _ _ _ _ r2 r3 rest l3 l4 l5 ttl ps)) in
    let ts = unsigned session.value ∷ address_item initiator.value ∷ unsigned ttl.value ∷ map flood_part_item ps.value in
    line_packs (Flood session.value initiator.value ttl.value ps.value) line r0 rest (codes "flood") old new (
      wide session.value session.is_one,
      initiator.is_one,
      wide ttl.value ttl.is_one,
      record
          { some = omega (arith, some, ps.is_one.1); each = ps.is_one.0 },
    ) refl opens all.read
    (late_packed (unsigned 9 ∷ ts) count at byte old l0 l5 new (omega (arith, counts, ps.is_one.1, length-map ps.value flood_part_item)) place put
    (number_packed 9 ts l0 l1 l5 kind all.packed) set)

pub response_packs : (line r0 r1 r2 r3 r4 rest old l0 l1 l2 l3 l4 l5 l6 new : List ℕ) (at answers objectives count byte : ℕ)
    → line ≡ codes "response" ++ r0 → at ≡ length old → l0 ≡ old ++ byte ∷ []
    → l1 ≡ l0 ++ shortest_head 0 2 → PacksNumber r0 r1 l1 l2 → PacksAddress r1 r2 l2 l3 → PacksNumber r2 r3 l3 l4 → PacksAnswer answers r3 r4 l4 l5
    → PacksObjective objectives r4 rest l5 l6
    → count ≡ 4 + answers + objectives → new ≡ take at l6 ++ (shortest_head 4 count ++ drop (at + 1) l6) → PacksLine line rest old new
response_packs line r0 r1 r2 r3 r4 rest old l0 l1 l2 l3 l4 l5 l6 new at answers objectives count byte opens place put kind session initiator ttl
    answer objective counts set =
    let all = both _ _ _ _ _ _ r0 r1 rest l1 l2 l6 session
    (both _ _ _ _ _ _ r1 r2 rest l2 l3 l6 initiator
    (both _ _ _ _ _ _ r2 r3 rest l3 l4 l6 ttl (both _ _ _ _ _ _ r3 r4 rest l4 l5 l6 answer objective))) in
    let told = answer_items answer.value in
    let last = optional (option_map objective_item objective.value) in
    let ts = unsigned session.value ∷ address_item initiator.value ∷ unsigned ttl.value ∷ (told ++ last) in
    line_packs (Response session.value initiator.value ttl.value answer.value objective.value) line r0 rest (codes "response") old new
    (wide session.value session.is_one, initiator.is_one, wide ttl.value ttl.is_one, answer.is_one.0, objective.is_one.0) refl opens all.read
    (late_packed (unsigned 2 ∷ ts) count at byte old l0 l6 new (omega (arith, counts, answer.is_one.1, objective.is_one.1, length-append told last))
    place put (number_packed 2 ts l0 l1 l6 kind all.packed) set)

-- a whole line
pub whole_packs : (limit : ℕ) (line rest old new : List ℕ) → PacksLine line rest old new → length rest ≡ 0 → old ≡ [] → length new ≤ limit
    → IsPackedLine limit line new
whole_packs limit line rest old new h none empty few =
    let nothing : rest ≡ [] = sym (take_all 0 rest (omega (arith, none))) in
    let bytes : new ≡ shortest (item_of h.message) = h.packed ∙ ap (λ (x : List ℕ). x ++ shortest (item_of h.message)) empty in
    record {
      message = h.message;
      is_line = record {
        whole = h.is_message;
        spelled = h.read ∙ ap (λ (x : List ℕ). line_of h.message ++ x) nothing
            ∙ append-nil (line_of h.message);
      };
      packed = bytes;
      fits = subst (λ (x : List ℕ). length x ≤ limit) bytes few;
    }

-- Values that are spelled one after another.
use Rattle.std.proofs.Common.{◌≡◌, ℕ, ◌+◌, ◌<◌, ◌≤◌, ◌^◌, List, [], ◌∷◌, ◌++◌, map, codes, decimal, refl, sym, ap, subst, ◌∙◌, append-nil, arith}
use Rattle.std.specs.Prelude.{IfSome, Option, Some, None, ⊤}
use Rattle.std.specs.Int.{to_be_bytes, w32, w128}
use Rattle.std.specs.Str.{IsUtf8}
use Rattle.std.proofs.lemmas.List.{length-append, length-map, map-append}
use Rattle.std.proofs.lemmas.List.Elements.{All-push, All-nil}
use Rattle.hex.specs.Hex.{encode_lower}
use Rattle.grasp_cbor.specs.DataItem.{DataItem, unsigned, byte_string, text_string}
use Rattle.grasp_cbor.specs.Leading.{Leads, LeadsArray, LeadsBytes}
use Rattle.grasp_types.specs.Address.{address_bytes, address_item, proto_item, proto_or_null, port_or_null, locator_item, IsAddress, IsLocator}
use Rattle.grasp_types.specs.Message.{flood_part_item, locator_or_empty, IsFloodPart}
use Rattle.grasp_types.specs.Objective.{objective_item, IsObjective}
use Rattle.grasp_types.specs.declared.address.Address.{Address}
use Rattle.grasp_types.specs.declared.address.Address.TheVariants as address
use Rattle.grasp_types.specs.declared.address.Locator.{Locator}
use Rattle.grasp_types.specs.declared.address.Locator.TheVariants.{V6, V4, Fqdn, Uri}
use Rattle.grasp_types.specs.declared.address.Proto.{Proto}
use Rattle.grasp_types.specs.declared.flood.FloodPart.{FloodPart}
use Rattle.grasp_types.specs.declared.message.Answer.TheVariants.{Locators, Divert}
use Rattle.grasp_text.specs.Line.{address_word, v4_word, v6_word, proto_word, or_dash, text_word, locator_words, all_locator_words, locator_or_none, objective_words, flood_part_words, all_flood_part_words}
use Rattle.grasp_text.specs.Words.{spaced}
use Rattle.grasp_text.proofs.Pushed.{some_pushed, all_locator_words-append, all_flood_part_words-append}
use Rattle.grasp_wire.specs.Direct.{LeadAll}
use Rattle.grasp_wire.proofs.Straight.{bytes_lead, array_leads, kind_ends, both_lead}
use Rattle.grasp_quick.specs.Spelled.{Spells, SpellsArray, SpellsKind, SpellsMany, SpellsLastObjective, SpellsAnswer}

-- some value in its range leads the bytes as these items, and its words were appended
pub record SpellsAll {X : Type 0} (items : X → List DataItem) (is : X → Type 0) (words : X → List (List ℕ)) (bytes rest old new : List ℕ) : Type 0 where
  pub value : X
  pub lead : LeadAll (items value) bytes rest
  pub is_one : is value
  pub spelled : new ≡ old ++ spaced (words value)

abbrev pub alone : {X : Type 0} (item : X → DataItem) (is : X → Type 0) (words : X → List (List ℕ)) (bytes rest old new : List ℕ) → Spells item is words bytes rest old new
    → SpellsAll (λ x. item x ∷ []) is words bytes rest old new
alone item is words bytes rest old new h = record { value = h.value; lead = (rest, h.leads, refl); is_one = h.is_one; spelled = h.spelled }

abbrev pub before : {X Y : Type 0} (item : X → DataItem) (is : X → Type 0) (words : X → List (List ℕ)) (items : Y → List DataItem) (are : Y → Type 0) (others : Y → List (List ℕ)) (bytes middle rest old between new : List ℕ)
    → Spells item is words bytes middle old between → SpellsAll items are others middle rest between new
    → SpellsAll {X = X × Y} (λ p. item p.0 ∷ items p.1) (λ p. is p.0 × are p.1) (λ p. words p.0 ++ others p.1) bytes rest old new
before item is words items are others bytes middle rest old between new h more = record {
  value = (h.value, more.value);
  lead = (middle, h.leads, more.lead);
  is_one = (h.is_one, more.is_one);
  spelled = some_pushed old between new (words h.value) (others more.value) h.spelled more.spelled;
}

-- what is found is so, as two facts of it say
pub found_both : {A : Type 0} (P Q R : A → Type 0) (o : Option A) → IfSome o P → IfSome o Q → ((x : A) → P x → Q x → R x) → IfSome o R
found_both P Q R (Some x) h k f = f x h k
found_both P Q R None h k f = tt

-- an objective is the last
pub objective_last : (count before : ℕ) (bytes rest old new : List ℕ) → count ≡ 1 + before → Spells objective_item IsObjective objective_words bytes rest old new → SpellsLastObjective count before bytes rest old new
objective_last count before bytes rest old new e h = record { value = Some h.value; leads = (rest, h.leads, refl); counts = e; is_one = h.is_one; spelled = h.spelled }

-- ---- addresses

address_digits : (a : Address) → encode_lower (address_bytes a) ≡ address_word a
address_digits (address.V4 n) = refl
address_digits (address.V6 n) = refl

pub address_spelled : (a : Address) (content bytes rest old new : List ℕ) → LeadsBytes content bytes rest → address_bytes a ≡ content → IsAddress a → new ≡ old ++ spaced (encode_lower content ∷ [])
    → Spells address_item IsAddress (λ a. address_word a ∷ []) bytes rest old new
address_spelled a content bytes rest old new h e is q = record {
  value = a;
  leads = subst (λ s. Leads (byte_string s) bytes rest) (sym e) (bytes_lead content bytes rest h);
  is_one = is;
  spelled = q ∙ ap (λ (s : List ℕ). old ++ spaced (s ∷ [])) (ap encode_lower (sym e) ∙ address_digits a);
}

pub ipv4_spelled : (n : ℕ) (content bytes rest old new : List ℕ) → LeadsBytes content bytes rest → to_be_bytes w32 n ≡ content → n < 2 ^ 32 → new ≡ old ++ spaced (encode_lower content ∷ [])
    → Spells (λ n. byte_string (to_be_bytes w32 n)) (λ n. n < 2 ^ 32) (λ n. v4_word n ∷ []) bytes rest old new
ipv4_spelled n content bytes rest old new h e few q = record {
  value = n;
  leads = subst (λ s. Leads (byte_string s) bytes rest) (sym e) (bytes_lead content bytes rest h);
  is_one = few;
  spelled = q ∙ ap (λ (s : List ℕ). old ++ spaced (encode_lower s ∷ [])) (sym e);
}

pub ipv6_spelled : (n : ℕ) (content bytes rest old new : List ℕ) → LeadsBytes content bytes rest → to_be_bytes w128 n ≡ content → n < 2 ^ 128 → new ≡ old ++ spaced (encode_lower content ∷ [])
    → Spells (λ n. byte_string (to_be_bytes w128 n)) (λ n. n < 2 ^ 128) (λ n. v6_word n ∷ []) bytes rest old new
ipv6_spelled n content bytes rest old new h e few q = record {
  value = n;
  leads = subst (λ s. Leads (byte_string s) bytes rest) (sym e) (bytes_lead content bytes rest h);
  is_one = few;
  spelled = q ∙ ap (λ (s : List ℕ). old ++ spaced (encode_lower s ∷ [])) (sym e);
}

pub proto_spelled : (p : Proto) (number kind : ℕ) (bytes rest old new : List ℕ) → number ≡ kind → Leads (unsigned number) bytes rest → unsigned kind ≡ proto_item p → new ≡ old ++ 32 ∷ proto_word p
    → Spells proto_item (λ p. ⊤) (λ p. proto_word p ∷ []) bytes rest old new
proto_spelled p number kind bytes rest old new is h item q = record {
  value = p;
  leads = subst (λ t. Leads t bytes rest) (ap unsigned is ∙ item) h;
  is_one = tt;
  spelled = q ∙ ap (λ (x : List ℕ). old ++ 32 ∷ x) (sym (append-nil (proto_word p)));
}

-- one of a kind is one or none
pub known_proto : (bytes rest old new : List ℕ) → Spells proto_item (λ p. ⊤) (λ p. proto_word p ∷ []) bytes rest old new
    → Spells proto_or_null (λ p. ⊤) (λ p. or_dash proto_word p ∷ []) bytes rest old new
known_proto bytes rest old new h = record { value = Some h.value; leads = h.leads; is_one = tt; spelled = h.spelled }

pub known_port : (bytes rest old new : List ℕ) → Spells unsigned (λ n. n ≤ 65535) (λ n. decimal n ∷ []) bytes rest old new
    → Spells port_or_null (λ p. IfSome p (λ port. port ≤ 65535)) (λ p. or_dash decimal p ∷ []) bytes rest old new
known_port bytes rest old new h = record { value = Some h.value; leads = h.leads; is_one = h.is_one; spelled = h.spelled }

-- ---- locators

port_fits : (p : Option ℕ) → IfSome p (λ port. port ≤ 65535) → IfSome p (λ port. port < 2 ^ 16)
port_fits None h = tt
port_fits (Some n) h = omega (arith, h)

pub v6_spelled : (bytes a b rest old l0 l1 l2 new : List ℕ) → l0 ≡ old ++ 32 ∷ codes "v6"
    → Spells (λ n. byte_string (to_be_bytes w128 n)) (λ n. n < 2 ^ 128) (λ n. v6_word n ∷ []) bytes a l0 l1 → Spells proto_item (λ p. ⊤) (λ p. proto_word p ∷ []) a b l1 l2
    → Spells unsigned (λ n. n ≤ 65535) (λ n. decimal n ∷ []) b rest l2 new → SpellsKind 4 103 locator_item IsLocator locator_words bytes rest old new
v6_spelled bytes a b rest old l0 l1 l2 new p address proto port =
    let all = before _ _ _ _ _ _ bytes a rest l0 l1 new address (before _ _ _ _ _ _ a b rest l1 l2 new proto (alone _ _ _ b rest l2 new port)) in
    record {
      value = V6 address.value proto.value port.value;
      ends = kind_ends 103 (byte_string (to_be_bytes w128 address.value) ∷ proto_item proto.value ∷ unsigned port.value ∷ []) 4 bytes rest refl all.lead;
      is_one = (address.is_one, (let n = port.is_one in omega (arith, n)));
      spelled = some_pushed old l0 new (codes "v6" ∷ []) (v6_word address.value ∷ proto_word proto.value ∷ decimal port.value ∷ []) p all.spelled;
    }

pub v4_spelled : (bytes a b rest old l0 l1 l2 new : List ℕ) → l0 ≡ old ++ 32 ∷ codes "v4"
    → Spells (λ n. byte_string (to_be_bytes w32 n)) (λ n. n < 2 ^ 32) (λ n. v4_word n ∷ []) bytes a l0 l1 → Spells proto_item (λ p. ⊤) (λ p. proto_word p ∷ []) a b l1 l2
    → Spells unsigned (λ n. n ≤ 65535) (λ n. decimal n ∷ []) b rest l2 new → SpellsKind 4 104 locator_item IsLocator locator_words bytes rest old new
v4_spelled bytes a b rest old l0 l1 l2 new p address proto port =
    let all = before _ _ _ _ _ _ bytes a rest l0 l1 new address (before _ _ _ _ _ _ a b rest l1 l2 new proto (alone _ _ _ b rest l2 new port)) in
    record {
      value = V4 address.value proto.value port.value;
      ends = kind_ends 104 (byte_string (to_be_bytes w32 address.value) ∷ proto_item proto.value ∷ unsigned port.value ∷ []) 4 bytes rest refl all.lead;
      is_one = (address.is_one, (let n = port.is_one in omega (arith, n)));
      spelled = some_pushed old l0 new (codes "v4" ∷ []) (v4_word address.value ∷ proto_word proto.value ∷ decimal port.value ∷ []) p all.spelled;
    }

pub fqdn_spelled : (bytes a b rest old l0 l1 l2 new : List ℕ) → l0 ≡ old ++ 32 ∷ codes "fqdn"
    → Spells text_string IsUtf8 (λ t. text_word t ∷ []) bytes a l0 l1 → Spells proto_item (λ p. ⊤) (λ p. proto_word p ∷ []) a b l1 l2
    → Spells unsigned (λ n. n ≤ 65535) (λ n. decimal n ∷ []) b rest l2 new → SpellsKind 4 105 locator_item IsLocator locator_words bytes rest old new
fqdn_spelled bytes a b rest old l0 l1 l2 new p name proto port =
    let all = before _ _ _ _ _ _ bytes a rest l0 l1 new name (before _ _ _ _ _ _ a b rest l1 l2 new proto (alone _ _ _ b rest l2 new port)) in
    record {
      value = Fqdn name.value proto.value port.value;
      ends = kind_ends 105 (text_string name.value ∷ proto_item proto.value ∷ unsigned port.value ∷ []) 4 bytes rest refl all.lead;
      is_one = (name.is_one, (let n = port.is_one in omega (arith, n)));
      spelled = some_pushed old l0 new (codes "fqdn" ∷ []) (text_word name.value ∷ proto_word proto.value ∷ decimal port.value ∷ []) p all.spelled;
    }

pub uri_spelled : (bytes a b rest old l0 l1 l2 new : List ℕ) → l0 ≡ old ++ 32 ∷ codes "uri"
    → Spells text_string IsUtf8 (λ t. text_word t ∷ []) bytes a l0 l1 → Spells proto_or_null (λ p. ⊤) (λ p. or_dash proto_word p ∷ []) a b l1 l2
    → Spells port_or_null (λ p. IfSome p (λ port. port ≤ 65535)) (λ p. or_dash decimal p ∷ []) b rest l2 new → SpellsKind 4 106 locator_item IsLocator locator_words bytes rest old new
uri_spelled bytes a b rest old l0 l1 l2 new p text proto port =
    let all = before _ _ _ _ _ _ bytes a rest l0 l1 new text (before _ _ _ _ _ _ a b rest l1 l2 new proto (alone _ _ _ b rest l2 new port)) in
    record {
      value = Uri text.value proto.value port.value;
      ends = kind_ends 106 (text_string text.value ∷ proto_or_null proto.value ∷ port_or_null port.value ∷ []) 4 bytes rest refl all.lead;
      is_one = (text.is_one, port_fits port.value port.is_one);
      spelled = some_pushed old l0 new (codes "uri" ∷ []) (text_word text.value ∷ or_dash proto_word proto.value ∷ or_dash decimal port.value ∷ []) p all.spelled;
    }

-- behind the number of its kind
pub array_of_kind : {X : Type 0} (count kind : ℕ) (item : X → DataItem) (is : X → Type 0) (words : X → List (List ℕ)) (bytes middle rest old new : List ℕ) → Leads (unsigned kind) bytes middle
    → SpellsKind count kind item is words middle rest old new → SpellsArray count item is words bytes rest old new
array_of_kind count kind item is words bytes middle rest old new number h = record { value = h.value; ends = λ whole head. h.ends whole bytes head number; is_one = h.is_one; spelled = h.spelled }

-- behind the head of its array
pub one_of_array : {X : Type 0} (count : ℕ) (item : X → DataItem) (is : X → Type 0) (words : X → List (List ℕ)) (bytes middle rest old new : List ℕ) → LeadsArray count bytes middle
    → SpellsArray count item is words middle rest old new → Spells item is words bytes rest old new
one_of_array count item is words bytes middle rest old new head h = record { value = h.value; leads = h.ends bytes head; is_one = h.is_one; spelled = h.spelled }

-- a locator, where one may be absent
pub known_locator : (bytes rest old new : List ℕ) → Spells locator_item IsLocator locator_words bytes rest old new → Spells locator_or_empty (λ l. IfSome l IsLocator) locator_or_none bytes rest old new
known_locator bytes rest old new h = record { value = Some h.value; leads = h.leads; is_one = h.is_one; spelled = h.spelled }

pub no_locator : (count : ℕ) (bytes rest old new : List ℕ) → count ≡ 0 → LeadsArray count bytes rest → new ≡ old ++ 32 ∷ codes "none" → Spells locator_or_empty (λ l. IfSome l IsLocator) locator_or_none bytes rest old new
no_locator count bytes rest old new e head q = record { value = None; leads = array_leads [] count bytes rest rest e head refl; is_one = tt; spelled = q }

-- ---- lists

pub none_yet : {X : Type 0} (item : X → DataItem) (is : X → Type 0) (words : List X → List (List ℕ)) (bytes old : List ℕ) → words [] ≡ [] → SpellsMany item is words 0 bytes bytes old old
none_yet item is words bytes old e = record { values = []; lead = refl; each = All-nil is; counted = refl; spelled = sym (append-nil old) ∙ ap (λ (ws : List (List ℕ)). old ++ spaced ws) (sym e) }

pub one_more : {X : Type 0} (item : X → DataItem) (is : X → Type 0) (each_words : X → List (List ℕ)) (words : List X → List (List ℕ)) → ((xs : List X) (x : X) → words (xs ++ x ∷ []) ≡ words xs ++ each_words x)
    → (count : ℕ) (bytes middle rest old between new : List ℕ) → SpellsMany item is words count bytes middle old between → Spells item is each_words middle rest between new
    → SpellsMany item is words (count + 1) bytes rest old new
one_more item is each_words words more count bytes middle rest old between new h x = record {
  values = h.values ++ x.value ∷ [];
  lead = subst (λ ts. LeadAll ts bytes rest) (sym (map-append item h.values (x.value ∷ []))) (both_lead (map item h.values) (item x.value ∷ []) bytes middle rest h.lead (rest, x.leads, refl));
  each = All-push is h.values x.value h.each x.is_one;
  counted = omega (arith, h.counted, length-append h.values (x.value ∷ []));
  spelled = some_pushed old between new (words h.values) (each_words x.value) h.spelled x.spelled ∙ ap (λ (ws : List (List ℕ)). old ++ spaced ws) (sym (more h.values x.value));
}

pub locator_more : (ls : List Locator) (l : Locator) → all_locator_words (ls ++ l ∷ []) ≡ all_locator_words ls ++ locator_words l
locator_more ls l = all_locator_words-append ls (l ∷ []) ∙ ap (λ (ws : List (List ℕ)). all_locator_words ls ++ ws) (append-nil (locator_words l))

pub part_more : (ps : List FloodPart) (p : FloodPart) → all_flood_part_words (ps ++ p ∷ []) ≡ all_flood_part_words ps ++ flood_part_words p
part_more ps p = all_flood_part_words-append ps (p ∷ []) ∙ ap (λ (ws : List (List ℕ)). all_flood_part_words ps ++ ws) (append-nil (flood_part_words p))

-- ---- answers and parts

pub side_by_side : (count : ℕ) (bytes rest old middle new : List ℕ) → 1 ≤ count → middle ≡ old ++ 32 ∷ codes "locators" → SpellsMany locator_item IsLocator all_locator_words count bytes rest middle new
    → SpellsAnswer count bytes rest old new
side_by_side count bytes rest old middle new some p h = record {
  value = Locators h.values;
  lead = h.lead;
  counted = length-map h.values locator_item ∙ h.counted;
  is_one = record { some = omega (arith, some, h.counted); each = h.each };
  spelled = some_pushed old middle new (codes "locators" ∷ []) (all_locator_words h.values) p h.spelled;
}

pub diverted : (count used : ℕ) (bytes a b rest old middle new : List ℕ) → LeadsArray (count + 1) bytes a → Leads (unsigned 100) a b → used ≡ count → 1 ≤ used → middle ≡ old ++ 32 ∷ codes "divert"
    → SpellsMany locator_item IsLocator all_locator_words used b rest middle new → SpellsAnswer 1 bytes rest old new
diverted count used bytes a b rest old middle new head number same some p h = record {
  value = Divert h.values;
  lead = (rest, array_leads (unsigned 100 ∷ map locator_item h.values) (count + 1) bytes a rest (omega (arith, length-map h.values locator_item, h.counted, same)) head (b, number, h.lead), refl);
  counted = refl;
  is_one = record { some = omega (arith, some, h.counted); each = h.each };
  spelled = some_pushed old middle new (codes "divert" ∷ []) (all_locator_words h.values) p h.spelled;
}

pub part_spelled : (count : ℕ) (bytes a b rest old middle new : List ℕ) → count ≡ 2 → LeadsArray count bytes a → Spells objective_item IsObjective objective_words a b old middle
    → Spells locator_or_empty (λ l. IfSome l IsLocator) locator_or_none b rest middle new → Spells flood_part_item IsFloodPart flood_part_words bytes rest old new
part_spelled count bytes a b rest old middle new e head objective locator =
    let part : FloodPart = record { objective = objective.value; locator = locator.value } in
    record {
      value = part;
      leads = array_leads (objective_item objective.value ∷ locator_or_empty locator.value ∷ []) count bytes a rest e head (b, objective.leads, (rest, locator.leads, refl));
      is_one = record { objective = objective.is_one; locator = locator.is_one };
      spelled = some_pushed old middle new (objective_words objective.value) (locator_or_none locator.value) objective.spelled locator.spelled;
    }

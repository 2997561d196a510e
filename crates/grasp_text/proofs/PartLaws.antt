-- Objectives and locators are read where their words are, and nowhere else.
use Rattle.std.proofs.Common.{◌≡◌, ℕ, suc, ◌^◌, ◌<◌, ◌≤◌, true, false, List, [], ◌∷◌, length, Option, Some, None, Ok, refl, sym, ap, subst, ◌∙◌, arith, length-append}
use Rattle.std.specs.Prelude.{IfSome, codes, decimal, option_map}
use Rattle.grasp_cbor.specs.DataItem.{DataItem}
use Rattle.grasp_types.specs.Address.{IsLocator}
use Rattle.grasp_types.specs.Objective.{IsObjective, IsValue}
use Rattle.grasp_types.specs.declared.address.Locator.{Locator}
use Rattle.grasp_types.specs.declared.address.Locator.TheVariants.{V6, V4, Fqdn, Uri}
use Rattle.grasp_types.specs.declared.address.Proto.{Proto}
use Rattle.grasp_types.specs.declared.objective.Objective.{Objective}
use Rattle.grasp_text.specs.Grammar.{ending, objective_at, locator_at, located, host_of, v6_at, v4_at, fqdn_at, uri_at, begins_objective, place_of, placed, optional_locator_at}
use Rattle.grasp_text.specs.Line.{objective_words, locator_words, locator_or_none, or_dash, value_word, proto_word, text_word, v4_word, v6_word}
use Rattle.grasp_text.specs.Reading.{◌>>=◌, word_at, end_at, exactly, number_of, text_of, value_of, maybe_of, v4_of, v6_of, proto_of}
use Rattle.grasp_text.specs.declared.names.Host.{Host}
use Rattle.grasp_text.specs.declared.names.Host.TheVariants.{Ipv6, Ipv4, Domain, Resource}
use Rattle.grasp_text.proofs.HexWords.{IsHex, v4_exact, v6_exact}
use Rattle.grasp_text.proofs.Lawful.{Anything, Nothing, Lawful, Exact, WordThen, Only, Starts, Made, given_lawful, end_lawful, rewritten, restated, word_then_all, made_lawful}
use Rattle.grasp_text.proofs.Leaves.{Spelled, exactly_exact, IsMaybe, maybe_exact, IsText, text_exact}
use Rattle.grasp_text.proofs.SpelledWords.{host_word, host_exact, proto_exact, no_host, no_proto}
use Rattle.grasp_text.proofs.NumberWords.{IsNumber, number_exact, number_no_dash, some, some_is}
use Rattle.grasp_text.proofs.ValueWords.{IsValueWord, value_exact}

-- ---- the end

same_end : {A : Type 0} (a : A) (ws : List (List ℕ)) → ending a ws ≡ end_at a ws
same_end a [] = refl
same_end a (w ∷ ws) = refl

pub ending_lawful : {A : Type 0} (a : A) (k : ℕ) → Lawful k Nothing (Only a) (ending a)
ending_lawful a k = rewritten k Nothing (Only a) (end_at a) (ending a) (end_lawful k a) (same_end a)

-- ---- what may be absent

no_value : value_of (codes "-") ≡ None
unfolding value_of
no_value = refl

pub IsMaybeValue : Option DataItem → List ℕ → Type 0
IsMaybeValue = IsMaybe (codes "-") IsValueWord

pub maybe_value_exact : Exact IsMaybeValue (maybe_of value_of)
unfolding IsMaybeValue
maybe_value_exact = maybe_exact (codes "-") IsValueWord value_of value_exact no_value

IsMaybeProto : Option Proto → List ℕ → Type 0
IsMaybeProto = IsMaybe (codes "-") (Spelled proto_word)

maybe_proto_exact : Exact IsMaybeProto (maybe_of proto_of)
unfolding IsMaybeProto
maybe_proto_exact = maybe_exact (codes "-") (Spelled proto_word) proto_of proto_exact no_proto

IsMaybePort : Option ℕ → List ℕ → Type 0
IsMaybePort = IsMaybe (codes "-") (IsNumber 65535)

maybe_port_exact : Exact IsMaybePort (maybe_of (number_of 65535))
unfolding IsMaybePort
maybe_port_exact = maybe_exact (codes "-") (IsNumber 65535) (number_of 65535) (number_exact 65535 (omega arith)) (number_no_dash 65535 (omega arith))

-- what the word for a value says
pub record ToldValue (value : Option DataItem) (word : List ℕ) : Type 0 where
  pub ranges : IfSome value IsValue
  pub spelled : word ≡ or_dash value_word value

pub told_value : (value : Option DataItem) (word : List ℕ) → IsMaybeValue value word → ToldValue value word
unfolding IsMaybeValue IsMaybe
told_value None word is = record { ranges = tt; spelled = is }
told_value (Some v) word is = record { ranges = is.value; spelled = is.spelled }

pub value_told : (value : Option DataItem) (word : List ℕ) → ToldValue value word → IsMaybeValue value word
unfolding IsMaybeValue IsMaybe
value_told None word is = is.spelled
value_told (Some v) word is = record { value = is.ranges; spelled = is.spelled }

told_proto : (p : Option Proto) (word : List ℕ) → IsMaybeProto p word → word ≡ or_dash proto_word p
unfolding IsMaybeProto IsMaybe
told_proto None word is = is
told_proto (Some p) word is = is.spelled

proto_told : (p : Option Proto) (word : List ℕ) → word ≡ or_dash proto_word p → IsMaybeProto p word
unfolding IsMaybeProto IsMaybe
proto_told None word is = is
proto_told (Some p) word is = record { spelled = is }

record ToldPort (port : Option ℕ) (word : List ℕ) : Type 0 where
  within : IfSome port (λ p. p < 2 ^ 16)
  spelled : word ≡ or_dash decimal port

told_port : (p : Option ℕ) (word : List ℕ) → IsMaybePort p word → ToldPort p word
unfolding IsMaybePort IsMaybe
told_port None word is = record { within = tt; spelled = is }
told_port (Some p) word is = record { within = omega (arith, is.within); spelled = is.digits }

port_told : (p : Option ℕ) (word : List ℕ) → ToldPort p word → IsMaybePort p word
unfolding IsMaybePort IsMaybe
port_told None word is = is.spelled
port_told (Some p) word is = record { within = let lt : p < 2 ^ 16 = is.within in omega arith; digits = is.spelled }

-- ---- objectives

-- the words of this objective, each part within its range
pub record ObjectiveWords (o : Objective) (ws : List (List ℕ)) : Type 0 where
  pub ranges : IsObjective o
  pub spelled : ws ≡ objective_words o

abbrev IsObj : Unit {0} → List ℕ → Type 0
IsObj = Spelled (λ (u : Unit {0}). codes "obj")

abbrev LoopsThen : List ℕ → ℕ → ℕ → Objective → List (List ℕ) → Type 0
LoopsThen name flags loops = WordThen IsMaybeValue (λ value. Only (record { name = name; flags = flags; loops = loops; value = value }))

abbrev FlagsThen : List ℕ → ℕ → Objective → List (List ℕ) → Type 0
FlagsThen name flags = WordThen (IsNumber 255) (LoopsThen name flags)

abbrev NameThen : List ℕ → Objective → List (List ℕ) → Type 0
NameThen name = WordThen (IsNumber 15) (FlagsThen name)

abbrev ObjThen : Objective → List (List ℕ) → Type 0
ObjThen = WordThen IsObj (λ u. WordThen IsText NameThen)

objective_to : (o : Objective) (ws : List (List ℕ)) → ObjThen o ws → ObjectiveWords o ws
objective_to o ws t =
    let n = t.others in
    let f = n.others in
    let l = f.others in
    let v = l.others in
    let told = told_value v.first v.word v.is in
    let made : Objective = record { name = n.first; flags = f.first; loops = l.first; value = v.first } in
    let lw : l.first ≤ 255 = l.is.within in
    let spelled : ws ≡ objective_words made = t.parts ∙ (λ i. t.is.spelled i ∷ (n.parts ∙ (λ i. n.is.spelled i ∷ (f.parts ∙ (λ i. f.is.digits i ∷ (l.parts ∙ (λ i. l.is.digits i ∷ (v.parts ∙ (λ i. told.spelled i ∷ v.others.words i)) i)) i)) i)) i) in
    subst (λ (x : Objective). ObjectiveWords x ws) (sym v.others.value) (record {
      ranges = record { name = n.is.utf8; flags = f.is.within; loops = omega arith; value = told.ranges };
      spelled = spelled;
    })

objective_from : (o : Objective) (ws : List (List ℕ)) → ObjectiveWords o ws → ObjThen o ws
objective_from o ws w =
    let lt : o.loops < 2 ^ 8 = w.ranges.loops in
    record {
      first = tt;
      word = codes "obj";
      rest = _;
      is = record { spelled = refl };
      parts = w.spelled;
      others = record {
        first = o.name;
        word = text_word o.name;
        rest = _;
        is = record { utf8 = w.ranges.name; spelled = refl };
        parts = refl;
        others = record {
          first = o.flags;
          word = decimal o.flags;
          rest = _;
          is = record { within = w.ranges.flags; digits = refl };
          parts = refl;
          others = record {
            first = o.loops;
            word = decimal o.loops;
            rest = _;
            is = record { within = omega arith; digits = refl };
            parts = refl;
            others = record {
              first = o.value;
              word = or_dash value_word o.value;
              rest = [];
              parts = refl;
              is = value_told o.value (or_dash value_word o.value) (record { ranges = w.ranges.value; spelled = refl });
              others = record { value = refl; words = refl };
            };
          };
        };
      };
    }

objective_chain : (k : ℕ) → Lawful k Anything ObjThen objective_at
unfolding objective_at
objective_chain = word_then_all Anything IsObj (λ u. WordThen IsText NameThen) (exactly (codes "obj")) _ (exactly_exact (codes "obj")) (λ u.
    word_then_all Anything IsText NameThen text_of _ text_exact (λ name.
    word_then_all Anything (IsNumber 15) (FlagsThen name) (number_of 15) _ (number_exact 15 (omega arith)) (λ flags.
    word_then_all Anything (IsNumber 255) (LoopsThen name flags) (number_of 255) _ (number_exact 255 (omega arith)) (λ loops.
    word_then_all Anything IsMaybeValue (λ value. Only (record { name = name; flags = flags; loops = loops; value = value })) (maybe_of value_of) _ maybe_value_exact (λ value k.
    given_lawful k (record { name = name; flags = flags; loops = loops; value = value }))))))

pub objective_lawful : (k : ℕ) → Lawful k Anything ObjectiveWords objective_at
objective_lawful k = restated k Anything ObjThen ObjectiveWords objective_at (objective_chain k) objective_to objective_from

pub objective_takes : (o : Objective) → ¬ (ObjectiveWords o [])
objective_takes o w = let e = w.spelled in absurd (omega (arith, ap length e))

pub objective_starts : (o : Objective) (ws : List (List ℕ)) → ObjectiveWords o ws → Starts begins_objective true ws
objective_starts o ws w = record { word = codes "obj"; others = _; parts = w.spelled; says = refl }

-- ---- locators

-- the words of this locator, each part within its range
pub record LocatorWords (l : Locator) (ws : List (List ℕ)) : Type 0 where
  pub ranges : IsLocator l
  pub spelled : ws ≡ locator_words l

abbrev pub host_in : Locator → Host
host_in (V6 n proto port) = Ipv6
host_in (V4 n proto port) = Ipv4
host_in (Fqdn name proto port) = Domain
host_in (Uri text proto port) = Resource

abbrev pub words_behind : Locator → List (List ℕ)
words_behind (V6 n proto port) = v6_word n ∷ proto_word proto ∷ decimal port ∷ []
words_behind (V4 n proto port) = v4_word n ∷ proto_word proto ∷ decimal port ∷ []
words_behind (Fqdn name proto port) = text_word name ∷ proto_word proto ∷ decimal port ∷ []
words_behind (Uri text proto port) = text_word text ∷ or_dash proto_word proto ∷ or_dash decimal port ∷ []

abbrev words_behind_some : Option Locator → List (List ℕ)
words_behind_some None = []
words_behind_some (Some l) = words_behind l

-- those behind its first word
pub record HostWords (host : Host) (l : Locator) (ws : List (List ℕ)) : Type 0 where
  pub kind : host_in l ≡ host
  pub ranges : IsLocator l
  pub spelled : ws ≡ words_behind l

abbrev ProtoThen : (Proto → ℕ → Locator) → Locator → List (List ℕ) → Type 0
ProtoThen make = WordThen (Spelled proto_word) (λ proto. WordThen (IsNumber 65535) (λ port. Only (make proto port)))

proto_port_lawful : (make : Proto → ℕ → Locator) (k : ℕ) → Lawful k Anything (ProtoThen make) (λ ws. word_at proto_of ws >>= λ proto. word_at (number_of 65535) proto.1 >>= λ port. Ok (make proto.0 port.0, port.1))
proto_port_lawful make = word_then_all Anything (Spelled proto_word) (λ proto. WordThen (IsNumber 65535) (λ port. Only (make proto port))) proto_of _ proto_exact (λ proto.
    word_then_all Anything (IsNumber 65535) (λ port. Only (make proto port)) (number_of 65535) _ (number_exact 65535 (omega arith)) (λ port k.
    given_lawful k (make proto port)))

-- the last two words of a locator
record ProtoPort (make : Proto → ℕ → Locator) (l : Locator) (ws : List (List ℕ)) : Type 0 where
  proto : Proto
  port : ℕ
  within : port < 2 ^ 16
  made : l ≡ make proto port
  spelled : ws ≡ proto_word proto ∷ decimal port ∷ []

proto_port_to : (make : Proto → ℕ → Locator) (l : Locator) (ws : List (List ℕ)) → ProtoThen make l ws → ProtoPort make l ws
proto_port_to make l ws t =
    let p = t.others in
    let le : p.first ≤ 65535 = p.is.within in
    record { proto = t.first; port = p.first; within = omega arith; made = p.others.value; spelled = t.parts ∙ (λ i. t.is.spelled i ∷ (p.parts ∙ (λ i. p.is.digits i ∷ p.others.words i)) i) }

proto_port_from : (make : Proto → ℕ → Locator) (proto : Proto) (port : ℕ) (l : Locator) (ws : List (List ℕ)) → port < 2 ^ 16 → l ≡ make proto port → ws ≡ proto_word proto ∷ decimal port ∷ [] → ProtoThen make l ws
proto_port_from make proto port l ws lt e w = record {
  first = proto;
  word = proto_word proto;
  rest = decimal port ∷ [];
  is = record { spelled = refl };
  parts = w;
  others = record { first = port; word = decimal port; rest = []; is = record { within = omega arith; digits = refl }; parts = refl; others = record { value = e; words = refl } };
}

abbrev V6Then : Locator → List (List ℕ) → Type 0
V6Then = WordThen (IsHex (2 ^ 128) v6_word) (λ n. ProtoThen (V6 n))

v6_to : (l : Locator) (ws : List (List ℕ)) → V6Then l ws → HostWords Ipv6 l ws
v6_to l ws t =
    let p = proto_port_to (V6 t.first) l t.rest t.others in
    subst (λ (x : Locator). HostWords Ipv6 x ws) (sym p.made) (record { kind = refl; ranges = (t.is.within, p.within); spelled = t.parts ∙ (λ i. t.is.digits i ∷ p.spelled i) })

v6_from : (l : Locator) (ws : List (List ℕ)) → HostWords Ipv6 l ws → V6Then l ws
v6_from (V6 n proto port) ws h = record { first = n; word = v6_word n; rest = _; is = record { within = h.ranges.0; digits = refl }; parts = h.spelled; others = proto_port_from (V6 n) proto port (V6 n proto port) (proto_word proto ∷ decimal port ∷ []) h.ranges.1 refl refl }
v6_from l ws h = absurd (let e = h.kind in cc)

v6_lawful : (k : ℕ) → Lawful k Anything (HostWords Ipv6) v6_at
unfolding v6_at
v6_lawful k = restated k Anything V6Then (HostWords Ipv6) _ (word_then_all Anything (IsHex (2 ^ 128) v6_word) (λ n. ProtoThen (V6 n)) v6_of _ v6_exact (λ n. proto_port_lawful (V6 n)) k) v6_to v6_from

abbrev V4Then : Locator → List (List ℕ) → Type 0
V4Then = WordThen (IsHex (2 ^ 32) v4_word) (λ n. ProtoThen (V4 n))

v4_to : (l : Locator) (ws : List (List ℕ)) → V4Then l ws → HostWords Ipv4 l ws
v4_to l ws t =
    let p = proto_port_to (V4 t.first) l t.rest t.others in
    subst (λ (x : Locator). HostWords Ipv4 x ws) (sym p.made) (record { kind = refl; ranges = (t.is.within, p.within); spelled = t.parts ∙ (λ i. t.is.digits i ∷ p.spelled i) })

v4_from : (l : Locator) (ws : List (List ℕ)) → HostWords Ipv4 l ws → V4Then l ws
v4_from (V4 n proto port) ws h = record { first = n; word = v4_word n; rest = _; is = record { within = h.ranges.0; digits = refl }; parts = h.spelled; others = proto_port_from (V4 n) proto port (V4 n proto port) (proto_word proto ∷ decimal port ∷ []) h.ranges.1 refl refl }
v4_from l ws h = absurd (let e = h.kind in cc)

v4_lawful : (k : ℕ) → Lawful k Anything (HostWords Ipv4) v4_at
unfolding v4_at
v4_lawful k = restated k Anything V4Then (HostWords Ipv4) _ (word_then_all Anything (IsHex (2 ^ 32) v4_word) (λ n. ProtoThen (V4 n)) v4_of _ v4_exact (λ n. proto_port_lawful (V4 n)) k) v4_to v4_from

abbrev FqdnThen : Locator → List (List ℕ) → Type 0
FqdnThen = WordThen IsText (λ name. ProtoThen (Fqdn name))

fqdn_to : (l : Locator) (ws : List (List ℕ)) → FqdnThen l ws → HostWords Domain l ws
fqdn_to l ws t =
    let p = proto_port_to (Fqdn t.first) l t.rest t.others in
    subst (λ (x : Locator). HostWords Domain x ws) (sym p.made) (record { kind = refl; ranges = (t.is.utf8, p.within); spelled = t.parts ∙ (λ i. t.is.spelled i ∷ p.spelled i) })

fqdn_from : (l : Locator) (ws : List (List ℕ)) → HostWords Domain l ws → FqdnThen l ws
fqdn_from (Fqdn name proto port) ws h = record { first = name; word = text_word name; rest = _; is = record { utf8 = h.ranges.0; spelled = refl }; parts = h.spelled; others = proto_port_from (Fqdn name) proto port (Fqdn name proto port) (proto_word proto ∷ decimal port ∷ []) h.ranges.1 refl refl }
fqdn_from l ws h = absurd (let e = h.kind in cc)

fqdn_lawful : (k : ℕ) → Lawful k Anything (HostWords Domain) fqdn_at
unfolding fqdn_at
fqdn_lawful k = restated k Anything FqdnThen (HostWords Domain) _ (word_then_all Anything IsText (λ name. ProtoThen (Fqdn name)) text_of _ text_exact (λ name. proto_port_lawful (Fqdn name)) k) fqdn_to fqdn_from

abbrev UriThen : Locator → List (List ℕ) → Type 0
UriThen = WordThen IsText (λ text. WordThen IsMaybeProto (λ proto. WordThen IsMaybePort (λ port. Only (Uri text proto port))))

uri_to : (l : Locator) (ws : List (List ℕ)) → UriThen l ws → HostWords Resource l ws
uri_to l ws t =
    let p = t.others in
    let q = p.others in
    let proto = told_proto p.first p.word p.is in
    let port = told_port q.first q.word q.is in
    subst (λ (x : Locator). HostWords Resource x ws) (sym q.others.value) (record {
      kind = refl;
      ranges = (t.is.utf8, port.within);
      spelled = t.parts ∙ (λ i. t.is.spelled i ∷ (p.parts ∙ (λ i. proto i ∷ (q.parts ∙ (λ i. port.spelled i ∷ q.others.words i)) i)) i);
    })

uri_from : (l : Locator) (ws : List (List ℕ)) → HostWords Resource l ws → UriThen l ws
uri_from (Uri text proto port) ws h = record {
  first = text;
  word = text_word text;
  rest = _;
  is = record { utf8 = h.ranges.0; spelled = refl };
  parts = h.spelled;
  others = record {
    first = proto;
    word = or_dash proto_word proto;
    rest = _;
    is = proto_told proto (or_dash proto_word proto) refl;
    parts = refl;
    others = record { first = port; word = or_dash decimal port; rest = []; is = port_told port (or_dash decimal port) (record { within = h.ranges.1; spelled = refl }); parts = refl; others = record { value = refl; words = refl } };
  };
}
uri_from l ws h = absurd (let e = h.kind in cc)

uri_lawful : (k : ℕ) → Lawful k Anything (HostWords Resource) uri_at
unfolding uri_at
uri_lawful k = restated k Anything UriThen (HostWords Resource) _
    (word_then_all Anything IsText (λ text. WordThen IsMaybeProto (λ proto. WordThen IsMaybePort (λ port. Only (Uri text proto port)))) text_of _ text_exact (λ text.
    word_then_all Anything IsMaybeProto (λ proto. WordThen IsMaybePort (λ port. Only (Uri text proto port))) (maybe_of proto_of) _ maybe_proto_exact (λ proto.
    word_then_all Anything IsMaybePort (λ port. Only (Uri text proto port)) (maybe_of (number_of 65535)) _ maybe_port_exact (λ port k.
    given_lawful k (Uri text proto port)))) k) uri_to uri_from

pub located_lawful : (host : Host) (k : ℕ) → Lawful k Anything (HostWords host) (located host)
located_lawful Ipv6 k = v6_lawful k
located_lawful Ipv4 k = v4_lawful k
located_lawful Domain k = fqdn_lawful k
located_lawful Resource k = uri_lawful k

abbrev HostThen : Locator → List (List ℕ) → Type 0
HostThen = WordThen (Spelled host_word) HostWords

locator_all : (l : Locator) → locator_words l ≡ host_word (host_in l) ∷ words_behind l
locator_all (V6 n proto port) = refl
locator_all _ = refl

pub locator_to : (l : Locator) (ws : List (List ℕ)) → HostThen l ws → LocatorWords l ws
locator_to l ws t =
    let h = t.others in
    record { ranges = h.ranges; spelled = t.parts ∙ (λ i. (t.is.spelled ∙ ap host_word (sym h.kind)) i ∷ h.spelled i) ∙ sym (locator_all l) }

pub locator_from : (l : Locator) (ws : List (List ℕ)) → LocatorWords l ws → HostThen l ws
locator_from l ws w = record {
  first = host_in l;
  word = host_word (host_in l);
  rest = words_behind l;
  is = record { spelled = refl };
  parts = w.spelled ∙ locator_all l;
  others = record { kind = refl; ranges = w.ranges; spelled = refl };
}

pub locator_lawful : (k : ℕ) → Lawful k Anything LocatorWords locator_at
unfolding locator_at
locator_lawful k = restated k Anything HostThen LocatorWords _ (word_then_all Anything (Spelled host_word) HostWords host_of _ host_exact located_lawful k) locator_to locator_from

pub locator_takes : (l : Locator) → ¬ (LocatorWords l [])
locator_takes l w = absurd (omega (arith, ap length (w.spelled ∙ locator_all l)))

no_objective : (h : Host) → begins_objective (host_word h) ≡ false
no_objective Ipv6 = refl
no_objective _ = refl

pub locator_starts : (l : Locator) (ws : List (List ℕ)) → LocatorWords l ws → Starts begins_objective false ws
locator_starts l ws w = record { word = host_word (host_in l); others = words_behind l; parts = w.spelled ∙ locator_all l; says = no_objective (host_in l) }

-- a locator takes words
pub locator_shorter : (ws : List (List ℕ)) (l : Locator) (rest : List (List ℕ)) → locator_at ws ≡ Ok (l, rest) → length rest < length ws
locator_shorter ws l rest e =
    let h = (locator_lawful (suc (length ws))).only ws l rest (omega arith) e in
    let w : LocatorWords l h.1 = h.2 in
    omega (arith, ap length h.3, length-append h.1 rest, ap length (w.spelled ∙ locator_all l))

-- ---- a locator, or none

-- the words of a locator that may be absent
pub record OptionalLocatorWords (l : Option Locator) (ws : List (List ℕ)) : Type 0 where
  pub ranges : IfSome l IsLocator
  pub spelled : ws ≡ locator_or_none l

IsPlace : Option Host → List ℕ → Type 0
IsPlace = IsMaybe (codes "none") (Spelled host_word)

place_exact : Exact IsPlace place_of
unfolding IsPlace
place_exact = maybe_exact (codes "none") (Spelled host_word) host_of host_exact no_host

-- what stands behind the first word
record PlacedWords (place : Option Host) (l : Option Locator) (ws : List (List ℕ)) : Type 0 where
  kind : option_map host_in l ≡ place
  ranges : IfSome l IsLocator
  spelled : ws ≡ words_behind_some l

abbrev PlaceThen : Option Locator → List (List ℕ) → Type 0
PlaceThen = WordThen IsPlace PlacedWords

none_to : (l : Option Locator) (ws : List (List ℕ)) → Only None l ws → PlacedWords None l ws
none_to None ws o = record { kind = refl; ranges = tt; spelled = o.words }
none_to (Some l) ws o = absurd (let e = o.value in cc)

none_from : (l : Option Locator) (ws : List (List ℕ)) → PlacedWords None l ws → Only None l ws
none_from None ws p = record { value = refl; words = p.spelled }
none_from (Some l) ws p = absurd (let e = p.kind in cc)

some_to : (host : Host) (l : Option Locator) (ws : List (List ℕ)) → Made some (HostWords host) l ws → PlacedWords (Some host) l ws
some_to host l ws m = subst (λ (x : Option Locator). PlacedWords (Some host) x ws) (sym m.is) (let h = m.words in record { kind = ap some h.kind; ranges = h.ranges; spelled = h.spelled })

some_from : (host : Host) (l : Option Locator) (ws : List (List ℕ)) → PlacedWords (Some host) l ws → Made some (HostWords host) l ws
some_from host None ws p = absurd (let e = p.kind in cc)
some_from host (Some l) ws p = record { from = l; is = refl; words = record { kind = some_is (host_in l) host p.kind; ranges = p.ranges; spelled = p.spelled } }

placed_lawful : (place : Option Host) (k : ℕ) → Lawful k Anything (PlacedWords place) (placed place)
placed_lawful None k = restated k Anything (Only None) (PlacedWords None) (placed None) (given_lawful k None) none_to none_from
placed_lawful (Some host) k = restated k Anything (Made some (HostWords host)) (PlacedWords (Some host)) (placed (Some host)) (made_lawful k Anything (HostWords host) (located host) some (located_lawful host k)) (some_to host) (some_from host)

optional_at : (ws : List (List ℕ)) (l : Option Locator) (place : Option Host) (w : List ℕ) (rest : List (List ℕ)) → IsMaybe (codes "none") (Spelled host_word) place w → PlacedWords place l rest → ws ≡ w ∷ rest → OptionalLocatorWords l ws
unfolding IsMaybe
optional_at ws None None w rest is p parts = record { ranges = tt; spelled = parts ∙ (λ i. is i ∷ p.spelled i) }
optional_at ws None (Some h) w rest is p parts = absurd (let e = p.kind in cc)
optional_at ws (Some l) None w rest is p parts = absurd (let e = p.kind in cc)
optional_at ws (Some l) (Some h) w rest is p parts = record { ranges = p.ranges; spelled = parts ∙ (λ i. (is.spelled ∙ ap host_word (sym (some_is (host_in l) h p.kind))) i ∷ p.spelled i) ∙ sym (locator_all l) }

optional_to : (l : Option Locator) (ws : List (List ℕ)) → PlaceThen l ws → OptionalLocatorWords l ws
unfolding IsPlace IsMaybe
optional_to l ws t = optional_at ws l t.first t.word t.rest t.is t.others t.parts

optional_from : (l : Option Locator) (ws : List (List ℕ)) → OptionalLocatorWords l ws → PlaceThen l ws
unfolding IsPlace IsMaybe
optional_from None ws w = record { first = None; word = codes "none"; rest = []; is = refl; parts = w.spelled; others = record { kind = refl; ranges = tt; spelled = refl } }
optional_from (Some l) ws w = record { first = Some (host_in l); word = host_word (host_in l); rest = words_behind l; is = record { spelled = refl }; parts = w.spelled ∙ locator_all l; others = record { kind = refl; ranges = w.ranges; spelled = refl } }

pub optional_lawful : (k : ℕ) → Lawful k Anything OptionalLocatorWords optional_locator_at
unfolding optional_locator_at
optional_lawful k = restated k Anything PlaceThen OptionalLocatorWords _ (word_then_all Anything IsPlace PlacedWords place_of _ place_exact placed_lawful k) optional_to optional_from

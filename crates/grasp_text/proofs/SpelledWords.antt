-- Words that are spelled out, and addresses.
use Rattle.std.proofs.Common.{◌≡◌, ℕ, Bool, true, false, List, length, Option, Some, None, refl, sym, ap, subst, ◌∙◌, arith}
use Rattle.std.specs.Int.{w32, w128, to_be_bytes}
use Rattle.std.specs.Prelude.{codes}
use Rattle.hex.specs.Hex.{lower_digits}
use Rattle.hex.proofs.HexLemmas.{length-encode_with}
use Rattle.grasp_types.specs.Address.{IsAddress}
use Rattle.grasp_types.specs.declared.address.Address.{Address}
use Rattle.grasp_types.specs.declared.address.Address.TheVariants.{V4, V6}
use Rattle.grasp_types.specs.declared.address.Proto.{Proto}
use Rattle.grasp_types.specs.declared.address.Proto.TheVariants.{Tcp, Udp}
use Rattle.grasp_text.specs.Grammar.{host_of, name_of, are_locators, is_accept}
use Rattle.grasp_text.specs.Line.{address_word, v4_word, v6_word, proto_word}
use Rattle.grasp_text.specs.Reading.{proto_of, address_of, either_address, v4_of, v6_of}
use Rattle.grasp_text.specs.declared.names.Host.{Host}
use Rattle.grasp_text.specs.declared.names.Host.TheVariants.{Ipv6, Ipv4, Domain, Resource}
use Rattle.grasp_text.specs.declared.names.MessageName.{MessageName}
use Rattle.grasp_text.specs.declared.names.MessageName.TheVariants.{Noop, Discovery, Response, RequestNegotiation, RequestSynchronization, Negotiate, End, Wait, Synch, Flood, Invalid}
use Rattle.grasp_text.proofs.HexWords.{v4_exact, v6_exact}
use Rattle.grasp_text.proofs.Lawful.{Exact}
use Rattle.grasp_text.proofs.Leaves.{Spelled, one_of, no_more}
use Rattle.grasp_text.proofs.NumberWords.{some, some_is, is_none}

-- ---- protocols

proto_again : (p : Proto) → proto_of (proto_word p) ≡ Some p
unfolding proto_of
proto_again Tcp = refl
proto_again Udp = refl

proto_only : (word : List ℕ) (p : Proto) → proto_of word ≡ Some p → word ≡ proto_word p
unfolding proto_of
proto_only word p e = one_of proto_word p Tcp word (codes "tcp") _ refl (one_of proto_word p Udp word (codes "udp") None refl (no_more p _)) e

pub proto_exact : Exact (Spelled proto_word) proto_of
proto_exact = record {
  value = Tcp;
  word = proto_word Tcp;
  some = record { spelled = refl };
  found = λ a w is. ap proto_of is.spelled ∙ proto_again a;
  only = λ w a e. record { spelled = proto_only w a e };
}

-- ---- the first words of locators

abbrev pub host_word : Host → List ℕ
host_word Ipv6 = codes "v6"
host_word Ipv4 = codes "v4"
host_word Domain = codes "fqdn"
host_word Resource = codes "uri"

host_again : (h : Host) → host_of (host_word h) ≡ Some h
unfolding host_of
host_again Ipv6 = refl
host_again _ = refl

host_only : (word : List ℕ) (h : Host) → host_of word ≡ Some h → word ≡ host_word h
unfolding host_of
host_only word h e =
    one_of host_word h Ipv6 word (codes "v6") _ refl (one_of host_word h Ipv4 word (codes "v4") _ refl
    (one_of host_word h Domain word (codes "fqdn") _ refl (one_of host_word h Resource word (codes "uri") None refl (no_more h _)))) e

pub host_exact : Exact (Spelled host_word) host_of
host_exact = record {
  value = Ipv6;
  word = host_word Ipv6;
  some = record { spelled = refl };
  found = λ a w is. ap host_of is.spelled ∙ host_again a;
  only = λ w a e. record { spelled = host_only w a e };
}

pub no_host : host_of (codes "none") ≡ None
unfolding host_of
no_host = refl

pub no_proto : proto_of (codes "-") ≡ None
unfolding proto_of
no_proto = refl

-- ---- the names of messages

abbrev pub name_word : MessageName → List ℕ
name_word Noop = codes "noop"
name_word Discovery = codes "discovery"
name_word Response = codes "response"
name_word RequestNegotiation = codes "request-neg"
name_word RequestSynchronization = codes "request-syn"
name_word Negotiate = codes "negotiate"
name_word End = codes "end"
name_word Wait = codes "wait"
name_word Synch = codes "synch"
name_word Flood = codes "flood"
name_word Invalid = codes "invalid"

name_again : (n : MessageName) → name_of (name_word n) ≡ Some n
unfolding name_of
name_again Noop = refl
name_again _ = refl

pub name_only : (word : List ℕ) (n : MessageName) → name_of word ≡ Some n → word ≡ name_word n
unfolding name_of
name_only word n e =
    one_of name_word n Noop word (codes "noop") _ refl (one_of name_word n Discovery word (codes "discovery") _ refl (one_of name_word n Response word (codes "response") _ refl
    (one_of name_word n RequestNegotiation word (codes "request-neg") _ refl (one_of name_word n RequestSynchronization word (codes "request-syn") _ refl (one_of name_word n Negotiate word (codes "negotiate") _ refl
    (one_of name_word n End word (codes "end") _ refl (one_of name_word n Wait word (codes "wait") _ refl (one_of name_word n Synch word (codes "synch") _ refl
    (one_of name_word n Flood word (codes "flood") _ refl (one_of name_word n Invalid word (codes "invalid") None refl (no_more n _))))))))))) e

pub name_exact : Exact (Spelled name_word) name_of
name_exact = record {
  value = Noop;
  word = name_word Noop;
  some = record { spelled = refl };
  found = λ a w is. ap name_of is.spelled ∙ name_again a;
  only = λ w a e. record { spelled = name_only w a e };
}

-- ---- what a response tells, and how a negotiation ends

abbrev pub answer_word : Bool → List ℕ
answer_word true = codes "locators"
answer_word false = codes "divert"

answer_again : (b : Bool) → are_locators (answer_word b) ≡ Some b
unfolding are_locators
answer_again true = refl
answer_again false = refl

answer_only : (word : List ℕ) (b : Bool) → are_locators word ≡ Some b → word ≡ answer_word b
unfolding are_locators
answer_only word b e = one_of answer_word b true word (codes "locators") _ refl (one_of answer_word b false word (codes "divert") None refl (no_more b _)) e

pub answer_exact : Exact (Spelled answer_word) are_locators
answer_exact = record {
  value = true;
  word = answer_word true;
  some = record { spelled = refl };
  found = λ a w is. ap are_locators is.spelled ∙ answer_again a;
  only = λ w a e. record { spelled = answer_only w a e };
}

abbrev pub verdict_word : Bool → List ℕ
verdict_word true = codes "accept"
verdict_word false = codes "decline"

verdict_again : (b : Bool) → is_accept (verdict_word b) ≡ Some b
unfolding is_accept
verdict_again true = refl
verdict_again false = refl

verdict_only : (word : List ℕ) (b : Bool) → is_accept word ≡ Some b → word ≡ verdict_word b
unfolding is_accept
verdict_only word b e = one_of verdict_word b true word (codes "accept") _ refl (one_of verdict_word b false word (codes "decline") None refl (no_more b _)) e

pub verdict_exact : Exact (Spelled verdict_word) is_accept
verdict_exact = record {
  value = true;
  word = verdict_word true;
  some = record { spelled = refl };
  found = λ a w is. ap is_accept is.spelled ∙ verdict_again a;
  only = λ w a e. record { spelled = verdict_only w a e };
}

-- ---- addresses

-- a word of this address
pub record IsAddressWord (a : Address) (word : List ℕ) : Type 0 where
  pub within : IsAddress a
  pub spelled : word ≡ address_word a

v4_long : (n : ℕ) → length (v4_word n) ≡ 8
v4_long n = length-encode_with lower_digits (to_be_bytes w32 n)

pub v6_long : (n : ℕ) → length (v6_word n) ≡ 32
v6_long n = length-encode_with lower_digits (to_be_bytes w128 n)

not_v4 : (n : ℕ) (word : List ℕ) → word ≡ v6_word n → v4_of word ≡ None
not_v4 n word e = is_none (v4_of word) (λ m f. let is = v4_exact.only word m f in absurd (omega (arith, ap length (sym is.digits ∙ e), v4_long m, v6_long n)))

address_found : (a : Address) (word : List ℕ) → IsAddressWord a word → address_of word ≡ Some a
unfolding address_of
address_found (V4 n) word is = ap (λ (o : Option ℕ). either_address o (v6_of word)) (v4_exact.found n word (record { within = is.within; digits = is.spelled }))
address_found (V6 n) word is = ap (λ (o : Option ℕ). either_address o (v6_of word)) (not_v4 n word is.spelled) ∙ ap (either_address None) (v6_exact.found n word (record { within = is.within; digits = is.spelled }))

address_only_at : (word : List ℕ) (a : Address) (p q : Option ℕ) → v4_of word ≡ p → v6_of word ≡ q → either_address p q ≡ Some a → IsAddressWord a word
address_only_at word a (Some n) q f g e = let is = v4_exact.only word n f in subst (λ (x : Address). IsAddressWord x word) (some_is (V4 n) a e) (record { within = is.within; spelled = is.digits })
address_only_at word a None (Some n) f g e = let is = v6_exact.only word n g in subst (λ (x : Address). IsAddressWord x word) (some_is (V6 n) a e) (record { within = is.within; spelled = is.digits })
address_only_at word a None None f g e = absurd (let z : None ≡ some a = e in cc)

address_only : (word : List ℕ) (a : Address) → address_of word ≡ Some a → IsAddressWord a word
unfolding address_of
address_only word a e = address_only_at word a (v4_of word) (v6_of word) refl refl e

pub address_exact : Exact IsAddressWord address_of
address_exact = record {
  value = V4 0;
  word = v4_word 0;
  some = record { within = omega arith; spelled = refl };
  found = address_found;
  only = address_only;
}

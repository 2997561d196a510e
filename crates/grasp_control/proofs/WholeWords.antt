-- No word of a request holds a blank, so its line has its words.
use Rattle.std.proofs.Common.{◌≡◌, ℕ, ◌<◌, ◌≤◌, ◌^◌, true, false, eqb, List, [], ◌∷◌, Option, Some, None, refl, sym, subst, arith}
use Rattle.std.specs.Int.{to_be_bytes, w32, w128}
use Rattle.std.specs.Prelude.{IfSome, codes, decimal}
use Rattle.std.proofs.lemmas.List.Elements.{All-from_recursion}
use Rattle.std.proofs.lemmas.List.Splits.{slice_split_none}
use Rattle.std.proofs.lemmas.Str.{IsUtf8-from_ascii}
use Rattle.hex.specs.Hex.{encode_lower, lower_digits}
use Rattle.hex.proofs.HexLemmas.{IsAscii-encode_with}
use Rattle.grasp_cbor.specs.Bytes.{AllBytes}
use Rattle.grasp_cbor.proofs.HeadBytes.{AllBytes-from}
use Rattle.grasp_types.specs.Address.{IsLocator}
use Rattle.grasp_types.specs.declared.address.Address.{Address}
use Rattle.grasp_types.specs.declared.address.Address.TheVariants as address
use Rattle.grasp_types.specs.declared.address.Locator.{Locator}
use Rattle.grasp_types.specs.declared.address.Locator.TheVariants.{V6, V4, Fqdn, Uri}
use Rattle.grasp_types.specs.declared.address.Proto.{Proto}
use Rattle.grasp_types.specs.declared.address.Proto.TheVariants.{Tcp, Udp}
use Rattle.grasp_types.specs.declared.call.Call.{Call}
use Rattle.grasp_types.specs.declared.call.Call.TheVariants.{RequestNegotiate, Synchronize, EndNegotiate, ExpireFlood}
use Rattle.grasp_types.specs.declared.message.Verdict.TheVariants.{Accept, Decline}
use Rattle.grasp_text.specs.Line.{or_dash, v4_word, v6_word, address_word, proto_word, locator_words}
use Rattle.grasp_text.proofs.Blanks.{hex_visible, each_other}
use Rattle.grasp_text.proofs.HexWords.{wide32, wide128}
use Rattle.grasp_config.specs.Levels.{level_word}
use Rattle.grasp_config.specs.declared.level.LogLevel.{LogLevel}
use Rattle.grasp_config.specs.declared.level.LogLevel.TheVariants.{Quiet, Events, Traffic}
use Rattle.grasp_script.specs.Calls.{dry_word}
use Rattle.grasp_script.proofs.ActLines.{AreWords, small, middle, call_whole, Begun, whole_line}
use Rattle.grasp_script.proofs.WholeWords.{IsWord, spelled, number, value, text}
use Rattle.grasp_control.specs.Laws.{RequestsAreTheirWords}
use Rattle.grasp_control.specs.Requests.{control_call_words, IsControlCall, request_words, IsRequest}
use Rattle.grasp_control.specs.declared.request.Request.{Request}
use Rattle.grasp_control.specs.declared.request.Request.TheVariants as request
use Rattle.grasp_control.proofs.CallNames.{name_of, is_own, plain_call, one_few}
use Rattle.grasp_control.proofs.Printable.{printable_ascii}

-- ---- addresses

-- hexadecimal digits
digits : (b : List ℕ) → AllBytes b → IsWord (encode_lower b)
digits b h = record {
  whole = slice_split_none (λ c. eqb c 32) (encode_lower b) (All-from_recursion (λ c. eqb c 32 ≡ false) (encode_lower b) (each_other (encode_lower b) (hex_visible b h).all));
  utf8 = IsUtf8-from_ascii (encode_lower b) (IsAscii-encode_with lower_digits b (printable_ascii lower_digits refl));
}

v4 : (n : ℕ) → IsWord (v4_word n)
v4 n = digits (to_be_bytes w32 n) (AllBytes-from (to_be_bytes w32 n) (wide32.small n))

v6 : (n : ℕ) → IsWord (v6_word n)
v6 n = digits (to_be_bytes w128 n) (AllBytes-from (to_be_bytes w128 n) (wide128.small n))

initiator : (a : Address) → IsWord (address_word a)
initiator (address.V4 n) = v4 n
initiator (address.V6 n) = v6 n

-- ---- locators

proto : (p : Proto) → IsWord (proto_word p)
proto Tcp = spelled (codes "tcp") refl refl
proto Udp = spelled (codes "udp") refl refl

maybe_proto : (p : Option Proto) → IsWord (or_dash proto_word p)
maybe_proto None = spelled (codes "-") refl refl
maybe_proto (Some p) = proto p

port : (n : ℕ) → n < 2 ^ 16 → IsWord (decimal n)
port n lt = number n (omega arith)

maybe_port : (p : Option ℕ) → IfSome p (λ n. n < 2 ^ 16) → IsWord (or_dash decimal p)
maybe_port None h = spelled (codes "-") refl refl
maybe_port (Some n) h = port n h

locator : (l : Locator) → IsLocator l → AreWords (locator_words l)
locator (V6 n p q) h = (spelled (codes "v6") refl refl, (v6 n, (proto p, (port q h.1, tt))))
locator (V4 n p q) h = (spelled (codes "v4") refl refl, (v4 n, (proto p, (port q h.1, tt))))
locator (Fqdn name p q) h = (spelled (codes "fqdn") refl refl, (text name h.0, (proto p, (port q h.1, tt))))
locator (Uri t p q) h = (spelled (codes "uri") refl refl, (text t h.0, (maybe_proto p, (maybe_port q h.1, tt))))

-- ---- calls

plain : (c : Call) → is_own (name_of c) ≡ false → IsControlCall c → AreWords (control_call_words c)
plain c own h = let p = plain_call c own in subst AreWords (sym p.words) (call_whole 1 one_few c (p.to h))

call : (c : Call) → IsControlCall c → AreWords (control_call_words c)
call (RequestNegotiate name v loops timeout true peer) h =
    (spelled (codes "request") refl refl, (text name h.0, (value v h.1, (small loops h.2, (middle timeout h.3, (spelled (codes "dry") refl refl, locator peer h.4))))))
call (RequestNegotiate name v loops timeout false peer) h =
    (spelled (codes "request") refl refl, (text name h.0, (value v h.1, (small loops h.2, (middle timeout h.3, (spelled (codes "wet") refl refl, locator peer h.4))))))
call (Synchronize name loops timeout peer) h =
    (spelled (codes "synchronize") refl refl, (text name h.0, (small loops h.1, (middle timeout h.2, locator peer h.3))))
call (ExpireFlood name a) h = (spelled (codes "expire") refl refl, (text name h.0, (initiator a, tt)))
call (EndNegotiate handle Accept) h = plain (EndNegotiate handle Accept) refl h
call (EndNegotiate handle (Decline reason)) h = plain (EndNegotiate handle (Decline reason)) refl h
call c h = plain c refl h

-- ---- requests

level : (l : LogLevel) → IsWord (level_word l)
level Quiet = spelled (codes "quiet") refl refl
level Events = spelled (codes "events") refl refl
level Traffic = spelled (codes "traffic") refl refl

request_whole : (r : Request) → IsRequest r → AreWords (request_words r)
request_whole (request.Call c) h = call c h
request_whole (request.Await millis c) h = (spelled (codes "await") refl refl, (middle millis h.0, call c h.2))
request_whole request.State h = (spelled (codes "state") refl refl, tt)
request_whole request.Wants h = (spelled (codes "wants") refl refl, tt)
request_whole request.Reads h = (spelled (codes "reads") refl refl, tt)
request_whole request.Events h = (spelled (codes "events") refl refl, tt)
request_whole request.Counters h = (spelled (codes "counters") refl refl, tt)
request_whole request.Version h = (spelled (codes "version") refl refl, tt)
request_whole (request.Want length longest peer) h =
    let order : length ≤ longest = h.1
    in let most : longest ≤ 128 = h.2
    in (spelled (codes "want") refl refl, (number length (omega arith), (number longest (omega arith), locator peer h.3)))
request_whole (request.Unwant n) h = (spelled (codes "unwant") refl refl, (number n h, tt))
request_whole (request.Log l) h = (spelled (codes "log") refl refl, (level l, tt))
request_whole request.Stop h = (spelled (codes "stop") refl refl, tt)

call_begun : (c : Call) → Begun (control_call_words c)
call_begun (RequestNegotiate name v loops timeout dry peer) = record { first = _; rest = _; parts = refl }
call_begun (Synchronize name loops timeout peer) = record { first = _; rest = _; parts = refl }
call_begun (ExpireFlood name a) = record { first = _; rest = _; parts = refl }
call_begun (EndNegotiate handle Accept) = record { first = _; rest = _; parts = refl }
call_begun (EndNegotiate handle (Decline None)) = record { first = _; rest = _; parts = refl }
call_begun (EndNegotiate handle (Decline (Some reason))) = record { first = _; rest = _; parts = refl }
call_begun _ = record { first = _; rest = _; parts = refl }

request_begun : (r : Request) → Begun (request_words r)
request_begun (request.Call c) = call_begun c
request_begun _ = record { first = _; rest = _; parts = refl }

pub request_line_words : RequestsAreTheirWords
request_line_words r h = (whole_line (request_words r) (request_begun r) (request_whole r h)).0

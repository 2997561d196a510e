-- No word that tells a call, a report or an answer holds a blank.
use Rattle.std.proofs.Common.{◌≡◌, ℕ, suc, ◌+◌, ◌-◌, ◌/◌, ◌%◌, ◌≤◌, ◌<◌, ◌^◌, ◌==◌, ◌&&◌, Bool, true, false, cond, eqb, not, nat_le, nat_lt, List, [], ◌∷◌, ◌++◌, length, get_or, Option, Some, None, Result, Ok, Err, refl, ap, arith}
use Rattle.std.specs.Int.{to_be_bytes, w32, w128}
use Rattle.std.specs.List.{AllByRecursion, onto_first}
use Rattle.std.specs.Prelude.{IfSome, codes, decimal, slice_index}
use Rattle.std.proofs.Math.ListN.{get_or-eq_default}
use Rattle.std.proofs.lemmas.Bool.{and_parts, ne_eqb, leb-true, not-true}
use Rattle.hex.specs.Hex.{encode_with, encode_lower, lower_digits}
use Rattle.grasp_agent.specs.declared.back.ReturnFault.{ReturnFault}
use Rattle.grasp_agent.specs.declared.back.ReturnFault.TheVariants as back
use Rattle.grasp_agent.specs.declared.want.WantFault.{WantFault}
use Rattle.grasp_agent.specs.declared.want.WantFault.TheVariants.{Busy, Full}
use Rattle.grasp_cbor.specs.DataItem.{DataItem}
use Rattle.grasp_cbor.specs.Shortest.{shortest}
use Rattle.grasp_types.specs.Prefix.{AddressBlock}
use Rattle.grasp_types.specs.Refusal.{refusal_number, refusal_name}
use Rattle.grasp_types.specs.declared.address.Address.{Address}
use Rattle.grasp_types.specs.declared.address.Address.TheVariants as address
use Rattle.grasp_types.specs.declared.address.Locator.{Locator}
use Rattle.grasp_types.specs.declared.address.Locator.TheVariants.{V6, V4, Fqdn, Uri}
use Rattle.grasp_types.specs.declared.address.Proto.{Proto}
use Rattle.grasp_types.specs.declared.address.Proto.TheVariants.{Tcp, Udp}
use Rattle.grasp_types.specs.declared.call.Call.{Call}
use Rattle.grasp_types.specs.declared.call.Call.TheVariants as call
use Rattle.grasp_types.specs.declared.flood.FloodRead.{FloodRead}
use Rattle.grasp_types.specs.declared.message.Verdict.TheVariants.{Accept, Decline}
use Rattle.grasp_types.specs.declared.objective.Objective.{Objective}
use Rattle.grasp_types.specs.declared.refusal.ApiRefused.{ApiRefused}
use Rattle.grasp_types.specs.declared.refusal.ApiRefused.TheVariants as refusal
use Rattle.grasp_types.specs.declared.reply.ApiAnswer.{ApiAnswer}
use Rattle.grasp_types.specs.declared.reply.ApiAnswer.TheVariants as api
use Rattle.grasp_types.specs.declared.reply.Reply.{Reply}
use Rattle.grasp_types.specs.declared.reply.Reply.TheVariants as reply
use Rattle.grasp_types.specs.declared.session.By.{By}
use Rattle.grasp_types.specs.declared.session.By.TheVariants.{Mine, Theirs}
use Rattle.grasp_types.specs.declared.session.Kind.{Kind}
use Rattle.grasp_types.specs.declared.session.Kind.TheVariants.{Negotiation, Synchronization}
use Rattle.grasp_types.specs.declared.session.Outcome.{Outcome}
use Rattle.grasp_types.specs.declared.session.Outcome.TheVariants as outcome
use Rattle.grasp_types.specs.declared.session.Progress.{Progress}
use Rattle.grasp_types.specs.declared.session.Progress.TheVariants as progress
use Rattle.grasp_types.specs.declared.traffic.Output.{Output}
use Rattle.grasp_types.specs.declared.traffic.Output.TheVariants as output
use Rattle.grasp_text.proofs.NumberWords.{number_digit}
use Rattle.grasp_text.specs.Line.{address_word, all_escaped, all_locator_words, bytes_word, escaped, locator_or_none, locator_words, objective_words, or_dash, prefix_word, proto_word, text_word, v4_word, v6_word, value_word}
use Rattle.grasp_text.specs.Reading.{is_plain}
use Rattle.grasp_text.specs.Words.{HasNoBlank, words_of}
use Rattle.grasp_script.specs.Answers.{all_flood_read_words, answer_words, by_word, flood_read_words, outcome_words, progress_words, reply_words}
use Rattle.grasp_script.specs.Calls.{call_words, dry_word, initiator_word, kind_word, node_word, peer_word}
use Rattle.grasp_script.specs.Reports.{report_words, return_words, want_words}
use Rattle.grasp_model_network.specs.Setting.{script_number}
use Rattle.grasp_model_network.specs.declared.report.Report.{Report}
use Rattle.grasp_model_network.specs.declared.report.Report.TheVariants as report
use Rattle.grasp_record.specs.Answers.{all_output_words, drained_words, output_words}
use Rattle.grasp_audit.specs.Numbers.{ApiFits, CallFits, FloodReadFits, IsNumber, LocatorFits, ObjectiveFits, OutcomeFits, OutputFits, ProgressFits, ReplyFits, ReportFits, ReturnFits, WantFits}

-- words without a blank
abbrev pub AreUnbroken : List (List ℕ) → Type 0
AreUnbroken ws = AllByRecursion HasNoBlank ws

pub both : (xs ys : List (List ℕ)) → AreUnbroken xs → AreUnbroken ys → AreUnbroken (xs ++ ys)
both [] ys p q = q
both (x ∷ xs) ys p q = (p.0, both xs ys p.1 q)

together : (v w : List ℕ) → HasNoBlank v → HasNoBlank w → HasNoBlank (v ++ w)
together [] w p q = q
together (x ∷ v) w p q = (p.0, together v w p.1 q)

-- ---- words that are told

abbrev no_blank : List ℕ → Bool
no_blank [] = true
no_blank (c ∷ w) = not (eqb c 32) && no_blank w

spelled : (w : List ℕ) → no_blank w ≡ true → HasNoBlank w
spelled [] e = tt
spelled (c ∷ w) e = let p = and_parts (not (eqb c 32)) (no_blank w) e in (not-true (eqb c 32) p.0, spelled w p.1)

-- ---- numbers

by_bytes : (w : List ℕ) → ((i : ℕ) → i < length w → 48 ≤ get_or w i 0) → HasNoBlank w
by_bytes [] h = tt
by_bytes (c ∷ w) h = (let low = h 0 (omega arith) in ne_eqb c 32 (λ e. absurd (omega (arith, low, e))), by_bytes w (λ i lt. h (suc i) (omega arith)))

number : (n : ℕ) → n < 2 ^ 64 → HasNoBlank (decimal n)
number n lt = by_bytes (decimal n) (λ i inside. number_digit n i lt inside)

-- ---- hexadecimal digits

hex_far : (d : ℕ) → 16 ≤ d → eqb (slice_index lower_digits d) 32 ≡ false
hex_far d far = ap (λ x. eqb x 32) (get_or-eq_default lower_digits 0 {n = d} far)

hex_digit : (d : ℕ) → eqb (slice_index lower_digits d) 32 ≡ false
hex_digit (suc (suc (suc (suc (suc (suc (suc (suc (suc (suc (suc (suc (suc (suc (suc (suc n)))))))))))))))) = hex_far (suc (suc (suc (suc (suc (suc (suc (suc (suc (suc (suc (suc (suc (suc (suc (suc n)))))))))))))))) (omega arith)
hex_digit _ = refl

hex : (b : List ℕ) → HasNoBlank (encode_lower b)
unfolding encode_with
hex [] = tt
hex (c ∷ b) = (hex_digit (c / 16), (hex_digit (c % 16), hex b))

v4 : (n : ℕ) → HasNoBlank (v4_word n)
v4 n = hex (to_be_bytes w32 n)

v6 : (n : ℕ) → HasNoBlank (v6_word n)
v6 n = hex (to_be_bytes w128 n)

an_address : (a : Address) → HasNoBlank (address_word a)
an_address (address.V4 n) = v4 n
an_address (address.V6 n) = v6 n

bytes : (b : List ℕ) → HasNoBlank (bytes_word b)
bytes b = (refl, hex b)

value : (v : DataItem) → HasNoBlank (value_word v)
value v = (refl, hex (shortest v))

maybe_value : (v : Option DataItem) → HasNoBlank (or_dash value_word v)
maybe_value None = spelled (codes "-") refl
maybe_value (Some v) = value v

-- ---- texts

not_blank : (b : ℕ) → is_plain b ≡ true → eqb b 32 ≡ false
not_blank b e =
    let low = leb-true 33 b (and_parts (nat_le 33 b) (nat_le b 126) (and_parts (nat_le 33 b && nat_le b 126) (not (eqb b 37)) e).0).0 in
    ne_eqb b 32 (λ same. absurd (omega (arith, low)))

escapes_by : (b : ℕ) (p : Bool) → is_plain b ≡ p → HasNoBlank (cond p (b ∷ []) (37 ∷ slice_index lower_digits (b / 16) ∷ slice_index lower_digits (b % 16) ∷ []))
escapes_by b true e = (not_blank b e, tt)
escapes_by b false e = (refl, (hex_digit (b / 16), (hex_digit (b % 16), tt)))

escapes : (t : List ℕ) → HasNoBlank (all_escaped t)
escapes [] = tt
escapes (b ∷ t) = together (escaped b) (all_escaped t) (escapes_by b (is_plain b) refl) (escapes t)

text : (t : List ℕ) → HasNoBlank (text_word t)
text t = (refl, escapes t)

-- ---- words of a few

proto : (p : Proto) → HasNoBlank (proto_word p)
proto Tcp = spelled (codes "tcp") refl
proto Udp = spelled (codes "udp") refl

maybe_proto : (p : Option Proto) → HasNoBlank (or_dash proto_word p)
maybe_proto None = spelled (codes "-") refl
maybe_proto (Some p) = proto p

maybe_port : (p : Option ℕ) → IfSome p IsNumber → HasNoBlank (or_dash decimal p)
maybe_port None h = spelled (codes "-") refl
maybe_port (Some n) h = number n h

a_prefix : (p : AddressBlock) → IsNumber p.length → HasNoBlank (prefix_word p)
a_prefix p h = together (v6_word p.address) (47 ∷ decimal p.length) (v6 p.address) (refl, number p.length h)

objective : (o : Objective) → ObjectiveFits o → AreUnbroken (objective_words o)
objective o h = (spelled (codes "obj") refl, (text o.name, (number o.flags h.0, (number o.loops h.1, (maybe_value o.value, tt)))))

locator : (l : Locator) → LocatorFits l → AreUnbroken (locator_words l)
locator (V6 n p port) h = (spelled (codes "v6") refl, (v6 n, (proto p, (number port h, tt))))
locator (V4 n p port) h = (spelled (codes "v4") refl, (v4 n, (proto p, (number port h, tt))))
locator (Fqdn name p port) h = (spelled (codes "fqdn") refl, (text name, (proto p, (number port h, tt))))
locator (Uri uri p port) h = (spelled (codes "uri") refl, (text uri, (maybe_proto p, (maybe_port port h, tt))))

locators : (ls : List Locator) → AllByRecursion LocatorFits ls → AreUnbroken (all_locator_words ls)
locators [] h = tt
locators (l ∷ ls) h = both (locator_words l) (all_locator_words ls) (locator l h.0) (locators ls h.1)

maybe_locator : (l : Option Locator) → IfSome l LocatorFits → AreUnbroken (locator_or_none l)
maybe_locator None h = (spelled (codes "none") refl, tt)
maybe_locator (Some l) h = locator l h

-- ---- nodes

little_more : (n base : ℕ) → n ≤ base + 255 → n - base < 2 ^ 64
little_more n base h = omega (arith, h)

node_by : (n : ℕ) (b : Bool) → (nat_lt (script_number 0) n && nat_le n (script_number 255)) ≡ b → HasNoBlank (cond b (decimal (n - script_number 0)) (codes "-"))
node_by n true e = number (n - script_number 0) (little_more n (script_number 0) (leb-true n (script_number 255) (and_parts (nat_lt (script_number 0) n) (nat_le n (script_number 255)) e).1))
node_by n false e = spelled (codes "-") refl

node : (n : ℕ) → HasNoBlank (node_word n)
node n = node_by n (nat_lt (script_number 0) n && nat_le n (script_number 255)) refl

port_by : (n : ℕ) (b : Bool) → HasNoBlank (cond b (node_word n) (codes "-"))
port_by n true = node n
port_by n false = spelled (codes "-") refl

peer : (l : Locator) → HasNoBlank (peer_word l)
peer (V6 n Tcp port) = port_by n (port == 7017)
peer (V6 n Udp port) = spelled (codes "-") refl
peer (V4 n p port) = spelled (codes "-") refl
peer (Fqdn name p port) = spelled (codes "-") refl
peer (Uri uri p port) = spelled (codes "-") refl

initiator : (a : Address) → HasNoBlank (initiator_word a)
initiator (address.V4 n) = spelled (codes "-") refl
initiator (address.V6 n) = node n

-- ---- calls

kind : (k : Kind) → HasNoBlank (kind_word k)
kind Negotiation = spelled (codes "neg") refl
kind Synchronization = spelled (codes "syn") refl

dry : (d : Bool) → HasNoBlank (dry_word d)
dry true = spelled (codes "dry") refl
dry false = spelled (codes "wet") refl

pub calls : (c : Call) → CallFits c → AreUnbroken (call_words c)
calls (call.RegisterAsa name) h = (spelled (codes "asa") refl, (text name, tt))
calls call.DeregisterAsa h = (spelled (codes "unasa") refl, tt)
calls (call.RegisterObjective name flags) h = (spelled (codes "objective") refl, (text name, (number flags h, tt)))
calls (call.DeregisterObjective name) h = (spelled (codes "unobjective") refl, (text name, tt))
calls (call.Discover name k loops timeout) h = (spelled (codes "discover") refl, (text name, (kind k, (number loops h.0, (number timeout h.1, tt)))))
calls (call.RequestNegotiate name v loops timeout d to) h = (spelled (codes "request") refl, (text name, (value v, (number loops h.0, (number timeout h.1, (dry d, (peer to, tt)))))))
calls (call.ListenNegotiate name) h = (spelled (codes "listen") refl, (text name, tt))
calls (call.StopListenNegotiate name) h = (spelled (codes "unlisten") refl, (text name, tt))
calls (call.NegotiateStep handle v) h = (spelled (codes "step") refl, (number handle.number h, (value v, tt)))
calls (call.NegotiateWait handle millis) h = (spelled (codes "wait") refl, (number handle.number h.0, (number millis h.1, tt)))
calls (call.EndNegotiate handle Accept) h = (spelled (codes "accept") refl, (number handle.number h, tt))
calls (call.EndNegotiate handle (Decline None)) h = (spelled (codes "decline") refl, (number handle.number h, tt))
calls (call.EndNegotiate handle (Decline (Some reason))) h = (spelled (codes "decline") refl, (number handle.number h, (text reason, tt)))
calls (call.SendInvalid handle detail) h = (spelled (codes "invalid") refl, (number handle.number h, (maybe_value detail, tt)))
calls (call.Poll handle) h = (spelled (codes "poll") refl, (number handle.number h, tt))
calls (call.Synchronize name loops timeout to) h = (spelled (codes "synchronize") refl, (text name, (number loops h.0, (number timeout h.1, (peer to, tt)))))
calls (call.ListenSynchronize name v) h = (spelled (codes "offer") refl, (text name, (value v, tt)))
calls (call.StopListenSynchronize name) h = (spelled (codes "unoffer") refl, (text name, tt))
calls (call.Flood name v ttl loops) h = (spelled (codes "flood") refl, (text name, (value v, (number ttl h.0, (number loops h.1, tt)))))
calls (call.GetFlood name) h = (spelled (codes "floods") refl, (text name, tt))
calls (call.ExpireFlood name by) h = (spelled (codes "expire") refl, (text name, (initiator by, tt)))

-- ---- answers

doer : (by : By) → HasNoBlank (by_word by)
doer Mine = spelled (codes "mine") refl
doer Theirs = spelled (codes "theirs") refl

outcomes : (o : Outcome) → OutcomeFits o → AreUnbroken (outcome_words o)
outcomes (outcome.Agreed by o) h = (spelled (codes "agreed") refl, (doer by, objective o h))
outcomes (outcome.Declined by None) h = (spelled (codes "declined") refl, (doer by, tt))
outcomes (outcome.Declined by (Some reason)) h = (spelled (codes "declined") refl, (doer by, (text reason, tt)))
outcomes (outcome.Synchronized o) h = (spelled (codes "synchronized") refl, objective o h)
outcomes (outcome.TimedOut deadline now) h = (spelled (codes "timedout") refl, (number deadline h.0, (number now h.1, tt)))
outcomes outcome.Broken h = (spelled (codes "broken") refl, tt)
outcomes outcome.OutOfMemory h = (spelled (codes "outofmemory") refl, tt)
outcomes (outcome.Invalid by) h = (spelled (codes "invalid") refl, (doer by, tt))

progresses : (p : Progress) → ProgressFits p → AreUnbroken (progress_words p)
progresses progress.NotYet h = (spelled (codes "notyet") refl, tt)
progresses (progress.Turn o) h = (spelled (codes "turn") refl, objective o h)
progresses (progress.Ended o) h = (spelled (codes "ended") refl, outcomes o h)

reads_of : (r : FloodRead) → FloodReadFits r → AreUnbroken (flood_read_words r)
reads_of r h = (an_address r.initiator, both (objective_words r.objective) (locator_or_none r.locator) (objective r.objective h.0) (maybe_locator r.locator h.1))

reads : (rs : List FloodRead) → AllByRecursion FloodReadFits rs → AreUnbroken (all_flood_read_words rs)
reads [] h = tt
reads (r ∷ rs) h = both (flood_read_words r) (all_flood_read_words rs) (reads_of r h.0) (reads rs h.1)

apis : (a : ApiAnswer) → ApiFits a → AreUnbroken (answer_words a)
apis (api.Asa n) h = (spelled (codes "asa") refl, (number n h, tt))
apis api.Done h = (spelled (codes "done") refl, tt)
apis (api.Started handle) h = (spelled (codes "started") refl, (number handle.number h, tt))
apis api.Searching h = (spelled (codes "searching") refl, tt)
apis (api.Found ls) h = (spelled (codes "found") refl, locators ls h)
apis api.Nothing h = (spelled (codes "nothing") refl, tt)
apis api.NotYet h = (spelled (codes "notyet") refl, tt)
apis (api.Incoming handle from o) h = (spelled (codes "incoming") refl, (number handle.number h.0, (an_address from, objective o h.1)))
apis (api.Polled p) h = progresses p h
apis (api.Floods rs) h = (spelled (codes "floods") refl, reads rs h)

refusal_numbers : (r : ApiRefused) → refusal_number r < 2 ^ 64
refusal_numbers refusal.OutOfMemory = omega arith
refusal_numbers _ = omega arith

refusal_names : (r : ApiRefused) → HasNoBlank (refusal_name r)
refusal_names refusal.OutOfMemory = spelled (refusal_name refusal.OutOfMemory) refl
refusal_names r = spelled (refusal_name r) refl

replies : (r : Reply) → ReplyFits r → AreUnbroken (reply_words r)
replies (reply.Api a) h = apis a h
replies (reply.Refused r) h = (spelled (codes "refused") refl, (number (refusal_number r) (refusal_numbers r), (refusal_names r, tt)))
replies (reply.Outputs outputs) h = (spelled (codes "sent") refl, (number (length outputs) h, tt))
replies reply.Taken h = (spelled (codes "taken") refl, tt)
replies reply.Turned h = (spelled (codes "turned") refl, tt)
replies reply.OutOfMemory h = (spelled (codes "outofmemory") refl, tt)

wants : (r : Result (Unit {0}) WantFault) → WantFits r → AreUnbroken (want_words r)
wants (Ok u) h = (spelled (codes "ok") refl, tt)
wants (Err (Busy shortest longest)) h = (spelled (codes "busy") refl, (number shortest h.0, (number longest h.1, tt)))
wants (Err Full) h = (spelled (codes "full") refl, tt)

returns : (r : Result (Unit {0}) ReturnFault) → ReturnFits r → AreUnbroken (return_words r)
returns (Ok u) h = (spelled (codes "ok") refl, tt)
returns (Err (back.Busy prefix)) h = (spelled (codes "busy") refl, (a_prefix prefix h, tt))
returns (Err back.NotFree) h = (spelled (codes "notfree") refl, tt)
returns (Err back.Full) h = (spelled (codes "full") refl, tt)

pub reports : (r : Report) → ReportFits r → AreUnbroken (report_words r)
reports (report.Reply r) h = replies r h
reports (report.Agent c r) h = replies r h
reports report.Nothing h = (spelled (codes "nothing") refl, tt)
reports (report.Reading millis) h = (number millis h, tt)
reports (report.Want taken) h = wants taken h
reports (report.Return taken) h = returns taken h
reports (report.Sent outputs) h = (spelled (codes "sent") refl, (number outputs h, tt))

-- ---- outputs

outputs_of : (o : Output) → OutputFits o → AreUnbroken (output_words o)
outputs_of (output.Datagram link to b) h = (spelled (codes "datagram") refl, (number link h.0, (number to h.1, (bytes b, tt))))
outputs_of (output.Dial stream to) h = (spelled (codes "dial") refl, (number stream h.0, locator to h.1))
outputs_of (output.Send stream b) h = (spelled (codes "send") refl, (number stream h, (bytes b, tt)))
outputs_of (output.Close stream) h = (spelled (codes "close") refl, (number stream h, tt))

all_outputs : (os : List Output) → AllByRecursion OutputFits os → AreUnbroken (all_output_words os)
all_outputs [] h = tt
all_outputs (o ∷ os) h = both (output_words o) (all_output_words os) (outputs_of o h.0) (all_outputs os h.1)

pub drains : (os : List Output) → AllByRecursion OutputFits os → AreUnbroken (drained_words os)
drains [] h = (spelled (codes "none") refl, tt)
drains (o ∷ os) h = all_outputs (o ∷ os) h

-- ---- the words of a drain's line

pub drain_words : (node now max : ℕ) (os : List Output) → node < 2 ^ 64 → now < 2 ^ 64 → max < 2 ^ 64 → AllByRecursion OutputFits os
    → AreUnbroken (decimal node ∷ decimal now ∷ codes "drain" ∷ decimal max ∷ codes "=" ∷ drained_words os)
drain_words node now max os a b c h = (number node a, (number now b, (spelled (codes "drain") refl, (number max c, (spelled (codes "=") refl, drains os h)))))

-- ---- the words of a line

-- no part of a line between its blanks holds one
pub parts_unbroken : (line : List ℕ) → AreUnbroken (words_of line)
parts_unbroken [] = (tt, tt)
parts_unbroken (x ∷ line) = by_test (eqb x 32) refl (words_of line) (parts_unbroken line) where
  onto : (ws : List (List ℕ)) → eqb x 32 ≡ false → AreUnbroken ws → AreUnbroken (onto_first x ws)
  onto [] e h = ((e, tt), tt)
  onto (w ∷ ws) e h = ((e, h.0), h.1)

  by_test : (b : Bool) → eqb x 32 ≡ b → (ws : List (List ℕ)) → AreUnbroken ws → AreUnbroken (cond b ([] ∷ ws) (onto_first x ws))
  by_test true e ws h = (tt, h)
  by_test false e ws h = onto ws e h

pub behind_unbroken : (xs ys : List (List ℕ)) → AreUnbroken (xs ++ ys) → AreUnbroken ys
behind_unbroken [] ys h = h
behind_unbroken (x ∷ xs) ys h = behind_unbroken xs ys h.1

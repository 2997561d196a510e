-- No word of what a node took is `=`.
use Rattle.std.proofs.Common.{◌≡◌, ℕ, ◌≤◌, ◌<◌, ◌^◌, Bool, true, false, List, length, get_or, Option, Some, None, refl, sym, ap, ◌∙◌, arith}
use Rattle.std.specs.Prelude.{◌≢◌, codes, decimal}
use Rattle.std.specs.Str.{bytes_eq}
use Rattle.std.proofs.lemmas.Slice.Eq.{bytes_eq-Decides}
use Rattle.grasp_cbor.specs.DataItem.{DataItem}
use Rattle.grasp_types.specs.declared.address.Address.{Address}
use Rattle.grasp_types.specs.declared.address.Locator.{Locator}
use Rattle.grasp_types.specs.declared.call.Call.{Call}
use Rattle.grasp_types.specs.declared.call.Call.TheVariants.{RegisterAsa, DeregisterAsa, RegisterObjective, DeregisterObjective, Discover, RequestNegotiate, ListenNegotiate, StopListenNegotiate, NegotiateStep, NegotiateWait, EndNegotiate, SendInvalid, Poll, Synchronize, ListenSynchronize, StopListenSynchronize, Flood, GetFlood, ExpireFlood}
use Rattle.grasp_types.specs.declared.message.Verdict.TheVariants.{Accept, Decline}
use Rattle.grasp_types.specs.declared.session.Kind.{Kind}
use Rattle.grasp_types.specs.declared.session.Kind.TheVariants.{Negotiation, Synchronization}
use Rattle.grasp_types.specs.Prefix.{AddressBlock, IsPrefix}
use Rattle.grasp_text.specs.Line.{address_word, bytes_word, or_dash, prefix_word, text_word, value_word}
use Rattle.grasp_text.specs.Reading.{address_of, block_of, v4_of, v6_of}
use Rattle.grasp_text.proofs.NumberWords.{some, number_digit_most}
use Rattle.grasp_text.proofs.Readers.{addresses_read}
use Rattle.grasp_model_network.specs.Plans.{IsNode}
use Rattle.grasp_script.specs.Calls.{kind_word, dry_word, peer_word, initiator_word, call_words, IsPeer, IsInitiator, IsCall}
use Rattle.grasp_script.specs.Grammar.{prefix_of}
use Rattle.grasp_script.proofs.WordReaders.{peer_number, initiator_number, read_prefix}
use Rattle.grasp_record.specs.Dividing.{HaveNoSign}
use Rattle.grasp_record.specs.Inputs.{input_words, IsInput}
use Rattle.grasp_record.specs.declared.line.RecordInput.{RecordInput}
use Rattle.grasp_record.specs.declared.line.RecordInput.TheVariants as input

apart : (w : List ℕ) → bytes_eq w (codes "=") ≡ false → w ≢ codes "="
apart w e same = let z : true ≡ false = sym ((bytes_eq-Decides w (codes "=")).1 same) ∙ e in cc

pub number : (n : ℕ) → n < 2 ^ 64 → decimal n ≢ codes "="
number n lt same =
    let digit = number_digit_most n 0 lt (omega (arith, ap length same)) in
    absurd (omega (arith, digit, ap (λ (w : List ℕ). get_or w 0 0) same))

no_address : address_of (codes "=") ≡ None
unfolding address_of v4_of v6_of
no_address = refl

no_prefix : prefix_of (codes "=") ≡ None
unfolding prefix_of block_of
no_prefix = refl

prefix : (p : AddressBlock) → IsPrefix p.address p.length → prefix_word p ≢ codes "="
prefix p is same = let z : None ≡ some p = sym no_prefix ∙ ap prefix_of (sym same) ∙ read_prefix.found p is in cc

text : (t : List ℕ) → text_word t ≢ codes "="
text t = apart (text_word t) refl

value : (v : DataItem) → value_word v ≢ codes "="
value v = apart (value_word v) refl

maybe_value : (v : Option DataItem) → or_dash value_word v ≢ codes "="
maybe_value None = apart (codes "-") refl
maybe_value (Some v) = value v

kind : (k : Kind) → kind_word k ≢ codes "="
kind Negotiation = apart (codes "neg") refl
kind Synchronization = apart (codes "syn") refl

dry : (d : Bool) → dry_word d ≢ codes "="
dry true = apart (codes "dry") refl
dry false = apart (codes "wet") refl

module _ (nodes : ℕ) (few : nodes ≤ 255) where
  node : (n : ℕ) → IsNode nodes n → decimal n ≢ codes "="
  node n is = let most : n ≤ nodes = is.most in number n (omega arith)

  peer : (l : Locator) → IsPeer nodes l → peer_word l ≢ codes "="
  peer l is same = node is.node is.is_node (sym (peer_number nodes few l is) ∙ same)

  initiator : (a : Address) → IsInitiator nodes a → initiator_word a ≢ codes "="
  initiator a is same = node is.node is.is_node (sym (initiator_number nodes few a is) ∙ same)

  call_signless : (c : Call) → IsCall nodes c → HaveNoSign (call_words c)
  call_signless (RegisterAsa name) h = (apart (codes "asa") refl, (text name, tt))
  call_signless DeregisterAsa h = (apart (codes "unasa") refl, tt)
  call_signless (RegisterObjective name f) h = (apart (codes "objective") refl, (text name, (let le : f ≤ 15 = h.1 in number f (omega arith), tt)))
  call_signless (DeregisterObjective name) h = (apart (codes "unobjective") refl, (text name, tt))
  call_signless (Discover name k loops timeout) h = (apart (codes "discover") refl, (text name, (kind k, (number loops (omega (arith, h.1)), (number timeout (omega (arith, h.2)), tt)))))
  call_signless (RequestNegotiate name v loops timeout d p) h = (apart (codes "request") refl, (text name, (value v, (number loops (omega (arith, h.2)), (number timeout (omega (arith, h.3)), (dry d, (peer p h.4, tt)))))))
  call_signless (ListenNegotiate name) h = (apart (codes "listen") refl, (text name, tt))
  call_signless (StopListenNegotiate name) h = (apart (codes "unlisten") refl, (text name, tt))
  call_signless (NegotiateStep handle v) h = (apart (codes "step") refl, (number handle.number h.0.number, (value v, tt)))
  call_signless (NegotiateWait handle millis) h = (apart (codes "wait") refl, (number handle.number h.0.number, (number millis (omega (arith, h.1)), tt)))
  call_signless (SendInvalid handle detail) h = (apart (codes "invalid") refl, (number handle.number h.0.number, (maybe_value detail, tt)))
  call_signless (Poll handle) h = (apart (codes "poll") refl, (number handle.number h.number, tt))
  call_signless (Synchronize name loops timeout p) h = (apart (codes "synchronize") refl, (text name, (number loops (omega (arith, h.1)), (number timeout (omega (arith, h.2)), (peer p h.3, tt)))))
  call_signless (ListenSynchronize name v) h = (apart (codes "offer") refl, (text name, (value v, tt)))
  call_signless (StopListenSynchronize name) h = (apart (codes "unoffer") refl, (text name, tt))
  call_signless (Flood name v ttl loops) h = (apart (codes "flood") refl, (text name, (value v, (number ttl (omega (arith, h.2)), (number loops (omega (arith, h.3)), tt)))))
  call_signless (GetFlood name) h = (apart (codes "floods") refl, (text name, tt))
  call_signless (ExpireFlood name a) h = (apart (codes "expire") refl, (text name, (initiator a h.1, tt)))
  call_signless (EndNegotiate handle Accept) h = (apart (codes "accept") refl, (number handle.number h.0.number, tt))
  call_signless (EndNegotiate handle (Decline None)) h = (apart (codes "decline") refl, (number handle.number h.0.number, tt))
  call_signless (EndNegotiate handle (Decline (Some reason))) h = (apart (codes "decline") refl, (number handle.number h.0.number, (text reason, tt)))

  opened_from : (a : Address) (h : IsInput nodes (input.Opened 0 a)) → address_word a ≢ codes "="
  opened_from a h same = let z : None ≡ some a = sym no_address ∙ ap address_of (sym same) ∙ addresses_read.found a h.1 in cc

  pub signless : (i : RecordInput) → IsInput nodes i → HaveNoSign (input_words i)
  signless (input.Api asa call) h = (apart (codes "api") refl, (number asa (omega (arith, h.0)), call_signless call h.1))
  signless (input.Agent call) h = (apart (codes "agent") refl, call_signless call h)
  signless (input.Want length longest p) h =
      let rising : length ≤ longest = h.0.rising in
      let most : longest ≤ 128 = h.0.most in
      (apart (codes "want") refl, (number length (omega arith), (number longest (omega arith), (node p h.1, tt))))
  signless (input.Return p to) h = (apart (codes "return") refl, (prefix p h.0, (node to h.1, tt)))
  signless (input.Datagram link from bytes) h = (apart (codes "datagram") refl, (number link (omega (arith, h.0)), (number from (omega (arith, h.1)), (apart (bytes_word bytes) refl, tt))))
  signless (input.Opened stream from) h = (apart (codes "opened") refl, (number stream h.0, (opened_from from (omega arith, h.1), tt)))
  signless (input.Bytes stream bytes) h = (apart (codes "bytes") refl, (number stream h.0, (apart (bytes_word bytes) refl, tt)))
  signless (input.Closed stream) h = (apart (codes "closed") refl, (number stream h, tt))
  signless (input.Drain max) h = (apart (codes "drain") refl, (number max (omega (arith, h)), tt))

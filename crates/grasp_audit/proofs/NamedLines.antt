-- The event that a line names.
use Rattle.std.proofs.Common.{◌≡◌, ◌≢◌, refl, sym, ap, ◌∙◌, subst, arith, tests, ℕ, ◌==◌, nat_le, true, false, if◌then◌else◌, Bool, length, List, Option, Some, None}
use Rattle.grasp_types.specs.Prefix.{AddressBlock}
use Rattle.grasp_types.specs.declared.address.Address.{Address}
use Rattle.grasp_types.specs.declared.call.Call.{Call}
use Rattle.grasp_types.specs.declared.call.Call.TheVariants.{RegisterAsa, RegisterObjective, Discover, RequestNegotiate, NegotiateStep, NegotiateWait, EndNegotiate, SendInvalid, Synchronize, ListenSynchronize, Flood}
use Rattle.grasp_model_audit.specs.Naming.{NamedSide, bytes_event, closing_event, datagram_event, datagram_numbered, event_named, if_brought, is_brought, named_by, side_with}
use Rattle.grasp_model_network.specs.Events.{IsFit, IsFitAmong, visit_of}
use Rattle.grasp_model_network.specs.Ranges as ranges
use Rattle.grasp_model_network.specs.Setting.{Setting}
use Rattle.grasp_model_network.specs.World.{Seat, WorldState, present_life}
use Rattle.grasp_model_network.specs.declared.event.Event.{Event}
use Rattle.grasp_model_network.specs.declared.event.Event.TheVariants as event
use Rattle.grasp_model_script.specs.LineRuns.{placed_call}
use Rattle.grasp_script.specs.Calls.{IsCall, may_call}
use Rattle.grasp_record.specs.Inputs.{IsInput}
use Rattle.grasp_record.specs.Records.{IsRecord}
use Rattle.grasp_record.specs.declared.line.RecordInput.{RecordInput}
use Rattle.grasp_record.specs.declared.line.RecordInput.TheVariants as took
use Rattle.grasp_record.specs.declared.line.RecordLine.{RecordLine}
use Rattle.grasp_simulator.specs.Lending.{LendsFirst, StandsFor}
use Rattle.grasp_simulator.specs.WorldStands.{IsSeat}
use Rattle.grasp_simulator.specs.declared.world.World.{World}
use Rattle.grasp_audit.specs.Coming.{NamesBrought, arrives_at, bytes_at, closing_at}
use Rattle.grasp_audit.specs.Lines.{NamesEvent}
use Rattle.grasp_audit.specs.Standing.{HasLine}
use Rattle.grasp_audit.proofs.Seats.{IsThere, line_there, peers_here}

-- ---- datagrams

pub datagram_named : (code : World) (node link from : ℕ) (bytes : List ℕ) (found : Option ℕ) (named : Option Event) → LendsFirst code node link from bytes found → named ≡ datagram_numbered found
    → (s : Setting) (w : WorldState) → StandsFor code s w → datagram_event w node link from bytes ≡ named
datagram_named code node link from bytes found named lends is s w h = ap datagram_numbered (sym (lends s w h)) ∙ sym is

-- ---- lines

-- the call is that of the network, where the node's present life stands
abbrev pub IsPlaced : World → ℕ → Call → Call → Type 0
IsPlaced code node call placed = (s : Setting) (w : WorldState) (seat : Seat) → IsSeat code node s w seat → placed ≡ placed_call w (present_life w node) call

module _ (code : World) (x : RecordLine) where
  pub names_call : (asa : ℕ) (call placed : Call) → HasLine code x → x.input ≡ took.Api asa call → IsPlaced code x.node call placed → NamesEvent code x (Some (event.Api x.node asa placed true))
  unfolding event_named
  names_call asa call placed line is at = λ s w h.
      let there : IsThere w x.node = line_there code x s w line h in
      ap (named_by s w x.node) is ∙ ap (λ (c : Call). Some (event.Api x.node asa c true)) (sym (at s w there.seat (record { stands = h; here = there.here })))

  pub names_agent : (call : Call) → x.input ≡ took.Agent call → NamesEvent code x (Some (event.Agent x.node true))
  unfolding event_named
  names_agent call is = λ s w h. ap (named_by s w x.node) is

  pub names_want : (shortest longest peer : ℕ) → x.input ≡ took.Want shortest longest peer → NamesEvent code x (Some (event.Want x.node shortest longest peer))
  unfolding event_named
  names_want shortest longest peer is = λ s w h. ap (named_by s w x.node) is

  pub names_return : (prefix : AddressBlock) (peer : ℕ) → x.input ≡ took.Return prefix peer → NamesEvent code x (Some (event.Return x.node prefix peer))
  unfolding event_named
  names_return prefix peer is = λ s w h. ap (named_by s w x.node) is

  pub names_drain : (max : ℕ) → x.input ≡ took.Drain max → NamesEvent code x (Some (event.Drain x.node max))
  unfolding event_named
  names_drain max is = λ s w h. ap (named_by s w x.node) is

  pub names_datagram : (link from : ℕ) (bytes : List ℕ) (found : Option Event) → x.input ≡ took.Datagram link from bytes
      → ((s : Setting) (w : WorldState) → StandsFor code s w → datagram_event w x.node link from bytes ≡ found) → NamesEvent code x found
  unfolding event_named
  names_datagram link from bytes found is named = λ s w h. ap (named_by s w x.node) is ∙ named s w h

  pub names_opened : (stream : ℕ) (from : Address) (found : Option Event) → x.input ≡ took.Opened stream from → NamesBrought code x.node (took.Opened stream from) (arrives_at stream) found → NamesEvent code x found
  unfolding event_named
  names_opened stream from found is named = λ s w h. ap (named_by s w x.node) is ∙ named s w h

  pub names_bytes : (stream : ℕ) (bytes : List ℕ) (found : Option Event) → x.input ≡ took.Bytes stream bytes → NamesBrought code x.node (took.Bytes stream bytes) (bytes_at x.node stream (length bytes)) found → NamesEvent code x found
  unfolding event_named
  names_bytes stream bytes found is named = λ s w h. ap (named_by s w x.node) is ∙ named s w h

  pub names_closed : (stream : ℕ) (found : Option Event) → x.input ≡ took.Closed stream → NamesBrought code x.node (took.Closed stream) (closing_at x.node stream) found → NamesEvent code x found
  unfolding event_named
  names_closed stream found is named = λ s w h. ap (named_by s w x.node) is ∙ named s w h

-- ---- the event may be asked for

-- what a call carries stays within its ranges where its session gets a place
call_fits : (nodes : ℕ) (w : WorldState) (life : ℕ) (c : Call) → IsCall nodes c → ranges.IsCall (placed_call w life c)
call_fits nodes w life (RegisterObjective name flags) h = h
call_fits nodes w life (Discover name kind loops timeout) h = (h.0, h.1)
call_fits nodes w life (RequestNegotiate name value loops timeout dry peer) h = (h.0, h.1, h.2)
call_fits nodes w life (NegotiateStep handle value) h = h.1
call_fits nodes w life (NegotiateWait handle millis) h = h.1
call_fits nodes w life (EndNegotiate handle verdict) h = h.1
call_fits nodes w life (SendInvalid handle detail) h = h.1
call_fits nodes w life (Synchronize name loops timeout peer) h = (h.0, h.1)
call_fits nodes w life (ListenSynchronize name value) h = h.1
call_fits nodes w life (Flood name value ttl loops) h = h
call_fits nodes w life _ h = tt

two_more : (asa : ℕ) → nat_le 2 asa ≡ true → asa ≡ 1 → ⊥
two_more asa h one = absurd (grind (arith, tests))

none_yet : (asa : ℕ) → (asa == 0) ≡ true → asa ≡ 1 → ⊥
none_yet asa h one = absurd (grind (arith, tests))

-- no call is made as agent 1
not_own : (asa : ℕ) (c : Call) → may_call asa c ≡ true → asa ≢ 1
not_own asa (RegisterAsa name) h = none_yet asa h
not_own asa _ h = two_more asa h

one_some : (e f : Event) → Some e ≡ Some f → e ≡ f
one_some e f same = cc

-- what is brought names the event that brings it
brought_is : (b : Bool) (f e : Event) → (if b then Some f else None) ≡ Some e → f ≡ e
brought_is true f e is = one_some f e is
brought_is false f e is = absurd cc

module _ (s : Setting) (w : WorldState) (n : ℕ) where
  fits_brought : (node : ℕ) (i : RecordInput) (o : Option Event) (e : Event) → ((f : Event) → o ≡ Some f → IsFitAmong n n f) → if_brought s w node i o ≡ Some e → IsFitAmong n n e
  fits_brought node i None e fits is = absurd cc
  fits_brought node i (Some f) e fits is = subst (λ (g : Event). IsFitAmong n n g) (brought_is (is_brought w node i (visit_of s w f)) f e is) (fits f refl)

  fits_datagram : (o : Option ℕ) (e : Event) → datagram_numbered o ≡ Some e → IsFitAmong n n e
  fits_datagram None e is = absurd cc
  fits_datagram (Some index) e is = subst (λ (g : Event). IsFitAmong n n g) (one_some (event.Datagram index true) e is) tt

  fits_input : (x : RecordLine) → IsRecord n x → (i : RecordInput) → IsInput n i → (e : Event) → named_by s w x.node i ≡ Some e → IsFitAmong n n e
  fits_input x h (took.Api asa call) g e is =
      subst (λ (f : Event). IsFitAmong n n f) (one_some _ e is) (h.node, not_own asa call g.2, call_fits n w (present_life w x.node) call g.1)
  fits_input x h (took.Agent call) g e is = subst (λ (f : Event). IsFitAmong n n f) (one_some _ e is) h.node
  fits_input x h (took.Want shortest longest peer) g e is = subst (λ (f : Event). IsFitAmong n n f) (one_some _ e is) (h.node, g.1, g.0)
  fits_input x h (took.Return prefix peer) g e is = subst (λ (f : Event). IsFitAmong n n f) (one_some _ e is) (h.node, g.1, g.0)
  fits_input x h (took.Datagram link from bytes) g e is = fits_datagram _ e is
  fits_input x h (took.Opened stream from) g e is =
      fits_brought x.node (took.Opened stream from) (arrives_at stream w) e (λ f same. subst (λ (k : Event). IsFitAmong n n k) (one_some _ f same) tt) is
  fits_input x h (took.Bytes stream bytes) g e is =
      fits_brought x.node (took.Bytes stream bytes) (bytes_at x.node stream (length bytes) w) e (λ f same. fits_bytes (length bytes) (side_with w x.node stream) f same) is
    where
      fits_bytes : (count : ℕ) (o : Option NamedSide) (f : Event) → bytes_event count o ≡ Some f → IsFitAmong n n f
      fits_bytes count None f same = absurd cc
      fits_bytes count (Some side) f same = subst (λ (k : Event). IsFitAmong n n k) (one_some _ f same) tt
  fits_input x h (took.Closed stream) g e is =
      fits_brought x.node (took.Closed stream) (closing_at x.node stream w) e (λ f same. fits_closing (side_with w x.node stream) f same) is
    where
      fits_closing : (o : Option NamedSide) (f : Event) → closing_event o ≡ Some f → IsFitAmong n n f
      fits_closing None f same = absurd cc
      fits_closing (Some side) f same = subst (λ (k : Event). IsFitAmong n n k) (one_some _ f same) tt
  fits_input x h (took.Drain max) g e is = subst (λ (f : Event). IsFitAmong n n f) (one_some _ e is) h.node

pub named_fits : (code : World) (s : Setting) (w : WorldState) (x : RecordLine) (e : Event) → StandsFor code s w → IsRecord (length s.members) x → event_named s w x ≡ Some e → IsFit s w e
unfolding event_named
named_fits code s w x e h is named =
    subst (λ (k : ℕ). IsFitAmong (length s.members) k e) (sym (peers_here code s w h)) (fits_input s w (length s.members) x is x.input is.input e named)

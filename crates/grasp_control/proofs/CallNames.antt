-- The first word of each call, and the calls that a script reads as a visitor writes them.
use Rattle.std.proofs.Common.{◌≡◌, ℕ, ◌≤◌, Bool, true, false, List, [], ◌∷◌, Some, None, Ok, refl, sym, ap, ◌∙◌, arith}
use Rattle.grasp_types.specs.declared.call.Call.{Call}
use Rattle.grasp_types.specs.declared.call.Call.TheVariants.{RegisterAsa, DeregisterAsa, RegisterObjective, DeregisterObjective, Discover, RequestNegotiate, ListenNegotiate, StopListenNegotiate, NegotiateStep, NegotiateWait, EndNegotiate, SendInvalid, Poll, Synchronize, ListenSynchronize, StopListenSynchronize, Flood, GetFlood, ExpireFlood}
use Rattle.grasp_types.specs.declared.message.Verdict.TheVariants.{Accept, Decline}
use Rattle.grasp_text.proofs.NumberWords.{some_is}
use Rattle.grasp_script.specs.Calls.{call_words, IsCall}
use Rattle.grasp_script.specs.Grammar.{call_of, call_at, called_at}
use Rattle.grasp_script.specs.declared.names.CallName.{CallName}
use Rattle.grasp_script.specs.declared.names.CallName.TheVariants as call
use Rattle.grasp_script.proofs.CallLaws.{call_only, call_found}
use Rattle.grasp_script.proofs.Fields.{Means}
use Rattle.grasp_script.proofs.WordReaders.{call_word, call_again}
use Rattle.grasp_control.specs.Requests.{control_call_words, IsControlCall, may_wait}

-- its first word
abbrev pub name_of : Call → CallName
name_of (RegisterAsa name) = call.Asa
name_of DeregisterAsa = call.Unasa
name_of (RegisterObjective name flags) = call.Objective
name_of (DeregisterObjective name) = call.Unobjective
name_of (Discover name kind loops timeout) = call.Discover
name_of (RequestNegotiate name value loops timeout dry peer) = call.Request
name_of (ListenNegotiate name) = call.Listen
name_of (StopListenNegotiate name) = call.Unlisten
name_of (NegotiateStep handle value) = call.Step
name_of (NegotiateWait handle millis) = call.Wait
name_of (EndNegotiate handle Accept) = call.Accept
name_of (EndNegotiate handle (Decline reason)) = call.Decline
name_of (SendInvalid handle detail) = call.Invalid
name_of (Poll handle) = call.Poll
name_of (Synchronize name loops timeout peer) = call.Synchronize
name_of (ListenSynchronize name value) = call.Offer
name_of (StopListenSynchronize name) = call.Unoffer
name_of (Flood name value ttl loops) = call.Flood
name_of (GetFlood name) = call.Floods
name_of (ExpireFlood name initiator) = call.Expire

-- a call's words are its first one and others
pub record Begun (c : Call) : Type 0 where
  pub rest : List (List ℕ)
  pub words : call_words c ≡ call_word (name_of c) ∷ rest

pub begun : (c : Call) → Begun c
begun (EndNegotiate handle Accept) = record { rest = _; words = refl }
begun (EndNegotiate handle (Decline None)) = record { rest = _; words = refl }
begun (EndNegotiate handle (Decline (Some reason))) = record { rest = _; words = refl }
begun _ = record { rest = _; words = refl }

-- a call with this first word
pub named : (c : Call) (n : CallName) (ws : List (List ℕ)) → call_word n ∷ ws ≡ call_words c → n ≡ name_of c
named c n ws e =
    let b = begun c
    in let first : call_word n ≡ call_word (name_of c) = cc
    in some_is n (name_of c) (sym (call_again n) ∙ ap call_of first ∙ call_again (name_of c))

-- behind its first word it is read as with it
pub behind : (n : CallName) (ws : List (List ℕ)) → call_at 1 (call_word n ∷ ws) ≡ called_at 1 n ws
unfolding call_at
behind n ws = rw (call_again n) refl

pub one_few : 1 ≤ 255
one_few = omega arith

pub called_only : (n : CallName) (ws : List (List ℕ)) (x : Call × List (List ℕ)) → called_at 1 n ws ≡ Ok x → Means (IsCall 1) call_words x.0 (call_word n ∷ ws)
called_only n ws x e = call_only 1 one_few (call_word n ∷ ws) x (behind n ws ∙ e)

pub called_found : (c : Call) → IsCall 1 c → called_at 1 (name_of c) ((begun c).rest) ≡ Ok (c, [])
called_found c h = sym (behind (name_of c) ((begun c).rest)) ∙ ap (call_at 1) (sym (begun c).words) ∙ call_found 1 one_few c h

-- ---- the calls that name a peer or an initiator have words of their own

abbrev pub is_own : CallName → Bool
is_own call.Request = true
is_own call.Synchronize = true
is_own call.Expire = true
is_own _ = false

-- every other call has the words of scripts
pub record IsPlain (c : Call) : Type 0 where
  pub words : control_call_words c ≡ call_words c
  pub from : IsCall 1 c → IsControlCall c
  pub to : IsControlCall c → IsCall 1 c

pub plain_call : (c : Call) → is_own (name_of c) ≡ false → IsPlain c
plain_call (RequestNegotiate name value loops timeout dry peer) e = absurd cc
plain_call (Synchronize name loops timeout peer) e = absurd cc
plain_call (ExpireFlood name initiator) e = absurd cc
plain_call _ e = record { words = refl; from = λ h. h; to = λ h. h }

-- the first words of the calls that may have nothing to tell yet
abbrev pub name_waits : CallName → Bool
name_waits call.Discover = true
name_waits call.Listen = true
name_waits call.Poll = true
name_waits _ = false

pub waits_by_name : (c : Call) → may_wait c ≡ name_waits (name_of c)
waits_by_name (EndNegotiate handle Accept) = refl
waits_by_name (EndNegotiate handle (Decline reason)) = refl
waits_by_name _ = refl

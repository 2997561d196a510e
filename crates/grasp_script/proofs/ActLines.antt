-- What a line can mean has one line, of its words.
use Rattle.std.proofs.Common.{◌≡◌, ℕ, ◌^◌, ◌<◌, ◌≤◌, Bool, true, false, List, [], ◌∷◌, Some, None, refl, sym, ap, subst, ◌∙◌, arith}
use Rattle.std.specs.List.{AllByRecursion}
use Rattle.std.specs.Prelude.{codes, decimal}
use Rattle.std.specs.Str.{IsUtf8}
use Rattle.grasp_types.specs.declared.address.Address.{Address}
use Rattle.grasp_types.specs.declared.address.Locator.{Locator}
use Rattle.grasp_types.specs.declared.call.Call.{Call}
use Rattle.grasp_types.specs.declared.call.Call.TheVariants.{RegisterAsa, DeregisterAsa, RegisterObjective, DeregisterObjective, Discover, RequestNegotiate, ListenNegotiate, StopListenNegotiate, NegotiateStep, NegotiateWait, EndNegotiate, SendInvalid, Poll, Synchronize, ListenSynchronize, StopListenSynchronize, Flood, GetFlood, ExpireFlood}
use Rattle.grasp_types.specs.declared.message.Verdict.TheVariants.{Accept, Decline}
use Rattle.grasp_types.specs.declared.session.Kind.{Kind}
use Rattle.grasp_types.specs.declared.session.Kind.TheVariants.{Negotiation, Synchronization}
use Rattle.grasp_text.specs.Line.{prefix_word}
use Rattle.grasp_text.specs.Words.{words_of, joined}
use Rattle.grasp_text.proofs.Splitting.{joined_again}
use Rattle.grasp_model_network.specs.Plans.{IsNode}
use Rattle.grasp_model_network.specs.declared.event.Event.TheVariants as event
use Rattle.grasp_script.specs.Acts.{side_word, held, act_words, IsAct}
use Rattle.grasp_script.specs.Calls.{kind_word, dry_word, peer_word, initiator_word, call_words, IsPeer, IsInitiator, IsCall}
use Rattle.grasp_script.specs.Laws.{EachActHasOneLine}
use Rattle.grasp_script.specs.declared.line.LineAct.{LineAct}
use Rattle.grasp_script.specs.declared.line.LineAct.TheVariants as act
use Rattle.grasp_script.proofs.WholeWords.{IsWord, words_again, utf8_again, spelled, number, value, text, maybe_value, prefix}
use Rattle.grasp_script.proofs.WordReaders.{peer_number, initiator_number}

abbrev pub AreWords : List (List ℕ) → Type 0
AreWords ws = AllByRecursion IsWord ws

kind : (k : Kind) → IsWord (kind_word k)
kind Negotiation = spelled (codes "neg") refl refl
kind Synchronization = spelled (codes "syn") refl refl

dry : (d : Bool) → IsWord (dry_word d)
dry true = spelled (codes "dry") refl refl
dry false = spelled (codes "wet") refl refl

side : (f : Bool) → IsWord (side_word f)
side true = spelled (codes "far") refl refl
side false = spelled (codes "near") refl refl

pub small : (n : ℕ) → n < 2 ^ 8 → IsWord (decimal n)
small n lt = number n (omega arith)

pub middle : (n : ℕ) → n < 2 ^ 32 → IsWord (decimal n)
middle n lt = number n (omega arith)

flags : (n : ℕ) → n ≤ 15 → IsWord (decimal n)
flags n le = number n (omega arith)

module _ (nodes : ℕ) (few : nodes ≤ 255) where
  pub node : (n : ℕ) → IsNode nodes n → IsWord (decimal n)
  node n is = let most : n ≤ nodes = is.most in number n (omega arith)

  peer : (l : Locator) → IsPeer nodes l → IsWord (peer_word l)
  peer l is = subst IsWord (sym (peer_number nodes few l is)) (node is.node is.is_node)

  initiator : (a : Address) → IsInitiator nodes a → IsWord (initiator_word a)
  initiator a is = subst IsWord (sym (initiator_number nodes few a is)) (node is.node is.is_node)

  pub call_whole : (c : Call) → IsCall nodes c → AreWords (call_words c)
  call_whole (RegisterAsa name) h = (spelled (codes "asa") refl refl, (text name h, tt))
  call_whole DeregisterAsa h = (spelled (codes "unasa") refl refl, tt)
  call_whole (RegisterObjective name f) h = (spelled (codes "objective") refl refl, (text name h.0, (flags f h.1, tt)))
  call_whole (DeregisterObjective name) h = (spelled (codes "unobjective") refl refl, (text name h, tt))
  call_whole (Discover name k loops timeout) h = (spelled (codes "discover") refl refl, (text name h.0, (kind k, (small loops h.1, (middle timeout h.2, tt)))))
  call_whole (RequestNegotiate name v loops timeout d p) h = (spelled (codes "request") refl refl, (text name h.0, (value v h.1, (small loops h.2, (middle timeout h.3, (dry d, (peer p h.4, tt)))))))
  call_whole (ListenNegotiate name) h = (spelled (codes "listen") refl refl, (text name h, tt))
  call_whole (StopListenNegotiate name) h = (spelled (codes "unlisten") refl refl, (text name h, tt))
  call_whole (NegotiateStep handle v) h = (spelled (codes "step") refl refl, (number handle.number h.0.number, (value v h.1, tt)))
  call_whole (NegotiateWait handle millis) h = (spelled (codes "wait") refl refl, (number handle.number h.0.number, (middle millis h.1, tt)))
  call_whole (SendInvalid handle detail) h = (spelled (codes "invalid") refl refl, (number handle.number h.0.number, (maybe_value detail h.1, tt)))
  call_whole (Poll handle) h = (spelled (codes "poll") refl refl, (number handle.number h.number, tt))
  call_whole (Synchronize name loops timeout p) h = (spelled (codes "synchronize") refl refl, (text name h.0, (small loops h.1, (middle timeout h.2, (peer p h.3, tt)))))
  call_whole (ListenSynchronize name v) h = (spelled (codes "offer") refl refl, (text name h.0, (value v h.1, tt)))
  call_whole (StopListenSynchronize name) h = (spelled (codes "unoffer") refl refl, (text name h, tt))
  call_whole (Flood name v ttl loops) h = (spelled (codes "flood") refl refl, (text name h.0, (value v h.1, (middle ttl h.2, (small loops h.3, tt)))))
  call_whole (GetFlood name) h = (spelled (codes "floods") refl refl, (text name h, tt))
  call_whole (ExpireFlood name a) h = (spelled (codes "expire") refl refl, (text name h.0, (initiator a h.1, tt)))
  call_whole (EndNegotiate handle Accept) h = (spelled (codes "accept") refl refl, (number handle.number h.0.number, tt))
  call_whole (EndNegotiate handle (Decline None)) h = (spelled (codes "decline") refl refl, (number handle.number h.0.number, tt))
  call_whole (EndNegotiate handle (Decline (Some reason))) h = (spelled (codes "decline") refl refl, (number handle.number h.0.number, (text reason h.1, tt)))

  held_whole : (hold : Bool) (ws : List (List ℕ)) → AreWords ws → AreWords (held hold ws)
  held_whole true ws h = (spelled (codes "hold") refl refl, h)
  held_whole false ws h = h

  act_whole : (a : LineAct) → IsAct nodes a → AreWords (act_words a)
  act_whole (act.State n) h = (spelled (codes "state") refl refl, (node n h, tt))
  act_whole (act.Event (event.Clock n millis)) h = (spelled (codes "clock") refl refl, (node n h.0, (number millis h.1, tt)))
  act_whole (act.Event (event.Want n length longest p)) h =
      let rising : length ≤ longest = h.1.rising in
      let most : longest ≤ 128 = h.1.most in
      (spelled (codes "want") refl refl, (node n h.0, (number length (omega arith), (number longest (omega arith), (node p h.2, tt)))))
  act_whole (act.Event (event.Return n p to)) h = (spelled (codes "return") refl refl, (node n h.0, (prefix p h.1, (node to h.2, tt))))
  act_whole (act.Event (event.Drain n max)) h = (spelled (codes "drain") refl refl, (node n h.0, (middle max h.1, tt)))
  act_whole (act.Event (event.Agent n hold)) h = held_whole hold (codes "agent" ∷ decimal n ∷ []) (spelled (codes "agent") refl refl, (node n h, tt))
  act_whole (act.Event (event.Api n asa c hold)) h = held_whole hold (codes "api" ∷ decimal n ∷ decimal asa ∷ call_words c) (spelled (codes "api") refl refl, (node n h.0, (middle asa h.1, call_whole c h.2)))
  act_whole (act.Event (event.Datagram index hold)) h = held_whole hold (codes "datagram" ∷ decimal index ∷ []) (spelled (codes "datagram") refl refl, (number index h, tt))
  act_whole (act.Event (event.Arrive stream hold)) h = held_whole hold (codes "arrive" ∷ decimal stream ∷ []) (spelled (codes "arrive") refl refl, (number stream h, tt))
  act_whole (act.Event (event.Bytes stream far count hold)) h = held_whole hold (codes "bytes" ∷ decimal stream ∷ side_word far ∷ decimal count ∷ []) (spelled (codes "bytes") refl refl, (number stream h.0, (side far, (number count h.1, tt))))
  act_whole (act.Event (event.Cut stream far hold)) h = held_whole hold (codes "cut" ∷ decimal stream ∷ side_word far ∷ []) (spelled (codes "cut") refl refl, (number stream h, (side far, tt)))

-- a line has a word
pub record Begun (ws : List (List ℕ)) : Type 0 where
  pub first : List ℕ
  pub rest : List (List ℕ)
  pub parts : ws ≡ first ∷ rest

held_begun : (hold : Bool) (w : List ℕ) (ws : List (List ℕ)) → Begun (held hold (w ∷ ws))
held_begun true w ws = record { first = codes "hold"; rest = w ∷ ws; parts = refl }
held_begun false w ws = record { first = w; rest = ws; parts = refl }

begun : (a : LineAct) → Begun (act_words a)
begun (act.State n) = record { first = codes "state"; rest = decimal n ∷ []; parts = refl }
begun (act.Event (event.Clock n millis)) = record { first = codes "clock"; rest = decimal n ∷ decimal millis ∷ []; parts = refl }
begun (act.Event (event.Want n length longest p)) = record { first = codes "want"; rest = decimal n ∷ decimal length ∷ decimal longest ∷ decimal p ∷ []; parts = refl }
begun (act.Event (event.Return n p to)) = record { first = codes "return"; rest = decimal n ∷ prefix_word p ∷ decimal to ∷ []; parts = refl }
begun (act.Event (event.Drain n max)) = record { first = codes "drain"; rest = decimal n ∷ decimal max ∷ []; parts = refl }
begun (act.Event (event.Agent n hold)) = held_begun hold (codes "agent") (decimal n ∷ [])
begun (act.Event (event.Api n asa c hold)) = held_begun hold (codes "api") (decimal n ∷ decimal asa ∷ call_words c)
begun (act.Event (event.Datagram index hold)) = held_begun hold (codes "datagram") (decimal index ∷ [])
begun (act.Event (event.Arrive stream hold)) = held_begun hold (codes "arrive") (decimal stream ∷ [])
begun (act.Event (event.Bytes stream far count hold)) = held_begun hold (codes "bytes") (decimal stream ∷ side_word far ∷ decimal count ∷ [])
begun (act.Event (event.Cut stream far hold)) = held_begun hold (codes "cut") (decimal stream ∷ side_word far ∷ [])

pub whole_line : (ws : List (List ℕ)) → Begun ws → AreWords ws → (words_of (joined ws) ≡ ws) × IsUtf8 (joined ws)
whole_line ws b h =
    let k : AreWords (b.first ∷ b.rest) = subst AreWords b.parts h in
    subst (λ (v : List (List ℕ)). (words_of (joined v) ≡ v) × IsUtf8 (joined v)) (sym b.parts) (words_again b.first b.rest k.0 k.1, utf8_again b.first b.rest k.0 k.1)

pub each_has_one : EachActHasOneLine
each_has_one nodes a few h =
    let w = whole_line (act_words a) (begun a) (act_whole nodes few a h) in
    (record { ranges = h; text = w.1; spelled = w.0 }, λ line is. sym (joined_again line) ∙ ap joined is.spelled)

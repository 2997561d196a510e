-- A visitor's call is read where its words are, and nowhere else.
use Rattle.std.proofs.Common.{◌≡◌, ℕ, Bool, false, List, [], ◌∷◌, ◌++◌, Ok, refl, sym, ap, subst, ◌∙◌}
use Rattle.grasp_types.specs.Address.{IsLocator}
use Rattle.std.specs.Prelude.{codes, decimal}
use Rattle.std.proofs.lemmas.List.{append-nil}
use Rattle.grasp_cbor.specs.DataItem.{DataItem}
use Rattle.grasp_types.specs.declared.address.Address.{Address}
use Rattle.grasp_types.specs.declared.address.Locator.{Locator}
use Rattle.grasp_types.specs.declared.call.Call.{Call}
use Rattle.grasp_types.specs.declared.call.Call.TheVariants.{RequestNegotiate, Synchronize, EndNegotiate, ExpireFlood}
use Rattle.grasp_types.specs.declared.message.Verdict.TheVariants.{Accept, Decline}
use Rattle.grasp_text.specs.Grammar.{locator_at}
use Rattle.grasp_text.specs.Line.{text_word, value_word, address_word, locator_words}
use Rattle.grasp_text.specs.Reading.{Parsed}
use Rattle.grasp_text.proofs.Readers.{texts_read, values_read, addresses_read, locators_read}
use Rattle.grasp_script.specs.Calls.{dry_word, call_words, IsCall}
use Rattle.grasp_script.specs.Grammar.{called_at}
use Rattle.grasp_script.specs.declared.names.CallName.{CallName}
use Rattle.grasp_script.specs.declared.names.CallName.TheVariants as call
use Rattle.grasp_script.proofs.Fields.{taken, ended, after, Means}
use Rattle.grasp_script.proofs.WordReaders.{read8, read32, small8, small32, within8, within32, read_dry, call_word}
use Rattle.grasp_control.specs.Grammar.{request_at, synchronize_at, expire_at, control_called_at}
use Rattle.grasp_control.specs.Requests.{control_call_words, IsControlCall}
use Rattle.grasp_control.proofs.CallNames.{name_of, begun, named, called_only, called_found, is_own, plain_call}
use Rattle.grasp_control.proofs.SomeWords.{taken_words, at_end}

abbrev pub Named : List ℕ → Call → List (List ℕ) → Type 0
Named word c ws = Means IsControlCall control_call_words c (word ∷ ws)

request_only : (ws : List (List ℕ)) (x : Call × List (List ℕ)) → request_at ws ≡ Ok x → Named (codes "request") x.0 ws
unfolding request_at
request_only ws x e =
    let a = taken texts_read _ ws x e
    in let b = taken values_read _ a.rest x a.more
    in let c = taken read8 _ b.rest x b.more
    in let d = taken read32 _ c.rest x c.more
    in let f = taken read_dry _ d.rest x d.more
    in let l = taken_words locators_read _ f.rest x f.more
    in let z = ended (RequestNegotiate a.first b.first c.first d.first f.first l.first) l.rest x l.more
    in subst (λ y. Named (codes "request") y ws) (sym z.value) (record {
      ranges = (a.is, b.is, small8 c.is, small32 d.is, l.is);
      spelled = ap (λ t. codes "request" ∷ t)
          (after a.parts (after b.parts (after c.parts (after d.parts (after f.parts (at_end (locator_words l.first) l.parts z.words))))));
    })

synchronize_only : (ws : List (List ℕ)) (x : Call × List (List ℕ)) → synchronize_at ws ≡ Ok x → Named (codes "synchronize") x.0 ws
unfolding synchronize_at
synchronize_only ws x e =
    let a = taken texts_read _ ws x e
    in let c = taken read8 _ a.rest x a.more
    in let d = taken read32 _ c.rest x c.more
    in let l = taken_words locators_read _ d.rest x d.more
    in let z = ended (Synchronize a.first c.first d.first l.first) l.rest x l.more
    in subst (λ y. Named (codes "synchronize") y ws) (sym z.value) (record {
      ranges = (a.is, small8 c.is, small32 d.is, l.is);
      spelled = ap (λ t. codes "synchronize" ∷ t) (after a.parts (after c.parts (after d.parts (at_end (locator_words l.first) l.parts z.words))));
    })

expire_only : (ws : List (List ℕ)) (x : Call × List (List ℕ)) → expire_at ws ≡ Ok x → Named (codes "expire") x.0 ws
unfolding expire_at
expire_only ws x e =
    let a = taken texts_read _ ws x e
    in let b = taken addresses_read _ a.rest x a.more
    in let z = ended (ExpireFlood a.first b.first) b.rest x b.more
    in subst (λ y. Named (codes "expire") y ws) (sym z.value) (record {
      ranges = (a.is, b.is);
      spelled = ap (λ t. codes "expire" ∷ t) (after a.parts (after b.parts z.words));
    })

-- a call with the words of scripts
pub plain_only : (n : CallName) → is_own n ≡ false → (ws : List (List ℕ)) (x : Call × List (List ℕ)) → called_at 1 n ws ≡ Ok x → Named (call_word n) x.0 ws
plain_only n own ws x e =
    let m = called_only n ws x e
    in let p = plain_call x.0 (ap is_own (sym (named x.0 n ws m.spelled)) ∙ own)
    in record { ranges = p.from m.ranges; spelled = m.spelled ∙ sym p.words }

pub call_only : (n : CallName) (ws : List (List ℕ)) (x : Call × List (List ℕ)) → control_called_at n ws ≡ Ok x → Named (call_word n) x.0 ws
call_only call.Request ws x e = request_only ws x e
call_only call.Synchronize ws x e = synchronize_only ws x e
call_only call.Expire ws x e = expire_only ws x e
call_only n ws x e = plain_only n refl ws x e

-- ---- found

-- a locator's words at the end of a line
pub locator_found : (l : Locator) → IsLocator l → locator_at (locator_words l) ≡ Ok (l, [])
locator_found l h = ap locator_at (sym (append-nil (locator_words l))) ∙ locators_read.found l [] h

request_found : (name : List ℕ) (value : DataItem) (loops timeout : ℕ) (dry : Bool) (peer : Locator) → IsControlCall (RequestNegotiate name value loops timeout dry peer)
    → request_at (text_word name ∷ value_word value ∷ decimal loops ∷ decimal timeout ∷ dry_word dry ∷ locator_words peer)
    ≡ Ok (RequestNegotiate name value loops timeout dry peer, [])
unfolding request_at
request_found name value loops timeout dry peer h =
    rw (
      texts_read.found name h.0,
      values_read.found value h.1,
      read8.found loops (within8 h.2),
      read32.found timeout (within32 h.3),
      read_dry.found dry tt,
      locator_found peer h.4,
    ) refl

synchronize_found : (name : List ℕ) (loops timeout : ℕ) (peer : Locator) → IsControlCall (Synchronize name loops timeout peer)
    → synchronize_at (text_word name ∷ decimal loops ∷ decimal timeout ∷ locator_words peer) ≡ Ok (Synchronize name loops timeout peer, [])
unfolding synchronize_at
synchronize_found name loops timeout peer h =
    rw (texts_read.found name h.0, read8.found loops (within8 h.1), read32.found timeout (within32 h.2), locator_found peer h.3) refl

expire_found : (name : List ℕ) (initiator : Address) → IsControlCall (ExpireFlood name initiator)
    → expire_at (text_word name ∷ address_word initiator ∷ []) ≡ Ok (ExpireFlood name initiator, [])
unfolding expire_at
expire_found name initiator h = rw (texts_read.found name h.0, addresses_read.found initiator h.1) refl

-- a call is its first word and what stands behind it
pub record CallAgain (c : Call) : Type 0 where
  pub rest : List (List ℕ)
  pub words : control_call_words c ≡ call_word (name_of c) ∷ rest
  pub read : control_called_at (name_of c) rest ≡ Ok (c, [])

-- a name that isn't one of those with words of their own
plainly : (n : CallName) → is_own n ≡ false → (ws : List (List ℕ)) → control_called_at n ws ≡ called_at 1 n ws
plainly call.Request own ws = absurd cc
plainly call.Synchronize own ws = absurd cc
plainly call.Expire own ws = absurd cc
plainly _ own ws = refl

pub plain_found : (c : Call) → is_own (name_of c) ≡ false → IsControlCall c → CallAgain c
plain_found c own h =
    let p = plain_call c own
    in record {
      rest = (begun c).rest;
      words = p.words ∙ (begun c).words;
      read = plainly (name_of c) own ((begun c).rest) ∙ called_found c (p.to h);
    }

pub call_found : (c : Call) → IsControlCall c → CallAgain c
call_found (RequestNegotiate name value loops timeout dry peer) h = record { rest = _; words = refl; read = request_found name value loops timeout dry peer h }
call_found (Synchronize name loops timeout peer) h = record { rest = _; words = refl; read = synchronize_found name loops timeout peer h }
call_found (ExpireFlood name initiator) h = record { rest = _; words = refl; read = expire_found name initiator h }
call_found (EndNegotiate handle Accept) h = plain_found (EndNegotiate handle Accept) refl h
call_found (EndNegotiate handle (Decline reason)) h = plain_found (EndNegotiate handle (Decline reason)) refl h
call_found c h = plain_found c refl h

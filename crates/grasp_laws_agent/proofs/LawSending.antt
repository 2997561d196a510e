-- What an agent of PrefixManager sends is short.
use Rattle.std.proofs.Common.{◌≡◌, ◌⊎◌, inl, inr, ℕ, zero, suc, ◌+◌, ◌^◌, ◌<◌, ◌≤◌, ◌&&◌, nat_lt, Bool, true, false, List, [], ◌∷◌, ◌++◌, length, length-append, Option, Some, None, IfSome, refl, sym, ap, subst, arith}
use Rattle.std.specs.Prelude.{codes}
use Rattle.std.specs.Int.{to_be_bytes, w128}
use Rattle.std.proofs.lemmas.Str.{IsUtf8-from_ascii}
use Rattle.std.proofs.lemmas.Str.Ascii.{IsAscii-nil}
use Rattle.std.specs.Str.{IsAscii}
use Rattle.grasp_cbor.proofs.Facts.Numbers.{all_bytes}
use Rattle.grasp_cbor.specs.DataItem.{unsigned, byte_string, simple_value, array_of}
use Rattle.grasp_cbor.specs.Head.{HeadSize, direct, one_byte, sized_head, shortest_size, shortest_head}
use Rattle.grasp_cbor.specs.Shortest.{shortest}
use Rattle.grasp_types.specs.declared.call.Call.{Call}
use Rattle.grasp_pool.proofs.Lists.{lt_tells}
use Rattle.grasp_agent.specs.Calls.{agent_name, objective_name, reason_text, act_call, duty_call, opening_call, next_call}
use Rattle.grasp_agent.specs.Kept.{ActStands, IsInRange, IsKept}
use Rattle.grasp_laws_agent.proofs.LawNext.{next_calls_are}
use Rattle.grasp_laws_agent.specs.Next.{NextIs, opens, acts, requests, hands_back, does}
use Rattle.grasp_laws_agent.specs.Sending.{IsShortText, IsShortValue, IsShortCall, LengthsAreSent, PrefixesAreSent, ReturnsAreSent, CallsAreShort}
use Rattle.grasp_agent.specs.States.{AgentState, want_length}
use Rattle.grasp_agent.specs.Values.{length_value}
use Rattle.grasp_agent.specs.declared.act.Act.{Act}
use Rattle.grasp_agent.specs.declared.act.Act.TheVariants as act
use Rattle.grasp_agent.specs.declared.decision.Reason.{Reason}
use Rattle.grasp_agent.specs.declared.decision.Reason.TheVariants.{BadValue, NoLoops, NoPrefix, TooSmall, NotTaken}
use Rattle.grasp_agent.specs.declared.duty.Duty.{Duty}
use Rattle.grasp_agent.specs.declared.duty.Duty.TheVariants as duty
use Rattle.grasp_agent.specs.declared.stage.Stage.{Stage}
use Rattle.grasp_agent.specs.declared.stage.Stage.TheVariants as stage
use Rattle.grasp_agent.specs.declared.want.Want.{Want}
use Rattle.grasp_agent.proofs.KeepForms.{act_reserved}
use Rattle.grasp_agent.proofs.Keeping.{act_stands}
use Rattle.grasp_agent.proofs.Returning.{return_reserved}
use Rattle.grasp_agent.proofs.Reading.{one_again, prefix_again, return_again}

-- ---- values

-- the size of the head of a small number
small_size : (n : ℕ) → n < 2 ^ 8 → (shortest_size n ≡ direct) ⊎ (shortest_size n ≡ one_byte)
unfolding shortest_size
small_size n small = elim (lt_tells n 24) [
  | inl x ↦ inl (rw x.0 refl)
  | inr x ↦ elim (lt_tells n (2 ^ 8)) [ inl y ↦ inr (rw (x.0, y.0) refl) | inr y ↦ let big : 2 ^ 8 ≤ n = y.1 in absurd (omega arith) ]
]

-- the head of a small number
small_head : (major n : ℕ) → n < 2 ^ 8 → length (shortest_head major n) ≤ 2
unfolding shortest_head
small_head major n small = elim (small_size n small) [
  | inl e ↦ subst (λ (z : HeadSize). length (sized_head z major n) ≤ 2) (sym e) (omega arith)
  | inr e ↦ subst (λ (z : HeadSize). length (sized_head z major n) ≤ 2) (sym e) (omega arith)
]

-- a length alone
length_short : (n : ℕ) → n ≤ 128 → IsShortValue (length_value n)
length_short n most =
    let a : length (shortest (length_value n)) ≡ length (shortest_head 4 1) + length (shortest_head 0 n ++ [])
    = length-append (shortest_head 4 1) (shortest_head 0 n ++ [])
    in let b : length (shortest_head 0 n ++ []) ≡ length (shortest_head 0 n) + 0 = length-append (shortest_head 0 n) []
    in let x : length (shortest_head 4 1) ≤ 2 = small_head 4 1 (omega arith)
    in let y : length (shortest_head 0 n) ≤ 2 = small_head 0 n (omega arith)
    in record { value = record { within = omega arith; encodable = (omega arith, (omega arith, tt)) }; short = omega arith }

-- the bytes of a length and an address, and of at most one byte more
parts_short : (k n a : ℕ) (more : List ℕ) → k < 2 ^ 8 → n ≤ 128 → length more ≤ 1
    → length (shortest_head 4 k ++ (shortest_head 0 n ++ ((shortest_head 2 16 ++ to_be_bytes w128 a) ++ more))) ≤ 32
parts_short k n a more few most one =
    let address : List ℕ = shortest_head 2 16 ++ to_be_bytes w128 a
    in let e : length (shortest_head 4 k ++ (shortest_head 0 n ++ (address ++ more))) ≡ length (shortest_head 4 k) + length (shortest_head 0 n ++ (address ++ more))
    = length-append (shortest_head 4 k) (shortest_head 0 n ++ (address ++ more))
    in let f : length (shortest_head 0 n ++ (address ++ more)) ≡ length (shortest_head 0 n) + length (address ++ more)
    = length-append (shortest_head 0 n) (address ++ more)
    in let g : length (address ++ more) ≡ length address + length more = length-append address more
    in let h : length address ≡ length (shortest_head 2 16) + 16 = length-append (shortest_head 2 16) (to_be_bytes w128 a)
    in let x : length (shortest_head 4 k) ≤ 2 = small_head 4 k few
    in let y : length (shortest_head 0 n) ≤ 2 = small_head 0 n (omega arith)
    in let z : length (shortest_head 2 16) ≤ 2 = small_head 2 16 (omega arith)
    in omega arith

-- a length and an address
prefix_short : (n a : ℕ) → n ≤ 128 → IsShortValue (array_of (unsigned n ∷ byte_string (to_be_bytes w128 a) ∷ []))
prefix_short n a most = record {
  value = record { within = omega arith; encodable = (omega arith, (omega arith, ((omega arith, all_bytes 16 a), tt))) };
  short = parts_short 2 n a [] (omega arith) most (omega arith);
}

-- a length, an address and true
return_short : (n a : ℕ) → n ≤ 128 → IsShortValue (array_of (unsigned n ∷ byte_string (to_be_bytes w128 a) ∷ simple_value 21 ∷ []))
return_short n a most = record {
  value = record { within = omega arith; encodable = (omega arith, (omega arith, ((omega arith, all_bytes 16 a), ((inl (omega arith), omega arith), tt)))) };
  short = parts_short 3 n a (245 ∷ []) (omega arith) most (omega arith);
}

pub lengths_are_sent : LengthsAreSent
lengths_are_sent n least most = (length_short n most, one_again n least most)

pub prefixes_are_sent : PrefixesAreSent
prefixes_are_sent p valid = (prefix_short p.length p.address valid.most, prefix_again p valid)

pub returns_are_sent : ReturnsAreSent
returns_are_sent p valid = (return_short p.length p.address valid.most, return_again p valid)

-- ---- texts

-- each is ASCII
abbrev all_small : List ℕ → Bool
all_small [] = true
all_small (b ∷ bs) = nat_lt b 128 && all_small bs

small_ascii : (bs : List ℕ) → all_small bs ≡ true → IsAscii bs
small_ascii [] e i = IsAscii-nil i
small_ascii (b ∷ bs) e zero = elim (lt_tells b 128) [ inl x ↦ x.1 | inr x ↦ absurd (first (nat_lt b 128) (all_small bs) x.0 e) ]
  where
    first : (a c : Bool) → a ≡ false → (a && c) ≡ true → ⊥
    first true c f g = absurd (cc)
    first false c f g = absurd (cc)
small_ascii (b ∷ bs) e (suc i) = small_ascii bs (second (nat_lt b 128) (all_small bs) e) i
  where
    second : (a c : Bool) → (a && c) ≡ true → c ≡ true
    second true c g = g
    second false c g = absurd (cc)

ascii_short : (bs : List ℕ) → all_small bs ≡ true → length bs ≤ 16 → IsShortText bs
ascii_short bs e short = record { utf8 = IsUtf8-from_ascii bs (small_ascii bs e); short = short }

name_short : IsShortText objective_name
unfolding objective_name
name_short = ascii_short (codes "PrefixManager") refl (omega arith)

agent_short : IsShortText agent_name
unfolding agent_name
agent_short = ascii_short (codes "prefix agent") refl (omega arith)

reason_short : (reason : Reason) → IsShortText (reason_text reason)
reason_short BadValue = ascii_short (codes "bad-value") refl (omega arith)
reason_short NoLoops = ascii_short (codes "no-loops") refl (omega arith)
reason_short NoPrefix = ascii_short (codes "no-prefix") refl (omega arith)
reason_short TooSmall = ascii_short (codes "too-small") refl (omega arith)
reason_short NotTaken = ascii_short (codes "not-taken") refl (omega arith)

-- ---- calls

duty_short : (d : Duty) → IsShortCall (duty_call d)
duty_short duty.Listen = name_short
duty_short (duty.Want h) = tt
duty_short (duty.Return h) = tt
duty_short (duty.Give place h) = tt

opening_short : (st : Stage) → IsShortCall (opening_call st)
opening_short stage.Registering = agent_short
opening_short _ = name_short

-- the length of a want is in range
want_most : (w : Option Want) (n : ℕ) → IfSome w (λ x. IsInRange x) → want_length w ≡ Some n → n ≤ 128
want_most None n range e = absurd (cc)
want_most (Some w) n range e =
    let same : w.length ≡ n = cc
    in let a : w.length ≤ w.longest = range.1
    in let b : w.longest ≤ 128 = range.2
    in omega arith

act_short : (s : AgentState) (a : Act) → IsKept s → s.act ≡ Some a → IsShortCall (act_call a)
act_short s (act.Offer place h p) k e = prefix_short p.length p.address (k.pool.valid p (inl (act_reserved s place h p e k))).most
act_short s (act.Counter h n) k e =
    let stands : ActStands s (act.Counter h n) = act_stands s (act.Counter h n) e k in length_short n (want_most s.want n k.want stands.1)
act_short s (act.Accept h p) k e = tt
act_short s (act.Decline h reason) k e = reason_short reason

next_short : (s : AgentState) → IsKept s → (c : Call) → NextIs s c → IsShortCall c
next_short s k _ (opens shut) = opening_short s.stage
next_short s k _ (acts a serves e) = act_short s a k e
next_short s k _ (requests w next e none) = (name_short, length_short w.length (want_most s.want w.length k.want (ap want_length e)))
next_short s k _ (hands_back r next e none) =
    (name_short, return_short r.prefix.length r.prefix.address (k.pool.valid r.prefix (inl (return_reserved s r e k))).most)
next_short s k _ (does d next is) = duty_short d

pub calls_are_short : CallsAreShort
calls_are_short s k = next_short s k (next_call s) (next_calls_are s)

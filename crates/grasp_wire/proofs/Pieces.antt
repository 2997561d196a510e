-- Whatever pieces a stream comes in, its messages are given in order.
use Rattle.std.proofs.Common.{◌≡◌, ℕ, List, [], ◌∷◌, ◌++◌, append_assoc, append-nil, Option, Some, None, Result, Ok, Err, refl, sym, ap, subst, ◌∙◌}
use Rattle.grasp_cbor.specs.Bytes.{AllBytes}
use Rattle.grasp_cbor.proofs.HeadBytes.{AllBytes-append}
use Rattle.grasp_types.specs.declared.message.Message.{Message}
use Rattle.grasp_wire.specs.declared.fault.CutFault.{CutFault}
use Rattle.grasp_wire.specs.declared.fault.CutFault.TheVariants.{Malformed, NotText, TooDeep, TooLong, NotMessage, OutOfMemory}
use Rattle.grasp_wire.specs.Chunks.{CutCall, feeds, answers, AreCutCalls, fed_in, given_in, answered, IsLastAnswer, AnyPiecesBegin, AnyPiecesGiveAll}
use Rattle.grasp_wire.specs.Cutter.{Past, no_past, after_feed, after_next, fault_after, lasting, BeginsWith, HasFault, Finds, AnswersNext}
use Rattle.grasp_wire.specs.Stream.{Splits}
use Rattle.grasp_wire.proofs.Dividing.{one_division, all_given_at_none}
use Rattle.grasp_wire.proofs.Joins.{joined_first}
use Rattle.grasp_wire.proofs.Nexts.{lasts_so}
use Rattle.grasp_wire.proofs.Stays.{fault_stays}

-- what was given comes first, and is all where a fault is known
abbrev Follows : Option CutFault → ℕ → Past → Type 0
Follows None limit past = BeginsWith past.fed limit past.given
Follows (Some fault) limit past = HasFault limit past fault

fed_follows : (limit : ℕ) (past : Past) (piece : List ℕ) (f : Option CutFault) → AllBytes (past.fed ++ piece) → Follows f limit past → Follows f limit (after_feed past piece)
fed_follows limit past piece None bytes h = record { front = h.front; rest = h.rest ++ piece; forms = h.forms; parts = ap (λ x. x ++ piece) h.parts ∙ append_assoc h.front h.rest piece }
fed_follows limit past piece (Some fault) bytes h = fault_stays limit past piece fault bytes h

-- the fault is kept
known : (limit : ℕ) (past : Past) (f : Option CutFault) (fault : CutFault) → f ≡ Some fault → HasFault limit past fault → Follows f limit (record { fed = past.fed; given = past.given; fault = f })
known limit past f fault e h =
    let after : Past = record { fed = past.fed; given = past.given; fault = f } in
    let k : HasFault limit after fault = record { front = h.front; rest = h.rest; kind = h.kind; parts = h.parts; divides = h.divides; fault_is = h.fault_is } in
    subst (λ x. Follows x limit after) (sym e) k

faulted : (limit : ℕ) (past : Past) (fault : CutFault) → HasFault limit past fault → Follows (after_next past (Err fault)).fault limit (after_next past (Err fault))
faulted limit past fault h = known limit past (fault_after past.fault (lasting fault)) fault (ap (fault_after past.fault) (lasts_so limit past fault h)) h

found_follows : (limit : ℕ) (past : Past) (r : Result (Option Message) CutFault) → None ≡ past.fault → Follows None limit past → Finds limit past r → Follows (after_next past r).fault limit (after_next past r)
found_follows limit past (Ok (Some m)) e h a = subst (λ x. Follows x limit (after_next past (Ok (Some m)))) e a
found_follows limit past (Ok None) e h a = subst (λ x. Follows x limit past) e h
found_follows limit past (Err OutOfMemory) e h a = subst (λ x. Follows x limit past) e h
found_follows limit past (Err (Malformed at)) e h a = faulted limit past (Malformed at) a
found_follows limit past (Err (NotText at)) e h a = faulted limit past (NotText at) a
found_follows limit past (Err (TooDeep at)) e h a = faulted limit past (TooDeep at) a
found_follows limit past (Err (TooLong at)) e h a = faulted limit past (TooLong at) a
found_follows limit past (Err (NotMessage at)) e h a = faulted limit past (NotMessage at) a

answer_follows : (limit : ℕ) (past : Past) (f : Option CutFault) (r : Result (Option Message) CutFault) → f ≡ past.fault → Follows f limit past → AnswersNext limit past f r → Follows (after_next past r).fault limit (after_next past r)
answer_follows limit past None r e h a = found_follows limit past r e h a
answer_follows limit past (Some fault) r e h a = subst (λ x. Follows (after_next past x).fault limit (after_next past x)) (sym a) (faulted limit past fault h)

fed_same : (past : Past) (r : Result (Option Message) CutFault) → (after_next past r).fed ≡ past.fed
fed_same past (Ok (Some m)) = refl
fed_same past _ = refl

given_more : (past : Past) (r : Result (Option Message) CutFault) → (after_next past r).given ≡ past.given ++ answered r
given_more past (Ok (Some m)) = refl
given_more past (Ok None) = sym (append-nil past.given)
given_more past (Err fault) = sym (append-nil past.given)

-- after these calls
abbrev after_calls : Past → List CutCall → Past
after_calls past [] = past
after_calls past (feeds piece ∷ calls) = after_calls (after_feed past piece) calls
after_calls past (answers r ∷ calls) = after_calls (after_next past r) calls

fed_after : (past : Past) (calls : List CutCall) → (after_calls past calls).fed ≡ past.fed ++ fed_in calls
fed_after past [] = sym (append-nil past.fed)
fed_after past (feeds piece ∷ calls) = fed_after (after_feed past piece) calls ∙ append_assoc past.fed piece (fed_in calls)
fed_after past (answers r ∷ calls) = fed_after (after_next past r) calls ∙ ap (λ x. x ++ fed_in calls) (fed_same past r)

given_after : (past : Past) (calls : List CutCall) → (after_calls past calls).given ≡ past.given ++ given_in calls
given_after past [] = sym (append-nil past.given)
given_after past (feeds piece ∷ calls) = given_after (after_feed past piece) calls
given_after past (answers r ∷ calls) = given_after (after_next past r) calls ∙ ap (λ x. x ++ given_in calls) (given_more past r) ∙ append_assoc past.given (answered r) (given_in calls)

follows_after : (limit : ℕ) (past : Past) (calls : List CutCall) → AllBytes past.fed → Follows past.fault limit past → AreCutCalls limit past calls → Follows (after_calls past calls).fault limit (after_calls past calls)
follows_after limit past [] bytes h c = h
follows_after limit past (feeds piece ∷ calls) bytes h c =
    let all : AllBytes (past.fed ++ piece) = AllBytes-append past.fed piece bytes c.0 in
    follows_after limit (after_feed past piece) calls all (fed_follows limit past piece past.fault all h) c.1
follows_after limit past (answers r ∷ calls) bytes h c =
    follows_after limit (after_next past r) calls (subst AllBytes (sym (fed_same past r)) bytes) (answer_follows limit past past.fault r refl h c.0) c.1

nothing_given : (limit : ℕ) → Follows None limit no_past
nothing_given limit = record { front = []; rest = []; forms = refl; parts = refl }

follows : (limit : ℕ) (calls : List CutCall) → AreCutCalls limit no_past calls → Follows (after_calls no_past calls).fault limit (after_calls no_past calls)
follows limit calls c = follows_after limit no_past calls tt (nothing_given limit) c

-- a division of what was fed begins with what was given
begun : (limit : ℕ) (past : Past) (f : Option CutFault) (messages : List Message) (rest : List ℕ) → Follows f limit past → Splits past.fed limit messages rest → (others : List Message) × (messages ≡ past.given ++ others)
begun limit past None messages rest h s =
    let j = joined_first past.given messages h.front s.front h.rest rest limit h.forms s.forms (sym h.parts ∙ s.parts) s.no_more in
    (j.more, j.all)
begun limit past (Some fault) messages rest h s = ([], (one_division past.fed limit messages past.given rest h.rest s h.divides.splits).0 ∙ sym (append-nil past.given))

pub any_pieces_begin : AnyPiecesBegin
any_pieces_begin limit calls messages rest c s =
    let p : Past = after_calls no_past calls in
    let b = begun limit p p.fault messages rest (follows limit calls c) (subst (λ x. Splits x limit messages rest) (sym (fed_after no_past calls)) s) in
    (b.0, b.1 ∙ ap (λ x. x ++ b.0) (given_after no_past calls))

-- the calls before the last, and its answer
last_call : (limit : ℕ) (past : Past) (calls : List CutCall) (last : Result (Option Message) CutFault) → AreCutCalls limit past (calls ++ answers last ∷ [])
    → AreCutCalls limit past calls × AnswersNext limit (after_calls past calls) (after_calls past calls).fault last
last_call limit past [] last c = (tt, c.0)
last_call limit past (feeds piece ∷ calls) last c = let l = last_call limit (after_feed past piece) calls last c.1 in ((c.0, l.0), l.1)
last_call limit past (answers r ∷ calls) last c = let l = last_call limit (after_next past r) calls last c.1 in ((c.0, l.0), l.1)

all_at_fault : (limit : ℕ) (past : Past) (fault : CutFault) (messages : List Message) (rest : List ℕ) → HasFault limit past fault → Splits past.fed limit messages rest → messages ≡ past.given
all_at_fault limit past fault messages rest h s = (one_division past.fed limit messages past.given rest h.rest s h.divides.splits).0

all_found : (limit : ℕ) (past : Past) (last : Result (Option Message) CutFault) (messages : List Message) (rest : List ℕ) → Finds limit past last → IsLastAnswer last → Splits past.fed limit messages rest → messages ≡ past.given
all_found limit past (Ok (Some m)) messages rest a l s = absurd l
all_found limit past (Ok None) messages rest a l s = all_given_at_none limit past messages rest a s
all_found limit past (Err OutOfMemory) messages rest a l s = absurd (cc)
all_found limit past (Err (Malformed at)) messages rest a l s = all_at_fault limit past (Malformed at) messages rest a s
all_found limit past (Err (NotText at)) messages rest a l s = all_at_fault limit past (NotText at) messages rest a s
all_found limit past (Err (TooDeep at)) messages rest a l s = all_at_fault limit past (TooDeep at) messages rest a s
all_found limit past (Err (TooLong at)) messages rest a l s = all_at_fault limit past (TooLong at) messages rest a s
all_found limit past (Err (NotMessage at)) messages rest a l s = all_at_fault limit past (NotMessage at) messages rest a s

all_given : (limit : ℕ) (past : Past) (f : Option CutFault) (last : Result (Option Message) CutFault) (messages : List Message) (rest : List ℕ) → Follows f limit past → AnswersNext limit past f last → IsLastAnswer last
    → Splits past.fed limit messages rest → messages ≡ past.given
all_given limit past None last messages rest h a l s = all_found limit past last messages rest a l s
all_given limit past (Some fault) last messages rest h a l s = all_at_fault limit past fault messages rest h s

pub any_pieces_give_all : AnyPiecesGiveAll
any_pieces_give_all limit calls last messages rest c l s =
    let p : Past = after_calls no_past calls in
    let k = last_call limit no_past calls last c in
    all_given limit p p.fault last messages rest (follows limit calls k.0) k.1 l (subst (λ x. Splits x limit messages rest) (sym (fed_after no_past calls)) s) ∙ given_after no_past calls

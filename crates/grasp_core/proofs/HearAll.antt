-- How the messages of a stream are heard, one after the other.
use Rattle.std.proofs.Common.{◌≡◌, ◌≢◌, ℕ, true, false, List, [], ◌∷◌, ◌++◌, Option, None, Some, Result, Ok, Err, refl, sym, ap, ◌∙◌, append_assoc, append-nil, subst}
use Rattle.std.proofs.lemmas.List.{append_cancel_left}
use Rattle.grasp_cbor.proofs.HeadBytes.{AllBytes-back}
use Rattle.grasp_cbor.specs.Bytes.{AllBytes}
use Rattle.grasp_types.specs.declared.message.Message.{Message}
use Rattle.grasp_wire.proofs.Dividing.{given_come, one_division, one_kind}
use Rattle.grasp_wire.specs.Cutter.{Past, after_next, AnswersNext, Finds, HasFault, Waits}
use Rattle.grasp_wire.specs.Reads.{fault_of}
use Rattle.grasp_wire.specs.Stands.{cut_limit}
use Rattle.grasp_wire.specs.Stands as cutter
use Rattle.grasp_wire.specs.Stream.{IsRest, Splits, Divides, RestKind, waiting}
use Rattle.grasp_wire.specs.declared.cutter.Cutter.{Cutter}
use Rattle.grasp_wire.specs.declared.fault.CutFault.{CutFault}
use Rattle.grasp_wire.specs.declared.fault.CutFault.TheVariants.{OutOfMemory}
use Rattle.grasp_model_node.specs.Bytes.{hear_on, hear_all, hear_fault, hear_rest}
use Rattle.grasp_core.specs.Feeding.{Feeding, Hears, HasHeard, StaysOpen, IsShut, HeardSome, after_some, after_all, having_given}
use Rattle.grasp_model_node.specs.Hear.{Heard, stays, shuts, hear, after_refusal}
use Rattle.grasp_model_node.specs.Node.{NodeState}
use Rattle.grasp_core.specs.Stands.{CutsOpen, NodeStands}
use Rattle.grasp_core.specs.declared.node_core.NodeCore.{NodeCore}

-- ---- the fold

hear_all-append : (stream : ℕ) (a b : List Message) (x : Heard) → hear_all stream (a ++ b) x ≡ hear_all stream b (hear_all stream a x)
unfolding hear_all
hear_all-append stream [] b x = refl
hear_all-append stream (m ∷ a) b x = hear_all-append stream a b (hear_on stream x m)

hear_all-one : (stream : ℕ) (a : List Message) (m : Message) (x : Heard) → hear_all stream (a ++ m ∷ []) x ≡ hear_on stream (hear_all stream a x) m
unfolding hear_all
hear_all-one stream a m x = hear_all-append stream a (m ∷ []) x

hear_on-open : (stream : ℕ) (x : Heard) (m : Message) → x.is_open ≡ true → hear_on stream x m ≡ hear x.node stream m
hear_on-open stream x m e = rw e refl

hear_on-shut : (stream : ℕ) (x : Heard) (m : Message) → x.is_open ≡ false → hear_on stream x m ≡ x
hear_on-shut stream x m e = rw e refl

hear_all-shut : (stream : ℕ) (a : List Message) (x : Heard) → x.is_open ≡ false → hear_all stream a x ≡ x
unfolding hear_all
hear_all-shut stream [] x e = refl
hear_all-shut stream (m ∷ a) x e = ap (hear_all stream a) (hear_on-shut stream x m e) ∙ hear_all-shut stream a x e

fault-shut : (stream : ℕ) (x : Heard) → x.is_open ≡ false → hear_fault stream x ≡ x
fault-shut stream x e = rw e refl

fault-open : (stream : ℕ) (x : Heard) → x.is_open ≡ true → hear_fault stream x ≡ shuts (after_refusal x.node stream)
fault-open stream x e = rw e refl

rest-shut : (stream : ℕ) (k : RestKind) (x : Heard) → x.is_open ≡ false → hear_rest stream k x ≡ x
rest-shut stream waiting x e = refl
rest-shut stream _ x e = fault-shut stream x e

rest-fault : (stream : ℕ) (k : RestKind) (x : Heard) → k ≢ waiting → hear_rest stream k x ≡ hear_fault stream x
rest-fault stream waiting x n = absurd (n refl)
rest-fault stream _ x n = refl

-- ---- before the first

pub none_heard : (stream : ℕ) (core : NodeCore) (c : Cutter) (f : Feeding) → Hears core c f → HasHeard stream f core c
unfolding hear_all
none_heard stream core c f x = record {
  some = [];
  others = f.added.messages;
  parts = refl;
  opens = refl;
  stands = x.stands;
  cuts = subst (λ (g : List Message). CutsOpen f.node.plan.limit c (record { fed = f.past.fed; given = g; fault = f.past.fault })) (sym (append-nil f.past.given)) x.cuts;
  divides = x.divides;
}

-- ---- the next message

-- what a cutter answers while no fault lasts
found : (limit : ℕ) (c : Cutter) (past : Past) (answer : Result (Option Message) CutFault) → CutsOpen limit c past
    → ((p : Past) → cutter.Stands c p → AnswersNext (cut_limit c) p p.fault answer) → Finds limit past answer
found limit c past answer x answers =
    subst (λ (l : ℕ). Finds l past answer) x.limit_is (subst (λ (t : Option CutFault). AnswersNext (cut_limit c) past t answer) x.no_fault (answers past x.stands))

-- a message that is given is the next one
record IsNext (f : Feeding) (some others : List Message) (m : Message) (new : Cutter) : Type 0 where
  left : List Message
  others_are : others ≡ m ∷ left
  cuts : CutsOpen f.node.plan.limit new (having_given f.past (some ++ m ∷ []))

next_is : (stream : ℕ) (core : NodeCore) (c new : Cutter) (f : Feeding) (m : Message) → (x : HasHeard stream f core c)
    → ((p : Past) → cutter.Stands c p → cutter.Stands new (after_next p (Ok (Some m)))) → cut_limit new ≡ cut_limit c → IsNext f x.some x.others m new
next_is stream core c new f m x after same =
    let stands : cutter.Stands new (having_given f.past (x.some ++ m ∷ [])) =
    subst (λ (g : List Message). cutter.Stands new (record { fed = f.past.fed; given = g; fault = f.past.fault })) (append_assoc f.past.given x.some (m ∷ [])) (after (having_given f.past x.some) x.cuts.stands) in
    let splits : Splits f.past.fed (cut_limit new) (f.past.given ++ f.added.messages) f.added.rest =
    subst (λ (l : ℕ). Splits f.past.fed l (f.past.given ++ f.added.messages) f.added.rest) (sym (same ∙ x.cuts.limit_is)) x.divides.splits in
    let come = given_come new (having_given f.past (x.some ++ m ∷ [])) (f.past.given ++ f.added.messages) f.added.rest stands splits in
    let all : f.past.given ++ f.added.messages ≡ f.past.given ++ ((x.some ++ m ∷ []) ++ come.0) = come.1 ∙ append_assoc f.past.given (x.some ++ m ∷ []) come.0 in
    let both : x.some ++ x.others ≡ x.some ++ (m ∷ come.0) = sym x.parts ∙ append_cancel_left f.past.given _ _ all ∙ append_assoc x.some (m ∷ []) come.0 in
    record { left = come.0; others_are = append_cancel_left x.some x.others (m ∷ come.0) both; cuts = record { stands = stands; limit_is = same ∙ x.cuts.limit_is; no_fault = x.cuts.no_fault } }

-- the next message was heard, and the stream is still open
pub one_more : (stream : ℕ) (core later : NodeCore) (c new : Cutter) (f : Feeding) (m : Message)
    → ((p : Past) → cutter.Stands c p → cutter.Stands new (after_next p (Ok (Some m)))) → cut_limit new ≡ cut_limit c
    → ((n : NodeState) → NodeStands core n → (true ≡ (hear n stream m).is_open) × NodeStands later (hear n stream m).node)
    → HasHeard stream f core c → HasHeard stream f later new
one_more stream core later c new f m after same hears x =
    let n = next_is stream core c new f m x after same in
    let y : Heard = after_some stream f x.some in
    let heard_it = hears y.node x.stands in
    let is : after_some stream f (x.some ++ m ∷ []) ≡ hear y.node stream m = hear_all-one stream x.some m (stays f.node) ∙ hear_on-open stream y m x.opens in
    record {
      some = x.some ++ m ∷ [];
      others = n.left;
      parts = x.parts ∙ (ap (λ o. x.some ++ o) n.others_are ∙ sym (append_assoc x.some (m ∷ []) n.left));
      opens = ap (λ (z : Heard). z.is_open) is ∙ sym heard_it.0;
      stands = subst (λ (z : Heard). NodeStands later z.node) (sym is) heard_it.1;
      cuts = n.cuts;
      divides = x.divides;
    }

-- all messages from one on that shuts
shut_at : (stream : ℕ) (f : Feeding) (some left : List Message) (m : Message) → f.added.messages ≡ some ++ m ∷ left → (after_some stream f some).is_open ≡ true
    → (hear (after_some stream f some).node stream m).is_open ≡ false
    → after_all stream f ≡ hear (after_some stream f some).node stream m
unfolding hear_all
shut_at stream f some left m parts opens closes =
    let x : Heard = after_some stream f some in
    let y : Heard = hear x.node stream m in
    let all : after_some stream f f.added.messages ≡ y =
    ap (after_some stream f) parts ∙ (hear_all-append stream some (m ∷ left) (stays f.node)
    ∙ (ap (hear_all stream left) (hear_on-open stream x m opens) ∙ hear_all-shut stream left y closes)) in
    ap (hear_rest stream f.added.kind) all ∙ rest-shut stream f.added.kind y closes

-- the next message was heard, and the stream is closing
pub shut : (stream : ℕ) (core later : NodeCore) (c new : Cutter) (f : Feeding) (m : Message)
    → ((p : Past) → cutter.Stands c p → cutter.Stands new (after_next p (Ok (Some m)))) → cut_limit new ≡ cut_limit c
    → ((n : NodeState) → NodeStands core n → (false ≡ (hear n stream m).is_open) × NodeStands later (hear n stream m).node)
    → HasHeard stream f core c → IsShut stream f later
shut stream core later c new f m after same hears x =
    let n = next_is stream core c new f m x after same in
    let heard_it = hears (after_some stream f x.some).node x.stands in
    let is = shut_at stream f x.some n.left m (x.parts ∙ ap (λ o. x.some ++ o) n.others_are) x.opens (sym heard_it.0) in
    record { opens = ap (λ (z : Heard). z.is_open) is ∙ sym heard_it.0; stands = subst (λ (z : Heard). NodeStands later z.node) (sym is) heard_it.1 }

-- ---- the rest

-- all messages were given, and the rest is of this kind
all_given : (stream : ℕ) (core : NodeCore) (c : Cutter) (f : Feeding) (rest : List ℕ) (kind : RestKind) → (x : HasHeard stream f core c) → Divides f.past.fed f.node.plan.limit (f.past.given ++ x.some) rest kind
    → (f.added.messages ≡ x.some) × (f.added.kind ≡ kind)
all_given stream core c f rest kind x d =
    let same = one_division f.past.fed f.node.plan.limit (f.past.given ++ f.added.messages) (f.past.given ++ x.some) f.added.rest rest x.divides.splits d.splits in
    let bytes : AllBytes f.added.rest = AllBytes-back x.divides.splits.front f.added.rest (subst AllBytes x.divides.splits.parts x.cuts.stands.bytes) in
    let kinds = one_kind f.added.rest f.node.plan.limit f.added.kind kind bytes x.divides.kind_is (subst (λ (r : List ℕ). IsRest r f.node.plan.limit kind) (sym same.1) d.kind_is) in
    (append_cancel_left f.past.given f.added.messages x.some same.0, kinds)

-- the cutter waits
pub waits : (stream : ℕ) (core : NodeCore) (c new : Cutter) (f : Feeding)
    → ((p : Past) → cutter.Stands c p → AnswersNext (cut_limit c) p p.fault (Ok None))
    → ((p : Past) → cutter.Stands c p → cutter.Stands new (after_next p (Ok None))) → cut_limit new ≡ cut_limit c
    → HasHeard stream f core c → StaysOpen stream f core new
waits stream core c new f answers after same x =
    let past : Past = having_given f.past x.some in
    let w : Waits f.node.plan.limit past = found f.node.plan.limit c past (Ok None) x.cuts answers in
    let all = all_given stream core c f w.rest waiting x w.divides in
    let is : after_all stream f ≡ after_some stream f x.some = ap (λ k. hear_rest stream k (after_some stream f f.added.messages)) all.1 ∙ ap (after_some stream f) all.0 in
    record {
      opens = ap (λ (y : Heard). y.is_open) is ∙ x.opens;
      stands = subst (λ (y : Heard). NodeStands core y.node) (sym is) x.stands;
      cuts = subst (λ (ms : List Message). CutsOpen f.node.plan.limit new (having_given f.past ms)) (sym all.0) (record { stands = after past x.cuts.stands; limit_is = same ∙ x.cuts.limit_is; no_fault = x.cuts.no_fault });
    }

lasting_fault : (limit : ℕ) (past : Past) (fault : CutFault) → fault ≢ OutOfMemory → Finds limit past (Err fault) → HasFault limit past fault
lasting_fault limit past OutOfMemory other h = absurd (other refl)
lasting_fault limit past _ other h = h

not_waiting : (k : RestKind) (before : ℕ) (fault : CutFault) → fault_of before k ≡ Some fault → k ≢ waiting
not_waiting k before fault e w = absurd (cc (ap (fault_of before) w))

-- the cutter has a fault that lasts
pub faults : (stream : ℕ) (core later : NodeCore) (c : Cutter) (f : Feeding) (fault : CutFault) → fault ≢ OutOfMemory
    → ((p : Past) → cutter.Stands c p → AnswersNext (cut_limit c) p p.fault (Err fault))
    → ((n : NodeState) → NodeStands core n → NodeStands later (after_refusal n stream))
    → HasHeard stream f core c → IsShut stream f later
faults stream core later c f fault other answers refuses x =
    let past : Past = having_given f.past x.some in
    let h : HasFault f.node.plan.limit past fault = lasting_fault _ _ fault other (found f.node.plan.limit c past (Err fault) x.cuts answers) in
    let all = all_given stream core c f h.rest h.kind x h.divides in
    let y : Heard = after_some stream f x.some in
    let is : after_all stream f ≡ shuts (after_refusal y.node stream) =
    ap (λ k. hear_rest stream k (after_some stream f f.added.messages)) all.1
    ∙ (ap (λ ms. hear_rest stream h.kind (after_some stream f ms)) all.0
    ∙ (rest-fault stream h.kind y (not_waiting h.kind _ fault h.fault_is) ∙ fault-open stream y x.opens)) in
    record { opens = ap (λ (z : Heard). z.is_open) is; stands = subst (λ (z : Heard). NodeStands later z.node) (sym is) (refuses y.node x.stands) }

-- ---- want of memory

pub not_heard : (stream : ℕ) (core later : NodeCore) (c : Cutter) (f : Feeding) → ((n : NodeState) → NodeStands core n → NodeStands later n) → HasHeard stream f core c → HeardSome stream f later
not_heard stream core later c f same x = record { some = x.some; others = x.others; parts = x.parts; opens = x.opens; stands = same (after_some stream f x.some).node x.stands }

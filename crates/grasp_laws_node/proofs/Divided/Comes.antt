-- Something comes with every input, and one thing alone.
use Rattle.std.proofs.Common.{◌≡◌, ◌≢◌, ◌<◌, ◌^◌, ◌⊎◌, inl, inr, ℕ, List, [], ◌++◌, Option, Some, None, Result, Ok, Err, refl, sym, ap, subst}
use Rattle.std.specs.Prelude.{IsSome}
use Rattle.grasp_cbor.proofs.HeadBytes.{AllBytes-append}
use Rattle.grasp_cbor.specs.Bytes.{AllBytes}
use Rattle.grasp_types.specs.declared.message.Message.{Message}
use Rattle.grasp_types.specs.declared.traffic.Input.{Input}
use Rattle.grasp_types.specs.declared.traffic.Input.TheVariants as input
use Rattle.grasp_wire.proofs.Datagrams.{forms_are_decoded}
use Rattle.grasp_wire.proofs.Dividing.{grows, one_message}
use Rattle.grasp_wire.proofs.OneAnswers.{some_answer}
use Rattle.grasp_wire.proofs.SomeDivision.{some_division}
use Rattle.grasp_wire.specs.Cutter.{Past}
use Rattle.grasp_wire.specs.One.{AnswersOne}
use Rattle.grasp_wire.specs.Stream.{Divides, waiting}
use Rattle.grasp_wire.specs.declared.fault.CutFault.TheVariants.{OutOfMemory}
use Rattle.grasp_wire.specs.declared.fault.OneFault.{OneFault}
use Rattle.grasp_wire.specs.declared.fault.OneFault.TheVariants.{Cut}
use Rattle.grasp_model_node.specs.Begin.{begin}
use Rattle.grasp_model_node.specs.Bytes.{Added, Adds, AddsOn}
use Rattle.grasp_model_node.specs.Datagrams.{Carries}
use Rattle.grasp_model_node.specs.Divided.{Waits, IsDivided, HasBytes, SomethingAlwaysComes, ReadsSame, ComingsAgree}
use Rattle.grasp_model_node.specs.Node.{NodeState}
use Rattle.grasp_model_node.specs.Step.{Coming, IsComing}
use Rattle.grasp_model_node.specs.Streams.{past_of}
use Rattle.grasp_model_node.specs.declared.plan.NodePlan.{NodePlan}
use Rattle.grasp_laws_node.proofs.Beginning.{beginnings_end}
use Rattle.grasp_laws_node.proofs.Divided.Nodes.{waits_at, begin_fed}
use Rattle.grasp_model_node.proofs.OneAddition.{agree}

-- ---- bytes

nothing : Added
nothing = record { messages = []; rest = []; kind = waiting }

adds_some : (limit : ℕ) (past : Past) (piece : List ℕ) → limit < 2 ^ 64 → Waits limit past → AllBytes piece → (a : Added) × Adds limit past piece a
adds_some limit past piece few w bytes =
    let after = some_division (past.fed ++ piece) limit few (AllBytes-append past.fed piece w.bytes bytes) in
    let grown = grows past.fed piece limit past.given after.0 w.rest after.1 w.divides.splits after.3.splits in
    (record { messages = grown.0; rest = after.1; kind = after.2 }, subst (λ (ms : List Message). Divides (past.fed ++ piece) limit ms after.1 after.2) grown.1 after.3)

adds_on : (n : NodeState) (stream : ℕ) (piece : List ℕ) → n.plan.limit < 2 ^ 64 → IsDivided n → AllBytes piece → (a : Added) × AddsOn n.plan.limit piece a (past_of n.streams stream)
adds_on n stream piece few f bytes = by_past (past_of n.streams stream) refl where
  by_past : (o : Option Past) → past_of n.streams stream ≡ o → (a : Added) × AddsOn n.plan.limit piece a o
  by_past None e = (nothing, tt)
  by_past (Some past) e = adds_some n.plan.limit past piece few (waits_at n stream past f e) bytes

-- ---- datagrams

-- what is answered by a fault other than want of memory has no form
no_form : (fault : OneFault) (m : Message) (r : Result Message OneFault) → r ≡ Err fault → r ≢ Err (Cut OutOfMemory) → (r ≡ Ok m) ⊎ (r ≡ Err (Cut OutOfMemory)) → ⊥
no_form fault m r e other (inl f) = cc
no_form fault m r e other (inr f) = other f

carries : (limit : ℕ) (bytes : List ℕ) → limit < 2 ^ 64 → AllBytes bytes → (o : Option Message) × Carries limit bytes o
carries limit bytes few b = let s = some_answer bytes limit few b in by_answer s.0 s.1 s.2 where
  by_answer : (r : Result Message OneFault) → AnswersOne bytes limit r → r ≢ Err (Cut OutOfMemory) → (o : Option Message) × Carries limit bytes o
  by_answer (Ok m) a other = (Some m, a)
  by_answer (Err fault) a other = (None, λ m form. no_form fault m (Err fault) refl other (forms_are_decoded m bytes limit (Err fault) b form a))

-- ---- something comes

comes : (n : NodeState) (i : Input) → n.plan.limit < 2 ^ 64 → IsDivided n → HasBytes i → (x : Coming) × IsComing n i x
comes n (input.Bytes stream bytes) few f b = let a = adds_on n stream bytes few f b in (record { added = a.0; carried = None }, a.1)
comes n (input.Datagram link from bytes) few f b = let c = carries n.plan.limit bytes few b in (record { added = nothing; carried = c.0 }, c.1)
comes n _ few f b = (record { added = nothing; carried = None }, tt)

pub something_always_comes : SomethingAlwaysComes
something_always_comes n now i f few b =
    let c = comes (begin n now) i (subst (λ (p : NodePlan). p.limit < 2 ^ 64) (sym (beginnings_end n now).0.plan) few) (begin_fed n now f) b in record { coming = c.0; is_coming = c.1 }

-- ---- one thing comes

one_carried : (limit : ℕ) (bytes : List ℕ) (a b : Option Message) → Carries limit bytes a → Carries limit bytes b → a ≡ b
one_carried limit bytes None None x y = refl
one_carried limit bytes None (Some m) x y = absurd (x m y)
one_carried limit bytes (Some m) None x y = absurd (y m x)
one_carried limit bytes (Some l) (Some m) x y = ap (λ (t : Message). Some t) (one_message l m bytes limit x y)

one_added : (n : NodeState) (stream : ℕ) (piece : List ℕ) (a b : Added) → IsDivided n → AllBytes piece → IsSome (past_of n.streams stream)
    → AddsOn n.plan.limit piece a (past_of n.streams stream) → AddsOn n.plan.limit piece b (past_of n.streams stream) → a ≡ b
one_added n stream piece a b f bytes some x y = by_past (past_of n.streams stream) refl some x y where
  by_past : (o : Option Past) → past_of n.streams stream ≡ o → IsSome o → AddsOn n.plan.limit piece a o → AddsOn n.plan.limit piece b o → a ≡ b
  by_past None e s x y = absurd (cc)
  by_past (Some past) e s x y = agree n.plan.limit past piece a b (waits_at n stream past f e).bytes bytes x y

reads_same : (n : NodeState) (i : Input) (a b : Coming) → IsDivided n → HasBytes i → IsComing n i a → IsComing n i b → ReadsSame n i a b
reads_same n (input.Bytes stream bytes) a b f h x y = λ some. one_added n stream bytes a.added b.added f h some x y
reads_same n (input.Datagram link from bytes) a b f h x y = one_carried n.plan.limit bytes a.carried b.carried x y
reads_same n _ a b f h x y = tt

pub comings_agree : ComingsAgree
comings_agree n now i a b f h x y = reads_same (begin n now) i a b (begin_fed n now f) h x y

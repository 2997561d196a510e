-- One that asks for a negotiation of one loop has no turn in it.
use Rattle.std.proofs.Common.{◌≡◌, ap, ◌∙◌, arith, ℕ, zero, suc, ◌<◌, ◌≤◌, ◌%◌, ◌⊎◌, inl, inr, false, Option, Some, None, Ok, refl, sym}
use Rattle.std.proofs.lemmas.Option.{same_Some}
use Rattle.grasp_laws_node.proofs.Bounded.Nodes.{begin_kept}
use Rattle.grasp_laws_node.proofs.Meaning.Acts.{poll_means_lem}
use Rattle.grasp_laws_node.specs.Means.{PollFacts}
use Rattle.grasp_laws_session.proofs.Bounds.{falls_bounded}
use Rattle.grasp_laws_session.proofs.InWords.{turns_parity}
use Rattle.grasp_laws_session.proofs.Runs.{Fits, made_fits, reached_sound}
use Rattle.grasp_model_node.specs.Begin.{begin}
use Rattle.grasp_model_node.specs.BoundedNodes.{IsBoundedNode}
use Rattle.grasp_model_node.specs.Node.{NodeState}
use Rattle.grasp_model_node.specs.SessionCalls.{after_polling}
use Rattle.grasp_model_node.specs.Step.{Coming, NodeStep}
use Rattle.grasp_session.proofs.Facts.{owned_at}
use Rattle.grasp_session.proofs.Tables.{state_slot}
use Rattle.grasp_session.specs.Conversation.{steps}
use Rattle.grasp_session.specs.Laws.{IsBounded}
use Rattle.grasp_session.specs.Messages.{Side, Near, Far, is_side}
use Rattle.grasp_session.specs.Runs.{Reached, WasMade}
use Rattle.grasp_session.specs.Sessions.{SessionState, Sessions, session_at}
use Rattle.grasp_session.specs.Transcript.{is_mine, known, outcome_of, request_of, turn_of}
use Rattle.grasp_types.specs.declared.call.Call.TheVariants as call
use Rattle.grasp_types.specs.declared.objective.Objective.{Objective}
use Rattle.grasp_types.specs.declared.reply.ApiAnswer.TheVariants as answer
use Rattle.grasp_types.specs.declared.reply.Reply.TheVariants as reply
use Rattle.grasp_types.specs.declared.session.Handle.{Handle}
use Rattle.grasp_types.specs.declared.session.Outcome.{Outcome}
use Rattle.grasp_types.specs.declared.session.Progress.TheVariants as progress
use Rattle.grasp_types.specs.declared.traffic.Input.TheVariants as input
use Rattle.grasp_laws_events.specs.Acting.{OneLoopHasNoTurn}

no_steps : (loops n : ℕ) → (0 < loops → n < loops) → (loops ≡ 0 → n ≡ 0) → loops ≤ 1 → n % 2 ≡ 0
no_steps zero n below none few = let z : n ≡ 0 = none refl in omega (arith, z)
no_steps (suc zero) n below none few = let l : n < 1 = below (omega arith) in omega (arith, l)
no_steps (suc (suc k)) n below none few = absurd (omega (arith, few))

no_turn : (z : Sessions) (x : SessionState) → Reached z → WasMade z x → x.view.role ≡ Near → (request_of x.view).loops ≤ 1 → is_mine x.view ≡ false
no_turn z x r made near few = by_fit (made_fits z x (reached_sound z r) made) where
  by_fit : Fits z.made x → is_side x.view.role (turn_of x.view) ≡ false
  by_fit f = ap (λ (s : Side). is_side s (turn_of x.view)) near ∙ ap (is_side Near) its_turn where
    bounded : IsBounded (request_of x.view).loops (known x.view)
    bounded = falls_bounded (request_of x.view).loops (known x.view) f.falls

    its_turn : turn_of x.view ≡ Far
    its_turn = (turns_parity x.view f.built).even (no_steps (request_of x.view).loops (steps (known x.view)) bounded.below bounded.none few)

two_or_few : (n : ℕ) → (2 ≤ n) ⊎ (n ≤ 1)
two_or_few zero = inr (omega arith)
two_or_few (suc zero) = inr (omega arith)
two_or_few (suc (suc n)) = inl (omega arith)

poll_tells : (n after : NodeState) (now asa : ℕ) (h : Handle) (c : Coming) (o : Objective) (x : SessionState) → IsBoundedNode n
    → NodeStep n now (input.Api asa (call.Poll h)) c (reply.Api (answer.Polled (progress.Turn o))) after → session_at (begin n now).sessions h ≡ Some x → x.view.role ≡ Near
    → 2 ≤ (request_of x.view).loops
poll_tells n after now asa h c o x bounded step at near = by_loops (two_or_few (request_of x.view).loops) where
  facts : PollFacts (begin n now) asa h (answer.Polled (progress.Turn o)) (after_polling (begin n now) h (Ok (answer.Polled (progress.Turn o))))
  facts = poll_means_lem (begin n now) asa h (answer.Polled (progress.Turn o)) step.acts.0

  same : facts.session ≡ x
  same = same_Some facts.session x (sym (owned_at asa (session_at (begin n now).sessions h) facts.session facts.holds.owned) ∙ at)

  by_outcome : (e : Option Outcome) → outcome_of facts.session.view ≡ e → is_mine facts.session.view ≡ false → ⊥
  by_outcome None is mine = absurd (let told = (facts.waiting is mine).0 in cc)
  by_outcome (Some e) is mine = absurd (let told = (facts.ended e is).0 in cc)

  by_loops : (2 ≤ (request_of x.view).loops) ⊎ ((request_of x.view).loops ≤ 1) → 2 ≤ (request_of x.view).loops
  by_loops (inl two) = two
  by_loops (inr few) =
      absurd (by_outcome (outcome_of facts.session.view) refl (ap (λ (y : SessionState). is_mine y.view) same
      ∙ no_turn (begin n now).sessions x (begin_kept n now bounded).sessions (inl (h.place, state_slot (begin n now).sessions h x at)) near few))

pub one_loop_has_no_turn : OneLoopHasNoTurn
one_loop_has_no_turn = record { views = no_turn; polls = poll_tells }

-- The agents' turns.
use Rattle.std.proofs.Common.{◌≡◌, refl, sym, ap, subst, ◌∙◌, arith, ℕ, ◌+◌, true, false, [], ◌∷◌, ◌++◌, length, Some}
use Rattle.grasp_cbor.proofs.Facts.Lists.{length_push}
use Rattle.grasp_types.specs.declared.reply.Reply.{Reply}
use Rattle.grasp_types.specs.declared.traffic.Input.{Input}
use Rattle.grasp_shared.specs.Calls.{entry, answered}
use Rattle.grasp_shared.specs.Handles.{view_of}
use Rattle.grasp_shared.specs.History.{Entry, History}
use Rattle.grasp_shared.specs.declared.shared.Pass.{Pass}
use Rattle.grasp_shared.specs.declared.shared.Shared.{Shared}
use Rattle.grasp_shared.specs.declared.view.View.{View}
use Rattle.grasp_node_main.specs.Seats.{SeatStands}
use Rattle.grasp_node_main.specs.Sharing.{HasPass, SeatGoes, Called}
use Rattle.grasp_node_main.specs.Workers.{next_input, after_turn, AreCallsOf, after_calls}
use Rattle.grasp_node_main.specs.declared.seated_agent.SeatedAgent.{SeatedAgent}
use Rattle.grasp_node_main.specs.declared.worker.Worker.{Worker}

-- ---- one agent

are_calls_more : (w : Worker) (h : History) (e : Entry) → AreCallsOf w h → e.now ≡ 0 → e.input ≡ next_input (after_calls w h) → AreCallsOf w (h ++ e ∷ [])
are_calls_more w [] e a now input = (now, input, tt)
are_calls_more w (x ∷ h) e a now input = (a.0, a.1, are_calls_more (after_turn w x.reply) h e a.2 now input)

after_calls_more : (w : Worker) (h : History) (e : Entry) → after_calls w (h ++ e ∷ []) ≡ after_turn (after_calls w h) e.reply
after_calls_more w [] e = refl
after_calls_more w (x ∷ h) e = after_calls_more (after_turn w x.reply) h e

-- one turn more, in which the agent made its next call
seat_called : (w : Worker) (s t : SeatedAgent) (own : History) (turns c : ℕ) (r : Reply) → SeatStands w own turns s → s.stopped ≡ false → t.worker ≡ after_turn s.worker r
    → SeatStands w (own ++ entry c (answered 0 (next_input s.worker) r) ∷ []) (turns + 1) t
seat_called w s t own turns c r k stays is =
    let g = k.going stays in
    let e : Entry = entry c (answered 0 (next_input s.worker) r) in
    let more : length (own ++ e ∷ []) ≡ length own + 1 = length_push own e in
    record {
      calls_are = are_calls_more w own e k.calls_are refl (ap next_input g.1);
      most = omega (arith, more, k.most);
      going = λ _. (omega (arith, more, g.0), is ∙ ap (λ x. after_turn x r) g.1 ∙ sym (after_calls_more w own e));
    }

-- one turn more, in which the agent made no call, as it has stopped
seat_stopped : (w : Worker) (s t : SeatedAgent) (own : History) (turns : ℕ) → SeatStands w own turns s → t.stopped ≡ true → SeatStands w own (turns + 1) t
seat_stopped w s t own turns k is = record { calls_are = k.calls_are; most = omega (arith, k.most); going = λ e. absurd (cc) }

-- ---- with its pass

-- no turn
pub goes_nowhere : (shared : Shared) (s : SeatedAgent) → HasPass shared s → SeatGoes shared 0 s s
goes_nowhere shared s h = record { before = h.pass; was = h.is; after = h.pass; is = h.is; own = h.own; number = refl; stands = λ w turns k. subst (λ n. SeatStands w (view_of h.pass).mine n s) (none turns) k; halts = λ e. refl } where
  none : (n : ℕ) → n ≡ n + 0
  none n = omega arith

-- one pass is in one seat
pub one_pass : (s : SeatedAgent) (p q : Pass) → s.pass ≡ Some p → s.pass ≡ Some q → p ≡ q
one_pass s p q at bt = let e : Some p ≡ Some q = sym at ∙ bt in cc

-- some turns, and then others
pub goes_on : (shared : Shared) (m n : ℕ) (a b c : SeatedAgent) → SeatGoes shared m a b → SeatGoes shared n b c → SeatGoes shared (m + n) a c
goes_on shared m n a b c p q =
    let same : p.after ≡ q.before = one_pass b p.after q.before p.is q.was in
    record {
      before = p.before;
      was = p.was;
      after = q.after;
      is = q.is;
      own = q.own;
      number = q.number ∙ sym (ap (λ (x : Pass). (view_of x).number) same) ∙ p.number;
      stands = λ w turns k.
          let sum : (turns + m) + n ≡ turns + (m + n) = omega arith in
          subst (λ t. SeatStands w (view_of q.after).mine t c) sum (q.stands w (turns + m) (subst (λ (x : Pass). SeatStands w (view_of x).mine (turns + m) b) same (p.stands w turns k)));
      halts = λ e. let stays = p.halts e in q.halts (ap (λ (s : SeatedAgent). s.stopped) stays ∙ e) ∙ stays;
    }

-- a turn of an agent that has stopped before it, or in it
pub goes_stopped : (shared : Shared) (s t : SeatedAgent) → HasPass shared s → t.pass ≡ s.pass → t.stopped ≡ true → (s.stopped ≡ true → t ≡ s) → SeatGoes shared 1 s t
goes_stopped shared s t h keeps is halts = record {
  before = h.pass;
  was = h.is;
  after = h.pass;
  is = keeps ∙ h.is;
  own = h.own;
  number = refl;
  stands = λ w turns k. seat_stopped w s t (view_of h.pass).mine turns k is;
  halts = halts;
}

-- an agent that hasn't stopped has not stopped
pub going_stopped : (s : SeatedAgent) → s.stopped ≡ false → s.stopped ≡ true → ⊥
going_stopped s a b = let e : false ≡ true = sym a ∙ b in absurd (cc)

-- a turn in which it made its next call; `m` is the agent once it is ready for it
pub goes_called : (shared : Shared) (s m t : SeatedAgent) (i : Input) → Called shared i m t → m.pass ≡ s.pass → i ≡ next_input s.worker → s.stopped ≡ false
    → ((r : Reply) → t.worker ≡ Rattle.grasp_node_main.specs.Workers.answered m.worker r → t.worker ≡ after_turn s.worker r) → SeatGoes shared 1 s t
goes_called shared s m t i c keeps is stays then =
    let v = view_of c.before in
    let e = λ (j : Input). entry v.number (answered 0 j c.reply) in
    record {
      before = c.before;
      was = sym keeps ∙ c.was;
      after = c.after;
      is = c.is;
      own = c.own;
      number = ap (λ (x : View). x.number) c.served.2;
      stands = λ w turns k.
          let made : (view_of c.after).mine ≡ v.mine ++ e (next_input s.worker) ∷ [] = ap (λ (x : View). x.mine) c.served.2 ∙ ap (λ (j : Input). v.mine ++ e j ∷ []) is in
          subst (λ (h : History). SeatStands w h (turns + 1) t) (sym made) (seat_called w s t v.mine turns v.number c.reply k stays (then c.reply c.worker));
      halts = λ e. absurd (going_stopped s stays e);
    }

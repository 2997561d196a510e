-- What a doubter asks and answers.
use Rattle.std.proofs.Common.{◌≡◌, ◌⊎◌, inl, inr, refl, sym, ap, ◌∙◌, subst, arith, tests, ℕ, zero, suc, ◌<◌, ◌&&◌, nat_lt, Bool, true, false, cond, not, List, [], ◌∷◌, ◌++◌, length, slice_get, find, Option, Some, None, is_none, Result, Ok, Err}
use Rattle.std.proofs.lemmas.Bool.{and_parts, eq-eqb, eqb-true, true≢false}
use Rattle.std.proofs.lemmas.List.Folds.{Any-from_list_any}
use Rattle.std.proofs.lemmas.Nat.{from_be_bytes-to_be_bytes_4}
use Rattle.std.proofs.lemmas.Option.{none-some, same_Some}
use Rattle.std.specs.List.{Contains, list_any}
use Rattle.grasp_agent.proofs.Reading.{prefix_again}
use Rattle.grasp_agent.specs.Replies.{answer_in, is_again, progress_in}
use Rattle.grasp_agent.specs.States.{AgentState}
use Rattle.grasp_agent.specs.Values.{offered_in, prefix_value}
use Rattle.grasp_agent.specs.declared.want.Want.{Want}
use Rattle.grasp_cbor.proofs.Facts.Numbers.{back_16}
use Rattle.grasp_doubter.specs.Asking.{after_ask, ask_reply, asking_of, fault_of_sent, is_doubtful}
use Rattle.grasp_doubter.specs.Calls.{asking_call, duty_call, next_call}
use Rattle.grasp_doubter.specs.Questions.{doubt_name, node_in, question_in, question_of, question_value, unknown_text}
use Rattle.grasp_doubter.specs.Replies.{Taken, advancing, after_ask_progress, after_asked, after_duty, after_question, after_request, after_serving, after_take, decides, is_address, may_say_never, taking}
use Rattle.grasp_doubter.specs.Seeing.{sent_address, sent_to}
use Rattle.grasp_doubter.specs.States.{DoubterState, duty_of, is_prefix, is_unasked}
use Rattle.grasp_doubter.specs.declared.asking.Ask.{Ask}
use Rattle.grasp_doubter.specs.declared.asking.AskFault.{AskFault}
use Rattle.grasp_doubter.specs.declared.asking.AskFault.TheVariants.{Busy, NotDoubtful, NotGiven}
use Rattle.grasp_doubter.specs.declared.duty.DoubtAct.{DoubtAct}
use Rattle.grasp_doubter.specs.declared.duty.DoubtDuty.{DoubtDuty}
use Rattle.grasp_doubter.specs.declared.duty.DoubtDuty.TheVariants as duty
use Rattle.grasp_doubter.specs.declared.question.Question.{Question}
use Rattle.grasp_doubter.specs.declared.seen.Sent.{Sent}
use Rattle.grasp_laws_network.proofs.Offers.{prefix_itself, same_prefix}
use Rattle.grasp_pool.proofs.Gaining.{overlap_tells}
use Rattle.grasp_pool.specs.Functions.{any_overlaps, overlap_test}
use Rattle.grasp_pool.specs.Holdings.{Holding}
use Rattle.grasp_types.specs.Address.{IsAddress, address_bytes}
use Rattle.grasp_types.specs.Prefix.{AddressBlock as Prefix, IsPrefix, Overlap}
use Rattle.grasp_types.specs.declared.address.Address.{Address}
use Rattle.grasp_types.specs.declared.address.Address.TheVariants as address
use Rattle.grasp_types.specs.declared.address.Locator.{Locator}
use Rattle.grasp_types.specs.declared.objective.Objective.{Objective}
use Rattle.grasp_types.specs.declared.reply.ApiAnswer.{ApiAnswer}
use Rattle.grasp_types.specs.declared.reply.ApiAnswer.TheVariants as answer
use Rattle.grasp_types.specs.declared.reply.Reply.{Reply}
use Rattle.grasp_types.specs.declared.reply.Reply.TheVariants as reply
use Rattle.grasp_types.specs.declared.session.By.TheVariants.{Mine, Theirs}
use Rattle.grasp_types.specs.declared.session.Handle.{Handle}
use Rattle.grasp_types.specs.declared.session.Outcome.{Outcome}
use Rattle.grasp_types.specs.declared.session.Outcome.TheVariants as outcome
use Rattle.grasp_types.specs.declared.session.Progress.{Progress}
use Rattle.grasp_types.specs.declared.session.Progress.TheVariants as progress
use Rattle.grasp_laws_events.proofs.Dialling.{any_has}
use Rattle.grasp_laws_events.proofs.Numbered.{IsFound, found_there, some_found}
use Rattle.grasp_laws_events.proofs.Scripts.{has_slice, slice_has}
use Rattle.grasp_laws_events.specs.Doubting.{AskIsAnswered, AskLeaves, AsksAreAnswered, HearsQuestions, KnowsNever, QuestionsAreAnswered, AsksHow, IsAccepted, after_end, QuestionsEnd, IsNextDuty, DoubtsAreCalled}

-- ---- what was offered, and what is in doubt

doubt_in : (ps : List Prefix) (p : Prefix) → list_any (is_prefix p) ps ≡ true → Contains ps p
doubt_in ps p e =
    let f = Any-from_list_any (is_prefix p) ps e in
    subst (λ q. Contains ps q) (sym (same_prefix p f.1 f.4)) (f.0, f.2, f.3)

no_doubt : (ps : List Prefix) (p : Prefix) → list_any (is_prefix p) ps ≡ false → ¬ Contains ps p
no_doubt ps p e h = true≢false (sym (any_has (is_prefix p) ps p h (prefix_itself p p refl)) ∙ e)

abbrev is_sent : Prefix → Sent → Bool
is_sent p x = is_prefix x.prefix p

sent_in : (ss : List Sent) (p : Prefix) (a : Address) → sent_to ss p ≡ Some a → Contains ss (record { prefix = p; address = a })
sent_in ss p a e = by_found (find (is_sent p) ss) refl e where
  by_found : (o : Option Sent) → find (is_sent p) ss ≡ o → sent_address o ≡ Some a → Contains ss (record { prefix = p; address = a })
  by_found None is f = absurd (none-some a f)
  by_found (Some x) is f = by (found_there (is_sent p) ss x is) where
    by : IsFound (is_sent p) ss x → Contains ss (record { prefix = p; address = a })
    by k =
        subst (λ (b : Address). Contains ss (record { prefix = p; address = b })) (same_Some x.address a f)
        (subst (λ (q : Prefix). Contains ss (record { prefix = q; address = x.address })) (same_prefix x.prefix p k.passes) (slice_has ss k.place x k.stands))

not_sent : (ss : List Sent) (p : Prefix) (a : Address) → sent_to ss p ≡ None → ¬ Contains ss (record { prefix = p; address = a })
not_sent ss p a e h = by (some_found (is_sent p) ss h.0 (record { prefix = p; address = a }) (has_slice ss (record { prefix = p; address = a }) h) (prefix_itself p p refl)) where
  by : (x : Sent) × (find (is_sent p) ss ≡ Some x) → ⊥
  by (x, found) = none-some x.address (sym e ∙ ap sent_address found)

-- ---- a question

ask_means : (d : DoubterState) (h : Holding) (p : Prefix) → AskIsAnswered d h p (ask_reply d h p)
ask_means d h p = by_ask d.ask where
  by_sent : (o : Option Address) → sent_to d.offered p ≡ o → Contains h.doubtful p → AskIsAnswered (record d { ask = None }) h p (fault_of_sent o)
  by_sent None e doubtful = (refl, doubtful, λ w. not_sent d.offered p w.0 e w.1)
  by_sent (Some a) e doubtful = (refl, doubtful, (a, sent_in d.offered p a e))

  by_doubt : (b : Bool) → is_doubtful h p ≡ b → AskIsAnswered (record d { ask = None }) h p (cond b (fault_of_sent (sent_to d.offered p)) (Err NotDoubtful))
  by_doubt true e = by_sent (sent_to d.offered p) refl (doubt_in h.doubtful p e)
  by_doubt false e = (refl, no_doubt h.doubtful p e)

  by_ask : (o : Option Ask) → AskIsAnswered (record d { ask = o }) h p (ask_reply (record d { ask = o }) h p)
  by_ask None = by_doubt (is_doubtful h p) refl
  by_ask (Some k) = (k, refl, refl)

-- two answers that hold are one
one_answer : (d : DoubterState) (h : Holding) (p : Prefix) (x y : Result (Unit {0}) AskFault) → AskIsAnswered d h p x → AskIsAnswered d h p y → x ≡ y
one_answer d h p (Ok a) (Ok b) f g = refl
one_answer d h p (Ok a) (Err (Busy q)) f g = absurd (none-some g.0 (sym f.0 ∙ g.1))
one_answer d h p (Ok a) (Err NotDoubtful) f g = absurd (g.1 f.1)
one_answer d h p (Ok a) (Err NotGiven) f g = absurd (g.2 f.2)
one_answer d h p (Err (Busy q)) (Ok b) f g = absurd (none-some f.0 (sym g.0 ∙ f.1))
one_answer d h p (Err (Busy q)) (Err (Busy r)) f g = ap (λ z. Err (Busy z)) (sym f.2 ∙ (ap (λ (k : Ask). k.prefix) (same_Some f.0 g.0 (sym f.1 ∙ g.1)) ∙ g.2))
one_answer d h p (Err (Busy q)) (Err NotDoubtful) f g = absurd (none-some f.0 (sym g.0 ∙ f.1))
one_answer d h p (Err (Busy q)) (Err NotGiven) f g = absurd (none-some f.0 (sym g.0 ∙ f.1))
one_answer d h p (Err NotDoubtful) (Ok b) f g = absurd (f.1 g.1)
one_answer d h p (Err NotDoubtful) (Err (Busy r)) f g = absurd (none-some g.0 (sym f.0 ∙ g.1))
one_answer d h p (Err NotDoubtful) (Err NotDoubtful) f g = refl
one_answer d h p (Err NotDoubtful) (Err NotGiven) f g = absurd (f.1 g.1)
one_answer d h p (Err NotGiven) (Ok b) f g = absurd (f.2 g.2)
one_answer d h p (Err NotGiven) (Err (Busy r)) f g = absurd (none-some g.0 (sym f.0 ∙ g.1))
one_answer d h p (Err NotGiven) (Err NotDoubtful) f g = absurd (g.1 f.1)
one_answer d h p (Err NotGiven) (Err NotGiven) f g = refl

ask_leaves : (d : DoubterState) (h : Holding) (p : Prefix) (peer : Locator) (x : Result (Unit {0}) AskFault) → AskIsAnswered d h p x → AskLeaves d (after_ask d p peer x) p peer x
ask_leaves d h p peer (Err fault) f = refl
ask_leaves d h p peer (Ok done) f = by (sent_to d.offered p) refl where
  by : (o : Option Address) → sent_to d.offered p ≡ o → AskLeaves d (asking_of d p peer o) p peer (Ok done)
  by None e = absurd (not_sent d.offered p f.2.0 e f.2.1)
  by (Some a) e = (a, sent_in d.offered p a e, refl)

leaves : (d : DoubterState) (h : Holding) (p : Prefix) (peer : Locator) → AskLeaves d (after_ask d p peer (ask_reply d h p)) p peer (ask_reply d h p)
leaves d h p peer = ask_leaves d h p peer (ask_reply d h p) (ask_means d h p)

pub asks_are_answered : AsksAreAnswered
asks_are_answered d h p = (λ x. (λ e. subst (AskIsAnswered d h p) e (ask_means d h p), λ f. one_answer d h p (ask_reply d h p) x (ask_means d h p) f), λ peer. leaves d h p peer)

-- ---- what is decided

none_overlaps : (qs : List Prefix) (p : Prefix) → any_overlaps qs p ≡ false → (i : ℕ) (q : Prefix) → slice_get qs i ≡ Some q → ¬ Overlap q p
unfolding any_overlaps
none_overlaps [] p e i q at over = none-some q at
none_overlaps (x ∷ qs) p e i q at over = by (overlap_tells x p) i at (λ f j a. none_overlaps qs p f j q a over) where
  by : ((overlap_test x p ≡ true) × Overlap x p) ⊎ ((overlap_test x p ≡ false) × (¬ Overlap x p)) → (i : ℕ) → slice_get (x ∷ qs) i ≡ Some q
      → (any_overlaps qs p ≡ false → (j : ℕ) → slice_get qs j ≡ Some q → ⊥) → ⊥
  by (inl t) i a more = true≢false (sym (ap (λ b. cond b true (any_overlaps qs p)) t.0) ∙ e)
  by (inr f) zero a more = f.1 (subst (λ (y : Prefix). Overlap y p) (sym (same_Some x q a)) over)
  by (inr f) (suc i) a more = more (sym (ap (λ b. cond b true (any_overlaps qs p)) f.0) ∙ e) i a

no_overlap : (qs : List Prefix) (p : Prefix) → ((i : ℕ) (q : Prefix) → slice_get qs i ≡ Some q → ¬ Overlap q p) → any_overlaps qs p ≡ false
unfolding any_overlaps
no_overlap [] p none = refl
no_overlap (x ∷ qs) p none = by (overlap_tells x p) (no_overlap qs p (λ i q a. none (suc i) q a)) where
  by : ((overlap_test x p ≡ true) × Overlap x p) ⊎ ((overlap_test x p ≡ false) × (¬ Overlap x p)) → any_overlaps qs p ≡ false
      → cond (overlap_test x p) true (any_overlaps qs p) ≡ false
  by (inl t) rest = absurd (none 0 x refl t.1)
  by (inr f) rest = ap (λ b. cond b true (any_overlaps qs p)) f.0 ∙ rest

address_is : (a b : Address) → is_address a b ≡ true → a ≡ b
address_is (address.V4 m) (address.V4 n) e = ap address.V4 (eqb-true m n e)
address_is (address.V6 m) (address.V6 n) e = ap address.V6 (eqb-true m n e)
address_is (address.V4 m) (address.V6 n) e = absurd (true≢false (sym e))
address_is (address.V6 m) (address.V4 n) e = absurd (true≢false (sym e))

address_itself : (a : Address) → is_address a a ≡ true
address_itself (address.V4 n) = eq-eqb n n refl
address_itself (address.V6 n) = eq-eqb n n refl

want_none : (w : Option Want) → is_none w ≡ true → w ≡ None
want_none None e = refl
want_none (Some x) e = absurd (true≢false (sym e))

not_true : (b : Bool) → not b ≡ true → b ≡ false
not_true false e = refl
not_true true e = absurd (true≢false (sym e))

knows : (d : DoubterState) (s : AgentState) (q : Question) → may_say_never d s q ≡ true → KnowsNever d s q
knows d s q e =
    let f = and_parts (is_address q.address d.address && not d.lost && is_none s.want) (not (any_overlaps d.accepted q.prefix)) e in
    let g = and_parts (is_address q.address d.address && not d.lost) (is_none s.want) f.0 in
    let h = and_parts (is_address q.address d.address) (not d.lost) g.0 in
    record {
      own = address_is q.address d.address h.0;
      counted = not_true d.lost h.1;
      apart = λ p c over. none_overlaps d.accepted q.prefix (not_true (any_overlaps d.accepted q.prefix) f.1) c.0 p (has_slice d.accepted p c) over;
      idle = want_none s.want g.1;
    }

all_true : (a b c e : Bool) → a ≡ true → b ≡ false → c ≡ true → e ≡ false → (a && not b && c && not e) ≡ true
all_true true false true false f g h k = refl
all_true false b c e f g h k = absurd (true≢false (sym f))
all_true true true c e f g h k = absurd (true≢false g)
all_true true false false e f g h k = absurd (true≢false (sym h))
all_true true false true true f g h k = absurd (true≢false k)

says : (d : DoubterState) (s : AgentState) (q : Question) → KnowsNever d s q → may_say_never d s q ≡ true
says d s q k =
    all_true (is_address q.address d.address) d.lost (is_none s.want) (any_overlaps d.accepted q.prefix)
    (ap (is_address q.address) (sym k.own) ∙ address_itself q.address) k.counted (ap is_none k.idle)
    (no_overlap d.accepted q.prefix (λ i p at over. k.apart p (slice_has d.accepted i p at) over))

room_is : (a b : ℕ) → a < b → nat_lt a b ≡ true
room_is a b l = grind (arith, tests)

-- what the doubter does then
hearing_does : (d : DoubterState) (s : AgentState) (h : Handle) (from : Address) (o : Objective) (x : Option Question) → HearsQuestions d → question_in o.value ≡ x
    → (after_take d s (reply.Api (answer.Incoming h from o))).after.act ≡ Some (record { handle = h; accepts = decides d s x })
unfolding after_take
hearing_does d s h from o x hears is =
    ap (λ a. (after_serving d s a r).after.act) hears.idle
    ∙ (ap (λ b. (cond b (taking (after_request d r)) (advancing (after_duty d s (duty_of d) r))).after.act) hears.asked
    ∙ (ap (λ y. (advancing (after_duty d s y r)).after.act) hears.listens
    ∙ (ap (λ q. (after_question d s h q).act) is
    ∙ ap (λ b. (cond b (record d { answering = d.answering ++ h ∷ []; act = Some (record { handle = h; accepts = decides d s x }) }) d).act)
    (room_is (length d.answering) 64 hears.room))))
  where
    r : Reply
    r = reply.Api (answer.Incoming h from o)

-- ---- what is read

node_again : (a : Address) → IsAddress a → node_in (Some (address_bytes a)) ≡ Some a
node_again (address.V4 n) h = ap (λ k. Some (address.V4 k)) (from_be_bytes-to_be_bytes_4 n h)
node_again (address.V6 n) h = ap (λ k. Some (address.V6 k)) (back_16 n h)

question_again : (a : Address) (p : Prefix) → IsAddress a → IsPrefix p.address p.length → question_in (Some (question_value a p)) ≡ Some (record { address = a; prefix = p })
unfolding question_in offered_in
question_again a p h v = ap (λ o. question_of o (offered_in (Some (prefix_value p)))) (node_again a h) ∙ ap (λ o. question_of (Some a) o) (prefix_again p v)

pub questions_are_answered : QuestionsAreAnswered
questions_are_answered = record {
  decided = λ d s h from o q hears is. (may_say_never d s q, hearing_does d s h from o (Some q) hears is, (knows d s q, says d s q));
  strange = λ d s h from o hears is. hearing_does d s h from o None hears is;
  read = question_again;
}

-- ---- how a question ends

ends_so : (d : DoubterState) (s : AgentState) (k : Ask) (h : Handle) (e : Outcome) → AsksHow d k h → after_end d s e ≡ advancing (after_asked d k e)
unfolding after_take
ends_so d s k h e a =
    ap (λ o. after_serving d s o r) a.idle
    ∙ (ap (λ b. cond b (taking (after_request d r)) (advancing (after_duty d s (duty_of d) r))) unasked
    ∙ (ap (λ x. advancing (after_duty d s x r)) a.duty ∙ ap (λ o. advancing (after_ask_progress d o (Some (progress.Ended e)))) a.asked))
  where
    r : Reply
    r = reply.Api (answer.Polled (progress.Ended e))

    by_session : (o : Option Handle) → o ≡ Some h → is_unasked (Some (record k { session = o })) ≡ false
    by_session None is = absurd (none-some h is)
    by_session (Some j) is = refl

    unasked : is_unasked d.ask ≡ false
    unasked = ap is_unasked a.asked ∙ by_session k.session a.session

settles : (d : DoubterState) (s : AgentState) (k : Ask) (h : Handle) (e : Outcome) → AsksHow d k h → IsAccepted e → ((after_end d s e).settled ≡ Some k.prefix) × ((after_end d s e).after.ask ≡ None)
settles d s k h (outcome.Agreed Theirs o) a is =
    let so = ends_so d s k h (outcome.Agreed Theirs o) a in (ap (λ (t : Taken). t.settled) so, ap (λ (t : Taken). t.after.ask) so)
settles d s k h _ a is = absurd is

leaves_it : (d : DoubterState) (s : AgentState) (k : Ask) (h : Handle) (e : Outcome) → AsksHow d k h → ¬ IsAccepted e → ((after_end d s e).settled ≡ None) × ((after_end d s e).after.ask ≡ None)
leaves_it d s k h (outcome.Agreed Theirs o) a isnt = absurd (isnt tt)
leaves_it d s k h (outcome.Agreed Mine o) a isnt =
    let so = ends_so d s k h (outcome.Agreed Mine o) a in (ap (λ (t : Taken). t.settled) so, ap (λ (t : Taken). t.after.ask) so)
leaves_it d s k h (outcome.Declined by reason) a isnt =
    let so = ends_so d s k h (outcome.Declined by reason) a in (ap (λ (t : Taken). t.settled) so, ap (λ (t : Taken). t.after.ask) so)
leaves_it d s k h (outcome.Synchronized o) a isnt =
    let so = ends_so d s k h (outcome.Synchronized o) a in (ap (λ (t : Taken). t.settled) so, ap (λ (t : Taken). t.after.ask) so)
leaves_it d s k h (outcome.TimedOut deadline now) a isnt =
    let so = ends_so d s k h (outcome.TimedOut deadline now) a in (ap (λ (t : Taken). t.settled) so, ap (λ (t : Taken). t.after.ask) so)
leaves_it d s k h outcome.Broken a isnt =
    let so = ends_so d s k h outcome.Broken a in (ap (λ (t : Taken). t.settled) so, ap (λ (t : Taken). t.after.ask) so)
leaves_it d s k h outcome.OutOfMemory a isnt =
    let so = ends_so d s k h outcome.OutOfMemory a in (ap (λ (t : Taken). t.settled) so, ap (λ (t : Taken). t.after.ask) so)
leaves_it d s k h (outcome.Invalid by) a isnt =
    let so = ends_so d s k h (outcome.Invalid by) a in (ap (λ (t : Taken). t.settled) so, ap (λ (t : Taken). t.after.ask) so)

-- how a session stands is told by a poll
polled_is : (a : ApiAnswer) (q : Progress) → progress_in (Some a) ≡ Some q → a ≡ answer.Polled q
polled_is (answer.Polled p) q e = ap answer.Polled (same_Some p q e)
polled_is _ q e = absurd (none-some q e)

told_is : (r : Reply) (q : Progress) → progress_in (answer_in r) ≡ Some q → r ≡ reply.Api (answer.Polled q)
told_is (reply.Api a) q e = ap reply.Api (polled_is a q e)
told_is _ q e = absurd (none-some q e)

-- the question and the end of its session
abbrev EndsIt : DoubterState → Reply → Prefix → Type 0
EndsIt d r p = (k : Ask) × (d.ask ≡ Some k) × (k.prefix ≡ p) × ((e : Outcome) × (r ≡ reply.Api (answer.Polled (progress.Ended e))) × IsAccepted e)

by_end : (d : DoubterState) (r : Reply) (p : Prefix) (k : Ask) (e : Outcome) → d.ask ≡ Some k → progress_in (answer_in r) ≡ Some (progress.Ended e) → (after_asked d k e).settled ≡ Some p → EndsIt d r p
by_end d r p k (outcome.Agreed Theirs o) asked told f = (k, asked, same_Some k.prefix p f, (outcome.Agreed Theirs o, told_is r (progress.Ended (outcome.Agreed Theirs o)) told, tt))
by_end d r p k (outcome.Agreed Mine o) asked told f = absurd (none-some p f)
by_end d r p k _ asked told f = absurd (none-some p f)

by_progress : (d : DoubterState) (r : Reply) (p : Prefix) (k : Ask) (q : Option Progress) → d.ask ≡ Some k → progress_in (answer_in r) ≡ q → (after_ask_progress d (Some k) q).settled ≡ Some p → EndsIt d r p
by_progress d r p k None asked told f = absurd (none-some p f)
by_progress d r p k (Some (progress.Ended e)) asked told f = by_end d r p k e asked told f
by_progress d r p k (Some _) asked told f = absurd (none-some p f)

by_ask : (d : DoubterState) (r : Reply) (p : Prefix) (o : Option Ask) → d.ask ≡ o → (after_ask_progress d o (progress_in (answer_in r))).settled ≡ Some p → EndsIt d r p
by_ask d r p None asked f = absurd (none-some p f)
by_ask d r p (Some k) asked f = by_progress d r p k (progress_in (answer_in r)) asked refl f

by_duty : (d : DoubterState) (s : AgentState) (r : Reply) (p : Prefix) (x : DoubtDuty) → (advancing (after_duty d s x r)).settled ≡ Some p → EndsIt d r p
by_duty d s r p duty.Listen f = absurd (none-some p f)
by_duty d s r p (duty.Ask h) f = by_ask d r p d.ask refl f
by_duty d s r p (duty.Answer place h) f = absurd (none-some p f)

only_ends : (d : DoubterState) (s : AgentState) (r : Reply) (p : Prefix) → (after_take d s r).settled ≡ Some p → EndsIt d r p
unfolding after_take
only_ends d s r p e = by_again (is_again r) e where
  by_unasked : (b : Bool) → (cond b (taking (after_request d r)) (advancing (after_duty d s (duty_of d) r))).settled ≡ Some p → EndsIt d r p
  by_unasked true f = absurd (none-some p f)
  by_unasked false f = by_duty d s r p (duty_of d) f

  by_act : (o : Option DoubtAct) → (after_serving d s o r).settled ≡ Some p → EndsIt d r p
  by_act (Some a) f = absurd (none-some p f)
  by_act None f = by_unasked (is_unasked d.ask) f

  by_again : (b : Bool) → (cond b (taking d) (after_serving d s d.act r)).settled ≡ Some p → EndsIt d r p
  by_again true f = absurd (none-some p f)
  by_again false f = by_act d.act f

pub questions_end : QuestionsEnd
questions_end = record { settles = settles; leaves = leaves_it; only = only_ends }

-- ---- calls

asking_duty : (o : Option Ask) (x : DoubtDuty) → is_unasked o ≡ false → asking_call o x ≡ duty_call x
asking_duty None x asked = refl
asking_duty (Some k) x asked = by k.session refl where
  by : (o : Option Handle) → k.session ≡ o → asking_call (Some k) x ≡ duty_call x
  by None e = absurd (true≢false (sym (unasked e) ∙ asked)) where
    unasked : k.session ≡ None → is_unasked (Some k) ≡ true
    unasked e = rw e refl
  by (Some h) e = rw e refl

duty_is_called : (d : DoubterState) (x : DoubtDuty) → IsNextDuty d x → next_call d ≡ duty_call x
unfolding next_call
duty_is_called d x n = rw n.idle (asking_duty d.ask (duty_of d) n.asked ∙ ap duty_call n.duty)

pub doubts_are_called : DoubtsAreCalled
unfolding next_call doubt_name unknown_text
doubts_are_called = record {
  never = λ d h is. rw is refl;
  unknown = λ d h is. rw is refl;
  asks = λ d k idle is new. rw (idle, is, new) refl;
  listens = λ d n. duty_is_called d duty.Listen n;
  polls = λ d h n. duty_is_called d (duty.Ask h) n;
  polls_answered = λ d place h n. duty_is_called d (duty.Answer place h) n;
}

-- A talk is legal exactly where it is the beginning of a whole one.
use Rattle.std.proofs.Common.{◌≡◌, ℕ, ◌+◌, ◌≤◌, true, false, List, [], ◌∷◌, ◌++◌, length, map, reverse, ◌↔◌, refl, sym, ap, ◌∙◌, subst, arith, append_assoc}
use Rattle.std.proofs.lemmas.Grind.{reverse_onto}
use Rattle.std.proofs.lemmas.List.{append-nil}
use Rattle.std.proofs.lemmas.Bool.{false≢true, true≢false}
use Rattle.grasp_session.specs.Messages.{Side, Near, Far, other, no_objective}
use Rattle.grasp_types.specs.declared.objective.Objective.{Objective}
use Rattle.grasp_types.specs.declared.message.Verdict.TheVariants.{Accept}
use Rattle.grasp_types.specs.declared.message.Message.{Message}
use Rattle.grasp_types.specs.declared.message.Message.TheVariants.{ReqNeg, Negotiate, Wait, End, Invalid}
use Rattle.grasp_session.specs.Conversation.{Said, says, begun, ended, turn, waits, number, requested, newest_offer, Going, MayFollow, IsLegal}
use Rattle.grasp_session.specs.Grammar.{Closes, Close, Stepped, Ended, Turn, close_said, turns_said, AreTurns, IsWord, IsPrefixOfWord}
use Rattle.grasp_laws_session.proofs.Follows.{not_begun}

-- xs from its end, put before ys
abbrev pub turned : List Said → List Said → List Said
turned [] ys = ys
turned (x ∷ xs) ys = turned xs (x ∷ ys)

pub turned_is : (xs ys : List Said) → turned xs ys ≡ reverse xs ++ ys
turned_is [] ys = refl
turned_is (x ∷ xs) ys = turned_is xs (x ∷ ys) ∙ (sym (append_assoc (reverse xs) (x ∷ []) ys) ∙ ap (λ (l : List Said). l ++ ys) (sym (reverse_onto xs x [])))

-- from a legal talk to a word
few_on : (s : Side) (m : Message) (c : List Said) → MayFollow c (says s m) → waits c ≤ 4 → waits (says s m ∷ c) ≤ 4
few_on s (ReqNeg n o) c f h = omega arith
few_on s (Negotiate n o) c f h = omega arith
few_on s (Wait n t) c f h = omega (arith, f.1)
few_on s (End n v) c f h = h
few_on s (Invalid n d) c f h = absurd f
few_on s m c f h = absurd f

few_waits : (c : List Said) → IsLegal c → waits c ≤ 4
few_waits [] l = omega arith
few_waits (x ∷ c) l = few_on x.side x.message c l.0 (few_waits c l.1)

-- what is said in the rest of a turn, and in the turns after it
abbrev rest_said : List Said → List ℕ → Close → List Turn → List Said
rest_said c ws close ts = map (λ m. says (turn c) (Wait (number c) m)) ws ++ (close_said (turn c) (number c) close ∷ turns_said (other (turn c)) (number c) ts)

record Rest (c : List Said) (ws : List ℕ) (close : Close) (ts : List Turn) : Type 0 where
  few : length ws + waits c ≤ 4
  closes : Closes (requested c) (newest_offer c).loops ts (λ k. AreTurns (requested c) k ts) close

abbrev Completes : List Said → Type 0
Completes c = (ws : List ℕ) (close : Close) (ts : List Turn) → begun c ≡ true → ended c ≡ false → Rest c ws close ts → IsWord (turned c (rest_said c ws close ts))

says_eq : (s t : Side) (n k : ℕ) (f : ℕ → Message) → s ≡ t → n ≡ k → says s (f n) ≡ says t (f k)
says_eq s t n k f e h = cc

word_on : (s : Side) (m : Message) (c : List Said) → MayFollow c (says s m) → IsLegal c → Completes c → Completes (says s m ∷ c)
word_on s (ReqNeg n o) c f l h ws close ts b e r =
    let empty : c ≡ [] = not_begun c f.0 in
    subst (λ (d : List Said). IsWord (turned d (says s (ReqNeg n o) ∷ rest_said (says s (ReqNeg n o) ∷ c) ws close ts))) (sym empty)
    (record {
      session = n;
      request = o;
      turns = record { waited = ws; close = close } ∷ ts;
      are_turns = (omega (arith, r.few), r.closes);
      spelled = ap (λ (z : Side). says z (ReqNeg n o) ∷ rest_said (says s (ReqNeg n o) ∷ c) ws close ts) f.1;
    })
word_on s (Negotiate n o) c f l h ws close ts b e r =
    let same : says s (Negotiate n o) ≡ says (turn c) (Negotiate (number c) o) = says_eq s (turn c) n (number c) (λ k. Negotiate k o) f.0.in_turn f.0.same_number in
    let w : IsWord (turned c (rest_said c [] (Stepped o) (record { waited = ws; close = close } ∷ ts))) = h [] (Stepped o) (record { waited = ws; close = close } ∷ ts) f.0.has_begun f.0.no_end
    (record { few = omega (arith, few_waits c l); closes = (f.1.name, f.1.flags, f.1.lower, f.1.some_left, (omega (arith, r.few), r.closes)) }) in
    subst (λ (x : Said). IsWord (turned c (x ∷ rest_said (says s (Negotiate n o) ∷ c) ws close ts))) (sym same) w
word_on s (Wait n t) c f l h ws close ts b e r =
    let same : says s (Wait n t) ≡ says (turn c) (Wait (number c) t) = says_eq s (turn c) n (number c) (λ k. Wait k t) f.0.in_turn f.0.same_number in
    let w : IsWord (turned c (rest_said c (t ∷ ws) close ts)) = h (t ∷ ws) close ts f.0.has_begun f.0.no_end (record { few = omega (arith, r.few); closes = r.closes }) in
    subst (λ (x : Said). IsWord (turned c (x ∷ rest_said (says s (Wait n t) ∷ c) ws close ts))) (sym same) w
word_on s (End n v) c f l h ws close ts b e r = absurd (true≢false e)
word_on s (Invalid n d) c f l h ws close ts b e r = absurd f
word_on s m c f l h ws close ts b e r = absurd f

completes : (c : List Said) → IsLegal c → Completes c
completes [] l ws close ts b e r = absurd (false≢true b)
completes (x ∷ c) l ws close ts b e r = word_on x.side x.message c l.0 l.1 (completes c l.1) ws close ts b e r

abbrev Extends : List Said → Type 0
Extends c = (rest : List Said) × IsWord (turned c rest)

goes_on : (x : Said) (c : List Said) → IsLegal (x ∷ c) → ended (x ∷ c) ≡ false → Extends (x ∷ c)
goes_on x c l e = (rest_said (x ∷ c) [] (Ended Accept) [], completes (x ∷ c) l [] (Ended Accept) [] refl e (record { few = omega (arith, few_waits (x ∷ c) l); closes = refl }))

word_at : (s : Side) (m : Message) (c : List Said) → MayFollow c (says s m) → IsLegal c → Extends (says s m ∷ c)
word_at s (ReqNeg n o) c f l = goes_on (says s (ReqNeg n o)) c (f, l) refl
word_at s (Negotiate n o) c f l = goes_on (says s (Negotiate n o)) c (f, l) refl
word_at s (Wait n t) c f l = goes_on (says s (Wait n t)) c (f, l) refl
word_at s (End n v) c f l =
    let same : says s (End n v) ≡ says (turn c) (End (number c) v) = says_eq s (turn c) n (number c) (λ k. End k v) f.in_turn f.same_number in (
      [],
      subst (λ (x : Said). IsWord (turned c (x ∷ []))) (sym same)
          (completes c l [] (Ended v) [] f.has_begun f.no_end (record { few = omega (arith, few_waits c l); closes = refl })),
    )
word_at s (Invalid n d) c f l = absurd f
word_at s m c f l = absurd f

extends : (c : List Said) → IsLegal c → Extends c
extends [] l = (says Near (ReqNeg 0 no_objective) ∷ [], record { session = 0; request = no_objective; turns = []; are_turns = tt; spelled = refl })
extends (x ∷ c) l = word_at x.side x.message c l.0 l.1

legal_prefix : (c : List Said) → IsLegal c → IsPrefixOfWord (reverse c)
legal_prefix c l = let w = extends c l in (w.0, subst IsWord (turned_is c w.0) w.1)

-- from a word to a legal talk
record Stands (acc : List Said) (side : Side) (n : ℕ) (request : Objective) (loops : ℕ) : Type 0 where
  legal : IsLegal acc
  has_begun : begun acc ≡ true
  no_end : ended acc ≡ false
  in_turn : side ≡ turn acc
  same_number : n ≡ number acc
  same_request : request ≡ requested acc
  same_loops : loops ≡ (newest_offer acc).loops

going : (acc : List Said) (side : Side) (n : ℕ) (request : Objective) (loops : ℕ) → Stands acc side n request loops → Going acc side n
going acc side n request loops s = record { has_begun = s.has_begun; no_end = s.no_end; in_turn = s.in_turn; same_number = s.same_number }

after_waits : (ws : List ℕ) (l acc : List Said) (side : Side) (n : ℕ) (request : Objective) (loops : ℕ) → Stands acc side n request loops → length ws + waits acc ≤ 4
    → ((acc' : List Said) → Stands acc' side n request loops → IsLegal (turned l acc')) → IsLegal (turned (map (λ m. says side (Wait n m)) ws ++ l) acc)
after_waits [] l acc side n request loops s few k = k acc s
after_waits (t ∷ ws) l acc side n request loops s few k =
    after_waits ws l (says side (Wait n t) ∷ acc) side n request loops
    (record { legal = ((going acc side n request loops s, omega (arith, few)), s.legal); has_begun = refl; no_end = refl; in_turn = s.in_turn; same_number = s.same_number; same_request = s.same_request; same_loops = s.same_loops })
    (omega (arith, few)) k

after_close : (close : Close) (ts : List Turn) (acc : List Said) (side : Side) (n : ℕ) (request : Objective) (loops : ℕ) → Stands acc side n request loops
    → Closes request loops ts (λ k. AreTurns request k ts) close
    → ((acc' : List Said) (loops' : ℕ) → waits acc' ≡ 0 → Stands acc' (other side) n request loops' → AreTurns request loops' ts → IsLegal (turned (turns_said (other side) n ts) acc'))
    → IsLegal (turned (close_said side n close ∷ turns_said (other side) n ts) acc)
after_close (Stepped o) ts acc side n request loops s h k =
    k (says side (Negotiate n o) ∷ acc) o.loops refl
    (record {
      legal = ((going acc side n request loops s, record { name = h.0 ∙ ap (λ (r : Objective). r.name) s.same_request; flags = h.1 ∙ ap (λ (r : Objective). r.flags) s.same_request; lower = h.2 ∙ s.same_loops; some_left = h.3 }), s.legal);
      has_begun = refl;
      no_end = refl;
      in_turn = ap other s.in_turn;
      same_number = s.same_number;
      same_request = s.same_request;
      same_loops = refl;
    }) h.4
after_close (Ended v) ts acc side n request loops s h k =
    subst (λ (us : List Turn). IsLegal (turned (turns_said (other side) n us) (says side (End n v) ∷ acc))) (sym h) (going acc side n request loops s, s.legal)

after_turns : (ts : List Turn) (acc : List Said) (side : Side) (n : ℕ) (request : Objective) (loops : ℕ) → waits acc ≡ 0 → Stands acc side n request loops → AreTurns request loops ts
    → IsLegal (turned (turns_said side n ts) acc)
after_turns [] acc side n request loops z s h = s.legal
after_turns (t ∷ ts) acc side n request loops z s h =
    after_waits t.waited (close_said side n t.close ∷ turns_said (other side) n ts) acc side n request loops s (omega (arith, h.0, z))
    (λ acc' s'. after_close t.close ts acc' side n request loops s' h.1 (λ acc'' loops' z' s'' h'. after_turns ts acc'' (other side) n request loops' z' s'' h'))

word_legal : (w : List Said) → IsWord w → IsLegal (turned w [])
word_legal w h =
    subst (λ (l : List Said). IsLegal (turned l [])) (sym h.spelled)
    (after_turns h.turns (says Near (ReqNeg h.session h.request) ∷ []) Far h.session h.request h.request.loops refl
    (record { legal = ((refl, refl), tt); has_begun = refl; no_end = refl; in_turn = refl; same_number = refl; same_request = refl; same_loops = refl }) h.are_turns)

turned_twice : (c r acc : List Said) → turned (turned c r) acc ≡ turned r (c ++ acc)
turned_twice [] r acc = refl
turned_twice (x ∷ c) r acc = turned_twice c (x ∷ r) acc

legal_front : (r c : List Said) → IsLegal (turned r c) → IsLegal c
legal_front [] c l = l
legal_front (x ∷ r) c l = (legal_front r (x ∷ c) l).1

prefix_legal : (c : List Said) → IsPrefixOfWord (reverse c) → IsLegal c
prefix_legal c h =
    let w : IsWord (turned c h.0) = subst IsWord (sym (turned_is c h.0)) h.1 in
    legal_front h.0 c (subst (λ (d : List Said). IsLegal (turned h.0 d)) (append-nil c) (subst IsLegal (turned_twice c h.0 []) (word_legal (turned c h.0) w)))

pub legal_is_word : (c : List Said) → IsLegal c ↔ IsPrefixOfWord (reverse c)
legal_is_word c = (legal_prefix c, prefix_legal c)
